-- What the sections of a file hold.
use Rattle.std.specs.Prelude.{ℕ, ◌+◌, List}
use Rattle.id_names.specs.RisingNames.{RisingNames, ids_by_number}
use Rattle.file_laws.specs.Contents.{Contents}
use Rattle.file_laws.specs.Layout.{counts_in, section, bits_at, fields_at}

-- the names in the sections behind this number
unfoldable pub names_at : List ℕ → ℕ → RisingNames
names_at words number =
    record {
      high = bits_at words (number + 1);
      lows = fields_at words (number + 3);
      low = (section (counts_in words) (number + 3)).width;
      places = fields_at words (number + 4);
      marks = bits_at words (number + 5);
      back = fields_at words (number + 7);
    }

-- their ids, by number
unfoldable pub ids_at : List ℕ → ℕ → List ℕ
ids_at words number = ids_by_number (names_at words number)

-- what the sections of these words hold
unfoldable pub contents_of : List ℕ → Contents
contents_of words =
    record {
      code = record { a = bits_at words 1; tree = bits_at words 3; dual = bits_at words 6; starts = fields_at words 9 };
      forward = bits_at words 10;
      nodes = ids_at words 30;
      edges = ids_at words 40;
      faces = ids_at words 50;
      regions = ids_at words 60;
      places = fields_at words 17;
      place_order = fields_at words 18;
      isolated = fields_at words 19;
      region_bits = bits_at words 20;
      members = fields_at words 25;
    }
