use Rattle.pemb_file.proofs.open_file.OpenFile.new.Goals as goal

pub invariant_of-result : goal.invariant_of-result
invariant_of-result c =
    record {
      whole = c.requires.whole;
      places_width = c.requires.places_width;
      order_width = c.requires.order_width;
      isolated_width = c.requires.isolated_width;
      components_marked = c.none.ensures _ _;
      isolated_marked = c.none-2.ensures _ _;
    }
