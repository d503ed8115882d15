-- Sections as code holds them.
use Rattle.std.specs.Prelude.{List, map}
use Rattle.file_laws.specs.Layout.{Section, sized}
use Rattle.pemb_file.specs.declared.section.Section.{Section as Held}

-- what a section is
abbrev pub seen : Held → Section
seen s = sized s.number s.count s.width

abbrev pub all_seen : List Held → List Section
all_seen ss = map seen ss
