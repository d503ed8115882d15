-- A map that is built into a file, and asked from its tables and from that file.
use Rattle.std.specs.Prelude.{◌≡◌, ℕ, List, Some}
use Rattle.ports.specs.Outside.{Files}
use Rattle.topo_cli.specs.Call.{Call}
use Rattle.topo_cli.specs.Words.{Form}

-- `build DIR FILE`, `ask DIR` over the files that it found, and `query FILE` over those that it left, of one script
pub record IsRoundTrip (dir file script : List ℕ) (files : Files) (built asked queried : Call) : Type 0 where
  pub build : built.form ≡ Some (Form.Build dir file)
  pub ask : asked.form ≡ Some (Form.Ask dir)
  pub query : queried.form ≡ Some (Form.Query file)
  pub found : built.shelf.files_before ≡ Some files
  pub tables : asked.shelf.files_before ≡ Some files
  pub left : queried.shelf.files_before ≡ built.shelf.files_after
  pub script_asked : asked.script.left_before ≡ Some script
  pub script_queried : queried.script.left_before ≡ Some script
