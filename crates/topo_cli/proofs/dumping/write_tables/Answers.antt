use Rattle.std.proofs.Common.{◌∙◌, List, subst}
use Rattle.ports.specs.Outside.{WhereTold}
use Rattle.navigate.specs.Bound.{served_map}
use Rattle.table_dump.specs.Dumped.{AreWritten, AreWrittenInPart, NamedText}
use Rattle.topo_cli.proofs.FolderNames.{files_are, names_are}
use Rattle.topo_cli.proofs.dumping.write_tables.Goals as goal

pub dump-requires-clause-apart : goal.dump-requires-clause-apart
dump-requires-clause-apart g c =
    names_are c.args.dir.now _ _ _ _ _ (record {
      node = c.as_str-node.ensures.value ∙ c.requires.names.node;
      edge = c.as_str-edge.ensures.value ∙ c.requires.names.edge;
      face = c.as_str-face.ensures.value ∙ c.requires.names.face;
      region = c.as_str-region.ensures.value ∙ c.requires.names.region;
      member = c.as_str-member.ensures.value ∙ c.requires.names.member;
    })

pub returns-in-Ok-clause-written : goal.returns-in-Ok-clause-written
returns-in-Ok-clause-written g c =
    let W : List NamedText → Type 0 = λ texts. WhereTold (AreWritten texts) (g.H.Shelf.files c.args.shelf.now) (g.H.Shelf.files c.dump.new.shelf) in
    subst W
    (files_are c.args.dir.now _ _ _ _ _ (served_map c.args.served) (record {
      node = c.as_str-node.ensures.value ∙ c.requires.names.node;
      edge = c.as_str-edge.ensures.value ∙ c.requires.names.edge;
      face = c.as_str-face.ensures.value ∙ c.requires.names.face;
      region = c.as_str-region.ensures.value ∙ c.requires.names.region;
      member = c.as_str-member.ensures.value ∙ c.requires.names.member;
    }))
    c.in-Ok.ensures.written

pub returns-in-Err-WriteFault-clause-part : goal.returns-in-Err-WriteFault-clause-part
returns-in-Err-WriteFault-clause-part g c =
    let W : List NamedText → Type 0 = λ texts. WhereTold (AreWrittenInPart texts) (g.H.Shelf.files c.args.shelf.now) (g.H.Shelf.files c.dump.new.shelf) in
    subst W
    (files_are c.args.dir.now _ _ _ _ _ (served_map c.args.served) (record {
      node = c.as_str-node.ensures.value ∙ c.requires.names.node;
      edge = c.as_str-edge.ensures.value ∙ c.requires.names.edge;
      face = c.as_str-face.ensures.value ∙ c.requires.names.face;
      region = c.as_str-region.ensures.value ∙ c.requires.names.region;
      member = c.as_str-member.ensures.value ∙ c.requires.names.member;
    }))
    c.in-Err-WriteFault.ensures.part

pub returns-in-Err-WriteFault-clause-rose : goal.returns-in-Err-WriteFault-clause-rose
returns-in-Err-WriteFault-clause-rose g c = c.in-Err-WriteFault.ensures.counted.rises
