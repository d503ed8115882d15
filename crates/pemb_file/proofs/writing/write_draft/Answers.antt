use Rattle.pemb_file.specs.Parts.{contents_of_parts}
use Rattle.file_laws.proofs.Rooms.{whole_room}
use Rattle.pemb_file.proofs.writing.write_draft.Goals as goal

pub draft_of-requires-clause-room : goal.draft_of-requires-clause-room
draft_of-requires-clause-room c = whole_room (contents_of_parts c.args.parts.now) c.requires.whole
