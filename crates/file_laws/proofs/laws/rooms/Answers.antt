use Rattle.file_laws.proofs.Rooms.{whole_room}
use Rattle.file_laws.proofs.Sections.{lawful_room, old_room}
use Rattle.file_laws.proofs.laws.rooms.Goals as goal

pub returns-clause-whole : goal.returns-clause-whole
returns-clause-whole c = whole_room

pub returns-clause-old : goal.returns-clause-old
returns-clause-old c = old_room

pub returns-clause-own : goal.returns-clause-own
returns-clause-own c = lawful_room
