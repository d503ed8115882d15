use Rattle.topo_base.specs.declared.refusal.Table.TheVariants as table
use Rattle.plane_model.specs.Reading.{node_row, edge_row, face_row, region_row, member_row}
use Rattle.plane_model.proofs.ReadInRange.{rows-read, node_row-in_range, edge_row-in_range, face_row-in_range, region_row-in_range, member_row-in_range}
use Rattle.plane_model.proofs.laws.read_in_range.Goals as goal

pub returns-clause-nodes : goal.returns-clause-nodes
returns-clause-nodes c = λ bytes rs e. rows-read table.Node node_row _ node_row-in_range bytes rs e

pub returns-clause-edges : goal.returns-clause-edges
returns-clause-edges c = λ bytes rs e. rows-read table.Edge edge_row _ edge_row-in_range bytes rs e

pub returns-clause-faces : goal.returns-clause-faces
returns-clause-faces c = λ bytes rs e. rows-read table.Face face_row _ face_row-in_range bytes rs e

pub returns-clause-regions : goal.returns-clause-regions
returns-clause-regions c = λ bytes rs e. rows-read table.Region region_row _ region_row-in_range bytes rs e

pub returns-clause-members : goal.returns-clause-members
returns-clause-members c = λ bytes rs e. rows-read table.Member member_row _ member_row-in_range bytes rs e
