use Rattle.file_laws.proofs.Consistent.{range_of, rotation_of, labelled_of, plane_of, placed_of, forest_of, consistent_of}
use Rattle.file_laws.proofs.laws.whole_is_consistent.Goals as goal

pub returns-clause-range : goal.returns-clause-range
returns-clause-range c = range_of

pub returns-clause-rotation : goal.returns-clause-rotation
returns-clause-rotation c = rotation_of

pub returns-clause-labelled : goal.returns-clause-labelled
returns-clause-labelled c = labelled_of

pub returns-clause-plane : goal.returns-clause-plane
returns-clause-plane c = plane_of

pub returns-clause-placed : goal.returns-clause-placed
returns-clause-placed c = placed_of

pub returns-clause-regions : goal.returns-clause-regions
returns-clause-regions c = forest_of

pub returns-clause-consistent : goal.returns-clause-consistent
returns-clause-consistent c = consistent_of
