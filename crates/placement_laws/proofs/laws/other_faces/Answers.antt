use Rattle.placement_laws.proofs.OtherFaces.{same_rotation, same_labels, same_signed_edges, same_ring, same_component, same_rings, same_components, same_outer}
use Rattle.placement_laws.proofs.laws.other_faces.Goals as goal

pub returns-clause-rotation : goal.returns-clause-rotation
returns-clause-rotation c t faces = same_rotation t faces

pub returns-clause-labels : goal.returns-clause-labels
returns-clause-labels c t faces = same_labels t faces

pub returns-clause-signed_edges : goal.returns-clause-signed_edges
returns-clause-signed_edges c t faces = same_signed_edges t faces

pub returns-clause-ring : goal.returns-clause-ring
returns-clause-ring c t faces d = same_ring t faces d

pub returns-clause-component : goal.returns-clause-component
returns-clause-component c t faces d = same_component t faces d

pub returns-clause-rings : goal.returns-clause-rings
returns-clause-rings c t faces = same_rings t faces

pub returns-clause-components : goal.returns-clause-components
returns-clause-components c t faces = same_components t faces

pub returns-clause-outer : goal.returns-clause-outer
returns-clause-outer c t faces = same_outer t faces
