use Rattle.std.proofs.Common.{refl}
use Rattle.bit_words.specs.Bits.{rank, select}
use Rattle.bit_words.specs.Lists.{first_some}
use Rattle.parens.specs.Matching.{close_of, open_of, mate_of, pair_number, falling, innermost, balance_fault}
use Rattle.code_laws.specs.Code.{mate, component_of, after, before}
use Rattle.code_laws.specs.Numbers.{edge_of, node_of, ring_of, enclosing_pair, first_of_shell}
use Rattle.code_laws.specs.SeqFault.{seq_fault}
use Rattle.code_laws.specs.Tour.{picked}
use Rattle.code_laws.proofs.laws.worked_codes.Goals as goal

pub returns-clause-sound : goal.returns-clause-sound
unfolding picked rank select close_of open_of mate_of pair_number falling innermost balance_fault mate component_of after before edge_of enclosing_pair node_of ring_of first_of_shell first_some seq_fault
returns-clause-sound c = (refl, refl, refl, refl)

pub returns-clause-walk : goal.returns-clause-walk
unfolding picked rank select close_of open_of mate_of pair_number falling innermost balance_fault mate component_of after before edge_of enclosing_pair node_of ring_of first_of_shell first_some seq_fault
returns-clause-walk c = refl

pub returns-clause-edges : goal.returns-clause-edges
unfolding picked rank select close_of open_of mate_of pair_number falling innermost balance_fault mate component_of after before edge_of enclosing_pair node_of ring_of first_of_shell first_some seq_fault
returns-clause-edges c = refl

pub returns-clause-nodes : goal.returns-clause-nodes
unfolding picked rank select close_of open_of mate_of pair_number falling innermost balance_fault mate component_of after before edge_of enclosing_pair node_of ring_of first_of_shell first_some seq_fault
returns-clause-nodes c = refl

pub returns-clause-rings : goal.returns-clause-rings
unfolding picked rank select close_of open_of mate_of pair_number falling innermost balance_fault mate component_of after before edge_of enclosing_pair node_of ring_of first_of_shell first_some seq_fault
returns-clause-rings c = refl

pub returns-clause-next : goal.returns-clause-next
unfolding picked rank select close_of open_of mate_of pair_number falling innermost balance_fault mate component_of after before edge_of enclosing_pair node_of ring_of first_of_shell first_some seq_fault
returns-clause-next c = refl

pub returns-clause-turn : goal.returns-clause-turn
unfolding picked rank select close_of open_of mate_of pair_number falling innermost balance_fault mate component_of after before edge_of enclosing_pair node_of ring_of first_of_shell first_some seq_fault
returns-clause-turn c = refl

pub returns-clause-ring : goal.returns-clause-ring
unfolding picked rank select close_of open_of mate_of pair_number falling innermost balance_fault mate component_of after before edge_of enclosing_pair node_of ring_of first_of_shell first_some seq_fault
returns-clause-ring c = (refl, refl, refl)

pub returns-clause-closed : goal.returns-clause-closed
unfolding picked rank select close_of open_of mate_of pair_number falling innermost balance_fault mate component_of after before edge_of enclosing_pair node_of ring_of first_of_shell first_some seq_fault
returns-clause-closed c = (refl, refl, refl)

pub returns-clause-one : goal.returns-clause-one
unfolding picked rank select close_of open_of mate_of pair_number falling innermost balance_fault mate component_of after before edge_of enclosing_pair node_of ring_of first_of_shell first_some seq_fault
returns-clause-one c = (refl, refl, refl)

pub returns-clause-two : goal.returns-clause-two
unfolding picked rank select close_of open_of mate_of pair_number falling innermost balance_fault mate component_of after before edge_of enclosing_pair node_of ring_of first_of_shell first_some seq_fault
returns-clause-two c = (refl, refl, refl)

pub returns-clause-split : goal.returns-clause-split
unfolding picked rank select close_of open_of mate_of pair_number falling innermost balance_fault mate component_of after before edge_of enclosing_pair node_of ring_of first_of_shell first_some seq_fault
returns-clause-split c = refl
