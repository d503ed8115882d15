use Rattle.code_laws.proofs.Sound.{sound_parts}
use Rattle.code_laws.proofs.Selects.{edge_by_select, node_by_select, shell_by_select, first_is, edge_none, node_none, shell_none}
use Rattle.code_laws.proofs.laws.first_positions.Goals as goal

pub returns-clause-edges : goal.returns-clause-edges
returns-clause-edges c = λ code h e. edge_by_select code (sound_parts code h) e

pub returns-clause-nodes : goal.returns-clause-nodes
returns-clause-nodes c = λ code h n. node_by_select code (sound_parts code h) n

pub returns-clause-shells : goal.returns-clause-shells
returns-clause-shells c = λ code h s. shell_by_select code (sound_parts code h) s

pub returns-clause-first : goal.returns-clause-first
returns-clause-first c = λ code h e p f. first_is code (sound_parts code h) e p f

pub returns-clause-no_edge : goal.returns-clause-no_edge
returns-clause-no_edge c = λ code h e. edge_none code (sound_parts code h) e

pub returns-clause-no_node : goal.returns-clause-no_node
returns-clause-no_node c = λ code h n. node_none code (sound_parts code h) n

pub returns-clause-no_shell : goal.returns-clause-no_shell
returns-clause-no_shell c = λ code h s. shell_none code (sound_parts code h) s
