use Rattle.table_text.proofs.ReadBack.{one_map}
use Rattle.table_text.proofs.laws.texts_tell_the_map.Goals as goal

pub returns : goal.returns
returns c = λ t u t_range u_range t_map u_map same. one_map t u t_range u_range t_map u_map same
