use Rattle.id_names.proofs.HighLaws.{length-high}
use Rattle.id_names.proofs.MadeSizes.{length-lows, length-places, length-made_marks, as_many_marks}
use Rattle.id_names.proofs.made.sizes_of_made.Goals as goal

pub returns-clause-high : goal.returns-clause-high
returns-clause-high c = length-high

pub returns-clause-lows : goal.returns-clause-lows
returns-clause-lows c = length-lows

pub returns-clause-places : goal.returns-clause-places
returns-clause-places c = length-places

pub returns-clause-marks : goal.returns-clause-marks
returns-clause-marks c = length-made_marks

pub returns-clause-back : goal.returns-clause-back
returns-clause-back c = as_many_marks
