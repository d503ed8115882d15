use Rattle.std.proofs.Common.{refl}
use Rattle.bit_words.specs.Lists.{tabulate}
use Rattle.bit_words.specs.Digits.{digits}
use Rattle.orbits.specs.Walks as walks
use Rattle.id_names.specs.Cycles.{mark_at, mark_of}
use Rattle.id_names.specs.Making.{places_of, rising, high_bits}
use Rattle.id_names.proofs.made.made_by_hand.Goals as goal

pub returns-clause-places : goal.returns-clause-places
unfolding places_of
returns-clause-places c = refl

pub returns-clause-rising : goal.returns-clause-rising
unfolding rising tabulate
returns-clause-rising c = refl

pub returns-clause-high : goal.returns-clause-high
unfolding high_bits digits
returns-clause-high c = refl

pub returns-clause-spacing : goal.returns-clause-spacing
unfolding digits
returns-clause-spacing c = refl

pub returns-clause-marks : goal.returns-clause-marks
unfolding tabulate mark_of mark_at walks.until_return
returns-clause-marks c = refl

pub returns-clause-all : goal.returns-clause-all
unfolding tabulate mark_of mark_at walks.until_return
returns-clause-all c = refl

pub returns-clause-short : goal.returns-clause-short
unfolding tabulate mark_of mark_at walks.until_return
returns-clause-short c = refl

pub returns-clause-back : goal.returns-clause-back
unfolding tabulate mark_of mark_at walks.until_return
returns-clause-back c = refl
