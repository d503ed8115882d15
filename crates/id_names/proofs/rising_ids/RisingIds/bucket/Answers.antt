use Rattle.std.proofs.Common.{inl, inr, arith}
use Rattle.std.proofs.lemmas.Bool.{cases_lt}
use Rattle.id_names.proofs.rising_ids.RisingIds.bucket.Goals as goal

pub returns-clause-places : goal.returns-clause-places
returns-clause-places g c = record {
  order = elim (cases_lt c.up_to.result c.below.result) [
    | inl l ↦ absurd (omega (arith, c.below.ensures.below c.up_to.result l, c.up_to.ensures.above c.up_to.result (omega arith) (omega (arith, l, c.below.ensures.within))))
    | inr m ↦ m
  ];
  count = c.up_to.ensures.within;
  below = c.below.ensures.below;
  within = λ k h l. omega (arith, c.up_to.ensures.below k l, c.below.ensures.above k h (omega (arith, l, c.up_to.ensures.within)));
  above = c.up_to.ensures.above;
}
