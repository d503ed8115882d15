-- What is kept of a walk stays right.
use Rattle.std.proofs.Common.{ℕ, ◌≡◌, ◌<◌, ◌+◌, Bool, List, length, inl, inr, sym, ap, ◌∙◌, subst, get_or, set, arith}
use Rattle.std.proofs.lemmas.Grind.{get_or-set_at}
use Rattle.std.proofs.lemmas.List.{get_or-set_other}
use Rattle.std.proofs.lemmas.Bool.{cases_lt}
use Rattle.code_laws.specs.Code.{Code, over, after, step}
use Rattle.id_names.specs.RisingNames.{RisingNames}
use Rattle.file_laws.specs.Contents.{Contents}
use Rattle.navigate.specs.KeptStops.{IsKept}
use Rattle.navigate.specs.declared.kept_stops.KeptStop.{KeptStop}

module _ (names : RisingNames) (m : Contents) (kind : Bool) where
  -- the first stops of a list stand where they say
  abbrev pub AreStops : List KeptStop → ℕ → Type 0
  AreStops stops count = (j : ℕ) (d : KeptStop) → j < count → IsKept names m kind (get_or stops j d)

  -- with one more behind them
  pub one_more : (stops : List KeptStop) (count : ℕ) (k : KeptStop) → count < length stops → AreStops stops count → IsKept names m kind k → AreStops (set stops count k) (count + 1)
  one_more stops count k room are is j d l = elim (cases_lt j count) [
    | inl below ↦ subst (λ (x : KeptStop). IsKept names m kind x) (sym (get_or-set_other stops count j k d (λ e. omega (arith, e, below)))) (are j d below)
    | inr above ↦ subst (λ (x : KeptStop). IsKept names m kind x) (sym (get_or-set_at stops count j k d (omega (arith, above, l)) room)) is
  ]

  -- the same by equal lists
  pub same_stops : (xs ys : List KeptStop) (count left : ℕ) → ys ≡ xs → left ≡ count → AreStops xs count → AreStops ys left
  same_stops xs ys n left stops count are j d l = subst (λ (zs : List KeptStop). IsKept names m kind (get_or zs j d)) (sym stops) (are j d (omega (arith, count, l)))

  -- the position after what was kept of another one
  pub next_kept : (c : Code) (p next : ℕ) (kept : KeptStop) → c ≡ m.code → IsKept names m kind kept → kept.at ≡ p → next ≡ after c kept.over → next ≡ step m.code kind p
  next_kept c p next kept same is at next_is = next_is ∙ ap (λ (x : Code). after x kept.over) same ∙ ap (after m.code) (is.over ∙ ap (over m.code kind) at)
