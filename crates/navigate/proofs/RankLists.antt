-- The signed edges of ranks, taken one by one.
use Rattle.std.specs.Prelude.{neg_ℤ, IsTrue, ◌==◌, if◌then◌else◌, slice_index, slice_index_or}
use Rattle.std.proofs.Common.{◌≡◌, ◌<◌, ◌≤◌, ℕ, zero, suc, ◌+◌, ◌*◌, ℤ, pos, negsuc, true, false, List, [], ◌∷◌, ◌++◌, map, take, drop, length, length-append, append_assoc, append-nil, ap, sym, ◌∙◌, subst, refl, arith}
use Rattle.std.proofs.lemmas.Bool.{eqb-true}
use Rattle.std.proofs.lemmas.List.{drop_more, get_or-map}
use Rattle.topo_base.specs.declared.id.TheConstants.{LARGEST_ID}
use Rattle.id_names.specs.Names.{is_id}
use Rattle.id_names.specs.RisingNames.{RisingNames, id_at}
use Rattle.navigate.specs.OrbitWalk.{contents_in, rest, price, allowance}
use Rattle.navigate.specs.Ranked.{IsRankOf, AreRanksOf, low_of}
use Rattle.navigate.specs.declared.orbit_walk.OrbitWalk.{OrbitWalk}
use Rattle.navigate.specs.declared.ranked.RankedEdge.{RankedEdge}

abbrev pub no_rank : RankedEdge
no_rank = record { rank = 0; is_forward = false }

module _ (names : RisingNames) where
  -- with one more behind them
  pub ranks_more : (rs : List RankedEdge) (ds : List ℤ) (r : RankedEdge) (d : ℤ) → AreRanksOf names rs ds → IsRankOf names r d → AreRanksOf names (rs ++ r ∷ []) (ds ++ d ∷ [])
  ranks_more [] [] r d are is = (is, tt)
  ranks_more [] (e ∷ ds) r d are is = absurd are
  ranks_more (t ∷ rs) [] r d are is = absurd are
  ranks_more (t ∷ rs) (e ∷ ds) r d are is = (are.0, ranks_more rs ds r d are.1 is)

  -- they are as many
  pub ranks_many : (rs : List RankedEdge) (ds : List ℤ) → AreRanksOf names rs ds → length rs ≡ length ds
  ranks_many [] [] are = refl
  ranks_many [] (e ∷ ds) are = absurd are
  ranks_many (t ∷ rs) [] are = absurd are
  ranks_many (t ∷ rs) (e ∷ ds) are = ap suc (ranks_many rs ds are.1)

  pub ranks_none : (rs : List RankedEdge) (ds : List ℤ) → rs ≡ [] → AreRanksOf names rs ds → ds ≡ []
  ranks_none rs ds e are = none_left ds (subst (λ (xs : List RankedEdge). AreRanksOf names xs ds) e are)
    where
      none_left : (es : List ℤ) → AreRanksOf names [] es → es ≡ []
      none_left [] same = refl
      none_left (d ∷ es) same = absurd same

  pub edges_none : (rs : List RankedEdge) (ds : List ℤ) → ds ≡ [] → AreRanksOf names rs ds → rs ≡ []
  edges_none rs ds e are = none_left rs (subst (λ (xs : List ℤ). AreRanksOf names rs xs) e are)
    where
      none_left : (ts : List RankedEdge) → AreRanksOf names ts [] → ts ≡ []
      none_left [] same = refl
      none_left (t ∷ ts) same = absurd same

  -- the first, and the others
  pub record FirstRank (r : RankedEdge) (rest : List RankedEdge) (es : List ℤ) : Type 0 where
    pub d : ℤ
    pub later : List ℤ
    pub both : es ≡ d ∷ later
    pub is : IsRankOf names r d
    pub are : AreRanksOf names rest later

  pub first_rank : (rs rest : List RankedEdge) (r : RankedEdge) (es : List ℤ) → rs ≡ r ∷ rest → AreRanksOf names rs es → FirstRank r rest es
  first_rank rs rest r es e are = first es (subst (λ (xs : List RankedEdge). AreRanksOf names xs es) e are)
    where
      first : (ds : List ℤ) → AreRanksOf names (r ∷ rest) ds → FirstRank r rest ds
      first [] same = absurd same
      first (d ∷ later) both = record { d = d; later = later; both = refl; is = both.0; are = both.1 }

  -- the one at a place, and those behind it
  pub this_rank : (rs : List RankedEdge) (k : ℕ) (es : List ℤ) → k < length rs → AreRanksOf names (drop k rs) es → FirstRank (slice_index_or rs k no_rank) (drop (k + 1) rs) es
  this_rank rs k es l are = first_rank (drop k rs) (drop (k + 1) rs) (slice_index_or rs k no_rank) es (drop_more rs k no_rank l) are

  -- those behind some of them
  pub ranks_drop : (rs : List RankedEdge) (k : ℕ) (ds : List ℤ) → AreRanksOf names rs ds → (es : List ℤ) × AreRanksOf names (drop k rs) es
  ranks_drop rs zero ds are = (ds, are)
  ranks_drop [] (suc k) ds are = ([], tt)
  ranks_drop (r ∷ rs) (suc k) [] are = absurd are
  ranks_drop (r ∷ rs) (suc k) (d ∷ ds) are = ranks_drop rs k ds are.1

  -- the first of them, and those behind these
  pub record FirstRanks (rs : List RankedEdge) (k : ℕ) (ds : List ℤ) : Type 0 where
    pub first : List ℤ
    pub later : List ℤ
    pub all : ds ≡ first ++ later
    pub are_first : AreRanksOf names (take k rs) first
    pub are_later : AreRanksOf names (drop k rs) later

  pub first_ranks : (rs : List RankedEdge) (k : ℕ) (ds : List ℤ) → AreRanksOf names rs ds → FirstRanks rs k ds
  first_ranks rs zero ds are = record { first = []; later = ds; all = refl; are_first = tt; are_later = are }
  first_ranks [] (suc k) [] are = record { first = []; later = []; all = refl; are_first = tt; are_later = tt }
  first_ranks [] (suc k) (d ∷ ds) are = absurd are
  first_ranks (r ∷ rs) (suc k) [] are = absurd are
  first_ranks (r ∷ rs) (suc k) (d ∷ ds) are =
      let more = first_ranks rs k ds are.1 in
      record { first = d ∷ more.first; later = more.later; all = ap (λ xs. d ∷ xs) more.all; are_first = (are.0, more.are_first); are_later = more.are_later }

  -- so many of them, and the others, are the ranks of as many
  pub ranks_cut : (rs : List RankedEdge) (k : ℕ) (ds : List ℤ) → AreRanksOf names rs ds → AreRanksOf names (take k rs) (take k ds) × AreRanksOf names (drop k rs) (drop k ds)
  ranks_cut rs zero ds are = (tt, are)
  ranks_cut [] (suc k) [] are = (tt, tt)
  ranks_cut [] (suc k) (d ∷ ds) are = absurd are
  ranks_cut (r ∷ rs) (suc k) [] are = absurd are
  ranks_cut (r ∷ rs) (suc k) (d ∷ ds) are = let more = ranks_cut rs k ds are.1 in ((are.0, more.0), more.1)

  -- what is put down and what is left, when the first of what is left are put down too
  pub record LeftRanks (rs : List RankedEdge) (edges before ds : List ℤ) : Type 0 where
    pub left : List ℤ
    pub all : edges ++ left ≡ before ++ ds
    pub are : AreRanksOf names rs left

  pub left_ranks : (rs now later : List RankedEdge) (k : ℕ) (edges given more before ds : List ℤ) → now ≡ take k rs → later ≡ drop k rs
      → ((es : List ℤ) → AreRanksOf names now es → given ≡ es) → more ≡ edges ++ given → LeftRanks rs edges before ds → LeftRanks later more before ds
  left_ranks rs now later k edges given more before ds e f put g l =
      let cut = first_ranks rs k l.left l.are in
      let same : given ≡ cut.first = put cut.first (subst (λ (xs : List RankedEdge). AreRanksOf names xs cut.first) (sym e) cut.are_first) in
      record {
        left = cut.later;
        all = ap (λ xs. xs ++ cut.later) (g ∙ ap (λ xs. edges ++ xs) same) ∙ append_assoc edges cut.first cut.later ∙ ap (λ xs. edges ++ xs) (sym cut.all) ∙ l.all;
        are = subst (λ (xs : List RankedEdge). AreRanksOf names xs cut.later) (sym f) cut.are_later;
      }

  -- the signed edges of the first of what is left
  pub front_ranks : (rs now : List RankedEdge) (k : ℕ) (edges before ds : List ℤ) → now ≡ take k rs → LeftRanks rs edges before ds → (es : List ℤ) × AreRanksOf names now es
  front_ranks rs now k edges before ds e l =
      let cut = first_ranks rs k l.left l.are in
      (cut.first, subst (λ (xs : List RankedEdge). AreRanksOf names xs cut.first) (sym e) cut.are_first)

  pub front_many : (now : List RankedEdge) (given : List ℤ) → (es : List ℤ) × AreRanksOf names now es → ((es : List ℤ) → AreRanksOf names now es → given ≡ es) → length given ≡ length now
  front_many now given some put = ap length (put some.0 some.1) ∙ sym (ranks_many now some.0 some.1)

  -- the first ones put down behind the others
  pub turned_ranks : (rs front back : List RankedEdge) (k : ℕ) (none first edges ds : List ℤ) → front ≡ take k rs → back ≡ drop k rs → none ≡ []
      → ((es : List ℤ) → AreRanksOf names back es → first ≡ none ++ es) → ((es : List ℤ) → AreRanksOf names front es → edges ≡ first ++ es) → AreRanksOf names rs ds → edges ≡ drop k ds ++ take k ds
  turned_ranks rs front back k none first edges ds e f z put more are =
      let cut = ranks_cut rs k ds are in
      let behind = more (take k ds) (subst (λ (xs : List RankedEdge). AreRanksOf names xs (take k ds)) (sym e) cut.0) in
      let before = put (drop k ds) (subst (λ (xs : List RankedEdge). AreRanksOf names xs (drop k ds)) (sym f) cut.1) in
      behind ∙ ap (λ xs. xs ++ take k ds) (before ∙ ap (λ xs. xs ++ drop k ds) z)

  pub no_ranks_left : (rs : List RankedEdge) (edges before ds : List ℤ) → rs ≡ [] → LeftRanks rs edges before ds → edges ≡ before ++ ds
  no_ranks_left rs edges before ds e l = sym (append-nil edges) ∙ ap (λ xs. edges ++ xs) (sym (ranks_none rs l.left e l.are)) ∙ l.all

  -- the low part of the id of one more
  pub lows_more : (rs : List RankedEdge) (k : ℕ) (lows more : List ℕ) (low : ℕ) → k < length rs → map (low_of names) rs ≡ lows ++ map (low_of names) (drop k rs)
      → low ≡ low_of names (slice_index_or rs k no_rank) → more ≡ lows ++ low ∷ [] → map (low_of names) rs ≡ more ++ map (low_of names) (drop (k + 1) rs)
  lows_more rs k lows more low l all same e =
      let next = ap (map (low_of names)) (drop_more rs k no_rank l) ∙ ap (λ x. x ∷ map (low_of names) (drop (k + 1) rs)) (sym same) in
      all ∙ ap (λ x. lows ++ x) next ∙ sym (append_assoc lows (low ∷ []) (map (low_of names) (drop (k + 1) rs))) ∙ ap (λ x. x ++ map (low_of names) (drop (k + 1) rs)) (sym e)

  -- the low part at a place is that of the rank there
  pub low_at_place : (rs : List RankedEdge) (k : ℕ) (lows : List ℕ) → k < length rs → lows ≡ map (low_of names) rs → slice_index lows k ≡ low_of names (slice_index_or rs k no_rank)
  low_at_place rs k lows l e = ap (λ xs. slice_index xs k) e ∙ get_or-map (low_of names) rs k no_rank 0 l

  -- the id at its rank is one
  pub rank_id : (r : RankedEdge) (d : ℤ) (id : ℕ) → IsRankOf names r d → id ≡ id_at names r.rank → IsTrue (is_id (LARGEST_ID + 1) id)
  rank_id r d id is at = subst (λ x. IsTrue (is_id (LARGEST_ID + 1) x)) (sym (at ∙ is.id)) is.in_range

  -- with its direction it is the signed edge
  pub rank_signed : (r : RankedEdge) (d e : ℤ) (id : ℕ) → IsRankOf names r d → id ≡ id_at names r.rank → e ≡ (if r.is_forward then pos id else neg_ℤ (pos id)) → e ≡ d
  rank_signed r (pos n) e id is at made = made ∙ rw is.direction (ap pos (at ∙ is.id))
  rank_signed r (negsuc n) e id is at made = made ∙ rw is.direction (ap (λ x. neg_ℤ (pos x)) (at ∙ is.id))

-- what is given, with one more put down
pub one_given : (ds old es later new : List ℤ) (edge d : ℤ) → ds ≡ old ++ es → es ≡ d ∷ later → edge ≡ d → new ≡ old ++ edge ∷ [] → ds ≡ new ++ later
one_given ds old es later new edge d all first same more = all ∙ ap (λ x. old ++ x) (first ∙ ap (λ x. x ∷ later) (sym same)) ∙ sym (append_assoc old (edge ∷ []) later) ∙ ap (λ x. x ++ later) (sym more)

-- the same among other names that are these
pub named_ranks : (names other : RisingNames) (rs ts : List RankedEdge) (ds : List ℤ) → names ≡ other → ts ≡ rs → AreRanksOf names rs ds → AreRanksOf other ts ds
named_ranks names other rs ts ds e f are = subst (λ (x : RisingNames). AreRanksOf x ts ds) e (subst (λ (xs : List RankedEdge). AreRanksOf names xs ds) (sym f) are)

-- a list that is turned is as long
pub length-turned : (k : ℕ) (ds : List ℤ) → length (drop k ds ++ take k ds) ≡ length ds
length-turned zero ds = ap length (append-nil ds)
length-turned (suc k) [] = refl
length-turned (suc k) (d ∷ ds) =
    let one = length-append (drop k ds) (d ∷ take k ds) in
    let more = length-append (drop k ds) (take k ds) in
    let all = length-turned k ds in
    omega (arith, one, more, all)

-- there are none where they are 0
pub no_items : (rs : List RankedEdge) → (length rs == 0) ≡ true → rs ≡ []
no_items rs e = none rs (eqb-true (length rs) 0 e)
  where
    none : (ts : List RankedEdge) → length ts ≡ 0 → ts ≡ []
    none [] n = refl
    none (t ∷ ts) n = absurd (omega (arith, n))

-- what one more costs
pub cost_more : (price n m first old new : ℕ) → m ≡ n + 1 → old ≤ first + price * n → new ≤ old + price → new ≤ first + price * m
cost_more price n m first old new e h k =
    let all : price * (n + 1) ≡ price * n + price = omega arith in
    subst (λ x. new ≤ first + price * x) (sym e) (omega (arith, all, h, k))

-- what several edges may cost, and what is left for the others
pub allowance-several : (v w : OrbitWalk) (ds : List ℤ) → contents_in w ≡ contents_in v → rest v ≡ ds ++ rest w → allowance v ≡ allowance w + price (contents_in v) * length ds
unfolding allowance
allowance-several v w ds same e =
    let n : length (rest v) ≡ length ds + length (rest w) = ap length e ∙ length-append ds (rest w) in
    let all : price (contents_in v) * (length ds + length (rest w)) ≡ price (contents_in v) * length (rest w) + price (contents_in v) * length ds = omega arith in
    ap (λ x. price (contents_in v) * x) n ∙ all ∙ ap (λ m. price m * length (rest w) + price (contents_in v) * length ds) (sym same)
