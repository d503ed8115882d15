-- A sound code is the code of its own walk.
use Rattle.std.proofs.Common.{◌≡◌, ℕ, ◌<◌, ◌+◌, Bool, true, false, List, [], ◌∷◌, ◌++◌, take, length, get_or, ap, sym, ◌∙◌, arith}
use Rattle.std.proofs.lemmas.List.{ext_get_or}
use Rattle.std.proofs.lemmas.List.FromFn.{length-map-range_with_len, get_or-map-range_with_len}
use Rattle.rank_select.proofs.Selects.{select-placed}
use Rattle.code_laws.specs.Code.{Code, code_with, is_first, parens, component_count}
use Rattle.code_laws.specs.SeqFault.{is_sound}
use Rattle.code_laws.specs.Tour.{picked, code_of}
use Rattle.code_laws.proofs.Sound.{SoundParts, sound_parts, all_places, last_start}
use Rattle.code_laws.proofs.Mates.{first_at}
use Rattle.code_laws.proofs.Walked.{picked-at, length-picked}
use Rattle.file_parts.specs.Walk.{firsts}
use Rattle.file_parts.proofs.Taken.{taken_more, taken_all}

pub firsts_many : (c : Code) → length c.a ≡ length (firsts c)
firsts_many c = sym (length-map-range_with_len (is_first c) 0 (length c.a))

module _ (c : Code) (s : SoundParts c) where
  picked_many : (kind : Bool) → length (picked kind c.a (firsts c)) ≡ length (parens c kind)
  picked_many kind = length-picked kind c.a (firsts c) (firsts_many c) ∙ all_places c s.laid kind

  -- the bit at a place is the one at the position of its kind that has the place
  picked_at : (kind : Bool) (q : ℕ) → q < length (parens c kind) → get_or (picked kind c.a (firsts c)) q false ≡ get_or (parens c kind) q false
  picked_at kind q l =
      let p = select-placed kind c.a q (let all = all_places c s.laid kind in omega (arith, all, l)) in
      ap (λ r. get_or (picked kind c.a (firsts c)) r false) (sym p.2.rank)
      ∙ picked-at kind c.a (firsts c) p.0 (firsts_many c) p.2.within p.2.kind
      ∙ get_or-map-range_with_len (is_first c) 0 (length c.a) p.0 p.0 false p.2.within (omega arith)
      ∙ first_at c kind p.0 q p.2.kind p.2.rank

  picked_is : (kind : Bool) → picked kind c.a (firsts c) ≡ parens c kind
  picked_is kind = ext_get_or false _ _ (picked_many kind) (λ q l. picked_at kind q (let e = picked_many kind in omega (arith, l, e)))

same_code : (a tree tree' dual dual' : List Bool) (starts : List ℕ) → tree ≡ tree' → dual ≡ dual' → code_with a tree dual starts ≡ code_with a tree' dual' starts
same_code a tree tree' dual dual' starts t d = cc

pub walk_back : (c : Code) → is_sound c ≡ true → code_of c.a (firsts c) c.starts ≡ c
walk_back c sound = let s = sound_parts c sound in same_code c.a _ _ _ _ c.starts (picked_is c s true) (picked_is c s false)

-- all starts but the last are those of components, and the last is the end
pub starts_all : (c : Code) → is_sound c ≡ true → (k : ℕ) (done next : List ℕ) (x : ℕ) → k ≡ component_count c → done ≡ take k c.starts → next ≡ done ++ x ∷ [] → x ≡ length c.a → next ≡ c.starts
starts_all c sound k done next x all was grown is =
    let s = sound_parts c sound in
    let some = s.laid.some in
    let at : x ≡ get_or c.starts k 0 = is ∙ sym (last_start c s.laid) ∙ ap (λ j. get_or c.starts j 0) (sym all) in
    taken_all c.starts next (k + 1) (taken_more c.starts k 0 done next x (omega (arith, some, all)) was grown at) (omega (arith, some, all))

-- the code of lists that are its walk
pub walk_gathered : (c : Code) → is_sound c ≡ true → (tree first : List Bool) (starts : List ℕ) → tree ≡ c.a → first ≡ firsts c → starts ≡ c.starts → code_of tree first starts ≡ c
walk_gathered c sound tree first starts t f s =
    ap (λ x. code_of x first starts) t ∙ ap (λ x. code_of c.a x starts) f ∙ ap (λ x. code_of c.a (firsts c) x) s ∙ walk_back c sound
