-- The faults of counts, one by one.
use Rattle.std.specs.Prelude.{nat_le, nat_lt}
use Rattle.std.proofs.Common.{◌≡◌, ◌&&◌, ◌||◌, ◌==◌, [], ◌∷◌, refl, ◌∙◌, Option, Some, None}
use Rattle.bit_words.specs.Lists.{first_some}
use Rattle.file_laws.specs.Layout.{HeaderCounts, node_count, face_count}
use Rattle.file_laws.specs.Faults.{count_fault, unless, most}
use Rattle.file_laws.specs.declared.fault.FileFault.{FileFault}
use Rattle.file_laws.specs.declared.fault.FileFault.TheVariants as fault
use Rattle.pemb_file.proofs.FrontFaults.{first-some, first-none, first-last}

-- the fault of the count in each word
abbrev pub part_6 : HeaderCounts → Option FileFault
part_6 c = unless (nat_le c.edges most) (fault.Count 6 c.edges)

abbrev pub part_7 : HeaderCounts → Option FileFault
part_7 c = unless (nat_le c.tree_edges c.edges) (fault.Count 7 c.tree_edges)

abbrev pub part_8 : HeaderCounts → Option FileFault
part_8 c = unless (nat_le c.components c.edges && ((c.edges == 0) || nat_lt 0 c.components)) (fault.Count 8 c.components)

abbrev pub part_9 : HeaderCounts → Option FileFault
part_9 c = unless (nat_le (node_count c) most) (fault.Count 9 c.isolated)

abbrev pub part_10 : HeaderCounts → Option FileFault
part_10 c = unless (nat_le c.regions most) (fault.Count 10 c.regions)

abbrev pub part_11 : HeaderCounts → Option FileFault
part_11 c = unless (nat_le c.node_back (node_count c)) (fault.Count 11 c.node_back)

abbrev pub part_12 : HeaderCounts → Option FileFault
part_12 c = unless (nat_le c.edge_back c.edges) (fault.Count 12 c.edge_back)

abbrev pub part_13 : HeaderCounts → Option FileFault
part_13 c = unless (nat_le c.face_back (face_count c)) (fault.Count 13 c.face_back)

abbrev pub part_14 : HeaderCounts → Option FileFault
part_14 c = unless (nat_le c.region_back c.regions) (fault.Count 14 c.region_back)

module _ (c : HeaderCounts) where
  count-parts : count_fault c ≡ first_some (part_6 c ∷ part_7 c ∷ part_8 c ∷ part_9 c ∷ part_10 c ∷ part_11 c ∷ part_12 c ∷ part_13 c ∷ part_14 c ∷ [])
  unfolding count_fault
  count-parts = refl

  pub at-6 : (e : FileFault) → part_6 c ≡ Some e → count_fault c ≡ Some e
  at-6 e h = count-parts ∙ first-some (part_6 c) _ e h

  pub at-7 : (e : FileFault) → part_6 c ≡ None → part_7 c ≡ Some e → count_fault c ≡ Some e
  at-7 e h6 h = count-parts ∙ first-none (part_6 c) _ h6 ∙ first-some (part_7 c) _ e h

  pub at-8 : (e : FileFault) → part_6 c ≡ None → part_7 c ≡ None → part_8 c ≡ Some e → count_fault c ≡ Some e
  at-8 e h6 h7 h = count-parts ∙ first-none (part_6 c) _ h6 ∙ first-none (part_7 c) _ h7 ∙ first-some (part_8 c) _ e h

  pub at-9 : (e : FileFault) → part_6 c ≡ None → part_7 c ≡ None → part_8 c ≡ None → part_9 c ≡ Some e → count_fault c ≡ Some e
  at-9 e h6 h7 h8 h = count-parts ∙ first-none (part_6 c) _ h6 ∙ first-none (part_7 c) _ h7 ∙ first-none (part_8 c) _ h8 ∙ first-some (part_9 c) _ e h

  pub at-10 : (e : FileFault) → part_6 c ≡ None → part_7 c ≡ None → part_8 c ≡ None → part_9 c ≡ None → part_10 c ≡ Some e → count_fault c ≡ Some e
  at-10 e h6 h7 h8 h9 h = count-parts ∙ first-none (part_6 c) _ h6 ∙ first-none (part_7 c) _ h7 ∙ first-none (part_8 c) _ h8 ∙ first-none (part_9 c) _ h9 ∙ first-some (part_10 c) _ e h

  pub at-11 : (e : FileFault) → part_6 c ≡ None → part_7 c ≡ None → part_8 c ≡ None → part_9 c ≡ None → part_10 c ≡ None → part_11 c ≡ Some e → count_fault c ≡ Some e
  at-11 e h6 h7 h8 h9 h10 h = count-parts ∙ first-none (part_6 c) _ h6 ∙ first-none (part_7 c) _ h7 ∙ first-none (part_8 c) _ h8 ∙ first-none (part_9 c) _ h9 ∙ first-none (part_10 c) _ h10 ∙ first-some (part_11 c) _ e h

  pub at-12 : (e : FileFault) → part_6 c ≡ None → part_7 c ≡ None → part_8 c ≡ None → part_9 c ≡ None → part_10 c ≡ None → part_11 c ≡ None → part_12 c ≡ Some e → count_fault c ≡ Some e
  at-12 e h6 h7 h8 h9 h10 h11 h = count-parts ∙ first-none (part_6 c) _ h6 ∙ first-none (part_7 c) _ h7 ∙ first-none (part_8 c) _ h8 ∙ first-none (part_9 c) _ h9 ∙ first-none (part_10 c) _ h10 ∙ first-none (part_11 c) _ h11 ∙ first-some (part_12 c) _ e h

  pub at-13 : (e : FileFault) → part_6 c ≡ None → part_7 c ≡ None → part_8 c ≡ None → part_9 c ≡ None → part_10 c ≡ None → part_11 c ≡ None → part_12 c ≡ None → part_13 c ≡ Some e → count_fault c ≡ Some e
  at-13 e h6 h7 h8 h9 h10 h11 h12 h = count-parts ∙ first-none (part_6 c) _ h6 ∙ first-none (part_7 c) _ h7 ∙ first-none (part_8 c) _ h8 ∙ first-none (part_9 c) _ h9 ∙ first-none (part_10 c) _ h10 ∙ first-none (part_11 c) _ h11 ∙ first-none (part_12 c) _ h12 ∙ first-some (part_13 c) _ e h

  pub at-14 : (o : Option FileFault) → part_6 c ≡ None → part_7 c ≡ None → part_8 c ≡ None → part_9 c ≡ None → part_10 c ≡ None → part_11 c ≡ None → part_12 c ≡ None → part_13 c ≡ None → part_14 c ≡ o → count_fault c ≡ o
  at-14 o h6 h7 h8 h9 h10 h11 h12 h13 h = count-parts ∙ first-none (part_6 c) _ h6 ∙ first-none (part_7 c) _ h7 ∙ first-none (part_8 c) _ h8 ∙ first-none (part_9 c) _ h9 ∙ first-none (part_10 c) _ h10 ∙ first-none (part_11 c) _ h11 ∙ first-none (part_12 c) _ h12 ∙ first-none (part_13 c) _ h13 ∙ first-last (part_14 c) ∙ h
