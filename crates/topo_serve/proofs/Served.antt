-- A script that is served piece by piece, and what is said where that ends.
use Rattle.std.proofs.Common.{◌≡◌, ℕ, ◌+◌, ◌≤◌, List, [], ◌++◌, flat_map, length, take, Option, None, Some, Ok, Err, refl, sym, ap, subst, ◌∙◌, append-nil, arith, length-append}
use Rattle.std.specs.Io.KnownBytes.{Appends, Consumes}
use Rattle.std.proofs.lemmas.List.{take_all, take-append-le}
use Rattle.ports.specs.Outside.{Rose, IsEndAt, IsReadToEnd}
use Rattle.topo_base.specs.Script.{lines}
use Rattle.plane_model.specs.PlaneMap.{PlaneMap}
use Rattle.plane_model.specs.Answers.{answer, answers}
use Rattle.topo_serve.specs.Gathering.{Out, out_at, Gains, Writes}
use Rattle.topo_serve.specs.Pieces.{ended_lines, ended_behind, open_behind, last_line, cut}
use Rattle.topo_serve.specs.Serving.{Call, IsFine, ReadsFor, Serves, over_lines, words_of_line, found_by_reads, most_bytes}
use Rattle.topo_serve.specs.declared.fault.ServeFault.TheVariants.{ReadFault, WriteFault, ScriptTooLong}
use Rattle.topo_serve.proofs.Writing.{writes_nothing, writes_more, writes_failed, writes_ok}
use Rattle.topo_serve.proofs.Piecing.{over_more, answers_more}
use Rattle.topo_serve.proofs.Kept.{cut_twice, open_kept, words_kept, found_kept, answers_kept, last_words_kept, last_found_kept, last_answers_kept}
use Rattle.topo_serve.proofs.Streaming.{ended_more, open_more, all_lines, these_ended, consumes_more, consumes_nothing}

-- so many bytes were taken, the lines that ended among them are answered, and this is kept of the last one
pub record IsServing (m : PlaneMap) (left_before left_after : Option (List ℕ)) (count : ℕ) (kept : List ℕ) (s t : ℕ) (a b : Out) : Type 0 where
  pub taken : List ℕ
  pub many : length taken ≡ count
  pub few : count ≤ most_bytes
  pub consumed : Consumes left_before left_after taken
  pub keeps : kept ≡ cut (open_behind [] taken)
  pub writes : Writes {X = Unit {0}} {E = Unit {0}} (Ok tt) a b (flat_map (answer m) (ended_behind [] taken))
  pub least : s + over_lines (found_by_reads m) (ended_behind [] taken) ≤ t
  pub most : t ≤ s + over_lines (words_of_line m) (ended_behind [] taken)

pub serving_none : (m : PlaneMap) (left : Option (List ℕ)) (s : ℕ) (out : Out) → IsServing m left left 0 [] s s out out
unfolding over_lines ended_behind open_behind
serving_none m left s out = record {
  taken = [];
  many = refl;
  few = omega arith;
  consumed = consumes_nothing left;
  keeps = refl;
  writes = writes_nothing tt out;
  least = omega arith;
  most = omega arith;
}

kept_twice : (kept xs : List ℕ) → kept ≡ cut xs → cut kept ≡ cut xs
kept_twice kept xs e = ap cut e ∙ cut_twice xs

pub serving_more : {X E : Type 0} (x : X) (m : PlaneMap) (left between after : Option (List ℕ)) (n : ℕ) (kept piece more : List ℕ) (s t u : ℕ) (a b c : Out)
    → IsServing m left between n kept s t a b → Consumes between after piece → n + length piece ≤ most_bytes → Writes {X = X} {E = E} (Ok x) b c (flat_map (answer m) (ended_behind kept piece))
    → more ≡ cut (open_behind kept piece) → t + over_lines (found_by_reads m) (ended_behind kept piece) ≤ u → u ≤ t + over_lines (words_of_line m) (ended_behind kept piece)
    → IsServing m left after (n + length piece) more s u a c
serving_more x m left between after n kept piece more s t u a b c p consumed fits w opens least most =
    let same : cut kept ≡ cut (open_behind [] p.taken) = kept_twice kept (open_behind [] p.taken) p.keeps in
    let ended : ended_behind [] (p.taken ++ piece) ≡ ended_behind [] p.taken ++ ended_behind (open_behind [] p.taken) piece = ended_more [] p.taken piece in
    record {
      taken = p.taken ++ piece;
      many = length-append p.taken piece ∙ ap (λ z. z + length piece) p.many;
      few = fits;
      consumed = consumes_more left between after p.taken piece p.consumed consumed;
      keeps = opens ∙ open_kept kept (open_behind [] p.taken) piece same ∙ ap cut (sym (open_more [] p.taken piece));
      writes = rw (ended, answers_more m (ended_behind [] p.taken) (ended_behind (open_behind [] p.taken) piece), ← answers_kept m kept (open_behind [] p.taken) piece same)
          (writes_more tt (Ok tt) a b c (flat_map (answer m) (ended_behind [] p.taken)) (flat_map (answer m) (ended_behind kept piece)) p.writes (writes_ok x tt b c (flat_map (answer m) (ended_behind kept piece)) w));
      least = omega (arith, p.least, least, found_kept m kept (open_behind [] p.taken) piece same, ap (over_lines (found_by_reads m)) ended, over_more (found_by_reads m) (ended_behind [] p.taken) (ended_behind (open_behind [] p.taken) piece));
      most = omega (arith, p.most, most, words_kept m kept (open_behind [] p.taken) piece same, ap (over_lines (words_of_line m)) ended, over_more (words_of_line m) (ended_behind [] p.taken) (ended_behind (open_behind [] p.taken) piece));
    }

-- where nothing is gathered at both ends
pub gained_all : (before after : Option (List ℕ)) (f g : ℕ) (bytes : List ℕ) → Gains (out_at before f []) (out_at after g []) bytes → Appends before after bytes
gained_all before after f g bytes p = rw (← (sym (append-nil p.0) ∙ p.1)) p.2

-- the bound over all lines is at least that over those that ended
over_ended : (f : List ℕ → ℕ) (taken : List ℕ) → over_lines f (lines taken) ≡ over_lines f (ended_behind [] taken) + over_lines f (last_line (open_behind [] taken))
over_ended f taken = ap (over_lines f) (all_lines taken) ∙ over_more f (ended_behind [] taken) (last_line (open_behind [] taken))

all_answers : (m : PlaneMap) (taken : List ℕ) → answers m taken ≡ flat_map (answer m) (ended_behind [] taken) ++ flat_map (answer m) (last_line (open_behind [] taken))
all_answers m taken = ap (flat_map (answer m)) (all_lines taken) ∙ answers_more m (ended_behind [] taken) (last_line (open_behind [] taken))

-- what is taken is no more than the script
taken_fits : (after : Option (List ℕ)) (taken script : List ℕ) → Consumes (Some script) after taken → length taken ≤ length script
taken_fits None taken script p = absurd p
taken_fits (Some ys) taken script p = omega (arith, ap length p, length-append taken ys)

-- so a fine script isn't too long
not_too_long : (c : Call) (taken : List ℕ) → Consumes c.script_before c.script_after taken → length taken ≡ most_bytes + 1 → IsFine c → ⊥
not_too_long c taken consumed past fine =
    let Taken : Option (List ℕ) → Type 0 = λ before. Consumes before c.script_after taken in
    let fits : length taken ≤ length fine.script = taken_fits c.script_after taken fine.script (subst Taken fine.told consumed) in
    omega (arith, fits, fine.short, past)

-- what was read for the lines that ended
reads_ended : (m : PlaneMap) (taken : List ℕ) (s t : ℕ) → s + over_lines (found_by_reads m) (ended_behind [] taken) ≤ t → t ≤ s + over_lines (words_of_line m) (ended_behind [] taken) → ReadsFor m (ended_lines taken) s t
reads_ended m taken s t least most = record { least = rw (these_ended taken) least; most = rw (these_ended taken) most }

-- the read failed
pub read_failed : (m : PlaneMap) (c : Call) (n : ℕ) (kept : List ℕ)
    → IsServing m c.script_before c.script_after n kept c.steps_before c.steps_after (out_at c.out_before c.out_faults_before []) (out_at c.out_after c.out_faults_after [])
    → Rose c.script_faults_before c.script_faults_after → c.script_faults_before ≤ c.script_faults_after → Serves m c (Err ReadFault)
read_failed m c n kept p rose more = record {
  taken = p.taken;
  consumed = p.consumed;
  ends = record {
    cause = rose;
    within = omega (arith, p.many, p.few);
    gained = rw (these_ended p.taken) (gained_all c.out_before c.out_after c.out_faults_before c.out_faults_after (flat_map (answer m) (ended_behind [] p.taken)) p.writes.gained);
    reads = reads_ended m p.taken c.steps_before c.steps_after p.least p.most;
    out_stays = p.writes.stays;
  };
  script_faults = more;
  out_faults = p.writes.never_falls;
  complete = λ fine. absurd (fine.no_script_fault rose);
}

-- a byte past the limit was taken
pub too_long : (m : PlaneMap) (c : Call) (between : Option (List ℕ)) (n : ℕ) (kept piece : List ℕ)
    → IsServing m c.script_before between n kept c.steps_before c.steps_after (out_at c.out_before c.out_faults_before []) (out_at c.out_after c.out_faults_after [])
    → n ≡ most_bytes → length piece ≡ 1 → Consumes between c.script_after piece → c.script_faults_after ≡ c.script_faults_before → Serves m c (Err ScriptTooLong)
too_long m c between n kept piece p full one consumed stays =
    let limit : take most_bytes (p.taken ++ piece) ≡ p.taken =
    take-append-le most_bytes p.taken piece (omega (arith, p.many, full)) ∙ take_all most_bytes p.taken (omega (arith, p.many, full)) in
    let past : length (p.taken ++ piece) ≡ most_bytes + 1 = omega (arith, length-append p.taken piece, p.many, full, one) in
    let all : Consumes c.script_before c.script_after (p.taken ++ piece) = consumes_more c.script_before between c.script_after p.taken piece p.consumed consumed in
    record {
      taken = p.taken ++ piece;
      consumed = all;
      ends = record {
        past = past;
        gained = rw (limit, these_ended p.taken) (gained_all c.out_before c.out_after c.out_faults_before c.out_faults_after (flat_map (answer m) (ended_behind [] p.taken)) p.writes.gained);
        reads = rw limit (reads_ended m p.taken c.steps_before c.steps_after p.least p.most);
        script_stays = stays;
        out_stays = p.writes.stays;
      };
      script_faults = omega (arith, stays);
      out_faults = p.writes.never_falls;
      complete = λ fine. absurd (not_too_long c (p.taken ++ piece) all past fine);
    }

-- writing the answers to a piece failed
pub piece_failed : {F : Type 0} (f : F) (m : PlaneMap) (c : Call) (between : Option (List ℕ)) (n : ℕ) (kept piece : List ℕ) (t : ℕ) (b : Out) (text : List ℕ)
    → IsServing m c.script_before between n kept c.steps_before t (out_at c.out_before c.out_faults_before []) b
    → Consumes between c.script_after piece → n + length piece ≤ most_bytes
    → Writes {X = Unit {0}} {E = F} (Err f) b (out_at c.out_after c.out_faults_after text) (flat_map (answer m) (ended_behind kept piece))
    → t ≤ c.steps_after → c.steps_after ≤ t + over_lines (words_of_line m) (ended_behind kept piece) → c.script_faults_after ≡ c.script_faults_before → Serves m c (Err WriteFault)
piece_failed {F = F} f m c between n kept piece t b text p consumed fits w grows most stays =
    let same : cut kept ≡ cut (open_behind [] p.taken) = kept_twice kept (open_behind [] p.taken) p.keeps in
    let few : length (p.taken ++ piece) ≤ most_bytes = omega (arith, length-append p.taken piece, p.many, fits) in
    let ended : ended_behind [] (p.taken ++ piece) ≡ ended_behind [] p.taken ++ ended_behind (open_behind [] p.taken) piece = ended_more [] p.taken piece in
    let text_ended : flat_map (answer m) (ended_behind [] (p.taken ++ piece)) ≡ flat_map (answer m) (ended_behind [] p.taken) ++ flat_map (answer m) (ended_behind kept piece) =
    ap (flat_map (answer m)) ended ∙ answers_more m (ended_behind [] p.taken) (ended_behind (open_behind [] p.taken) piece)
    ∙ ap (λ z. flat_map (answer m) (ended_behind [] p.taken) ++ z) (sym (answers_kept m kept (open_behind [] p.taken) piece same)) in
    let all : Writes {X = Unit {0}} {E = F} (Err f) (out_at c.out_before c.out_faults_before []) (out_at c.out_after c.out_faults_after text)
    (flat_map (answer m) (ended_behind [] p.taken) ++ flat_map (answer m) (ended_behind kept piece)) =
    writes_more tt (Err f) (out_at c.out_before c.out_faults_before []) b (out_at c.out_after c.out_faults_after text) (flat_map (answer m) (ended_behind [] p.taken)) (flat_map (answer m) (ended_behind kept piece)) p.writes w in
    let whole : Writes {X = Unit {0}} {E = F} (Err f) (out_at c.out_before c.out_faults_before []) (out_at c.out_after c.out_faults_after text) (answers m (p.taken ++ piece)) =
    rw (all_answers m (p.taken ++ piece), text_ended) (writes_failed (Err f) (λ e. Unit {0}) f (out_at c.out_before c.out_faults_before []) (out_at c.out_after c.out_faults_after text)
    (flat_map (answer m) (ended_behind [] p.taken) ++ flat_map (answer m) (ended_behind kept piece)) (flat_map (answer m) (last_line (open_behind [] (p.taken ++ piece)))) tt all) in
    record {
      taken = p.taken ++ piece;
      consumed = consumes_more c.script_before between c.script_after p.taken piece p.consumed consumed;
      ends = record {
        cause = whole.cause;
        within = few;
        gained = whole.part;
        grows = omega (arith, p.least, grows);
        most = omega (
          arith,
          p.most,
          most,
          words_kept m kept (open_behind [] p.taken) piece same,
          over_ended (words_of_line m) (p.taken ++ piece),
          ap (over_lines (words_of_line m)) ended,
          over_more (words_of_line m) (ended_behind [] p.taken) (ended_behind (open_behind [] p.taken) piece),
        );
        script_stays = stays;
      };
      script_faults = omega (arith, stays);
      out_faults = whole.never_falls;
      complete = λ fine. absurd (fine.no_out_fault whole.cause);
    }

-- at the end of the script no byte is left
read_to_end : (before between after : Option (List ℕ)) (taken : List ℕ) → Consumes before between taken → IsEndAt between 1 0 → Consumes between after [] → IsReadToEnd before after
read_to_end None between after taken p e q = tt
read_to_end (Some a) None after taken p e q = absurd p
read_to_end (Some a) (Some b) None taken p e q = absurd q
read_to_end (Some a) (Some b) (Some c) taken p e q = ap Some (sym q ∙ e (omega arith) refl)

consumed_all : (before between after : Option (List ℕ)) (taken : List ℕ) → Consumes before between taken → Consumes between after [] → Consumes before after taken
consumed_all before between after taken p q = rw (← append-nil taken) (consumes_more before between after taken [] p q)

last_text : (m : PlaneMap) (taken kept : List ℕ) → kept ≡ cut (open_behind [] taken) → flat_map (answer m) (ended_behind [] taken) ++ flat_map (answer m) (last_line kept) ≡ answers m taken
last_text m taken kept e =
    ap (λ z. flat_map (answer m) (ended_behind [] taken) ++ z) (ap (λ z. flat_map (answer m) (last_line z)) e ∙ last_answers_kept m (open_behind [] taken)) ∙ sym (all_answers m taken)

-- the script ended, and its last line was answered
pub ended_well : {X E : Type 0} (x : X) (m : PlaneMap) (c : Call) (between : Option (List ℕ)) (n : ℕ) (kept : List ℕ) (t : ℕ) (b : Out) (text : List ℕ)
    → IsServing m c.script_before between n kept c.steps_before t (out_at c.out_before c.out_faults_before []) b
    → IsEndAt between 1 0 → Consumes between c.script_after [] → Writes {X = X} {E = E} (Ok x) b (out_at c.out_after c.out_faults_after text) (flat_map (answer m) (last_line kept)) → text ≡ []
    → t + over_lines (found_by_reads m) (last_line kept) ≤ c.steps_after → c.steps_after ≤ t + over_lines (words_of_line m) (last_line kept) → c.script_faults_after ≡ c.script_faults_before
    → Serves m c (Ok tt)
ended_well {X = X} {E = E} x m c between n kept t b text p end consumed w empty least most stays =
    let few : length p.taken ≤ most_bytes = omega (arith, p.many, p.few) in
    let whole : Writes {X = X} {E = E} (Ok x) (out_at c.out_before c.out_faults_before []) (out_at c.out_after c.out_faults_after text) (answers m p.taken) =
    rw (← last_text m p.taken kept p.keeps)
    (writes_more tt (Ok x) (out_at c.out_before c.out_faults_before []) b (out_at c.out_after c.out_faults_after text) (flat_map (answer m) (ended_behind [] p.taken)) (flat_map (answer m) (last_line kept)) p.writes w) in
    let gained : Gains (out_at c.out_before c.out_faults_before []) (out_at c.out_after c.out_faults_after []) (answers m p.taken) = rw (← empty) whole.gained in
    record {
      taken = p.taken;
      consumed = consumed_all c.script_before between c.script_after p.taken p.consumed consumed;
      ends = record {
        whole = read_to_end c.script_before between c.script_after p.taken p.consumed end consumed;
        within = few;
        gained = gained_all c.out_before c.out_after c.out_faults_before c.out_faults_after (answers m p.taken) gained;
        reads = record {
          least = omega (arith, p.least, least, over_ended (found_by_reads m) p.taken, ap (λ z. over_lines (found_by_reads m) (last_line z)) p.keeps, last_found_kept m (open_behind [] p.taken));
          most = omega (arith, p.most, most, over_ended (words_of_line m) p.taken, ap (λ z. over_lines (words_of_line m) (last_line z)) p.keeps, last_words_kept m (open_behind [] p.taken));
        };
        script_stays = stays;
        out_stays = whole.stays;
      };
      script_faults = omega (arith, stays);
      out_faults = whole.never_falls;
      complete = λ fine. refl;
    }

-- the script ended, and writing the answer to its last line failed
pub end_failed : {X F : Type 0} (f : F) (m : PlaneMap) (c : Call) (between : Option (List ℕ)) (n : ℕ) (kept : List ℕ) (t : ℕ) (b : Out) (text : List ℕ)
    → IsServing m c.script_before between n kept c.steps_before t (out_at c.out_before c.out_faults_before []) b
    → Consumes between c.script_after [] → Writes {X = X} {E = F} (Err f) b (out_at c.out_after c.out_faults_after text) (flat_map (answer m) (last_line kept))
    → t ≤ c.steps_after → c.steps_after ≤ t + over_lines (words_of_line m) (last_line kept) → c.script_faults_after ≡ c.script_faults_before
    → Serves m c (Err WriteFault)
end_failed {X = X} {F = F} f m c between n kept t b text p consumed w grows most stays =
    let few : length p.taken ≤ most_bytes = omega (arith, p.many, p.few) in
    let whole : Writes {X = X} {E = F} (Err f) (out_at c.out_before c.out_faults_before []) (out_at c.out_after c.out_faults_after text) (answers m p.taken) =
    rw (← last_text m p.taken kept p.keeps)
    (writes_more tt (Err f) (out_at c.out_before c.out_faults_before []) b (out_at c.out_after c.out_faults_after text) (flat_map (answer m) (ended_behind [] p.taken)) (flat_map (answer m) (last_line kept)) p.writes w) in
    record {
      taken = p.taken;
      consumed = consumed_all c.script_before between c.script_after p.taken p.consumed consumed;
      ends = record {
        cause = whole.cause;
        within = few;
        gained = whole.part;
        grows = omega (arith, p.least, grows);
        most = omega (arith, p.most, most, over_ended (words_of_line m) p.taken, ap (λ z. over_lines (words_of_line m) (last_line z)) p.keeps, last_words_kept m (open_behind [] p.taken));
        script_stays = stays;
      };
      script_faults = omega (arith, stays);
      out_faults = whole.never_falls;
      complete = λ fine. absurd (fine.no_out_fault whole.cause);
    }
