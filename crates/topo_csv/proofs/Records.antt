-- The records that a reader has left, from one record to the next.
use Rattle.std.proofs.Common.{◌≡◌, ℕ, zero, suc, ◌+◌, ◌-◌, ◌<◌, ◌≤◌, inl, inr, Bool, true, false, ◌&&◌, ◌==◌, List, [], ◌∷◌, ◌++◌, length, refl, sym, ap, ◌∙◌, arith, Option, Some, None, IsSome, if◌then◌else◌, Bor, add-one}
use Rattle.std.proofs.lemmas.Bool.{cases_Bool}
use Rattle.std.proofs.lemmas.Option.{same_Some}
use Rattle.csv.specs.Machine.{Read, next_record, step, in_field, start_field, start_record, is_end, ends_at_end, after_end, ends_with, is_byte, fields_after, field_after, carriage_return}
use Rattle.csv.specs.Reading.{records_from, records_next, Reached, ReadRecord, default_config, is_flexible, reader_state, took_first}
use Rattle.csv.specs.declared.parser.Config.{Config}
use Rattle.csv.specs.declared.parser.State.{State}
use Rattle.csv.specs.declared.parser.State.TheVariants as st
use Rattle.csv.specs.declared.parser.Action.{Action}
use Rattle.csv.specs.declared.parser.Action.TheVariants as act
use Rattle.csv.specs.declared.parser.Terminator.{Terminator}
use Rattle.csv.specs.declared.parser.Terminator.TheVariants as term
use Rattle.csv.specs.declared.reader.Reader.{Reader}
use Rattle.csv.proofs.ReadFacts.{rows-end, rows-more}
use Rattle.topo_csv.specs.Left.{IsReading, bytes_left, left_in, records_of}

-- a byte that ends a record leaves a state between two records
Clean : State × Action → Type 0
Clean p = is_end p.1 ≡ true → ends_at_end p.0 ≡ false

clean_if : (b : Bool) (p q : State × Action) → Clean p → Clean q → Clean (if b then p else q)
clean_if true p q h k = h
clean_if false p q h k = k

skips : (s : State) → Clean (s, act.Skip)
unfolding Clean
skips s h = cc

copies : (s : State) → Clean (s, act.Copy)
unfolding Clean
copies s h = cc

after_end_clean : (t : Terminator) (c : ℕ) → ends_at_end (after_end t c) ≡ false
after_end_clean term.CRLF c = elim (cases_Bool (c == carriage_return)) [ inl e ↦ rw e refl | inr e ↦ rw e refl ]
after_end_clean (term.Any t) c = refl

clean_in_field : (cfg : Config) (c : ℕ) → Clean (in_field cfg c)
unfolding Clean
clean_in_field cfg c =
    clean_if (c == cfg.delimiter) _ _ (λ h. cc) (clean_if (ends_with cfg.terminator c) _ _ (λ h. after_end_clean cfg.terminator c) (copies st.InField))

clean_start_field : (cfg : Config) (c : ℕ) → Clean (start_field cfg c)
clean_start_field cfg c = clean_if (cfg.quoting && (c == cfg.quote)) _ _ (skips st.InQuoted) (clean_in_field cfg c)

clean_start_record : (cfg : Config) (c : ℕ) → Clean (start_record cfg c)
clean_start_record cfg c = clean_if (ends_with cfg.terminator c) _ _ (skips st.StartRecord) (clean_if (is_byte cfg.comment c) _ _ (skips st.InComment) (clean_start_field cfg c))

clean_step : (cfg : Config) (s : State) (c : ℕ) → Clean (step cfg s c)
clean_step cfg st.StartRecord c = clean_start_record cfg c
clean_step cfg st.StartField c = clean_start_field cfg c
clean_step cfg st.InField c = clean_in_field cfg c
clean_step cfg st.InQuoted c = clean_if (cfg.quoting && (c == cfg.quote)) _ _ (skips st.AfterQuote) (clean_if (cfg.quoting && is_byte cfg.escape c) _ _ (skips st.InEscape) (copies st.InQuoted))
clean_step cfg st.InEscape c = copies st.InQuoted
clean_step cfg st.AfterQuote c = clean_if (cfg.quoting && cfg.double_quote && (c == cfg.quote)) _ _ (copies st.InQuoted) (clean_in_field cfg c)
clean_step cfg st.InComment c = clean_if (c == 10) _ _ (skips st.StartRecord) (skips st.InComment)
clean_step cfg st.AfterCr c = clean_if (c == 10) _ _ (skips st.StartRecord) (clean_start_record cfg c)

-- a record that was read, between two records and with less behind it
record LeavesLess (xs : List ℕ) (r : Read) : Type 0 where
  between : ends_at_end r.1 ≡ false
  less : length r.2 ≤ length xs - 1

leaves_less : (cfg : Config) (xs : List ℕ) (s : State) (f : List (List ℕ)) (p : List ℕ) (r : Read) → next_record cfg s f p xs ≡ Some r → LeavesLess xs r
unfolding next_record Clean
leaves_less cfg [] s f p r e = elim (cases_Bool (ends_at_end s)) [
  | inl h ↦
      let is : ◌≡◌ {A = Read} (f ++ (p ∷ []), st.StartRecord, []) r = same_Some _ r (rw h at e) in
      record { between = ap (λ (x : Read). ends_at_end x.1) (sym is); less = let le = ap (λ (x : Read). length x.2) is in omega arith }
  | inr h ↦ let is : ◌≡◌ {A = Option Read} None (Some r) = rw h at e in cc
]
leaves_less cfg (c ∷ rest) s f p r e = elim (cases_Bool (is_end (step cfg s c).1)) [
  | inl h ↦
      let is : ◌≡◌ {A = Read} (fields_after (step cfg s c).1 f p, (step cfg s c).0, rest) r = same_Some _ r (rw h at e) in
      record { between = ap (λ (x : Read). ends_at_end x.1) (sym is) ∙ clean_step cfg s c h; less = let le = ap (λ (x : Read). length x.2) is in omega arith }
  | inr h ↦
      let more = leaves_less cfg rest (step cfg s c).0 (fields_after (step cfg s c).1 f p) (field_after (step cfg s c).1 c p) r (rw h at e) in
      record { between = more.between; less = let le = more.less in omega arith }
]

-- a record that was read leaves a state between two records
pub read_between : (cfg : Config) (xs : List ℕ) (s : State) (f : List (List ℕ)) (p : List ℕ) (r : Read) → next_record cfg s f p xs ≡ Some r → ends_at_end r.1 ≡ false
read_between cfg xs s f p r e = (leaves_less cfg xs s f p r e).between

none_at_end : (cfg : Config) (s : State) → ends_at_end s ≡ false → next_record cfg s [] [] [] ≡ None
unfolding next_record
none_at_end cfg s h = rw h refl

-- a record between two records takes at least one byte
fewer : (cfg : Config) (s : State) (xs : List ℕ) (r : Read) → ends_at_end s ≡ false → next_record cfg s [] [] xs ≡ Some r → length r.2 < length xs
fewer cfg s [] r h e = let no : ◌≡◌ {A = Option Read} None (Some r) = sym (none_at_end cfg s h) ∙ e in cc
fewer cfg s (x ∷ xs) r h e = let left = leaves_less cfg (x ∷ xs) s [] [] r e in let le = left.less in omega arith

same_next : (cfg : Config) (n m : ℕ) → ((s : State) (xs : List ℕ) → ends_at_end s ≡ false → length xs < n → length xs < m → records_from cfg n s xs ≡ records_from cfg m s xs)
    → (s : State) (xs : List ℕ) → ends_at_end s ≡ false → length xs < suc n → length xs < suc m → (o : Option Read) → next_record cfg s [] [] xs ≡ o
    → records_next (records_from cfg n) o ≡ records_next (records_from cfg m) o
same_next cfg n m same s xs h le1 le2 None e = refl
same_next cfg n m same s xs h le1 le2 (Some r) e =
    let left = leaves_less cfg xs s [] [] r e in
    let less = fewer cfg s xs r h e in
    ap (λ z. r.0 ∷ z) (same r.1 r.2 left.between (omega arith) (omega arith))

-- all records are given, whatever the number of turns, where there are more turns than bytes
same_records : (cfg : Config) (n m : ℕ) (s : State) (xs : List ℕ) → ends_at_end s ≡ false → length xs < n → length xs < m → records_from cfg n s xs ≡ records_from cfg m s xs
unfolding records_from
same_records cfg zero m s xs h le1 le2 = absurd (omega arith)
same_records cfg (suc n) zero s xs h le1 le2 = absurd (omega arith)
same_records cfg (suc n) (suc m) s xs h le1 le2 = same_next cfg n m (same_records cfg n m) s xs h le1 le2 (next_record cfg s [] [] xs) refl

-- the records behind one that was read
pub records_behind : (cfg : Config) (s : State) (xs : List ℕ) (r : Read) → ends_at_end s ≡ false → next_record cfg s [] [] xs ≡ Some r
    → records_from cfg (length xs + 1) s xs ≡ r.0 ∷ records_from cfg (length r.2 + 1) r.1 r.2
unfolding records_from
records_behind cfg s xs r h e =
    let left = leaves_less cfg xs s [] [] r e in
    let less = fewer cfg s xs r h e in
    rw (add-one, e) (ap (λ z. r.0 ∷ z) (same_records cfg (length xs) (length r.2 + 1) r.1 r.2 left.between less (omega arith)))

pub no_records : (cfg : Config) (s : State) (xs : List ℕ) → next_record cfg s [] [] xs ≡ None → records_from cfg (length xs + 1) s xs ≡ []
unfolding records_from
no_records cfg s xs e = rw (add-one, e) refl

known_bytes : (o : Option (List ℕ)) → IsSome o → (xs : List ℕ) × (o ≡ Some xs)
known_bytes None h = absurd (cc h)
known_bytes (Some xs) h = (xs, refl)

-- what a read of a record did, with the bytes before it
record Took (a b : Reader (Bor (List ℕ))) (fields : List (List ℕ)) : Type 0 where
  bytes : List ℕ
  record_read : Read
  before : bytes_left a ≡ Some bytes
  reads : next_record default_config (reader_state a) [] [] bytes ≡ Some record_read
  fields_read : fields ≡ record_read.0
  state : record_read.1 ≡ reader_state b
  behind : bytes_left b ≡ Some record_read.2

took : (a b : Reader (Bor (List ℕ))) (fields : List (List ℕ)) → IsReading a → ReadRecord (λ bytes. Some bytes.now) a b true fields → Took a b fields
unfolding Reached
took a b fields going r =
    let (xs, before) = known_bytes (bytes_left a) going.known in
    let (ys, behind, reached) = rows-more (λ bytes. Some bytes.now) a b fields default_config (reader_state a) xs xs [] going.dialect before (refl, refl) r in
    let (p, reads, same, end) = reached in
    record { bytes = xs; record_read = p; before = before; reads = reads; fields_read = same; state = end.0; behind = behind ∙ ap Some (sym end.1) }

-- a reader that gave a record goes on
pub reads_on : (a b : Reader (Bor (List ℕ))) (fields : List (List ℕ)) → IsReading a → ReadRecord (λ bytes. Some bytes.now) a b true fields → took_first b ≡ true → is_flexible b ≡ is_flexible a → IsReading b
reads_on a b fields going r first same =
    let t = took a b fields going r in
    let left = leaves_less default_config t.bytes (reader_state a) [] [] t.record_read t.reads in
    record {
      dialect = r.2 ∙ going.dialect;
      plain = r.3 ∙ going.plain;
      flexible = same ∙ going.flexible;
      ready = inl first;
      known = rw t.behind refl;
      between = ap ends_at_end (sym t.state) ∙ left.between;
    }

-- a record that was given is the first of those that were left
pub gives_first : (a b : Reader (Bor (List ℕ))) (fields : List (List ℕ)) → IsReading a → ReadRecord (λ bytes. Some bytes.now) a b true fields → left_in a ≡ fields ∷ left_in b
unfolding left_in
gives_first a b fields going r =
    let t = took a b fields going r in
    ap (λ o. records_of o (reader_state a)) t.before
    ∙ records_behind default_config (reader_state a) t.bytes t.record_read going.between t.reads
    ∙ ap (λ f. f ∷ records_of (Some (t.record_read).2) (t.record_read).1) (sym t.fields_read)
    ∙ ap (λ s. fields ∷ records_of (Some (t.record_read).2) s) t.state
    ∙ ap (λ o. fields ∷ records_of o (reader_state b)) (sym t.behind)

-- where none was given, none was left
pub gives_none : (a b : Reader (Bor (List ℕ))) (fields : List (List ℕ)) → IsReading a → ReadRecord (λ bytes. Some bytes.now) a b false fields → left_in a ≡ []
unfolding left_in
gives_none a b fields going r =
    let (xs, before) = known_bytes (bytes_left a) going.known in
    rw before (no_records default_config (reader_state a) xs (rows-end (λ bytes. Some bytes.now) a b fields default_config xs going.dialect before r))
