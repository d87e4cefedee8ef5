-- Records whose fields are not quoted, byte by byte.
use Rattle.std.proofs.Common.{◌≡◌, ◌≢◌, ℕ, zero, suc, subst, ◌+◌, ◌-◌, ◌<◌, ◌≤◌, ◌==◌, ◌||◌, ◌⊎◌, inl, inr, Bool, true, false, if◌then◌else◌, List, [], ◌∷◌, ◌++◌, length, take, drop, get_or, Some, refl, sym, ap, ◌∙◌, arith}
use Rattle.std.proofs.lemmas.List.{drop_more, get_or_append_left, get_or-drop, length-append, length-drop}
use Rattle.std.proofs.Math.Seq.{take-suc}
use Rattle.std.proofs.lemmas.Bool.Decides.{eqb_tells}
use Rattle.std.specs.List.{slice_range}
use Rattle.csv.specs.Machine.{next_record, step}
use Rattle.csv.specs.Reading.{default_config}
use Rattle.csv.specs.declared.parser.Action.{Action}
use Rattle.csv.specs.declared.parser.Action.TheVariants as csv
use Rattle.csv.specs.declared.parser.State.{State}
use Rattle.csv.specs.declared.parser.State.TheVariants as st
use Rattle.csv_records.specs.Fields.{EndsWithin, fields_from, start_after}
use Rattle.csv_records.specs.Machine.{settled}
use Rattle.csv_records.specs.Records.{IsPlainRecord, SameNext, ends_line}
use Rattle.csv_records.specs.Scanned.{Scanned, is_special, place_at}
use Rattle.csv_records.proofs.FieldFacts.{one_more_end, one_more_field, start_after-last}
use Rattle.csv_records.proofs.MachineFacts.{after_step, next_is}

-- ---- the steps

comma_step : (i start : ℕ) → step default_config (place_at i start) 44 ≡ (st.StartField, csv.EndField)
comma_step i start = by_place (i == 0) (i == start) where
  by_place : (first fresh : Bool) → step default_config (if first then st.StartRecord else if fresh then st.StartField else st.InField) 44 ≡ (st.StartField, csv.EndField)
  by_place true fresh = refl
  by_place false true = refl
  by_place false false = refl

abbrev Test : ℕ → ℕ → Type 0
Test a b = (((a == b) ≡ true) × (a ≡ b)) ⊎ (((a == b) ≡ false) × (a ≢ b))

not_equal : (a b : ℕ) → a ≢ b → (a == b) ≡ false
not_equal a b other = by_test (eqb_tells a b) where
  by_test : Test a b → (a == b) ≡ false
  by_test (inl (e, same)) = absurd (other same)
  by_test (inr (e, differ)) = e

-- a byte that only joins a field
abbrev by_bits : (comma cr lf : Bool) → State × Action
by_bits comma cr lf = if comma then (st.StartField, csv.EndField) else if cr || lf then ((if cr then st.AfterCr else st.StartRecord), csv.EndRecord) else (st.InField, csv.Copy)

joins : (comma cr lf : Bool) → comma ≡ false → (cr || lf) ≡ false → by_bits comma cr lf ≡ (st.InField, csv.Copy)
joins comma cr lf none line = rw (none, line) refl

in_field : (byte : ℕ) → byte ≢ 44 → ends_line byte ≡ false → step default_config st.InField byte ≡ (st.InField, csv.Copy)
in_field byte comma line = joins (byte == 44) (byte == 13) (byte == 10) (not_equal byte 44 comma) line

unquoted : (quote : Bool) (more : State × Action) → quote ≡ false → (if quote then (st.InQuoted, csv.Skip) else more) ≡ more
unquoted quote more none = rw none refl

unended : (line : Bool) (more : State × Action) → line ≡ false → (if line then (st.StartRecord, csv.Skip) else more) ≡ more
unended line more none = rw none refl

start_field : (byte : ℕ) → byte ≢ 44 → ends_line byte ≡ false → byte ≢ 34 → step default_config st.StartField byte ≡ (st.InField, csv.Copy)
start_field byte comma line quote = unquoted (byte == 34) _ (not_equal byte 34 quote) ∙ in_field byte comma line

start_record : (byte : ℕ) → byte ≢ 44 → ends_line byte ≡ false → byte ≢ 34 → step default_config st.StartRecord byte ≡ (st.InField, csv.Copy)
start_record byte comma line quote = unended (ends_line byte) _ line ∙ start_field byte comma line quote

other_step : (i start byte : ℕ) → byte ≢ 44 → ends_line byte ≡ false → (byte ≡ 34 → i ≢ start) → start ≤ i → step default_config (place_at i start) byte ≡ (st.InField, csv.Copy)
other_step i start byte comma line quoted behind = by_tests (eqb_tells i 0) (eqb_tells i start) where
  by_tests : Test i 0 → Test i start → step default_config (place_at i start) byte ≡ (st.InField, csv.Copy)
  by_tests (inl (e, first)) fresh = rw e (start_record byte comma line (λ quote. quoted quote (omega (arith, first, behind))))
  by_tests (inr (e, later)) (inl (f, fresh)) = rw (e, f) (start_field byte comma line (λ quote. quoted quote fresh))
  by_tests (inr (e, later)) (inr (f, within)) = rw (e, f) (in_field byte comma line)

-- a byte that ends a line
is_end_of_line : (byte : ℕ) → ends_line byte ≡ true → (byte ≡ 13) ⊎ (byte ≡ 10)
is_end_of_line byte line = by_tests (eqb_tells byte 13) (eqb_tells byte 10) where
  by_tests : Test byte 13 → Test byte 10 → (byte ≡ 13) ⊎ (byte ≡ 10)
  by_tests (inl (e, cr)) lf = inl cr
  by_tests (inr (e, other)) (inl (f, lf)) = inr lf
  by_tests (inr (e, other)) (inr (f, none)) = absurd (let h = rw (e, f) at line in cc h)

line_step : (i start byte : ℕ) → i ≢ 0 → ends_line byte ≡ true → (s : State) × (settled s ≡ st.StartRecord) × (step default_config (place_at i start) byte ≡ (s, csv.EndRecord))
line_step i start byte later line = by_byte (is_end_of_line byte line) where
  by_place : (fresh : Bool) (byte : ℕ) (s : State) → (byte ≡ 13) ⊎ (byte ≡ 10) → step default_config st.StartField byte ≡ (s, csv.EndRecord) → step default_config st.InField byte ≡ (s, csv.EndRecord)
      → step default_config (if fresh then st.StartField else st.InField) byte ≡ (s, csv.EndRecord)
  by_place true byte s is a b = a
  by_place false byte s is a b = b

  at_place : (byte : ℕ) (s : State) → step default_config st.StartField byte ≡ (s, csv.EndRecord) → step default_config st.InField byte ≡ (s, csv.EndRecord) → (byte ≡ 13) ⊎ (byte ≡ 10)
      → step default_config (place_at i start) byte ≡ (s, csv.EndRecord)
  at_place byte s a b is = rw (not_equal i 0 later) (by_place (i == start) byte s is a b)

  by_byte : (byte ≡ 13) ⊎ (byte ≡ 10) → (s : State) × (settled s ≡ st.StartRecord) × (step default_config (place_at i start) byte ≡ (s, csv.EndRecord))
  by_byte (inl cr) = rw cr (st.AfterCr, refl, at_place 13 st.AfterCr refl refl (inl refl))
  by_byte (inr lf) = rw lf (st.StartRecord, refl, at_place 10 st.StartRecord refl refl (inr refl))

-- ---- an end of a line is no record

line_passed : (byte : ℕ) (rest : List ℕ) → ends_line byte ≡ true → next_record default_config st.StartRecord [] [] (byte ∷ rest) ≡ next_record default_config st.StartRecord [] [] rest
line_passed byte rest line = by_byte (is_end_of_line byte line) where
  by_byte : (byte ≡ 13) ⊎ (byte ≡ 10) → next_record default_config st.StartRecord [] [] (byte ∷ rest) ≡ next_record default_config st.StartRecord [] [] rest
  by_byte (inl cr) = rw cr (next_is st.StartRecord [] [] 13 rest)
  by_byte (inr lf) = rw lf (next_is st.StartRecord [] [] 10 rest)

-- the byte at an index, where others come after the bytes
byte_at : (bytes more : List ℕ) (i : ℕ) → i < length bytes → drop i (bytes ++ more) ≡ get_or bytes i 0 ∷ drop (i + 1) (bytes ++ more)
byte_at bytes more i lt =
    drop_more (bytes ++ more) i 0 (omega (arith, lt, length-append bytes more)) ∙ ap (λ b. b ∷ drop (i + 1) (bytes ++ more)) (get_or_append_left bytes more 0 i lt)

pub one_passed : (bytes : List ℕ) (i : ℕ) → i < length bytes → ends_line (get_or bytes i 0) ≡ true → (more : List ℕ) → SameNext (bytes ++ more) (drop i (bytes ++ more)) → SameNext (bytes ++ more) (drop (i + 1) (bytes ++ more))
one_passed bytes i lt line more same = same ∙ ap (next_record default_config st.StartRecord [] []) (byte_at bytes more i lt) ∙ line_passed (get_or bytes i 0) (drop (i + 1) (bytes ++ more)) line

-- ---- the scan

pub scan_starts : (bytes ends : List ℕ) → ends ≡ [] → Scanned bytes ends 0 0
unfolding EndsWithin start_after fields_from
scan_starts bytes ends none = rw none record { within = tt; starts = refl; behind = omega arith; leads = λ more. refl }

-- the state after a field ended, and within one
fresh_place : (i : ℕ) → place_at (i + 1) (i + 1) ≡ st.StartField
fresh_place i = rw (not_equal (i + 1) 0 (omega arith), same (i + 1)) refl where
  same : (n : ℕ) → (n == n) ≡ true
  same n = by_test (eqb_tells n n) where
    by_test : Test n n → (n == n) ≡ true
    by_test (inl (e, is)) = e
    by_test (inr (e, differ)) = absurd (differ refl)

inner_place : (i start : ℕ) → start ≤ i → place_at (i + 1) start ≡ st.InField
inner_place i start behind = rw (not_equal (i + 1) 0 (omega arith), not_equal (i + 1) start (omega (arith, behind))) refl

longer_part : (xs : List ℕ) (a b : ℕ) → a ≤ b → b < length xs → slice_range xs a (b + 1) ≡ slice_range xs a b ++ get_or xs b 0 ∷ []
longer_part xs a b le lt =
    let more : b + 1 - a ≡ suc (b - a) = omega (arith, le) in
    let at : a + (b - a) ≡ b = omega (arith, le) in
    ap (λ n. take n (drop a xs)) more
    ∙ take-suc (drop a xs) (b - a) 0 (omega (arith, le, lt, length-drop a xs))
    ∙ ap (λ x. slice_range xs a b ++ x ∷ []) (get_or-drop a xs (b - a) 0 ∙ ap (λ n. get_or xs n 0) at)

no_part : (xs : List ℕ) (a : ℕ) → slice_range xs a a ≡ []
no_part xs a = let none : a - a ≡ 0 = omega arith in ap (λ n. take n (drop a xs)) none

pub field_ended : (bytes ends new : List ℕ) (start i : ℕ) → Scanned bytes ends start i → i < length bytes → get_or bytes i 0 ≡ 44 → new ≡ ends ++ i ∷ [] → Scanned bytes new (i + 1) (i + 1)
field_ended bytes ends new start i so lt comma is = rw is record {
  within = one_more_end (length bytes) 0 i ends so.within (omega (arith, so.starts, so.behind)) (omega (arith, lt));
  starts = start_after-last 0 i ends;
  behind = omega arith;
  leads = λ more.
      so.leads more
      ∙ ap (next_record default_config (place_at i start) (fields_from bytes 0 ends) (slice_range bytes start i)) (byte_at bytes more i lt ∙ ap (λ b. b ∷ drop (i + 1) (bytes ++ more)) comma)
      ∙ next_is (place_at i start) (fields_from bytes 0 ends) (slice_range bytes start i) 44 (drop (i + 1) (bytes ++ more))
      ∙ ap (after_step (fields_from bytes 0 ends) (slice_range bytes start i) 44 (drop (i + 1) (bytes ++ more))) (comma_step i start)
      ∙ (λ j. next_record default_config (sym (fresh_place i) j) (all j) (sym (no_part bytes (i + 1)) j) (drop (i + 1) (bytes ++ more)));
} where
  all : fields_from bytes 0 ends ++ (slice_range bytes start i ∷ []) ≡ fields_from bytes 0 (ends ++ i ∷ [])
  all = sym (one_more_field bytes 0 i ends ∙ ap (λ n. fields_from bytes 0 ends ++ slice_range bytes n i ∷ []) so.starts)

pub byte_joined : (bytes ends : List ℕ) (start i : ℕ) → Scanned bytes ends start i → i < length bytes → get_or bytes i 0 ≢ 44 → ends_line (get_or bytes i 0) ≡ false → (get_or bytes i 0 ≡ 34 → i ≢ start) → Scanned bytes ends start (i + 1)
byte_joined bytes ends start i so lt comma line quoted = record {
  within = so.within;
  starts = so.starts;
  behind = omega (arith, so.behind);
  leads = λ more.
      so.leads more
      ∙ ap (next_record default_config (place_at i start) (fields_from bytes 0 ends) (slice_range bytes start i)) (byte_at bytes more i lt)
      ∙ next_is (place_at i start) (fields_from bytes 0 ends) (slice_range bytes start i) (get_or bytes i 0) (drop (i + 1) (bytes ++ more))
      ∙ ap (after_step (fields_from bytes 0 ends) (slice_range bytes start i) (get_or bytes i 0) (drop (i + 1) (bytes ++ more))) (other_step i start (get_or bytes i 0) comma line quoted so.behind)
      ∙ (λ j. next_record default_config (sym (inner_place i start so.behind) j) (fields_from bytes 0 ends) (sym (longer_part bytes start i so.behind lt) j) (drop (i + 1) (bytes ++ more)));
}

pub record_ended : (bytes ends new : List ℕ) (start i : ℕ) → Scanned bytes ends start i → i < length bytes → i ≢ 0 → ends_line (get_or bytes i 0) ≡ true → new ≡ ends ++ i ∷ [] → IsPlainRecord bytes i new
record_ended bytes ends new start i so lt later line is = rw is (
  lt,
  one_more_end (length bytes) 0 i ends so.within (omega (arith, so.starts, so.behind)) (omega (arith, lt)),
  λ more. let next = line_step i start (get_or bytes i 0) later line in (
    next.0,
    next.1,
    so.leads more
        ∙ ap (next_record default_config (place_at i start) (fields_from bytes 0 ends) (slice_range bytes start i)) (byte_at bytes more i lt)
        ∙ next_is (place_at i start) (fields_from bytes 0 ends) (slice_range bytes start i) (get_or bytes i 0) (drop (i + 1) (bytes ++ more))
        ∙ ap (after_step (fields_from bytes 0 ends) (slice_range bytes start i) (get_or bytes i 0) (drop (i + 1) (bytes ++ more))) next.2
        ∙ ap (λ fs. Some (fs, next.0, drop (i + 1) (bytes ++ more))) all,
  ),
) where
  all : fields_from bytes 0 ends ++ (slice_range bytes start i ∷ []) ≡ fields_from bytes 0 (ends ++ i ∷ [])
  all = sym (one_more_field bytes 0 i ends ∙ ap (λ n. fields_from bytes 0 ends ++ slice_range bytes n i ∷ []) so.starts)

-- ---- many bytes at a time

or_false : (a b : Bool) → (a || b) ≡ false → (a ≡ false) × (b ≡ false)
or_false true b none = absurd (let h = none in cc h)
or_false false b none = (refl, none)

differs : (a b : ℕ) → (a == b) ≡ false → a ≢ b
differs a b none same = by_test (eqb_tells a b) where
  by_test : Test a b → ⊥
  by_test (inl (e, is)) = let h = sym e ∙ none in absurd (cc h)
  by_test (inr (e, differ)) = differ same

-- a byte that is not special joins the field
plain_joined : (bytes ends : List ℕ) (start i : ℕ) → Scanned bytes ends start i → i < length bytes → is_special (get_or bytes i 0) ≡ false → Scanned bytes ends start (i + 1)
plain_joined bytes ends start i so lt plain =
    let byte = get_or bytes i 0 in
    let parts = or_false ((byte == 44) || (byte == 34)) (ends_line byte) plain in
    let inner = or_false (byte == 44) (byte == 34) parts.0 in
    byte_joined bytes ends start i so lt (differs byte 44 inner.0) parts.1 (λ quote. absurd (differs byte 34 inner.1 quote))

pub bytes_joined : (n : ℕ) (bytes ends : List ℕ) (start i : ℕ) → Scanned bytes ends start i → i + n ≤ length bytes → ((k : ℕ) → i ≤ k → k < i + n → is_special (get_or bytes k 0) ≡ false) → Scanned bytes ends start (i + n)
bytes_joined zero bytes ends start i so le plain = let same : i ≡ i + 0 = omega arith in subst (Scanned bytes ends start) same so
bytes_joined (suc n) bytes ends start i so le plain =
    let one = plain_joined bytes ends start i so (omega (arith, le)) (plain i (omega arith) (omega arith)) in
    let next : i + 1 + n ≡ i + suc n = omega arith in
    subst (Scanned bytes ends start) next (bytes_joined n bytes ends start (i + 1) one (omega (arith, le)) (λ k low high. plain k (omega (arith, low)) (omega (arith, high))))
