-- Links the reader's steps to `read_archive`, and to the code.
-- `begun`, `one_step`, `nothing_left`: reading what is left, step by step, has the refusal of the whole archive.
-- `less_left`: after a step less is left to read.
-- `header_stops`, `header_goes_on` and their like: a step as the code makes it.
-- `step_stops`, `step_goes_on`, `step_shortens`, `all_read`: a turn of the loop that takes steps, and its end.
use Prim.Native.Nat.{ℕ, zero, suc, ◌+◌, ◌*◌, ◌-◌, ◌≤◌, ◌<◌}
use mathlib.Core.Path.{◌≡◌, refl, sym, ap, ◌∙◌}
use mathlib.Core.Bool.{Bool, true, false, cond, true≢false, false≢true}
use mathlib.Core.List.{List}
use native.Mathlib.Omega.{arith}
use lib.Dec.{ltb}
use lib.ListN.{length, get_or, drop, drop_of_length-le}
use lib.Seq.{drop-cons}
use borrow.Author.Tests.{lt-ltb, le-ltb, ltb-true, ltb-false}
use Rattle.stored_form.specs.{Reading.Reading, Reading.found, Reading.refused, Reading.checked, Reading.◌then◌, Reading.reading_refusal, Fields.end_refusal, Fields.ended, Record.empty_record, Pairs.read_pairs, Pairs.without_value}
use Rattle.stored_form.specs.Reader.{read_field, read_fields, read_operations, header_layout}
use Rattle.stored_form.specs.declared.{Record.Record}
use Rattle.stored_form.proofs.Readings.{stops, reads_on, found_not_refused, then_found, then_refused, both_found, checked_found, same_found, then_same, then_where, then_assoc, found_refusal, same_refusal}
use Rattle.stored_form.proofs.Readers.{field_within, with_field_operation}
use Rattle.archive.specs.Archive.{read_tail, archive_of, read_archive, archive_refusal}
use Rattle.archive.specs.declared.{Expected.Expected, Reader.Reader}
use Rattle.archive.specs.declared.Expected.TheVariants.{Header, Operations, Pairs, End, Nothing}
use Rattle.archive.proofs.Tail.{pairs_onward}
use Rattle.archive.specs.Reader.{reader, start, operations_expected, after_header, read_header_field, read_operation, read_pairs_expected, read_end, read_expected, read_next, pending, read_header}

-- ---- what is left to read, and one step of it

module _ (s : List ℕ) where
  -- the pairs and the end, without what the pairs are
  from_pairs : ℕ → ℕ → Reading (Unit {0})
  from_pairs n at = read_pairs n s at then λ pairs next. ended s tt next

  from_operations : ℕ → Record → ℕ → Reading (Unit {0})
  from_operations n h at = read_operations n h s at then λ ops end. from_pairs h.count end

  from_header : List ℕ → Record → ℕ → Reading (Unit {0})
  from_header tags h at = read_fields tags h s at then λ h next. from_operations h.count h next

  -- the reading of all that is left, by what is expected next
  pub left : Expected → Record → ℕ → Reading (Unit {0})
  left (Header i) h at = read_field (get_or header_layout i 0) h s at then λ more next. from_header (drop (suc i) header_layout) more next
  left (Operations n) h at = read_field 0x44 h s at then λ more next. from_operations (n - 1) more next
  left Pairs h at = from_pairs h.count at
  left End h at = ended s tt at
  left Nothing h at = found tt at

  operations_next : (n : ℕ) (h : Record) (at : ℕ) → from_operations n h at ≡ left (operations_expected n) h at
  unfolding from_operations left operations_expected read_operations ◌then◌
  operations_next zero h at = refl
  operations_next (suc n) h at =
      let e : suc n - 1 ≡ n = omega arith in
      then_assoc (read_field 0x44 h s at) _ _
      ∙ then_where _ (read_field 0x44 h s at)
      (λ more next found. then_assoc (read_operations n more s next) _ _
      ∙ then_same _ (read_operations n more s next) (λ ops end. ap (λ (r : Record). from_pairs r.count end) (sym (with_field_operation h s at found))))
      ∙ ap (λ (k : ℕ). read_field 0x44 h s at then λ more next. from_operations k more next) (sym e)

  module _ (i : ℕ) (h : Record) (at : ℕ) where
    next : suc i < length header_layout → from_header (drop (suc i) header_layout) h at ≡ left (Header (suc i)) h at
    unfolding left from_header read_fields
    next lt =
        let tag = get_or header_layout (suc i) 0 in
        ap (λ (l : List ℕ). read_fields l h s at then λ h next. from_operations h.count h next) (drop-cons header_layout (suc i) 0 lt)
        ∙ then_assoc (read_field tag h s at) _ _

    last : length header_layout ≤ suc i → from_header (drop (suc i) header_layout) h at ≡ left (operations_expected h.count) h at
    unfolding from_header read_fields ◌then◌
    last le =
        ap (λ (l : List ℕ). read_fields l h s at then λ h next. from_operations h.count h next) (drop_of_length-le header_layout le)
        ∙ operations_next h.count h at

  header_next : (i : ℕ) (h : Record) (at : ℕ) → from_header (drop (suc i) header_layout) h at ≡ left (after_header i h.count) h at
  unfolding after_header
  header_next i h at = go (ltb (suc i) (length header_layout)) refl
    where
      go : (b : Bool) → ltb (suc i) (length header_layout) ≡ b → from_header (drop (suc i) header_layout) h at ≡ left (cond b (Header (suc i)) (operations_expected h.count)) h at
      go true e = next i h at (ltb-true (suc i) (length header_layout) e)
      go false e = last i h at (ltb-false (suc i) (length header_layout) e)

  pub one_step : (d : Expected) (h : Record) (at : ℕ) → left d h at ≡ (read_expected d h s at then λ r next. left r.expected r.values next)
  unfolding left from_pairs read_header_field read_operation read_pairs_expected read_end ended checked ◌then◌
  one_step (Header i) h at = then_same _ (read_field (get_or header_layout i 0) h s at) (λ more next. header_next i more next) ∙ sym (then_assoc (read_field (get_or header_layout i 0) h s at) _ _)
  one_step (Operations n) h at = then_same _ (read_field 0x44 h s at) (λ more next. operations_next (n - 1) more next) ∙ sym (then_assoc (read_field 0x44 h s at) _ _)
  one_step Pairs h at = sym (then_assoc (read_pairs h.count s at) _ _)
  one_step End h at = go (end_refusal s at)
    where
      go : (n : ℕ) → checked n (found tt at) ≡ (checked n (found (reader Nothing h) at) then λ r next. left r.expected r.values next)
      go zero = refl
      go (suc n) = refl
  one_step Nothing h at = refl

  pub nothing_left : (d : Expected) (h : Record) (at : ℕ) → pending d ≡ false → left d h at ≡ found tt at
  unfolding left pending
  nothing_left (Header i) h at e = absurd (true≢false e)
  nothing_left (Operations n) h at e = absurd (true≢false e)
  nothing_left Pairs h at e = absurd (true≢false e)
  nothing_left End h at e = absurd (true≢false e)
  nothing_left Nothing h at e = refl

  end_same : (n : ℕ) (a : List ℕ) (at : ℕ) → reading_refusal (checked n (found a at)) ≡ reading_refusal (checked n (found (tt {0}) at))
  unfolding checked
  end_same zero a at = refl
  end_same (suc n) a at = refl

  pub begun : {r : Reader} → r ≡ start → archive_refusal s ≡ reading_refusal (left r.expected r.values 0)
  unfolding archive_refusal read_archive read_tail ended start left from_header from_operations from_pairs read_fields
  begun e =
      same_refusal (read_fields header_layout empty_record s 0) _ (λ h next. from_operations h.count h next)
      (λ h first. same_refusal (read_operations h.count h s first) _ (λ ops end. from_pairs h.count end)
      (λ ops end. found_refusal (read_tail h.count s end) (archive_of h ops) ∙ same_refusal (read_pairs h.count s end) _ (λ pairs next. ended s tt next) (λ pairs next. end_same (end_refusal s next) pairs next)))
      ∙ ap reading_refusal (then_assoc (read_field 0x40 empty_record s 0) _ _)
      ∙ ap (λ (r : Reader). reading_refusal (left r.expected r.values 0)) (sym e)

-- ---- a step that reads a field, as the code makes it

pub some_expected : (n : ℕ) → (n ≡ 0 → ⊥) → Operations n ≡ operations_expected n
unfolding operations_expected
some_expected zero h = absurd (h refl)
some_expected (suc n) h = refl

module _ (i count : ℕ) where
  pub header_more : suc i < length header_layout → Header (i + 1) ≡ after_header i count
  unfolding after_header
  header_more lt = let e : i + 1 ≡ suc i = omega arith in rw (lt-ltb (suc i) (length header_layout) lt) (ap Header e)

  pub header_over : {d : Expected} → length header_layout ≤ suc i → d ≡ operations_expected count → d ≡ after_header i count
  unfolding after_header
  header_over le e = rw (le-ltb (suc i) (length header_layout) le) e

module _ (h : Record) (s : List ℕ) (at : ℕ) where
  pub header_stops : (i : ℕ) {k : ℕ} → refused k ≡ read_field (get_or header_layout i 0) h s at → refused k ≡ read_header_field i h s at
  unfolding read_header_field
  header_stops i e = stops _ e

  pub header_goes_on : (i : ℕ) {d : Expected} {more : Record} {next : ℕ} → found more next ≡ read_field (get_or header_layout i 0) h s at →
      d ≡ after_header i more.count → found (reader d more) next ≡ read_header_field i h s at
  unfolding read_header_field
  header_goes_on i {d} {more} {next} e f = reads_on _ e (ap (λ (d : Expected). found (reader d more) next) f)

  pub operation_stops : (n : ℕ) {k : ℕ} → refused k ≡ read_field 0x44 h s at → refused k ≡ read_operation n h s at
  unfolding read_operation
  operation_stops n e = stops _ e

  pub operation_goes_on : (n : ℕ) {d : Expected} {more : Record} {next : ℕ} → found more next ≡ read_field 0x44 h s at →
      d ≡ operations_expected (n - 1) → found (reader d more) next ≡ read_operation n h s at
  unfolding read_operation
  operation_goes_on n {d} {more} {next} e f = reads_on _ e (ap (λ (d : Expected). found (reader d more) next) f)

  pub pairs_stop : {k : ℕ} → refused k ≡ without_value (read_pairs h.count s at) → refused k ≡ read_pairs_expected h s at
  unfolding read_pairs_expected ◌then◌
  pairs_stop {k} e = go (read_pairs h.count s at) e
    where
      go : (x : Reading (List ℕ)) → refused k ≡ without_value x → refused k ≡ (x then λ pairs next. found (reader End h) next)
      go (found a next) e = absurd (found_not_refused e)
      go (refused n) e = ap refused cc

  pub pairs_go_on : {next : ℕ} → found tt next ≡ without_value (read_pairs h.count s at) → found (reader End h) next ≡ read_pairs_expected h s at
  unfolding read_pairs_expected ◌then◌
  pairs_go_on {next} e = go (read_pairs h.count s at) e
    where
      go : (x : Reading (List ℕ)) → found tt next ≡ without_value x → found (reader End h) next ≡ (x then λ pairs next. found (reader End h) next)
      go (found a n) e = ap (found (reader End h)) (same_found e).1
      go (refused n) e = absurd (found_not_refused (sym e))

module _ (s : List ℕ) where
  pub whole_header_stops : {k : ℕ} → refused k ≡ read_fields header_layout empty_record s 0 → refused k ≡ read_header s
  unfolding read_header
  whole_header_stops e = stops _ e

  pub whole_header_goes_on : {d : Expected} {h : Record} {next : ℕ} → found h next ≡ read_fields header_layout empty_record s 0 →
      d ≡ operations_expected h.count → found (reader d h) next ≡ read_header s
  unfolding read_header
  whole_header_goes_on {d} {h} {next} e f = reads_on _ e (ap (λ (d : Expected). found (reader d h) next) f)

-- ---- a step leaves less to read

-- how many steps can be left that read no byte
weight : Expected → ℕ
weight (Header i) = 1
weight (Operations n) = 1
weight Pairs = 2
weight End = 1
weight Nothing = 0

light : (d : Expected) → weight d ≤ 2
unfolding weight
light (Header i) = omega arith
light (Operations n) = omega arith
light Pairs = omega arith
light End = omega arith
light Nothing = omega arith

-- twice the bytes that are left, and the steps that read none
pub rank : List ℕ → Expected → ℕ → ℕ
rank s d at = weight d + 2 * (length s - at)

module _ (s : List ℕ) (h : Record) (at : ℕ) {r : Reader} {next : ℕ} where
  field_less : (tag : ℕ) (f : Record → Expected) → (read_field tag h s at then λ more next. found (reader (f more) more) next) ≡ found r next → weight r.expected + 2 * (length s - next) < 1 + 2 * (length s - at)
  field_less tag f e =
      let p = both_found _ (read_field tag h s at) e in
      let w = field_within tag h s at p.2 in
      let n = (same_found p.3).1 in
      omega (arith, w.0, w.1, n, light r.expected)

  pub less_left : (d : Expected) → pending d ≡ true → read_expected d h s at ≡ found r next → rank s r.expected next < rank s d at
  unfolding rank weight pending read_header_field read_operation read_pairs_expected read_end ended
  less_left (Header i) p e = field_less (get_or header_layout i 0) _ e
  less_left (Operations n) p e = field_less 0x44 _ e
  less_left Pairs p e =
      let t = both_found _ (read_pairs h.count s at) e in
      let c = same_found t.3 in
      let end : weight r.expected ≡ 1 = ap (λ (q : Reader). weight q.expected) (sym c.0) in
      omega (arith, end, c.1, pairs_onward h.count s at t.2)
  less_left End p e =
      let c = same_found (checked_found (end_refusal s at) _ e).1 in
      let none : weight r.expected ≡ 0 = ap (λ (q : Reader). weight q.expected) (sym c.0) in
      omega (arith, none, c.1)
  less_left Nothing p e = absurd (false≢true p)

-- ---- the loop that takes steps

module _ (s : List ℕ) (r : Reader) (at : ℕ) where
  pub step_stops : {k : ℕ} → refused k ≡ read_next r s at → k ≡ reading_refusal (left s r.expected r.values at)
  unfolding read_next
  step_stops e = sym (ap reading_refusal (one_step s r.expected r.values at ∙ then_refused _ (sym e)))

  module _ {t : Reader} {next : ℕ} (e : found t next ≡ read_next r s at) where
    pub step_goes_on : reading_refusal (left s r.expected r.values at) ≡ reading_refusal (left s t.expected t.values next)
    unfolding read_next
    step_goes_on = ap reading_refusal (one_step s r.expected r.values at ∙ then_found _ (sym e))

    pub step_shortens : pending r.expected ≡ true → rank s t.expected next < rank s r.expected at
    unfolding read_next
    step_shortens p = less_left s r.values at r.expected p (sym e)

  pub all_read : pending r.expected ≡ false → 0 ≡ reading_refusal (left s r.expected r.values at)
  all_read p = sym (ap reading_refusal (nothing_left s r.expected r.values at p))
