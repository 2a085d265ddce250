-- The loop of the program makes the report.
-- `report_made`: from the first state the loop makes the report's lines, and ends after them.
-- `report_only`: it makes no other lines.
-- `halfway_begin`: before the first turn the lines made so far, and then those to come, are the report's.
use Prim.Native.Nat.{ℕ, zero, suc, ◌+◌, ◌-◌}
use mathlib.Core.Path.{◌≡◌, refl, sym, ap, ap₂, ◌∙◌, subst, subst₂}
use mathlib.Core.List.{List, [], ◌∷◌}
use native.Mathlib.Omega.{arith}
use Rattle.jacobian.specs.{Answer.Accepts, Answer.Result, Answer.neutral_class, Answer.subtract_and_halve_answer, declared.Curve.Curve, declared.Class.Class}
use Rattle.stored_form.specs.{Reading.Reading, Reading.found, Reading.refused, Reading.◌then◌, Reading.reading_refusal, Record.drawing_name, Record.empty_record, Record.with_operation}
use Rattle.stored_form.specs.{Reader.read_field, Reader.read_fields, Reader.read_operations, Reader.header_layout, declared.Record.Record}
use Rattle.stored_form.proofs.{Readings.found_not_refused, Readings.then_found, Readers.with_field_operation}
use Rattle.stored_form_theorems.proofs.Operations.{newest, no_operations, operation_sound, operations_counted}
use Rattle.history.specs.Register.{undo_seal}
use Rattle.history.proofs.{Seals.undo_sound, Steps.step_is}
use Rattle.archive.specs.{Archive.Archive, Archive.archive_of, Archive.read_archive, Archive.archive_refusal, Reader.reader, Reader.operations_expected, Reader.read_next, Reader.read_header, declared.Reader.Reader}
use Rattle.archive.specs.Reader as reading
use Rattle.archive.specs.declared.Expected.TheVariants as expected
use Rattle.archive.proofs.Valid.{archive_found}
use Rattle.archive_theorems.proofs.Parts.{parts_of, seal_sound}
use Rattle.lists.specs.Walk.{walk}
use Rattle.walk_report.specs.{Lines.line, Lines.first_line, Lines.refusal_line, Walk.seals, Walk.next_older, Walk.letter, Walk.letters, Report.seal_lines, Report.walk_lines, Report.lines_of, Report.report_lines}
use Rattle.walk_report.specs.Steps.{report_at, with_seal, progress, older, on_operation, advanced_by, advanced, letter_before, undone, next_of, next_line, refused_report, first_report, begin_by, begin, LineResult}
use Rattle.walk_report.specs.Loop.{none, MakesAll, Halfway}
use Rattle.walk_report.proofs.{LinesLeft.expected_older, Loop.turn_all, Loop.makes_only}
use Rattle.walk_report.specs.declared.{Stage.Stage, Report.Report, Progress.Progress}
use Rattle.walk_report.specs.declared.Stage.TheVariants.{First, Last, Undo, Over}

-- ---- the report's lines after that of a seal

unfoldable pub later_lines : Curve → ℕ → Class → List Class → List (List ℕ)
later_lines c k seal [] = []
later_lines c k seal (a ∷ older) = seal_lines (k + 1) (letters c (a ∷ older)) (seals c (undo_seal c seal a) older)

pub lines_from : (c : Curve) (k mark : ℕ) (seal : Class) (ops : List Class) → seal_lines k (mark ∷ letters c ops) (seals c seal ops) ≡ line k mark seal ∷ later_lines c k seal ops
unfolding later_lines seal_lines letters seals walk
lines_from c k mark seal [] = refl
lines_from c k mark seal (a ∷ older) = refl

-- ---- one step

module _ (s : List ℕ) where
  advanced_none : (stage : Stage) (h : Record) (seal b : Class) (at : ℕ) →
      advanced (report_at stage (reader (operations_expected 0) h) seal b) s at ≡ progress (report_at Over (reader (operations_expected 0) h) seal b) at
  unfolding advanced advanced_by operations_expected
  advanced_none stage h seal b at = refl

  advanced_more : (n : ℕ) (stage : Stage) (h : Record) (seal b : Class) (at : ℕ) {more : Record} {next : ℕ} → read_field 0x44 h s at ≡ found more next →
      advanced (report_at stage (reader (operations_expected (suc n)) h) seal b) s at ≡ progress (report_at Undo (reader (operations_expected n) more) seal more.operation) next
  unfolding advanced advanced_by operations_expected read_next reading.read_operation on_operation ◌then◌
  advanced_more n stage h seal b at {more} {next} e =
      let r : Report = report_at stage (reader (expected.Operations (suc n)) h) seal b in
      let less : suc n - 1 ≡ n = omega arith in
      ap (λ (x : Reading Record). on_operation r at (x then λ more next. found (reader (operations_expected (suc n - 1)) more) next)) e
      ∙ ap (λ (k : ℕ). progress (report_at Undo (reader (operations_expected k) more) seal more.operation) next) less

  -- another seal is kept through the step
  on_operation_seal : (seal : Class) (r : Report) (at : ℕ) (x : Reading Reader) →
      on_operation (with_seal seal r) at x ≡ record { report = with_seal seal (on_operation r at x).report; next = (on_operation r at x).next }
  unfolding on_operation
  on_operation_seal seal r at (found reader next) = refl
  on_operation_seal seal r at (refused n) = refl

  advanced_seal : (seal : Class) (r : Report) (at : ℕ) →
      advanced (with_seal seal r) s at ≡ record { report = with_seal seal (advanced r s at).report; next = (advanced r s at).next }
  unfolding advanced advanced_by
  advanced_seal seal r at = go (older r.reader.expected)
    where
      go : (n : ℕ) → advanced_by n (with_seal seal r) s at ≡ record { report = with_seal seal (advanced_by n r s at).report; next = (advanced_by n r s at).next }
      go zero = refl
      go (suc n) = on_operation_seal seal r at (read_next r.reader s at)

  -- the letter of an operation, by the operations that are still to be read
  letter_is : (n : ℕ) (h : Record) (seal a b : Class) (stage : Stage) (at : ℕ) {ops : List Class} {end : ℕ} → read_operations n h s at ≡ found ops end →
      letter_before h.curve a (advanced (report_at stage (reader (operations_expected n) h) seal b) s at).report ≡ letter h.curve a ops
  unfolding letter next_older
  letter_is zero h seal a b stage at e =
      ap (λ (m : Progress). letter_before h.curve a m.report) (advanced_none stage h seal b at)
      ∙ ap (letter h.curve a) (sym (no_operations h s at e))
  letter_is (suc n) h seal a b stage at e =
      let m = newest h s at n e in
      ap (λ (m : Progress). letter_before h.curve a m.report) (advanced_more n stage h seal b at m.this)
      ∙ ap (letter h.curve a) (sym m.all)

  -- the line of an undo, and the state after it
  undo_line : (n : ℕ) (h : Record) (seal a : Class) (at k : ℕ) {before : Class} {ops : List Class} {end : ℕ} → read_operations n h s at ≡ found ops end →
      h.count ≡ k + suc n → (subtract_and_halve_answer h.curve seal a).class ≡ before →
      next_line (report_at Undo (reader (operations_expected n) h) seal a) s at
      ≡ record { text = line (k + 1) (letter h.curve a ops) before; progress = advanced (report_at Undo (reader (operations_expected n) h) before a) s at }
  unfolding next_line next_of undone
  undo_line n h seal a at k {before} {ops} e counted same =
      let c : Curve = h.curve in
      let r : Report = report_at Undo (reader (operations_expected n) h) seal a in
      let number : h.count - older (operations_expected n) ≡ k + 1 = omega (arith, counted, expected_older n) in
      let carried : Class → Progress = λ x. record { report = with_seal x (advanced r s at).report; next = (advanced r s at).next } in
      let made : ℕ → ℕ → Class → LineResult = λ i j x. record { text = line i j x; progress = carried x } in
      ap (made _ (letter_before c a (advanced r s at).report)) same
      ∙ ap₂ (λ (i j : ℕ). made i j before) number (letter_is n h seal a a Undo at e)
      ∙ ap (λ (m : Progress). record { text = line (k + 1) (letter c a ops) before; progress = m }) (sym (advanced_seal before r at))

  -- all lines after that of a seal

  walk_made : (n : ℕ) (stage : Stage) (h : Record) (seal b : Class) (at k : ℕ) {ops : List Class} {end : ℕ} → read_operations n h s at ≡ found ops end →
      h.count ≡ k + n → Accepts h.curve seal →
      MakesAll s (advanced (report_at stage (reader (operations_expected n) h) seal b) s at) (later_lines h.curve k seal ops)
  unfolding later_lines letters
  walk_made zero stage h seal b at k e counted hs =
      let m : Progress = progress (report_at Over (reader (operations_expected 0) h) seal b) at in
      subst₂ (MakesAll s) (sym (advanced_none stage h seal b at)) (ap (later_lines h.curve k seal) (sym (no_operations h s at e)))
      (record { end = m; makes = none; over = refl })
  walk_made (suc n) stage h seal b at k e counted hs =
      let c : Curve = h.curve in
      let m = newest h s at n e in
      let a : Class = m.values.operation in
      let ops : List Class = m.older in
      let next : ℕ = m.next in
      let ha : Accepts c a = operation_sound h s at m.this in
      let before : Class = undo_seal c seal a in
      let more : Record = with_operation a h in
      let is : m.values ≡ more = with_field_operation h s at m.this in
      let rest : read_operations n more s next ≡ found ops _ = ap (λ (x : Record). read_operations n x s next) (sym is) ∙ m.rest in
      subst₂ (MakesAll s)
      (sym (advanced_more n stage h seal b at m.this ∙ ap (λ (x : Record). progress (report_at Undo (reader (operations_expected n) x) seal a) next) is))
      (sym (lines_from c (k + 1) (letter c a ops) before ops) ∙ ap (later_lines c k seal) (sym m.all))
      (turn_all s refl (undo_line n more seal a next k rest counted (ap (λ (x : Result). x.class) (step_is hs ha)))
      (walk_made n Undo more before a next (k + 1) rest (omega (arith, counted)) (undo_sound hs ha)))

-- ---- an accepted archive

module _ (s : List ℕ) where
  begin_first : {h : Record} {first : ℕ} → archive_refusal s ≡ 0 → read_fields header_layout empty_record s 0 ≡ found h first →
      begin s ≡ progress (report_at First (reader (operations_expected h.count) h) h.class neutral_class) first
  unfolding begin begin_by first_report read_header
  begin_first z e = ap (λ (n : ℕ). begin_by n (read_header s)) z ∙ ap first_report (then_found _ e)

  -- the first two lines, and the lines after them
  first_made : (n : ℕ) (h : Record) (seal b : Class) (at : ℕ) {lines : List (List ℕ)} →
      MakesAll s (advanced (report_at Last (reader (operations_expected n) h) seal b) s at) lines →
      MakesAll s (progress (report_at First (reader (operations_expected n) h) seal b) at) (first_line h.count (drawing_name h.drawing) ∷ line 0 0x2E seal ∷ lines)
  unfolding next_line next_of
  first_made n h seal b at l = turn_all s refl refl (turn_all s refl refl l)

  accepted_made : {a : Archive} {end : ℕ} → read_archive s ≡ found a end → MakesAll s (begin s) (walk_lines a)
  unfolding walk_lines archive_refusal archive_of
  accepted_made {a} e =
      let p = parts_of s e in
      let h : Record = p.values in
      let c : Curve = h.curve in
      let ops : List Class = p.operations in
      let hs : Accepts c h.class = subst (λ (x : Archive). Accepts x.curve x.seal) p.archive (seal_sound s e) in
      let counted = operations_counted s h.count h p.first p.operations_read in
      subst₂ (MakesAll s) (sym (begin_first (ap reading_refusal e) p.header_read))
      (ap (λ (l : List (List ℕ)). first_line h.count (drawing_name h.drawing) ∷ l) (sym (lines_from c 0 0x2E h.class ops))
      ∙ ap (λ (n : ℕ). first_line n (drawing_name h.drawing) ∷ seal_lines 0 (0x2E ∷ letters c ops) (seals c h.class ops)) (sym counted)
      ∙ ap walk_lines (sym p.archive))
      (first_made h.count h h.class neutral_class p.first
      (walk_made s h.count Last h h.class neutral_class p.first 0 p.operations_read (omega arith) hs))

  -- ---- a refused one

  refused_made : (n : ℕ) → read_archive s ≡ refused n → MakesAll s (begin s) (refusal_line n ∷ [])
  unfolding begin begin_by archive_refusal refused_report next_line next_of
  refused_made zero e = absurd (found_not_refused (sym e ∙ (archive_found s (ap reading_refusal e)).2))
  refused_made (suc n) e =
      subst (λ (k : ℕ). MakesAll s (begin_by k (read_header s)) (refusal_line (suc n) ∷ [])) (sym (ap reading_refusal e))
      (turn_all s refl refl (record { end = _; makes = none; over = refl }))

-- ---- the theorems

pub report_made : (s : List ℕ) → MakesAll s (begin s) (report_lines s)
unfolding report_lines lines_of
report_made s = go (read_archive s) refl
  where
    go : (x : Reading Archive) → read_archive s ≡ x → MakesAll s (begin s) (lines_of x)
    go (found a end) e = accepted_made s e
    go (refused n) e = refused_made s n e

pub report_only : (s : List ℕ) {lines : List (List ℕ)} → MakesAll s (begin s) lines → lines ≡ report_lines s
report_only s l = makes_only s l (report_made s)

unfoldable pub halfway_begin : (s : List ℕ) → Halfway s (begin s)
halfway_begin s = record { so_far = []; to_come = report_lines s; made = none; left = report_made s; whole = refl }
