-- The report's steps by cases, as the code tests them.
use Rattle.std.proofs.Common.{arith, ℕ, zero, suc, ◌≡◌, ◌<◌, min, List, length, take, refl, sym, ap, ◌∙◌}
use Rattle.std.proofs.lemmas.Grind.{common_steps}
use Rattle.jacobian.specs.Answer.{neutral_class}
use Rattle.stored_form.specs.Reading.{Reading, found, refused, checked}
use Rattle.archive.specs.declared.Reader.{Reader}
use Rattle.archive.specs.{Archive.archive_refusal, Reader.read_next, Reader.read_header}
use Rattle.walk_report.specs.Steps.{report_at, with_stage, progress, older, on_operation, advanced_by, advanced, first_report, begin_by, begin, refused_report}
use Rattle.walk_report.specs.declared.Report.{Report}
use Rattle.walk_report.specs.declared.Stage.TheVariants.{First, Undo, Over}

module _ (r : Report) (s : List ℕ) (at : ℕ) where
  -- no operation is left to be read
  pub none_older : older r.reader.expected ≡ 0 → advanced r s at ≡ progress (with_stage Over r) at
  unfolding advanced advanced_by
  none_older e = rw e

  by_some : (n : ℕ) → 0 < n → on_operation r at (read_next r.reader s at) ≡ advanced_by n r s at
  unfolding advanced_by
  by_some zero h = absurd (omega arith)
  by_some (suc n) h = refl

  some_older : 0 < older r.reader.expected → on_operation r at (read_next r.reader s at) ≡ advanced r s at
  unfolding advanced
  some_older h = by_some (older r.reader.expected) h

  pub next_refused : {n : ℕ} → 0 < older r.reader.expected → refused n ≡ read_next r.reader s at → advanced r s at ≡ progress (with_stage Over r) at
  unfolding on_operation
  next_refused h e = sym (some_older h) ∙ ap (on_operation r at) (sym e)

  pub next_operation : {reader : Reader} {next : ℕ} → 0 < older r.reader.expected → found reader next ≡ read_next r.reader s at →
      advanced r s at ≡ progress (report_at Undo reader r.seal reader.values.operation) next
  unfolding on_operation
  next_operation h e = sym (some_older h) ∙ ap (on_operation r at) (sym e)

-- the state before the first line
first_by : (x : Reading Reader) (n : ℕ) {reader : Reader} {next : ℕ} → found reader next ≡ checked n x → begin_by n x ≡ progress (report_at First reader reader.values.class neutral_class) next
unfolding begin_by first_report checked
first_by x zero e = ap first_report (sym e)
first_by x (suc n) e = absurd (cc)

refused_by : (x : Reading Reader) (n : ℕ) {k : ℕ} → refused k ≡ checked n x → begin_by n x ≡ refused_report k
unfolding begin_by first_report checked
refused_by x zero e = ap first_report (sym e)
refused_by x (suc n) e = cc

module _ (s : List ℕ) where
  pub begin_first : {reader : Reader} {next : ℕ} → found reader next ≡ checked (archive_refusal s) (read_header s) → begin s ≡ progress (report_at First reader reader.values.class neutral_class) next
  unfolding begin
  begin_first e = first_by (read_header s) (archive_refusal s) e

  pub begin_refused : {k : ℕ} → refused k ≡ checked (archive_refusal s) (read_header s) → begin s ≡ refused_report k
  unfolding begin
  begin_refused e = refused_by (read_header s) (archive_refusal s) e

-- the first bytes of a row, at most as many as it has
pub take_min : (n k : ℕ) (xs : List ℕ) → length xs ≡ k → take (min n k) xs ≡ take n xs
take_min n k xs e = grind (arith, common_steps)
