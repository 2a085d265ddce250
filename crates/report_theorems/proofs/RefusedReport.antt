-- The report of an archive that is refused (docs/SPECIFICATION.md, 6 and 10).
-- `refused_report`: it is one line, that of the archive's refusal.
-- `refused_number`: whose number is one of 102 to 112, or 122.
use Prim.Native.Nat.{ℕ}
use mathlib.Core.{Path.◌≡◌, Path.refl, List.List, List.[], List.◌∷◌, Logic.inl, Logic.inr}
use Rattle.stored_form.specs.Reading.{Reading, found, refused, reading_refusal}
use Rattle.stored_form_theorems.specs.Numbers.{OneOf}
use Rattle.archive.specs.Archive.{Archive, read_archive, archive_refusal}
use Rattle.archive_theorems.specs.Checking.{archive_numbers}
use Rattle.archive_theorems.proofs.Checking.{archive_answers}
use Rattle.walk_report.specs.{Lines.refusal_line, Report.lines_of, Report.report_lines}

lines_refused : (x : Reading Archive) → ¬ (reading_refusal x ≡ 0) → lines_of x ≡ refusal_line (reading_refusal x) ∷ []
unfolding lines_of
lines_refused (found a end) some = absurd (some refl)
lines_refused (refused n) some = refl

module _ (s : List ℕ) (some : ¬ (archive_refusal s ≡ 0)) where
  pub refused_report : report_lines s ≡ refusal_line (archive_refusal s) ∷ []
  unfolding report_lines archive_refusal
  refused_report = lines_refused (read_archive s) some

  pub refused_number : OneOf archive_numbers (archive_refusal s)
  refused_number = elim (archive_answers s) [
    | inl e ↦ absurd (some e)
    | inr one ↦ one
  ]
