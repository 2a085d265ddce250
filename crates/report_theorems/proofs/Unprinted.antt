-- The report prints nothing of an archive's pairs (docs/SPECIFICATION.md, 10).
-- `pairs_unprinted`: archives that differ in their pairs alone have the same lines.
-- `pairs_unreported`: bytes that are read as such archives have the same report.
use Prim.Native.Nat.{ℕ}
use mathlib.Core.Path.{◌≡◌, refl, sym, ap, ◌∙◌}
use mathlib.Core.List.{List, flatten}
use Rattle.stored_form.specs.Reading.{Reading, found}
use Rattle.archive.specs.Archive.{Archive, read_archive}
use Rattle.walk_report.specs.Report.{walk_lines, lines_of, report_lines, report}
use Rattle.report_theorems.specs.Pairs.{with_pairs}

pub pairs_unprinted : (pairs : List ℕ) (a : Archive) → walk_lines (with_pairs pairs a) ≡ walk_lines a
unfolding walk_lines
pairs_unprinted pairs a = refl

pub pairs_unreported : (s t : List ℕ) {a b : Archive} {end last : ℕ} → read_archive s ≡ found a end → read_archive t ≡ found b last → b ≡ with_pairs b.pairs a → report s ≡ report t
unfolding report report_lines lines_of
pairs_unreported s t {a} {b} e f same =
    ap (λ (x : Reading Archive). flatten (lines_of x)) e
    ∙ ap flatten (sym (ap walk_lines same ∙ pairs_unprinted b.pairs a))
    ∙ sym (ap (λ (x : Reading Archive). flatten (lines_of x)) f)
