-- What the report of an input says, line by line (report_theorems/specs/Parse.antt).
-- `first_says`: the first line of an accepted archive's report says how many operations it has, and its drawing number.
-- `last_seal_says`: the second line says that no operation is undone, a point and the last seal.
-- `refusal_says`: the report of a refused archive is one line, which says the number of the refusal.
-- `lines_whole`: each line of each report ends in 0x0A and has no other.
-- What the lines of the operations say is `operation_letter` (Letters.antt).
use Prim.Native.Nat.{ℕ, ◌+◌, ◌^◌, ◌<◌}
use mathlib.Core.Path.{◌≡◌, refl, sym, ap, ◌∙◌, subst}
use mathlib.Core.Bool.{Bool, true, false, cond, ◌&&◌, ◌||◌, true≢false}
use mathlib.Core.List.{List, [], ◌∷◌}
use mathlib.Core.Logic.{inl, inr}
use native.Mathlib.Omega.{arith}
use lib.Dec.{eqb, ltb, lit<}
use lib.ListN.{length, get_or}
use borrow.Author.Tests.{eqb-true, ltb-true}
use Rattle.lists.specs.Lists.{All, none, more}
use Rattle.jacobian.specs.{Refusals.listed, Refusals.refusals, Refusals.IsRefusal, Refusals.ValidRefusal, declared.Curve.Curve, declared.Class.Class}
use Rattle.jacobian.proofs.ByValue.Checks.{both}
use Rattle.stored_form.specs.Reading.{Reading, found, refused, reading_refusal}
use Rattle.archive.specs.Archive.{Archive, read_archive, archive_refusal}
use Rattle.archive.proofs.Valid.{archive_valid}
use Rattle.archive_theorems.proofs.Parts.{seal_sound}
use Rattle.walk_report.specs.{Lines.refusal_line, Walk.seals, Walk.neutral, Walk.mark, Walk.letter, Walk.letters, Report.seal_lines, Report.walk_lines, Report.lines_of, Report.report_lines}
use Rattle.report_theorems.specs.Parse.{parse_seal_line, parse_first_line, parse_refusal_line, Without, WholeLine}
use Rattle.report_theorems.proofs.{ReportMade.lines_from, ArchiveWalk.header_passes, ArchiveWalk.count_fits}
use Rattle.report_theorems.proofs.Parse.{seal_line_says, seal_line_whole, first_line_says, first_line_whole, refusal_line_says, refusal_line_whole}

-- ---- an accepted archive

module _ (s : List ℕ) {x : Archive} {end : ℕ} (reads : read_archive s ≡ found x end) where
  pub first_says : parse_first_line (get_or (report_lines s) 0 []) ≡ record { count = length x.operations; drawing = x.drawing }
  unfolding report_lines lines_of walk_lines
  first_says =
      ap (λ r. parse_first_line (get_or (lines_of r) 0 [])) reads
      ∙ first_line_says (length x.operations) x.drawing (header_passes s reads).0 (count_fits s reads (length x.operations) (omega arith))

  pub last_seal_says : parse_seal_line (get_or (report_lines s) 1 []) ≡ record { undone = 0; letter = 0x2E; seal = x.seal }
  unfolding report_lines lines_of walk_lines
  last_seal_says =
      ap (λ r. parse_seal_line (get_or (lines_of r) 1 [])) reads
      ∙ ap (λ (l : List (List ℕ)). parse_seal_line (get_or l 0 [])) (lines_from x.curve 0 0x2E x.seal x.operations)
      ∙ seal_line_says 0 0x2E x.seal (seal_sound s reads) (lit< tt)

-- ---- a refused one

-- a test of every number of a list
unfoldable tested : (ℕ → Bool) → List ℕ → Bool
tested t [] = true
tested t (m ∷ ms) = t m && tested t ms

listed_tested : (t : ℕ → Bool) (n : ℕ) (ms : List ℕ) → tested t ms ≡ true → listed n ms ≡ true → t n ≡ true
unfolding listed tested
listed_tested t n [] a e = absurd (true≢false (sym e))
listed_tested t n (m ∷ ms) a e = go (eqb n m) refl e (listed_tested t n ms (both (t m) (tested t ms) a).1)
  where
    go : (b : Bool) → eqb n m ≡ b → (b || listed n ms) ≡ true → (listed n ms ≡ true → t n ≡ true) → t n ≡ true
    go true is e rest = ap t (eqb-true n m is) ∙ (both (t m) (tested t ms) a).0
    go false is e rest = rest e

refusal_fits : (n : ℕ) → ValidRefusal n → n < 2 ^ 64
unfolding ValidRefusal IsRefusal refusals tested
refusal_fits n (inl e) = omega (arith, e)
refusal_fits n (inr e) = ltb-true n (2 ^ 64) (listed_tested (λ m. ltb m (2 ^ 64)) n refusals refl e)

pub refusal_says : (s : List ℕ) {n : ℕ} → read_archive s ≡ refused n → (l : List ℕ) × (report_lines s ≡ l ∷ []) × (parse_refusal_line l ≡ n)
unfolding report_lines lines_of archive_refusal
refusal_says s {n} e = (refusal_line n, ap lines_of e, refusal_line_says n (refusal_fits n (subst ValidRefusal (ap reading_refusal e) (archive_valid s))))

-- ---- the end of each line

mark_without : (b : Bool) (a : Class) → ¬ (mark b a ≡ 0x0A)
unfolding mark
mark_without b a = go (neutral a) b
  where
    go : (n b : Bool) → ¬ (◌≡◌ {A = ℕ} (cond n 0x4D (cond b 0x52 0x2D)) 0x0A)
    go true b e = omega (arith, e)
    go false true e = omega (arith, e)
    go false false e = omega (arith, e)

letters_without : (c : Curve) (ops : List Class) → Without 0x0A (letters c ops)
unfolding letters letter
letters_without c [] = none
letters_without c (a ∷ older) = more (mark_without _ a) (letters_without c older)

seal_lines_whole : (k : ℕ) {marks : List ℕ} (classes : List Class) → Without 0x0A marks → All WholeLine (seal_lines k marks classes)
unfolding seal_lines
seal_lines_whole k classes none = none
seal_lines_whole k [] (more h r) = none
seal_lines_whole k (seal ∷ classes) (more {a = m} h r) = more (seal_line_whole k m seal h) (seal_lines_whole (k + 1) classes r)

pub lines_whole : (s : List ℕ) → All WholeLine (report_lines s)
unfolding report_lines lines_of walk_lines
lines_whole s = go (read_archive s) refl
  where
    go : (x : Reading Archive) → read_archive s ≡ x → All WholeLine (lines_of x)
    go (found x end) e =
        more (first_line_whole (length x.operations) x.drawing (header_passes s e).0)
        (seal_lines_whole 0 (seals x.curve x.seal x.operations) (more {a = 0x2E} (λ e. omega (arith, e)) (letters_without x.curve x.operations)))
    go (refused n) e = more (refusal_line_whole n) none
