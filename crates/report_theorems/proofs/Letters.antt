-- The lines of an accepted archive's report, and their letters (docs/SPECIFICATION.md, 10.3).
-- `line_count`: the report has two lines more than the archive has operations.
-- `header_lines`: the first two lines, in which no operation has a letter.
-- `operation_line`: the line with k + 1 operations undone has the letter of operation k; the newest is operation 0.
-- `operation_letter`: that letter is M exactly where operation k is neutral; else R exactly where there is a next older
--   operation and operation k is its opposite; else -. The line says its number, that letter and the walk's seal.
-- `letter_only`: an operation has one letter and no other.
-- `letter_moves`: which letters changed when M came to be tested before R (docs/changes/05.md).
use Prim.Native.Nat.{ℕ, zero, suc, ◌+◌, ◌<◌}
use mathlib.Core.Path.{◌≡◌, refl, sym, ap, ap₂, ◌∙◌}
use mathlib.Core.Bool.{Bool, true, false, cond, ◌&&◌, true≢false}
use mathlib.Core.List.{List, [], ◌∷◌}
use native.Mathlib.Omega.{arith}
use lib.ListN.{length, get_or, take, drop}
use borrow.Author.Tests.{eq-eqb, ne_eqb, eqb-true}
use Rattle.lists.specs.{Lists.All, Lists.more, Walk.walk}
use Rattle.lists.proofs.Lists.{all_at, all_drop}
use Rattle.jacobian.specs.{Classes.same_row, Classes.same_class, Answer.Accepts, Answer.neutral_class, Answer.opposite_answer, declared.Curve.Curve, declared.Class.Class}
use Rattle.jacobian.proofs.Calls.{only_neutral, opposite_accepts, opposite_degree}
use Rattle.stored_form.specs.Reading.{found}
use Rattle.history.specs.Register.{undo_seal}
use Rattle.archive.specs.Archive.{Archive, read_archive}
use Rattle.walk_report.specs.{Lines.line, Lines.first_line, Walk.seals, Walk.opposed, Walk.neutral, Walk.next_older, Walk.mark, Walk.letter, Walk.letters}
use Rattle.walk_report.specs.Report.{seal_lines, walk_lines, lines_of, report_lines}
use Rattle.archive_theorems.proofs.Parts.{operations_accepted}
use Rattle.report_theorems.specs.Parse.{parse_seal_line}
use Rattle.report_theorems.specs.Letters.{operation, Reverses, Letter, OperationLine}
use Rattle.report_theorems.specs.Letters as letters_of
use Rattle.report_theorems.proofs.{ReportMade.later_lines, ReportMade.lines_from, ArchiveWalk.seal_accepted, ArchiveWalk.count_fits, Parse.seal_line_says, Decided.decides_opposed, Decided.decides_neutral, Decided.decides_older}

-- ---- the lines, one by one

module _ (c : Curve) where
  first_seal : (seal : Class) (ops : List Class) → get_or (seals c seal ops) 0 neutral_class ≡ seal
  unfolding seals walk
  first_seal seal [] = refl
  first_seal seal (a ∷ older) = refl

  lettered : (k i n m : ℕ) (seal : Class) (ops : List Class) → k < length ops → n ≡ i + suc k →
      get_or (seal_lines i (m ∷ letters c ops) (seals c seal ops)) (suc k) []
      ≡ line n (letter c (get_or ops k neutral_class) (drop (suc k) ops)) (get_or (seals c seal ops) (suc k) neutral_class)
  unfolding later_lines letters seals walk
  lettered k i n m seal [] h e = absurd (omega (arith, h))
  lettered zero i n m seal (a ∷ older) h e =
      let before : Class = undo_seal c seal a in
      ap (λ (l : List (List ℕ)). get_or l 1 []) (lines_from c i m seal (a ∷ older))
      ∙ ap (λ (l : List (List ℕ)). get_or l 0 []) (lines_from c (i + 1) (letter c a older) before older)
      ∙ ap₂ (λ (j : ℕ) (x : Class). line j (letter c a older) x) (sym e) (sym (first_seal before older))
  lettered (suc k) i n m seal (a ∷ older) h e =
      ap (λ (l : List (List ℕ)). get_or l (suc (suc k)) []) (lines_from c i m seal (a ∷ older))
      ∙ lettered k (i + 1) n (letter c a older) (undo_seal c seal a) older (omega (arith, h)) (omega (arith, e))

  counted : (i m : ℕ) (seal : Class) (ops : List Class) → length (seal_lines i (m ∷ letters c ops) (seals c seal ops)) ≡ suc (length ops)
  unfolding later_lines letters seals walk
  counted i m seal [] = ap length (lines_from c i m seal [])
  counted i m seal (a ∷ older) =
      ap length (lines_from c i m seal (a ∷ older)) ∙ ap suc (counted (i + 1) (letter c a older) (undo_seal c seal a) older)

-- all lines of the report
module _ (s : List ℕ) {x : Archive} {end : ℕ} (reads : read_archive s ≡ found x end) where
  pub line_count : length (report_lines s) ≡ length x.operations + 2
  unfolding report_lines lines_of walk_lines
  line_count =
      ap (λ r. length (lines_of r)) reads
      ∙ ap suc (counted x.curve 0 0x2E x.seal x.operations)
      ∙ omega arith

  pub header_lines : take 2 (report_lines s) ≡ first_line (length x.operations) x.drawing ∷ line 0 0x2E x.seal ∷ []
  unfolding report_lines lines_of walk_lines
  header_lines =
      ap (λ r. take 2 (lines_of r)) reads
      ∙ ap (λ (l : List (List ℕ)). first_line (length x.operations) x.drawing ∷ take 1 l) (lines_from x.curve 0 0x2E x.seal x.operations)

  pub operation_line : (k : ℕ) → k < length x.operations →
      get_or (report_lines s) (suc (suc k)) []
      ≡ line (suc k) (letter x.curve (get_or x.operations k neutral_class) (drop (suc k) x.operations))
      (get_or (seals x.curve x.seal x.operations) (suc k) neutral_class)
  unfolding report_lines lines_of walk_lines
  operation_line k h =
      ap (λ r. get_or (lines_of r) (suc (suc k)) []) reads
      ∙ lettered x.curve k 0 (suc k) 0x2E x.seal x.operations h (omega arith)

-- ---- what the letters say

module _ {c : Curve} (ops : List Class) (all : All (Accepts c) ops) (k : ℕ) (within : k < length ops) where
  accepted_at : (i : ℕ) → i < length ops → Accepts c (operation ops i)
  accepted_at i h = all_at i neutral_class h all

  reverses_older : Reverses c ops k → next_older (opposed c (operation ops k)) (drop (suc k) ops) ≡ true
  reverses_older r =
      (decides_older (opposed c (operation ops k)) (suc k) ops).1
      (r.kept, (decides_opposed (accepted_at k within) (accepted_at (suc k) r.kept)).1 r.opposite)

  older_reverses : next_older (opposed c (operation ops k)) (drop (suc k) ops) ≡ true → Reverses c ops k
  older_reverses h =
      let kept = (decides_older (opposed c (operation ops k)) (suc k) ops).0 h in
      record { kept = kept.0; opposite = (decides_opposed (accepted_at k within) (accepted_at (suc k) kept.0)).0 kept.1 }

  marked : Letter c ops k (letter c (operation ops k) (drop (suc k) ops))
  unfolding letter mark
  marked = go (neutral (operation ops k)) (next_older (opposed c (operation ops k)) (drop (suc k) ops)) refl refl
    where
      go : (n r : Bool) → neutral (operation ops k) ≡ n → next_older (opposed c (operation ops k)) (drop (suc k) ops) ≡ r → Letter c ops k (cond n 0x4D (cond r 0x52 0x2D))
      go true r e f = letters_of.neutral ((decides_neutral (accepted_at k within)).0 e)
      go false true e f = letters_of.reversal (λ h. true≢false (sym ((decides_neutral (accepted_at k within)).1 h) ∙ e)) (older_reverses f)
      go false false e f = letters_of.other (λ h. true≢false (sym ((decides_neutral (accepted_at k within)).1 h) ∙ e)) (λ h. true≢false (sym (reverses_older h) ∙ f))

-- the three conditions exclude each other
pub letter_only : {c : Curve} {ops : List Class} {k m n : ℕ} → Letter c ops k m → Letter c ops k n → m ≡ n
letter_only (letters_of.neutral e) (letters_of.neutral f) = refl
letter_only (letters_of.neutral e) (letters_of.reversal h r) = absurd (h e)
letter_only (letters_of.neutral e) (letters_of.other h r) = absurd (h e)
letter_only (letters_of.reversal h r) (letters_of.neutral e) = absurd (h e)
letter_only (letters_of.reversal h r) (letters_of.reversal g q) = refl
letter_only (letters_of.reversal h r) (letters_of.other g q) = absurd (q r)
letter_only (letters_of.other h r) (letters_of.neutral e) = absurd (h e)
letter_only (letters_of.other h r) (letters_of.reversal g q) = absurd (r q)
letter_only (letters_of.other h r) (letters_of.other g q) = refl

-- the line of operation k
pub operation_letter : (s : List ℕ) {x : Archive} {end : ℕ} → read_archive s ≡ found x end → (k : ℕ) → k < length x.operations →
    OperationLine x k (get_or (report_lines s) (suc (suc k)) [])
operation_letter s {x} reads k h =
    let c : Curve = x.curve in
    let ops : List Class = x.operations in
    let mark : ℕ = letter c (operation ops k) (drop (suc k) ops) in
    let seal : Class = get_or (seals c x.seal ops) (suc k) neutral_class in
    let accepted : Accepts c seal = seal_accepted s reads (suc k) (omega (arith, h)) in
    let is = operation_line s reads k h in
    record {
      mark = mark;
      is_letter = marked ops (operations_accepted s reads) k h;
      is_line = is;
      says = ap parse_seal_line is ∙ seal_line_says (suc k) mark seal accepted (count_fits s reads (suc k) (omega (arith, h)));
    }

-- ---- M before R

module _ {c : Curve} where
  -- a neutral class is the opposite of the neutral ones alone
  opposed_neutral : {a b : Class} → Accepts c a → Accepts c b → neutral a ≡ true → opposed c a b ≡ neutral b
  unfolding opposed neutral same_class same_row neutral_class
  opposed_neutral {a} {b} ha hb e =
      ap (λ (x : Class). same_class x (opposite_answer c b).class) (only_neutral c ha (eqb-true a.degree 0 e))
      ∙ go (opposite_answer c b).class (opposite_accepts c hb) (opposite_degree c hb) b.degree refl
    where
      go : (o : Class) → Accepts c o → o.degree ≡ b.degree → (n : ℕ) → b.degree ≡ n → same_class neutral_class o ≡ neutral b
      go o ho same zero z = ap (same_class neutral_class) (only_neutral c ho (same ∙ z)) ∙ sym (eq-eqb b.degree 0 z)
      go o ho same (suc n) z = rw (same, z, ne_eqb 0 (suc n) (λ h. omega arith), ne_eqb (suc n) 0 (λ h. omega arith))

  next_opposed : {a : Class} {older : List Class} → Accepts c a → All (Accepts c) older → neutral a ≡ true → next_older (opposed c a) older ≡ next_older neutral older
  unfolding next_older
  next_opposed {older = []} ha hs e = refl
  next_opposed {older = b ∷ older} ha (more hb hs) e = opposed_neutral ha hb e

-- The letters in both orders of the tests: n is whether the operation is neutral,
-- t whether it is the opposite of the next older one, q whether the next older one is neutral.
swapped : (n t q : Bool) → (n ≡ true → t ≡ q) →
    let was : ℕ = cond t 0x52 (cond n 0x4D 0x2D) in
    let is : ℕ = cond n 0x4D (cond t 0x52 0x2D) in
    ((n && q) ≡ false → is ≡ was) × ((n && q) ≡ true → (was ≡ 0x52) × (is ≡ 0x4D))
swapped true true true h = (λ e. absurd (true≢false e), λ e. (refl, refl))
swapped true true false h = absurd (true≢false (h refl))
swapped true false true h = absurd (true≢false (sym (h refl)))
swapped true false false h = (λ e. refl, λ e. absurd (true≢false (sym e)))
swapped false true q h = (λ e. refl, λ e. absurd (true≢false (sym e)))
swapped false false q h = (λ e. refl, λ e. absurd (true≢false (sym e)))

-- `was` is the letter of operation k when R was tested before M.
-- If the operation and the next older one are both neutral, it was R and is M; else it is unchanged.
pub letter_moves : (s : List ℕ) {x : Archive} {end : ℕ} → read_archive s ≡ found x end → (k : ℕ) → k < length x.operations →
    let a = get_or x.operations k neutral_class in
    let older = drop (suc k) x.operations in
    let was : ℕ = cond (next_older (opposed x.curve a) older) 0x52 (cond (neutral a) 0x4D 0x2D) in
    let both = neutral a && next_older neutral older in
    (both ≡ false → letter x.curve a older ≡ was) × (both ≡ true → (was ≡ 0x52) × (letter x.curve a older ≡ 0x4D))
unfolding letter mark
letter_moves s {x} reads k h =
    let all = operations_accepted s reads in
    swapped _ _ _ (next_opposed (all_at k neutral_class h all) (all_drop (suc k) all))
