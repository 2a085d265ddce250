-- The steps of a walk over a lent row.
-- `refused_is`, `accepted_is`: a refusal with the neutral class, and an acceptance with a seal, as `sealed` has them.
-- `start_empty`, `start_above`, `start_within`: the refusal before the first step, by the number of classes.
-- `row_walked`: where the first checks pass, the steps answer the walk over the whole row.
-- `row_refused`: where they refuse, so does that walk.
-- `goes_on`: an accepted step leaves it to the rest of the row what the walk answers.
-- `stops`: a refused step's refusal is what the walk answers.
-- `ends`: after the last step the seal is.
use Rattle.std.specs.Prelude.{ℕ, zero, suc, ◌+◌, ◌<◌, ◌≤◌, Ok, Err}
use Rattle.refusals.specs.{Refusals.number, declared.Refusal.Refusal}
use Rattle.binary_field.proofs.Refusing.{number_positive}
use Rattle.jacobian.proofs.ByValue.Answers.{refused_verdict}
use mathlib.Core.{Path.◌≡◌, Path.refl, Path.sym, Path.◌∙◌, Path.ap, Bool.Bool, Bool.true, Bool.false, List.List, List.[], List.◌∷◌}
use native.Mathlib.Numerals.{add-one}
use native.Mathlib.Omega.{arith}
use lib.{Dec.eqb, ListN.length, ListN.drop, ListN.get_or, Seq.drop-cons}
use Rattle.std.proofs.lemmas.List.{drop_all}
use borrow.Author.Tests.{eqb-true, eqb-false, eq-eqb, ne_eqb}
use Rattle.lists.specs.Walk.{foldl}
use Rattle.jacobian.specs.{Checks.unless, Checks.◌or_else◌, Curves.curve_refusal, Classes.class_refusal, Answer.accepted, Answer.refused, Answer.verdict_of, Answer.neutral_class, Answer.Accepts, Answer.refusal, Answer.refusal_of_two, Answer.Result, Answer.gives, Answer.Reply, Answer.reply, Answer.result, Answer.subtract_and_halve_answer, declared.Curve.Curve, declared.Class.Class, declared.CountedClass.CountedClass}
use Rattle.jacobian.proofs.{ByValue.Checks.then_zero, Representation.accepts_class, Representation.accepts_both}
use Rattle.count_limit.specs.Limit.{count_refusal}
use Rattle.count_limit.proofs.Limit.{within_limit}
use Rattle.history.specs.{Register.undo_seal, Register.sealed, Calls.walk_back}
use Rattle.history.proofs.{Seals.undo_sound, Answers.subtract_and_halve_sealed, Numbers.then_positive, Numbers.then_none}
use Rattle.seal_register.specs.{RowWalk.classes_refusal, RowWalk.row_refusal, RowWalk.row_walk_answer, internal.RowSteps.start_refusal, internal.RowSteps.onward, internal.RowSteps.class_result}

-- ---- what is answered
-- a refusal is the same whatever the seal
sealed_refused : (n : ℕ) (s t : Class) → ¬ (n ≡ 0) → sealed n s ≡ sealed n t
unfolding sealed
sealed_refused zero s t h = absurd (h refl)
sealed_refused (suc n) s t h = refl

pub refused_is : (n : ℕ) (s : Class) → ¬ (n ≡ 0) → record { outcome = verdict_of n; class = neutral_class } ≡ sealed n s
unfolding sealed verdict_of
refused_is zero s h = absurd (h refl)
refused_is (suc n) s h = refl

-- the code's refusal before the first step
refused_seal : (f : Refusal) (s : Class) {n : ℕ} → number f ≡ n → class_result (Err f) ≡ sealed n s
refused_seal f s e =
    ap (λ v. record { outcome = v; class = neutral_class }) (refused_verdict (number f) (number_positive f)) ∙ refused_is (number f) s (number_positive f) ∙ ap (λ k. sealed k s) e

pub accepted_is : (n : ℕ) (s : Class) → n ≡ 0 → record { outcome = accepted; class = s } ≡ sealed n s
unfolding sealed
accepted_is n s e = rw e

-- ---- before the first step
module _ (c : Curve) (s : Class) where
  pub start_empty : (n : ℕ) → n ≡ 0 → refusal c s ≡ start_refusal c s n
  unfolding start_refusal
  start_empty n e = rw e

  pub start_above : (n : ℕ) → ¬ (count_refusal n ≡ 0) → curve_refusal c or_else count_refusal n ≡ start_refusal c s n
  unfolding start_refusal unless
  start_above zero h = absurd (h (within_limit 0 (omega arith)))
  start_above (suc n) h = rw (ne_eqb (count_refusal (suc n)) 0 h)

  pub start_within : (n : ℕ) → ¬ (n ≡ 0) → count_refusal n ≡ 0 → 0 ≡ start_refusal c s n
  unfolding start_refusal unless
  start_within zero h k = absurd (h refl)
  start_within (suc n) h k = rw (eq-eqb (count_refusal (suc n)) 0 k)

-- ---- checks one after the other
then_within : (a s b : ℕ) → (a or_else s) or_else b ≡ a or_else 0 or_else s or_else b
unfolding ◌or_else◌
then_within zero s b = refl
then_within (suc a) s b = refl

then_above : (a n s : ℕ) → ¬ (n ≡ 0) → a or_else n ≡ a or_else n or_else s
unfolding ◌or_else◌
then_above zero zero s h = absurd (h refl)
then_above zero (suc n) s h = refl
then_above (suc a) n s h = refl

-- ---- one step
module _ (c : Curve) where
  step_sealed : (s a : Class) → onward c (sealed 0 s) a ≡ sealed (refusal_of_two c s a) (undo_seal c s a)
  unfolding onward sealed
  step_sealed s a = subtract_and_halve_sealed c s a

  -- a refused walk stays as it is
  refused_stands : (n : ℕ) (s : Class) (ops : List Class) → foldl (onward c) (sealed (suc n) s) ops ≡ sealed (suc n) s
  unfolding foldl onward sealed
  refused_stands n s [] = refl
  refused_stands n s (a ∷ ops) = refused_stands n s ops

  refusal_stays : (n : ℕ) (ops : List Class) → foldl (onward c) (record { outcome = refused n; class = neutral_class }) ops ≡ record { outcome = refused n; class = neutral_class }
  unfolding foldl onward
  refusal_stays n [] = refl
  refusal_stays n (a ∷ ops) = refusal_stays n ops

  -- from an accepted seal, the steps answer the end of the walk, or the refusal of the first refused class
  module _ (ok : curve_refusal c ≡ 0) where
    next_refusal : (s a : Class) → Accepts c s → refusal_of_two c s a ≡ class_refusal c a
    unfolding refusal_of_two refusal ◌or_else◌
    next_refusal s a h = rw (ok, accepts_class h)

    going : (n : ℕ) (t : Class) (ops : List Class) → (n ≡ 0 → foldl (onward c) (sealed 0 t) ops ≡ sealed (classes_refusal c ops) (walk_back c t ops))
        → foldl (onward c) (sealed n t) ops ≡ sealed (n or_else classes_refusal c ops) (walk_back c t ops)
    unfolding ◌or_else◌ sealed
    going zero t ops h = h refl
    going (suc n) t ops h = refused_stands n t ops

    sound_walk : (s : Class) (ops : List Class) → Accepts c s → foldl (onward c) (sealed 0 s) ops ≡ sealed (classes_refusal c ops) (walk_back c s ops)
    unfolding foldl walk_back classes_refusal
    sound_walk s [] h = refl
    sound_walk s (a ∷ ops) h =
        ap (λ x. foldl (onward c) x ops) (step_sealed s a ∙ ap (λ n. sealed n (undo_seal c s a)) (next_refusal s a h))
        ∙ going (class_refusal c a) (undo_seal c s a) ops (λ e. sound_walk (undo_seal c s a) ops (undo_sound h (accepts_both c a ok e)))

  -- ---- all steps
  first_refusal : (n : ℕ) (s a : Class) → refusal c s ≡ suc n → refusal_of_two c s a ≡ suc n
  unfolding refusal_of_two ◌or_else◌
  first_refusal n s a e = rw e

  -- the first step checks the curve and the last seal
  opens_sound : (n : ℕ) (s a : Class) (ops : List Class) → refusal c s ≡ n
      → foldl (onward c) (sealed 0 s) (a ∷ ops) ≡ sealed (n or_else classes_refusal c (a ∷ ops)) (walk_back c s (a ∷ ops))
  unfolding refusal ◌or_else◌ foldl
  opens_sound zero s a ops e = sound_walk (then_zero _ _ e).0 s (a ∷ ops) (record { none = e })
  opens_sound (suc n) s a ops e =
      ap (λ x. foldl (onward c) x ops) (step_sealed s a ∙ ap (λ k. sealed k (undo_seal c s a)) (first_refusal n s a e))
      ∙ refused_stands n (undo_seal c s a) ops
      ∙ sealed_refused (suc n) _ _ (λ z. omega arith)

  -- the definition's checks, by the length of the row
  row_within : (s : Class) (ops : List Class) → count_refusal (length ops) ≡ 0 → sealed (refusal c s or_else classes_refusal c ops) (walk_back c s ops) ≡ row_walk_answer c s ops
  unfolding row_walk_answer row_refusal refusal
  row_within s ops h = rw h (ap (λ n. sealed n (walk_back c s ops)) (then_within (curve_refusal c) (class_refusal c s) (classes_refusal c ops)))

  row_above : (s : Class) (ops : List Class) → ¬ (count_refusal (length ops) ≡ 0) → sealed (curve_refusal c or_else count_refusal (length ops)) s ≡ row_walk_answer c s ops
  unfolding row_walk_answer row_refusal
  row_above s ops h =
      sealed_refused (curve_refusal c or_else count_refusal (length ops)) s (walk_back c s ops) (then_positive (curve_refusal c) (count_refusal (length ops)) h)
      ∙ ap (λ n. sealed n (walk_back c s ops)) (then_above (curve_refusal c) (count_refusal (length ops)) (class_refusal c s or_else classes_refusal c ops) h)

  module _ (s : Class) where
    -- where the checks before the first step pass, the steps answer the walk over the whole row
    pub row_walked : (ops : List Class) → 0 ≡ start_refusal c s (length ops) → foldl (onward c) (gives s) ops ≡ row_walk_answer c s ops
    unfolding foldl start_refusal classes_refusal walk_back unless sealed
    row_walked [] e = ap (λ k. sealed k s) (e ∙ sym (then_none (refusal c s))) ∙ row_within s [] (within_limit 0 (omega arith))
    row_walked (a ∷ ops) e = go (eqb (count_refusal (length (a ∷ ops))) 0) refl
      where
        go : (b : Bool) → eqb (count_refusal (length (a ∷ ops))) 0 ≡ b → foldl (onward c) (gives s) (a ∷ ops) ≡ row_walk_answer c s (a ∷ ops)
        go true l = opens_sound (refusal c s) s a ops refl ∙ row_within s (a ∷ ops) (eqb-true _ 0 l)
        go false l =
            let above = eqb-false _ 0 l in
            absurd (then_positive (curve_refusal c) (count_refusal (length (a ∷ ops))) above (start_above c s (length (a ∷ ops)) above ∙ sym e))

    -- where they refuse, the walk does
    pub row_refused : (f : Refusal) (ops : List Class) → number f ≡ start_refusal c s (length ops) → class_result (Err f) ≡ row_walk_answer c s ops
    unfolding foldl start_refusal classes_refusal walk_back
    row_refused f [] e = refused_seal f s (e ∙ sym (then_none (refusal c s))) ∙ row_within s [] (within_limit 0 (omega arith))
    row_refused f (a ∷ ops) e = go (eqb (count_refusal (length (a ∷ ops))) 0) refl
      where
        go : (b : Bool) → eqb (count_refusal (length (a ∷ ops))) 0 ≡ b → class_result (Err f) ≡ row_walk_answer c s (a ∷ ops)
        go true l = absurd (number_positive f (e ∙ sym (start_within c s (length (a ∷ ops)) (λ z. omega arith) (eqb-true _ 0 l))))
        go false l = let above = eqb-false _ 0 l in refused_seal f s (e ∙ sym (start_above c s (length (a ∷ ops)) above)) ∙ row_above s (a ∷ ops) above

-- ---- the steps from an index of the row on
module _ (c : Curve) (s : Class) (row : List Class) (i : ℕ) (y : Result) (h : i < length row) (from : foldl (onward c) (gives s) (drop i row) ≡ y) where
  stepped : (d : Class) → foldl (onward c) (result (subtract_and_halve_answer c s (get_or row i d))) (drop (i + 1) row) ≡ y
  unfolding foldl onward
  stepped d = rw add-one (sym (ap (foldl (onward c) (gives s)) (drop-cons row i d h)) ∙ from)

  pub goes_on : (d : Class) (x : CountedClass) → reply (Ok x) ≡ subtract_and_halve_answer c s (get_or row i d) → foldl (onward c) (gives x.class) (drop (i + 1) row) ≡ y
  goes_on d x e = ap (λ (a : Reply). foldl (onward c) (result a) (drop (i + 1) row)) e ∙ stepped d

  pub stops : (d : Class) (f : Refusal) → reply (Err f) ≡ subtract_and_halve_answer c s (get_or row i d) → class_result (Err f) ≡ y
  stops d f e = sym (refusal_stays c (number f) (drop (i + 1) row)) ∙ ap (λ (a : Reply). foldl (onward c) (result a) (drop (i + 1) row)) e ∙ stepped d

pub ends : (c : Curve) (s : Class) (row : List Class) (i : ℕ) (y : Result) → length row ≤ i → foldl (onward c) (gives s) (drop i row) ≡ y → gives s ≡ y
unfolding foldl
ends c s row i y h from = sym (ap (foldl (onward c) (gives s)) (drop_all i row h)) ∙ from

-- what each turn of the walk shows
pub ruleset walk_rules = (row_walked, row_refused, goes_on, stops, ends)
