-- Every answer of the lent calls is an acceptance or one of the call's own refusals (docs/SPECIFICATION.md, 6).
-- `lent_valid`: a commit, an undo or a release in place answers 0 and leaves the next register, or answers one of the
-- call's numbers and leaves the register as it was.
-- `row_walk_valid`: the walk over a lent row answers 0 and the earliest seal, which no check refuses, or one of the
-- walk's numbers and the neutral class.
use Prim.Native.Nat.{ℕ, zero, suc}
use mathlib.Core.{Path.◌≡◌, Path.refl, Path.sym, Path.◌∙◌, Path.ap, Path.subst, Bool.true, List.List, Logic.◌⊎◌, Logic.inl, Logic.inr}
use native.Mathlib.Omega.{arith}
use Rattle.jacobian.specs.{Refusals.listed, declared.Curve.Curve, declared.Class.Class}
use Rattle.jacobian.specs.Answer.{accepted, verdict_of, neutral_class, Result, membership_answer}
use Rattle.history.specs.{Register.RegisterReply, Calls.Call, Calls.answer, Calls.next_register, Calls.walk_back, Checking.call_numbers, declared.Register.Register}
use Rattle.history.proofs.{Registers.follows_zero, Checking.answer_follows, Seals.walk_is_only}
use Rattle.seal_register.specs.{InPlace.in_place, RowWalk.row_refusal, RowWalk.reached, RowWalk.row_walk_answer, Checking.row_numbers, declared.walk.RowWalk.RowWalk}
use Rattle.seal_register.proofs.{RowSteps.accepted_is, Promises.row_accepts, Checking.number_is, Checking.lent_checked, Checking.lent_listed, Checking.row_number, Checking.row_listed, Checking.row_walk_checked}

-- ---- a call in place
pub lent_valid : (r : Register) (c : Call) (n : ℕ) (left : Register) → in_place n left ≡ answer r c
    → ((n ≡ 0) × (left ≡ next_register r c)) ⊎ ((listed n (call_numbers c) ≡ true) × (left ≡ r))
unfolding in_place
lent_valid r c zero left e = inl (refl, ap (λ (x : RegisterReply). x.register) (e ∙ answer_follows r c ∙ follows_zero _ r _ (sym (number_is r c zero left e))))
lent_valid r c (suc n) left e = inr (lent_listed r c (suc n) left e (λ z. omega arith), (lent_checked r c (suc n) left e).kept (λ z. omega arith))

-- ---- the walk over a lent row
module _ (c : Curve) (last : Class) (ops : List Class) where
  earliest_accepted : row_refusal c last ops ≡ 0 → membership_answer c (walk_back c last ops) ≡ accepted
  unfolding membership_answer verdict_of
  earliest_accepted e = let p = row_accepts c last ops e in ap verdict_of (walk_is_only p.0 p.1).accepts.none

  pub row_walk_valid : (w : RowWalk) → reached w ≡ row_walk_answer c last ops
      → ((w.refusal ≡ 0) × ((w.seal ≡ walk_back c last ops) × (membership_answer c w.seal ≡ accepted))) ⊎ ((listed w.refusal row_numbers ≡ true) × (w.seal ≡ neutral_class))
  unfolding row_walk_answer
  row_walk_valid w e = go w.refusal refl
    where
      number : w.refusal ≡ row_refusal c last ops
      number = row_number c last ops w e

      go : (n : ℕ) → w.refusal ≡ n
          → ((w.refusal ≡ 0) × ((w.seal ≡ walk_back c last ops) × (membership_answer c w.seal ≡ accepted))) ⊎ ((listed w.refusal row_numbers ≡ true) × (w.seal ≡ neutral_class))
      go zero z =
          let none = sym number ∙ z in
          let s : w.seal ≡ walk_back c last ops = ap (λ (x : Result). x.class) (e ∙ sym (accepted_is (row_refusal c last ops) (walk_back c last ops) none)) in
          inl (z, (s, ap (membership_answer c) s ∙ earliest_accepted none))
      go (suc n) z =
          inr
          (subst (λ m. listed m row_numbers ≡ true) (sym number) (row_listed c last ops (λ k. omega (arith, number ∙ k, z))), (row_walk_checked c last ops w e).kept (λ k. omega (arith, k, z)))
