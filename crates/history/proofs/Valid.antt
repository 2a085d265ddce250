-- Demand 1 of the register by value: every answer is an acceptance or a listed refusal.
-- `register_refusal_valid`: the refusal of a register is valid.
-- `call_refusal_valid`: the refusal of a call is valid.
-- `call_valid`: a call answers an acceptance with the next register, or one of its own refusals and the register given.
-- `call_never`: a call never refuses with a number that is not among its own.
-- `call_never_117`: so no call answers 117.
-- `commit_never_113`, `undo_never_114`: no commit answers 113, and no undo 114.
-- `commit_never_121`: no commit answers 121.
-- `release_never`: no release answers 113, 114 or 121.
use Prim.Native.Nat.{ℕ, zero, suc}
use mathlib.Core.{Path.◌≡◌, Path.refl, Path.sym, Path.◌∙◌, Path.ap, Path.subst, Bool.Bool, Bool.true, Bool.false, Bool.true≢false, Bool.cond, List.List, Logic.inl, Logic.inr}
use native.Mathlib.Omega.{arith}
use lib.Dec.{eqb}
use Rattle.jacobian.specs.{Refusals.refusals, Refusals.listed, Refusals.IsRefusal, Refusals.ValidRefusal, Answer.refused, declared.Class.Class}
use Rattle.jacobian.proofs.{Refusals.valid_or_else, Valid.curve_refusal_valid, Valid.class_refusal_valid}
use Rattle.count_limit.specs.Limit.{count_limit}
use Rattle.count_limit.proofs.Valid.{count_refusal_valid, released_refusal_valid}
use Rattle.history.specs.Register.{RegisterReply, register_refusal, edge_refusal, step_refusal, follows, commit_answer, undo_answer, release_answer}
use Rattle.history.specs.Calls.{Call, step, release, commit, undo, answer, call_refusal, next_register}
use Rattle.history.specs.Checking.{call_numbers, ValidRegisterReply}
use Rattle.history.specs.Checking as checking
use Rattle.history.specs.declared.{Register.Register, Step.Step, Step.TheVariants.Commit, Step.TheVariants.Undo}
use Rattle.history.proofs.{Registers.follows_number, Checking.answer_follows, Checking.call_listed}

-- ---- the checks
pub register_refusal_valid : (r : Register) → ValidRefusal (register_refusal r)
unfolding register_refusal
register_refusal_valid r =
    valid_or_else _ _ (curve_refusal_valid r.curve)
    (valid_or_else _ _ (count_refusal_valid r.count) (valid_or_else _ _ (released_refusal_valid r.count r.released) (class_refusal_valid r.curve r.seal)))

-- a valid number, given where a test is true, or else a valid one
cond_valid : (at : Bool) (n m : ℕ) → IsRefusal n → ValidRefusal m → ValidRefusal (cond at n m)
unfolding ValidRefusal
cond_valid true n m h k = inr h
cond_valid false n m h k = k

edge_valid : (k : Step) (n released : ℕ) → ValidRefusal (edge_refusal k n released)
unfolding ValidRefusal edge_refusal IsRefusal refusals listed
edge_valid Commit n released = cond_valid (eqb n count_limit) 114 0 refl (inl refl)
edge_valid Undo n released = cond_valid (eqb n 0) 113 _ refl (cond_valid (eqb n released) 121 0 refl (inl refl))

pub call_refusal_valid : (r : Register) (c : Call) → ValidRefusal (call_refusal r c)
unfolding call_refusal step_refusal
call_refusal_valid r (step k a) =
    valid_or_else _ _ (register_refusal_valid r) (valid_or_else _ _ (class_refusal_valid r.curve a) (edge_valid k r.count r.released))
call_refusal_valid r release = register_refusal_valid r

-- ---- the calls
follows_valid : (ns : List ℕ) (n : ℕ) (given next : Register) → (¬ (n ≡ 0) → listed n ns ≡ true) → ValidRegisterReply ns given (follows n given next)
unfolding follows
follows_valid ns zero given next h = checking.ValidRegisterReply.acceptance next
follows_valid ns (suc n) given next h = checking.ValidRegisterReply.refusal (suc n) (h (λ e. omega arith))

module _ (r : Register) (c : Call) where
  pub call_valid : ValidRegisterReply (call_numbers c) r (answer r c)
  call_valid = rw (answer_follows r c) (follows_valid (call_numbers c) _ r (next_register r c) (call_listed r c))

  pub call_never : (n : ℕ) → listed n (call_numbers c) ≡ false → ¬ ((answer r c).outcome ≡ refused n)
  call_never n out e =
      let z = follows_number (call_refusal r c) r (next_register r c) n (sym (ap (λ (x : RegisterReply). x.outcome) (answer_follows r c)) ∙ e) in
      true≢false (sym (subst (λ m. listed m (call_numbers c) ≡ true) z.0 (call_listed r c z.1)) ∙ out)

pub call_never_117 : (r : Register) (c : Call) → ¬ ((answer r c).outcome ≡ refused 117)
unfolding call_numbers listed
call_never_117 r (step Commit a) = call_never r (commit a) 117 refl
call_never_117 r (step Undo a) = call_never r (undo a) 117 refl
call_never_117 r release = call_never r release 117 refl

module _ (r : Register) (a : Class) where
  pub commit_never_113 : ¬ ((commit_answer r a).outcome ≡ refused 113)
  unfolding answer call_numbers listed
  commit_never_113 = call_never r (commit a) 113 refl

  pub commit_never_121 : ¬ ((commit_answer r a).outcome ≡ refused 121)
  unfolding answer call_numbers listed
  commit_never_121 = call_never r (commit a) 121 refl

  pub undo_never_114 : ¬ ((undo_answer r a).outcome ≡ refused 114)
  unfolding answer call_numbers listed
  undo_never_114 = call_never r (undo a) 114 refl

pub release_never : (r : Register) → (¬ ((release_answer r).outcome ≡ refused 113)) × ((¬ ((release_answer r).outcome ≡ refused 114)) × (¬ ((release_answer r).outcome ≡ refused 121)))
unfolding answer call_numbers listed
release_never r = (call_never r release 113 refl, (call_never r release 114 refl, call_never r release 121 refl))
