-- What the checks of a register and of a call on it require, in checking order, and the numbers with which a call can
-- refuse (docs/SPECIFICATION.md, 4 and 6).
use Rattle.std.specs.Prelude.{ℕ}
use mathlib.Core.{Path.◌≡◌, Bool.true, List.List, List.[], List.◌∷◌, List.◌++◌}
use Rattle.jacobian.specs.{Checks.Check, Checks.check, Checks.RefusalOf, Refusals.listed, Answer.accepted, Answer.refused, Checking.curve_checks, Checking.class_checks}
use Rattle.count_limit.specs.{Limit.count_limit, Checking.count_check, Checking.released_check}
use Rattle.history.specs.{Register.RegisterReply, Calls.Call, Calls.step, Calls.release}
use Rattle.history.specs.declared.{Register.Register, Step.Step, Step.TheVariants.Commit, Step.TheVariants.Undo}

-- the checks of a register: those of its curve, then of its count, then of its released step, then of its seal
abbrev pub register_checks : Register → List Check
register_checks r =
    curve_checks r.curve
    ++ (count_check r.count
    ∷ released_check r.count r.released
    ∷ class_checks r.curve r.seal)

-- the last checks of a step: the count is not the limit for a commit; for an undo it is not 0, nor the released step
abbrev pub edge_checks : Step → ℕ → ℕ → List Check
edge_checks Commit n released = check 114 (¬ (n ≡ count_limit)) ∷ []
edge_checks Undo n released = check 113 (¬ (n ≡ 0)) ∷ check 121 (¬ (n ≡ released)) ∷ []

-- the checks of a call: those of the register; for a step then those of the operation's class and of the step's edge
abbrev pub call_checks : Register → Call → List Check
call_checks r (step k a) = register_checks r ++ (class_checks r.curve a ++ edge_checks k r.count r.released)
call_checks r release = register_checks r

-- the numbers of these checks
unfoldable pub check_numbers : List Check → List ℕ
check_numbers [] = []
check_numbers (c ∷ cs) = c.number ∷ check_numbers cs

-- the numbers with which a call can refuse
unfoldable pub call_numbers : Call → List ℕ
call_numbers (step Commit a) = 104 ∷ 106 ∷ 107 ∷ 109 ∷ 110 ∷ 111 ∷ 114 ∷ 120 ∷ []
call_numbers (step Undo a) = 104 ∷ 106 ∷ 107 ∷ 109 ∷ 110 ∷ 111 ∷ 113 ∷ 120 ∷ 121 ∷ []
call_numbers release = 104 ∷ 106 ∷ 107 ∷ 109 ∷ 110 ∷ 111 ∷ 120 ∷ []

-- an answer by the checks of a call: its number is their refusal, and a refused call answers the value due then
pub record CheckedAnswer {X : Type 0} (cs : List Check) (n : ℕ) (refused answered : X) : Type 0 where
  pub refusal : RefusalOf cs n
  pub kept : ¬ (n ≡ 0) → answered ≡ refused

-- an acceptance with the next register, or a refusal with one of these numbers and the register as it was given
pub data ValidRegisterReply (numbers : List ℕ) (given : Register) : RegisterReply → Type 0 where
  acceptance : (next : Register) → ValidRegisterReply numbers given (record { outcome = accepted; register = next })
  refusal : (n : ℕ) → listed n numbers ≡ true → ValidRegisterReply numbers given (record { outcome = refused n; register = given })
