-- Valid answers (docs/SPECIFICATION.md, 6): accepted, or refused with a listed number and the neutral class.
use Rattle.std.specs.Prelude.{ℕ}
use Rattle.jacobian.specs.Refusals.{IsRefusal}
use Rattle.jacobian.specs.Answer.{Verdict, accepted, refused, Reply, refusing}
use Rattle.jacobian.specs.declared.Class.{Class}

-- accepted, or refused with a listed number
pub data ValidVerdict : Verdict → Type 0 where
  acceptance : ValidVerdict accepted
  refusal : (n : ℕ) → IsRefusal n → ValidVerdict (refused n)

-- accepted with a class, or refused with a listed number, the neutral class and no step
pub data ValidReply : Reply → Type 0 where
  acceptance : (a : Class) (steps : ℕ) → ValidReply (record { outcome = accepted; class = a; steps = steps })
  refusal : (n : ℕ) → IsRefusal n → ValidReply (refusing n)
