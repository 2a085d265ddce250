-- The next register or a refusal, as what a call on a register answers.
use Rattle.std.specs.Prelude.{ℕ, Result, Ok, Err}
use Rattle.refusals.specs.{Refusals.number, declared.Refusal.Refusal}
use Rattle.jacobian.specs.Answer.{accepted, refused}
use Rattle.jacobian.specs.Answer as jacobian
use Rattle.history.specs.{Register.RegisterReply, Register.with_count_and_seal, declared.Register.Register}

-- the next register, or the refusal with the register as it was given
abbrev pub next_reply : Register → Result Register Refusal → RegisterReply
next_reply given (Ok next) = record { outcome = accepted; register = next }
next_reply given (Err r) = record { outcome = refused (number r); register = given }

-- the register with this count and the answered seal, or the answered refusal with the register as it was given
unfoldable pub moved_reply : Register → ℕ → jacobian.Result → RegisterReply
moved_reply given n x =
    elim x.outcome [ accepted ↦ record { outcome = accepted; register = with_count_and_seal n x.class given } | refused k ↦ record { outcome = refused k; register = given } ]
