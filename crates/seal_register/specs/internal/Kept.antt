-- The answer of a call by value, kept in a lent register.
use Rattle.jacobian.specs.Answer.{accepted, refused}
use Rattle.history.specs.{Register.RegisterReply, declared.Register.Register}

-- what a call in place leaves: what the call by value answered, but on a refusal the register that was lent
unfoldable pub kept : Register → RegisterReply → RegisterReply
kept lent x = elim x.outcome [ accepted ↦ x | refused n ↦ record { outcome = refused n; register = lent } ]
