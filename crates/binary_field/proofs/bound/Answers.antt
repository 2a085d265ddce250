-- `bound` meets its contract.
use Rattle.binary_field.proofs.Degrees.{bound_of, bound_refused}
use Rattle.binary_field.proofs.bound.Goals as goal

pub returns-in-Ok : goal.returns-in-Ok
returns-in-Ok c = rw c.bound.ensures (bound_of _ _ c.in-Ok.ensures.1)

pub returns-in-Err : goal.returns-in-Err
returns-in-Err c = bound_refused _ _ c.in-Err.ensures.0
