-- The invariant of `Polynomial::value_at`: r is the value of the coefficients after those that are left.
use Rattle.stamps.proofs.Values.{Gone}
use Rattle.stamps.proofs.polynomial.Polynomial.value_at.Given as goal

abbrev pub invariant-loop-a : goal.invariant-loop-a
invariant-loop-a l = let f = l.fn.self in Gone f.d f.coefficients l.x l.r l.a-iterator.iter.rest.now
