-- The invariant of `first_class`: before turn i no candidate below i has a class.
use Rattle.stamps.proofs.Search.{NoneYet}
use Rattle.stamps.proofs.first_class.Given as goal

abbrev pub invariant-loop-i : goal.invariant-loop-i
invariant-loop-i l = NoneYet l.f.d l.f.coefficients l.s l.i
