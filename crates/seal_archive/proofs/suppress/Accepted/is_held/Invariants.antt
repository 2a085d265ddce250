-- The invariant of `suppress::Accepted::is_held`: before each turn the pairs that were looked at do not hold operation k.
use Rattle.seal_archive.proofs.Held.{HeldSoFar}
use Rattle.seal_archive.proofs.suppress.Accepted.is_held.Given as goal

abbrev pub invariant-loop-i : goal.invariant-loop-i
invariant-loop-i l = HeldSoFar l.self.bytes.now l.self.header.count l.self.first l.m l.k l.at l.number l.i
