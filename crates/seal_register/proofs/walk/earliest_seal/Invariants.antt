-- The steps over the rest of the row answer the walk over the whole row.
use Rattle.std.proofs.Common.{◌≡◌, drop}
use Rattle.lists.specs.Walk.{foldl}
use Rattle.jacobian.specs.Answer.{gives}
use Rattle.seal_register.specs.RowWalk.{row_walk_answer}
use Rattle.seal_register.specs.internal.RowSteps.{onward}
use Rattle.seal_register.proofs.walk.earliest_seal.Given as goal

abbrev pub invariant-loop-class : goal.invariant-loop-class
invariant-loop-class l = foldl (onward l.curve) (gives l.seal) (drop l.class-index l.row) ≡ row_walk_answer l.curve l.fn.last l.row
