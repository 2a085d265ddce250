-- The refusal 109 of a lent row by its length, with the limit as a number (docs/SPECIFICATION.md, 6 and 8).
-- `row_within_limit`: a walk over up to 1,024 accepted classes from an accepted seal answers the earliest seal.
-- `row_above_limit`: on an accepted curve, a row of 1,025 or more classes is refused with 109, whatever they are.
use Prim.Native.Nat.{◌≤◌}
use mathlib.Core.{Path.◌≡◌, List.List}
use native.Mathlib.Omega.{arith}
use lib.ListN.{length}
use Rattle.lists.specs.Lists.{All}
use Rattle.jacobian.specs.{Checks.◌or_else◌, Curves.curve_refusal, Answer.Accepts, Answer.accepted, Answer.refused, Answer.neutral_class, declared.Curve.Curve, declared.Class.Class}
use Rattle.jacobian.proofs.Representation.{accepts_curve, accepts_class}
use Rattle.count_limit.specs.Limit.{count_limit}
use Rattle.count_limit.proofs.Limit.{above_limit}
use Rattle.history.specs.{Register.sealed, Calls.walk_back}
use Rattle.seal_register.specs.RowWalk.{row_refusal, row_walk_answer}
use Rattle.seal_register.proofs.RowWalk.{unrefused, row_answered}

module _ (c : Curve) (last : Class) (ops : List Class) where
  pub row_within_limit : Accepts c last → All (Accepts c) ops → length ops ≤ 1024 → row_walk_answer c last ops ≡ record { outcome = accepted; class = walk_back c last ops }
  unfolding count_limit
  row_within_limit hs ho l = row_answered c last ops (accepts_curve hs) (accepts_class hs) l (unrefused c (λ a h. accepts_class h) ho)

  pub row_above_limit : curve_refusal c ≡ 0 → 1025 ≤ length ops → row_walk_answer c last ops ≡ record { outcome = refused 109; class = neutral_class }
  unfolding row_walk_answer row_refusal sealed ◌or_else◌ count_limit
  row_above_limit ok l = rw (ok, above_limit (length ops) (omega arith))
