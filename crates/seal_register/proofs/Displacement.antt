-- How far one changed operation moves a seal (docs/SPECIFICATION.md, 11).
-- Two lists of calls from one first seal on one curve, each call by value or in place, whose accepted calls are n
-- commits of which only the k-th changes, from d to e:
-- `both_accept`: d and e are accepted.
-- `displacement`: the last seal plus n - k doublings of e - d is the changed last seal; the sum is not refused.
-- `moves`: the last seal changes where d and e differ.
-- Two walks over lent rows of n classes, not refused and with one earliest seal, where only operation k changes so:
-- `row_displacement`: the last seal of the first plus n - k doublings of e - d is that of the second; the sum is not
-- refused.
-- `row_moves`: the two last seals differ where d and e differ.
use Prim.Native.Nat.{ℕ, ◌-◌}
use mathlib.Core.Path.{◌≡◌, sym, ◌∙◌, ap}
use mathlib.Core.List.{List, reverse}
use lib.ListN.{length}
use Rattle.lists.specs.Lists.{All, ChangedAt}
use Rattle.jacobian.specs.{Answer.Accepts, Answer.Result, Answer.gives, Answer.verdict_of, declared.Curve.Curve, declared.Class.Class}
use Rattle.history.specs.{Calls.newest, Calls.walk_back, Calls.Variants, Calls.displaced, declared.Register.Register}
use Rattle.history.proofs.Answers.{sealed_outcome}
use Rattle.history.proofs.Displacement as history
use Rattle.seal_register.specs.{InPlace.RecordedCall, InPlace.calls, InPlace.Session, InPlace.left_by, InPlace.newest_recorded, RowWalk.row_refusal, RowWalk.reached, RowWalk.row_walk_answer, declared.walk.RowWalk.RowWalk}
use Rattle.seal_register.proofs.{Answer.verdict_number, InPlace.newest_is, InPlace.left_by_last, RowSteps.accepted_is, Promises.row_accepts}

-- ---- lists of calls, each by value or in place
module _ (r t : Register) (ms ns : List RecordedCall) (here : Session r ms) (there : Session t ns) {k : ℕ} {d e : Class} (v : Variants k d e r t (newest_recorded r ms) (newest_recorded t ns)) where
  by_value : Variants k d e r t (newest r (calls ms)) (newest t (calls ns))
  by_value = rw (newest_is r ms here, newest_is t ns there) at v

  pub both_accept : Accepts r.curve d × Accepts r.curve e
  both_accept = history.both_accept r t (calls ms) (calls ns) by_value

  pub displacement : displaced r.curve (length (newest_recorded r ms) - k) d e (left_by r ms).seal ≡ gives (left_by t ns).seal
  displacement = rw (newest_is r ms here, left_by_last r ms here, left_by_last t ns there) (history.displacement r t (calls ms) (calls ns) by_value)

  pub moves : ¬ (d ≡ e) → ¬ ((left_by r ms).seal ≡ (left_by t ns).seal)
  moves = rw (left_by_last r ms here, left_by_last t ns there) (history.moves r t (calls ms) (calls ns) by_value)

-- ---- walks over lent rows, newest first
-- a walk that is not refused has an accepted seal and accepted classes, and it reaches the seal of its answer
record Walked (c : Curve) (s : Class) (ops : List Class) (w : RowWalk) : Type 0 where
  seal : Accepts c s
  operations : All (Accepts c) ops
  reaches : walk_back c s ops ≡ w.seal

walked : (c : Curve) (s : Class) (ops : List Class) (w : RowWalk) → reached w ≡ row_walk_answer c s ops → w.refusal ≡ 0 → Walked c s ops w
unfolding row_walk_answer
walked c s ops w e z =
    let none_due : row_refusal c s ops ≡ 0 =
    verdict_number _ 0 (sym (ap (λ (x : Result). x.outcome) e ∙ sealed_outcome (row_refusal c s ops) (walk_back c s ops)) ∙ ap verdict_of z) in
    let p = row_accepts c s ops none_due in
    record {
      seal = p.0;
      operations = p.1;
      reaches = ap (λ (x : Result). x.class) (accepted_is _ (walk_back c s ops) none_due ∙ sym e);
    }

module _ (c : Curve) (s t : Class) (xs ys : List Class) (w v : RowWalk) (here : reached w ≡ row_walk_answer c s xs) (there : reached v ≡ row_walk_answer c t ys)
    (unrefused : w.refusal ≡ 0) (unrefused' : v.refusal ≡ 0) (same : w.seal ≡ v.seal) {k : ℕ} {d e : Class} (at : ChangedAt k d e (reverse xs) (reverse ys)) where
  x : Walked c s xs w
  x = walked c s xs w here unrefused

  y : Walked c t ys v
  y = walked c t ys v there unrefused'

  pub row_displacement : displaced c (length xs - k) d e s ≡ gives t
  row_displacement = history.walk_displacement x.seal x.operations y.seal y.operations (x.reaches ∙ same ∙ sym y.reaches) at

  pub row_moves : ¬ (d ≡ e) → ¬ (s ≡ t)
  row_moves = history.walk_moves x.seal x.operations y.seal y.operations (x.reaches ∙ same ∙ sym y.reaches) at
