-- What a walk over a lent row promises (docs/SPECIFICATION.md, 8): its answer, and that its seal is the earliest one.
-- `row_accepts`: where no check of a walk refuses, the last seal and every class of the row are accepted.
-- `row_promised`: the answer of a walk keeps what the walk promises.
use mathlib.Core.{Path.◌≡◌, Path.◌∙◌, Path.ap, List.List, List.[], List.◌∷◌}
use Rattle.lists.specs.Lists.{All, none, more}
use Rattle.jacobian.specs.{Curves.curve_refusal, Answer.Accepts, Answer.Result, declared.Curve.Curve, declared.Class.Class}
use Rattle.jacobian.proofs.{ByValue.Checks.then_zero, Representation.accepts_both}
use Rattle.history.specs.{Register.sealed, Calls.walk_back}
use Rattle.history.proofs.Seals.{walk_is_only}
use Rattle.seal_register.specs.RowWalk.{classes_refusal, row_refusal, row_walk_answer, RowWalkAnswers}

module _ (c : Curve) where
  classes_accept : curve_refusal c ≡ 0 → (ops : List Class) → classes_refusal c ops ≡ 0 → All (Accepts c) ops
  unfolding classes_refusal
  classes_accept ok [] e = none
  classes_accept ok (a ∷ ops) e = let p = then_zero _ _ e in more (accepts_both c a ok p.0) (classes_accept ok ops p.1)

  pub row_accepts : (last : Class) (ops : List Class) → row_refusal c last ops ≡ 0 → Accepts c last × All (Accepts c) ops
  unfolding row_refusal
  row_accepts last ops e =
      let p = then_zero _ _ e in
      let q = then_zero _ _ (then_zero _ _ p.1).1 in
      (accepts_both c last p.0 q.0, classes_accept p.0 ops q.1)

  unrefused : (last : Class) (ops : List Class) → row_refusal c last ops ≡ 0 → (row_walk_answer c last ops).class ≡ walk_back c last ops
  unfolding row_walk_answer sealed
  unrefused last ops z = ap (λ n. (sealed n (walk_back c last ops)).class) z

  pub row_promised : (last : Class) (ops : List Class) {x : Result} → x ≡ row_walk_answer c last ops → RowWalkAnswers c last ops x
  row_promised last ops e = record {
    answer = e;
    taken_back = λ z.
        let p = row_accepts last ops z in
        rw (ap (λ (y : Result). y.class) e ∙ unrefused last ops z) (walk_is_only p.0 p.1);
  }
