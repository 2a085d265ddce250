-- `is_pair` meets its contract: each test in turn.
use mathlib.Core.{Path.sym, Path.◌∙◌, Path.ap, Bool.Bool, Bool.true, Bool.false, Bool.◌&&◌}
use Rattle.std.proofs.Common.{◌≡◌, ◌-◌, rules, length, get_or}
use lib.Dec.{eqb, leb, ltb}
use Rattle.row_theory.specs.Row.{places}
use Rattle.class_rows.specs.Checked.{is_row, is_pair, is_monic}
use Rattle.class_rows.proofs.Tests.{row_answer}
use Rattle.class_rows.proofs.curve.Curve.is_pair.Goals as goal
use Rattle.class_rows.proofs.curve.Curve.is_pair.Goals.{Joined-n-le4}
use Rattle.class_rows.proofs.curve.Curve.is_pair.Goals.{then-is_row, else-is_row, then-is_row-2, else-is_row-2, then-n-le4, else-n-le4}

-- a value that is the second test where the first holds, and else false
and_then : {x y v : Bool} → x ≡ true → v ≡ y → v ≡ (x && y)
and_then {y = y} e h = h ∙ ap (λ x. x && y) (sym e)

and_else : {x v : Bool} (y : Bool) → x ≡ false → v ≡ false → v ≡ (x && y)
and_else y e h = h ∙ ap (λ x. x && y) (sym e)

-- the tests before the last one
tests : (c : Joined-n-le4) → c.if-n-le4.value ≡ (is_row c.args.self.field.degree c.args.a.u && is_row c.args.self.field.degree c.args.a.v && leb (places c.args.a.u) 4 && ltb (places c.args.a.v) (places c.args.a.u))
tests c =
    let d = c.args.self.field.degree in
    let u = c.args.a.u in
    let v = c.args.a.v in
    let u_size : length u ≡ 12 = search rules in
    let v_size : length v ≡ 12 = search rules in
    let u_row = row_answer d u _ c.args.self.field.accepted u_size c.is_row.ensures in
    let rows : c.if-is_row.value ≡ (is_row d u && is_row d v) =
    elim c.if-is_row.branch [
      | then-is_row w ↦ and_then (sym u_row ∙ w.if-is_row.true) (w.value-is ∙ row_answer d v _ c.args.self.field.accepted v_size w.is_row-then-is_row.ensures)
      | else-is_row w ↦ and_else (is_row d v) (sym u_row ∙ w.if-is_row.false) (w.value-is ∙ w.if-is_row.false)
    ]
    in
    let low : c.if-is_row-2.value ≡ (is_row d u && is_row d v && leb (places u) 4) =
    elim c.if-is_row-2.branch [
      | then-is_row-2 w ↦ and_then (sym rows ∙ w.if-is_row-2.true) (w.value-is ∙ ap (λ n. leb n 4) c.length-n.ensures)
      | else-is_row-2 w ↦ and_else (leb (places u) 4) (sym rows ∙ w.if-is_row-2.false) (w.value-is ∙ w.if-is_row-2.false)
    ]
    in
    elim c.if-n-le4.branch [
      | then-n-le4 w ↦ and_then (sym low ∙ w.if-n-le4.true) (w.value-is ∙ ap (λ m. ltb m c.length-n.result) w.length.ensures ∙ ap (λ n. ltb (places v) n) c.length-n.ensures)
      | else-n-le4 w ↦ and_else (ltb (places v) (places u)) (sym low ∙ w.if-n-le4.false) (w.value-is ∙ w.if-n-le4.false)
    ]

pub returns-then-length-n : goal.returns-then-length-n
unfolding is_pair is_monic
returns-then-length-n c =
    and_then (sym (tests (goal.at.returns-then-length-n c).Joined-n-le4) ∙ c.if-length-n.true) (ap (λ n. eqb (get_or c.args.a.u (n - 1) 0) 1) c.length-n.ensures)

pub returns-else-length-n : goal.returns-else-length-n
unfolding is_pair is_monic
returns-else-length-n c =
    and_else _ (sym (tests (goal.at.returns-else-length-n c).Joined-n-le4) ∙ c.if-length-n.false) c.if-length-n.false
