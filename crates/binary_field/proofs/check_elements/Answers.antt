-- `check_elements` meets its contract: the numbers are checked one after the other.
use mathlib.Core.{Path.◌≡◌, Path.refl, Path.◌∙◌, Bool.Bool, Bool.true, Bool.false, Bool.◌&&◌}
use Prim.Native.Nat.{◌^◌}
use Rattle.std.specs.Prelude.{ltb}
use Rattle.std.proofs.lemmas.Result.{err_from_is_err_and}
use Rattle.binary_field.specs.{Checks.unless, Checks.◌or_else◌, Answer.below, Degree.degree_number}
use Rattle.binary_field.proofs.Refusing.{stops_first, goes_on}
use Rattle.binary_field.proofs.check_elements.Goals as goal

both : (x y : Bool) → unless (x && true) 110 or_else unless y 110 ≡ unless (x && y) 110
unfolding unless ◌or_else◌
both true y = refl
both false y = refl

pub returns-in_err-check_element : goal.returns-in_err-check_element
unfolding below
returns-in_err-check_element c =
    let p = err_from_is_err_and c.from_residual.result c.from_residual.ensures.1 in
    let m = 2 ^ degree_number c.args.degree in
    rw (p.1, p.2) (stops_first _ _ c.in_err-check_element.ensures ∙ both (ltb c.args.a m) (ltb c.args.b m && true))

pub returns : goal.returns
unfolding below
returns c =
    let m = 2 ^ degree_number c.args.degree in
    goes_on c.in_ok-check_element.ensures c.check_element-2.ensures ∙ both (ltb c.args.a m) (ltb c.args.b m && true)
