-- `Polynomial::times_plus` meets its contract: product and sum are answered, since their numbers are in range.
use mathlib.Core.Path.{◌∙◌}
use Rattle.binary_field.proofs.Replies.{element_is}
use Rattle.class_rows.proofs.Elements.{is_element}
use Rattle.row_theory.specs.Field.{F, el}
use Rattle.row_theory.proofs.Rows.Answers.{sum_answers, product_answers, number_is}
use Rattle.stamps.proofs.Values.{zero_plus, sum_with}
use Rattle.stamps.proofs.polynomial.Polynomial.times_plus.Goals as goal

pub unwrap-p-requires : goal.unwrap-p-requires
unwrap-p-requires c = let pre = c.requires in let ok = c.args.self.accepted in is_element _ (c.product.ensures ∙ product_answers _ ok _ pre.1 _ pre.0)

pub unwrap-requires : goal.unwrap-requires
unwrap-requires c =
    let pre = c.requires in let ok = c.args.self.accepted in
    let d = c.args.self.d in
    let product = number_is d ((F d).ring.mul (el d c.args.x) (el d c.args.r)) (element_is c.unwrap-p.ensures (c.product.ensures ∙ product_answers _ ok _ pre.1 _ pre.0)) in
    is_element _ (c.sum.ensures ∙ sum_answers _ ok _ pre.2 _ product.in_range)

pub returns : goal.returns
returns c =
    let pre = c.requires in let ok = c.args.self.accepted in
    let d = c.args.self.d in
    let product = number_is d ((F d).ring.mul (el d c.args.x) (el d c.args.r)) (element_is c.unwrap-p.ensures (c.product.ensures ∙ product_answers _ ok _ pre.1 _ pre.0)) in
    sum_with _ _ product (element_is c.unwrap.ensures (c.sum.ensures ∙ sum_answers _ ok _ pre.2 _ product.in_range))

pub returns-then-r-eq0 : goal.returns-then-r-eq0
returns-then-r-eq0 c = zero_plus _ _ _ _ c.requires.2 c.if-r-eq0.true
