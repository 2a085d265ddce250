-- `product` meets its contract: the call answers the product.
use mathlib.Core.Path.{◌∙◌}
use Rattle.binary_field.proofs.Replies.{element_is}
use Rattle.row_theory.proofs.Rows.Answers.{zero_times, times_zero, one_times, times_one, product_answers, number_is}
use Rattle.class_rows.proofs.Elements.{is_element}
use Rattle.class_rows.proofs.element.Field.product.Goals as goal

pub unwrap-requires : goal.unwrap-requires
unwrap-requires c = is_element _ (c.product.ensures ∙ product_answers _ c.args.self.accepted _ c.requires.a_in _ c.requires.b_in)

pub returns-in-0 : goal.returns-in-0
returns-in-0 c = zero_times _ _ _ c.in-0.is

pub returns-in-1 : goal.returns-in-1
returns-in-1 c = one_times _ _ _ c.requires.b_in c.in-1.is

pub returns-in-0-b : goal.returns-in-0-b
returns-in-0-b c = times_zero _ _ _ c.in-0-b.is

pub returns-in-1-b : goal.returns-in-1-b
returns-in-1-b c = times_one _ _ _ c.requires.a_in c.in-1-b.is

pub returns-in_default-b : goal.returns-in_default-b
returns-in_default-b c =
    number_is _ _ (element_is c.unwrap.ensures (c.product.ensures ∙ product_answers _ c.args.self.accepted _ c.requires.a_in _ c.requires.b_in))
