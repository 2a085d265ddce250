-- `sum` meets its contract: the call answers the element.
use mathlib.Core.Path.{◌∙◌}
use Rattle.binary_field.proofs.Replies.{element_is}
use Rattle.row_theory.proofs.Rows.Answers.{sum_answers, number_is}
use Rattle.class_rows.proofs.Elements.{is_element}
use Rattle.class_rows.proofs.element.Field.sum.Goals as goal

pub unwrap-requires : goal.unwrap-requires
unwrap-requires c = let a = c.args in is_element _ (c.sum.ensures ∙ sum_answers _ a.self.accepted _ c.requires.a_in _ c.requires.b_in)

pub returns : goal.returns
returns c = let a = c.args in number_is _ _ (element_is c.unwrap.ensures (c.sum.ensures ∙ sum_answers _ a.self.accepted _ c.requires.a_in _ c.requires.b_in))
