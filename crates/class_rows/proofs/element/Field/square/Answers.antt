-- `square` meets its contract: the call answers the element.
use mathlib.Core.Path.{◌∙◌}
use Rattle.binary_field.proofs.Replies.{element_is}
use Rattle.row_theory.proofs.Rows.Answers.{square_answers, number_is}
use Rattle.class_rows.proofs.Elements.{is_element}
use Rattle.class_rows.proofs.element.Field.square.Goals as goal

pub unwrap-requires : goal.unwrap-requires
unwrap-requires c = let a = c.args in is_element _ (c.square.ensures ∙ square_answers _ a.self.accepted _ c.requires)

pub returns : goal.returns
returns c = let a = c.args in number_is _ _ (element_is c.unwrap.ensures (c.square.ensures ∙ square_answers _ a.self.accepted _ c.requires))
