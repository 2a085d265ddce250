-- `inverse` meets its contract: the element is not 0, so that the call answers its inverse.
use mathlib.Core.Path.{◌∙◌}
use Rattle.binary_field.proofs.Replies.{element_is}
use Rattle.row_theory.proofs.Rows.{Elements.el_nonzero, Answers.inverse_one, Answers.inverse_answers, Answers.inverse_inverts}
use Rattle.class_rows.proofs.Elements.{is_element}
use Rattle.class_rows.proofs.element.Field.inverse.Goals as goal

pub unwrap-requires : goal.unwrap-requires
unwrap-requires c =
    let ne = el_nonzero _ _ c.requires.a_in c.requires.nonzero in
    is_element _ (c.inverse.ensures ∙ inverse_answers _ c.args.self.accepted _ c.requires.a_in ne)

pub returns-then-a-eq1 : goal.returns-then-a-eq1
returns-then-a-eq1 c = inverse_one _ _ c.if-a-eq1.true

pub returns-else-a-eq1 : goal.returns-else-a-eq1
returns-else-a-eq1 c =
    let ne = el_nonzero _ _ c.requires.a_in c.requires.nonzero in
    inverse_inverts _ _ ne (element_is c.unwrap.ensures (c.inverse.ensures ∙ inverse_answers _ c.args.self.accepted _ c.requires.a_in ne))
