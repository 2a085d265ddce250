-- `sum` meets its contract: the other goals are found.
use mathlib.Core.Path.{refl}
use Rattle.binary_field_theory.specs.Carryless.{◌⊕◌}
use Rattle.binary_field.specs.Answer.{sum_reply}
use Rattle.binary_field.proofs.Replies.{replies, then_range}
use Rattle.binary_field.proofs.sum.Goals as goal

pub returns : goal.returns
unfolding sum_reply ◌⊕◌
returns c = replies (then_range _ _ _ c.in_ok-degree.ensures c.in_ok-check_elements.ensures) refl
