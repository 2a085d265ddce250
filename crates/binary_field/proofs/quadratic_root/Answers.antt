-- `quadratic_root` meets its contract: the goals at the refusals are found.
use Prim.Native.Nat.{◌%◌}
use mathlib.Core.Path.{◌≡◌, subst}
use Rattle.binary_field_theory.specs.Carryless.{◌⊕◌}
use Rattle.binary_field.specs.Answer.{no_root, found, quadratic_reply}
use Rattle.binary_field.proofs.Replies.{one_below, no_root_by_trace, root_by_trace}
use Rattle.binary_field.proofs.Degrees.{accepted}
use Rattle.binary_field.proofs.quadratic_root.Goals as goal

pub returns-then-trace_of-ne0 : goal.returns-then-trace_of-ne0
returns-then-trace_of-ne0 c =
    subst (λ d. no_root ≡ quadratic_reply d c.args.a) c.in_ok-degree.ensures.1
    (no_root_by_trace _ _ (accepted c.in_ok-degree.degree) (one_below c.in_ok-check_element.ensures) c.trace_of.ensures c.if-trace_of-ne0.true)

pub returns : goal.returns
unfolding ◌⊕◌
returns c =
    let h = c.half_trace_of-h.result in
    subst (λ d. found (h ⊕ h % 2) ≡ quadratic_reply d c.args.a) c.in_ok-degree.ensures.1
    (root_by_trace _ _ (accepted c.in_ok-degree.degree) (one_below c.in_ok-check_element.ensures) c.trace_of.ensures c.if-trace_of-ne0.false c.half_trace_of-h.ensures)
