-- `times_root_of_t` meets its contract: the squares of the two roots of t are computed.
use mathlib.Core.Path.{ap, ◌∙◌}
use Rattle.binary_field_theory.specs.{Carryless.remainder, Element.low, Element.product}
use Rattle.binary_field_theory.proofs.Words.Roots.{times_root, root_5, root_61}
use Rattle.binary_field.proofs.rooting.times_root_of_t.Goals as goal

pub returns-in-Five : goal.returns-in-Five
returns-in-Five c = rw c.in-Five.is (times_root 5 tt _ _ root_5 c.product_of.ensures)

pub returns-in-SixtyOne : goal.returns-in-SixtyOne
unfolding product
returns-in-SixtyOne c =
    rw c.in-SixtyOne.is
    (times_root 61 tt c.args.n 0x7fff_ffff_8000_0072 root_61
    (c.fold_61.ensures ∙ ap (remainder 61 (low 61)) c.wide_times_root.ensures))
