-- `writing::register_bytes` meets its contract.
use mathlib.Core.Path.{ap, ◌∙◌}
use mathlib.Core.List.{List, ◌++◌}
use native.Mathlib.Omega.{arith}
use Prim.Native.Nat.{ℕ}
use lib.ListN.{length}
use Rattle.stored_form.specs.{Fields.count_field, Fields.released_field, Classes.class_field}
use Rattle.written_form.proofs.Bytes.{count_pushed}
use Rattle.written_form.proofs.writing.register_bytes.Goals as goal

pub push_count-requires-2 : goal.push_count-requires-2
push_count-requires-2 c =
    let none = ap length c.new-output.ensures in
    let first = count_pushed _ _ _ c.push_count.ensures in omega arith

pub push_class-requires : goal.push_class-requires
push_class-requires c =
    let none = ap length c.new-output.ensures in
    let first = count_pushed _ _ _ c.push_count.ensures in
    let second = count_pushed _ _ _ c.push_count-2.ensures in omega arith

pub returns : goal.returns
unfolding count_field released_field
returns c =
    let first = c.push_count.ensures ∙ ap (λ (l : List ℕ). l ++ count_field c.args.count) c.new-output.ensures in
    let second = c.push_count-2.ensures ∙ ap (λ (l : List ℕ). l ++ released_field c.args.released) first in
    c.push_class.ensures ∙ ap (λ (l : List ℕ). l ++ class_field 0x43 c.args.seal) second
