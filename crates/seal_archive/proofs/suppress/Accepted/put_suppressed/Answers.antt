-- `suppress::Accepted::put_suppressed` meets its contract.
use mathlib.Core.Path.{ap, ◌∙◌}
use mathlib.Core.List.{List}
use Prim.Native.Nat.{ℕ}
use Rattle.stored_form.specs.Classes.{class_field}
use Rattle.written_form.specs.Effect.{effect}
use Rattle.seal_archive.specs.internal.Accepted.{both_replaced}
use Rattle.seal_archive.proofs.Replaced.{operation_accepted, operation_read, both_accepted, new_seal, both_written}
use Rattle.seal_archive.proofs.suppress.Accepted.put_suppressed.Goals as goal

pub unwrap-read-requires : goal.unwrap-read-requires
unwrap-read-requires c = operation_accepted c.args.self.now.accepted c.requires.low c.requires.high c.skip_fields-at.ensures _ c.read_field.ensures

pub seal_less-class-requires : goal.seal_less-class-requires
seal_less-class-requires c =
    let read = operation_read c.args.self.now.accepted c.requires.low c.requires.high c.skip_fields-at.ensures c.read_field.ensures c.unwrap-read.ensures in
    both_accepted c.args.self.now.accepted c.requires.low c.requires.high read

pub returns : goal.returns
returns c =
    let ok = c.args.self.now.accepted in
    let low = c.requires.low in
    let high = c.requires.high in
    let at_operation = c.skip_fields-at.ensures in
    let read = operation_read ok low high at_operation c.read_field.ensures c.unwrap-read.ensures in
    let class = c.seal_less-class.ensures ∙ new_seal ok low high read in
    let field = c.bytes.ensures ∙ c.class_bytes-field.ensures ∙ ap (class_field 0x43) class in
    c.both_replaced.ensures
    ∙ ap (λ (l : List ℕ). both_replaced c.args.self.now.bytes.now c.skip_fields-seal.result c.args.self.now.first l c.skip_fields-at.result c.next_field-next.result (effect 0 c.args.output.now)) field
    ∙ both_written ok low high c.skip_fields-seal.ensures at_operation c.next_field-next.ensures _ c.requires.roomy
