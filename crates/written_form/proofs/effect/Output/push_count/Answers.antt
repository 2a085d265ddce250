-- `Output::push_count` meets its contract.
use mathlib.Core.Path.{sym}
use native.Mathlib.Omega.{arith}
use Rattle.stored_form.specs.{Number.encode_number, Head.count_length}
use Rattle.stored_form.proofs.Digits.{length_bytes}
use Rattle.written_form.proofs.Bytes.{head_pushed, field_pushed}
use Rattle.written_form.proofs.effect.Output.push_count.Goals as goal

pub push_number-requires : goal.push_number-requires
push_number-requires c = let l = head_pushed _ _ _ c.push_head.ensures in (omega arith, omega arith)

pub returns : goal.returns
returns c =
    let n = encode_number count_length c.args.n in
    field_pushed _ _ n (sym (length_bytes count_length c.args.n)) c.push_head.ensures c.push_number.ensures
