-- `Output::push_number` meets its contract.
use mathlib.Core.Path.{◌≡◌, ap, ◌∙◌}
use native.Mathlib.Omega.{arith}
use Rattle.std.specs.Int.{to_be_bytes, w64}
use lib.Seq.{take_all}
use mathlib.Core.List.{List, ◌++◌}
use Prim.Native.Nat.{ℕ, ◌-◌}
use lib.ListN.{take, drop}
use Rattle.stored_form.specs.Number.{encode_number}
use Rattle.stored_form.proofs.Digits.{length_bytes}
use Rattle.written_form.proofs.Bytes.{last_bytes}
use Rattle.written_form.proofs.effect.Output.push_number.Goals as goal

pub returns : goal.returns
returns c =
    let k = c.args.k in
    let own : c.to_be_bytes.result ≡ to_be_bytes w64 c.args.x = c.to_be_bytes.ensures in
    let whole : take (8 - (8 - k)) (drop (8 - k) (to_be_bytes w64 c.args.x)) ≡ encode_number k c.args.x =
    ap (take (8 - (8 - k))) (last_bytes k c.args.x c.requires.0) ∙ take_all (8 - (8 - k)) (encode_number k c.args.x) (omega (arith, length_bytes k c.args.x, c.requires.0)) in
    c.push_bytes.ensures ∙ ap (λ (l : List ℕ). c.args.self.now ++ take (8 - (8 - k)) (drop (8 - k) l)) own ∙ ap (λ (l : List ℕ). c.args.self.now ++ l) whole
