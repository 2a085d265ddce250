-- The coefficients of a row of three below a degree.
-- `length_row`: below degree n, up to 3, there are n coefficients.
-- `below_three`: a row of three has no coefficients from degree 3 on.
use Prim.Native.Nat.{ℕ, ◌≤◌, min}
use mathlib.Core.Path.{◌≡◌, sym, ap, ◌∙◌}
use mathlib.Core.List.{List, reverse}
use native.Mathlib.Decide.{dec_le}
use native.Mathlib.Omega.{arith}
use lib.ListN.{length, take, length-take, length-reverse}
use lib.Seq.{take_all}
use Rattle.stored_form.specs.{Classes.encode_row}

pub length_row : (n : ℕ) (r : List ℕ) → length r ≡ 3 → n ≤ 3 → length (encode_row n r) ≡ n
unfolding encode_row
length_row n r h le = length-reverse (take n r) ∙ length-take n r ∙ omega arith

pub below_three : (r : List ℕ) (n : ℕ) → length r ≡ 3 → encode_row (min n 3) r ≡ encode_row n r
unfolding encode_row
below_three r n h = ap reverse (firsts (dec_le n 3))
  where
    firsts : Dec (n ≤ 3) → take (min n 3) r ≡ take n r
    firsts (yes le) = let e : min n 3 ≡ n = omega arith in rw e
    firsts (no gt) =
        let e : min n 3 ≡ 3 = omega arith in
        ap (λ (k : ℕ). take k r) e ∙ take_all 3 r (omega arith) ∙ sym (take_all n r (omega arith))
