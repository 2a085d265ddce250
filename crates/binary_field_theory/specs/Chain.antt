-- Square root and inverse by few products, as the field record computes them: the powers 2^(d-1) and 2^d - 2.
-- The power 2^k - 1 of a comes from the power 2^(k/2) - 1 by k/2 squarings and one product;
-- where k is odd, by one more squaring and one more product.
use Rattle.std.specs.Prelude.{ℕ, zero, suc, ◌-◌, ◌/◌, ◌%◌, cond, eqb}
use Rattle.binary_field_theory.specs.{Carryless.digits, Carryless.spread, Carryless.remainder, Element.low, Element.product}

-- a squared k times, each square by spreading the digits
unfoldable pub spreadings : ℕ → ℕ → ℕ → ℕ
spreadings d zero a = a
spreadings d (suc k) a = remainder d (low d) (spread (spreadings d k a))

-- the power 2^k - 1 of a, from r, which is the power 2^(k/2) - 1
unfoldable pub chain_turn : ℕ → ℕ → ℕ → ℕ → ℕ
chain_turn d a k r =
    let s = product d (spreadings d (k / 2) r) r in
    let t = product d (spreadings d 1 s) a in
    cond (eqb (k % 2) 1) t s

-- the power 2^k - 1 of a
unfoldable pub chain : ℕ → ℕ → ℕ → ℕ
chain d a k = digits 1 (chain_turn d a) k

-- the power 2^d - 2 of a: the square of the power 2^(d-1) - 1
unfoldable pub chain_inverse : ℕ → ℕ → ℕ
chain_inverse d a = spreadings d 1 (chain d a (d - 1))
