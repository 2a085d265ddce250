-- `multiples` meets its contract: the ones of each mask are six apart, and the six masks together have 60 ones.
use mathlib.Core.Path.{◌≡◌, refl}
use Prim.Native.Nat.{ℕ, ◌*◌, ◌^◌, ◌<◌}
use native.Mathlib.{Omega.arith}
use lib.{Bits.bit_and, Dec.T}
use Rattle.binary_field_theory.specs.Carryless.{◌⊕◌, clmul}
use Rattle.binary_field_theory.proofs.Words.{Multiples.apart, Multiples.no_carry, Multiples.parts_joined, Multiples.all_picked}
use Rattle.binary_field.proofs.carryless.multiples.Goals as goal

module _ (n m : ℕ) (h : m < 2 ^ 6) where
  part : (mask : ℕ) → T (apart 5 60 mask) → bit_and n mask * m ≡ clmul (bit_and n mask) m
  part = no_carry 5 m h 60 n

  pair : (p q : ℕ) → T (apart 5 60 p) → T (apart 5 60 q) → bit_and n p * m ⊕ bit_and n q * m ≡ clmul (bit_and n (p ⊕ q)) m
  pair p q s t = parts_joined n m p q (part p s) (part q t)

pub returns : goal.returns
unfolding ◌⊕◌ apart
returns c =
    let n = c.args.bits in
    let m = c.args.m in
    let two = pair n m c.requires.1 in
    all_picked n m 60 _ (omega (arith, c.requires.0)) refl
    (parts_joined n m _ _ (parts_joined n m _ _ (two _ _ tt tt) (two _ _ tt tt)) (two _ _ tt tt))
