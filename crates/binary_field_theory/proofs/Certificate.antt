-- Facts on the degrees 5 and 61 that are checked by computation (`certified`).
-- Squaring t d times gives t. A list has, for each i below d, the value at t^i of an additive map L with
-- L (t^2i + t^i) = t^i for i from 1 to d - 1, and L (1 + 1) = 0.
-- `idempotent_lt`: so a² = a only for a = 0 and a = 1.
use Prim.Native.Nat.{ℕ, ◌%◌, ◌^◌, ◌<◌}
use mathlib.Core.{Path.◌≡◌, Path.refl, Path.sym, Path.ap, Path.◌∙◌, Bool.Bool, List.List, List.[], List.◌∷◌}
use native.Mathlib.Omega.{arith}
use lib.Dec.{T}
use Rattle.binary_field_theory.specs.{Carryless.◌⊕◌, Carryless.digits_to, Carryless.digits, Carryless.clmul, Carryless.spread, Carryless.reduce, Carryless.remainder, Element.Accepted, Element.low, Element.product, Element.square, Element.squarings, Chain.spreadings}
use Rattle.binary_field_theory.proofs.{Sums.sum_self, Sums.sum_cancel, Sums.sum_odd, Sums.sum_middle, Linear.Additive, Linear.additive_zero, Linear.basis, Linear.same, Linear.same_at, Linear.combine, Linear.combine_additive, Chain.spreadings_squarings}
use Rattle.binary_field_theory.proofs.Products

-- the facts from which it follows that the elements of degree d are a field
pub record Certified (d : ℕ) : Type 0 where
  pub fits : low d < 2 ^ d
  pub fixed : squarings d d 2 ≡ 2
  pub values : List ℕ
  pub undo : (i : ℕ) → i < d → combine values (square d (2 ^ i) ⊕ 2 ^ i) ≡ 2 ^ i ⊕ 2 ^ i % 2

-- the test at t^0 .. t^(d-1)
undoes : ℕ → List ℕ → Bool
undoes d cs = same (λ n. combine cs (square d n ⊕ n)) (λ n. n ⊕ n % 2) d

-- the definitions that the tests unfold
computing : Unit {0}
unfolding ◌⊕◌ digits_to digits clmul spread reduce remainder low product square undoes same combine
computing = tt

values_5 : List ℕ
values_5 =
    0 ∷ 8 ∷ 10 ∷ 20 ∷ 14 ∷ []

values_61 : List ℕ
values_61 =
    0x0 ∷ 0x12cfc8c049e1c96 ∷ 0x12cfc8c049e1c94 ∷ 0x71d34fcdac955c2 ∷ 0x12cfc8c049e1c90 ∷ 0x631c871de564852 ∷
    0x71d34fcdac955ca ∷ 0x129fa6407f27300 ∷ 0x12cfc8c049e1c80 ∷ 0x7094f6fdd0a3b12 ∷ 0x631c871de564872 ∷
    0xdb28cee59c8256a ∷ 0x71d34fcdac9558a ∷ 0xc8a0be15a915472 ∷ 0x129fa6407f27380 ∷ 0x12dfcb4058e0b80 ∷
    0x12cfc8c049e1d80 ∷ 0x117d7f04ad0118 ∷ 0x7094f6fdd0a3912 ∷ 0x621b576dbe35b6a ∷ 0x631c871de564c72 ∷
    0x13c808a013a1ee0 ∷ 0xdb28cee59c82d6a ∷ 0x113d79842a0272 ∷ 0x71d34fcdac9458a ∷ 0x719776b580b6a98 ∷
    0xc8a0be15a917472 ∷ 0x6633498d6db760a ∷ 0x129fa6407f23380 ∷ 0xbd4ae9e8c3e7560 ∷ 0x12dfcb4058e8b80 ∷ 0x8000000a ∷
    0x12cfc8c049f1d80 ∷ 0x634ce9add3b26ea ∷ 0x117d7f04af0118 ∷ 0xda3f19c5d66258a ∷ 0x7094f6fdd0e3912 ∷
    0xb87427e85e71560 ∷ 0x621b576dbeb5b6a ∷ 0xc8b0b085b8c4e0a ∷ 0x631c871de464c72 ∷ 0x1538fc8649458a ∷
    0x13c808a011a1ee0 ∷ 0xcddbca6d1cfe360 ∷ 0xdb28cee59882d6a ∷ 0xae80f550d1ffff2 ∷ 0x113d7984aa0272 ∷
    0xda7770f5f195912 ∷ 0x71d34fcdbc9458a ∷ 0x137c8a049a1ee0 ∷ 0x719776b5a0b6a98 ∷ 0xded39a9d236ba78 ∷
    0xc8a0be15e917472 ∷ 0x6732488ca7ce0a ∷ 0x6633498dedb760a ∷ 0xc0406d0527cb80a ∷ 0x129fa6417f23380 ∷
    0x3d4ae9eac3e756a ∷ 0xbd4ae9eac3e7560 ∷ 0x171d34fcdac955d0 ∷ 0x12dfcb4458e8b80 ∷ []

-- ---- the computations: t squared d times, by spreading, and the test of each list
fixed_5 : spreadings 5 5 2 ≡ 2
unfolding spreadings computing
fixed_5 = refl

fixed_61 : spreadings 61 61 2 ≡ 2
unfolding spreadings computing
fixed_61 = refl

undoes_5 : T (undoes 5 values_5)
unfolding computing values_5
undoes_5 = tt

undoes_61 : T (undoes 61 values_61)
unfolding computing values_61
undoes_61 = tt

certify : (d : ℕ) → low d < 2 ^ d → spreadings d d 2 ≡ 2 → (cs : List ℕ) → T (undoes d cs) → Certified d
unfolding undoes
certify d fits e cs t =
    record { fits = fits; fixed = sym (spreadings_squarings d d 2) ∙ e; values = cs; undo = same_at _ _ d t }

pub certified : (d : ℕ) → Accepted d → Certified d
certified =
    Products.degree_cases Certified (certify 5 (Products.low_lt 5 tt) fixed_5 values_5 undoes_5)
    (certify 61 (Products.low_lt 61 tt) fixed_61 values_61 undoes_61)

pub idempotent_lt : (d : ℕ) → Certified d → (a : ℕ) → a < 2 ^ d → square d a ≡ a → a < 2
idempotent_lt d c a ha e =
    let same : combine c.values (square d a ⊕ a) ≡ a ⊕ a % 2 = basis undone cleared undone_additive cleared_additive d c.undo a ha in
    let vanishes : combine c.values (square d a ⊕ a) ≡ 0 =
    ap (λ x. combine c.values (x ⊕ a)) e ∙ ap (combine c.values) (sum_self a)
    ∙ additive_zero (combine c.values) (combine_additive c.values) in
    let digit : a ≡ a % 2 = sum_cancel a (a % 2) (sym same ∙ vanishes) in
    omega arith
  where
    undone : ℕ → ℕ
    undone n = combine c.values (square d n ⊕ n)

    cleared : ℕ → ℕ
    cleared n = n ⊕ n % 2

    undone_additive : Additive undone
    undone_additive x y =
        ap (combine c.values) (ap (λ z. z ⊕ (x ⊕ y)) (Products.square_sum d c.fits x y) ∙ sum_middle _ _ _ _)
        ∙ combine_additive c.values (square d x ⊕ x) (square d y ⊕ y)

    cleared_additive : Additive cleared
    cleared_additive x y = ap (λ z. x ⊕ y ⊕ z) (sum_odd x y) ∙ sum_middle _ _ _ _
