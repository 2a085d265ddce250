-- Double and add over binary digits, the highest first: each turn goes from n / 2 times an element to n times it.
-- `digits_left`: n without its i + 1 lowest digits is half of n without its i lowest digits.
-- `even_turn`: for even n, n times an element is the double of n / 2 times it.
-- `odd_turn`: for odd n, it is that double plus the element.
use Prim.Native.Nat.{ℕ, suc, ◌+◌, ◌^◌, ◌/◌, ◌%◌}
use mathlib.Core.Path.{◌≡◌, sym, ◌∙◌, ap}
use native.Mathlib.{Omega.arith, Nat.pow-suc, Nat.div-div-eq-div-mul}
use Rattle.class_group.specs.Group.{CommutativeGroup, Doubling}
use Rattle.class_group.specs.Multiples.{multiple}
use Rattle.class_group.proofs.Multiples.{multiple_member}
use Rattle.class_group.proofs.Doublings.{double_multiple}

pub digits_left : (n i : ℕ) → n / 2 ^ suc i ≡ n / 2 ^ i / 2
digits_left n i = ap (λ k. n / k) (pow-suc 2 i) ∙ sym (div-div-eq-div-mul n (2 ^ i) 2)

module _ {X : Type 0} {Member : X → Type 0} {◌⊞◌ : X → X → X} {neutral : X} {minus double : X → X} (D : Doubling Member ◌⊞◌ neutral minus double) where
  infixl 60 ◌⊞◌
  abbrev G : CommutativeGroup Member ◌⊞◌ neutral minus
  G = D.group

  abbrev times : ℕ → X → X
  times n a = multiple ◌⊞◌ neutral n a

  pub even_turn : (n : ℕ) {a : X} → Member a → n % 2 ≡ 0 → double (times (n / 2) a) ≡ times n a
  even_turn n {a} h e = double_multiple D (n / 2) h ∙ ap (λ k. times k a) (let f : n / 2 + n / 2 ≡ n = omega arith in f)

  pub odd_turn : (n : ℕ) {a : X} → Member a → n % 2 ≡ 1 → double (times (n / 2) a) ⊞ a ≡ times n a
  unfolding multiple
  odd_turn n {a} h e =
      let m = n / 2 + n / 2 in
      ap (λ z. z ⊞ a) (double_multiple D (n / 2) h)
      ∙ G.comm (multiple_member G m h) h
      ∙ ap (λ k. times k a) (let f : suc m ≡ n = omega arith in f)
