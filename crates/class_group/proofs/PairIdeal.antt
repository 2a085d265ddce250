-- The ideal of a pair (u, v): all (p, q) such that u divides p + q v.
-- `pair_ideal_ideal`: where u divides v² + v + f it is an ideal of the coordinate ring.
-- `pair_ideal_one`: for (1, 0) it is the whole ring.
-- `pair_ideal_modulo`: it depends on v modulo u only.
-- `pair_ideal_divisor`: a divisor of u has the larger ideal; so the ideal depends on u up to a unit only.
use mathlib.Core.Path.{◌≡◌, ◌∙◌, ap, sym}
use Rattle.field_laws.specs.Ring.{Ring2}
use Rattle.char2_algebra.specs.Divides.{Divides}
use Rattle.char2_algebra.proofs.Ring.{ring2, by, both, combine}
use Rattle.class_group.proofs.Coordinate.{coordinate}
use Rattle.class_group.proofs.Ideal.{Ideal, Whole, Within}

module _ {P : Type 0} (R : Ring2 P) where
  open R use {add as ◌⊞◌, mul as ◌·◌, zero as 𝟘, one as 𝟙}

  infixl 60 ◌⊞◌
  infixl 70 ◌·◌
  -- u divides p + q v
  abbrev pub pair_ideal : (u v : P) → P × P → Type 0
  pair_ideal u v x = Divides R u (x.0 ⊞ x.1 · v)

  -- The identities, over plain variables.
  zero_eq : (u v : P) → 𝟘 ⊞ 𝟘 · v ≡ 𝟘 · u
  zero_eq u v = simp (ring2, R)

  sum_eq : (u v p q k p' q' k' : P) → p ⊞ q · v ≡ k · u → p' ⊞ q' · v ≡ k' · u → p ⊞ p' ⊞ (q ⊞ q') · v ≡ (k ⊞ k') · u
  sum_eq u v p q k p' q' k' h h' = combine R _ _ (both R (by R 𝟙 h) (by R 𝟙 h')) (simp (ring2, R))

  multiple_eq : (f u v w p q k p' q' : P) → v · v ⊞ v ⊞ f ≡ w · u → p' ⊞ q' · v ≡ k · u
      → p · p' ⊞ q · q' · f ⊞ (p · q' ⊞ q · p' ⊞ q · q') · v ≡ (k · (p ⊞ q · v) ⊞ q · q' · w) · u
  multiple_eq f u v w p q k p' q' on h = combine R _ _ (both R (by R (p ⊞ q · v) h) (by R (q · q') on)) (simp (ring2, R))

  modulo_eq : (u v v' t p q k : P) → v ⊞ v' ≡ t · u → p ⊞ q · v ≡ k · u → p ⊞ q · v' ≡ (k ⊞ q · t) · u
  modulo_eq u v v' t p q k e h = combine R _ _ (both R (by R q e) (by R 𝟙 h)) (simp (ring2, R))

module _ {P : Type 0} (R : Ring2 P) (f : P) where
  open R use {add as ◌⊞◌, mul as ◌·◌, zero as 𝟘, one as 𝟙}

  infixl 60 ◌⊞◌
  infixl 70 ◌·◌
  pub pair_ideal_ideal : (u v : P) → Divides R u (v · v ⊞ v ⊞ f) → Ideal (coordinate R f) (pair_ideal R u v)
  unfolding coordinate
  pair_ideal_ideal u v d = record {
    zero = (𝟘, zero_eq R u v);
    sum = λ {a} {b} h k. (_, sum_eq R u v a.0 a.1 h.0 b.0 b.1 k.0 h.1 k.1);
    multiple = λ c {a} h. (_, multiple_eq R f u v d.0 c.0 c.1 h.0 a.0 a.1 d.1 h.1);
  }

  pub pair_ideal_one : Within (coordinate R f) (Whole (coordinate R f)) (pair_ideal R 𝟙 𝟘)
  pair_ideal_one x h = (x.0, simp (ring2, R))

  pub pair_ideal_modulo : (u v v' : P) → Divides R u (v ⊞ v') → Within (coordinate R f) (pair_ideal R u v) (pair_ideal R u v')
  pair_ideal_modulo u v v' d x h = (_, modulo_eq R u v v' d.0 x.0 x.1 h.0 d.1 h.1)

  pub pair_ideal_divisor : (u u' v : P) → Divides R u' u → Within (coordinate R f) (pair_ideal R u v) (pair_ideal R u' v)
  pair_ideal_divisor u u' v d x h = (h.0 · d.0, h.1 ∙ ap (λ z. h.0 · z) d.1 ∙ sym (R.mul_assoc h.0 d.0 u'))

  -- u and y + v are in the ideal
  pub pair_ideal_u₁ : (u v : P) → pair_ideal R u v (u, 𝟘)
  pair_ideal_u₁ u v = (𝟙, simp (ring2, R))

  pub pair_ideal_y₁ : (u v : P) → pair_ideal R u v (v, 𝟙)
  pair_ideal_y₁ u v = (𝟘, simp (ring2, R))

  -- and so are their multiples by an element of P
  pub pair_ideal_u : (u v a : P) → pair_ideal R u v (a · u, 𝟘)
  pair_ideal_u u v a = (a, simp (ring2, R))

  pub pair_ideal_y : (u v a : P) → pair_ideal R u v (a · v, a)
  pair_ideal_y u v a = (𝟘, simp (ring2, R))
