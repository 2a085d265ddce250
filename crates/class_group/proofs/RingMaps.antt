-- Homomorphisms of commutative rings of characteristic 2, and what they do to subsets.
-- `map_zero`: zero becomes zero.
-- `map_product`: if I goes into I' and J into J', then the product of I and J goes into that of I' and J'.
-- `map_equivalent`: an isomorphism takes equivalent subsets to equivalent ones.
use mathlib.Core.Path.{◌≡◌, sym, ◌∙◌, ap}
use Rattle.field_laws.specs.Ring.{Ring2}
use Rattle.char2_algebra.proofs.Ring.{⊞_self}
use Rattle.class_group.proofs.Ideal.{Product, none, more, Carries, Equivalent}

module _ {B B' : Type 0} (S : Ring2 B) (S' : Ring2 B') where
  open S use {add as ◌⊞◌, mul as ◌·◌, zero as 𝟘}
  open S' use {add as ◌⊞'◌, mul as ◌·'◌, zero as 𝟘'}

  infixl 60 ◌⊞◌
  infixl 70 ◌·◌
  infixl 60 ◌⊞'◌
  infixl 70 ◌·'◌
  -- h keeps sums and products
  pub record RingMap (h : B → B') : Type 0 where
    pub map_add : (a b : B) → h (a ⊞ b) ≡ h a ⊞' h b
    pub map_mul : (a b : B) → h (a · b) ≡ h a ·' h b

  -- h takes each element of I into I'
  abbrev pub Into : (h : B → B') (I : B → Type 0) (I' : B' → Type 0) → Type 0
  Into h I I' = (a : B) → I a → I' (h a)

  module _ {h : B → B'} (m : RingMap h) where
    pub map_zero : h 𝟘 ≡ 𝟘'
    map_zero = ap h (sym (⊞_self S 𝟘)) ∙ m.map_add 𝟘 𝟘 ∙ ⊞_self S' (h 𝟘)

    pub map_product : {I J : B → Type 0} {I' J' : B' → Type 0} → Into h I I' → Into h J J' → Into h (Product S I J) (Product S' I' J')
    map_product i j z (none e) = none (ap h e ∙ map_zero)
    map_product i j z (more a b c p q r e) =
        more (h a) (h b) (h c) (i a p) (j b q) (map_product i j c r) (ap h e ∙ m.map_add (a · b) c ∙ ap (λ t. t ⊞' h c) (m.map_mul a b))

    -- an isomorphism: h has an inverse k
    module _ {k : B' → B} (k_h : (a : B) → k (h a) ≡ a) (h_k : (b : B') → h (k b) ≡ b) where
      map_nonzero : (a : B) → ¬ (a ≡ 𝟘) → ¬ (h a ≡ 𝟘')
      map_nonzero a n e = n (sym (k_h a) ∙ ap k (e ∙ sym map_zero) ∙ k_h 𝟘)

      map_carries : {I J : B → Type 0} {I' J' : B' → Type 0} (α β : B) → ((b : B') → I' b → I (k b)) → Into h J J' → Carries S α β I J → Carries S' (h α) (h β) I' J'
      map_carries α β i j c b p =
          let r = c (k b) (i b p) in
          (h r.0, j r.0 r.1, ap (λ z. h α ·' z) (sym (h_k b)) ∙ sym (m.map_mul α (k b)) ∙ ap h r.2 ∙ m.map_mul β r.0)

      pub map_equivalent : {I J : B → Type 0} {I' J' : B' → Type 0} → Into h I I' → ((b : B') → I' b → I (k b)) → Into h J J' → ((b : B') → J' b → J (k b))
          → Equivalent S I J → Equivalent S' I' J'
      map_equivalent i i' j j' e = record {
        α = h e.α;
        β = h e.β;
        α≢𝟘 = map_nonzero e.α e.α≢𝟘;
        β≢𝟘 = map_nonzero e.β e.β≢𝟘;
        forth = map_carries e.α e.β i' j e.forth;
        back = map_carries e.β e.α j' i e.back;
      }
