-- An equivalence α I = β J, multiplied by the conjugate of β: γ I = k J with k in P.
-- The coordinates and the norms of its equations.
use mathlib.Core.Path.{◌≡◌, sym, ◌∙◌, ap}
use Rattle.field_laws.specs.Ring.{Ring2}
use Rattle.char2_algebra.specs.Divides.{Divides}
use Rattle.class_group.proofs.Coordinate.{coordinate, conj, norm, mul_conj, norm_mul, norm_constant, constant_mul}
use Rattle.class_group.proofs.Ideal.{Carries}
use Rattle.class_group.proofs.PairIdeal.{pair_ideal}
use Rattle.class_group.proofs.Uniqueness.Identities.{member_norm_eq}

module _ {P : Type 0} (R : Ring2 P) (f : P) where
  open R use {add as ◌⊞◌, mul as ◌·◌, zero as 𝟘, one as 𝟙}

  infixl 60 ◌⊞◌
  infixl 70 ◌·◌
  abbrev pub S : Ring2 (P × P)
  S = coordinate R f

  -- u divides the norms of the members of its ideal
  pub member_norm : (u v : P) → Divides R u (v · v ⊞ v ⊞ f) → (x : P × P) → pair_ideal R u v x → Divides R u (norm R f x)
  unfolding norm
  member_norm u v d x h = (_, member_norm_eq R f u v d.0 x.0 x.1 h.0 d.1 h.1)

  -- α a = β b, times the conjugate of β
  pub conj_eq : (α β a b : P × P) → S.mul α a ≡ S.mul β b → S.mul (S.mul (conj R f β) α) a ≡ S.mul (norm R f β, 𝟘) b
  conj_eq α β a b h =
      S.mul_assoc (conj R f β) α a ∙ ap (S.mul (conj R f β)) h ∙ sym (S.mul_assoc (conj R f β) β b)
      ∙ ap (λ z. S.mul z b) (S.mul_comm (conj R f β) β ∙ mul_conj R f β)

  -- γ I is within k J, for a γ and a k in P
  pub cleared : {I J : P × P → Type 0} (α β : P × P) → Carries S α β I J → Carries S (S.mul (conj R f β) α) (norm R f β, 𝟘) I J
  cleared α β h a i = let r = h a i in (r.0, r.1, conj_eq α β a r.0 r.2)

  pub cleared⁻¹ : {I J : P × P → Type 0} (α β : P × P) → Carries S β α J I → Carries S (norm R f β, 𝟘) (S.mul (conj R f β) α) J I
  cleared⁻¹ α β h b j = let r = h b j in (r.0, r.1, sym (conj_eq α β r.0 b (sym r.2)))

  -- the coordinates of x c = k y, for c and k in P
  pub coordinate₀ : (x y : P × P) (c k : P) → S.mul x (c, 𝟘) ≡ S.mul (k, 𝟘) y → c · x.0 ≡ k · y.0
  coordinate₀ x y c k h =
      ap (λ z. z.0) (sym (constant_mul R f c x.0 x.1) ∙ S.mul_comm (c, 𝟘) x ∙ h ∙ constant_mul R f k y.0 y.1)

  pub coordinate₁ : (x y : P × P) (c k : P) → S.mul x (c, 𝟘) ≡ S.mul (k, 𝟘) y → c · x.1 ≡ k · y.1
  coordinate₁ x y c k h =
      ap (λ z. z.1) (sym (constant_mul R f c x.0 x.1) ∙ S.mul_comm (c, 𝟘) x ∙ h ∙ constant_mul R f k y.0 y.1)

  pub norm_of_multiple : (x : P × P) (c : P) → norm R f (S.mul x (c, 𝟘)) ≡ norm R f x · (c · c)
  norm_of_multiple x c = norm_mul R f x (c, 𝟘) ∙ ap (λ z. norm R f x · z) (norm_constant R f c)

  pub norm_of_multiple' : (x : P × P) (c : P) → norm R f (S.mul (c, 𝟘) x) ≡ c · c · norm R f x
  norm_of_multiple' x c = norm_mul R f (c, 𝟘) x ∙ ap (λ z. z · norm R f x) (norm_constant R f c)
