-- Subsets of a commutative ring S of characteristic 2, as predicates, and their products.
-- Equality of subsets is stated as two inclusions.
-- `product_within`: products respect inclusion.
-- `product_comm`, `product_assoc`, `product_assoc⁻¹`: the product is commutative and associative.
-- `product_least`: an ideal with all products of an element of I and one of J contains the product of I and J.
-- `product_whole`, `product_whole⁻¹`: the product of the whole ring with an ideal is the ideal.
-- `~_of_equal`, `~_sym`, `~_trans`: equivalence is reflexive, symmetric and, without zero divisors, transitive.
-- `~_product`: equivalence is kept by a product with a third subset.
-- `~_of_scaled`: I and J are equivalent where I = α J.
use mathlib.Core.Path.{◌≡◌, refl, sym, ◌∙◌, ap, ap₂, subst}
use Rattle.field_laws.specs.Ring.{Ring2}
use Rattle.char2_algebra.proofs.Ring.{𝟘_⊞, ⊞_·, ·_𝟘, 𝟘_·, 𝟙_·, ·_left_comm}

module _ {B : Type 0} (S : Ring2 B) where
  open S use {add as ◌⊞◌, mul as ◌·◌, zero as 𝟘, one as 𝟙}

  infixl 60 ◌⊞◌
  infixl 70 ◌·◌
  -- an ideal: closed under sums and under multiples by any element, with zero in it
  pub record Ideal (I : B → Type 0) : Type 0 where
    pub zero : I 𝟘
    pub sum : {a b : B} → I a → I b → I (a ⊞ b)
    pub multiple : (c : B) {a : B} → I a → I (c · a)

  -- the whole ring
  abbrev pub Whole : B → Type 0
  Whole a = Unit {0}

  -- every element of I is in J
  abbrev pub Within : (I J : B → Type 0) → Type 0
  Within I J = (a : B) → I a → J a

  -- the sums of products a · b with a in I and b in J
  pub data Product (I J : B → Type 0) : B → Type 0 where
    none : {z : B} → z ≡ 𝟘 → Product I J z
    more : {z : B} (a b c : B) → I a → J b → Product I J c → z ≡ a · b ⊞ c → Product I J z

  pub product_of : {I J : B → Type 0} (a b : B) → I a → J b → Product I J (a · b)
  product_of a b i j = more {z = a · b} a b 𝟘 i j (none refl) (sym (S.add_zero (a · b)))

  pub product_within : {I J I' J' : B → Type 0} → Within I I' → Within J J' → Within (Product I J) (Product I' J')
  product_within h k z (none e) = none e
  product_within h k z (more a b c i j r e) = more a b c (h a i) (k b j) (product_within h k c r) e

  pub product_comm : {I J : B → Type 0} → Within (Product I J) (Product J I)
  product_comm z (none e) = none e
  product_comm z (more a b c i j r e) = more b a c j i (product_comm c r) (e ∙ ap (λ t. t ⊞ c) (S.mul_comm a b))

  pub product_sum : {I J : B → Type 0} (y z : B) → Product I J y → Product I J z → Product I J (y ⊞ z)
  product_sum {I} {J} y z (none e) s = subst (Product I J) (sym (ap (λ t. t ⊞ z) e ∙ 𝟘_⊞ S z)) s
  product_sum y z (more a b c i j r e) s =
      more a b (c ⊞ z) i j (product_sum c z r s) (ap (λ t. t ⊞ z) e ∙ S.add_assoc (a · b) c z)

  -- (I J) K is within I (J K), first for one product of an element of I J and one of K
  product_assoc' : {I J K : B → Type 0} (a b : B) → Product I J a → K b → Product I (Product J K) (a · b)
  product_assoc' a b (none e) k = none (ap (λ t. t · b) e ∙ 𝟘_· S b)
  product_assoc' a b (more x y c i j r e) k =
      more x (y · b) (c · b) i (product_of y b j k) (product_assoc' c b r k)
      (ap (λ t. t · b) e ∙ ⊞_· S (x · y) c b ∙ ap (λ t. t ⊞ c · b) (S.mul_assoc x y b))

  pub product_assoc : {I J K : B → Type 0} → Within (Product (Product I J) K) (Product I (Product J K))
  product_assoc z (none e) = none e
  product_assoc {I} {J} {K} z (more a b c i j r e) =
      subst (Product I (Product J K)) (sym e) (product_sum (a · b) c (product_assoc' a b i j) (product_assoc c r))

  pub product_assoc⁻¹ : {I J K : B → Type 0} → Within (Product I (Product J K)) (Product (Product I J) K)
  product_assoc⁻¹ z h =
      product_within (λ x t. product_comm x t) (λ x t. t) z
      (product_comm z
      (product_assoc z
      (product_within (λ x t. product_comm x t) (λ x t. t) z (product_comm z h))))

  pub product_least : {I J M : B → Type 0} → Ideal M → ((a b : B) → I a → J b → M (a · b)) → Within (Product I J) M
  product_least {M = M} m h z (none e) = subst M (sym e) m.zero
  product_least {M = M} m h z (more a b c i j r e) = subst M (sym e) (m.sum (h a b i j) (product_least m h c r))

  pub product_whole : {I : B → Type 0} → Ideal I → Within (Product Whole I) I
  product_whole h = product_least h (λ a b w i. h.multiple a i)

  pub product_whole⁻¹ : {I : B → Type 0} → Within I (Product Whole I)
  product_whole⁻¹ {I} z h = subst (Product Whole I) (𝟙_· S z) (product_of 𝟙 z tt h)

  -- α I is within β J
  abbrev pub Carries : (α β : B) (I J : B → Type 0) → Type 0
  Carries α β I J = (a : B) → I a → (b : B) × J b × (α · a ≡ β · b)

  -- I and J are equivalent, I ~ J: α I = β J for some α and β that are not zero
  pub record Equivalent (I J : B → Type 0) : Type 0 where
    pub α : B
    pub β : B
    pub α≢𝟘 : ¬ (α ≡ 𝟘)
    pub β≢𝟘 : ¬ (β ≡ 𝟘)
    pub forth : Carries α β I J
    pub back : Carries β α J I

  pub ~_of_equal : {I J : B → Type 0} → ¬ (𝟙 ≡ 𝟘) → Within I J → Within J I → Equivalent I J
  ~_of_equal p h k = record {
    α = 𝟙;
    β = 𝟙;
    α≢𝟘 = p;
    β≢𝟘 = p;
    forth = λ a i. (a, h a i, refl);
    back = λ a j. (a, k a j, refl);
  }

  pub ~_sym : {I J : B → Type 0} → Equivalent I J → Equivalent J I
  ~_sym h = record { α = h.β; β = h.α; α≢𝟘 = h.β≢𝟘; β≢𝟘 = h.α≢𝟘; forth = h.back; back = h.forth }

  carries_trans_eq : (α β γ δ a b c : B) → α · a ≡ β · b → γ · b ≡ δ · c → γ · α · a ≡ β · δ · c
  carries_trans_eq α β γ δ a b c h k =
      S.mul_assoc γ α a ∙ ap (λ t. γ · t) h ∙ ·_left_comm S γ β b ∙ ap (λ t. β · t) k ∙ sym (S.mul_assoc β δ c)

  carries_trans : {I J K : B → Type 0} (α β γ δ : B) → Carries α β I J → Carries γ δ J K → Carries (γ · α) (β · δ) I K
  carries_trans α β γ δ h k a i =
      let r = h a i in
      let s = k r.0 r.1 in
      (s.0, s.1, carries_trans_eq α β γ δ a r.0 s.0 r.2 s.2)

  -- transitive where a product of elements other than zero is not zero
  pub ~_trans : {I J K : B → Type 0} → ((a b : B) → ¬ (a ≡ 𝟘) → ¬ (b ≡ 𝟘) → ¬ (a · b ≡ 𝟘))
      → Equivalent I J → Equivalent J K → Equivalent I K
  ~_trans domain h k = record {
    α = k.α · h.α;
    β = h.β · k.β;
    α≢𝟘 = domain k.α h.α k.α≢𝟘 h.α≢𝟘;
    β≢𝟘 = domain h.β k.β h.β≢𝟘 k.β≢𝟘;
    forth = carries_trans h.α h.β k.α k.β h.forth k.forth;
    back = carries_trans k.β k.α h.β h.α k.back h.back;
  }

  carries_product_eq : (α β z a b c a' c' : B) → z ≡ a · b ⊞ c → α · a ≡ β · a' → α · c ≡ β · c' → α · z ≡ β · (a' · b ⊞ c')
  carries_product_eq α β z a b c a' c' e h k =
      ap (λ t. α · t) e ∙ S.mul_add α (a · b) c
      ∙ ap₂ ◌⊞◌ (sym (S.mul_assoc α a b) ∙ ap (λ t. t · b) h ∙ S.mul_assoc β a' b) k
      ∙ sym (S.mul_add β (a' · b) c')

  carries_product : {I J M : B → Type 0} (α β : B) → Carries α β I J → Carries α β (Product I M) (Product J M)
  carries_product α β h z (none e) = (𝟘, none refl, ap (λ t. α · t) e ∙ ·_𝟘 S α ∙ sym (·_𝟘 S β))
  carries_product α β h z (more a b c i m r e) =
      let s = h a i in
      let t = carries_product α β h c r in
      (s.0 · b ⊞ t.0, more s.0 b t.0 s.1 m t.1 refl, carries_product_eq α β z a b c s.0 t.0 e s.2 t.2)

  pub ~_product : {I J M : B → Type 0} → Equivalent I J → Equivalent (Product I M) (Product J M)
  ~_product h = record {
    α = h.α;
    β = h.β;
    α≢𝟘 = h.α≢𝟘;
    β≢𝟘 = h.β≢𝟘;
    forth = carries_product h.α h.β h.forth;
    back = carries_product h.β h.α h.back;
  }

  -- α I: the multiples by α of the elements of I
  abbrev pub Scaled : (α : B) (I : B → Type 0) → B → Type 0
  Scaled α I z = (a : B) × I a × (z ≡ α · a)

  pub scaled_ideal : {I : B → Type 0} (α : B) → Ideal I → Ideal (Scaled α I)
  scaled_ideal α h = record {
    zero = (𝟘, h.zero, sym (·_𝟘 S α));
    sum = λ s t. (s.0 ⊞ t.0, h.sum s.1 t.1, ap₂ ◌⊞◌ s.2 t.2 ∙ sym (S.mul_add α s.0 t.0));
    multiple = λ c s. (c · s.0, h.multiple c s.1, ap (λ z. c · z) s.2 ∙ ·_left_comm S c α s.0);
  }

  pub ~_of_scaled : {I J : B → Type 0} (α : B) → ¬ (𝟙 ≡ 𝟘) → ¬ (α ≡ 𝟘) → Within I (Scaled α J) → Within (Scaled α J) I → Equivalent I J
  ~_of_scaled α one α≢𝟘 h k = record {
    α = 𝟙;
    β = α;
    α≢𝟘 = one;
    β≢𝟘 = α≢𝟘;
    forth = λ z i. let r = h z i in (r.0, r.1, 𝟙_· S z ∙ r.2);
    back = λ a j. (α · a, k (α · a) (a, j, refl), sym (𝟙_· S (α · a)));
  }
