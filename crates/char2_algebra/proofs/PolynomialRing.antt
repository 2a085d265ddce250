-- Trimmed lists of coefficients are a commutative ring of characteristic 2.
-- `eq_of_coefficients`: polynomials with the same list are equal.
-- `ext`: polynomials with the same coefficients are equal, so that each ring law is one of coefficient functions.
-- `coeff_of_list`, `coeff_add`, `coeff_mul`, `coeff_con`, `coeff_x_mul`: the coefficients of the operations' results.
-- `ring`: the ring.
use Prim.Native.Nat.{ℕ, suc}
use mathlib.Core.List
use mathlib.Core.{Path.◌≡◌, Path.refl, Path.sym, Path.◌∙◌, Path.ap, Path.ap₂, Path.fun_ext, List.List, List.[], List.◌∷◌}
use mathlib.Core.HLevel.{is_prop→PathP, collapsible→set, Unit-prop, ⊥_prop}
use Rattle.field_laws.specs.{Ring.Ring2, Field.Field2}
use Rattle.char2_algebra.specs.Polynomial.{Polynomial, IsNo, Trimmed, of_list, add_lists, mul_lists, coeff, zero_polynomial, con, x, add, mul}
use Rattle.char2_algebra.proofs.Convolution.{conv, conv_zero, conv_comm, conv_assoc, conv_add, conv_con, conv_shift}
use Rattle.char2_algebra.proofs.Ring.{𝟘_·, 𝟙_·}
use Rattle.char2_algebra.proofs.ListCoefficients.{at, at_add, at_mul, at_trim, eq_of_at}

IsNo_prop : {A : Type 0} (d : Dec A) → IsProp (IsNo d)
IsNo_prop (yes _) = ⊥_prop
IsNo_prop (no _) = Unit-prop

module _ {K : Type 0} (F : Field2 K) where
  open F use {ring as K_ring, discrete}
  open K_ring use {add as ◌⊞◌, mul as ◌·◌, zero as 𝟘, one as 𝟙}

  infixl 60 ◌⊞◌
  infixl 70 ◌·◌
  trimmed_prop : (p : List K) → IsProp (Trimmed F p)
  trimmed_prop [] = Unit-prop
  trimmed_prop (a ∷ []) = IsNo_prop (discrete a 𝟘)
  trimmed_prop (a ∷ b ∷ p) = trimmed_prop (b ∷ p)

  pub eq_of_coefficients : (p q : Polynomial F) → p.coefficients ≡ q.coefficients → p ≡ q
  eq_of_coefficients p q e =
      λ i. record {
        coefficients = e i;
        trimmed = is_prop→PathP (λ j. Trimmed F (e j)) (λ j. trimmed_prop (e j)) p.trimmed q.trimmed i;
      }

  pub ext : (p q : Polynomial F) → ((i : ℕ) → coeff F p i ≡ coeff F q i) → p ≡ q
  unfolding coeff
  ext p q h = eq_of_coefficients p q (eq_of_at F p.coefficients q.coefficients p.trimmed q.trimmed h)

  pub polynomial_set : IsSet (Polynomial F)
  polynomial_set =
      collapsible→set
      (λ p q e. eq_of_coefficients p q (ap (λ r. r.coefficients) e))
      (λ p q d e. ap (eq_of_coefficients p q) (List.is_set K_ring.is_set p.coefficients q.coefficients (ap (λ r. r.coefficients) d) (ap (λ r. r.coefficients) e)))

  pub coeff_of_list : (l : List K) (i : ℕ) → coeff F (of_list F l) i ≡ at F l i
  unfolding coeff of_list
  coeff_of_list l i = at_trim F l i

  pub coeff_add : (p q : Polynomial F) (i : ℕ) → coeff F (add F p q) i ≡ coeff F p i ⊞ coeff F q i
  unfolding coeff add
  coeff_add p q i = coeff_of_list (add_lists F p.coefficients q.coefficients) i ∙ at_add F p.coefficients q.coefficients i

  pub coeff_mul : (p q : Polynomial F) (i : ℕ) → coeff F (mul F p q) i ≡ conv K_ring (coeff F p) (coeff F q) i
  unfolding coeff mul
  coeff_mul p q i = coeff_of_list (mul_lists F p.coefficients q.coefficients) i ∙ at_mul F p.coefficients q.coefficients i

  pub coeff_zero : (i : ℕ) → coeff F (zero_polynomial F) i ≡ 𝟘
  unfolding coeff zero_polynomial
  coeff_zero i = refl

  pub coeff_con : (a : K) → coeff F (con F a) 0 ≡ a
  unfolding con
  coeff_con a = coeff_of_list (a ∷ []) 0

  pub coeff_con_suc : (a : K) (i : ℕ) → coeff F (con F a) (suc i) ≡ 𝟘
  unfolding con
  coeff_con_suc a i = coeff_of_list (a ∷ []) (suc i)

  pub coeff_con_mul : (a : K) (p : Polynomial F) (i : ℕ) → coeff F (mul F (con F a) p) i ≡ a · coeff F p i
  coeff_con_mul a p i =
      coeff_mul (con F a) p i ∙ conv_con K_ring (coeff F (con F a)) (coeff F p) (coeff_con_suc a) i ∙ ap (λ z. z · coeff F p i) (coeff_con a)

  pub coeff_x_mul : (p : Polynomial F) → coeff F (mul F (x F) p) 0 ≡ 𝟘
  unfolding x
  coeff_x_mul p = coeff_mul (x F) p 0 ∙ conv_zero K_ring (coeff F (x F)) (coeff F p) ∙ ap (λ z. z · coeff F p 0) (coeff_of_list (𝟘 ∷ 𝟙 ∷ []) 0) ∙ 𝟘_· K_ring (coeff F p 0)

  pub coeff_x_mul_suc : (p : Polynomial F) (i : ℕ) → coeff F (mul F (x F) p) (suc i) ≡ coeff F p i
  unfolding x
  coeff_x_mul_suc p i =
      coeff_mul (x F) p (suc i)
      ∙ conv_shift K_ring (coeff F (x F)) (coeff F p) (coeff_of_list (𝟘 ∷ 𝟙 ∷ []) 0) i
      ∙ conv_con K_ring (λ j. coeff F (x F) (suc j)) (coeff F p) (λ j. coeff_of_list (𝟘 ∷ 𝟙 ∷ []) (suc (suc j))) i
      ∙ ap (λ z. z · coeff F p i) (coeff_of_list (𝟘 ∷ 𝟙 ∷ []) 1)
      ∙ 𝟙_· K_ring (coeff F p i)

  unfoldable pub ring : Ring2 (Polynomial F)
  unfolding add mul zero_polynomial con
  ring =
      record {
        add = add F;
        mul = mul F;
        zero = zero_polynomial F;
        one = con F 𝟙;
        is_set = polynomial_set;
        add_comm = λ p q. ext (add F p q) (add F q p) (λ i. coeff_add p q i ∙ K_ring.add_comm (coeff F p i) (coeff F q i) ∙ sym (coeff_add q p i));
        add_assoc = λ p q r.
            ext (add F (add F p q) r) (add F p (add F q r))
            (λ i. coeff_add (add F p q) r i
            ∙ ap (λ z. z ⊞ coeff F r i) (coeff_add p q i)
            ∙ K_ring.add_assoc (coeff F p i) (coeff F q i) (coeff F r i)
            ∙ ap (λ z. coeff F p i ⊞ z) (sym (coeff_add q r i))
            ∙ sym (coeff_add p (add F q r) i));
        add_zero = λ p. ext (add F p (zero_polynomial F)) p (λ i. coeff_add p (zero_polynomial F) i ∙ ap (λ z. coeff F p i ⊞ z) (coeff_zero i) ∙ K_ring.add_zero (coeff F p i));
        add_self = λ p. ext (add F p p) (zero_polynomial F) (λ i. coeff_add p p i ∙ K_ring.add_self (coeff F p i) ∙ sym (coeff_zero i));
        mul_comm = λ p q. ext (mul F p q) (mul F q p) (λ i. coeff_mul p q i ∙ conv_comm K_ring (coeff F p) (coeff F q) i ∙ sym (coeff_mul q p i));
        mul_assoc = λ p q r.
            ext (mul F (mul F p q) r) (mul F p (mul F q r))
            (λ i. coeff_mul (mul F p q) r i
            ∙ ap (λ f. conv K_ring f (coeff F r) i) (fun_ext (coeff_mul p q))
            ∙ conv_assoc K_ring (coeff F p) (coeff F q) (coeff F r) i
            ∙ ap (λ f. conv K_ring (coeff F p) f i) (sym (fun_ext (coeff_mul q r)))
            ∙ sym (coeff_mul p (mul F q r) i));
        mul_one = λ p.
            ext (mul F p (con F 𝟙)) p
            (λ i. coeff_mul p (con F 𝟙) i
            ∙ conv_comm K_ring (coeff F p) (coeff F (con F 𝟙)) i
            ∙ sym (coeff_mul (con F 𝟙) p i)
            ∙ coeff_con_mul 𝟙 p i
            ∙ 𝟙_· K_ring (coeff F p i));
        mul_add = λ p q r.
            ext (mul F p (add F q r)) (add F (mul F p q) (mul F p r))
            (λ i. coeff_mul p (add F q r) i
            ∙ ap (λ f. conv K_ring (coeff F p) f i) (fun_ext (coeff_add q r))
            ∙ conv_add K_ring (coeff F p) (coeff F q) (coeff F r) i
            ∙ sym (ap₂ ◌⊞◌ (coeff_mul p q i) (coeff_mul p r i))
            ∙ sym (coeff_add (mul F p q) (mul F p r) i));
      }
