-- Closed pairs and answers compared by their numbers, with tests that compute: what passes the test is equal.
use Prim.Native.Nat.{ℕ}
use mathlib.Core.Path.{◌≡◌, refl, ap, ap₂}
use mathlib.Core.Bool.{Bool, true, false, ◌&&◌}
use mathlib.Core.List.{List, [], ◌∷◌}
use lib.Dec.{T, eqb, eqb→eq}
use mir.Facts.{and_yes}
use Rattle.binary_field_theory.proofs.Elements.{element_path}
use Rattle.char2_algebra.proofs.PolynomialRing.{eq_of_coefficients}
use Rattle.class_group.specs.Mumford.{Pair}
use Rattle.row_theory.specs.Field.{degree_of, K, Poly, F}
use Rattle.jacobian.specs.declared.Class.{Class}
use Rattle.jacobian.specs.Answer.{Verdict, accepted, refused, Result}

-- lists whose elements are known by their numbers
module _ {A : Type 0} (number : A → ℕ) where
  abbrev pub alike : List A → List A → Bool
  alike [] [] = true
  alike [] (b ∷ q) = false
  alike (a ∷ p) [] = false
  alike (a ∷ p) (b ∷ q) = eqb (number a) (number b) && alike p q

  alike_eq : ((a b : A) → number a ≡ number b → a ≡ b) → (p q : List A) → T (alike p q) → p ≡ q
  alike_eq same [] [] t = refl
  alike_eq same [] (b ∷ q) t = absurd t
  alike_eq same (a ∷ p) [] t = absurd t
  alike_eq same (a ∷ p) (b ∷ q) t =
      let h = and_yes (eqb (number a) (number b)) (alike p q) t in
      ap₂ {C = List A} ◌∷◌ (same a b (eqb→eq (number a) (number b) h.0)) (alike_eq same p q h.1)

-- pairs of polynomials
module _ (d : ℕ) where
  abbrev pub alike_polynomials : Poly d → Poly d → Bool
  alike_polynomials p q = alike (λ (a : K d). a.0) p.coefficients q.coefficients

  polynomials_eq : (p q : Poly d) → T (alike_polynomials p q) → p ≡ q
  polynomials_eq p q t =
      eq_of_coefficients (F d) p q
      (alike_eq (λ (a : K d). a.0) (λ a b e. element_path (degree_of d) e) p.coefficients q.coefficients t)

  abbrev pub alike_pairs : Pair (Poly d) → Pair (Poly d) → Bool
  alike_pairs D E = alike_polynomials D.u E.u && alike_polynomials D.v E.v

  pub pairs_eq : (D E : Pair (Poly d)) → T (alike_pairs D E) → D ≡ E
  pairs_eq D E t =
      let h = and_yes (alike_polynomials D.u E.u) (alike_polynomials D.v E.v) t in
      let u = polynomials_eq D.u E.u h.0 in
      let v = polynomials_eq D.v E.v h.1 in
      λ i. record { u = u i; v = v i }

-- answers of calls
abbrev pub alike_verdicts : Verdict → Verdict → Bool
alike_verdicts accepted accepted = true
alike_verdicts accepted (refused n) = false
alike_verdicts (refused m) accepted = false
alike_verdicts (refused m) (refused n) = eqb m n

pub verdicts_eq : (s t : Verdict) → T (alike_verdicts s t) → s ≡ t
verdicts_eq accepted accepted t = refl
verdicts_eq accepted (refused n) t = absurd t
verdicts_eq (refused m) accepted t = absurd t
verdicts_eq (refused m) (refused n) t = ap refused (eqb→eq m n t)

abbrev pub alike_classes : Class → Class → Bool
alike_classes a b = eqb a.degree b.degree && (alike (λ n. n) a.u b.u && alike (λ n. n) a.v b.v)

classes_eq : (a b : Class) → T (alike_classes a b) → a ≡ b
classes_eq a b t =
    let h = and_yes (eqb a.degree b.degree) (alike (λ n. n) a.u b.u && alike (λ n. n) a.v b.v) t in
    let k = and_yes (alike (λ n. n) a.u b.u) (alike (λ n. n) a.v b.v) h.1 in
    let n = eqb→eq a.degree b.degree h.0 in
    let u = alike_eq (λ n. n) (λ _ _ e. e) a.u b.u k.0 in
    let v = alike_eq (λ n. n) (λ _ _ e. e) a.v b.v k.1 in
    λ i. record { degree = n i; u = u i; v = v i }

abbrev pub alike_results : Result → Result → Bool
alike_results s t = alike_verdicts s.outcome t.outcome && alike_classes s.class t.class

pub results_eq : (s t : Result) → T (alike_results s t) → s ≡ t
results_eq s t h =
    let k = and_yes (alike_verdicts s.outcome t.outcome) (alike_classes s.class t.class) h in
    let o = verdicts_eq s.outcome t.outcome k.0 in
    let c = classes_eq s.class t.class k.1 in
    λ i. record { outcome = o i; class = c i }
