-- The plain curve, whose f has no x⁶, x⁵, x⁴ and x², and the change of variables that leads to it.
-- `coeff_shift_five`: the coefficient of x⁵ in f(x + c) is f5 + c².
-- `cleared_at`, `cleared_elsewhere`: clearing x²ⁿ changes the coefficients of x²ⁿ and xⁿ only.
-- `plain_f_cleared`: the plain f is f shifted and then cleared three times.
-- `plain_f_len`, `plain_f_monic`, `plain_f_plain`: the plain f is monic of degree 7, and plain.
-- `plain_change_of_plain`, `plain_f_of_plain`: for a plain f the change is none, and f stays.
-- `changed_none`, `carry_plain`, `carry_back_plain`: no change, and that of a plain f, leave each class as it is.
use Prim.Native.Nat.{ℕ, zero, suc, ◌+◌, ◌≤◌, ◌<◌}
use mathlib.Core.Path.{◌≡◌, refl, sym, ◌∙◌, ap, ap₂}
use native.Mathlib.Omega.{arith}
use Rattle.field_laws.specs.{Ring.Ring2, Field.Field2}
use Rattle.char2_algebra.specs.{Polynomials.Polynomials, Lead.Monic, Square.tail, Shift.shift}
use Rattle.char2_algebra.proofs.{Ring.ring2, Ring.⊞_𝟘, Ring.⊞_self, Ring.·_𝟘, Degree.coeff_tail, Degree.len_tail, Degree.con_mul, Degree.con_of_zero, Square.root_zero, Division.rem_short}
use Rattle.char2_algebra.proofs.{Shift.coeff_shift_zero, Shift.coeff_shift_suc, Shift.coeff_shift_top, Shift.len_shift, Shift.shift_none, Lead.monic_top, Lead.len_by_top, Lead.monic_by_top}
use Rattle.class_group.specs.{Curve.Curve, Mumford.Pair, Mumford.Reduced}
use Rattle.class_group.specs.Carrying.{changed_f, changed, change_back, Plain, monomial, clearing, cleared, plain_change, plain_f}

module _ {B : Type 0} (R : Ring2 B) where
  open R use {add as ◌⊞◌, mul as ◌·◌, zero as 𝟘, one as 𝟙}

  infixl 60 ◌⊞◌
  infixl 70 ◌·◌
  two_shifts : (a b c d : B) → a ⊞ c · b ⊞ c · (b ⊞ c · d) ≡ a ⊞ c · c · d
  two_shifts a b c d = simp (ring2, R)

  three_squares : (f c : B) → f ⊞ c · c · 𝟙 ⊞ c · c · 𝟙 ⊞ c · c · 𝟙 ≡ f ⊞ c · c
  three_squares f c = simp (ring2, R)

  square_of_multiple : (x m : B) → x · m · (x · m) ≡ x · (x · (m · m))
  square_of_multiple x m = simp (ring2, R)

  three_changes : (f a b e : B) → f ⊞ (a ⊞ b ⊞ e) · (a ⊞ b ⊞ e) ⊞ (a ⊞ b ⊞ e) ≡ f ⊞ a · a ⊞ a ⊞ b · b ⊞ b ⊞ e · e ⊞ e
  three_changes f a b e = simp (ring2, R)

  no_change : (f : B) → f ⊞ 𝟘 · 𝟘 ⊞ 𝟘 ≡ f
  no_change f = simp (ring2, R)

module _ {K P : Type 0} {F : Field2 K} (A : Polynomials F P) where
  open A use {ring as R, coeff, con, x, len, rem}
  open A.ring use {add as ◌⊞◌, mul as ◌·◌, zero as 𝟘}
  open F.ring use {add as ◌⊞ₖ◌, mul as ◌·ₖ◌, zero as 𝟘ₖ, one as 𝟙ₖ}

  infixl 60 ◌⊞◌
  infixl 70 ◌·◌
  infixl 60 ◌⊞ₖ◌
  infixl 70 ◌·ₖ◌
  -- x⁵ in f(x + c)
  module _ (c : K) where
    coeff_shift_two : (p : P) (i : ℕ) → coeff (shift A c p) (suc (suc i)) ≡ coeff (shift A c (tail A (tail A p))) i ⊞ₖ c ·ₖ c ·ₖ coeff (shift A c (tail A (tail A p))) (suc (suc i))
    coeff_shift_two p i =
        coeff_shift_suc A c p (suc i)
        ∙ ap₂ (λ y z. y ⊞ₖ c ·ₖ z) (coeff_shift_suc A c (tail A p) i) (coeff_shift_suc A c (tail A p) (suc i))
        ∙ two_shifts F.ring _ _ c _

    -- 1 at xⁿ and zero above; the tail has it one lower
    abbrev Top : ℕ → P → Type 0
    Top n p = (len p ≤ suc n) × (coeff p n ≡ 𝟙ₖ)

    top_tail : (n : ℕ) {p : P} → Top (suc n) p → Top n (tail A p)
    top_tail n {p} t = (len_tail A p (suc n) t.0, coeff_tail A p n ∙ t.1)

    top_shift : (n : ℕ) {p : P} → Top n p → coeff (shift A c p) n ≡ 𝟙ₖ
    top_shift n {p} t = coeff_shift_top A c n p t.0 ∙ t.1

    coeff_shift_one : (p : P) → Top 3 p → coeff (shift A c p) 1 ≡ coeff p 1 ⊞ₖ c ·ₖ c ·ₖ 𝟙ₖ
    coeff_shift_one p t =
        let r = coeff (shift A c (tail A (tail A p))) 0 in
        coeff_shift_suc A c p 0
        ∙ ap₂ (λ y z. y ⊞ₖ c ·ₖ z)
        (coeff_shift_zero A c (tail A p) ∙ ap (λ z. z ⊞ₖ c ·ₖ r) (coeff_tail A p 0))
        (coeff_shift_suc A c (tail A p) 0 ∙ ap (λ z. r ⊞ₖ c ·ₖ z) (top_shift 1 (top_tail 1 (top_tail 2 t))))
        ∙ two_shifts F.ring _ r c 𝟙ₖ

    pub coeff_shift_five : (f : P) → len f ≤ 8 → coeff f 7 ≡ 𝟙ₖ → coeff (shift A c f) 5 ≡ coeff f 5 ⊞ₖ c ·ₖ c
    coeff_shift_five f h top =
        let t5 = top_tail 5 (top_tail 6 (h, top)) in
        let t3 = top_tail 3 (top_tail 4 t5) in
        coeff_shift_two f 3
        ∙ ap₂ (λ y z. y ⊞ₖ c ·ₖ c ·ₖ z)
        (coeff_shift_two _ 1 ∙ ap₂ (λ y z. y ⊞ₖ c ·ₖ c ·ₖ z) (coeff_shift_one _ t3) (top_shift 3 t3))
        (top_shift 5 t5)
        ∙ three_squares F.ring _ c
        ∙ ap (λ z. z ⊞ₖ c ·ₖ c) (simp (coeff_tail A))

  -- a xⁿ
  coeff_monomial : (n : ℕ) (a : K) → coeff (monomial A n a) n ≡ a
  unfolding monomial
  coeff_monomial zero a = A.coeff_con a
  coeff_monomial (suc n) a = A.coeff_x_mul_suc _ n ∙ coeff_monomial n a

  coeff_monomial_else : (n : ℕ) (a : K) (i : ℕ) → ¬ (i ≡ n) → coeff (monomial A n a) i ≡ 𝟘ₖ
  unfolding monomial
  coeff_monomial_else zero a zero h = absurd (h refl)
  coeff_monomial_else zero a (suc i) h = A.coeff_con_suc a i
  coeff_monomial_else (suc n) a zero h = A.coeff_x_mul _
  coeff_monomial_else (suc n) a (suc i) h = A.coeff_x_mul_suc _ i ∙ coeff_monomial_else n a i (λ e. h (ap suc e))

  pub monomial_square : (n : ℕ) (a : K) → monomial A n a · monomial A n a ≡ monomial A (n + n) (a ·ₖ a)
  unfolding monomial
  monomial_square zero a = sym (con_mul A a a)
  monomial_square (suc n) a =
      square_of_multiple R x (monomial A n a)
      ∙ ap (λ z. x · (x · z)) (monomial_square n a)
      ∙ ap (λ k. monomial A k (a ·ₖ a)) (let e : suc (suc (n + n)) ≡ suc n + suc n = omega arith in e)

  monomial_zero : (n : ℕ) → monomial A n 𝟘ₖ ≡ 𝟘
  unfolding monomial
  monomial_zero zero = con_of_zero A
  monomial_zero (suc n) = ap (λ z. x · z) (monomial_zero n) ∙ ·_𝟘 R x

  -- f after x²ⁿ is cleared
  cleared_coeff : (n : ℕ) (f : P) (i : ℕ) → coeff (cleared A n f) i ≡ coeff f i ⊞ₖ coeff (monomial A (n + n) (coeff f (n + n))) i ⊞ₖ coeff (clearing A n f) i
  unfolding cleared clearing
  cleared_coeff n f i =
      A.coeff_add _ _ i
      ∙ ap (λ z. z ⊞ₖ coeff (clearing A n f) i) (A.coeff_add _ _ i ∙ ap (λ z. coeff f i ⊞ₖ coeff z i) (monomial_square n _ ∙ ap (monomial A (n + n)) (F.root_square _)))

  pub cleared_at : (n : ℕ) (f : P) → 0 < n → coeff (cleared A n f) (n + n) ≡ 𝟘ₖ
  unfolding clearing
  cleared_at n f h =
      cleared_coeff n f (n + n)
      ∙ ap₂ (λ y z. coeff f (n + n) ⊞ₖ y ⊞ₖ z) (coeff_monomial (n + n) _) (coeff_monomial_else n _ (n + n) (omega arith))
      ∙ ⊞_𝟘 F.ring _
      ∙ ⊞_self F.ring _

  pub cleared_elsewhere : (n : ℕ) (f : P) (i : ℕ) → ¬ (i ≡ n + n) → ¬ (i ≡ n) → coeff (cleared A n f) i ≡ coeff f i
  unfolding clearing
  cleared_elsewhere n f i h k =
      cleared_coeff n f i
      ∙ ap₂ (λ y z. coeff f i ⊞ₖ y ⊞ₖ z) (coeff_monomial_else (n + n) _ i h) (coeff_monomial_else n _ i k)
      ∙ ⊞_𝟘 F.ring _
      ∙ ⊞_𝟘 F.ring _

  clearing_none : (n : ℕ) (f : P) → coeff f (n + n) ≡ 𝟘ₖ → clearing A n f ≡ 𝟘
  unfolding clearing
  clearing_none n f h = ap (λ a. monomial A n (F.root a)) h ∙ ap (monomial A n) (root_zero F) ∙ monomial_zero n

  cleared_none : (n : ℕ) (f : P) → coeff f (n + n) ≡ 𝟘ₖ → cleared A n f ≡ f
  unfolding cleared
  cleared_none n f h = ap (λ m. f ⊞ m · m ⊞ m) (clearing_none n f h) ∙ no_change R f

  -- f after the shift that clears x⁵
  abbrev shifted : P → P
  shifted f = shift A (F.root (coeff f 5)) f

  pub plain_f_cleared : (f : P) → plain_f A f ≡ cleared A 1 (cleared A 2 (cleared A 3 (shift A (F.root (coeff f 5)) f)))
  unfolding plain_f plain_change changed_f cleared
  plain_f_cleared f = three_changes R _ _ _ _

  -- past x⁴ the clearings touch x⁶ only
  plain_above : (f : P) (i : ℕ) → 4 < i → ¬ (i ≡ 6) → coeff (plain_f A f) i ≡ coeff (shifted f) i
  plain_above f i h k =
      ap (λ z. coeff z i) (plain_f_cleared f)
      ∙ cleared_elsewhere 1 _ i (omega arith) (omega arith)
      ∙ cleared_elsewhere 2 _ i (omega arith) (omega arith)
      ∙ cleared_elsewhere 3 _ i k (omega arith)

  changed_f_none : (f : P) → changed_f A (record { c = 𝟘ₖ; g = 𝟘 }) f ≡ f
  unfolding changed_f
  changed_f_none f = no_change R _ ∙ shift_none A f

  back_none : change_back A (record { c = 𝟘ₖ; g = 𝟘 }) ≡ record { c = 𝟘ₖ; g = 𝟘 }
  unfolding change_back
  back_none i = record { c = 𝟘ₖ; g = shift_none A 𝟘 i }

module _ {K P : Type 0} {F : Field2 K} {A : Polynomials F P} (C : Curve A) where
  open A use {ring as R, coeff, len, rem}
  open A.ring use {add as ◌⊞◌, zero as 𝟘}
  open F.ring use {add as ◌⊞ₖ◌, mul as ◌·ₖ◌, zero as 𝟘ₖ, one as 𝟙ₖ}
  open C use {f}

  infixl 60 ◌⊞◌
  infixl 60 ◌⊞ₖ◌
  infixl 70 ◌·ₖ◌
  f_top : coeff f 7 ≡ 𝟙ₖ
  f_top = monic_top A f 7 C.f_monic C.f_len

  f_short : len f ≤ 8
  f_short = let l : len f ≡ 8 = C.f_len in omega arith

  plain_top : coeff (plain_f A f) 7 ≡ 𝟙ₖ
  plain_top = plain_above A f 7 (omega arith) (omega arith) ∙ coeff_shift_top A _ 7 f f_short ∙ f_top

  plain_past : (i : ℕ) → 7 < i → coeff (plain_f A f) i ≡ 𝟘ₖ
  plain_past i h =
      plain_above A f i (omega arith) (omega arith)
      ∙ A.len_past _ i (let l : len (shifted A f) ≡ len f = len_shift A _ f in let k : len f ≤ 8 = f_short in omega arith)

  pub plain_f_len : len (plain_f A f) ≡ 8
  plain_f_len = len_by_top A (plain_f A f) 7 plain_top plain_past

  pub plain_f_monic : Monic A (plain_f A f)
  plain_f_monic = monic_by_top A (plain_f A f) 7 plain_top plain_past

  -- clearing x⁴ leaves x⁶ as it is, and clearing x² leaves both
  pub plain_f_plain : Plain A (plain_f A f)
  plain_f_plain = record {
    no_6 = at 6 ∙ cleared_elsewhere A 1 _ 6 (omega arith) (omega arith) ∙ cleared_elsewhere A 2 _ 6 (omega arith) (omega arith) ∙ cleared_at A 3 _ (omega arith);
    no_5 =
        plain_above A f 5 (omega arith) (omega arith)
        ∙ coeff_shift_five A _ f f_short f_top
        ∙ ap (λ z. coeff f 5 ⊞ₖ z) (F.root_square (coeff f 5))
        ∙ ⊞_self F.ring (coeff f 5);
    no_4 = at 4 ∙ cleared_elsewhere A 1 _ 4 (omega arith) (omega arith) ∙ cleared_at A 2 _ (omega arith);
    no_2 = at 2 ∙ cleared_at A 1 _ (omega arith);
  }
    where
      at : (i : ℕ) → coeff (plain_f A f) i ≡ coeff (cleared A 1 (cleared A 2 (cleared A 3 (shifted A f)))) i
      at i = ap (λ z. coeff z i) (plain_f_cleared A f)

  -- a plain f
  module _ (plain : Plain A f) where
    no_shift : F.root (coeff f 5) ≡ 𝟘ₖ
    no_shift = ap F.root plain.no_5 ∙ root_zero F

    shifted_plain : shifted A f ≡ f
    shifted_plain = ap (λ c. shift A c f) no_shift ∙ shift_none A f

    once : cleared A 3 (shifted A f) ≡ f
    once = ap (cleared A 3) shifted_plain ∙ cleared_none A 3 f plain.no_6

    twice : cleared A 2 (cleared A 3 (shifted A f)) ≡ f
    twice = ap (cleared A 2) once ∙ cleared_none A 2 f plain.no_4

    no_clearing : clearing A 3 (shifted A f) ⊞ clearing A 2 (cleared A 3 (shifted A f)) ⊞ clearing A 1 (cleared A 2 (cleared A 3 (shifted A f))) ≡ 𝟘
    no_clearing =
        ap₂ ◌⊞◌
        (ap₂ ◌⊞◌ (ap (clearing A 3) shifted_plain ∙ clearing_none A 3 f plain.no_6) (ap (clearing A 2) once ∙ clearing_none A 2 f plain.no_4) ∙ ⊞_𝟘 R 𝟘)
        (ap (clearing A 1) twice ∙ clearing_none A 1 f plain.no_2)
        ∙ ⊞_𝟘 R 𝟘

    pub plain_change_of_plain : plain_change A f ≡ record { c = 𝟘ₖ; g = 𝟘 }
    unfolding plain_change
    plain_change_of_plain i = record { c = no_shift i; g = no_clearing i }

    pub plain_f_of_plain : plain_f A f ≡ f
    unfolding plain_f
    plain_f_of_plain = ap (λ t. changed_f A t f) plain_change_of_plain ∙ changed_f_none A f

  pub changed_none : {D : Pair P} → Reduced C D → changed A (record { c = 𝟘ₖ; g = 𝟘 }) D ≡ D
  unfolding changed
  changed_none {D} r =
      ap₂ (λ u v. record { u = u; v = rem v u }) (shift_none A D.u) (⊞_𝟘 R _ ∙ shift_none A D.v)
      ∙ (λ i. record { u = D.u; v = rem_short A D.v D.u r.v_len i })

  pub carry_plain : {D : Pair P} → Plain A f → Reduced C D → changed A (plain_change A f) D ≡ D
  carry_plain {D} plain r = ap (λ t. changed A t D) (plain_change_of_plain plain) ∙ changed_none r

  pub carry_back_plain : {D : Pair P} → Plain A f → Reduced C D → changed A (change_back A (plain_change A f)) D ≡ D
  carry_back_plain {D} plain r = ap (λ t. changed A t D) (ap (change_back A) (plain_change_of_plain plain) ∙ back_none A) ∙ changed_none r
