-- The answers of the calls on elements.
-- `sum_replies`, `product_replies`, `square_replies`, `root_replies`: the answer for elements of an accepted degree.
-- `sum_in_field`, `product_in_field`, `square_in_field`, `root_in_field`, `inverse_in_field`: it is the number of the
-- field's operation.
-- `root_means`: a square root's answer is the only element whose square is a, or the refusal.
-- `inverse_means`: an inverse's answer is the only element whose product with a is 1, or the refusal.
-- `quadratic_means`: the answer is the root of y² + y = a with lowest bit 0, that there is no root, or the refusal.
-- `quadratic_in_field`: a root of y² + y = a is one in the field.
-- `found_is`, `none_found`, `found_root`: what a caller that matches on the answer knows.
use mathlib.Core.{Path.◌≡◌, Path.refl, Path.ap, Path.sym, Path.◌∙◌, Bool.Bool, Bool.true, Bool.false, List.List, List.[], List.◌∷◌, Option.Option, Option.none, Option.some}
use Prim.Native.Nat.{ℕ, zero, suc, ◌-◌, ◌%◌, ◌^◌, ◌<◌}
use native.Mathlib.Omega.{arith}
use lib.{Dec.T, Dec.ltb}
use borrow.Author.Tests.{lt-ltb}
use Rattle.std.specs.Prelude.{Result, Ok, Err, Some, None}
use Rattle.std.specs.Prelude as std
use Rattle.refusals.specs.{Refusals.number, declared.Refusal.Refusal}
use Rattle.binary_field.specs.{Field.element as at}
use Rattle.binary_field_theory.specs.{Carryless.◌⊕◌, Element.is_degree, Element.Accepted, Element.product, Element.square, Element.power, Element.root, Element.inverse, Quadratic.even_root, Quadratic.trace, Quadratic.half_trace}
use Rattle.binary_field_theory.specs.Quadratic as equation
use Rattle.binary_field_theory.proofs.{Elements.element_path, Theorems.one_root, Theorems.one_inverse, Theorems.even_root_found, Theorems.even_root_none, Theorems.even_root_by_trace, Theorems.none_by_trace}
use Rattle.binary_field.specs.{Field.field, Answer.element, Answer.refusal, Answer.reply, Answer.below, Answer.degree_refusal, Answer.element_refusal, Answer.inverse_refusal, Answer.answered, Answer.sum_reply, Answer.product_reply, Answer.square_reply, Answer.root_reply, Answer.inverse_reply, Answer.InverseMeans, Answer.RootMeans, Answer.found, Answer.no_root, Answer.refused, Answer.solution_reply, Answer.solved, Answer.quadratic_reply, Answer.QuadraticMeans, Checks.unless, Checks.◌or_else◌}
use Rattle.field_laws.specs.Division.{inverse_of}
use Rattle.binary_field.proofs.Field.{add_number, mul_number, zero_number, root_number, inverse_number, element_small}
use Rattle.lists.specs.Lists.{more}
use Rattle.binary_field.specs.{Checking.Below, Degree.degree_number, declared.degree.Degree.Degree}
use Rattle.binary_field.proofs.{Checks.then_zero, Checks.unless_zero, Checking.below_decides, Degrees.accepted_degree, Refusing.number_positive, Refusing.stops_first, Refusing.goes_on}

refusal_of : (k v : ℕ) → (k ≡ 0 → ⊥) → refusal k ≡ answered k v
unfolding answered
refusal_of zero v h = absurd (h refl)
refusal_of (suc k) v h = refl

-- a refusal is answered
pub refuses : (r : Refusal) {n : ℕ} (v : ℕ) → number r ≡ n → refusal (number r) ≡ answered n v
refuses r v e = refusal_of (number r) v (number_positive r) ∙ ap (λ (x : ℕ). answered x v) e

-- where nothing is refused, the element is answered
pub replies : {n u v : ℕ} → 0 ≡ n → u ≡ v → element u ≡ answered n v
unfolding answered
replies e f = rw (← e) (ap element f)

-- ---- the checks

-- a refused degree is the refusal of the call
pub wrong_degree : (r : Refusal) (d : ℕ) (ns : List ℕ) → number r ≡ degree_refusal d → number r ≡ element_refusal d ns
unfolding element_refusal
wrong_degree r d ns e = stops_first r (unless (below (2 ^ d) ns) 110) e

-- where the degree is not refused, the range of the numbers decides
pub then_range : (g : Degree) (d : ℕ) (ns : List ℕ) {n : ℕ} → (0 ≡ degree_refusal d) × (degree_number g ≡ d) → n ≡ unless (below (2 ^ degree_number g) ns) 110
    → n ≡ element_refusal d ns
unfolding element_refusal
then_range g d ns e f = goes_on e.0 (rw e.1 at f)

-- where the range is not refused, the numbers are below the bound
pub in_range : (m : ℕ) {ns : List ℕ} → 0 ≡ unless (below m ns) 110 → Below m ns
in_range m {ns} e = (below_decides m ns).0 (unless_zero (below m ns) 110 (omega arith) (sym e))

pub one_below : {m a : ℕ} → 0 ≡ unless (below m (a ∷ [])) 110 → a < m
one_below {m} {a} e = elim (in_range m e) [ more h hs ↦ h ]

pub two_below : {m a b : ℕ} → 0 ≡ unless (below m (a ∷ b ∷ [])) 110 → (a < m) × (b < m)
two_below {m} {a} {b} e = elim (in_range m e) [ more h hs ↦ (h, elim hs [ more k ks ↦ k ]) ]

-- by these the goals of the calls are found
pub ruleset answering = (refuses, replies, wrong_degree, then_range, one_below, two_below)

-- where a call on one number is not refused, the degree is accepted and the number in range
none_refused : (d a : ℕ) → 0 ≡ element_refusal d (a ∷ []) → Accepted d × (a < 2 ^ d)
unfolding element_refusal
none_refused d a e =
    let z = then_zero (degree_refusal d) (unless (below (2 ^ d) (a ∷ [])) 110) (sym e) in
    (accepted_degree d z.0, one_below (sym z.1))

of_T : (x : Bool) → T x → x ≡ true
of_T true t = refl
of_T false t = absurd t

-- the answer for an accepted degree and numbers in range is the element
module _ (d a : ℕ) (hd : Accepted d) (ha : a < 2 ^ d) where
  none_one : element_refusal d (a ∷ []) ≡ 0
  unfolding element_refusal degree_refusal below unless ◌or_else◌
  none_one = rw (of_T (is_degree d) hd, lt-ltb _ _ ha)

  none_two : (b : ℕ) → b < 2 ^ d → element_refusal d (a ∷ b ∷ []) ≡ 0
  unfolding element_refusal degree_refusal below unless ◌or_else◌
  none_two b hb = rw (of_T (is_degree d) hd, lt-ltb _ _ ha, lt-ltb _ _ hb)

  pub sum_replies : (b : ℕ) → b < 2 ^ d → sum_reply d a b ≡ element (a ⊕ b)
  unfolding sum_reply answered
  sum_replies b hb = rw (none_two b hb)

  pub product_replies : (b : ℕ) → b < 2 ^ d → product_reply d a b ≡ element (product d a b)
  unfolding product_reply answered
  product_replies b hb = rw (none_two b hb)

  pub square_replies : square_reply d a ≡ element (square d a)
  unfolding square_reply answered
  square_replies = rw none_one

  pub root_replies : root_reply d a ≡ element (root d a)
  unfolding root_reply answered
  root_replies = rw none_one

  none_inverse : ¬ (a ≡ 0) → inverse_refusal d a ≡ 0
  unfolding inverse_refusal unless ◌or_else◌
  none_inverse ne = rw (none_one, lt-ltb 0 a (omega (arith, ne)))

-- each case of a square root's answer says what is true
pub root_means : (d a : ℕ) → RootMeans d a (root_reply d a)
unfolding root_reply answered
root_means d a = by (element_refusal d (a ∷ [])) refl
  where
    by : (k : ℕ) → element_refusal d (a ∷ []) ≡ k → RootMeans d a (answered k (root d a))
    by zero e = let p = none_refused d a (sym e) in (e, one_root d p.0 a p.1)
    by (suc k) e = (sym e, λ z. omega arith)

-- ---- the inverse

nonzero_due : (k : ℕ) → ¬ (k or_else 117 ≡ 0)
unfolding ◌or_else◌
nonzero_due zero e = omega arith
nonzero_due (suc k) e = omega arith

-- 0 is refused whatever the degree
zero_due : (d : ℕ) → ¬ (inverse_refusal d 0 ≡ 0)
unfolding inverse_refusal unless
zero_due d = nonzero_due (element_refusal d (0 ∷ []))

-- where nothing is refused, the number is an element of an accepted degree, and not 0
inverse_unrefused : (d a : ℕ) → 0 ≡ inverse_refusal d a → Accepted d × (a < 2 ^ d) × ¬ (a ≡ 0)
unfolding inverse_refusal
inverse_unrefused d a e =
    let z = then_zero (element_refusal d (a ∷ [])) _ (sym e) in
    let p = none_refused d a (sym z.0) in
    (p.0, p.1, λ is. zero_due d (ap (inverse_refusal d) (sym is) ∙ sym e))

pub inverse_refused : (d a : ℕ) (r : Refusal) → number r ≡ element_refusal d (a ∷ []) → number r ≡ inverse_refusal d a
unfolding inverse_refusal
inverse_refused d a r e = stops_first r (unless (ltb 0 a) 117) e

pub then_invertible : (d a : ℕ) {n : ℕ} → 0 ≡ element_refusal d (a ∷ []) → n ≡ unless (ltb 0 a) 117 → n ≡ inverse_refusal d a
unfolding inverse_refusal
then_invertible d a e f = goes_on e f

pub inverse_refuses : (d a : ℕ) (r : Refusal) → number r ≡ inverse_refusal d a → refusal (number r) ≡ inverse_reply d a
unfolding inverse_reply
inverse_refuses d zero r e = ap refusal e
inverse_refuses d (suc n) r e = refuses r _ e

pub inverse_answers : (d a : ℕ) {b : ℕ} → 0 ≡ inverse_refusal d a → b ≡ power d a (2 ^ d - 2) → element b ≡ inverse_reply d a
unfolding inverse_reply
inverse_answers d zero e f = absurd (zero_due d (sym e))
inverse_answers d (suc n) e f = replies e f

inverse_replies : (d a : ℕ) → Accepted d → a < 2 ^ d → (ne : ¬ (a ≡ 0)) → inverse_reply d a ≡ element (inverse d a ne)
inverse_replies d a hd ha ne = sym (inverse_answers d a (sym (none_inverse d a hd ha ne)) refl)

-- each case of the answer says what is true
pub inverse_means : (d a : ℕ) → InverseMeans d a (inverse_reply d a)
unfolding inverse_reply answered
inverse_means d zero = (refl, zero_due d)
inverse_means d (suc n) = by (inverse_refusal d (suc n)) refl
  where
    not_zero : ¬ (suc n ≡ 0)
    not_zero e = omega arith

    by : (k : ℕ) → inverse_refusal d (suc n) ≡ k → InverseMeans d (suc n) (answered k (inverse d (suc n) not_zero))
    by zero e = let p = inverse_unrefused d (suc n) (sym e) in (e, one_inverse d p.0 (suc n) p.1 not_zero)
    by (suc k) e = (sym e, λ z. omega arith)

-- the calls give the sums, products, squares, roots and inverses of the field
module _ (d : ℕ) (ok : Accepted d) (a : ℕ) (ha : a < 2 ^ d) where
  module _ (b : ℕ) (hb : b < 2 ^ d) where
    pub sum_in_field : sum_reply d a b ≡ element ((field d ok).ring.add (at d ok a) (at d ok b)).0
    sum_in_field = rw (add_number d ok, element_small d ok a ha, element_small d ok b hb) (sum_replies d a ok ha b hb)

    pub product_in_field : product_reply d a b ≡ element ((field d ok).ring.mul (at d ok a) (at d ok b)).0
    product_in_field = rw (mul_number d ok, element_small d ok a ha, element_small d ok b hb) (product_replies d a ok ha b hb)

  pub square_in_field : square_reply d a ≡ element ((field d ok).ring.mul (at d ok a) (at d ok a)).0
  unfolding square
  square_in_field = rw (mul_number d ok, element_small d ok a ha) (square_replies d a ok ha)

  pub root_in_field : root_reply d a ≡ element ((field d ok).root (at d ok a)).0
  root_in_field = rw (root_number d ok, element_small d ok a ha) (root_replies d a ok ha)

  pub inverse_in_field : (ne : ¬ (at d ok a ≡ (field d ok).ring.zero)) → inverse_reply d a ≡ element (inverse_of (field d ok) (at d ok a) ne).0
  inverse_in_field ne =
      let small = element_small d ok a ha in
      let not_zero : ¬ (a ≡ 0) = λ e. ne (element_path d (small ∙ e ∙ sym (zero_number d ok))) in
      inverse_replies d a ok ha not_zero
      ∙ ap element (sym (inverse_number d ok (at d ok a) (λ e. not_zero (sym small ∙ e)) ∙ ap (λ n. power d n (2 ^ d - 2)) small))

-- for a caller that matches on the answer: an element is the reply's element, and there is no refusal
pub element_is : {x : Result ℕ Refusal} {n v : ℕ} → x ≡ Ok n → reply x ≡ element v → n ≡ v
element_is {x} {n} {v} e f =
    let g : reply x ≡ element n = ap reply e in
    cc

pub no_refusal : {x : Result ℕ Refusal} {r : Refusal} {v : ℕ} → x ≡ Err r → reply x ≡ element v → ⊥
no_refusal {x} {r} {v} e f =
    let g : reply x ≡ refusal (number r) = ap reply e in
    let z : ◌≡◌ {A = ℕ} 0 1 = cc in
    omega arith

-- ---- the root of y² + y = a

-- for a caller that matches on the answer: a root is the reply's root
pub found_is : {t : Result (std.Option ℕ) Refusal} {y z : ℕ} → t ≡ Ok (Some y) → solution_reply t ≡ found z → y ≡ z
found_is {t} {y} {z} e f =
    let g : solution_reply t ≡ found y = ap solution_reply e in
    cc

pub none_found : {t : Result (std.Option ℕ) Refusal} {y : ℕ} → t ≡ Ok (Some y) → solution_reply t ≡ no_root → ⊥
none_found {t} {y} e f =
    let g : solution_reply t ≡ found y = ap solution_reply e in
    let z : ◌≡◌ {A = ℕ} 0 1 = cc in
    omega arith

pub found_root : (t : Result (std.Option ℕ) Refusal) {z : ℕ} → solution_reply t ≡ found z → t ≡ Ok (Some z)
found_root (Ok (Some y)) {z} e = let f : y ≡ z = cc in ap (λ x. Ok (Some x)) f
found_root (Ok None) e = let z : ◌≡◌ {A = ℕ} 0 1 = cc in absurd (omega arith)
found_root (Err r) e = let z : ◌≡◌ {A = ℕ} 0 1 = cc in absurd (omega arith)

-- a root is one in the field
pub quadratic_in_field : (d : ℕ) (ok : Accepted d) {a y : ℕ} → a < 2 ^ d → equation.Root d a y
    → (field d ok).ring.add ((field d ok).ring.mul (at d ok y) (at d ok y)) (at d ok y) ≡ at d ok a
unfolding equation.quadratic square
quadratic_in_field d ok {a} {y} ha r =
    element_path d
    (rw (add_number d ok, mul_number d ok, element_small d ok y r.below, element_small d ok a ha) r.solves)

refused_of : (k : ℕ) (o : Option ℕ) → (k ≡ 0 → ⊥) → refused k ≡ solved k o
unfolding solved
refused_of zero o h = absurd (h refl)
refused_of (suc k) o h = refl

pub quadratic_refused : (d a : ℕ) (r : Refusal) → number r ≡ element_refusal d (a ∷ []) → refused (number r) ≡ quadratic_reply d a
unfolding quadratic_reply
quadratic_refused d a r e = refused_of (number r) (even_root d a) (number_positive r) ∙ ap (λ (n : ℕ). solved n (even_root d a)) e

-- for an element of an accepted degree the answer is what the search finds, by trace and half-trace
module _ (d a : ℕ) (ok : Accepted d) (ha : a < 2 ^ d) where
  quadratic_solved : quadratic_reply d a ≡ solved 0 (even_root d a)
  unfolding quadratic_reply
  quadratic_solved = ap (λ (n : ℕ). solved n (even_root d a)) (none_one d a ok ha)

  pub quadratic_none : even_root d a ≡ none → quadratic_reply d a ≡ no_root
  unfolding solved
  quadratic_none e = quadratic_solved ∙ ap (solved 0) e

  pub quadratic_some : {y : ℕ} → even_root d a ≡ some y → quadratic_reply d a ≡ found y
  unfolding solved
  quadratic_some e = quadratic_solved ∙ ap (solved 0) e

  pub no_root_by_trace : {t : ℕ} → t ≡ trace d a → (t ≡ 0 → ⊥) → no_root ≡ quadratic_reply d a
  no_root_by_trace {t} e h = sym (quadratic_none (none_by_trace d ok a (λ z. h (e ∙ z))))

  pub root_by_trace : {t h : ℕ} → t ≡ trace d a → t ≡ 0 → h ≡ half_trace d a → found (h ⊕ h % 2) ≡ quadratic_reply d a
  root_by_trace {t} {h} e z f =
      ap (λ (x : ℕ). found (x ⊕ x % 2)) f ∙ sym (quadratic_some (even_root_by_trace d ok a ha (sym e ∙ z)))

-- each case of the answer says what is true
pub quadratic_means : (d a : ℕ) → QuadraticMeans d a (quadratic_reply d a)
unfolding quadratic_reply solved
quadratic_means d a = by (element_refusal d (a ∷ [])) refl (even_root d a) refl
  where
    accepted : element_refusal d (a ∷ []) ≡ 0 → Accepted d
    accepted e = (none_refused d a (sym e)).0

    by : (k : ℕ) → element_refusal d (a ∷ []) ≡ k → (o : Option ℕ) → even_root d a ≡ o → QuadraticMeans d a (solved k o)
    by zero e (some y) f = (e, even_root_found d (accepted e) f)
    by zero e none f = (e, (even_root_none d (accepted e) a).0 f)
    by (suc k) e o f = (sym e, λ z. omega arith)
