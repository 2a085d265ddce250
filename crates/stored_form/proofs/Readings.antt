-- Readings that follow each other: what a check that passed and a value that was found imply.
-- `checked_found`, `refuse_found`, `test_passed`: a check that passed.
-- `check_stops`, `check_passes`: the reading after a check of the code, where it refuses and where it does not.
-- `stops`, `reads_on`: the reading of the code where the first of two refuses, and where it finds a value.
-- `then_found`, `then_refused`, `both_found`: the first of two readings, and both if both found a value.
-- `then_same`, `then_where`: readings that agree after the first one, for all values or for what it finds.
-- `then_assoc`: readings group either way.
-- `found_refusal`, `same_refusal`: when two readings have the same refusal.
use Prim.Native.Nat.{ℕ, zero, suc, ◌<◌}
use mathlib.Core.Path.{◌≡◌, refl, sym, ap, ◌∙◌}
use mathlib.Core.Bool.{Bool, true, false}
use native.Mathlib.Omega.{arith}
use Rattle.refusals.specs.{Refusals.number, declared.Refusal.Refusal}
use Rattle.binary_field.proofs.Refusing.{number_positive}
use Rattle.jacobian.specs.Checks.{unless}
use Rattle.stored_form.specs.Reading.{Reading, found, refused, refuse, checked, ◌then◌, reading_refusal}

pub test_passed : (b : Bool) {n : ℕ} → 0 < n → unless b n ≡ 0 → b ≡ true
unfolding unless
test_passed true some e = refl
test_passed false some e = absurd (omega arith)

module _ {A : Type 0} where
  pub found_not_refused : {k next : ℕ} {a : A} → ◌≡◌ {A = Reading A} (refused k) (found a next) → ⊥
  found_not_refused h = let z : ◌≡◌ {A = ℕ} 0 1 = cc in omega arith

  pub checked_some : (n : ℕ) (r : Reading A) → (n ≡ 0 → ⊥) → checked n r ≡ refused n
  unfolding checked
  checked_some zero r h = absurd (h refl)
  checked_some (suc n) r h = refl

  pub checked_none : (n : ℕ) (r : Reading A) → n ≡ 0 → checked n r ≡ r
  unfolding checked
  checked_none n r e = rw e

  -- the number of a refusal is not 0
  pub check_stops : (r : Refusal) {n : ℕ} (x : Reading A) → number r ≡ n → refused (number r) ≡ checked n x
  check_stops r x e = ap refused e ∙ sym (checked_some _ x (λ z. number_positive r (e ∙ z)))

  pub check_passes : {n : ℕ} {x y : Reading A} → 0 ≡ n → y ≡ x → y ≡ checked n x
  check_passes e f = f ∙ sym (checked_none _ _ (sym e))

  pub checked_found : (n : ℕ) (r : Reading A) {a : A} {next : ℕ} → checked n r ≡ found a next → (n ≡ 0) × (r ≡ found a next)
  unfolding checked
  checked_found zero r h = (refl, h)
  checked_found (suc n) r h = absurd (found_not_refused h)

  pub same_found : {a b : A} {m n : ℕ} → found a m ≡ found b n → (a ≡ b) × (m ≡ n)
  same_found h = (cc, cc)

  pub refuse_found : (k : ℕ) (b : Bool) (r : Reading A) {a : A} {next : ℕ} → refuse k b r ≡ found a next → (b ≡ false) × (r ≡ found a next)
  refuse_found k true r h = absurd (found_not_refused h)
  refuse_found k false r h = (refl, h)

module _ {A B : Type 0} (f : A → ℕ → Reading B) where
  pub then_found : {x : Reading A} {a : A} {next : ℕ} → x ≡ found a next → (x then f) ≡ f a next
  unfolding ◌then◌
  then_found e = rw e

  pub then_refused : {x : Reading A} {k : ℕ} → x ≡ refused k → (x then f) ≡ refused k
  unfolding ◌then◌
  then_refused e = rw e

  pub both_found : (x : Reading A) {b : B} {next : ℕ} → (x then f) ≡ found b next → (a : A) × (n : ℕ) × (x ≡ found a n) × (f a n ≡ found b next)
  unfolding ◌then◌
  both_found (found a n) h = (a, n, refl, h)
  both_found (refused k) h = absurd (found_not_refused h)

  pub then_same : (x : Reading A) {g : A → ℕ → Reading B} → ((a : A) (n : ℕ) → f a n ≡ g a n) → (x then f) ≡ (x then g)
  unfolding ◌then◌
  then_same (found a n) e = e a n
  then_same (refused k) e = refl

  -- for code that stops where the first reading is refused, and reads on from what it finds
  pub stops : {x : Reading A} {k : ℕ} → refused k ≡ x → refused k ≡ (x then f)
  stops e = sym (then_refused (sym e))

  pub reads_on : {x : Reading A} {y : Reading B} {a : A} {next : ℕ} → found a next ≡ x → y ≡ f a next → y ≡ (x then f)
  reads_on e g = g ∙ sym (then_found (sym e))

-- the same after a reading for what it finds alone
pub then_where : {A B : Type 0} (f : A → ℕ → Reading B) (x : Reading A) {g : A → ℕ → Reading B} → ((a : A) (n : ℕ) → x ≡ found a n → f a n ≡ g a n) → (x then f) ≡ (x then g)
unfolding ◌then◌
then_where f (found a n) h = h a n refl
then_where f (refused k) h = refl

pub then_assoc : {A B C : Type 0} (x : Reading A) (f : A → ℕ → Reading B) (g : B → ℕ → Reading C) →
    (x then f then g) ≡ (x then λ a n. f a n then g)
unfolding ◌then◌
then_assoc (found a n) f g = refl
then_assoc (refused k) f g = refl

pub refused_number : {A : Type 0} {x : Reading A} {n k : ℕ} → x ≡ refused n → k ≡ reading_refusal x → x ≡ refused k
refused_number e q = e ∙ sym (ap refused (q ∙ ap reading_refusal e))

-- a value made from what a reading found changes no refusal
pub found_refusal : {A B : Type 0} (x : Reading A) (f : A → B) → reading_refusal (x then λ a n. found (f a) n) ≡ reading_refusal x
unfolding ◌then◌
found_refusal (found a n) f = refl
found_refusal (refused n) f = refl

-- after the same reading, two readings with the same refusals have the same refusal
pub same_refusal : {A B C : Type 0} (x : Reading A) (f : A → ℕ → Reading B) (g : A → ℕ → Reading C) →
    ((a : A) (n : ℕ) → reading_refusal (f a n) ≡ reading_refusal (g a n)) → reading_refusal (x then f) ≡ reading_refusal (x then g)
unfolding ◌then◌
same_refusal (found a n) f g h = h a n
same_refusal (refused n) f g h = refl
