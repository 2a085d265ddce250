-- What the answers of the calls on elements show: one that is an element is no refusal (`is_element`), and the check of a
-- degree passes where the degree is accepted (`degree_passes`, `degree_fails`).
use Prim.Native.Nat.{ℕ}
use mathlib.Core.{Path.◌≡◌, Path.refl, Path.sym, Path.◌∙◌, Bool.true, Bool.false, Bool.true≢false}
use Rattle.std.specs.Prelude.{Result, Ok, Err, IsOk, is_ok}
use Rattle.refusals.specs.{Refusals.refusal_of, declared.Refusal.Refusal}
use Rattle.binary_field_theory.specs.Element.{Accepted}
use Rattle.binary_field.specs.Answer.{element, reply, degree_refusal}
use Rattle.binary_field.proofs.{Degrees.accepted_degree, Degrees.degree_accepted, Refusing.number_positive, Replies.no_refusal}

pub is_element : (r : Result ℕ Refusal) {n : ℕ} → reply r ≡ element n → IsOk r
is_element (Ok m) e = refl
is_element (Err k) e = absurd (no_refusal {x = Err k} refl e)

pub degree_passes : (r : Result (Unit {0}) Refusal) (d : ℕ) → refusal_of r ≡ degree_refusal d → is_ok r ≡ true → Accepted d
degree_passes (Ok u) d e h = accepted_degree d (sym e)
degree_passes (Err k) d e h = absurd (true≢false (sym h))

pub degree_fails : (r : Result (Unit {0}) Refusal) (d : ℕ) → refusal_of r ≡ degree_refusal d → is_ok r ≡ false → ¬ Accepted d
degree_fails (Ok u) d e h ok = true≢false h
degree_fails (Err k) d e h ok = number_positive k (e ∙ degree_accepted d ok)
