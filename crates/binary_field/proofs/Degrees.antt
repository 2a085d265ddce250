-- Degrees: 106 for those that are not accepted, and the bound 2^d for the others.
use Prim.Native.Nat.{ℕ, ◌^◌}
use mathlib.Core.{Path.◌≡◌, Path.refl, Path.sym, Path.subst, Bool.Bool, Bool.true, Bool.false, Bool.cond}
use native.Mathlib.Omega.{arith}
use lib.Dec.{T}
use Rattle.refusals.specs.{Refusals.number, declared.Refusal.Refusal}
use Rattle.binary_field_theory.specs.Element.{is_degree, Accepted}
use Rattle.binary_field.specs.Degree.{degree_number}
use Rattle.binary_field.specs.declared.degree.Degree.{Degree}
use Rattle.binary_field.specs.declared.degree.Degree.TheVariants.{Five, SixtyOne}
use Rattle.binary_field.specs.{Checks.unless, Answer.bound, Answer.degree_refusal}
use Rattle.binary_field.proofs.Refusing.{number_positive}

-- a degree of a field is accepted
pub accepted : (g : Degree) → Accepted (degree_number g)
accepted Five = tt
accepted SixtyOne = tt

pub accepted_degree : (d : ℕ) → degree_refusal d ≡ 0 → Accepted d
unfolding degree_refusal unless
accepted_degree d = go (is_degree d)
  where
    go : (b : Bool) → ◌≡◌ {A = ℕ} (cond b 0 106) 0 → T b
    go true e = tt
    go false e = absurd (omega arith)

pub degree_accepted : (d : ℕ) → Accepted d → degree_refusal d ≡ 0
unfolding degree_refusal unless
degree_accepted d = go (is_degree d)
  where
    go : (b : Bool) → T b → ◌≡◌ {A = ℕ} (cond b 0 106) 0
    go true t = refl
    go false t = absurd t

pub bound_accepted : (d : ℕ) → Accepted d → bound d ≡ 2 ^ d
unfolding bound
bound_accepted d = go (is_degree d)
  where
    go : (b : Bool) → T b → cond b (2 ^ d) 0 ≡ 2 ^ d
    go true t = refl
    go false t = absurd t

pub bound_of : (g : Degree) (d : ℕ) → degree_number g ≡ d → 2 ^ degree_number g ≡ bound d
bound_of g d e = rw e (sym (bound_accepted d (subst Accepted e (accepted g))))

pub bound_refused : (r : Refusal) (d : ℕ) → number r ≡ degree_refusal d → 0 ≡ bound d
unfolding bound degree_refusal unless
bound_refused r d = go (is_degree d)
  where
    go : (b : Bool) → number r ≡ cond b 0 106 → ◌≡◌ {A = ℕ} 0 (cond b (2 ^ d) 0)
    go true e = absurd (number_positive r e)
    go false e = refl
