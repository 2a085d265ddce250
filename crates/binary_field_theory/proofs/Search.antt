-- The result of a search in order.
-- `first_zero`: a search among no candidates finds none.
-- `none_before`, `all_none`, `none_yet`: it finds none exactly if no candidate has a value.
-- `found_first`: if no candidate before i has a value and i has one, it finds that of i.
-- `first_found`: a value that is found is that of a candidate before which none has a value.
use Prim.Native.Nat.{ℕ, zero, suc, ◌<◌}
use mathlib.Core.{Path.◌≡◌, Path.refl, Path.sym, Path.ap, Path.◌∙◌, Option.Option, Option.none, Option.some, Option.some-ne-none}
use native.Mathlib.{Decide.dec_lt, Omega.arith}
use Rattle.binary_field_theory.specs.Search.{earlier, first}

module _ {A : Type 0} where
  earlier_none : (o p : Option A) → earlier o p ≡ none → (o ≡ none) × (p ≡ none)
  unfolding earlier
  earlier_none none p e = (refl, e)
  earlier_none (some a) p e = absurd (some-ne-none a e)

  none_earlier : {o : Option A} (p : Option A) → o ≡ none → earlier o p ≡ p
  unfolding earlier
  none_earlier p e = ap (λ o. earlier o p) e

  some_earlier : {o : Option A} (p : Option A) {a : A} → o ≡ some a → earlier o p ≡ some a
  unfolding earlier
  some_earlier p e = ap (λ o. earlier o p) e

  module _ (g : ℕ → Option A) where
    pub first_zero : first g 0 ≡ none
    unfolding first
    first_zero = refl

    pub none_before : (n : ℕ) → first g n ≡ none → (i : ℕ) → i < n → g i ≡ none
    unfolding first
    none_before zero e i h = absurd (omega arith)
    none_before (suc n) e i h = at (earlier_none (first g n) (g n) e) (none_before n) (dec_lt i n)
      where
        at : (first g n ≡ none) × (g n ≡ none) → (first g n ≡ none → (j : ℕ) → j < n → g j ≡ none) → Dec (i < n) → g i ≡ none
        at p before (yes l) = before p.0 i l
        at p before (no l) = let k : n ≡ i = omega arith in (rw k at p.1)

    pub none_yet : (n : ℕ) → first g n ≡ none → g n ≡ none → first g (suc n) ≡ none
    unfolding first
    none_yet n e f = none_earlier (g n) e ∙ f

    pub all_none : (n : ℕ) → ((i : ℕ) → i < n → g i ≡ none) → first g n ≡ none
    unfolding first
    all_none zero h = refl
    all_none (suc n) h = none_yet n (all_none n (λ i l. h i (omega arith))) (h n (omega arith))

    pub found_first : (i n : ℕ) {a : A} → i < n → first g i ≡ none → g i ≡ some a → first g n ≡ some a
    unfolding first
    found_first i zero h e f = absurd (omega arith)
    found_first i (suc n) {a} h e f = at (λ l. found_first i n l e f) (dec_lt i n)
      where
        at : (i < n → first g n ≡ some a) → Dec (i < n) → earlier (first g n) (g n) ≡ some a
        at found (yes l) = some_earlier (g n) (found l)
        at found (no l) = let k : i ≡ n = omega arith in none_earlier (g n) (rw k at e) ∙ (rw k at f)

    pub first_found : (n : ℕ) {a : A} → first g n ≡ some a → (i : ℕ) × (i < n) × (g i ≡ some a) × (first g i ≡ none)
    unfolding first earlier
    first_found zero e = absurd (some-ne-none _ (sym e))
    first_found (suc n) {a} e = at (λ t. first_found n t) (first g n) refl e
      where
        Found : ℕ → Type 0
        Found m = (i : ℕ) × (i < m) × (g i ≡ some a) × (first g i ≡ none)

        at : (first g n ≡ some a → Found n) → (o : Option A) → first g n ≡ o → earlier o (g n) ≡ some a → Found (suc n)
        at found none f t = (n, omega arith, t, f)
        at found (some b) f t = let p = found (f ∙ t) in (p.0, omega (arith, p.1), p.2, p.3)
