-- The head of a field: the result of each check if the ones before it pass, and what holds of a head that was found.
-- `head_102` to `head_105`: the head is refused with this number.
-- `head_whole`: the head is found.
-- `head_found`: what holds of a head that was found (`Whole`).
-- `length_inside`, `length_outside`: the length that the head gives where it is whole, and where it is cut.
-- `head_by_length`: the head is the same where only the length that was read is known to be allowed or not.
use Prim.Native.Nat.{ℕ, ◌+◌, ◌≤◌, ◌<◌}
use mathlib.Core.Path.{◌≡◌, refl, sym, ap}
use mathlib.Core.Bool.{Bool, true, false, not, cond}
use mathlib.Core.List.{List}
use lib.Dec.{eqb, ltb}
use lib.ListN.{length, get_or}
use borrow.Author.Tests.{lt-ltb, le-ltb, eq-eqb, ne_eqb, ltb-false, eqb-true, not-false}
use Rattle.stored_form.specs.{Reading.Reading, Reading.found, Reading.refused, Reading.refuse}
use Rattle.stored_form.specs.{Head.body_length, Head.length_at, Reader.read_head_by}
use Rattle.stored_form.proofs.Readings.{refuse_found, same_found}

module _ (tag : ℕ) (allows : ℕ → Bool) (s : List ℕ) (at : ℕ) where
  pub head_102 : length s < at + 3 → read_head_by tag allows s at ≡ refused 102
  unfolding read_head_by
  head_102 short = rw (lt-ltb (length s) (at + 3) short)

  pub head_103 : at + 3 ≤ length s → (get_or s at 0 ≡ tag → ⊥) → read_head_by tag allows s at ≡ refused 103
  unfolding read_head_by
  head_103 fits other = rw (le-ltb (length s) (at + 3) fits, ne_eqb (get_or s at 0) tag other)

  -- the checks of the length n that the head gives
  module _ {n : ℕ} (read : n ≡ body_length s at) (fits : at + 3 ≤ length s) (due : get_or s at 0 ≡ tag) where
    pub head_104 : allows n ≡ false → read_head_by tag allows s at ≡ refused 104
    unfolding read_head_by
    head_104 a = rw (le-ltb (length s) (at + 3) fits, eq-eqb (get_or s at 0) tag due, ← read, a)

    pub head_105 : allows n ≡ true → length s < at + 3 + n → read_head_by tag allows s at ≡ refused 105
    unfolding read_head_by
    head_105 a b = rw (le-ltb (length s) (at + 3) fits, eq-eqb (get_or s at 0) tag due, ← read, a, lt-ltb (length s) (at + 3 + n) b)

    pub head_whole : allows n ≡ true → at + 3 + n ≤ length s → read_head_by tag allows s at ≡ found n (at + 3 + n)
    unfolding read_head_by
    head_whole a b = rw (le-ltb (length s) (at + 3) fits, eq-eqb (get_or s at 0) tag due, ← read, a, le-ltb (length s) (at + 3 + n) b)

pub length_inside : (s : List ℕ) (at : ℕ) → at + 3 ≤ length s → length_at s at ≡ body_length s at
unfolding length_at
length_inside s at h = rw (le-ltb (length s) (at + 3) h)

pub length_outside : (s : List ℕ) (at : ℕ) → length s < at + 3 → length_at s at ≡ 0
unfolding length_at
length_outside s at h = rw (lt-ltb (length s) (at + 3) h)

-- whether the length that the head gives is allowed need be known only if the head is whole
pub head_by_length : (tag : ℕ) (allows : ℕ → Bool) (s : List ℕ) (at : ℕ) {allowed : Bool} → allowed ≡ allows (length_at s at) →
    read_head_by tag (λ n. allowed) s at ≡ read_head_by tag allows s at
unfolding read_head_by length_at
head_by_length tag allows s at {allowed} e = go (ltb (length s) (at + 3)) e
  where
    rest : Bool → Reading ℕ
    rest b =
        let k = body_length s at in
        refuse 103 (not (eqb (get_or s at 0) tag)) (refuse 104 (not b) (refuse 105 (ltb (length s) (at + 3 + k)) (found k (at + 3 + k))))

    go : (b : Bool) → allowed ≡ allows (cond b 0 (body_length s at)) → refuse 102 b (rest allowed) ≡ refuse 102 b (rest (allows (body_length s at)))
    go true e = refl
    go false e = ap rest e

-- what holds of a head that was found
pub record Whole (tag : ℕ) (allowed : ℕ → Bool) (s : List ℕ) (at n next : ℕ) : Type 0 where
  pub due : get_or s at 0 ≡ tag
  pub said : n ≡ body_length s at
  pub allows : allowed n ≡ true
  pub ends : next ≡ at + 3 + n
  pub fits : next ≤ length s

pub head_found : (tag : ℕ) (allows : ℕ → Bool) (s : List ℕ) (at : ℕ) {n next : ℕ} → read_head_by tag allows s at ≡ found n next → Whole tag allows s at n next
unfolding read_head_by
head_found tag allows s at {n} {next} e₀ =
    let len = body_length s at in
    let whole : Reading ℕ = found len (at + 3 + len) in
    let r₄ : Reading ℕ = refuse 105 (ltb (length s) (at + 3 + len)) whole in
    let r₃ : Reading ℕ = refuse 104 (not (allows len)) r₄ in
    let r₂ : Reading ℕ = refuse 103 (not (eqb (get_or s at 0) tag)) r₃ in
    let p₁ = refuse_found 102 (ltb (length s) (at + 3)) r₂ e₀ in
    let p₂ = refuse_found 103 (not (eqb (get_or s at 0) tag)) r₃ p₁.1 in
    let p₃ = refuse_found 104 (not (allows len)) r₄ p₂.1 in
    let p₄ = refuse_found 105 (ltb (length s) (at + 3 + len)) whole p₃.1 in
    let e = same_found p₄.1 in
    record {
      due = eqb-true _ _ (not-false _ p₂.0);
      said = sym e.0;
      allows = rw (← e.0) (not-false _ p₃.0);
      ends = rw (← e.0) (sym e.1);
      fits = rw (← e.1) (ltb-false _ _ p₄.0);
    }
