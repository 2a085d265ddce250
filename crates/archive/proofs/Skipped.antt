-- Fields that are passed over.
-- `next_within`: the offset after a field that the bytes hold. `next_capped`: that offset as the code computes it.
-- `skip_all`: fields passed over one after the other.
-- `fields_more`: the offset after fields that follow others.
-- `skip_inside`: within the bytes the offset is that of `fields_end`.
use Prim.Native.Nat.{ℕ, zero, suc, ◌+◌, ◌≤◌, min}
use mathlib.Core.Path.{◌≡◌, refl, sym, ap, ◌∙◌}
use mathlib.Core.List.{List}
use native.Mathlib.Nat.{zero-add, suc-add}
use native.Mathlib.Omega.{arith}
use lib.ListN.{length}
use native.Mathlib.Decide.{dec_le}
use Rattle.std.specs.List.{fold, range_with_len}
use Rattle.stored_form.specs.{Head.body_length, Head.length_at, Cuts.fields_end}
use Rattle.stored_form.proofs.Heads.{length_inside}
use Rattle.archive.specs.Skipping.{next_field, skip_fields}

module _ (s : List ℕ) where
  pub next_within : (at : ℕ) {n : ℕ} → n ≡ body_length s at → at + 3 + n ≤ length s → at + 3 + n ≡ next_field s at
  unfolding next_field
  next_within at e h = omega arith

  -- the offset as the code computes it, where no sum is above a limit
  pub next_capped : (at limit : ℕ) {end : ℕ} → end ≡ min (length s) (min (min (at + 3) limit + length_at s at) limit) → length s ≤ limit → end ≡ next_field s at
  unfolding next_field
  next_capped at limit e h = e ∙ go (dec_le (at + 3) (length s))
    where
      go : Dec (at + 3 ≤ length s) → min (length s) (min (min (at + 3) limit + length_at s at) limit) ≡ min (length s) (at + 3 + body_length s at)
      go (yes le) = omega (arith, length_inside s at le)
      go (no gt) = omega (arith, gt)

  -- fields passed over one after the other
  pub skip_all : (a k at : ℕ) → fold (λ (next i : ℕ). next_field s next) at (range_with_len a k) ≡ skip_fields k s at
  unfolding skip_fields
  skip_all a zero at = refl
  skip_all a (suc k) at = skip_all (a + 1) k (next_field s at)

  -- fields end after they begin
  pub fields_onward : (k at : ℕ) → at ≤ fields_end k s at
  unfolding fields_end
  fields_onward zero at = omega arith
  fields_onward (suc k) at = omega (arith, fields_onward k (at + 3 + body_length s at))

  -- fields after others
  pub fields_more : (j k at : ℕ) → fields_end (j + k) s at ≡ fields_end k s (fields_end j s at)
  unfolding fields_end
  fields_more zero k at = ap (λ (i : ℕ). fields_end i s at) (zero-add k)
  fields_more (suc j) k at = ap (λ (i : ℕ). fields_end i s at) (suc-add j k) ∙ fields_more j k (at + 3 + body_length s at)

  pub skip_inside : (k at : ℕ) → fields_end k s at ≤ length s → skip_fields k s at ≡ fields_end k s at
  unfolding skip_fields fields_end
  skip_inside zero at h = refl
  skip_inside (suc k) at h =
      let next = at + 3 + body_length s at in
      ap (skip_fields k s) (sym (next_within at refl (omega (arith, fields_onward k next)))) ∙ skip_inside k next h
