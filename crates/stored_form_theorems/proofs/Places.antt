-- Bytes at an offset: parts of a list, fields in order, and the end of the input.
-- `behind`: bytes that follow others stand together with them. `apart`: such bytes stand one after the other.
-- `whole`, `is_whole`: all of the input as one field.
-- `end_found`, `end_read_back`: the end is found exactly if no byte remains.
use Prim.Native.Nat.{ℕ, suc, ◌+◌, ◌-◌, ◌≤◌, ◌<◌}
use mathlib.Core.Path.{◌≡◌, refl, sym, ap, ap₂, ◌∙◌}
use mathlib.Core.Bool.{Bool, true, false, cond}
use mathlib.Core.List.{List, ◌∷◌, ◌++◌}
use native.Mathlib.Nat.{zero-add}
use native.Mathlib.Omega.{arith}
use lib.Dec.{ltb}
use lib.ListN.{length, get_or, take, drop, length-append, length-take, length-drop}
use lib.Seq.{take-take, take-length, take_all, take-append_seam, drop-append_seam, drop-drop, take-add, drop-cons, get_or-take, get_or-drop}
use borrow.Author.Tests.{ltb-false, le-ltb}
use Rattle.stored_form.specs.{Number.part, Reading.Reading, Reading.found, Head.BytesAt, Fields.end_refusal, Fields.ended}
use Rattle.std.proofs.lemmas.Slice.{between_is}
use Rattle.stored_form.proofs.{Readings.checked_found, Readings.checked_none, Readings.same_found}
use Rattle.stored_form_theorems.specs.Fields.{Field}

-- a part of a part
pub part_part : (s : List ℕ) (at k i j : ℕ) → i + j ≤ k → part (part s at k) i j ≡ part s (at + i) j
part_part s at k i j h = rw (← between_is (drop at s) i k, take-take j (k - i) (drop i (drop at s)) (omega arith), drop-drop)

-- a part cut in two
pub part_add : (s : List ℕ) (at i j : ℕ) → part s at (i + j) ≡ part s at i ++ part s (at + i) j
part_add s at i j = rw (take-add, drop-drop)

pub part_cons : (s : List ℕ) (at k : ℕ) → at < length s → part s at (suc k) ≡ get_or s at 0 ∷ part s (at + 1) k
part_cons s at k h = let e : suc at ≡ at + 1 = omega arith in rw (drop-cons s at 0, e)

pub get_d_part : (s : List ℕ) (at k i : ℕ) → i < k → get_or (part s at k) i 0 ≡ get_or s (at + i) 0
get_d_part s at k i h = rw (get_or-take, get_or-drop)

-- bytes that stand at an offset end within the list
pub stands_within : (s : List ℕ) (at : ℕ) (x : ℕ) (xs : List ℕ) → BytesAt s at (x ∷ xs) → at + length (x ∷ xs) ≤ length s
stands_within s at x xs h =
    let e : length (part s at (length (x ∷ xs))) ≡ length (x ∷ xs) = ap length h in
    let f = simp (length-take, length-drop) at e in
    omega arith

-- ---- fields in order, and the end

module _ {s : List ℕ} {at : ℕ} where
  pub behind : (xs ys : List ℕ) {middle next : ℕ} → Field s at xs middle → Field s middle ys next → Field s at (xs ++ ys) next
  behind xs ys {middle} {next} h k =
      let long : length (xs ++ ys) ≡ length xs + length ys = length-append xs ys in
      record {
        stands =
            ap (part s at) long
            ∙ part_add s at (length xs) (length ys)
            ∙ ap₂ (λ (a b : List ℕ). a ++ b) h.stands (ap (λ (i : ℕ). part s i (length ys)) (sym h.ends) ∙ k.stands);
        ends = omega (arith, h.ends, k.ends);
      }

  pub apart : (xs ys : List ℕ) {next : ℕ} → Field s at (xs ++ ys) next → (middle : ℕ) × Field s at xs middle × Field s middle ys next
  apart xs ys {next} h =
      let long : length (xs ++ ys) ≡ length xs + length ys = length-append xs ys in (
        at + length xs,
        record {
          stands = sym (take-take (length xs) (length (xs ++ ys)) (drop at s) (omega arith)) ∙ ap (take (length xs)) h.stands ∙ take-append_seam xs ys;
          ends = refl;
        },
        record {
          stands =
              sym (part_part s at (length (xs ++ ys)) (length xs) (length ys) (omega arith))
              ∙ ap (λ (l : List ℕ). part l (length xs) (length ys)) h.stands
              ∙ ap (take (length ys)) (drop-append_seam xs ys)
              ∙ take-length ys;
          ends = omega (arith, h.ends);
        },
      )

  -- what is read at a field's offset ends where the field ends
  pub up_to : {A : Type 0} {x : Reading A} {a : A} {bytes : List ℕ} {next : ℕ} → Field s at bytes next → (BytesAt s at bytes → x ≡ found a (at + length bytes)) →
      x ≡ found a next
  up_to {a = a} h read = read h.stands ∙ ap (found a) (sym h.ends)

module _ (s : List ℕ) where
  pub whole : Field s 0 s (length s)
  whole = record { stands = take-length s; ends = sym (zero-add (length s)) }

  -- a field from the first byte on, after which no byte remains, is all of the input
  pub is_whole : {bytes : List ℕ} {end : ℕ} → Field s 0 bytes end → length s ≤ end → (s ≡ bytes) × (end ≡ length s)
  is_whole {bytes} {end} h le =
      let e : s ≡ bytes = sym (take_all (length bytes) s (omega (arith, h.ends))) ∙ h.stands in
      (e, h.ends ∙ zero-add (length bytes) ∙ ap length (sym e))

  module _ {A : Type 0} (a : A) (at : ℕ) where
    -- the end was found, so no byte remains
    pub end_found : {b : A} {end : ℕ} → ended s a at ≡ found b end → (a ≡ b) × (at ≡ end) × (length s ≤ at)
    unfolding ended end_refusal
    end_found e =
        let c = checked_found (end_refusal s at) (found a at) e in
        let same = same_found c.1 in
        (same.0, same.1, go (ltb at (length s)) refl c.0)
      where
        go : (b : Bool) → ltb at (length s) ≡ b → ◌≡◌ {A = ℕ} (cond b 112 0) 0 → length s ≤ at
        go true e f = absurd (omega arith)
        go false e f = ltb-false _ _ e

    pub end_read_back : length s ≤ at → ended s a at ≡ found a at
    unfolding ended end_refusal
    end_read_back h = checked_none (end_refusal s at) (found a at) (simp (le-ltb at (length s) h))
