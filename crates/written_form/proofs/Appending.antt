-- A range appended to an output.
-- `append_fits`: a range that fits is stored at its offset, and all other bytes stay.
-- `append_outside`: a range that does not fit changes nothing; the answer is the output's length plus 1.
-- `append_copied`: the copy that the code makes is `append`.
-- `append_write`: a range that fits after bytes that were written: all of them are written.
-- `append_over`: after a range that does not fit, no range fits.
use Prim.Native.Nat.{ℕ, ◌+◌, ◌-◌, ◌≤◌, ◌<◌}
use mathlib.Core.Path.{◌≡◌, refl, sym, ap, ap₂, ◌∙◌}
use mathlib.Core.{Bool.Bool, Bool.true, Bool.false, Bool.cond, Bool.◌&&◌, List.List, List.[], List.◌++◌, List.append-nil, List.append_assoc}
use native.Mathlib.Omega.{arith}
use lib.{Dec.leb, ListN.length, ListN.take, ListN.drop, ListN.drop_of_length-le, ListN.length-append, ListN.length-drop}
use lib.Seq.{take-length, drop-drop, take-append_seam, drop-append_seam}
use borrow.Author.Tests.{le-leb, lt-leb}
use Rattle.stored_form.specs.Number.{part}
use Rattle.stored_form.proofs.Parts.{length_part}
use Rattle.written_form.specs.{Effect.Effect, Effect.effect, Effect.write, Ranges.fits, Ranges.append}

module _ (source start end output at : ℕ) where
  -- it does not fit: it ends before it begins, after the source's end, or after the output's
  pub ends_first : end < start → fits source start end output at ≡ false
  unfolding fits
  ends_first h = rw (lt-leb start end h)

  pub source_short : start ≤ end → source < end → fits source start end output at ≡ false
  unfolding fits
  source_short h k = rw (le-leb start end h, lt-leb end source k)

  pub output_short : start ≤ end → end ≤ source → output < at + (end - start) → fits source start end output at ≡ false
  unfolding fits
  output_short h k l = rw (le-leb start end h, le-leb end source k, lt-leb (at + (end - start)) output l)

  all_fits : start ≤ end → end ≤ source → at + (end - start) ≤ output → fits source start end output at ≡ true
  unfolding fits
  all_fits h k l = rw (le-leb start end h, le-leb end source k, le-leb (at + (end - start)) output l)

module _ (s : List ℕ) (start end : ℕ) (out : List ℕ) (at : ℕ) where
  pub append_outside : fits (length s) start end (length out) at ≡ false → effect (length out + 1) out ≡ append s start end (effect at out)
  unfolding append
  append_outside e = rw e

  pub append_fits : start ≤ end → end ≤ length s → at + (end - start) ≤ length out
      → append s start end (effect at out) ≡ effect (at + (end - start)) (take at out ++ (part s start (end - start) ++ drop (at + (end - start)) out))
  unfolding append
  append_fits h k l = rw (all_fits _ _ _ _ _ h k l)

  -- as the code copies it: from a part of the source to a part of the output of the same length
  pub append_copied : start ≤ end → end ≤ length s → (l : at + (end - start) ≤ length out) → {copied : List ℕ} → let n = end - start in let m = at + n - at in
      copied ≡ take (length (part s start n)) (part s start n) ++ drop (length (part s start n)) (part out at m)
      → effect (at + n) (take at out ++ (copied ++ drop m (drop at out))) ≡ append s start end (effect at out)
  append_copied h k l {copied} e =
      let n = end - start in
      let X = part s start n in
      let same : at + n - at ≡ n = omega arith in
      let long : length X ≡ n = length_part s start n (omega arith) in
      let own : length (part out at n) ≡ n = length_part out at n l in
      let rest : drop (length X) (part out at n) ≡ [] = drop_of_length-le (part out at n) {i = length X} (omega arith) in
      let all : copied ≡ X = e ∙ rw (same, take-length X, rest, append-nil) in
      rw (all, same, drop-drop) (sym (append_fits h k l))

-- ---- ranges one after the other

pub append_write : (s : List ℕ) (start end : ℕ) (xs out : List ℕ) → start ≤ end → end ≤ length s → length xs + (end - start) ≤ length out
    → append s start end (write xs out) ≡ write (xs ++ part s start (end - start)) out
unfolding write
append_write s start end xs out h k l =
    let n = end - start in
    let D = drop (length xs) out in
    let X = part s start n in
    let whole : length (xs ++ D) ≡ length out = length-append xs D ∙ omega (arith, length-drop (length xs) out) in
    let long : length (xs ++ X) ≡ length xs + n = length-append xs X ∙ ap (λ (i : ℕ). length xs + i) (length_part s start n (omega arith)) in
    let rest : drop (length xs + n) (xs ++ D) ≡ drop (length xs + n) out =
    sym (drop-drop n (length xs) (xs ++ D)) ∙ ap (drop n) (drop-append_seam xs D) ∙ drop-drop n (length xs) out in
    append_fits s start end (xs ++ D) (length xs) h k (omega arith)
    ∙ ap₂ (λ (ys zs : List ℕ). effect (length xs + n) (ys ++ (X ++ zs))) (take-append_seam xs D) rest
    ∙ ap₂ (λ (i : ℕ) (ys : List ℕ). effect i ys) (sym long)
    (sym (append_assoc xs X (drop (length xs + n) out)) ∙ ap (λ (i : ℕ). (xs ++ X) ++ drop i out) (sym long))

pub append_over : (s : List ℕ) (start end : ℕ) (out : List ℕ) → append s start end (effect (length out + 1) out) ≡ effect (length out + 1) out
unfolding append fits
append_over s start end out =
    rw (lt-leb (length out + 1 + (end - start)) (length out) (omega arith)) (never (leb start end && leb end (length s)) _ _)
  where
    never : (b : Bool) (x y : Effect) → cond (b && false) x y ≡ y
    never true x y = refl
    never false x y = refl
