-- A step looks only at the bytes of its own field, so the input can be read one part at a time.
-- The part is m bytes from the offset k on; offsets of the part are shifted by k.
-- `read_next_through`: a step in a part with room for the longest field answers what it answers in the whole input.
-- `read_next_last`: so does a step in a part that is all that is left of the input.
use Prim.Native.Nat.{ℕ, suc, ◌+◌, ◌-◌, ◌≤◌, ◌<◌}
use mathlib.Core.Path.{◌≡◌, refl, sym, ap, ◌∙◌}
use mathlib.Core.Bool.{Bool, true, false, cond, not}
use mathlib.Core.List.{List, []}
use native.Mathlib.Omega.{arith}
use lib.Dec.{eqb, leb, ltb}
use lib.ListN.{length, get_or, take, drop, length-take, length-drop}
use lib.Seq.{take-take, take_all, drop-drop, get_or-take, get_or-drop}
use Rattle.stored_form.specs.{Number.part, Reading.Reading, Reading.found, Reading.refuse, Reading.checked, Head.body_length, Fields.end_refusal, Fields.ended, Tags.rules, Tags.longest_body}
use Rattle.stored_form.specs.{Reader.read_head_by, Reader.read_head, Reader.read_body, Reader.read_field, Reader.header_layout, declared.Record.Record}
use Rattle.stored_form.specs.Pairs.{pairs_length, pairs_refusal, decode_pairs, read_pairs_field, read_pairs}
use Rattle.std.proofs.lemmas.Slice.{between_is}
use Rattle.stored_form.proofs.{Readings.then_where, Heads.head_found, Lengths.allows_short}
use Rattle.stored_form_theorems.proofs.Pairs.{pairs_length_decides}
use Rattle.archive.specs.declared.{Expected.Expected, Reader.Reader}
use Rattle.archive.specs.declared.Expected.TheVariants.{Header, Operations, Pairs, End, Nothing}
use Rattle.archive.specs.Reader.{reader, read_header_field, read_operation, read_pairs_expected, read_end, read_expected, read_next}
use Rattle.archive_theorems.specs.Places.{shift}
use Rattle.archive_theorems.proofs.Shifted.{checked_shift, then_shift, same_test}

-- ---- offsets shifted by k

module _ (k : ℕ) (s : List ℕ) where
  part_there : (i n : ℕ) {j : ℕ} → j ≡ k + i → part s j n ≡ part (drop k s) i n
  part_there i n e = rw e (rw drop-drop)

  ends_there : (i : ℕ) {j : ℕ} → j ≡ k + i → 0 < i → ltb (length s) j ≡ ltb (length (drop k s)) i
  ends_there i {j} e some = same_test (suc (length s)) j (suc (length (drop k s))) i (λ h. omega (arith, length-drop k s)) (λ h. omega (arith, length-drop k s))

  four_checks : (a b c d : Bool) (n i : ℕ) {j : ℕ} → j ≡ k + i →
      refuse 102 a (refuse 103 b (refuse 104 c (refuse 105 d (found n j)))) ≡ shift k (refuse 102 a (refuse 103 b (refuse 104 c (refuse 105 d (found n i)))))
  unfolding shift
  four_checks true b c d n i e = refl
  four_checks false true c d n i e = refl
  four_checks false false true d n i e = refl
  four_checks false false false true n i e = refl
  four_checks false false false false n i e = ap (found n) e

  module _ (at : ℕ) where
    read_head_shift : (tag : ℕ) (allows : ℕ → Bool) → read_head_by tag allows s (k + at) ≡ shift k (read_head_by tag allows (drop k s) at)
    unfolding read_head_by body_length
    read_head_shift tag allows =
        let said = part_there (at + 1) 2 {j = k + at + 1} (omega arith) in
        let n = body_length (drop k s) at in
        let whole = ends_there (at + 3 + n) {j = k + at + 3 + n} (omega arith) (omega arith) in
        rw (ends_there (at + 3) {j = k + at + 3} (omega arith) (omega arith), sym (get_or-drop k s at 0), said, whole)
        (four_checks (ltb (length (drop k s)) (at + 3)) (not (eqb (get_or (drop k s) at 0) tag)) (not (allows n)) (ltb (length (drop k s)) (at + 3 + n)) n (at + 3 + n) (omega arith))

    read_body_shift : (tag : ℕ) (h : Record) → read_body tag h s (k + at) ≡ shift k (read_body tag h (drop k s) at)
    unfolding read_body shift
    read_body_shift tag h =
        then_shift k (read_head tag h (drop k s) at) _ _ (read_head_shift tag ((rules tag).allows h))
        (λ n next. ap (λ (l : List ℕ). found l (k + next)) (part_there (at + 3) n {j = k + at + 3} (omega arith)))

    field_shift : (tag : ℕ) (h : Record) → read_field tag h s (k + at) ≡ shift k (read_field tag h (drop k s) at)
    unfolding read_field
    field_shift tag h =
        then_shift k (read_body tag h (drop k s) at) _ _ (read_body_shift tag h)
        (λ body next. checked_shift k ((rules tag).check (length body) ((rules tag).with_field body h)) ((rules tag).with_field body h) next)

    pairs_field_shift : (n : ℕ) → read_pairs_field n s (k + at) ≡ shift k (read_pairs_field n (drop k s) at)
    unfolding read_pairs_field
    pairs_field_shift n =
        then_shift k (read_head_by 0x48 pairs_length (drop k s) at) _ _ (read_head_shift 0x48 pairs_length)
        (λ len next.
        let pairs = decode_pairs (part (drop k s) (at + 3) len) in
        ap (λ (l : List ℕ). checked (pairs_refusal n (decode_pairs l)) (found (decode_pairs l) (k + next))) (part_there (at + 3) len {j = k + at + 3} (omega arith))
        ∙ checked_shift k (pairs_refusal n pairs) pairs next)

    pairs_shift : (n : ℕ) → read_pairs n s (k + at) ≡ shift k (read_pairs n (drop k s) at)
    unfolding read_pairs shift
    pairs_shift n =
        let none : leb (length s) (k + at) ≡ leb (length (drop k s)) at = same_test (length s) (k + at) (length (drop k s)) at (λ h. omega (arith, length-drop k s)) (λ h. omega (arith, length-drop k s)) in
        rw (none, sym (get_or-drop k s at 0), pairs_field_shift n) (go (leb (length (drop k s)) at) (not (eqb (get_or (drop k s) at 0) 0x48)))
      where
        go : (a b : Bool) → cond a (found [] (k + at)) (refuse 112 b (shift k (read_pairs_field n (drop k s) at))) ≡ shift k (cond a (found [] at) (refuse 112 b (read_pairs_field n (drop k s) at)))
        go true b = refl
        go false true = refl
        go false false = refl

    end_shift : {A : Type 0} (a : A) → ended s a (k + at) ≡ shift k (ended (drop k s) a at)
    unfolding ended end_refusal
    end_shift a =
        rw (same_test (suc (k + at)) (length s) (suc at) (length (drop k s)) (λ h. omega (arith, length-drop k s)) (λ h. omega (arith, length-drop k s)))
        (checked_shift k (end_refusal (drop k s) at) a at)

    -- ---- the step

    read_expected_shift : (d : Expected) (h : Record) → read_expected d h s (k + at) ≡ shift k (read_expected d h (drop k s) at)
    unfolding read_header_field read_operation read_pairs_expected read_end shift
    read_expected_shift (Header i) h = then_shift k (read_field (get_or header_layout i 0) h (drop k s) at) _ _ (field_shift (get_or header_layout i 0) h) (λ more next. refl)
    read_expected_shift (Operations n) h = then_shift k (read_field 0x44 h (drop k s) at) _ _ (field_shift 0x44 h) (λ more next. refl)
    read_expected_shift Pairs h = then_shift k (read_pairs h.count (drop k s) at) _ _ (pairs_shift h.count) (λ pairs next. refl)
    read_expected_shift End h = end_shift (reader Nothing h)
    read_expected_shift Nothing h = refl

    read_next_shift : (r : Reader) → read_next r s (k + at) ≡ shift k (read_next r (drop k s) at)
    unfolding read_next
    read_next_shift r = read_expected_shift r.expected r.values

-- ---- a step looks at no more bytes than the longest field has

module _ (m : ℕ) (s : List ℕ) where
  part_within : (i n : ℕ) → i + n ≤ m → part (take m s) i n ≡ part s i n
  part_within i n h = ap (take n) (sym (between_is s i m)) ∙ take-take n (m - i) (drop i s) (omega arith)

  ends_within : (i : ℕ) → i ≤ m → ltb (length (take m s)) i ≡ ltb (length s) i
  ends_within i h = same_test (suc (length (take m s))) i (suc (length s)) i (λ l. omega (arith, length-take m s)) (λ l. omega (arith, length-take m s))

  last_checks : (i n : ℕ) (b : Bool) → (b ≡ true → i + n ≤ m) →
      refuse 104 (not b) (refuse 105 (ltb (length (take m s)) (i + n)) (found n (i + n))) ≡ refuse 104 (not b) (refuse 105 (ltb (length s) (i + n)) (found n (i + n)))
  last_checks i n false h = refl
  last_checks i n true h = rw (ends_within (i + n) (h refl))

  module _ (at : ℕ) (room : at + (3 + longest_body) ≤ m) where
    -- a rule of lengths that allows none above the longest body's
    module _ (tag : ℕ) (allows : ℕ → Bool) (short : (n : ℕ) → allows n ≡ true → n ≤ longest_body) where
      head_within : read_head_by tag allows (take m s) at ≡ read_head_by tag allows s at
      unfolding read_head_by body_length
      head_within =
          let n = body_length s at in
          rw (ends_within (at + 3) (omega arith), get_or-take m s at 0 (omega arith), part_within (at + 1) 2 (omega arith))
          (ap (λ (r : Reading ℕ). refuse 102 (ltb (length s) (at + 3)) (refuse 103 (not (eqb (get_or s at 0) tag)) r))
          (last_checks (at + 3) n (allows n) (λ e. omega (arith, short n e))))

      -- the body of a head that was found
      found_within : {n next : ℕ} → read_head_by tag allows s at ≡ found n next → part (take m s) (at + 3) n ≡ part s (at + 3) n
      found_within {n} e = part_within (at + 3) n (omega (arith, short n (head_found tag allows s at e).allows))

    body_within : (tag : ℕ) (h : Record) → read_body tag h (take m s) at ≡ read_body tag h s at
    unfolding read_body
    body_within tag h =
        rw (head_within tag ((rules tag).allows h) (allows_short h tag))
        (then_where _ (read_head tag h s at) (λ n next e. ap (λ (l : List ℕ). found l next) (found_within tag ((rules tag).allows h) (allows_short h tag) e)))

    field_within : (tag : ℕ) (h : Record) → read_field tag h (take m s) at ≡ read_field tag h s at
    unfolding read_field
    field_within tag h = rw (body_within tag h)

    pairs_length_short : (n : ℕ) → pairs_length n ≡ true → n ≤ longest_body
    pairs_length_short n e = ((pairs_length_decides n).0 e).1.0

    pairs_field_within : (n : ℕ) → read_pairs_field n (take m s) at ≡ read_pairs_field n s at
    unfolding read_pairs_field
    pairs_field_within n =
        rw (head_within 0x48 pairs_length pairs_length_short)
        (then_where _ (read_head_by 0x48 pairs_length s at)
        (λ len next e. ap (λ (l : List ℕ). checked (pairs_refusal n (decode_pairs l)) (found (decode_pairs l) next)) (found_within 0x48 pairs_length pairs_length_short e)))

    pairs_within : (n : ℕ) → read_pairs n (take m s) at ≡ read_pairs n s at
    unfolding read_pairs
    pairs_within n =
        rw (same_test (length (take m s)) at (length s) at (λ h. omega (arith, length-take m s)) (λ h. omega (arith, length-take m s)), get_or-take m s at 0 (omega arith), pairs_field_within n)

    end_within : {A : Type 0} (a : A) → ended (take m s) a at ≡ ended s a at
    unfolding ended end_refusal
    end_within a = rw (same_test (suc at) (length (take m s)) (suc at) (length s) (λ h. omega (arith, length-take m s)) (λ h. omega (arith, length-take m s)))

    expected_within : (d : Expected) (h : Record) → read_expected d h (take m s) at ≡ read_expected d h s at
    unfolding read_header_field read_operation read_pairs_expected read_end
    expected_within (Header i) h = rw (field_within (get_or header_layout i 0) h)
    expected_within (Operations n) h = rw (field_within 0x44 h)
    expected_within Pairs h = rw (pairs_within h.count)
    expected_within End h = end_within (reader Nothing h)
    expected_within Nothing h = refl

    read_next_within : (r : Reader) → read_next r (take m s) at ≡ read_next r s at
    unfolding read_next
    read_next_within r = expected_within r.expected r.values

-- ---- a step in m bytes of the input from the offset k on

module _ (k m : ℕ) (s : List ℕ) (at : ℕ) (r : Reader) where
  -- the part has room for the longest field
  pub read_next_through : at + (3 + longest_body) ≤ m → read_next r s (k + at) ≡ shift k (read_next r (part s k m) at)
  read_next_through room = read_next_shift k s at r ∙ ap (shift k) (sym (read_next_within m (drop k s) at room r))

  -- the part is all that is left of the input
  pub read_next_last : length s ≤ k + m → read_next r s (k + at) ≡ shift k (read_next r (part s k m) at)
  read_next_last h = read_next_shift k s at r ∙ ap (λ (l : List ℕ). shift k (read_next r l at)) (sym (take_all m (drop k s) (omega (arith, length-drop k s))))
