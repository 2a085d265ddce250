-- What follows the operations at the edges of what is allowed, in numbers (docs/SPECIFICATION.md, 6.3 and 9).
-- `as_before`: where no byte is left, or another byte than 0x48, it is read as before the field 0x48 existed.
-- `bytes_as_before`: an archive without pairs has the bytes that it had before.
-- The others are on an archive whose header and operations are read, as many as its count n says.
-- `other_byte_follows`: a byte other than 0x48 is 112, even alone.
-- `pairs_head_cut`: 0x48 with fewer than two bytes after it is 102.
-- `pairs_of_length_0`, `pairs_of_length_2`, `pairs_of_length_8196`: these lengths are 104, whatever follows.
-- `pairs_cut`: a body that is cut short is 105, whatever pairs it begins with.
-- `pairs_broken`: a field whose pairs break a rule is 122.
-- `earlier_of_0`, `earlier_of_later`: a pair whose earlier number is 0, or is its later number, is 122.
-- `later_past_count`, `pair_twice`: a pair whose later number is n + 1, and two equal pairs, are 122.
-- `too_few_operations`: with n below 2 every pair is 122.
-- `byte_after_pairs`: a byte after the field is 112, also where it is a second 0x48.
-- `pairs_of_length_8192`: the length of 2,048 pairs is allowed.
-- `pair_accepted`: with n = 2 the pair (2, 1) is accepted.
use Prim.Native.Nat.{ℕ, ◌+◌, ◌*◌, ◌^◌, ◌≤◌, ◌<◌}
use mathlib.Core.Path.{◌≡◌, refl, sym, ap, ◌∙◌}
use mathlib.Core.Bool.{Bool, true, false}
use mathlib.Core.List.{List, [], ◌∷◌, ◌++◌, append-nil}
use native.Mathlib.Omega.{arith}
use lib.{Dec.leb, Dec.lit≤, Dec.lit<, ListN.length, ListN.get_or}
use borrow.Author.Tests.{lt-ltb, leb-true, leb-false}
use Rattle.lists.specs.Lists.{All, none, more}
use Rattle.lists.proofs.Lists.{all_head}
use Rattle.jacobian.specs.{Checks.unless, declared.Class.Class}
use Rattle.stored_form.specs.{Number.decode_number, Number.encode_number, Number.encode_numbers, Number.part, Reading.found, Reading.refused, Reading.checked, Reading.reading_refusal}
use Rattle.stored_form.specs.{Head.body_length, Head.head_bytes, Head.encode_field, Head.BytesAt, Fields.drawing_field, Fields.count_field, Fields.count_limit, Fields.count_refusal, Fields.end_refusal, Fields.ended}
use Rattle.stored_form.specs.{Classes.curve_fields_bytes, Classes.class_field, Classes.operation_fields, Record.empty_record, Tags.rules, Reader.read_head_by, Reader.read_fields, Reader.read_operations, Reader.header_layout, declared.Record.Record}
use Rattle.stored_form.specs.Pairs.{earlier, later, pairs_length, pairs_after, pairs_refusal, pairs_field, read_pairs}
use Rattle.stored_form.proofs.{Readings.then_found, Readings.then_refused, Readings.test_passed, Heads.head_102, Heads.head_104, Heads.head_105, Passing.Holds, Passing.fields_hold}
use Rattle.stored_form.proofs.PairBytes.{no_pairs, other_byte, field_due, field_cut}
use Rattle.stored_form_theorems.specs.{Checking.after_field, Pairs.PairsLength, Pairs.PairWithin, Pairs.PairsAllowed}
use Rattle.stored_form_theorems.proofs.{Pairs.before_decides, Pairs.pairs_decide, Pairs.pairs_length_decides, Pairs.pairs_at, Places.part_part, Places.get_d_part, Places.stands_within}
use Rattle.archive.specs.Archive.{Archive, read_tail, archive_of, read_archive, archive_refusal}
use Rattle.archive_theorems.specs.Written.{archive_bytes}
use Rattle.archive_theorems.proofs.Tail.{tail_read_back}

-- a byte is left where the end is due
end_refused : {A : Type 0} (s : List ℕ) (a : A) (at : ℕ) → at < length s → ended s a at ≡ refused 112
unfolding ended end_refusal checked
end_refused s a at h = rw (lt-ltb at (length s) h)

-- ---- as before

pub as_before : (n : ℕ) (s : List ℕ) (at : ℕ) → (at < length s → ¬ (get_or s at 0 ≡ 0x48)) → read_tail n s at ≡ ended s [] at
unfolding read_tail
as_before n s at other = go (leb (length s) at) refl
  where
    go : (b : Bool) → leb (length s) at ≡ b → read_tail n s at ≡ ended s [] at
    go true e = then_found _ (no_pairs n s at (leb-true _ _ e))
    go false e =
        let left = leb-false (length s) at e in
        then_refused _ (other_byte n s at left (other left)) ∙ sym (end_refused s [] at left)

pub bytes_as_before : (a : Archive) → a.pairs ≡ [] →
    archive_bytes a
    ≡ curve_fields_bytes a.curve
    ++ drawing_field a.drawing
    ++ count_field (length a.operations)
    ++ class_field 0x43 a.seal
    ++ operation_fields a.operations
unfolding archive_bytes pairs_field
bytes_as_before a e = rw e (append-nil _)

-- ---- the field

-- what the three bytes of a head say
head_says : (s : List ℕ) (at tag high low : ℕ) → BytesAt s at (tag ∷ high ∷ low ∷ []) → (at + 3 ≤ length s) × ((get_or s at 0 ≡ tag) × (body_length s at ≡ high * 256 + low))
unfolding body_length decode_number
head_says s at tag high low stands =
    let e : at + 0 ≡ at = omega arith in
    let said : body_length s at ≡ high * 256 ^ 1 + (low * 256 ^ 0 + 0) = ap decode_number (sym (part_part s at 3 1 2 (lit≤ tt)) ∙ ap (λ (l : List ℕ). part l 1 2) stands) in (
      stands_within s at tag (high ∷ low ∷ []) stands,
      (ap (λ (i : ℕ). get_or s i 0) (sym e) ∙ sym (get_d_part s at 3 0 (lit< tt)) ∙ ap (λ (l : List ℕ). get_or l 0 0) stands, omega (arith, said)),
    )

-- ---- the archive

module _ (s : List ℕ) {h : Record} {first at : ℕ} {ops : List Class} (header : read_fields header_layout empty_record s 0 ≡ found h first) (operations : read_operations h.count h s first ≡ found ops at) where
  -- the refusal of the pairs is the archive's
  pairs_refused : {k : ℕ} → read_pairs h.count s at ≡ refused k → archive_refusal s ≡ k
  unfolding archive_refusal read_archive read_tail
  pairs_refused e = ap reading_refusal (then_found _ header ∙ then_found _ operations ∙ then_refused _ (then_refused _ e))

  -- so is the refusal of their head
  head_refused : {k : ℕ} → at < length s → get_or s at 0 ≡ 0x48 → read_head_by 0x48 pairs_length s at ≡ refused k → archive_refusal s ≡ k
  head_refused left due e = pairs_refused (field_due h.count s at left due ∙ field_cut h.count s at e)

  pub other_byte_follows : at < length s → ¬ (get_or s at 0 ≡ 0x48) → archive_refusal s ≡ 112
  other_byte_follows left other = pairs_refused (other_byte h.count s at left other)

  pub pairs_head_cut : at < length s → get_or s at 0 ≡ 0x48 → length s < at + 3 → archive_refusal s ≡ 102
  pairs_head_cut left due short = head_refused left due (head_102 0x48 pairs_length s at short)

  -- a length that is not that of pairs
  length_refused : (high low : ℕ) → pairs_length (high * 256 + low) ≡ false → BytesAt s at (0x48 ∷ high ∷ low ∷ []) → archive_refusal s ≡ 104
  length_refused high low bad stands =
      let w = head_says s at 0x48 high low stands in
      head_refused (omega (arith, w.0)) w.1.0 (head_104 0x48 pairs_length s at (sym w.1.1) w.0 w.1.0 bad)

  pub pairs_of_length_0 : BytesAt s at (0x48 ∷ 0x00 ∷ 0x00 ∷ []) → archive_refusal s ≡ 104
  unfolding pairs_length
  pairs_of_length_0 = length_refused 0x00 0x00 refl

  pub pairs_of_length_2 : BytesAt s at (0x48 ∷ 0x00 ∷ 0x02 ∷ []) → archive_refusal s ≡ 104
  unfolding pairs_length
  pairs_of_length_2 = length_refused 0x00 0x02 refl

  pub pairs_of_length_8196 : BytesAt s at (0x48 ∷ 0x20 ∷ 0x04 ∷ []) → archive_refusal s ≡ 104
  unfolding pairs_length
  pairs_of_length_8196 = length_refused 0x20 0x04 refl

  pub pairs_cut : at + 3 ≤ length s → get_or s at 0 ≡ 0x48 → PairsLength (body_length s at) → length s < after_field s at → archive_refusal s ≡ 105
  pairs_cut fits due allowed short = head_refused (omega arith) due (head_105 0x48 pairs_length s at refl fits due ((pairs_length_decides _).1 allowed) short)

  pub pairs_broken : (ps : List ℕ) → 0 < length ps → length ps ≤ 2048 → All (λ p. p < 256 ^ 4) ps → ¬ PairsAllowed h.count ps → BytesAt s at (pairs_field ps) → archive_refusal s ≡ 122
  unfolding pairs_refusal unless checked
  pairs_broken ps some few fit broken stands = pairs_refused (pairs_at h.count s at ps some few fit stands ∙ rw (fails (pairs_after h.count 0 ps) refl) refl)
    where
      fails : (b : Bool) → pairs_after h.count 0 ps ≡ b → pairs_after h.count 0 ps ≡ false
      fails true e = absurd (broken ((pairs_decide h.count ps).0 e))
      fails false e = e

  -- one pair that is not within the count
  pair_outside : (p : ℕ) → p < 256 ^ 4 → ¬ PairWithin h.count p → BytesAt s at (pairs_field (p ∷ [])) → archive_refusal s ≡ 122
  pair_outside p fit outside = pairs_broken (p ∷ []) (lit< tt) (lit≤ tt) (more fit none) (λ a. outside (all_head a.within).0)

  pub earlier_of_0 : (p : ℕ) → p < 256 ^ 4 → earlier p ≡ 0 → BytesAt s at (pairs_field (p ∷ [])) → archive_refusal s ≡ 122
  earlier_of_0 p fit e = pair_outside p fit (λ w. omega (arith, w.earlier_some))

  pub earlier_of_later : (p : ℕ) → p < 256 ^ 4 → earlier p ≡ later p → BytesAt s at (pairs_field (p ∷ [])) → archive_refusal s ≡ 122
  earlier_of_later p fit e = pair_outside p fit (λ w. omega (arith, w.earlier_below))

  -- the count of a header that was read
  count_low : h.count ≤ 1024
  unfolding Holds rules count_refusal count_limit unless
  count_low = fields_hold (λ h. h.count ≤ 1024) s header_layout empty_record 0 (λ d _ c _ name _ n e a _. leb-true _ _ (test_passed _ (lit< tt) e)) header

  pub later_past_count : BytesAt s at (pairs_field (((h.count + 1) * 65536 + 1) ∷ [])) → archive_refusal s ≡ 122
  later_past_count = pair_outside ((h.count + 1) * 65536 + 1) (omega (arith, count_low)) (λ w. omega (arith, w.later_within))

  pub pair_twice : (p : ℕ) → p < 256 ^ 4 → BytesAt s at (pairs_field (p ∷ p ∷ [])) → archive_refusal s ≡ 122
  pair_twice p fit = pairs_broken (p ∷ p ∷ []) (lit< tt) (lit≤ tt) (more fit (more fit none)) (λ a. omega (arith, (before_decides p p).1 (a.ascending 0 (lit< tt))))

  pub too_few_operations : h.count < 2 → (p : ℕ) → p < 256 ^ 4 → BytesAt s at (pairs_field (p ∷ [])) → archive_refusal s ≡ 122
  too_few_operations few p fit = pair_outside p fit (λ w. omega (arith, w.earlier_some, w.earlier_below, w.later_within))

  pub byte_after_pairs : {pairs : List ℕ} {next : ℕ} → read_pairs h.count s at ≡ found pairs next → next < length s → archive_refusal s ≡ 112
  unfolding archive_refusal read_archive read_tail
  byte_after_pairs {pairs} {next} e left = ap reading_refusal (then_found _ header ∙ then_found _ operations ∙ then_refused _ (then_found _ e ∙ end_refused s pairs next left))

  pub pair_accepted : h.count ≡ 2 → BytesAt s at (0x48 ∷ 0x00 ∷ 0x04 ∷ 0x00 ∷ 0x02 ∷ 0x00 ∷ 0x01 ∷ []) → length s ≡ at + 7 → read_archive s ≡ found (archive_of h ops ((2 * 65536 + 1) ∷ [])) (length s)
  unfolding read_archive pairs_field encode_field head_bytes encode_numbers encode_number
  pair_accepted two stands ends =
      let within : PairWithin h.count 131073 = record { earlier_some = lit≤ tt; earlier_below = lit< tt; later_within = omega arith } in
      let allowed : PairsAllowed h.count (131073 ∷ []) = record { within = more within none; ascending = λ i l. absurd (omega arith) } in
      then_found _ header ∙ then_found _ operations
      ∙ then_found _ (tail_read_back h.count s at (omega arith) allowed (lit≤ tt) (record { stands = stands; ends = ends }))

pub pairs_of_length_8192 : pairs_length (0x20 * 256 + 0x00) ≡ true
unfolding pairs_length
pairs_of_length_8192 = refl
