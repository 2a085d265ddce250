-- The pairs of an archive, as the code reads them.
-- `pair_stops`, `pair_goes_on`, `pairs_over`: a turn of the loop that checks the pairs, and its end.
-- `no_pairs`, `other_byte`, `field_due`: what follows the operations is nothing, another byte, the field;
-- `none_left`, `rest_refused`, `field_follows`: the same, as the code answers it.
-- `field_cut`, `cut_stops`, `pairs_inside`, `check_stops_pairs`, `pairs_pass`: the field as the code reads it.
-- `pair_beyond`, `pair_there`: a pair at which the input ends, and one that is there.
use Prim.Native.Nat.{ℕ, suc, ◌+◌, ◌*◌, ◌-◌, ◌/◌, ◌≤◌, ◌<◌}
use mathlib.Core.Path.{◌≡◌, refl, sym, ap, ◌∙◌}
use mathlib.Core.Bool.{true, false, ◌&&◌}
use mathlib.Core.List.{List, [], ◌∷◌, ◌++◌}
use native.Mathlib.Omega.{arith}
use lib.Dec.{ltb}
use lib.ListN.{length, get_or, take, drop, length-append}
use lib.Seq.{take_at, drop_at}
use borrow.Author.Tests.{lt-leb, le-leb, eq-eqb, ne_eqb}
use Rattle.refusals.specs.{Refusals.number, declared.Refusal.Refusal}
use Rattle.stored_form.specs.Number.{decode_number, decode_numbers, part}
use Rattle.stored_form.specs.{Reading.found, Reading.refused, Reading.checked, Reader.read_head_by}
use Rattle.stored_form.specs.Pairs.{pair_length, pairs_length, pair_within, pairs_after, pairs_refusal, decode_pairs, read_pairs_field, read_pairs, without_value, pair_at}
use Rattle.stored_form.proofs.{Readings.check_stops, Readings.check_passes, Readings.then_found, Readings.then_refused, Heads.head_found}

-- ---- all pairs

-- the pairs of what is left, by its first four bytes
module _ (n last : ℕ) (rest bytes after : List ℕ) (cut : rest ≡ bytes ++ after) (long : length bytes ≡ pair_length) where
  first_pair : decode_pairs rest ≡ decode_number bytes ∷ decode_pairs after
  unfolding decode_pairs decode_numbers
  first_pair =
      let all : length rest ≡ pair_length + length after = ap length cut ∙ length-append bytes after ∙ ap (λ (k : ℕ). k + length after) long in
      let more : length rest / 4 ≡ suc (length after / 4) = omega (arith, all) in
      rw (more, cut, take_at bytes after 4 long, drop_at bytes after 4 long)

  module _ {p : ℕ} (read : p ≡ decode_number bytes) where
    pub pair_stops : (ltb last p && pair_within n p) ≡ false → pairs_after n last (decode_pairs rest) ≡ false
    unfolding pairs_after
    pair_stops e = ap (pairs_after n last) first_pair ∙ rw (← read, e)

    pub pair_goes_on : (ltb last p && pair_within n p) ≡ true → pairs_after n last (decode_pairs rest) ≡ pairs_after n p (decode_pairs after)
    unfolding pairs_after
    pair_goes_on e = ap (pairs_after n last) first_pair ∙ rw (← read, e)

pub pairs_over : (n last : ℕ) (rest : List ℕ) → length rest < pair_length → pairs_after n last (decode_pairs rest) ≡ true
unfolding pairs_after decode_pairs decode_numbers
pairs_over n last rest h = let e : length rest / 4 ≡ 0 = omega arith in rw e

-- ---- the field

module _ (n : ℕ) (s : List ℕ) (at : ℕ) where
  pub no_pairs : length s ≤ at → read_pairs n s at ≡ found [] at
  unfolding read_pairs
  no_pairs h = rw (le-leb (length s) at h)

  module _ (left : at < length s) where
    pub other_byte : ¬ (get_or s at 0 ≡ 0x48) → read_pairs n s at ≡ refused 112
    unfolding read_pairs
    other_byte h = rw (lt-leb (length s) at left, ne_eqb (get_or s at 0) 0x48 h)

    pub field_due : get_or s at 0 ≡ 0x48 → read_pairs n s at ≡ read_pairs_field n s at
    unfolding read_pairs
    field_due h = rw (lt-leb (length s) at left, eq-eqb (get_or s at 0) 0x48 h)

  -- the same, as the code answers it
  pub none_left : length s ≤ at → found tt at ≡ without_value (read_pairs n s at)
  none_left h = ap without_value (sym (no_pairs h))

  pub rest_refused : at < length s → ¬ (get_or s at 0 ≡ 0x48) → refused 112 ≡ without_value (read_pairs n s at)
  rest_refused left h = ap without_value (sym (other_byte left h))

  pub field_follows : at < length s → get_or s at 0 ≡ 0x48 → without_value (read_pairs_field n s at) ≡ without_value (read_pairs n s at)
  field_follows left h = ap without_value (sym (field_due left h))

  pub field_cut : {m : ℕ} → read_head_by 0x48 pairs_length s at ≡ refused m → read_pairs_field n s at ≡ refused m
  unfolding read_pairs_field
  field_cut e = then_refused _ e

  pub cut_stops : {k : ℕ} → refused k ≡ read_head_by 0x48 pairs_length s at → refused k ≡ without_value (read_pairs_field n s at)
  cut_stops e = ap without_value (sym (field_cut (sym e)))

  -- the body as the code takes it: the last bytes before the offset after it
  module _ {len next : ℕ} (e : found len next ≡ read_head_by 0x48 pairs_length s at) where
    abbrev pub taken : List ℕ
    taken = take (next - (next - len)) (drop (next - len) s)

    pub pairs_inside : (len ≤ next) × (next ≤ length s)
    pairs_inside = let w = head_found 0x48 pairs_length s at (sym e) in omega (arith, w.ends, w.fits)

    field_read : read_pairs_field n s at ≡ checked (pairs_refusal n (decode_pairs taken)) (found (decode_pairs taken) next)
    unfolding read_pairs_field
    field_read =
        let w = head_found 0x48 pairs_length s at (sym e) in
        let first : next - len ≡ at + 3 = omega (arith, w.ends) in
        let long : next - (at + 3) ≡ len = omega (arith, w.ends) in
        then_found _ (sym e) ∙ rw (first, long)

    pub check_stops_pairs : (r : Refusal) → number r ≡ pairs_refusal n (decode_pairs taken) → refused (number r) ≡ without_value (read_pairs_field n s at)
    check_stops_pairs r g = ap without_value (check_stops r _ g ∙ sym field_read)

    pub pairs_pass : 0 ≡ pairs_refusal n (decode_pairs taken) → found tt next ≡ without_value (read_pairs_field n s at)
    pairs_pass g = ap without_value (check_passes g refl ∙ sym field_read)

-- ---- a pair by its place

module _ (s : List ℕ) (at i : ℕ) where
  pub pair_beyond : length s < at + 4 * (i + 1) → 0 ≡ pair_at s at i
  unfolding pair_at
  pair_beyond h = rw (lt-leb (at + 4 * (i + 1)) (length s) h)

  pub pair_there : at + 4 * (i + 1) ≤ length s → decode_number (part s (at + 4 * i) 4) ≡ pair_at s at i
  unfolding pair_at
  pair_there h = rw (le-leb (at + 4 * (i + 1)) (length s) h)
