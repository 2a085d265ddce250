-- What follows the operations: their pairs, and the end.
-- `tail_valid`: it is found, or refused with a listed number.
-- `pairs_onward`: the offset after the pairs is not before them.
use Prim.Native.Nat.{ℕ, ◌≤◌}
use mathlib.Core.Path.{◌≡◌}
use mathlib.Core.Bool.{Bool, true, false, cond, not}
use mathlib.Core.List.{List, []}
use native.Mathlib.Omega.{arith}
use lib.Dec.{eqb, leb}
use lib.ListN.{length, get_or}
use Rattle.stored_form.specs.{Reading.found, Reading.refuse, Reader.read_head_by}
use Rattle.stored_form.specs.Pairs.{pairs_length, read_pairs_field, read_pairs}
use Rattle.stored_form.proofs.{Readings.refuse_found, Readings.checked_found, Readings.both_found, Readings.same_found, Heads.head_found}
use Rattle.stored_form.proofs.Valid.{ValidReading, then_valid, pairs_valid, end_tells}
use Rattle.archive.specs.Archive.{read_tail}

pub tail_valid : (n : ℕ) (s : List ℕ) (at : ℕ) → ValidReading (read_tail n s at)
unfolding read_tail
tail_valid n s at = then_valid (read_pairs n s at) _ (pairs_valid n s at) (end_tells s)

module _ (n : ℕ) (s : List ℕ) (at : ℕ) {pairs : List ℕ} {next : ℕ} where
  field_onward : read_pairs_field n s at ≡ found pairs next → at ≤ next
  unfolding read_pairs_field
  field_onward e =
      let p = both_found _ (read_head_by 0x48 pairs_length s at) e in
      let w = head_found 0x48 pairs_length s at p.2 in
      let m = (same_found (checked_found _ _ p.3).1).1 in
      omega (arith, w.ends, m)

  pub pairs_onward : read_pairs n s at ≡ found pairs next → at ≤ next
  unfolding read_pairs
  pairs_onward e = go (leb (length s) at) e
    where
      go : (b : Bool) → cond b (found [] at) (refuse 112 (not (eqb (get_or s at 0) 0x48)) (read_pairs_field n s at)) ≡ found pairs next → at ≤ next
      go true e = let m = (same_found e).1 in omega (arith, m)
      go false e = field_onward (refuse_found 112 (not (eqb (get_or s at 0) 0x48)) (read_pairs_field n s at) e).1
