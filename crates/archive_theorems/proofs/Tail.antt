-- What follows the operations: their pairs, and the end.
-- `tail_written`: pairs that are read with the end break no rule, stand there as their field, and no byte follows.
-- `tail_read_back`: pairs that break no rule, whose field is the rest of the input, are read back.
use Prim.Native.Nat.{ℕ, ◌≤◌, ◌<◌}
use mathlib.Core.Path.{◌≡◌, subst₂, ◌∙◌}
use mathlib.Core.List.{List}
use native.Mathlib.Nat.{le_refl}
use native.Mathlib.Omega.{arith}
use lib.ListN.{length}
use Rattle.stored_form.specs.{Number.Bytes, Reading.found, Pairs.pairs_field, Pairs.read_pairs}
use Rattle.stored_form.proofs.Readings.{then_found, both_found}
use Rattle.stored_form_theorems.specs.{Fields.Field, Pairs.PairsAllowed}
use Rattle.stored_form_theorems.proofs.{Pairs.PairsWritten, Pairs.pairs_written, Pairs.pairs_read_back, Places.end_found, Places.end_read_back}
use Rattle.archive.specs.Archive.{read_tail}

module _ (n : ℕ) (s : List ℕ) (at : ℕ) {pairs : List ℕ} where
  pub tail_written : {end : ℕ} → Bytes s → read_tail n s at ≡ found pairs end → PairsWritten n s at pairs end × (length s ≤ end)
  unfolding read_tail
  tail_written b e =
      let p = both_found _ (read_pairs n s at) e in
      let f = end_found s p.0 p.1 p.3 in
      (subst₂ (λ (x : List ℕ) (y : ℕ). PairsWritten n s at x y) f.0 f.1 (pairs_written n s at b p.2), omega (arith, f.1, f.2))

  pub tail_read_back : n < 65536 → PairsAllowed n pairs → length pairs ≤ 2048 → Field s at (pairs_field pairs) (length s) → read_tail n s at ≡ found pairs (length s)
  unfolding read_tail
  tail_read_back under ok few f = then_found _ (pairs_read_back n s at pairs under ok few f.stands f.ends) ∙ end_read_back s pairs (length s) (le_refl _)
