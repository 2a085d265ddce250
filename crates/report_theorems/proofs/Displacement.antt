-- How far one changed operation moves the last seal of an archive (docs/SPECIFICATION.md, 10.1 and 11).
-- Two accepted archives on one curve have the same earliest seal in their walks and n operations,
-- of which only operation k, counted from the oldest as 1, differs: d in one and e in the other.
-- `archive_displacement`: the last seal of the second archive is that of the first plus n - k doublings of e - d.
-- `archive_moves`: the last seals differ if d and e do.
use Prim.Native.Nat.{ℕ, ◌-◌}
use mathlib.Core.Path.{◌≡◌, ap, ◌∙◌, subst}
use mathlib.Core.List.{List, reverse}
use lib.ListN.{length}
use Rattle.lists.specs.Lists.{All, ChangedAt}
use Rattle.jacobian.specs.{Answer.Accepts, Answer.gives, declared.Class.Class}
use Rattle.stored_form.specs.Reading.{found}
use Rattle.history.specs.Calls.{walk_back, displaced}
use Rattle.history.proofs.Displacement.{walk_displacement, walk_moves}
use Rattle.archive.specs.Archive.{Archive, read_archive}
use Rattle.archive_theorems.proofs.Parts.{seal_sound, operations_accepted}

module _ (s t : List ℕ) {x y : Archive} {end end' : ℕ} (reads : read_archive s ≡ found x end) (reads' : read_archive t ≡ found y end') (curve : y.curve ≡ x.curve)
    (earliest : walk_back x.curve x.seal x.operations ≡ walk_back y.curve y.seal y.operations)
    {k : ℕ} {d e : Class} (at : ChangedAt k d e (reverse x.operations) (reverse y.operations)) where
  seal_beside : Accepts x.curve y.seal
  seal_beside = subst (λ c. Accepts c y.seal) curve (seal_sound t reads')

  operations_beside : All (Accepts x.curve) y.operations
  operations_beside = subst (λ c. All (Accepts c) y.operations) curve (operations_accepted t reads')

  same : walk_back x.curve x.seal x.operations ≡ walk_back x.curve y.seal y.operations
  same = earliest ∙ ap (λ c. walk_back c y.seal y.operations) curve

  pub archive_displacement : displaced x.curve (length x.operations - k) d e x.seal ≡ gives y.seal
  archive_displacement = walk_displacement (seal_sound s reads) (operations_accepted s reads) seal_beside operations_beside same at

  pub archive_moves : ¬ (d ≡ e) → ¬ (x.seal ≡ y.seal)
  archive_moves = walk_moves (seal_sound s reads) (operations_accepted s reads) seal_beside operations_beside same at
