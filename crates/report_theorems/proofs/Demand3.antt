-- Demand 3 for archives (docs/SPECIFICATION.md, 10.1).
-- The accepted calls of a list are commits and releases; an accepted archive with any drawing number and any pairs
-- keeps the register's curve, its last seal and the classes of all these commits, newest first.
-- `archive_seals`: the walk's seals are the last seal and those just before each commit, newest first.
-- `archive_seal`: with k operations undone the seal is the one just before the k-th newest commit, the last for k = 0.
-- `archive_exists`: if no check refuses the register, such an archive exists for every allowed drawing number, with any
-- allowed pairs or without.
-- `left_archive_seals`, `left_archive_seal`, `left_archive_exists`: the same if each call is by value or in place.
use Prim.Native.Nat.{ℕ, ◌≤◌}
use mathlib.Core.Path.{◌≡◌, refl, ap}
use mathlib.Core.Bool.{true}
use mathlib.Core.List.{List}
use lib.ListN.{length, get_or}
use Rattle.history.specs.{Register.register_refusal, Calls.Call, Calls.NoUndos, Calls.last, Calls.newest, Calls.classes, Calls.seals_back, declared.Register.Register}
use Rattle.history.proofs.WalkingBack.{walk_meets}
use Rattle.stored_form.specs.{Reading.found, Head.drawing_limit, Fields.printable}
use Rattle.stored_form_theorems.specs.Pairs.{PairsAllowed}
use Rattle.archive.specs.Archive.{Archive, read_archive}
use Rattle.archive_theorems.specs.Written.{archive_bytes}
use Rattle.archive_theorems.proofs.{ArchiveRoundTrips.archive_read_back, ArchiveBytes.archive_is_bytes}
use Rattle.seal_register.specs.InPlace.{RecordedCall, calls, Session, left_by, newest_recorded, seals_recorded}
use Rattle.seal_register.proofs.InPlace.{left_by_last, newest_is}
use Rattle.walk_report.specs.Walk.{seals}
use Rattle.report_theorems.specs.Demand3.{Keeps, kept_archive, Encodes}
use Rattle.report_theorems.proofs.Kept.{kept_storable}

-- ---- calls by value

module _ (r : Register) (cs : List Call) (only : NoUndos (newest r cs)) where
  list_seals : seals r.curve (last r cs).seal (classes (newest r cs)) ≡ seals_back r cs
  unfolding seals
  list_seals = walk_meets r cs only

  module _ (s : List ℕ) {a : Archive} {end : ℕ} (reads : read_archive s ≡ found a end) (keeps : Keeps a r (last r cs) (newest r cs)) where
    pub archive_seals : seals a.curve a.seal a.operations ≡ seals_back r cs
    archive_seals = rw (keeps.curve_kept, keeps.seal_kept, keeps.operations_kept) list_seals

    pub archive_seal : (k : ℕ) → get_or (seals a.curve a.seal a.operations) k a.seal ≡ get_or (seals_back r cs) k a.seal
    archive_seal k = ap (λ l. get_or l k a.seal) archive_seals

  pub archive_exists : register_refusal r ≡ 0 → (drawing : List ℕ) → printable drawing ≡ true → length drawing ≤ drawing_limit →
      (pairs : List ℕ) → PairsAllowed (length (classes (newest r cs))) pairs → length pairs ≤ 2048 →
      Encodes r (last r cs) (newest r cs) drawing pairs (kept_archive r (last r cs) (newest r cs) drawing pairs)
  unfolding kept_archive
  archive_exists passes drawing clean short pairs allowed few =
      let a : Archive = kept_archive r (last r cs) (newest r cs) drawing pairs in
      let keeps : Keeps a r (last r cs) (newest r cs) = record { curve_kept = refl; seal_kept = refl; operations_kept = refl } in
      let reads = archive_read_back a (kept_storable r cs only passes drawing clean short pairs allowed few) in
      record { named = refl; paired = refl; keeps = keeps; bytes = archive_is_bytes a clean; reads = reads; meets = archive_seals (archive_bytes a) reads keeps }

-- ---- each call by value or in place

module _ (r : Register) (ms : List RecordedCall) (session : Session r ms) (only : NoUndos (newest_recorded r ms)) where
  only_by_value : NoUndos (newest r (calls ms))
  only_by_value = rw (newest_is r ms session) at only

  module _ (s : List ℕ) {a : Archive} {end : ℕ} (reads : read_archive s ≡ found a end) (keeps : Keeps a r (left_by r ms) (newest_recorded r ms)) where
    pub left_archive_seals : seals a.curve a.seal a.operations ≡ seals_recorded r ms
    unfolding seals_recorded
    left_archive_seals =
        rw (newest_is r ms session, left_by_last r ms session)
        (archive_seals r (calls ms) only_by_value s reads (rw (newest_is r ms session, left_by_last r ms session) at keeps))

    pub left_archive_seal : (k : ℕ) → get_or (seals a.curve a.seal a.operations) k a.seal ≡ get_or (seals_recorded r ms) k a.seal
    left_archive_seal k = ap (λ l. get_or l k a.seal) left_archive_seals

  pub left_archive_exists : register_refusal r ≡ 0 → (drawing : List ℕ) → printable drawing ≡ true → length drawing ≤ drawing_limit →
      (pairs : List ℕ) → PairsAllowed (length (classes (newest_recorded r ms))) pairs → length pairs ≤ 2048 →
      Encodes r (left_by r ms) (newest_recorded r ms) drawing pairs (kept_archive r (left_by r ms) (newest_recorded r ms) drawing pairs)
  left_archive_exists = rw (newest_is r ms session, left_by_last r ms session) (archive_exists r (calls ms) only_by_value)
