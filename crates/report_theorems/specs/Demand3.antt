-- Archives that keep what a list of calls leaves, for demand 3 (docs/SPECIFICATION.md, 10.1 and 11).
-- The list runs on a register r; t is the register after it, and es are its accepted calls, newest first.
-- These are `last` and `newest` for calls by value (history/specs/Calls.antt), and `left_by` and `newest_recorded`
-- for calls of which some are in place (seal_register/specs/InPlace.antt).
use Rattle.std.specs.Prelude.{ℕ, ◌≡◌, List, length}
use Rattle.history.specs.{Calls.Event, Calls.classes, Calls.seals_met, declared.Register.Register}
use Rattle.stored_form.specs.{Number.Bytes, Reading.found}
use Rattle.archive.specs.Archive.{Archive, read_archive}
use Rattle.archive_theorems.specs.Written.{archive_bytes}
use Rattle.walk_report.specs.Walk.{seals}

-- the archive has the register's curve, the last seal and the classes of the accepted steps, newest first
pub record Keeps (a : Archive) (r t : Register) (es : List Event) : Type 0 where
  pub curve_kept : a.curve ≡ r.curve
  pub seal_kept : a.seal ≡ t.seal
  pub operations_kept : a.operations ≡ classes es

-- the archive that keeps this, with a drawing number and with pairs of its operations, of which there may be none
unfoldable pub kept_archive : Register → Register → List Event → List ℕ → List ℕ → Archive
kept_archive r t es drawing pairs = record { curve = r.curve; drawing = drawing; seal = t.seal; operations = classes es; pairs = pairs }

-- The archive a has this drawing number and these pairs, and keeps what the list leaves.
-- Its encoding is bytes that read back as a.
-- Its walk's seals are the last seal and those just before each accepted step, newest first.
pub record Encodes (r t : Register) (es : List Event) (drawing pairs : List ℕ) (a : Archive) : Type 0 where
  pub named : a.drawing ≡ drawing
  pub paired : a.pairs ≡ pairs
  pub keeps : Keeps a r t es
  pub bytes : Bytes (archive_bytes a)
  pub reads : read_archive (archive_bytes a) ≡ found a (length (archive_bytes a))
  pub meets : seals a.curve a.seal a.operations ≡ seals_met t es
