-- The invariant of `check_archive`: reading what is left has the refusal of the archive.
use mathlib.Core.Path.{◌≡◌}
use Rattle.stored_form.specs.Reading.{reading_refusal}
use Rattle.archive.specs.Archive.{archive_refusal}
use Rattle.archive.proofs.ReaderSteps.{left, rank}
use Rattle.archive.proofs.check_archive.Given as goal

abbrev pub invariant-loop-state : goal.invariant-loop-state
invariant-loop-state l = archive_refusal l.s ≡ reading_refusal (left l.s l.state.reader.expected l.state.reader.values l.state.next.at)

abbrev pub decreases-loop-state : goal.decreases-loop-state
decreases-loop-state l = rank l.s l.state.reader.expected l.state.next.at
