-- What the call that suppresses an operation wrote, and the seals of an archive's walk (docs/SPECIFICATION.md, 9, 10).
use Rattle.std.specs.Prelude.{ℕ, ◌≡◌, List, take, get_or}
use Rattle.jacobian.specs.{Answer.neutral_class, declared.Class.Class}
use Rattle.archive.specs.Archive.{Archive}
use Rattle.walk_report.specs.Walk.{seals}
use Rattle.seal_archive.specs.Suppress.{WrittenEffect, suppress_call}

-- the bytes that a call wrote: as many as it answered, from the output's start; a refusal wrote none
unfoldable pub wrote : WrittenEffect → List ℕ
wrote e = take e.written.length e.output

-- the call that suppresses operation k of these bytes is accepted, and t is what it wrote
pub record Suppresses (s : List ℕ) (k : ℕ) (out t : List ℕ) : Type 0 where
  pub accepted : (suppress_call s k out).written.refusal ≡ 0
  pub written : wrote (suppress_call s k out) ≡ t

-- the seal of an archive's walk with i operations undone
unfoldable pub walk_seal : Archive → ℕ → Class
walk_seal a i = get_or (seals a.curve a.seal a.operations) i neutral_class
