-- What the call that suppresses an operation answers and leaves in the output (docs/SPECIFICATION.md, 6 and 9).
use Rattle.std.specs.Prelude.{ℕ, ◌+◌, not, ◌&&◌, List, [], ◌∷◌, ◌++◌, leb, length, drop, Result, Ok, Err}
use Rattle.refusals.specs.{Refusals.number, declared.Refusal.Refusal}
use Rattle.jacobian.specs.Checks.{unless, ◌or_else◌}
use Rattle.stored_form.specs.Reading.{Reading, found, refused, checked, ◌then◌}
use Rattle.written_form.specs.Effect.{room_refusal}
use Rattle.archive.specs.Archive.{Archive, read_archive}
use Rattle.archive_theorems.specs.Written.{archive_bytes}
use Rattle.suppression_theory.specs.Archives.{held, suppressed}
use Rattle.seal_archive.specs.declared.suppress.Written.{Written}

-- ---- what a call that writes an archive does

-- what a call answers, and the bytes of the lent output after it
pub record WrittenEffect : Type 0 where
  pub written : Written
  pub output : List ℕ

-- this answer and this output
abbrev pub written_effect : Written → List ℕ → WrittenEffect
written_effect w out = record { written = w; output = out }

-- the answer of a refusal: its number, and no length
abbrev pub refusal_written : ℕ → Written
refusal_written n = record { refusal = n; length = 0 }

-- the answer of a call that wrote so many bytes
abbrev pub length_written : ℕ → Written
length_written n = record { refusal = 0; length = n }

-- what the code's result, a length or a refusal, is answered as
abbrev pub written_of : Result ℕ Refusal → Written
written_of (Ok n) = length_written n
written_of (Err r) = refusal_written (number r)

-- a refusal: no lent byte changes
unfoldable pub refuse_archive : ℕ → List ℕ → WrittenEffect
refuse_archive n out = written_effect (refusal_written n) out

-- these bytes written at the start of the output; the bytes after them are unchanged
unfoldable pub write_archive : List ℕ → List ℕ → WrittenEffect
write_archive bytes out = written_effect (length_written (length bytes)) (bytes ++ drop (length bytes) out)

-- the archive that was made is written, or the refusal is answered
unfoldable pub put_archive : Reading Archive → List ℕ → WrittenEffect
put_archive (found a end) out = write_archive (archive_bytes a) out
put_archive (refused n) out = refuse_archive n out

-- ---- suppressing operation k

-- how many bytes longer than the input the output has to be
abbrev pub growth : ℕ
growth = 48

-- 123 if k is not the number of an operation, then 124 if operation k is held, else 0
unfoldable pub suppress_refusal : ℕ → Archive → ℕ
suppress_refusal k a = unless (leb 1 k && leb k (length a.operations)) 123 or_else unless (not (held k a)) 124

-- the archive with operation k suppressed: 101 of the output's length, then the archive's checks, then 123 and 124
unfoldable pub suppress_archive : ℕ → List ℕ → ℕ → Reading Archive
suppress_archive has s k =
    checked (room_refusal has (length s + growth)) (read_archive s) then λ a end.
    checked (suppress_refusal k a) (found (suppressed k a) end)

-- the numbers with which the call refuses
abbrev pub suppress_numbers : List ℕ
suppress_numbers = 101 ∷ 102 ∷ 103 ∷ 104 ∷ 105 ∷ 106 ∷ 107 ∷ 108 ∷ 109 ∷ 110 ∷ 111 ∷ 112 ∷ 122 ∷ 123 ∷ 124 ∷ []

-- what the call does
unfoldable pub suppress_call : List ℕ → ℕ → List ℕ → WrittenEffect
suppress_call s k out = put_archive (suppress_archive (length out) s k) out
