-- A run of a trial: the cases that it reads, and the lines that it writes for them.
use Rattle.std.specs.Prelude.{ℕ, ◌≡◌, ◌≤◌, ◌<◌, ◌-◌, ◌^◌, ◌⊎◌, List, [], ◌∷◌, ◌++◌, length, take, All, fold, Option, None, Some, ⊤}
use Rattle.std.specs.List.{concat}
use Rattle.std.specs.Io.KnownBytes.{Appends, Consumes, IsAtEnd}
use Rattle.text.specs.Line.{line_room, in_line, with_bytes}
use Rattle.text.specs.declared.Line.{Line}
use Rattle.trial_text.specs.Cases.{cut_short}

-- a text leaves room for a line feed behind it
abbrev pub HasRoom : Option (List ℕ) → Type 0
HasRoom None = ⊤
HasRoom (Some text) = length text < line_room

-- the line of a text, if there is one
abbrev pub line_with : Option (List ℕ) → Option Line
line_with None = None
line_with (Some text) = Some (with_bytes (in_line []) text)

-- what is written for a case: its text and a line feed; nothing where it has none
abbrev pub ended : Option (List ℕ) → List ℕ
ended None = []
ended (Some text) = text ++ 0x0A ∷ []

-- what is written for cases in their order, each answered in the state that those before it lead to
abbrev pub lines : {T : Type 0} → (T → List ℕ → Option (List ℕ)) → (T → List ℕ → T) → T → List (List ℕ) → List ℕ
lines text_of after state [] = []
lines text_of after state (case ∷ cases) = ended (text_of state case) ++ lines text_of after (after state case) cases

-- the largest number of turns of a run
abbrev pub most_turns : ℕ
most_turns = 2 ^ 64 - 1

-- a run that read these cases of a size, and then a rest
pub record RunOver {T : Type 0} (text_of : T → List ℕ → Option (List ℕ)) (after : T → List ℕ → T) (size : ℕ) (start end : T) (given left held holds : Option (List ℕ)) (cases : List (List ℕ)) (rest : List ℕ) : Type 0 where
  -- the lines of the cases were written; and of a rest that is not empty, that it is cut short
  pub written : Appends held holds (lines text_of after start cases ++ cut_short (length rest) size)
  pub state : end ≡ fold after start cases
  -- the input gave the cases and the rest, and nothing else
  pub taken : Consumes given left (concat cases ++ rest)
  pub whole : All (λ case. length case ≡ size) cases
  -- the rest is shorter than a case; it is empty where a case has no bytes
  pub shorter : length rest ≤ size - 1
  -- the run went on to the end of the input, or to its last turn
  pub to_the_end : IsAtEnd left ⊎ (length cases ≡ most_turns)

-- a run read some cases and a rest
abbrev pub RanByTexts : {T : Type 0} → (T → List ℕ → Option (List ℕ)) → (T → List ℕ → T) → ℕ → T → T → Option (List ℕ) → Option (List ℕ) → Option (List ℕ) → Option (List ℕ) → Type 0
RanByTexts text_of after size start end given left held holds = (cases : List (List ℕ)) × (rest : List ℕ) × RunOver text_of after size start end given left held holds cases rest

-- ---- a run by turns, each by a relation `answers` of a state, a case, its line and the state after
-- It leaves open how long the rest is, and whether the run went on to the end of the input.

-- what is written for a case: the line and, where the line has room, a line feed; nothing where it has no line
abbrev pub written_for : Option Line → List ℕ
written_for None = []
written_for (Some line) = let ended = with_bytes line (0x0A ∷ []) in take ended.len ended.bytes

-- turns from one state of a trial to another, each with a case of the size; the bytes that they read, and those that
-- they wrote
pub data Turns {T : Type 0} (answers : T → List ℕ → Option Line → T → Type 0) (size : ℕ) (start : T) : List ℕ → List ℕ → T → Type 0 where
  none : Turns answers size start [] [] start
  turn : {read written : List ℕ} {s t : T} (case : List ℕ) (line : Option Line) → Turns answers size start read written s → length case ≡ size → answers s case line t
      → Turns answers size start (read ++ case) (written ++ written_for line) t

-- turns were made, and then a rest was read: of some but not all bytes of a case it is told that it is cut short
pub record Ran {T : Type 0} (answers : T → List ℕ → Option Line → T → Type 0) (size : ℕ) (start end : T) (given left held holds : Option (List ℕ)) : Type 0 where
  pub read : List ℕ
  pub written : List ℕ
  pub rest : List ℕ
  pub turns : Turns answers size start read written end
  pub taken : Consumes given left (read ++ rest)
  pub told : Appends held holds (written ++ cut_short (length rest) size)
