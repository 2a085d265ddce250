-- A run by texts as turns, by any relation that the line of each text and the state after it meet.
-- `turns_made`: where the texts have room, a run by texts made such turns.
use Rattle.std.proofs.Common.{ℕ, ◌≡◌, List, [], ◌∷◌, ◌++◌, length, All, Option, None, Some, refl, append-nil, append_assoc}
use Rattle.std.specs.Prelude.{fold}
use Rattle.std.specs.List.{concat}
use Rattle.std.proofs.lemmas.List.Elements.{All-head, All-tail}
use Rattle.text.specs.declared.Line.{Line}
use Rattle.trial_text.specs.Runs.{HasRoom, line_with, ended, lines, RanByTexts, written_for, Turns, none, turn, Ran}
use Rattle.trial_text.proofs.Runs.{told_line}

-- what is written for the line of a text is the text and a line feed
written_text : (said : Option (List ℕ)) → HasRoom said → written_for (line_with said) ≡ ended said
written_text None room = refl
written_text (Some text) room = told_line (Some text) _ room refl

module _ {T : Type 0} (answers : T → List ℕ → Option Line → T → Type 0) (text_of : T → List ℕ → Option (List ℕ)) (after : T → List ℕ → T)
    (has_room : (state : T) (case : List ℕ) → HasRoom (text_of state case)) (may_answer : (state : T) (case : List ℕ) → answers state case (line_with (text_of state case)) (after state case)) {size : ℕ} {start : T} where
  -- turns more, over cases in their order
  more_turns : (cases : List (List ℕ)) → All (λ case. length case ≡ size) cases → (read written : List ℕ) (s : T) → Turns answers size start read written s
      → Turns answers size start (read ++ concat cases) (written ++ lines text_of after s cases) (fold after s cases)
  more_turns [] whole read written s before = rw (append-nil read, append-nil written) before
  more_turns (case ∷ cases) whole read written s before =
      let next = turn case (line_with (text_of s case)) before (All-head (λ c. length c ≡ size) case cases whole) (may_answer s case) in
      rw (← append_assoc read case (concat cases), ← append_assoc written (ended (text_of s case)) (lines text_of after (after s case) cases), ← written_text (text_of s case) (has_room s case))
      (more_turns cases (All-tail (λ c. length c ≡ size) case cases whole) _ _ (after s case) next)

  pub turns_made : {end : T} {given left held holds : Option (List ℕ)} → RanByTexts text_of after size start end given left held holds → Ran answers size start end given left held holds
  turns_made (cases, rest, over) = record {
    read = concat cases;
    written = lines text_of after start cases;
    rest = rest;
    turns = rw over.state (more_turns cases over.whole [] [] start none);
    taken = over.taken;
    told = over.written;
  }
