-- A run of a trial, as its loop goes on.
-- `begun`: before the first turn; `turned`: after one more; `over`: what was read last is no whole case; `out`: the last
-- turn was made.
use Rattle.std.proofs.Common.{ℕ, ◌≡◌, ◌≤◌, ◌<◌, ◌+◌, ◌-◌, List, [], ◌∷◌, ◌++◌, length, take, All, Option, None, Some, refl, sym, ap, ◌∙◌, subst, take_all, append-nil, append_assoc, length-append, arith, inl, inr}
use Rattle.std.specs.Prelude.{fold}
use Rattle.std.specs.List.{concat}
use Rattle.std.specs.Io.KnownBytes.{Appends, Consumes, IsAtEnd}
use Rattle.std.proofs.KnownBytes.{Consumes-nil, Appends-nil, Consumes-trans, Appends-trans}
use Rattle.std.proofs.lemmas.List.Sums.{fold-append}
use Rattle.std.proofs.lemmas.List.Folds.{concat-append}
use Rattle.std.proofs.lemmas.List.Elements.{All-push}
use borrow.Author.Tests.{le-ltb}
use lib.Dec.{ltb}
use mathlib.Core.Bool.{Bool, true, false, cond}
use Rattle.text.specs.{Line.line_room, Line.in_line, Line.with_bytes, declared.Line.Line}
use Rattle.text.proofs.Appending.{both, laid, line_bytes}
use Rattle.trial_text.specs.Cases.{cut_short, cut_short_line}
use Rattle.trial_text.specs.Runs.{HasRoom, line_with, ended, lines, most_turns, RanByTexts}

-- of a whole case nothing is told
told_none : (n size : ℕ) → size ≤ n → cut_short n size ≡ []
told_none n size h = go (ltb 0 n) (ltb n size) (le-ltb n size h)
  where
    go : (a b : Bool) → b ≡ false → cond a (cond b cut_short_line []) [] ≡ []
    go true b e = rw e
    go false b e = refl

-- the bytes of a text's line, ended by a line feed, are the text and a line feed
pub told_line : (said : Option (List ℕ)) (line : Line) → HasRoom said → Some line ≡ line_with said → let full = with_bytes line (0x0A ∷ []) in take full.len full.bytes ≡ ended said
told_line None line room e = cc
told_line (Some text) line room e =
    let same : line ≡ with_bytes (in_line []) text = cc in
    let fits : length (text ++ 0x0A ∷ []) ≤ line_room = omega (arith, length-append text (0x0A ∷ [])) in
    rw (same, both text (0x0A ∷ []) (in_line []), laid (text ++ 0x0A ∷ []) fits) (line_bytes (text ++ 0x0A ∷ []))

-- where no line answers, nothing is written
pub told_nothing : (said : Option (List ℕ)) → None ≡ line_with said → [] ≡ ended said
told_nothing None e = refl
told_nothing (Some text) e = cc

module _ {T : Type 0} (text_of : T → List ℕ → Option (List ℕ)) (after : T → List ℕ → T) where
  -- one case more is answered in the state that the cases before it lead to
  lines_more : (s : T) (cases : List (List ℕ)) (case : List ℕ) → lines text_of after s (cases ++ case ∷ []) ≡ lines text_of after s cases ++ ended (text_of (fold after s cases) case)
  lines_more s [] case = append-nil _
  lines_more s (c ∷ cases) case = ap (λ l. ended (text_of s c) ++ l) (lines_more (after s c) cases case) ∙ sym (append_assoc (ended (text_of s c)) _ _)

  -- so far a run read these cases
  pub record Going (size : ℕ) (start end : T) (given left held holds : Option (List ℕ)) (turns : ℕ) : Type 0 where
    pub cases : List (List ℕ)
    pub written : Appends held holds (lines text_of after start cases)
    pub state : end ≡ fold after start cases
    pub taken : Consumes given left (concat cases)
    pub whole : All (λ case. length case ≡ size) cases
    pub counted : length cases ≡ turns

  pub begun : (size : ℕ) (start : T) (given held : Option (List ℕ)) → Going size start start given given held held 0
  begun size start given held = record { cases = []; written = Appends-nil held; state = refl; taken = Consumes-nil given; whole = λ k d h. absurd (omega arith); counted = refl }

  module _ {size turns : ℕ} {start s : T} {given left rest held holds : Option (List ℕ)} (before : Going size start s given left held holds turns) where
    pub over : {now : Option (List ℕ)} (case : List ℕ) (n : ℕ) → length case ≡ size → n ≡ length (take n case) → n < size → IsAtEnd rest → Consumes left rest (take n case) → Appends holds now (cut_short n (length case))
        → RanByTexts text_of after size start s given rest held now
    over {now} case n e some short end taken told =
        let told_here : Appends holds now (cut_short n size) = subst (λ k. Appends holds now (cut_short n k)) e told in
        let few : length (take n case) ≤ size - 1 = omega arith in (
          before.cases,
          take n case,
          record {
            written = Appends-trans _ _ _ _ _ before.written (subst (λ k. Appends holds now (cut_short k size)) some told_here);
            state = before.state;
            taken = Consumes-trans _ _ _ _ _ before.taken taken;
            whole = before.whole;
            shorter = few;
            to_the_end = inl end;
          },
        )

    pub turned : {t : T} {now : Option (List ℕ)} (case : List ℕ) (n : ℕ) (bytes : List ℕ) (told : Option (List ℕ)) → length case ≡ size → length case ≤ n → Consumes left rest (take n case) → Appends holds told (cut_short n (length case))
        → bytes ≡ ended (text_of s case) → t ≡ after s case → Appends told now bytes → Going size start t given rest held now (turns + 1)
    turned {t} {now} case n bytes told e all taken short answered next more =
        let nothing : Appends holds told [] = subst (Appends holds told) (told_none n (length case) all) short in
        let one : Consumes left rest (concat (case ∷ [])) = rw append-nil (subst (Consumes left rest) (take_all n case all) taken) in
        let count : length (before.cases ++ case ∷ []) ≡ turns + 1 = rw (length-append before.cases (case ∷ [])) (ap (λ k. k + 1) before.counted) in
        record {
          cases = before.cases ++ case ∷ [];
          written = rw (lines_more start before.cases case, ← before.state, ← answered) (Appends-trans _ _ _ _ _ before.written (Appends-trans _ _ _ _ _ nothing more));
          state = next ∙ ap (λ x. after x case) before.state ∙ sym (fold-append after start before.cases (case ∷ []));
          taken = rw (concat-append before.cases (case ∷ [])) (Consumes-trans _ _ _ _ _ before.taken one);
          whole = All-push (λ x. length x ≡ size) before.cases case before.whole e;
          counted = count;
        }

  module _ {size turns : ℕ} {start s : T} {given left held holds : Option (List ℕ)} (before : Going size start s given left held holds turns) where
    pub out : turns ≡ most_turns → RanByTexts text_of after size start s given left held holds
    out all = (
      before.cases,
      [],
      record {
        written = rw append-nil before.written;
        state = before.state;
        taken = rw append-nil before.taken;
        whole = before.whole;
        shorter = omega arith;
        to_the_end = inr (before.counted ∙ all);
      },
    )
