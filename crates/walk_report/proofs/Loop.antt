-- The loop of the program (walk_report/specs/Loop.antt).
-- `makes_only`: from a state the loop makes one list of lines and no other.
-- `halfway_next`: a turn of the loop keeps that the lines made so far, and then those to come, are the report's.
-- `next_so_far`: the lines made so far are then those before and the line of the turn.
-- `halfway_over`: where no line is pending, the lines made are the report's, all of them.
use Prim.Native.Nat.{ℕ}
use mathlib.Core.Path.{◌≡◌, refl, sym, ap, ◌∙◌, subst}
use mathlib.Core.Bool.{true, false, true≢false}
use mathlib.Core.List.{List, [], ◌∷◌, ◌++◌, append-nil, append_assoc}
use Rattle.walk_report.specs.{Report.report_lines, Steps.LineResult, Steps.line_answer, Steps.next_line, Steps.begin, Steps.pending, Loop.made_line, Loop.Makes, Loop.none, Loop.turn, Loop.MakesAll, Loop.Halfway}
use Rattle.walk_report.specs.declared.{Progress.Progress, LineAnswer.LineAnswer}

module _ (s : List ℕ) where
  -- a turn before the others, where the line and the state after it are x
  pub turn_all : {m : Progress} {x : LineResult} {lines : List (List ℕ)} → pending m.report.stage ≡ true → made_line s m ≡ x → MakesAll s x.progress lines → MakesAll s m (x.text ∷ lines)
  turn_all {m} {x} {lines} h e l = subst (λ (y : LineResult). MakesAll s y.progress lines → MakesAll s m (y.text ∷ lines)) e (λ l. record { end = l.end; makes = turn h l.makes; over = l.over }) l

  -- a turn after the others
  pub turn_last : {m n : Progress} {lines : List (List ℕ)} → Makes s m lines n → pending n.report.stage ≡ true → Makes s m (lines ++ (made_line s n).text ∷ []) (made_line s n).progress
  turn_last none h = turn h none
  turn_last (turn g l) h = turn g (turn_last l h)

  lines_only : {m p q : Progress} {a b : List (List ℕ)} → Makes s m a p → pending p.report.stage ≡ false → Makes s m b q → pending q.report.stage ≡ false → a ≡ b
  lines_only none g none h = refl
  lines_only none g (turn i b) h = absurd (true≢false (sym i ∙ g))
  lines_only (turn i a) g none h = absurd (true≢false (sym i ∙ h))
  lines_only {m} (turn i a) g (turn j b) h = ap (λ (t : List (List ℕ)). (made_line s m).text ∷ t) (lines_only a g b h)

  pub makes_only : {m : Progress} {a b : List (List ℕ)} → MakesAll s m a → MakesAll s m b → a ≡ b
  makes_only x y = lines_only x.makes x.over y.makes y.over

  unfoldable pub halfway_turn : {m end : Progress} {so_far to_come : List (List ℕ)} → Makes s (begin s) so_far m → Makes s m to_come end → pending end.report.stage ≡ false →
      so_far ++ to_come ≡ report_lines s → pending m.report.stage ≡ true → Halfway s (made_line s m).progress
  halfway_turn made none over whole h = absurd (true≢false (sym h ∙ over))
  halfway_turn {m} {end} {so_far} made (turn {lines = lines} g rest) over whole h = record {
    so_far = so_far ++ (made_line s m).text ∷ [];
    to_come = lines;
    made = turn_last made h;
    left = record { end = end; makes = rest; over = over };
    whole = append_assoc so_far ((made_line s m).text ∷ []) lines ∙ whole;
  }

  unfoldable pub halfway_next : {m : Progress} → Halfway s m → pending m.report.stage ≡ true → Halfway s (made_line s m).progress
  halfway_next x h = halfway_turn x.made x.left.makes x.left.over x.whole h

  turn_so_far : {m end : Progress} {so_far to_come : List (List ℕ)} (made : Makes s (begin s) so_far m) (left : Makes s m to_come end) (over : pending end.report.stage ≡ false)
      (whole : so_far ++ to_come ≡ report_lines s) (h : pending m.report.stage ≡ true) → (halfway_turn made left over whole h).so_far ≡ so_far ++ (made_line s m).text ∷ []
  unfolding halfway_turn
  turn_so_far made none over whole h = absurd (true≢false (sym h ∙ over))
  turn_so_far made (turn g rest) over whole h = refl

  pub next_so_far : {m : Progress} (x : Halfway s m) (h : pending m.report.stage ≡ true) → (halfway_next x h).so_far ≡ x.so_far ++ (made_line s m).text ∷ []
  unfolding halfway_next
  next_so_far x h = turn_so_far x.made x.left.makes x.left.over x.whole h

  -- the same, of what the code of a line answers
  pub halfway_answer : {m : Progress} {x : LineAnswer} → Halfway s m → pending m.report.stage ≡ true → x ≡ line_answer (next_line m.report s m.next.at) → Halfway s x.progress
  unfolding line_answer
  halfway_answer x h e = subst (λ (y : LineAnswer). Halfway s y.progress) (sym e) (halfway_next x h)

  pub halfway_over : {m : Progress} (x : Halfway s m) → pending m.report.stage ≡ false → x.so_far ≡ report_lines s
  halfway_over {m} x h =
      let left : x.to_come ≡ [] = makes_only x.left (record { end = m; makes = none; over = h }) in
      sym (append-nil x.so_far) ∙ ap (λ (t : List (List ℕ)). x.so_far ++ t) (sym left) ∙ x.whole
