-- The loop of the program with what it wrote: the lines made so far are written.
-- `written_begin`: before the first turn; `written_next`: after one more; `written_over`: where no line is pending.
use Rattle.std.proofs.Common.{ℕ, ◌≡◌, true, false, List, [], ◌∷◌, ◌++◌, take, Option, sym, ap, ◌∙◌, subst, append-nil, append_assoc}
use mathlib.Core.List.{flatten}
use Rattle.std.specs.Io.KnownBytes.{Appends}
use Rattle.std.proofs.KnownBytes.{Appends-nil, Appends-trans}
use Rattle.text.proofs.Appending.{line_bytes}
use Rattle.walk_report.specs.{Report.report, Steps.next_line, Steps.line_answer, Steps.begin, Steps.pending, Loop.made_line, Loop.Halfway}
use Rattle.walk_report.specs.declared.{Progress.Progress, LineAnswer.LineAnswer}
use Rattle.walk_report.proofs.Loop.{halfway_next, next_so_far, halfway_over}
use Rattle.report_theorems.proofs.ReportMade.{halfway_begin}

flatten_last : (lines : List (List ℕ)) (line : List ℕ) → flatten (lines ++ line ∷ []) ≡ flatten lines ++ line
unfolding flatten
flatten_last [] line = append-nil line
flatten_last (l ∷ lines) line = ap (λ (r : List ℕ). l ++ r) (flatten_last lines line) ∙ sym (append_assoc l (flatten lines) line)

module _ (s : List ℕ) where
  pub record Written (m : Progress) (held holds : Option (List ℕ)) : Type 0 where
    pub half : Halfway s m
    pub told : Appends held holds (flatten half.so_far)

  begun : (held : Option (List ℕ)) → Written (begin s) held held
  unfolding halfway_begin flatten
  begun held = record { half = halfway_begin s; told = Appends-nil held }

  pub written_begin : (held : Option (List ℕ)) {m : Progress} → m ≡ begin s → Written m held held
  written_begin held e = subst (λ m. Written m held held) (sym e) (begun held)

  pub written_next : {m : Progress} {held holds now : Option (List ℕ)} {x : LineAnswer} → Written m held holds → pending m.report.stage ≡ true → x ≡ line_answer (next_line m.report s m.next.at)
      → Appends holds now (take x.line.len x.line.bytes) → Written x.progress held now
  unfolding line_answer
  written_next {m} {held} {holds} {now} before h e told =
      let P : LineAnswer → Type 0 = λ y. Appends holds now (take y.line.len y.line.bytes) → Written y.progress held now in
      let text : List ℕ = (made_line s m).text in
      let all : flatten before.half.so_far ++ text ≡ flatten (halfway_next s before.half h).so_far = sym (ap flatten (next_so_far s before.half h) ∙ flatten_last before.half.so_far text) in
      subst P (sym e)
      (λ told. record {
        half = halfway_next s before.half h;
        told = subst (Appends held now) all (Appends-trans held holds now _ text before.told (subst (Appends holds now) (line_bytes text) told));
      })
      told

  pub written_over : {m : Progress} {held holds : Option (List ℕ)} → Written m held holds → pending m.report.stage ≡ false → Appends held holds (report s)
  unfolding report
  written_over {held = held} {holds = holds} x h = subst (λ lines. Appends held holds (flatten lines)) (halfway_over s x.half h) x.told
