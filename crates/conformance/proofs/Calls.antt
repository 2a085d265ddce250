-- A call byte other than 1 to 15 is no call.
-- `skipped`: the text of one call is not that of another; `no_such_call`.
use Rattle.std.proofs.Common.{ℕ, ◌≡◌, ◌<◌, ◌≤◌, List, eqb, cond, inl, inr, ap, ◌∙◌, arith}
use Rattle.std.specs.Prelude.{codes}
use Rattle.std.proofs.lemmas.Bool.Decides.{eqb_tells}
use Rattle.jacobian.specs.declared.{Curve.Curve, Class.Class}
use Rattle.conformance.specs.Texts.{call_text}

skipped : (call k : ℕ) (x y : List ℕ) → (call ≡ k → ⊥) → cond (eqb call k) x y ≡ y
skipped call k x y other = elim (eqb_tells call k) [ inl w ↦ absurd (other w.1) | inr w ↦ ap (λ b. cond b x y) w.0 ]

pub no_such_call : (call : ℕ) (c : Curve) (a b : Class) → (0 < call → call ≤ 15 → ⊥) → call_text call c a b ≡ codes "no such call"
unfolding call_text
no_such_call call c a b other =
    skipped call 1 _ _ (λ e. other (omega arith) (omega arith))
    ∙ skipped call 2 _ _ (λ e. other (omega arith) (omega arith))
    ∙ skipped call 3 _ _ (λ e. other (omega arith) (omega arith))
    ∙ skipped call 4 _ _ (λ e. other (omega arith) (omega arith))
    ∙ skipped call 5 _ _ (λ e. other (omega arith) (omega arith))
    ∙ skipped call 6 _ _ (λ e. other (omega arith) (omega arith))
    ∙ skipped call 7 _ _ (λ e. other (omega arith) (omega arith))
    ∙ skipped call 8 _ _ (λ e. other (omega arith) (omega arith))
    ∙ skipped call 9 _ _ (λ e. other (omega arith) (omega arith))
    ∙ skipped call 10 _ _ (λ e. other (omega arith) (omega arith))
    ∙ skipped call 11 _ _ (λ e. other (omega arith) (omega arith))
    ∙ skipped call 12 _ _ (λ e. other (omega arith) (omega arith))
    ∙ skipped call 13 _ _ (λ e. other (omega arith) (omega arith))
    ∙ skipped call 14 _ _ (λ e. other (omega arith) (omega arith))
    ∙ skipped call 15 _ _ (λ e. other (omega arith) (omega arith))
