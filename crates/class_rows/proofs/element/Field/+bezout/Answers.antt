-- `bezout` calls itself on the remainder. The measure is the length of b, its degree plus one.
use Rattle.std.proofs.Common.{ℕ, List}
use Prim.Native.Nat.{◌<◌}
use mathlib.Core.Path.{◌≡◌, sym, ◌∙◌, subst}
use native.Mathlib.Omega.{arith}
use Rattle.char2_algebra.proofs.Degree.{nonzero_of_len}
use Rattle.row_theory.specs.{Field.𝔸, Field.poly, Row.row_len}
use Rattle.row_theory.proofs.{Bezout.remainder_less, Bezout.quotient_le, Bezout.step_rows, Rows.Length.places_len}
use Rattle.class_rows.proofs.element.Field.+bezout.Goals as goal

-- b is not 0 where its length is not 0
b_nonzero : (d n : ℕ) (b : List ℕ) → n ≡ row_len d b → ¬ (n ≡ 0) → ¬ (poly d b ≡ (𝔸 d).ring.zero)
b_nonzero d n b e h = nonzero_of_len (𝔸 d) (poly d b) (omega (arith, e, h))

pub returns-in-0 : goal.returns-in-0
returns-in-0 t c = c.bezout_zero.ensures c.args.b (sym (places_len _ c.length.ensures c.args.self.degree c.requires.b_in) ∙ c.in-0.is)

pub bezout_constant-requires-clause-constant : goal.bezout_constant-requires-clause-constant
bezout_constant-requires-clause-constant t c = sym (places_len _ c.length.ensures c.args.self.degree c.requires.b_in) ∙ c.in-1.is

pub divide-requires-clause-nonzero : goal.divide-requires-clause-nonzero
divide-requires-clause-nonzero t c = b_nonzero c.args.self.degree _ c.args.b (places_len _ c.length.ensures c.args.self.degree c.requires.b_in) (λ z. absurd (omega arith))

pub bezout-r-requires : goal.bezout-r-requires
bezout-r-requires t c =
    let d = c.args.self.degree in
    let p = c.requires in
    let q = c.divide.ensures in
    let nonzero = b_nonzero d _ c.args.b (places_len _ c.length.ensures d p.b_in) (λ z. absurd (omega arith)) in
    let less = remainder_less d c.args.a c.args.b nonzero q.0 q.1 in
    (subst (λ n. row_len d c.divide.result.remainder < n) c.decreases less, (p.b_in, (q.1.in_range, (p.b_short, omega (arith, less, p.b_short)))))

pub substituted-requires-clause-room : goal.substituted-requires-clause-room
substituted-requires-clause-room t c =
    let d = c.args.self.degree in
    let p = c.requires in
    let q = c.divide.ensures in
    let nonzero = b_nonzero d _ c.args.b (places_len _ c.length.ensures d p.b_in) (λ z. absurd (omega arith)) in
    let l = quotient_le d c.args.a c.args.b nonzero q.0 q.1 in
    omega (arith, l, c.bezout-r.ensures.t_len, p.a_short, p.b_short)

pub returns-in_default : goal.returns-in_default
returns-in_default t c =
    let d = c.args.self.degree in
    let q = c.divide.ensures in
    let e = c.substituted.ensures in
    let nonzero = b_nonzero d _ c.args.b (places_len _ c.length.ensures d c.requires.b_in) (λ z. absurd (omega arith)) in
    rw (e.0, e.1) (step_rows d c.args.a c.args.b nonzero q.0 q.1 c.bezout-r.ensures e.2)
