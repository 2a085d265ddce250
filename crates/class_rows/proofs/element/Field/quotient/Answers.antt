-- `quotient` meets its contract. The invariant: from x^k on a + q b has no coefficient, and q has none below k less b's
-- degree.
use Rattle.std.proofs.Common.{◌≡◌, rules, arith, length}
use Rattle.char2_algebra.proofs.{Lead.monic_nonzero, Degree.len_nonzero}
use Rattle.row_theory.specs.{Field.𝔸}
use Rattle.row_theory.proofs.{Rows.Coefficients.row_len_length, QuotientRows.divided_start, QuotientRows.divided_turn, QuotientRows.divided_end}
use Rattle.row_theory.proofs.Rows.Length.{places_len}
use Rattle.class_rows.proofs.element.Field.quotient.Goals as goal

pub overflow_sub-top : goal.overflow_sub-top
overflow_sub-top c =
    let n = places_len _ c.length-top.ensures _ c.requires.b_in in
    let z = len_nonzero (𝔸 _) _ (monic_nonzero (𝔸 _) _ c.requires.monic) in
    omega arith

pub loop-k-init : goal.loop-k-init
loop-k-init c =
    let n = places_len _ c.length-top.ensures _ c.requires.b_in in
    let m = places_len _ c.length-k.ensures _ c.requires.a_in in
    let size : length c.args.a ≡ 12 = search rules in
    let l = row_len_length c.args.self.degree c.args.a 12 size in
    let z = len_nonzero (𝔸 _) _ (monic_nonzero (𝔸 _) _ c.requires.monic) in
    (omega arith, omega arith, divided_start _ m)

pub product_at-requires-clause-blank : goal.product_at-requires-clause-blank
product_at-requires-clause-blank c i h = c.loop-k.invariant.2.blank i (omega arith)

pub loop-k-preserved : goal.loop-k-preserved
loop-k-preserved c =
    let l = c.loop-k.invariant in (omega arith, l.1, divided_turn _ l.2 (omega arith) l.0 c.requires.monic l.1 c.product_at.ensures c.sum.ensures)

pub returns : goal.returns
returns c = let l = c.loop-k.invariant in divided_end _ l.2 (omega arith) l.1
