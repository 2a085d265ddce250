-- `cofactor_of_divisor` meets its contract: the division decides, and its quotient is the cofactor.
use native.Mathlib.Omega.{arith}
use mathlib.Core.Path.{sym, ◌∙◌}
use Rattle.char2_algebra.proofs.Lead.{monic_nonzero}
use Rattle.row_theory.specs.Field.{𝔸}
use Rattle.class_rows.proofs.Tests.{curve_shown, pair_shown, no_pair, divided, undivided}
use Rattle.class_rows.specs.internal.Check.{FormedPair}
use Rattle.class_rows.proofs.curve.Curve.cofactor_of_divisor.Goals as goal
use Rattle.class_rows.proofs.curve.Curve.cofactor_of_divisor.Goals.{Else-not-is_pair}

-- the pair is in form
formed : (c : Else-not-is_pair) → FormedPair c.args.self.field.degree c.args.a
formed c = (pair_shown c.args.self.field.accepted (sym c.is_pair.ensures ∙ c.if-not-is_pair.false)).2

pub returns-then-not-is_pair : goal.returns-then-not-is_pair
returns-then-not-is_pair c = no_pair c.args.self.field.accepted c.args.self.monic_of_degree_7 (sym c.is_pair.ensures ∙ c.if-not-is_pair.true)

pub curve_value-value-requires-clause-f_in : goal.curve_value-value-requires-clause-f_in
curve_value-value-requires-clause-f_in c = (curve_shown _ _ c.args.self.field.accepted c.args.self.monic_of_degree_7).1.in_range

pub curve_value-value-requires-clause-v_in : goal.curve_value-value-requires-clause-v_in
curve_value-value-requires-clause-v_in c = (formed (goal.at.curve_value-value-requires-clause-v_in c).Else-not-is_pair).v_range

pub curve_value-value-requires-clause-short : goal.curve_value-value-requires-clause-short
curve_value-value-requires-clause-short c = let p = formed (goal.at.curve_value-value-requires-clause-short c).Else-not-is_pair in omega (arith, p.u_len, p.v_len)

pub divide-requires-clause-b_in : goal.divide-requires-clause-b_in
divide-requires-clause-b_in c = (formed (goal.at.divide-requires-clause-b_in c).Else-not-is_pair).u_range

pub divide-requires-clause-nonzero : goal.divide-requires-clause-nonzero
divide-requires-clause-nonzero c = monic_nonzero (𝔸 _) _ (formed (goal.at.divide-requires-clause-nonzero c).Else-not-is_pair).u_monic

pub returns-then-length-eq0 : goal.returns-then-length-eq0
returns-then-length-eq0 c =
    divided c.args.self.field.accepted c.args.self.monic_of_degree_7 (sym c.is_pair.ensures ∙ c.if-not-is_pair.false) c.curve_value-value.ensures c.divide.ensures.1 c.length.ensures c.if-length-eq0.true c.divide.ensures.0

pub returns-else-length-eq0 : goal.returns-else-length-eq0
returns-else-length-eq0 c =
    undivided c.args.self.field.accepted c.args.self.monic_of_degree_7 (sym c.is_pair.ensures ∙ c.if-not-is_pair.false) c.curve_value-value.ensures c.divide.ensures.1 c.length.ensures c.if-length-eq0.false
