-- `examples`: every row of the table of examples holds, over either field.
-- `further_examples`: so does every row of our own tables, on curves with f3, f1 and f0 all different.
-- The rows are computed, and the numbers compared with those of the table.
use Prim.Native.Nat.{ℕ}
use mathlib.Core.Bool.{Bool, true, ◌&&◌}
use mathlib.Core.List.{List, [], ◌∷◌}
use lib.Dec.{T, eqb, eqb→eq}
use mir.Facts.{and_yes}
use Rattle.lists.specs.Lists.{All, none, more}
use Rattle.binary_field_theory.specs.Element.{Accepted}
use Rattle.class_group.specs.Mumford.{Pair}
use Rattle.class_group.specs.Operations.{double, sum}
use Rattle.class_group.specs.Half.{half}
use Rattle.row_theory.specs.Field.{Poly}
use Rattle.jacobian.specs.declared.Curve.{Curve}
use Rattle.jacobian.specs.declared.Class.{Class}
use Rattle.jacobian.specs.Curves.{curve}
use Rattle.jacobian.specs.Classes.{pair}
use Rattle.jacobian.specs.Answer.{Result, result, accepted, refused, membership_answer, double_answer, half_answer, sum_answer}
use Rattle.jacobian.specs.Examples.{Example, twice_is, half_is, sum_is, on_and_not_on, Gives, Holds, table}
use Rattle.jacobian.specs.FurtherExamples.{bench_table, wide_table}
use Rattle.jacobian.proofs.ByValue.Degrees.{by_degree}
use Rattle.jacobian.proofs.Computing.{computing}
use Rattle.jacobian.proofs.Examples.Compare.{alike_pairs, pairs_eq, alike_verdicts, verdicts_eq, alike_results, results_eq}
pub mod Compare

-- ---- the test of a row, and of all
abbrev gives : (c : Curve) → Pair (Poly c.degree) → Result → Class → Bool
gives c D s r = alike_pairs c.degree D (pair c.degree r) && alike_results s (record { outcome = accepted; class = r })

abbrev test : Example → Bool
test (twice_is c a r) = gives c (double (curve c) (pair c.degree a)) (result (double_answer c a)) r
test (half_is c a r n) = gives c (half (curve c) (pair c.degree a)) (result (half_answer c a)) r && eqb (double_answer c r).steps n
test (sum_is c a b r) = gives c (sum (curve c) (pair c.degree a) (pair c.degree b)) (result (sum_answer c a b)) r
test (on_and_not_on c e a) = alike_verdicts (membership_answer c a) accepted && alike_verdicts (membership_answer e a) (refused 111)

abbrev test_all : List Example → Bool
test_all [] = true
test_all (e ∷ es) = test e && test_all es

computed : T (test_all (table 5)) × T (test_all (table 61))
unfolding computing
computed = (tt, tt)

computed_bench : T (test_all bench_table)
unfolding computing
computed_bench = tt

computed_wide : T (test_all wide_table)
unfolding computing
computed_wide = tt

-- ---- what passes the test holds
gives_gives : (c : Curve) (D : Pair (Poly c.degree)) (s : Result) (r : Class) → T (gives c D s r) → Gives c D s r
gives_gives c D s r t =
    let answer : Result = record { outcome = accepted; class = r } in
    let h = and_yes (alike_pairs c.degree D (pair c.degree r)) (alike_results s answer) t in
    (pairs_eq c.degree D (pair c.degree r) h.0, results_eq s answer h.1)

test_holds : (e : Example) → T (test e) → Holds e
test_holds (twice_is c a r) t = gives_gives c _ _ r t
test_holds (half_is c a r n) t =
    let h = and_yes (gives c (half (curve c) (pair c.degree a)) (result (half_answer c a)) r) (eqb (double_answer c r).steps n) t in
    (gives_gives c _ _ r h.0, eqb→eq (double_answer c r).steps n h.1)
test_holds (sum_is c a b r) t = gives_gives c _ _ r t
test_holds (on_and_not_on c e a) t =
    let h = and_yes (alike_verdicts (membership_answer c a) accepted) (alike_verdicts (membership_answer e a) (refused 111)) t in
    (verdicts_eq (membership_answer c a) accepted h.0, verdicts_eq (membership_answer e a) (refused 111) h.1)

all_hold : (es : List Example) → T (test_all es) → All Holds es
all_hold [] t = none
all_hold (e ∷ es) t =
    let h = and_yes (test e) (test_all es) t in
    more (test_holds e h.0) (all_hold es h.1)

-- the twelve examples, over either field (docs/SPECIFICATION.md, 2.9)
pub examples : (d : ℕ) → Accepted d → All Holds (table d)
examples = by_degree (λ d. All Holds (table d)) (all_hold (table 5) computed.0) (all_hold (table 61) computed.1)

-- our own examples, over the bench field and over that of degree 61
pub further_examples : All Holds bench_table × All Holds wide_table
further_examples = (all_hold bench_table computed_bench, all_hold wide_table computed_wide)
