-- `half` gives the half: the class itself where it is neutral, else the pair of the rule for its degree.
use native.Mathlib.Omega.{arith}
use Rattle.class_rows.proofs.HalfRows.Class.{non_neutral, half_neutral, halving_rows, half_1, half_2, half_3}
use Rattle.row_theory.proofs.Rows.{Length.places_len, Fill.zeros_range, Fill.zeros_poly}
use Rattle.class_rows.proofs.curve.Curve.half.Goals as goal

pub returns-in-0 : goal.returns-in-0
returns-in-0 c C on =
    half_neutral _ c.requires.reduced (places_len _ c.length.ensures _ c.requires.reduced.u_range) (omega arith) (c.one.ensures _) (record { in_range = zeros_range _ 12; stands = zeros_poly _ 12 }) C on

pub half_of_degree_1-requires : goal.half_of_degree_1-requires
half_of_degree_1-requires c =
    let p = c.requires in let k = non_neutral _ p.reduced p.cofactor (places_len _ c.length.ensures _ p.reduced.u_range) (omega arith) in halving_rows _ k 2 (omega (arith, k.short))

pub returns-in-2 : goal.returns-in-2
returns-in-2 c C o =
    let p = c.requires in let k = non_neutral _ p.reduced p.cofactor (places_len _ c.length.ensures _ p.reduced.u_range) (omega arith) in half_1 _ k C o (omega (arith, k.short)) c.half_of_degree_1.ensures

pub half_of_degree_2-requires : goal.half_of_degree_2-requires
half_of_degree_2-requires c =
    let p = c.requires in let k = non_neutral _ p.reduced p.cofactor (places_len _ c.length.ensures _ p.reduced.u_range) (omega arith) in halving_rows _ k 3 (omega (arith, k.short))

pub returns-in-3 : goal.returns-in-3
returns-in-3 c C o =
    let p = c.requires in let k = non_neutral _ p.reduced p.cofactor (places_len _ c.length.ensures _ p.reduced.u_range) (omega arith) in half_2 _ k C o (omega (arith, k.short)) c.half_of_degree_2.ensures

pub half_of_degree_3-requires : goal.half_of_degree_3-requires
half_of_degree_3-requires c =
    let p = c.requires in let k = non_neutral _ p.reduced p.cofactor (places_len _ c.length.ensures _ p.reduced.u_range) (omega arith) in halving_rows _ k 4 (omega (arith, k.short))

pub returns-in_default : goal.returns-in_default
returns-in_default c C o =
    let p = c.requires in let k = non_neutral _ p.reduced p.cofactor (places_len _ c.length.ensures _ p.reduced.u_range) (omega arith) in half_3 _ k C o (omega (arith, k.short)) c.half_of_degree_3.ensures
