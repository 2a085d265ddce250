-- The conversion of a pair of rows meets its contract: the degree is the number of places of u less 1.
use Prim.Native.Nat.{ℕ}
use mathlib.Core.Path.{sym, ◌∙◌, ap₂}
use mathlib.Core.List.{List}
use native.Mathlib.Omega.{arith}
use Rattle.row_theory.proofs.Rows.Length.{places_len}
use Rattle.jacobian.proofs.ByValue.Pairs.{class_of_rows}
use Rattle.jacobian.proofs.classes.ClassFromRowPair.from.Goals as goal

pub returns : goal.returns
returns c =
    λ d hu hv.
    let n = c.saturating_sub-degree.result in
    let e = places_len _ c.length.ensures d hu in
    ap₂ (λ (x y : List ℕ). record { degree = n; u = x; v = y }) c.narrowed.ensures c.narrowed-2.ensures
    ∙ sym (class_of_rows d c.args.a hu hv n (omega (arith, e, c.saturating_sub-degree.ensures)))
