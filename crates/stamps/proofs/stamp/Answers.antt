-- `stamp` meets its contract.
use Rattle.std.proofs.lemmas.Result.{err_from_is_err_and}
use Rattle.jacobian.proofs.ByValue.{Checks.curve_passes, Passing.on_curve}
use Rattle.stamps.proofs.Search.{refused_first, answered_last, passed}
use Rattle.stamps.proofs.stamp.Goals as goal

pub returns-in_err-check_stamp : goal.returns-in_err-check_stamp
returns-in_err-check_stamp c =
    let p = err_from_is_err_and c.from_residual.result c.from_residual.ensures.1 in
    rw (p.1, p.2) (refused_first _ _ _ c.in_err-check_stamp.ensures)

pub first_class-requires : goal.first_class-requires
first_class-requires c = (passed _ _ c.in_ok-check_stamp.ensures).1

pub invariant_of-f : goal.invariant_of-f
invariant_of-f c = let p = curve_passes _ (passed _ _ c.in_ok-check_stamp.ensures).0 in record { accepted = p.accepted; in_range = (on_curve _ p c.f_row.ensures).in_range }

pub returns : goal.returns
returns c = answered_last _ _ c.in_ok-check_stamp.ensures c.f_row.ensures c.first_class.ensures
