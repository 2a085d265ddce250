-- `kept_storable`: if no undo was accepted on a register that no check refuses, an archive can keep what is left, with
-- any allowed drawing number and any allowed pairs.
-- No check refuses the curve, the last seal and the classes of the accepted commits, which are no more than the limit.
use Prim.Native.Nat.{ℕ, ◌≤◌}
use mathlib.Core.Path.{◌≡◌, subst}
use mathlib.Core.Bool.{true}
use mathlib.Core.List.{List}
use lib.ListN.{length}
use Rattle.jacobian.specs.{Classes.class_refusal, declared.Curve.Curve}
use Rattle.jacobian.proofs.Representation.{accepts_both}
use Rattle.history.specs.{Register.register_refusal, Calls.Call, Calls.last, Calls.newest, Calls.classes, Calls.NoUndos, declared.Register.Register}
use Rattle.history.proofs.{Registers.register_passes, TakingBack.last_curve}
use Rattle.history.proofs.{Preserved.last_passes, Preserved.accepted_classes, Preserved.classes_accept, WalkingBack.accepted_few}
use Rattle.stored_form.specs.{Head.drawing_limit, Fields.printable}
use Rattle.stored_form_theorems.specs.Pairs.{PairsAllowed}
use Rattle.archive_theorems.specs.Written.{Storable}
use Rattle.report_theorems.specs.Demand3.{kept_archive}

pub kept_storable : (r : Register) (cs : List Call) → NoUndos (newest r cs) → register_refusal r ≡ 0 →
    (drawing : List ℕ) → printable drawing ≡ true → length drawing ≤ drawing_limit →
    (pairs : List ℕ) → PairsAllowed (length (classes (newest r cs))) pairs → length pairs ≤ 2048 → Storable (kept_archive r (last r cs) (newest r cs) drawing pairs)
unfolding kept_archive
kept_storable r cs only passes drawing clean short pairs allowed few =
    let curve_ok = (register_passes r passes).curve_passes in
    let left = register_passes (last r cs) (last_passes r cs passes) in
    record {
      curve_allowed = curve_ok;
      drawing_printable = clean;
      drawing_short = short;
      count_within = accepted_few r cs only;
      seal_allowed =
          accepts_both r.curve (last r cs).seal curve_ok
          (subst (λ (c : Curve). class_refusal c (last r cs).seal ≡ 0) (last_curve r cs) left.seal_passes);
      operations_allowed = classes_accept r.curve curve_ok (accepted_classes r cs);
      pairs_allowed = allowed;
      pairs_few = few;
    }
