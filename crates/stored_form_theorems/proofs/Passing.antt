-- The values of a record that is read pass their checks, whatever its bytes.
-- `curve_holds`: the curve of a record of a curve.
-- `class_holds`: the class of a record of one class.
-- `sum_holds`: both classes of a sum's record.
-- `register_holds`: the count, the released step and the seal of a register's record.
-- `step_holds`: the same and the operation's class of a commit's or an undo's record.
use Prim.Native.Nat.{ℕ}
use mathlib.Core.Path.{◌≡◌}
use mathlib.Core.List.{List}
use lib.Dec.{lit<}
use borrow.Author.Tests.{leb-true}
use Rattle.jacobian.specs.Curves.{curve_refusal}
use Rattle.stored_form.specs.{Reading.found, Fields.count_refusal, Fields.released_refusal, Passing.CountPasses, Passing.ReleasedPasses, Passing.ClassPasses, Tags.rules}
use Rattle.stored_form.specs.{Reader.read_record, Reader.curve_layout, Reader.class_layout, Reader.sum_layout, Reader.register_layout, Reader.step_layout, declared.Record.Record}
use Rattle.stored_form.proofs.{Readings.test_passed, Passing.Holds, Passing.record_holds}

module _ (s : List ℕ) {h : Record} {end : ℕ} where
  pub curve_holds : read_record curve_layout s ≡ found h end → curve_refusal h.curve ≡ 0
  unfolding Holds rules
  curve_holds = record_holds (λ m. curve_refusal m.curve ≡ 0) s curve_layout (λ d _ c e. e)

  pub class_holds : read_record class_layout s ≡ found h end → ClassPasses h.curve h.class
  unfolding Holds rules
  class_holds = record_holds (λ m. ClassPasses m.curve m.class) s class_layout (λ d _ c _ a e. record { none = e })

  pub sum_holds : read_record sum_layout s ≡ found h end → ClassPasses h.curve h.previous × ClassPasses h.curve h.class
  unfolding Holds rules
  sum_holds =
      record_holds (λ m. ClassPasses m.curve m.previous × ClassPasses m.curve m.class) s sum_layout
      (λ d _ c _ a e b f. (record { none = e }, record { none = f }))

  pub register_holds : read_record register_layout s ≡ found h end → CountPasses h.count × ReleasedPasses h.count h.released × ClassPasses h.curve h.class
  unfolding Holds rules count_refusal released_refusal
  register_holds =
      record_holds (λ m. CountPasses m.count × ReleasedPasses m.count m.released × ClassPasses m.curve m.class) s register_layout
      (λ d _ c _ n k r l a e. (leb-true _ _ (test_passed _ (lit< tt) k), leb-true _ _ (test_passed _ (lit< tt) l), record { none = e }))

  pub step_holds : read_record step_layout s ≡ found h end → CountPasses h.count × ReleasedPasses h.count h.released × ClassPasses h.curve h.class × ClassPasses h.curve h.operation
  unfolding Holds rules count_refusal released_refusal
  step_holds =
      record_holds (λ m. CountPasses m.count × ReleasedPasses m.count m.released × ClassPasses m.curve m.class × ClassPasses m.curve m.operation) s step_layout
      (λ d _ c _ n k r l a e b f. (leb-true _ _ (test_passed _ (lit< tt) k), leb-true _ _ (test_passed _ (lit< tt) l), record { none = e }, record { none = f }))
