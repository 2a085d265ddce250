-- What the calls of multiples and halvings answer and write does not depend on what the lent output holds
-- (docs/SPECIFICATION.md, 6, 7 and 11).
-- `multiple_same_response`: on every input, two outputs that have room get the same answer and bytes from n times.
-- `halvings_same_response`: the same of k halvings.
use Prim.Native.Nat.{ℕ, ◌^◌, ◌≤◌, ◌<◌}
use mathlib.Core.{Path.◌≡◌, Path.refl, List.List, List.[], List.◌∷◌, List.◌++◌}
use lib.ListN.{length}
use Rattle.jacobian.specs.{Checks.check, Refusals.listed}
use Rattle.stored_form.specs.{Head.class_room, Reader.class_layout}
use Rattle.stored_form_theorems.specs.{Checking.record_checks, Numbers.class_field_lengths}
use Rattle.written_form.specs.Wrote.{response_given}
use Rattle.written_form.proofs.Wrote.{same_given}
use Rattle.seal_licence.specs.Calls.{multiple_call, halvings_call}
use Rattle.licence_theorems.specs.Checking.{multiple_numbers, halvings_numbers}
use Rattle.licence_theorems.proofs.WroteOrRefused.{multiple_checked, halvings_checked}

module _ (s out out' : List ℕ) (room : class_room ≤ length out) (room' : class_room ≤ length out') where
  pub multiple_same_response : (n : ℕ) → response_given (multiple_call n s out) ≡ response_given (multiple_call n s out')
  unfolding listed
  multiple_same_response n =
      same_given (record_checks class_layout s ++ check 118 (n < 2 ^ 61) ∷ []) class_field_lengths multiple_numbers _ out out' refl refl refl room room' (multiple_checked n s out) (multiple_checked n s out')

  pub halvings_same_response : (k : ℕ) → response_given (halvings_call k s out) ≡ response_given (halvings_call k s out')
  unfolding listed
  halvings_same_response k =
      same_given (record_checks class_layout s ++ check 119 (k ≤ 64) ∷ []) class_field_lengths halvings_numbers _ out out' refl refl refl room room' (halvings_checked k s out) (halvings_checked k s out')
