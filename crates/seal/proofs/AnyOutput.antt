-- What a call answers and writes does not depend on what the lent output holds (docs/SPECIFICATION.md, 6 and 11).
-- `same_response`: on every input, two outputs that have room get the same answer and the same bytes.
-- `same_request`: the same of a commit, an undo and a release.
use Prim.Native.Nat.{ℕ, ◌≤◌}
use mathlib.Core.{Path.◌≡◌, Path.refl, Bool.true, List.List, List.◌++◌}
use lib.ListN.{length}
use Rattle.jacobian.specs.Refusals.{listed}
use Rattle.jacobian.proofs.Checking.{among}
use Rattle.stored_form_theorems.specs.Checking.{record_checks, record_values}
use Rattle.written_form.specs.{Effect.register_room, Wrote.response_given}
use Rattle.written_form.proofs.Wrote.{same_given}
use Rattle.seal.specs.{Calls.answered, Calls.tags, Calls.room, Calls.called, Checking.least_output, Checking.last_checks, Checking.numbers, Checking.lengths, Steps.Request, Steps.request_call}
use Rattle.seal.specs.declared.calls.Call.{Call}
use Rattle.seal.specs.declared.calls.Call.TheVariants.{Opposite, Double, Half, Sum, Stamp}
use Rattle.seal.proofs.{Checking.call_checked, WroteOrRefused.lengths_low, WroteOrRefused.room_is}

-- the numbers of a call's checks after that of the room are its own
numbered : (call : Call) (s : List ℕ) → among (record_checks (tags call) s ++ last_checks call (record_values (tags call) s)) (numbers call) ≡ true
unfolding listed
numbered Opposite s = refl
numbered Double s = refl
numbered Half s = refl
numbered Sum s = refl
numbered Call.Commit s = refl
numbered Call.Undo s = refl
numbered Call.Release s = refl
numbered (Stamp n) s = refl

module _ (s out out' : List ℕ) where
  pub same_response : (call : Call) → room call ≤ length out → room call ≤ length out' → response_given (called call s out) ≡ response_given (called call s out')
  same_response call r r' =
      let h = record_values (tags call) s in
      same_given (record_checks (tags call) s ++ last_checks call h) (lengths call) (numbers call) (answered call h).bytes out out' (lengths_low call).0 (lengths_low call).1 (numbered call s)
      (roomy call out r) (roomy call out' r') (call_checked call s out) (call_checked call s out')
    where
      roomy : (call : Call) (out : List ℕ) → room call ≤ length out → least_output call ≤ length out
      roomy Opposite out r = r
      roomy Double out r = r
      roomy Half out r = r
      roomy Sum out r = r
      roomy Call.Commit out r = r
      roomy Call.Undo out r = r
      roomy Call.Release out r = r
      roomy (Stamp n) out r = r

  pub same_request : (q : Request) → register_room ≤ length out → register_room ≤ length out' → response_given (called (request_call q) s out) ≡ response_given (called (request_call q) s out')
  same_request q r r' = same_response (request_call q) (rw (room_is q) r) (rw (room_is q) r')
