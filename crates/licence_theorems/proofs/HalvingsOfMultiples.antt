-- The library's own two byte calls undo each other (docs/SPECIFICATION.md, 7 and 11), for every record of one class
-- that is read, where both outputs have room for a class field and k is below 61, so that 2^k is within its limit.
-- `halvings_of_multiple_bytes`: k halvings of the record rebuilt from 2^k times write the record's own class field.
-- `multiple_of_halvings_bytes`: 2^k times the record rebuilt from k halvings writes the record's own class field.
use Prim.Native.Nat.{ℕ, ◌^◌, ◌≤◌, ◌<◌}
use mathlib.Core.Path.{◌≡◌}
use mathlib.Core.List.{List}
use native.Mathlib.Omega.{arith}
use lib.{ListN.length, Pow.pow-lt}
use Rattle.stored_form.specs.{Number.Bytes, Reading.found, Head.class_room, Reader.read_record, Reader.class_layout, declared.Record.Record}
use Rattle.written_form.specs.Effect.{write}
use Rattle.seal.specs.{Records.ClassStored, Rebuilt.last_field, Rebuilt.class_rebuilt}
use Rattle.seal.proofs.ClassCalls.{is_stored, taken_back}
use Rattle.seal_licence.specs.{Multiples.halvings_limit, Multiples.multiple_answer, Multiples.halvings_answer, Calls.answered, Calls.multiple_call, Calls.halvings_call}
use Rattle.seal_licence.proofs.Theorems.{halvings_of_multiple, multiple_of_halvings}
use Rattle.licence_theorems.proofs.Passing.{multiple_given, halvings_given}

module _ (s : List ℕ) (bytes : Bytes s) {h : Record} {end : ℕ} (read : read_record class_layout s ≡ found h end) where
  stored : ClassStored s h
  stored = is_stored s bytes read

  module _ (mid out : List ℕ) (room : class_room ≤ length mid) (room' : class_room ≤ length out) (k : ℕ) (l : k < 61) where
    k≤ : k ≤ halvings_limit
    k≤ = omega (arith, l)

    pub halvings_of_multiple_bytes : halvings_call k (class_rebuilt s (multiple_call (2 ^ k) s mid)) out ≡ write (last_field s) out
    unfolding answered
    halvings_of_multiple_bytes =
        let g = multiple_given stored.passes (2 ^ k) (pow-lt l) in
        taken_back stored mid room out room' (λ c a. multiple_answer c a (2 ^ k)) (λ c a. halvings_answer c a k) g (halvings_given g.passes k k≤)
        (halvings_of_multiple stored.passes k l)

    pub multiple_of_halvings_bytes : multiple_call (2 ^ k) (class_rebuilt s (halvings_call k s mid)) out ≡ write (last_field s) out
    unfolding answered
    multiple_of_halvings_bytes =
        let g = halvings_given stored.passes k k≤ in
        taken_back stored mid room out room' (λ c a. halvings_answer c a k) (λ c a. multiple_answer c a (2 ^ k)) g (multiple_given g.passes (2 ^ k) (pow-lt l))
        (multiple_of_halvings stored.passes k l)
