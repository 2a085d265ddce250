-- Byte double and byte half undo each other (docs/SPECIFICATION.md, 11).
-- For every record that is read, and outputs that have room for a class field:
-- `double_writes`, `half_writes`: each writes the field of what its call by value gives, so neither is refused.
-- `half_of_double_bytes`: half on the record rebuilt from double's output writes the record's class field.
-- `double_of_half_bytes`: double on the record rebuilt from half's output does the same.
-- `only_half_bytes`: the half's record is the only one of that curve whose byte double is the class field given.
use Prim.Native.Nat.{ℕ, ◌≤◌}
use mathlib.Core.Path.{◌≡◌, sym, ap, ◌∙◌}
use mathlib.Core.List.{List, ◌++◌}
use native.Mathlib.Omega.{arith}
use lib.ListN.{length}
use Rattle.jacobian.specs.{Answer.Result, Answer.result, Answer.double_answer, Answer.half_answer, declared.Curve.Curve, declared.Class.Class}
use Rattle.jacobian.proofs.Calls.{double_of_half, half_of_double}
use Rattle.stored_form.specs.{Number.Bytes, Reading.found, Head.class_room, Classes.class_field, Reader.read_record, Reader.class_layout, declared.Record.Record}
use Rattle.written_form.specs.Effect.{Effect, write}
use Rattle.stored_form_theorems.proofs.{ClassRoundTrips.class_short, Cuts.cut_whole}
use Rattle.seal.specs.{Rebuilt.first_fields, Rebuilt.last_field, Rebuilt.class_rebuilt, Calls.answered, Calls.double_call, Calls.half_call}
use Rattle.seal.proofs.{Passing.class_holds, Passing.double_given, Passing.half_given, ClassCalls.call_writes, ClassCalls.rebuilt_write, ClassCalls.last_short, ClassCalls.is_stored, ClassCalls.taken_back}

doubled : Curve → Class → Result
doubled c a = result (double_answer c a)

halved : Curve → Class → Result
halved c a = result (half_answer c a)

-- ---- what is written

module _ (s out : List ℕ) (room : class_room ≤ length out) {h : Record} {end : ℕ} (read : read_record class_layout s ≡ found h end) where
  pub double_writes : double_call s out ≡ write (class_field 0x43 (double_answer h.curve h.class).class) out
  unfolding answered doubled
  double_writes = call_writes s out room read doubled (double_given (class_holds s read))

  pub half_writes : half_call s out ≡ write (class_field 0x43 (half_answer h.curve h.class).class) out
  unfolding answered halved
  half_writes = call_writes s out room read halved (half_given (class_holds s read))

-- ---- a record that is read
module _ (s : List ℕ) (bytes : Bytes s) {h : Record} {end : ℕ} (read : read_record class_layout s ≡ found h end) (out : List ℕ) (room : class_room ≤ length out) (last : List ℕ) (room' : class_room ≤ length last) where
  pub half_of_double_bytes : half_call (class_rebuilt s (double_call s out)) last ≡ write (last_field s) last
  unfolding answered doubled halved
  half_of_double_bytes =
      let w = is_stored s bytes read in
      let p = w.passes in
      taken_back w out room last room' doubled halved (double_given p) (half_given (double_given p).passes) (half_of_double _ p)

  pub double_of_half_bytes : double_call (class_rebuilt s (half_call s out)) last ≡ write (last_field s) last
  unfolding answered doubled halved
  double_of_half_bytes =
      let w = is_stored s bytes read in
      let p = w.passes in
      taken_back w out room last room' halved doubled (half_given p) (double_given (half_given p).passes) (double_of_half _ p)

  pub only_half_bytes : (t : List ℕ) → first_fields t ≡ first_fields s → double_call s out ≡ write (last_field t) out → s ≡ class_rebuilt t (half_call t last)
  unfolding write
  only_half_bytes t same double =
      let w = is_stored s bytes read in
      let twice = class_field 0x43 (double_answer h.curve h.class).class in
      let long : length twice ≡ length (last_field t) = ap (λ (e : Effect). e.answer) (sym (double_writes s out room read) ∙ double) in
      let short : length twice ≤ class_room = class_short 0x43 h.curve _ (double_given (class_holds s read)).passes.none in
      let back : class_rebuilt s (double_call s out) ≡ t =
      ap (class_rebuilt s) double ∙ rebuilt_write s (last_field t) out (omega arith) ∙ ap (λ (l : List ℕ). l ++ last_field t) (sym same) ∙ cut_whole 2 t in
      sym
      (ap (class_rebuilt t) (ap (λ (l : List ℕ). half_call l last) (sym back) ∙ half_of_double_bytes)
      ∙ rebuilt_write t (last_field s) last (last_short w.bytes w.passes)
      ∙ ap (λ (l : List ℕ). l ++ last_field s) same
      ∙ cut_whole 2 s)
