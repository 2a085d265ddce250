-- How far one changed operation moves the seal of a list of byte commits (docs/SPECIFICATION.md, 11).
-- The lists start from the stored form of any registers that no check refuses; any bytes may be given as operations,
-- into any outputs, and calls may be refused. Of the n accepted calls, all commits, only operation j differs: d, and e.
-- Opposite, sum and doublings are byte calls, each into an output of its own that has room, whatever it holds.
-- `displacement_bytes`: the last seal's record plus n - j doublings of the record of e - d is the other last record.
-- `displacement_writes`: the last of these sums writes the class field of the other list's last seal.
-- `moves_bytes`: the last seals' records differ if d and e differ.
-- `operations_read`: the records of the two operations are read, so no call on them is refused (`opposite_writes`,
-- `sum_writes`, `doublings_write` of ByteGroup).
use Prim.Native.Nat.{ℕ, ◌-◌, ◌≤◌}
use mathlib.Core.Path.{◌≡◌, refl, sym, ap, ap₂, ◌∙◌, subst}
use mathlib.Core.List.{List, ◌++◌}
use lib.ListN.{length, length-map}
use Rattle.jacobian.specs.{Answer.Accepts, Answer.Result, Group.sum_of, Group.difference, Group.doublings, declared.Curve.Curve, declared.Class.Class}
use Rattle.jacobian.proofs.Representation.{accepts_both}
use Rattle.history.specs.{Machine.last, Machine.newest, Calls.Variants, declared.Register.Register}
use Rattle.history.specs.Calls as history
use Rattle.history.proofs.{Registers.register_passes, TakingBack.last_curve, Displacement.both_accept, Displacement.displacement, Displacement.moves}
use Rattle.stored_form.specs.{Head.class_room, Classes.curve_fields_bytes, Classes.class_field}
use Rattle.written_form.specs.Effect.{write}
use Rattle.seal.specs.{Records.class_record_bytes, Rebuilt.last_field, Calls.sum_call}
use Rattle.seal.specs.Group.{ReadWith, sum_record_of, record_sum, record_difference, ClassRooms, doubled_record}
use Rattle.seal.specs.Steps.{Kept, ByteCall, byte_calls, BytesGiven, kept, decode_kept, decoded, newest_decoded, last_decoded, decoded_calls, InStoredForm, seal_record}
use Rattle.seal.proofs.{Decoding.seal_stored, ClassCalls.last_is, ByteSteps.last_stored, ByteCarried.newest_carried, ByteCarried.last_carried}
use Rattle.seal.proofs.ByteGroup.{Holds, read_again, sum_written, sum_holds, opposite_holds, doubled_holds, same_class}

-- ---- the record of a seal that is kept
seal_holds : (k : Kept) → InStoredForm k → {c : Curve} → (decode_kept k).curve ≡ c → Holds c (decode_kept k).seal (curve_fields_bytes c) (seal_record k)
unfolding class_record_bytes kept
seal_holds k form {c} same =
    let g = decode_kept k in
    let p = register_passes g form.passes in
    subst (λ (x : Curve). Holds x g.seal (curve_fields_bytes x) (seal_record k)) same
    (record {
      passes = accepts_both g.curve g.seal p.curve_passes p.seal_passes;
      bytes = ap₂ (λ (xs ys : List ℕ). xs ++ ys) (ap (λ (t : Kept). t.curve) (sym form.stored)) (seal_stored k form.stored);
      begins = refl;
    })

-- ---- one list of calls
module _ (k : Kept) (form : InStoredForm k) (cs : List ByteCall) (bytes : BytesGiven cs) where
  curve_kept : (last_decoded k cs).curve ≡ (decode_kept k).curve
  curve_kept = ap (λ (g : Register). g.curve) (last_carried k form cs bytes) ∙ last_curve (decode_kept k) (decoded_calls k cs)

  last_holds : {c : Curve} → (decode_kept k).curve ≡ c → Holds c (last_decoded k cs).seal (curve_fields_bytes c) (seal_record (last byte_calls k cs))
  unfolding last_decoded
  last_holds same = seal_holds (last byte_calls k cs) (last_stored k form bytes) (curve_kept ∙ same)

-- ---- two lists of calls
module _ (k t : Kept) (form : InStoredForm k) (form' : InStoredForm t) (cs ds : List ByteCall) (bytes : BytesGiven cs) (bytes' : BytesGiven ds)
    {j : ℕ} {d e : Class} (v : Variants j d e (decode_kept k) (decode_kept t) (newest_decoded k cs) (newest_decoded t ds)) where
  abbrev own : Curve
  own = (decode_kept k).curve

  -- as lists of register calls
  by_value : Variants j d e (decode_kept k) (decode_kept t) (history.newest (decode_kept k) (decoded_calls k cs)) (history.newest (decode_kept t) (decoded_calls t ds))
  by_value =
      subst (λ fs. Variants j d e (decode_kept k) (decode_kept t) (history.newest (decode_kept k) (decoded_calls k cs)) fs) (newest_carried t form' ds bytes')
      (subst (λ es. Variants j d e (decode_kept k) (decode_kept t) es (newest_decoded t ds)) (newest_carried k form cs bytes) v)

  many : length (history.newest (decode_kept k) (decoded_calls k cs)) ≡ length (newest byte_calls k cs)
  unfolding newest_decoded
  many = ap length (sym (newest_carried k form cs bytes)) ∙ length-map (newest byte_calls k cs) decoded

  begins : k.curve ≡ curve_fields_bytes own
  unfolding kept
  begins = ap (λ (s : Kept). s.curve) (sym form.stored)

  -- the record of a class on the curve
  class_holds : {a : Class} → Accepts own a → Holds own a (curve_fields_bytes own) (class_record_bytes own a)
  class_holds p = record { passes = p; bytes = refl; begins = refl }

  both_hold : Holds own d (curve_fields_bytes own) (class_record_bytes own d) × Holds own e (curve_fields_bytes own) (class_record_bytes own e)
  both_hold = let p = both_accept _ _ _ _ by_value in (class_holds p.0, class_holds p.1)

  was : Holds own (last_decoded k cs).seal (curve_fields_bytes own) (seal_record (last byte_calls k cs))
  was = last_holds k form cs bytes refl

  is : Holds own (last_decoded t ds).seal (curve_fields_bytes own) (seal_record (last byte_calls t ds))
  is = last_holds t form' ds bytes' v.same_curve

  read : {a : Class} {s : List ℕ} → Holds own a (curve_fields_bytes own) s → ReadWith k.curve s
  read {s = s} h = subst (λ (f : List ℕ). ReadWith f s) (sym begins) (read_again h)

  pub operations_read : ReadWith k.curve (class_record_bytes (decode_kept k).curve d) × ReadWith k.curve (class_record_bytes (decode_kept k).curve e)
  operations_read = (read both_hold.0, read both_hold.1)

  pub moves_bytes : ¬ (d ≡ e) → ¬ (seal_record (last byte_calls k cs) ≡ seal_record (last byte_calls t ds))
  moves_bytes differ same =
      moves _ _ _ _ by_value differ
      (ap (λ (g : Register). g.seal) (sym (last_carried k form cs bytes)) ∙ same_class was is same ∙ ap (λ (g : Register). g.seal) (last_carried t form' ds bytes'))

  module _ (mid out : List ℕ) (room : class_room ≤ length mid) (room' : class_room ≤ length out) where
    difference_holds : Holds own (difference own e d) (curve_fields_bytes own) (record_difference mid out (class_record_bytes own e) (class_record_bytes own d))
    difference_holds = sum_holds out room' both_hold.1 (opposite_holds mid room both_hold.0)

    module _ {outs : List (List ℕ)} (rooms : ClassRooms outs) (doubles : length outs ≡ length (newest byte_calls k cs) - j) (end : List ℕ) (room'' : class_room ≤ length end) where
      doubled_difference : Holds own (doublings own (length outs) (difference own e d)) (curve_fields_bytes own) (doubled_record outs (record_difference mid out (class_record_bytes own e) (class_record_bytes own d)))
      doubled_difference = doubled_holds rooms difference_holds

      -- the sum by value is the other list's last seal
      sum_is : sum_of own (last_decoded k cs).seal (doublings own (length outs) (difference own e d)) ≡ (last_decoded t ds).seal
      sum_is =
          ap₂ (λ (g : Register) (n : ℕ). sum_of own g.seal (doublings own n (difference own e d))) (last_carried k form cs bytes) (doubles ∙ ap (λ (n : ℕ). n - j) (sym many))
          ∙ ap (λ (r : Result). r.class) (displacement _ _ _ _ by_value)
          ∙ ap (λ (g : Register). g.seal) (sym (last_carried t form' ds bytes'))

      pub displacement_bytes :
          record_sum end (seal_record (last byte_calls k cs))
          (doubled_record outs (record_difference mid out (class_record_bytes (decode_kept k).curve e) (class_record_bytes (decode_kept k).curve d)))
          ≡ seal_record (last byte_calls t ds)
      displacement_bytes = (sum_holds end room'' was doubled_difference).bytes ∙ ap (class_record_bytes own) sum_is ∙ sym is.bytes

      pub displacement_writes :
          sum_call
          (sum_record_of (seal_record (last byte_calls k cs))
          (doubled_record outs (record_difference mid out (class_record_bytes (decode_kept k).curve e) (class_record_bytes (decode_kept k).curve d)))) end
          ≡ write (last_field (seal_record (last byte_calls t ds))) end
      displacement_writes =
          sum_written end room'' was doubled_difference
          ∙ ap (λ (b : List ℕ). write b end) (ap (class_field 0x43) sum_is ∙ sym (last_is own _ is.bytes))
