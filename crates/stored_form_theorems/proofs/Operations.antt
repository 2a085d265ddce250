-- Operations in order, newest first, as `read_operations` reads them.
-- `newest`, `no_operations`: the newest operation and the older ones, or none.
-- `operations_counted`: there are as many as were asked for.
-- `operations_sound`: they are classes that no check refuses on the curve.
-- `operations_written`: the bytes that were read are their encoding.
-- `operations_read_back`: the encoding of such operations is read back.
-- `operations_bytes`: the encoding is a list of bytes.
-- `operations_short`: it has at most `class_room` bytes for each operation.
use Prim.Native.Nat.{ℕ, zero, suc, ◌*◌, ◌≤◌}
use mathlib.Core.Path.{◌≡◌, refl, sym, ap, ◌∙◌, subst, subst₂}
use mathlib.Core.List.{List, [], ◌∷◌}
use native.Mathlib.Omega.{arith}
use lib.Dec.{lit<}
use lib.ListN.{length, length-append}
use Rattle.lists.specs.Lists.{All, none, more}
use Rattle.jacobian.specs.{declared.Curve.Curve, declared.Class.Class}
use Rattle.stored_form.specs.{Number.Bytes, Reading.found, Head.class_room, Classes.class_field, Classes.operation_fields, Passing.ClassPasses}
use Rattle.stored_form.specs.{Tags.rules, Reader.read_field, Reader.read_operations, declared.Record.Record}
use Rattle.stored_form.proofs.{Readings.then_found, Readings.both_found, Readings.same_found, Readers.field_found, Readers.with_field_operation}
use Rattle.stored_form_theorems.specs.Fields.{Field}
use Rattle.stored_form_theorems.proofs.{Places.behind, Places.apart, Places.up_to, FieldLaws.value_written, FieldLaws.value_read_back, FieldValues.operation_law}
use Rattle.stored_form_theorems.proofs.{ClassRoundTrips.class_short, Written.bytes_append, Written.class_bytes}

-- ---- operations that were read

module _ (h : Record) (s : List ℕ) (at : ℕ) where
  -- the newest operation, the record with it, and the older ones
  pub record Newest (k : ℕ) (ops : List Class) (end : ℕ) : Type 0 where
    pub values : Record
    pub next : ℕ
    pub older : List Class
    pub this : read_field 0x44 h s at ≡ found values next
    pub rest : read_operations k values s next ≡ found older end
    pub all : ops ≡ values.operation ∷ older

  pub newest : (k : ℕ) {ops : List Class} {end : ℕ} → read_operations (suc k) h s at ≡ found ops end → Newest k ops end
  unfolding read_operations
  newest k e =
      let this = both_found _ (read_field 0x44 h s at) e in
      let rest = both_found _ (read_operations k this.0 s this.1) this.3 in
      let same = same_found rest.3 in
      record { values = this.0; next = this.1; older = rest.0; this = this.2; rest = rest.2 ∙ ap (found rest.0) same.1; all = sym same.0 }

  pub no_operations : {ops : List Class} {end : ℕ} → read_operations 0 h s at ≡ found ops end → ops ≡ []
  unfolding read_operations
  no_operations e = sym (same_found e).0

  module _ {more : Record} {next : ℕ} (e : read_field 0x44 h s at ≡ found more next) where
    same_curve : more.curve ≡ h.curve
    same_curve = ap (λ (m : Record). m.curve) (with_field_operation h s at e)

    pub operation_sound : ClassPasses h.curve more.operation
    unfolding rules
    operation_sound = subst (λ (c : Curve). ClassPasses c more.operation) same_curve (record { none = (field_found 0x44 h s at e).passes })

module _ (s : List ℕ) where
  pub operations_counted : (n : ℕ) (h : Record) (at : ℕ) {ops : List Class} {end : ℕ} → read_operations n h s at ≡ found ops end → length ops ≡ n
  operations_counted zero h at e = ap length (no_operations h s at e)
  operations_counted (suc n) h at e =
      let m = newest h s at n e in
      ap length m.all ∙ ap suc (operations_counted n m.values m.next m.rest)

  pub operations_sound : (n : ℕ) (h : Record) (at : ℕ) {ops : List Class} {end : ℕ} → read_operations n h s at ≡ found ops end → All (ClassPasses h.curve) ops
  operations_sound zero h at e = subst (All (ClassPasses h.curve)) (sym (no_operations h s at e)) none
  operations_sound (suc n) h at e =
      let m = newest h s at n e in
      let rest = subst (λ (c : Curve). All (ClassPasses c) m.older) (same_curve h s at m.this) (operations_sound n m.values m.next m.rest) in
      subst (All (ClassPasses h.curve)) (sym m.all) (more (operation_sound h s at m.this) rest)

  pub operations_written : (n : ℕ) (h : Record) (at : ℕ) {ops : List Class} {end : ℕ} → Bytes s → read_operations n h s at ≡ found ops end → Field s at (operation_fields ops) end
  unfolding operation_fields read_operations
  operations_written zero h at b e =
      let same = same_found e in
      subst₂ (λ (ops : List Class) (end : ℕ). Field s at (operation_fields ops) end) same.0 same.1 (record { stands = refl; ends = omega arith })
  operations_written (suc n) h at {end = end} b e =
      let m = newest h s at n e in
      let this = value_written (operation_law h) s at b m.this in
      let rest = operations_written n m.values m.next b m.rest in
      subst (λ (ops : List Class). Field s at (operation_fields ops) end) (sym m.all)
      (behind (class_field 0x44 m.values.operation) (operation_fields m.older) this.2 rest)

-- ---- operations that are encoded

pub operations_read_back : (h : Record) (s : List ℕ) (at : ℕ) (ops : List Class) {end : ℕ} → All (ClassPasses h.curve) ops → Field s at (operation_fields ops) end →
    read_operations (length ops) h s at ≡ found ops end
unfolding read_operations operation_fields
operations_read_back h s at [] none f = ap (found []) (let e = f.ends in omega arith)
operations_read_back h s at (a ∷ older) (more p ps) f =
    let parts = apart (class_field 0x44 a) (operation_fields older) f in
    then_found _ (up_to parts.1 (value_read_back (operation_law h) s at p))
    ∙ then_found _ (operations_read_back _ s parts.0 older ps parts.2)

pub operations_bytes : (ops : List Class) → Bytes (operation_fields ops)
unfolding operation_fields
operations_bytes [] i = lit< tt
operations_bytes (a ∷ older) i = bytes_append (class_field 0x44 a) (operation_fields older) (class_bytes 0x44 a (lit< tt)) (operations_bytes older) i

pub operations_short : (c : Curve) (ops : List Class) → All (ClassPasses c) ops → length (operation_fields ops) ≤ class_room * length ops
unfolding operation_fields
operations_short c [] none = omega arith
operations_short c (a ∷ older) (more h hs) =
    omega (arith, length-append (class_field 0x44 a) (operation_fields older), class_short 0x44 c a h.none, operations_short c older hs)
