-- The laws of the group by bytes (docs/SPECIFICATION.md, 11).
-- For records of classes that are read and have the same fields of degree and curve, and outputs that have room:
-- `sum_writes`, `opposite_writes`: each call writes the field of what the call by value gives.
-- `doublings_write`: so does a doubling after any number of doublings, each into an output of its own.
-- `sum_read`, `opposite_read`, `neutral_read`: the rebuilt record is read again.
-- `sum_comm_bytes`: a sum in either order answers the same and leaves the same output.
-- `sum_assoc_bytes`: so do sums in either grouping.
-- `sum_neutral_bytes`: the sum with the neutral class writes the class's own field.
-- `sum_opposite_bytes`: the sum of a class and its opposite writes the field of the neutral class.
-- `byte_group`: these records are a commutative group, so all laws of groups in class_group hold of them. What a call
-- writes is the same in every output that has room (`same_response` of AnyOutput), so one output stands for all.
-- `byte_doubling`: doubling is one to one on them.
-- `sum_record_parts`: every record of a sum that is read is made of two such records.
use Prim.Native.Nat.{ℕ, suc, ◌≤◌}
use mathlib.Core.Path.{◌≡◌, refl, sym, ap, ◌∙◌, subst}
use mathlib.Core.List.{List}
use lib.Dec.{lit<}
use lib.ListN.{length}
use Rattle.lists.specs.{Lists.none, Lists.more, Walk.foldl}
use Rattle.class_group.specs.{Group.CommutativeGroup, Group.Doubling, Multiples.repeat}
use Rattle.class_group.proofs.Doublings.{repeat_inner}
use Rattle.jacobian.specs.{Curves.curve_refusal, Answer.result, Answer.neutral_class, Answer.opposite_answer, Answer.double_answer}
use Rattle.jacobian.specs.Group.{sum_of, opposite_of, double_of, doublings}
use Rattle.jacobian.specs.declared.{Curve.Curve, Class.Class}
use Rattle.jacobian.proofs.{Calls.neutral_accepts, Group.group, Group.doubling}
use Rattle.stored_form.specs.{Number.Bytes, Reading.found, Head.class_room, Passing.ClassPasses, Classes.curve_fields_bytes, Classes.class_field}
use Rattle.stored_form.specs.Reader.{read_record, curve_layout, class_layout, sum_layout}
use Rattle.stored_form.specs.declared.Record.{Record}
use Rattle.stored_form.proofs.Readings.{same_found}
use Rattle.stored_form_theorems.specs.Records as records
use Rattle.stored_form_theorems.proofs.{RecordRoundTrips.record_read_back, FieldValues.curve_more, Written.bytes_append, Written.class_bytes, Written.first_bytes}
use Rattle.written_form.specs.Effect.{write}
use Rattle.seal.specs.{Records.class_values, Records.class_record_bytes, Records.sum_values, Records.sum_record_bytes, Records.SumStored, Rebuilt.last_field, Rebuilt.class_rebuilt, Calls.answered, Calls.opposite_call, Calls.double_call, Calls.sum_call}
use Rattle.seal.specs.Group.{ReadWith, sum_record_of, record_sum, record_opposite, record_double, ClassRooms, doubled_record, neutral_record}
use Rattle.seal.proofs.{Written.curve_passes, Written.sum_record_back, Written.sum_record_written, Passing.class_holds, Passing.opposite_given, Passing.double_given, Passing.sum_given}
use Rattle.seal.proofs.ClassCalls.{class_written, first_is, last_is, rebuilt_bytes, stored_read, stored_writes, stored_rebuilt, is_stored}

-- ---- a class's record and its values

-- two accepted curves with the same fields are the same
same_curve : {c d : Curve} → curve_refusal c ≡ 0 → curve_refusal d ≡ 0 → curve_fields_bytes c ≡ curve_fields_bytes d → c ≡ d
same_curve {c} {d} p q e =
    ap (λ (h : Record). h.curve)
    (same_found
    (sym (record_read_back curve_layout (curve_fields_bytes c) (curve_more c p records.none))
    ∙ ap (read_record curve_layout) e
    ∙ record_read_back curve_layout (curve_fields_bytes d) (curve_more d q records.none))).0

-- the record s of an accepted class, and the fields of degree and curve with which it begins
pub record Holds (c : Curve) (a : Class) (fields s : List ℕ) : Type 0 where
  pub passes : ClassPasses c a
  pub bytes : s ≡ class_record_bytes c a
  pub begins : fields ≡ curve_fields_bytes c

-- a record that is read is such a record
own : {fields s : List ℕ} (r : ReadWith fields s) → Holds r.values.curve r.values.class fields s
own {s = s} r =
    let w = is_stored s r.bytes r.read in
    let stored = w.bytes ∙ sym (ap (λ (h : Record). class_record_bytes h.curve h.class) w.values) in
    record { passes = class_holds s r.read; bytes = stored; begins = sym r.begins ∙ first_is r.values.curve r.values.class stored }

-- records with the same first fields have the same curve
same_curves : {fields s t : List ℕ} (x : ReadWith fields s) (y : ReadWith fields t) → y.values.curve ≡ x.values.curve
same_curves x y = same_curve (curve_passes (own y).passes) (curve_passes (own x).passes) (sym (own y).begins ∙ (own x).begins)

beside : {fields s t : List ℕ} (x : ReadWith fields s) (y : ReadWith fields t) → Holds x.values.curve y.values.class fields t
beside {fields} {t = t} x y = subst (λ c. Holds c y.values.class fields t) (same_curves x y) (own y)

-- such a record is read
pub read_again : {c : Curve} {a : Class} {fields s : List ℕ} → Holds c a fields s → ReadWith fields s
unfolding class_record_bytes
read_again {c} {a} {s = s} x = record {
  bytes = subst Bytes (sym x.bytes) (bytes_append (curve_fields_bytes c) (class_field 0x43 a) (first_bytes c) (class_bytes 0x43 a (lit< tt)));
  begins = first_is c a x.bytes ∙ sym x.begins;
  values = class_values c a;
  end = length s;
  read = stored_read x.bytes x.passes;
}

-- ---- the byte sum of two classes that pass
pub sum_record_writes : {c : Curve} {a b : Class} → ClassPasses c a → ClassPasses c b → {s : List ℕ} → s ≡ sum_record_bytes c a b → (out : List ℕ) → class_room ≤ length out
    → sum_call s out ≡ write (class_field 0x43 (sum_of c a b)) out
unfolding answered
sum_record_writes {c} {a} {b} p q {s} bytes out room =
    let stored : SumStored s (sum_values c a b) = record { curve = c; first = a; second = b; values = refl; bytes = bytes; first_passes = p; second_passes = q } in
    class_written sum_layout _ s out room (sum_record_back stored) (sum_given p q) refl

pub sum_record_is : (c : Curve) (a b : Class) {s t : List ℕ} → s ≡ class_record_bytes c a → t ≡ class_record_bytes c b → sum_record_of s t ≡ sum_record_bytes c a b
unfolding sum_record_bytes
sum_record_is c a b x y = rw (first_is c a x, last_is c a x, last_is c b y)

-- ---- what the calls write, and the records rebuilt from it
module _ {c : Curve} {fields : List ℕ} (out : List ℕ) (room : class_room ≤ length out) where
  pub sum_written : {a b : Class} {s t : List ℕ} → Holds c a fields s → Holds c b fields t → sum_call (sum_record_of s t) out ≡ write (class_field 0x43 (sum_of c a b)) out
  sum_written x y = sum_record_writes x.passes y.passes (sum_record_is c _ _ x.bytes y.bytes) out room

  pub sum_holds : {a b : Class} {s t : List ℕ} → Holds c a fields s → Holds c b fields t → Holds c (sum_of c a b) fields (record_sum out s t)
  sum_holds {a} {b} {s} x y = record {
    passes = (sum_given x.passes y.passes).passes;
    bytes = ap (class_rebuilt s) (sum_written x y) ∙ rebuilt_bytes c a x.bytes (sum_given x.passes y.passes).passes out;
    begins = x.begins;
  }

  opposite_written : {a : Class} {s : List ℕ} → Holds c a fields s → opposite_call s out ≡ write (class_field 0x43 (opposite_of c a)) out
  unfolding answered
  opposite_written x = stored_writes x.bytes x.passes (λ d a. result (opposite_answer d a)) (opposite_given x.passes) out room

  pub opposite_holds : {a : Class} {s : List ℕ} → Holds c a fields s → Holds c (opposite_of c a) fields (record_opposite out s)
  unfolding answered
  opposite_holds x = record {
    passes = (opposite_given x.passes).passes;
    bytes = stored_rebuilt x.bytes x.passes (λ d a. result (opposite_answer d a)) (opposite_given x.passes) out room;
    begins = x.begins;
  }

  pub double_holds : {a : Class} {s : List ℕ} → Holds c a fields s → Holds c (double_of c a) fields (record_double out s)
  unfolding answered
  double_holds x = record {
    passes = (double_given x.passes).passes;
    bytes = stored_rebuilt x.bytes x.passes (λ d a. result (double_answer d a)) (double_given x.passes) out room;
    begins = x.begins;
  }

neutral_holds : {c : Curve} {a : Class} {fields s : List ℕ} → Holds c a fields s → Holds c neutral_class fields (neutral_record fields)
unfolding class_record_bytes
neutral_holds {c} x = record { passes = neutral_accepts c (curve_passes x.passes); bytes = ap neutral_record x.begins; begins = x.begins }

-- ---- no call is refused, and what it writes makes a record that is read
module _ {fields s : List ℕ} (x : ReadWith fields s) where
  abbrev c : Curve
  c = x.values.curve

  abbrev a : Class
  a = x.values.class

  pub neutral_read : ReadWith fields (neutral_record fields)
  neutral_read = read_again (neutral_holds (own x))

  module _ (out : List ℕ) (room : class_room ≤ length out) where
    pub opposite_writes : opposite_call s out ≡ write (class_field 0x43 (opposite_of x.values.curve x.values.class)) out
    opposite_writes = opposite_written out room (own x)

    pub opposite_read : ReadWith fields (record_opposite out s)
    opposite_read = read_again (opposite_holds out room (own x))

    -- ---- the neutral class and the opposite
    pub sum_neutral_bytes : sum_call (sum_record_of s (neutral_record fields)) out ≡ write (last_field s) out
    sum_neutral_bytes =
        sum_written out room (own x) (neutral_holds (own x))
        ∙ ap (λ (b : List ℕ). write b out)
        (ap (class_field 0x43) ((group c (curve_passes (own x).passes)).sum_neutral (own x).passes) ∙ sym (last_is c a (own x).bytes))

    pub sum_opposite_bytes : (mid : List ℕ) → class_room ≤ length mid → sum_call (sum_record_of s (record_opposite mid s)) out ≡ write (class_field 0x43 neutral_class) out
    sum_opposite_bytes mid room' =
        sum_written out room (own x) (opposite_holds mid room' (own x))
        ∙ ap (λ (b : Class). write (class_field 0x43 b) out) ((group c (curve_passes (own x).passes)).sum_opposite (own x).passes)

  module _ {t : List ℕ} (y : ReadWith fields t) (out : List ℕ) (room : class_room ≤ length out) where
    pub sum_writes : sum_call (sum_record_of s t) out ≡ write (class_field 0x43 (sum_of x.values.curve x.values.class y.values.class)) out
    sum_writes = sum_written out room (own x) (beside x y)

    pub sum_read : ReadWith fields (record_sum out s t)
    sum_read = read_again (sum_holds out room (own x) (beside x y))

    -- ---- either order, either grouping
    pub sum_comm_bytes : sum_call (sum_record_of s t) out ≡ sum_call (sum_record_of t s) out
    sum_comm_bytes =
        sum_writes
        ∙ ap (λ (b : Class). write (class_field 0x43 b) out) ((group c (curve_passes (own x).passes)).comm (own x).passes (beside x y).passes)
        ∙ sym (sum_written out room (beside x y) (own x))

    module _ {u : List ℕ} (z : ReadWith fields u) (mid : List ℕ) (room' : class_room ≤ length mid) (last : List ℕ) (room'' : class_room ≤ length last) where
      pub sum_assoc_bytes : sum_call (sum_record_of (record_sum mid s t) u) out ≡ sum_call (sum_record_of s (record_sum last t u)) out
      sum_assoc_bytes =
          let p = own x in
          let q = beside x y in
          let r = beside x z in
          sum_written out room (sum_holds mid room' p q) r
          ∙ ap (λ (b : Class). write (class_field 0x43 b) out) ((group c (curve_passes p.passes)).assoc p.passes q.passes r.passes)
          ∙ sym (sum_written out room p (sum_holds last room'' q r))

-- ---- the group of the records with the same fields of degree and curve, of which one is read
same_bytes : {c : Curve} {a b : Class} {fields s t : List ℕ} → Holds c a fields s → Holds c b fields t → a ≡ b → s ≡ t
same_bytes {c} x y e = x.bytes ∙ ap (class_record_bytes c) e ∙ sym y.bytes

-- records with the same bytes have the same class
pub same_class : {c : Curve} {a b : Class} {fields s t : List ℕ} → Holds c a fields s → Holds c b fields t → s ≡ t → a ≡ b
same_class x y e =
    ap (λ (h : Record). h.class) (same_found (sym (stored_read x.bytes x.passes) ∙ ap (read_record class_layout) e ∙ stored_read y.bytes y.passes)).0

module _ {fields w : List ℕ} (some : ReadWith fields w) (out mid : List ℕ) (room : class_room ≤ length out) (room' : class_room ≤ length mid) where
  abbrev d : Curve
  d = some.values.curve

  known : curve_refusal d ≡ 0
  known = curve_passes (own some).passes

  pub byte_group : CommutativeGroup (ReadWith fields) (record_sum out) (neutral_record fields) (record_opposite mid)
  byte_group = record {
    sum_closed = λ x y. sum_read x y out room;
    neutral_closed = neutral_read some;
    opposite_closed = λ x. opposite_read x mid room';
    comm = λ x y.
        let p = beside some x in
        let q = beside some y in
        same_bytes (sum_holds out room p q) (sum_holds out room q p) ((group d known).comm p.passes q.passes);
    assoc = λ x y z.
        let p = beside some x in
        let q = beside some y in
        let r = beside some z in
        same_bytes (sum_holds out room (sum_holds out room p q) r) (sum_holds out room p (sum_holds out room q r)) ((group d known).assoc p.passes q.passes r.passes);
    sum_neutral = λ x. let p = beside some x in same_bytes (sum_holds out room p (neutral_holds p)) p ((group d known).sum_neutral p.passes);
    sum_opposite = λ x.
        let p = beside some x in
        same_bytes (sum_holds out room p (opposite_holds mid room' p)) (neutral_holds p) ((group d known).sum_opposite p.passes);
  }

  pub byte_doubling : (last : List ℕ) → class_room ≤ length last → Doubling (ReadWith fields) (record_sum out) (neutral_record fields) (record_opposite mid) (record_double last)
  byte_doubling last room'' = record {
    group = byte_group;
    double_sum = λ x. let p = beside some x in same_bytes (double_holds last room'' p) (sum_holds out room p p) ((doubling d known).double_sum p.passes);
    double_injective = λ x y e.
        let p = beside some x in
        let q = beside some y in
        same_bytes p q ((doubling d known).double_injective p.passes q.passes (same_class (double_holds last room'' p) (double_holds last room'' q) e));
  }

-- ---- doublings, each on the record rebuilt from the last, into any outputs
pub doubled_holds : {c : Curve} {a : Class} {fields s : List ℕ} {outs : List (List ℕ)} → ClassRooms outs → Holds c a fields s
    → Holds c (doublings c (length outs) a) fields (doubled_record outs s)
unfolding foldl repeat
doubled_holds none x = x
doubled_holds {c} {a} {fields} {s} (more {a = out} {l = outs} room rooms) x =
    subst (λ (b : Class). Holds c b fields (doubled_record outs (record_double out s))) (repeat_inner (double_of c) (length outs) a) (doubled_holds {a = double_of c a} rooms (double_holds out room x))

module _ {fields s : List ℕ} (x : ReadWith fields s) {outs : List (List ℕ)} (rooms : ClassRooms outs) where
  pub doublings_write : (out : List ℕ) → class_room ≤ length out
      → double_call (doubled_record outs s) out ≡ write (class_field 0x43 (doublings x.values.curve (suc (length outs)) x.values.class)) out
  unfolding answered repeat
  doublings_write out room =
      let h = doubled_holds rooms (own x) in
      stored_writes h.bytes h.passes (λ d a. result (double_answer d a)) (double_given h.passes) out room

-- ---- every record of a sum is made of two such records
pub sum_record_parts : {r : List ℕ} → Bytes r → {h : Record} {end : ℕ} → read_record sum_layout r ≡ found h end →
    (fields : List ℕ) × (s : List ℕ) × (t : List ℕ) × ReadWith fields s × ReadWith fields t × (r ≡ sum_record_of s t)
sum_record_parts bytes read =
    let w = (sum_record_written bytes read).0 in
    let c = w.curve in
    let x : Holds c w.first (curve_fields_bytes c) (class_record_bytes c w.first) = record { passes = w.first_passes; bytes = refl; begins = refl } in
    let y : Holds c w.second (curve_fields_bytes c) (class_record_bytes c w.second) = record { passes = w.second_passes; bytes = refl; begins = refl } in
    (curve_fields_bytes c, class_record_bytes c w.first, class_record_bytes c w.second, read_again x, read_again y, w.bytes ∙ sym (sum_record_is c w.first w.second refl refl))
