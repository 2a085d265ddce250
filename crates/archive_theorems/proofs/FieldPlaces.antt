-- Where the fields of an accepted archive stand, and that passing over heads finds them.
-- `layout`: the fields before the seal, the seal, the operations and the pairs, each with its offset.
-- `operation_place`: the operations from the i-th on begin where i fields from the first one on end.
-- `operation_stands`: the field of the operation at a place.
-- `operations_end`, `place_within`: where they end, and that each begins within the bytes.
-- `pairs_counted`, `pairs_end`, `pair_stands`: how many pairs there are, where they end, and a pair by its place.
-- `operation_neutral`: the length in its head says whether an operation is neutral.
use Prim.Native.Nat.{ℕ, zero, suc, ◌+◌, ◌*◌, ◌/◌, ◌^◌, ◌≤◌, ◌<◌}
use mathlib.Core.Path.{◌≡◌, refl, sym, ap, ◌∙◌, subst}
use mathlib.Core.Bool.{true}
use mathlib.Core.List.{List, [], ◌∷◌, ◌++◌, append_assoc}
use native.Mathlib.Omega.{arith}
use lib.Dec.{eqb}
use lib.ListN.{length, get_or, take, drop, take-append-drop, drop_of_length-le}
use lib.Seq.{drop-cons, length-take-le}
use borrow.Author.Tests.{ne_eqb, lt-ltb, le-ltb, le-leb}
use Rattle.lists.specs.Lists.{All, none, more}
use Rattle.lists.proofs.Lists.{all_at, all_take}
use Rattle.jacobian.specs.{Answer.neutral_class, Curves.coefficients, declared.Curve.Curve, declared.Class.Class}
use Rattle.stored_form.specs.{Number.decode_number, Number.encode_number, Number.encode_numbers, Number.part, Head.body_length, Head.length_at, Head.encode_field, Head.BytesAt, Head.degree_length, Head.count_length, Elements.encode_elements}
use Rattle.stored_form.specs.{Fields.degree_field, Fields.drawing_field, Fields.count_field, Fields.count_limit, Cuts.fields_end, Passing.ClassPasses, Pairs.pairs_field, Pairs.pair_at}
use Rattle.stored_form.specs.Classes.{curve_field, curve_fields_bytes, encode_class, class_field, operation_fields}
use Rattle.stored_form.proofs.{Digits.length_bytes, Heads.length_inside, Lengths.length_stored, NumberLists.length_encode_numbers, NumberLists.decode_numbers_at}
use Rattle.stored_form_theorems.specs.Fields.{Field}
use Rattle.stored_form_theorems.proofs.{Places.apart, Places.whole, Cuts.FieldsAt, Cuts.none, Cuts.field, Cuts.fields_at_end, Bodies.stored_length, Bodies.head_read, Pairs.some_field, Pairs.pairs_small, Elements.numbers_bytes, Places.part_part, ClassRoundTrips.class_short, ClassRoundTrips.length_encoded}
use Rattle.archive.specs.Archive.{Archive, neutral}
use Rattle.archive_theorems.specs.Written.{archive_bytes, Storable}

-- the bytes before the seal
abbrev pub front_bytes : Archive → List ℕ
front_bytes a = curve_fields_bytes a.curve ++ drawing_field a.drawing ++ count_field (length a.operations)

-- the fields of an archive in its bytes
pub record Layout (s : List ℕ) (a : Archive) : Type 0 where
  pub seal_at : ℕ
  pub first : ℕ
  pub last : ℕ
  pub front : Field s 0 (front_bytes a) seal_at
  pub seal : Field s seal_at (class_field 0x43 a.seal) first
  pub operations : Field s first (operation_fields a.operations) last
  pub pairs : Field s last (pairs_field a.pairs) (length s)
  pub seal_begins : fields_end 4 s 0 ≡ seal_at
  pub first_begins : fields_end 5 s 0 ≡ first

-- one field more after others
fields_snoc : {s : List ℕ} {k at middle next : ℕ} (tag : ℕ) (body : List ℕ) → length body < 256 ^ 2 → FieldsAt s k at middle → Field s middle (encode_field tag body) next → FieldsAt s (suc k) at next
fields_snoc tag body small none f = field tag body small f none
fields_snoc tag body small (field t b l g rest) f = field t b l g (fields_snoc tag body small rest f)

-- the body of an accepted class is short
class_small : (tag : ℕ) (c : Curve) (a : Class) → ClassPasses c a → length (encode_class a) < 256 ^ 2
unfolding class_field
class_small tag c a ok = omega (arith, class_short tag c a ok.none, length_stored tag (encode_class a))

pub layout : (s : List ℕ) (a : Archive) → s ≡ archive_bytes a → Storable a → Layout s a
unfolding archive_bytes curve_fields_bytes degree_field curve_field coefficients drawing_field count_field class_field
layout s a e ok =
    let c = a.curve in
    let n = length a.operations in
    let w = subst (λ (x : List ℕ). Field s 0 x (length s)) e (whole s) in
    let p = apart (front_bytes a ++ class_field 0x43 a.seal ++ operation_fields a.operations) (pairs_field a.pairs) w in
    let o = apart (front_bytes a ++ class_field 0x43 a.seal) (operation_fields a.operations) p.1 in
    let x = apart (front_bytes a) (class_field 0x43 a.seal) o.1 in
    let y = apart (curve_fields_bytes c ++ drawing_field a.drawing) (count_field n) x.1 in
    let d = apart (curve_fields_bytes c) (drawing_field a.drawing) y.1 in
    let f = apart (degree_field c.degree) (curve_field c) d.1 in
    let four =
    field 0x40 (encode_number degree_length c.degree) (omega (arith, length_bytes degree_length c.degree)) f.1
    (field 0x41 (encode_elements (coefficients c)) (omega (arith, length_encode_numbers 8 (coefficients c))) f.2
    (field 0x46 a.drawing (omega (arith, ok.drawing_short)) d.2
    (field 0x42 (encode_number count_length n) (omega (arith, length_bytes count_length n)) y.2 none))) in
    record {
      seal_at = x.0;
      first = o.0;
      last = p.0;
      front = x.1;
      seal = x.2;
      operations = o.2;
      pairs = p.2;
      seal_begins = fields_at_end four;
      first_begins = fields_at_end (fields_snoc 0x43 (encode_class a.seal) (class_small 0x43 c a.seal ok.seal_allowed) four x.2);
    }

-- ---- the operations

pub operation_fields_append : (xs ys : List Class) → operation_fields (xs ++ ys) ≡ operation_fields xs ++ operation_fields ys
unfolding operation_fields
operation_fields_append [] ys = refl
operation_fields_append (x ∷ xs) ys =
    ap (λ (l : List ℕ). class_field 0x44 x ++ l) (operation_fields_append xs ys) ∙ sym (append_assoc (class_field 0x44 x) (operation_fields xs) (operation_fields ys))

operations_at : (c : Curve) {s : List ℕ} {at end : ℕ} {ops : List Class} → All (ClassPasses c) ops → Field s at (operation_fields ops) end → FieldsAt s (length ops) at end
unfolding operation_fields class_field
operations_at c {s} {at} none f = let e = f.ends in subst (λ (n : ℕ). FieldsAt s 0 at n) (omega arith) none
operations_at c (more {a = a} {l = l} h r) f =
    let p = apart (class_field 0x44 a) (operation_fields l) f in
    field 0x44 (encode_class a) (class_small 0x44 c a h) p.1 (operations_at c {at = p.0} r p.2)

module _ {s : List ℕ} {a : Archive} (l : Layout s a) (ok : Storable a) where
  pub operation_place : (i : ℕ) → i ≤ length a.operations →
      Field s l.first (operation_fields (take i a.operations)) (fields_end i s l.first) × Field s (fields_end i s l.first) (operation_fields (drop i a.operations)) l.last
  operation_place i h =
      let ops = a.operations in
      let both = ap operation_fields (sym (take-append-drop i ops)) ∙ operation_fields_append (take i ops) (drop i ops) in
      let p = apart (operation_fields (take i ops)) (operation_fields (drop i ops)) (subst (λ (x : List ℕ). Field s l.first x l.last) both l.operations) in
      let e = sym (fields_at_end (operations_at a.curve (all_take i ok.operations_allowed) p.1)) ∙ ap (λ (k : ℕ). fields_end k s l.first) (length-take-le i ops h) in
      (subst (λ (m : ℕ). Field s l.first (operation_fields (take i ops)) m) e p.1, subst (λ (m : ℕ). Field s m (operation_fields (drop i ops)) l.last) e p.2)

  pub operations_end : fields_end (length a.operations) s l.first ≡ l.last
  unfolding operation_fields
  operations_end =
      let n = length a.operations in
      let p = (operation_place n (omega arith)).1 in
      let none : length (operation_fields (drop n a.operations)) ≡ 0 = ap (λ (x : List Class). length (operation_fields x)) (drop_of_length-le a.operations {i = n} (omega arith)) in
      omega (arith, p.ends, none)

  pub place_within : (i : ℕ) → i ≤ length a.operations → fields_end i s l.first ≤ length s
  place_within i h = omega (arith, (operation_place i h).1.ends, l.pairs.ends)

  module _ (i : ℕ) (h : i < length a.operations) where
    pub operation_stands : Field s (fields_end i s l.first) (class_field 0x44 (get_or a.operations i neutral_class)) (fields_end (suc i) s l.first)
    unfolding operation_fields
    operation_stands =
        let ops = a.operations in
        let this = class_field 0x44 (get_or ops i neutral_class) in
        let p = apart this (operation_fields (drop (suc i) ops))
        (subst (λ (x : List Class). Field s (fields_end i s l.first) (operation_fields x) l.last) (drop-cons ops i neutral_class h) (operation_place i (omega arith)).1) in
        let e : p.0 ≡ fields_end (suc i) s l.first = omega (arith, p.2.ends, (operation_place (suc i) h).1.ends) in
        subst (Field s (fields_end i s l.first) this) e p.1

    pub operation_neutral : eqb (length_at s (fields_end i s l.first)) 0 ≡ neutral (get_or a.operations i neutral_class)
    unfolding neutral class_field
    operation_neutral =
        let op = get_or a.operations i neutral_class in
        let allowed = all_at i neutral_class h ok.operations_allowed in
        let at = fields_end i s l.first in
        let f = operation_stands in
        let inside : at + 3 ≤ length s = omega (arith, f.ends, place_within (suc i) h, length_stored 0x44 (encode_class op)) in
        let said = length_inside s at inside ∙ stored_length 0x44 s at (encode_class op) (class_small 0x44 a.curve op allowed) f.stands ∙ length_encoded a.curve op allowed.none in
        ap (λ (k : ℕ). eqb k 0) said ∙ times op.degree
      where
        times : (d : ℕ) → eqb (16 * d) 0 ≡ eqb d 0
        times zero = refl
        times (suc d) = ne_eqb (16 * suc d) 0 (λ e. omega arith) ∙ sym (ne_eqb (suc d) 0 (λ e. omega arith))

  -- ---- the pairs

  -- the body of their field, if there are any
  pairs_body : 0 < length a.pairs → (body_length s l.last ≡ 4 * length a.pairs) × (part s (l.last + 3) (4 * length a.pairs) ≡ encode_numbers 4 a.pairs)
  pairs_body some =
      let ps = a.pairs in
      let body = encode_numbers 4 ps in
      let len : length body ≡ 4 * length ps = length_encode_numbers 4 ps in
      let stands = subst (λ (x : List ℕ). BytesAt s l.last x) (sym (some_field ps some)) l.pairs.stands in
      let few = ok.pairs_few in
      let said = stored_length 0x48 s l.last body (omega (arith, len)) stands in
      (said ∙ len, ap (part s (l.last + 3)) (sym len) ∙ (head_read 0x48 (λ n. true) s l.last body refl (omega (arith, len)) stands).1)

  -- they end the bytes
  pub pairs_end : 0 < length a.pairs → length s ≡ l.last + 3 + 4 * length a.pairs
  pairs_end some =
      let long : length (pairs_field a.pairs) ≡ 3 + 4 * length a.pairs =
      ap length (sym (some_field a.pairs some)) ∙ length_stored 0x48 (encode_numbers 4 a.pairs) ∙ ap (λ (k : ℕ). 3 + k) (length_encode_numbers 4 a.pairs) in
      omega (arith, l.pairs.ends, long)

  pub pairs_counted : length_at s l.last / 4 ≡ length a.pairs
  unfolding pairs_field length_at
  pairs_counted = go a.pairs refl
    where
      go : (ps : List ℕ) → a.pairs ≡ ps → length_at s l.last / 4 ≡ length ps
      go [] e =
          let end : length s ≡ l.last + length (pairs_field []) = l.pairs.ends ∙ ap (λ (x : List ℕ). l.last + length (pairs_field x)) e in
          rw (lt-ltb (length s) (l.last + 3) (omega (arith, end))) refl
      go (p ∷ ps) e =
          let n : length a.pairs ≡ suc (length ps) = ap length e in
          let some : 0 < length a.pairs = omega (arith, n) in
          let len = (pairs_body some).0 in
          rw (le-ltb (length s) (l.last + 3) (omega (arith, pairs_end some))) (omega (arith, len, n))

  pub pair_stands : (i : ℕ) → i < length a.pairs → pair_at s (l.last + 3) i ≡ get_or a.pairs i 0
  unfolding pair_at count_limit
  pair_stands i h =
      let ps = a.pairs in
      let m = length ps in
      let at = l.last + 3 in
      let some : 0 < length ps = omega arith in
      let within = ok.count_within in
      let back = numbers_bytes 4 ps (pairs_small (length a.operations) (omega (arith, within)) ok.pairs_allowed.within) in
      rw (le-leb (at + 4 * (i + 1)) (length s) (omega (arith, pairs_end some)))
      (ap decode_number (sym (part_part s at (4 * m) (4 * i) 4 (omega arith)) ∙ ap (λ (x : List ℕ). part x (4 * i) 4) (pairs_body some).1)
      ∙ sym (decode_numbers_at 4 m (encode_numbers 4 ps) i h)
      ∙ ap (λ (x : List ℕ). get_or x i 0) back)
