-- The body of a class and the class determine each other.
-- `encode_decode_class`: the class that a body decodes to is encoded by that body.
-- `decode_body`: the body of a class that no check refuses decodes to the class.
-- `length_encoded`: that body has 16 bytes for each degree.
-- `body_allowed`: the length of that body is allowed.
-- `class_length_of`: 16 times a degree is allowed, up to 3.
-- `class_short`: the field of such a class is no longer than `class_room`.
use Prim.Native.Nat.{ℕ, zero, suc, ◌+◌, ◌*◌, ◌/◌, ◌^◌, ◌≤◌}
use mathlib.Core.Path.{◌≡◌, refl, sym, ap, ap₂, ◌∙◌}
use mathlib.Core.Bool.{true}
use mathlib.Core.List.{List, [], ◌∷◌, ◌++◌}
use native.Mathlib.Omega.{arith}
use lib.Dec.{lit≤}
use lib.ListN.{length, get_or, take, drop, length-append, length-take, length-drop, take-append-drop}
use lib.Seq.{take_at, drop_at}
use Rattle.lists.proofs.Lists.{all_of, all_reverse, all_append, all_take}
use Rattle.jacobian.specs.{Answer.refusal, declared.Curve.Curve, declared.Class.Class}
use Rattle.jacobian.proofs.{ByValue.Degrees.by_degree, ByValue.Threes.by_three, ByValue.Answers.passes}
use Rattle.stored_form.specs.{Number.Bytes, Head.class_room, Head.class_limit, Head.class_length, Head.encode_field, Elements.decode_elements, Elements.encode_elements}
use Rattle.stored_form.specs.Classes.{decode_row, decode_class, encode_row, encode_class, class_field}
use Rattle.stored_form.proofs.{Lengths.class_length_le, Lengths.class_length_even, Lengths.length_stored, NumberLists.length_decode_numbers, NumberLists.length_encode_numbers, NumberLists.encode_numbers_append}
use Rattle.stored_form.proofs.ClassBytes.{length_row}
use Rattle.stored_form_theorems.proofs.Elements.{Small, numbers_bytes, bytes_numbers, fits}

-- ---- rows, and the order in which they are stored

-- up to three coefficients, highest power first, as a row and back
row_back : (xs : List ℕ) → length xs ≤ 3 → encode_row (length xs) (decode_row xs) ≡ xs
unfolding encode_row decode_row
row_back [] h = refl
row_back (x ∷ []) h = refl
row_back (x ∷ y ∷ []) h = refl
row_back (x ∷ y ∷ z ∷ []) h = refl
row_back (x ∷ y ∷ z ∷ w ∷ xs) h = absurd (omega arith)

row_ahead : (n : ℕ) (r : List ℕ) → length r ≡ 3 → n ≤ 3 → ((i : ℕ) → n ≤ i → get_or r i 0 ≡ 0) → decode_row (encode_row n r) ≡ r
unfolding encode_row decode_row
row_ahead n r long le =
    by_three (λ r. ((i : ℕ) → n ≤ i → get_or r i 0 ≡ 0) → decode_row (encode_row n r) ≡ r) (λ x y z. go n le x y z) r long
  where
    go : (n : ℕ) → n ≤ 3 → (x y z : ℕ) → ((i : ℕ) → n ≤ i → get_or (x ∷ y ∷ z ∷ []) i 0 ≡ 0) → decode_row (encode_row n (x ∷ y ∷ z ∷ [])) ≡ x ∷ y ∷ z ∷ []
    go zero le x y z h = rw (h 0 (lit≤ tt), h 1 (lit≤ tt), h 2 (lit≤ tt))
    go (suc zero) le x y z h = rw (h 1 (lit≤ tt), h 2 (lit≤ tt))
    go (suc (suc zero)) le x y z h = rw (h 2 (lit≤ tt))
    go (suc (suc (suc zero))) le x y z h = refl
    go (suc (suc (suc (suc n)))) le x y z h = absurd (omega arith)

-- ---- a class

pub encode_decode_class : (body : List ℕ) → class_length (length body) ≡ true → Bytes body → encode_class (decode_class body) ≡ body
unfolding decode_class
encode_decode_class body ok b =
    let n = length body / 16 in
    let es = decode_elements (n + n) body in
    let low : length body ≤ class_limit = class_length_le (length body) ok in
    let even : 16 * n ≡ length body = class_length_even (length body) ok in
    let all : length es ≡ n + n = length_decode_numbers 8 (n + n) body in
    let first : length (take n es) ≡ n = length-take n es ∙ omega arith in
    let second : length (drop n es) ≡ n = length-drop n es ∙ omega arith in
    let u : encode_row n (decode_row (take n es)) ≡ take n es =
    ap (λ (k : ℕ). encode_row k (decode_row (take n es))) (sym first) ∙ row_back (take n es) (omega arith) in
    let v : encode_row n (decode_row (drop n es)) ≡ drop n es =
    ap (λ (k : ℕ). encode_row k (decode_row (drop n es))) (sym second) ∙ row_back (drop n es) (omega arith) in
    ap₂ (λ (xs ys : List ℕ). encode_elements xs ++ encode_elements ys) u v
    ∙ sym (encode_numbers_append 8 (take n es) (drop n es))
    ∙ ap encode_elements (take-append-drop n es)
    ∙ bytes_numbers 8 (n + n) body (omega arith) b

-- a class whose rows have three coefficients that fit eight bytes, 0 from its degree on
record Shaped (a : Class) : Type 0 where
  u_three : length a.u ≡ 3
  v_three : length a.v ≡ 3
  low : a.degree ≤ 3
  u_blank : (i : ℕ) → a.degree ≤ i → get_or a.u i 0 ≡ 0
  v_blank : (i : ℕ) → a.degree ≤ i → get_or a.v i 0 ≡ 0
  u_fits : Small a.u
  v_fits : Small a.v

shaped : (c : Curve) (a : Class) → refusal c a ≡ 0 → Shaped a
shaped c a ok =
    let p = passes c a (sym ok) refl in
    let small = by_degree (λ d. 2 ^ d ≤ 2 ^ 61) (lit≤ tt) (lit≤ tt) c.degree p.0.accepted in
    record {
      u_three = p.1.shape.u_three;
      v_three = p.1.shape.v_three;
      low = p.1.shape.low;
      u_blank = p.1.shape.u_blank;
      v_blank = p.1.shape.v_blank;
      u_fits = all_of a.u 0 (λ i. fits c.degree small (p.1.range.u_below i));
      v_fits = all_of a.v 0 (λ i. fits c.degree small (p.1.range.v_below i));
    }

length_body : (a : Class) → Shaped a → length (encode_class a) ≡ 16 * a.degree
length_body a h =
    let n = a.degree in
    let x : length (encode_elements (encode_row n a.u)) ≡ 8 * n =
    length_encode_numbers 8 (encode_row n a.u) ∙ ap (λ (k : ℕ). 8 * k) (length_row n a.u h.u_three h.low) in
    let y : length (encode_elements (encode_row n a.v)) ≡ 8 * n =
    length_encode_numbers 8 (encode_row n a.v) ∙ ap (λ (k : ℕ). 8 * k) (length_row n a.v h.v_three h.low) in
    length-append (encode_elements (encode_row n a.u)) (encode_elements (encode_row n a.v)) ∙ omega arith

row_small : (n : ℕ) (r : List ℕ) → Small r → Small (encode_row n r)
unfolding encode_row
row_small n r h = all_reverse (all_take n h)

-- the elements of its body
body_elements : (a : Class) → Shaped a →
    decode_elements (a.degree + a.degree) (encode_class a) ≡ encode_row a.degree a.u ++ encode_row a.degree a.v
body_elements a h =
    let n = a.degree in
    let us = encode_row n a.u in
    let vs = encode_row n a.v in
    let u : length us ≡ n = length_row n a.u h.u_three h.low in
    let v : length vs ≡ n = length_row n a.v h.v_three h.low in
    let both : length (us ++ vs) ≡ n + n = length-append us vs ∙ omega arith in
    ap₂ (λ (k : ℕ) (bs : List ℕ). decode_elements k bs) (sym both) (sym (encode_numbers_append 8 us vs))
    ∙ numbers_bytes 8 (us ++ vs) (all_append (row_small n a.u h.u_fits) (row_small n a.v h.v_fits))

decode_encode_class : (a : Class) → Shaped a → decode_class (encode_class a) ≡ a
unfolding decode_class
decode_encode_class a h =
    let n = a.degree in
    let us = encode_row n a.u in
    let vs = encode_row n a.v in
    let u : length us ≡ n = length_row n a.u h.u_three h.low in
    let count : length (encode_class a) / 16 ≡ n = omega (arith, length_body a h) in
    rw (
      count,
      body_elements a h,
      take_at us vs n u,
      drop_at us vs n u,
      row_ahead n a.u h.u_three h.low h.u_blank,
      row_ahead n a.v h.v_three h.low h.v_blank,
    )

pub class_length_of : (n : ℕ) → n ≤ 3 → class_length (16 * n) ≡ true
unfolding class_length
class_length_of zero h = refl
class_length_of (suc zero) h = refl
class_length_of (suc (suc zero)) h = refl
class_length_of (suc (suc (suc zero))) h = refl
class_length_of (suc (suc (suc (suc n)))) h = absurd (omega arith)

module _ (c : Curve) (a : Class) (ok : refusal c a ≡ 0) where
  pub decode_body : decode_class (encode_class a) ≡ a
  decode_body = decode_encode_class a (shaped c a ok)

  pub length_encoded : length (encode_class a) ≡ 16 * a.degree
  length_encoded = length_body a (shaped c a ok)

  pub body_allowed : class_length (length (encode_class a)) ≡ true
  body_allowed = let k = shaped c a ok in ap class_length (length_body a k) ∙ class_length_of a.degree k.low

pub class_short : (tag : ℕ) (c : Curve) (a : Class) → refusal c a ≡ 0 → length (class_field tag a) ≤ class_room
unfolding class_field
class_short tag c a ok =
    let k = shaped c a ok in
    let low : a.degree ≤ 3 = k.low in
    let body : length (encode_class a) ≡ 16 * a.degree = length_body a k in
    let all : length (encode_field tag (encode_class a)) ≡ 3 + length (encode_class a) = length_stored tag (encode_class a) in
    omega arith
