-- Bytes pushed to an output, one after the other, as the code pushes them.
-- `last_bytes`: the last k of a number's bytes are its k lowest.
-- `head_pushed`, `field_pushed`: a head, which has three bytes, and the body after it.
-- `count_pushed`: the length after the field of a count.
-- `none_pushed`, `one_pushed`, `all_pushed`: before a turn of the loop that pushes coefficients, after it, and at its end.
-- `class_pushed`: the field of a class. `first_pushed`: how long it is up to its second row.
use Prim.Native.Nat.{ℕ, zero, suc, ◌+◌, ◌*◌, ◌-◌, ◌/◌, ◌%◌, ◌^◌, ◌≤◌, ◌<◌, min}
use mathlib.Core.Path.{◌≡◌, refl, sym, ap, ap₂, ◌∙◌}
use mathlib.Core.List.{List, [], ◌∷◌, ◌++◌, append-nil, append_assoc, reverse, reverse-cons}
use native.Mathlib.Omega.{arith}
use lib.Seq.{drop-cons, get_or-take}
use lib.ListN.{length, get_or, take, drop, length-append, length-take, length-drop, length-reverse, drop_of_length-le}
use Rattle.std.specs.Int.{byte_at, bytes_high_first, to_be_bytes, w64}
use Rattle.jacobian.specs.declared.Class.{Class}
use Rattle.stored_form.specs.{Number.encode_numbers, Number.encode_number, Head.count_length, Head.head_bytes, Head.encode_field, Elements.encode_elements, Classes.encode_row, Classes.class_field}
use Rattle.written_form.specs.Effect.{count_room}
use Rattle.stored_form.proofs.{Digits.length_bytes, NumberLists.length_encode_numbers, NumberLists.encode_numbers_append, Lengths.length_stored, ClassBytes.length_row, ClassBytes.below_three}

-- ---- the bytes of a number

all_bytes : (k x : ℕ) → bytes_high_first k x ≡ encode_number k x
unfolding encode_number
all_bytes zero x = refl
all_bytes (suc k) x = ap₂ (λ (b : ℕ) (bs : List ℕ). b ∷ bs) (byte k) (all_bytes k x)
  where
    byte : (i : ℕ) → byte_at i x ≡ x / 256 ^ i % 256
    byte zero = omega arith
    byte (suc i) = refl

dropped : (j k x : ℕ) → drop j (bytes_high_first (j + k) x) ≡ encode_number k x
dropped zero k x = let e : 0 + k ≡ k = omega arith in rw e (all_bytes k x)
dropped (suc j) k x = let e : suc j + k ≡ suc (j + k) = omega arith in rw e (dropped j k x)

pub last_bytes : (k x : ℕ) → k ≤ 8 → drop (8 - k) (to_be_bytes w64 x) ≡ encode_number k x
last_bytes k x h = let e : 8 ≡ 8 - k + k = omega arith in ap (λ (n : ℕ). drop (8 - k) (bytes_high_first n x)) e ∙ dropped (8 - k) k x

-- ---- a head

pub head_pushed : (xs : List ℕ) (tag n : ℕ) {ys : List ℕ} → ys ≡ xs ++ head_bytes tag n → length ys ≡ length xs + 3
unfolding head_bytes encode_number
head_pushed xs tag n e = ap length e ∙ length-append xs (head_bytes tag n)

pub field_pushed : (xs : List ℕ) (tag : ℕ) (body : List ℕ) {n : ℕ} {headed ys : List ℕ} → n ≡ length body → headed ≡ xs ++ head_bytes tag n → ys ≡ headed ++ body → ys ≡ xs ++ encode_field tag body
unfolding encode_field
field_pushed xs tag body l e f =
    f
    ∙ ap (λ (h : List ℕ). h ++ body) (e ∙ ap (λ (n : ℕ). xs ++ head_bytes tag n) l)
    ∙ append_assoc xs (head_bytes tag (length body)) body

pub count_pushed : (xs : List ℕ) (tag n : ℕ) {ys : List ℕ} → ys ≡ xs ++ encode_field tag (encode_number count_length n) → length ys ≡ length xs + count_room
count_pushed xs tag n e =
    let bytes = encode_number count_length n in
    ap length e ∙ length-append xs (encode_field tag bytes) ∙ ap (λ (k : ℕ). length xs + k) (length_stored tag bytes ∙ ap (λ (k : ℕ). 3 + k) (length_bytes count_length n))

-- ---- the coefficients of a class, from the i-th on, highest power first

module _ (xs : List ℕ) (n : ℕ) (r : List ℕ) (long : length r ≡ 3) (le : n ≤ 3) where
  abbrev from : ℕ → List ℕ
  from i = reverse (drop i (take n r))

  length_first : length (take n r) ≡ n
  length_first = length-take n r ∙ omega arith

  pub none_pushed : xs ≡ xs ++ encode_elements (from n)
  unfolding encode_numbers
  none_pushed =
      let l = length_first in let e : drop n (take n r) ≡ [] = drop_of_length-le (take n r) {i = n} (omega arith) in rw (e, append-nil)

  pub length_pushed : (i : ℕ) → i ≤ n → {ys : List ℕ} → ys ≡ xs ++ encode_elements (from i) → length ys ≡ length xs + 8 * (n - i)
  length_pushed i h e =
      ap length e
      ∙ length-append xs (encode_elements (from i))
      ∙ ap (λ (k : ℕ). length xs + k)
      (length_encode_numbers 8 (from i)
      ∙ ap (λ (k : ℕ). 8 * k) (length-reverse (drop i (take n r)) ∙ length-drop i (take n r) ∙ ap (λ (k : ℕ). k - i) length_first))

  pub one_pushed : {i : ℕ} → 0 < i → i ≤ n → {ys zs : List ℕ} → ys ≡ xs ++ encode_elements (from i) → zs ≡ ys ++ encode_number 8 (get_or r (i - 1) 0) → zs ≡ xs ++ encode_elements (from (i - 1))
  unfolding encode_numbers
  one_pushed {i} some h e f =
      let x = get_or r (i - 1) 0 in
      let l = length_first in
      let s : suc (i - 1) ≡ i = omega arith in
      let next : from (i - 1) ≡ from i ++ x ∷ [] =
      ap reverse (drop-cons (take n r) (i - 1) 0 (omega arith) ∙ ap₂ (λ (y j : ℕ). y ∷ drop j (take n r)) (get_or-take n r (i - 1) 0 (omega arith)) s) ∙ reverse-cons x (drop i (take n r)) in
      f
      ∙ ap (λ (l : List ℕ). l ++ encode_number 8 x) e
      ∙ append_assoc xs (encode_elements (from i)) (encode_number 8 x)
      ∙ ap (λ (l : List ℕ). xs ++ l)
      (sym (ap encode_elements next ∙ encode_numbers_append 8 (from i) (x ∷ []) ∙ ap (λ (l : List ℕ). encode_elements (from i) ++ l) (append-nil (encode_number 8 x))))

  pub all_pushed : {i : ℕ} → i ≤ 0 → {ys : List ℕ} → ys ≡ xs ++ encode_elements (from i) → ys ≡ xs ++ encode_elements (encode_row n r)
  unfolding encode_row
  all_pushed {i} h e = let z : i ≡ 0 = omega arith in e ∙ ap (λ (j : ℕ). xs ++ encode_elements (from j)) z

-- ---- the field of a class

module _ (a : Class) (n : ℕ) (low : n ≡ min a.degree 3) (long_u : length a.u ≡ 3) (long_v : length a.v ≡ 3) where
  length_half : (r : List ℕ) → length r ≡ 3 → length (encode_elements (encode_row n r)) ≡ 8 * n
  length_half r l = length_encode_numbers 8 (encode_row n r) ∙ ap (λ (k : ℕ). 8 * k) (length_row n r l (omega arith))

  abbrev body : List ℕ
  body = encode_elements (encode_row n a.u) ++ encode_elements (encode_row n a.v)

  length_body : length body ≡ 2 * (8 * n)
  length_body =
      length-append (encode_elements (encode_row n a.u)) (encode_elements (encode_row n a.v)) ∙ omega (arith, length_half a.u long_u, length_half a.v long_v)

  said : encode_field 0x43 body ≡ class_field 0x43 a
  unfolding class_field
  said =
      ap₂ (λ (l r : List ℕ). encode_field 0x43 (encode_elements l ++ encode_elements r))
      (ap (λ (k : ℕ). encode_row k a.u) low ∙ below_three a.u a.degree long_u)
      (ap (λ (k : ℕ). encode_row k a.v) low ∙ below_three a.v a.degree long_v)

  pub class_pushed : (xs : List ℕ) {headed first both : List ℕ} → headed ≡ xs ++ head_bytes 0x43 (2 * (8 * n)) → first ≡ headed ++ encode_elements (encode_row n a.u) →
      both ≡ first ++ encode_elements (encode_row n a.v) → both ≡ xs ++ class_field 0x43 a
  class_pushed xs e f g =
      let U = encode_elements (encode_row n a.u) in
      let V = encode_elements (encode_row n a.v) in
      field_pushed xs 0x43 body (sym length_body) e (g ∙ ap (λ (l : List ℕ). l ++ V) f ∙ append_assoc _ U V)
      ∙ ap (λ (l : List ℕ). xs ++ l) said

  pub first_pushed : (xs : List ℕ) {headed first : List ℕ} → headed ≡ xs ++ head_bytes 0x43 (2 * (8 * n)) → first ≡ headed ++ encode_elements (encode_row n a.u) →
      length first ≡ length xs + 3 + 8 * n
  first_pushed xs {headed} e f =
      ap length f ∙ length-append headed (encode_elements (encode_row n a.u)) ∙ ap₂ (λ (i j : ℕ). i + j) (head_pushed xs 0x43 (2 * (8 * n)) e) (length_half a.u long_u)
