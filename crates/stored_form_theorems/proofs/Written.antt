-- What is encoded is a list of numbers below 256.
-- `number_bytes`, `numbers_are_bytes`: the bytes of a number are, and those of numbers one after the other.
-- `bytes_append`: two such lists together are.
-- `field_bytes`: so is a field whose tag and body are bytes.
-- `class_bytes`, `first_bytes`: so are the field of a class, and the fields of degree and curve.
use Prim.Native.Nat.{ℕ, zero, suc, ◌/◌, ◌^◌, ◌<◌}
use mathlib.Core.List.{List, [], ◌∷◌, ◌++◌}
use native.Mathlib.Nat.{mod-lt}
use lib.Dec.{lit<}
use lib.ListN.{length}
use Rattle.jacobian.specs.declared.{Curve.Curve, Class.Class}
use Rattle.stored_form.specs.{Number.encode_numbers, Number.encode_number, Number.Bytes, Head.degree_length, Head.head_bytes, Head.encode_field, Elements.encode_elements, Fields.degree_field}
use Rattle.stored_form.specs.Classes.{curve_field, curve_fields_bytes, encode_row, class_field}

pub bytes_append : (xs ys : List ℕ) → Bytes xs → Bytes ys → Bytes (xs ++ ys)
bytes_append [] ys h k i = k i
bytes_append (x ∷ xs) ys h k zero = h 0
bytes_append (x ∷ xs) ys h k (suc i) = bytes_append xs ys (λ j. h (suc j)) k i

pub number_bytes : (k n : ℕ) → Bytes (encode_number k n)
unfolding encode_number
number_bytes zero n i = lit< tt
number_bytes (suc k) n zero = mod-lt (n / 256 ^ k) (lit< tt)
number_bytes (suc k) n (suc i) = number_bytes k n i

pub numbers_are_bytes : (w : ℕ) (xs : List ℕ) → Bytes (encode_numbers w xs)
unfolding encode_numbers
numbers_are_bytes w [] i = lit< tt
numbers_are_bytes w (x ∷ xs) i = bytes_append (encode_number w x) (encode_numbers w xs) (number_bytes w x) (numbers_are_bytes w xs) i

pub field_bytes : (tag : ℕ) (body : List ℕ) → tag < 256 → Bytes body → Bytes (encode_field tag body)
unfolding encode_field head_bytes
field_bytes tag body t h zero = t
field_bytes tag body t h (suc i) = bytes_append (encode_number 2 (length body)) body (number_bytes 2 (length body)) h i

pub class_bytes : (tag : ℕ) (a : Class) → tag < 256 → Bytes (class_field tag a)
unfolding class_field
class_bytes tag a t =
    field_bytes tag _ t
    (bytes_append (encode_elements (encode_row a.degree a.u)) _ (numbers_are_bytes 8 (encode_row a.degree a.u))
    (numbers_are_bytes 8 (encode_row a.degree a.v)))

pub first_bytes : (c : Curve) → Bytes (curve_fields_bytes c)
unfolding curve_fields_bytes degree_field curve_field
first_bytes c =
    bytes_append (degree_field c.degree) (curve_field c) (field_bytes 0x40 _ (lit< tt) (number_bytes degree_length c.degree))
    (field_bytes 0x41 _ (lit< tt) (numbers_are_bytes 8 _))
