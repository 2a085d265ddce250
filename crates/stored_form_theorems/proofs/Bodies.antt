-- A body that is read and a field that is encoded determine each other.
-- `whole_written`, `body_written`: a body that was read stands in the input as an encoded field, and its length is
-- allowed.
-- `stored_length`: the head of an encoded field gives its body's length.
-- `head_read`, `body_read`: the head and the body of an encoded field are read back.
use Prim.Native.Nat.{ℕ, ◌+◌, ◌^◌, ◌≤◌, ◌<◌}
use mathlib.Core.Path.{◌≡◌, sym, ap, ap₂, subst₂, ◌∙◌}
use mathlib.Core.Bool.{Bool, true}
use mathlib.Core.List.{List, ◌∷◌, ◌++◌}
use native.Mathlib.Omega.{arith}
use lib.ListN.{length, get_or}
use lib.Seq.{take-length}
use Rattle.stored_form.specs.{Number.decode_number, Number.encode_number, Number.Bytes, Number.part, Reading.found, Head.body_length, Head.head_bytes, Head.encode_field, Head.BytesAt}
use Rattle.stored_form.specs.{Tags.rules, Reader.read_head_by, Reader.read_head, Reader.read_body, declared.Record.Record}
use Rattle.stored_form.proofs.{Digits.part_bytes, Parts.length_part, Readings.then_found, Readings.both_found, Readings.same_found, Lengths.length_stored, Heads.Whole, Heads.head_found, Heads.head_whole}
use Rattle.stored_form_theorems.specs.Fields.{Field}
use Rattle.stored_form_theorems.proofs.{Numbers.bytes_number, Numbers.number_bytes_small, Places.part_part, Places.part_add, Places.part_cons, Places.get_d_part, Places.stands_within}

-- ---- what was read was encoded so

-- the input has the field of this body at an offset, and the body's length is allowed
pub record Written (tag : ℕ) (allowed : ℕ → Bool) (s : List ℕ) (at : ℕ) (body : List ℕ) (next : ℕ) : Type 0 where
  pub field : Field s at (encode_field tag body) next
  pub allows : allowed (length body) ≡ true
  pub bytes : Bytes body

-- the three bytes of a head that was found
head_stands : (tag : ℕ) (allowed : ℕ → Bool) (s : List ℕ) (at n next : ℕ) → Bytes s → at + 3 ≤ length s → Whole tag allowed s at n next → part s at 3 ≡ head_bytes tag n
unfolding head_bytes body_length
head_stands tag allowed s at n next b fits w =
    let p : List ℕ = part s (at + 1) 2 in
    let len : length p ≡ 2 = length_part s (at + 1) 2 (omega arith) in
    let two : encode_number 2 n ≡ p =
    ap (encode_number 2) w.said ∙ ap (λ (k : ℕ). encode_number k (decode_number p)) (sym len) ∙ bytes_number p (part_bytes s b (at + 1) 2) in
    part_cons s at 2 (omega arith) ∙ ap₂ (λ (x : ℕ) (xs : List ℕ). x ∷ xs) w.due (sym two)

pub whole_written : (tag : ℕ) (allowed : ℕ → Bool) (s : List ℕ) (at n next : ℕ) → Bytes s → Whole tag allowed s at n next → Written tag allowed s at (part s (at + 3) n) next
unfolding encode_field
whole_written tag allowed s at n next b w =
    let fits : at + 3 + n ≤ length s = omega arith in
    let len : length (part s (at + 3) n) ≡ n = length_part s (at + 3) n fits in
    let long : length (encode_field tag (part s (at + 3) n)) ≡ 3 + n = length_stored tag (part s (at + 3) n) ∙ ap (λ (k : ℕ). 3 + k) len in
    let stands = ap (part s at) long ∙ part_add s at 3 n
    ∙ ap (λ (l : List ℕ). l ++ part s (at + 3) n) (head_stands tag allowed s at n next b (omega arith) w ∙ ap (head_bytes tag) (sym len)) in
    record {
      field = record { stands = stands; ends = omega arith };
      allows = rw len w.allows;
      bytes = part_bytes s b (at + 3) n;
    }

pub body_written : (tag : ℕ) (h : Record) (s : List ℕ) (at : ℕ) {body : List ℕ} {next : ℕ} → Bytes s → read_body tag h s at ≡ found body next → Written tag ((rules tag).allows h) s at body next
unfolding read_body
body_written tag h s at {body} {next} b e₀ =
    let p = both_found (λ n next. found (part s (at + 3) n) next) (read_head tag h s at) e₀ in
    let e = same_found p.3 in
    subst₂ (λ (x : List ℕ) (y : ℕ). Written tag ((rules tag).allows h) s at x y) e.0 e.1
    (whole_written tag ((rules tag).allows h) s at p.0 p.1 b (head_found tag ((rules tag).allows h) s at p.2))

-- ---- what was encoded is read back

pub stored_length : (tag : ℕ) (s : List ℕ) (at : ℕ) (body : List ℕ) → length body < 256 ^ 2 → BytesAt s at (encode_field tag body) → body_length s at ≡ length body
unfolding encode_field head_bytes encode_number body_length
stored_length tag s at body small stands =
    let n : ℕ = length body in
    let all : part s at (3 + n) ≡ encode_field tag body = ap (part s at) (sym (length_stored tag body)) ∙ stands in
    let two : part s (at + 1) 2 ≡ encode_number 2 n = sym (part_part s at (3 + n) 1 2 (omega arith)) ∙ ap (λ (l : List ℕ). part l 1 2) all in
    ap decode_number two ∙ number_bytes_small 2 n small

pub head_read : (tag : ℕ) (allowed : ℕ → Bool) (s : List ℕ) (at : ℕ) (body : List ℕ) → allowed (length body) ≡ true → length body < 256 ^ 2 → BytesAt s at (encode_field tag body) →
    (read_head_by tag allowed s at ≡ found (length body) (at + length (encode_field tag body))) × (part s (at + 3) (length body) ≡ body)
unfolding encode_field head_bytes encode_number
head_read tag allowed s at body a small stands =
    let n : ℕ = length body in
    let long : length (encode_field tag body) ≡ 3 + n = length_stored tag body in
    let within : at + length (encode_field tag body) ≤ length s = stands_within s at tag (encode_number 2 n ++ body) stands in
    let fits : at + 3 + n ≤ length s = omega arith in
    let all : part s at (3 + n) ≡ encode_field tag body = ap (part s at) (sym long) ∙ stands in
    let e : at + 0 ≡ at = omega arith in
    let first : get_or s at 0 ≡ tag =
    ap (λ (i : ℕ). get_or s i 0) (sym e) ∙ sym (get_d_part s at (3 + n) 0 (omega arith)) ∙ ap (λ (l : List ℕ). get_or l 0 0) all in
    let rest : part s (at + 3) n ≡ body = sym (part_part s at (3 + n) 3 n (omega arith)) ∙ ap (λ (l : List ℕ). part l 3 n) all ∙ take-length body in
    let ends : at + 3 + n ≡ at + length (encode_field tag body) = omega arith in
    (head_whole tag allowed s at (sym (stored_length tag s at body small stands)) (omega arith) first a fits ∙ ap (found n) ends, rest)

pub body_read : (tag : ℕ) (h : Record) (s : List ℕ) (at : ℕ) (body : List ℕ) → (rules tag).allows h (length body) ≡ true → length body < 256 ^ 2 → BytesAt s at (encode_field tag body) →
    read_body tag h s at ≡ found body (at + length (encode_field tag body))
unfolding read_body
body_read tag h s at body a small stands =
    let r = head_read tag ((rules tag).allows h) s at body a small stands in
    then_found _ r.0 ∙ ap (λ (x : List ℕ). found x (at + length (encode_field tag body))) r.1
