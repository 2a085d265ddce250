-- The laws of multiples and repeated halves by bytes (docs/SPECIFICATION.md, 7 and 11), for every record of one class
-- that is read, where outputs have room for a class field and n and k are within their limits. Byte doublings and byte
-- halves are as many as there are outputs, k, one lent to each, whatever it holds.
-- `zero_bytes`: 0 times writes the field of the neutral class.
-- `once_bytes`: once writes the record's own class field.
-- `product_bytes`: m n times writes what m times writes on the record rebuilt from n times.
-- `sum_bytes`: (m + n) times writes what the byte sum of m times and n times writes.
-- `doublings_bytes`: the record rebuilt from 2^k times is the record after k byte doublings, for k below 61.
-- `halvings_bytes`: the record rebuilt from k halvings is the record after k byte halves.
-- `halvings_of_doublings_bytes`: k halvings of the record after k byte doublings write the record's own class field.
-- `doublings_of_halvings_bytes`: k byte doublings of the record rebuilt from k halvings give the record, to the byte.
-- That no call of this library is refused there is `multiple_writes` and `halvings_write` of Written in the crate
-- seal_licence; that no byte doubling is refused is `doublings_write` of ByteGroup in the crate seal.
use Prim.Native.Nat.{ℕ, ◌+◌, ◌*◌, ◌^◌, ◌≤◌, ◌<◌}
use mathlib.Core.Path.{◌≡◌, refl, sym, ap, ◌∙◌}
use mathlib.Core.List.{List}
use native.Mathlib.Omega.{arith}
use lib.{Dec.lit<, ListN.length, Pow.pow-lt}
use Rattle.lists.specs.{Lists.none, Lists.more, Walk.foldl}
use Rattle.class_group.specs.Multiples.{repeat}
use Rattle.class_group.proofs.Doublings.{repeat_inner}
use Rattle.jacobian.specs.{Answer.Result, Answer.result, Answer.neutral_class, Answer.double_answer, Answer.half_answer, Group.doublings, declared.Curve.Curve, declared.Class.Class}
use Rattle.stored_form.specs.{Number.Bytes, Reading.found, Head.class_room, Classes.class_field, Passing.ClassPasses, Reader.read_record, Reader.class_layout, declared.Record.Record}
use Rattle.written_form.specs.Effect.{write}
use Rattle.seal.specs.{Records.class_record_bytes, Rebuilt.last_field, Rebuilt.class_rebuilt, Calls.sum_call, Group.sum_record_of, Group.ClassRooms, Group.doubled_record}
use Rattle.seal.specs.Calls as seal
use Rattle.seal.proofs.{Passing.Given, Passing.double_given, Passing.half_given, ByteGroup.sum_record_writes, ByteGroup.sum_record_is}
use Rattle.seal.proofs.ClassCalls.{class_call, last_is, stored_writes, stored_rebuilt, is_stored, follow_writes}
use Rattle.jacobian.proofs.Group.{doublings_accept}
use Rattle.seal_licence.specs.{Multiples.multiple_limit, Multiples.halvings_limit, Multiples.multiple_answer, Multiples.halvings_answer, Multiples.halves, Calls.answered, Calls.multiple_call, Calls.halvings_call}
use Rattle.seal_licence.proofs.Theorems.{multiple_of_sum, multiple_of_product, multiple_of_zero, multiple_of_one, doublings_are_multiple, halvings_are_halves, halvings_of_doublings, doublings_of_halvings}
use Rattle.licence_theorems.specs.Rebuilt.{halved_record}
use Rattle.licence_theorems.proofs.Passing.{multiple_given, halvings_given}

times : ℕ → Curve → Class → Result
times n c a = multiple_answer c a n

halved : ℕ → Curve → Class → Result
halved k c a = halvings_answer c a k

-- ---- the record of a class that passes

-- a call on such a record, once for each output
repeated : {c : Curve} (f : Curve → Class → Result) → ((b : Class) → ClassPasses c b → Given c (f c b)) → {outs : List (List ℕ)} → ClassRooms outs → {a : Class} → ClassPasses c a
    → foldl (λ t out. class_rebuilt t (class_call f t out)) (class_record_bytes c a) outs ≡ class_record_bytes c (repeat (λ b. (f c b).class) (length outs) a)
unfolding foldl repeat
repeated f given none p = refl
repeated {c} f given (more {a = out} {l = outs} room rooms) {a} p =
    ap (λ s. foldl (λ t out. class_rebuilt t (class_call f t out)) s outs) (stored_rebuilt refl p f (given a p) out room)
    ∙ repeated f given rooms (given a p).passes
    ∙ ap (class_record_bytes c) (repeat_inner (λ b. (f c b).class) (length outs) a)

module _ {c : Curve} {a : Class} (p : ClassPasses c a) {outs : List (List ℕ)} (rooms : ClassRooms outs) where
  -- after byte doublings, and after byte halves
  doubled_is : doubled_record outs (class_record_bytes c a) ≡ class_record_bytes c (doublings c (length outs) a)
  unfolding seal.answered
  doubled_is = repeated (λ x b. result (double_answer x b)) (λ b q. double_given q) rooms p

  halved_is : halved_record outs (class_record_bytes c a) ≡ class_record_bytes c (halves c (length outs) a)
  unfolding seal.answered
  halved_is = repeated (λ x b. result (half_answer x b)) (λ b q. half_given q) rooms p

-- ---- the laws, for every record that is read

module _ (s : List ℕ) (bytes : Bytes s) {h : Record} {end : ℕ} (read : read_record class_layout s ≡ found h end) where
  abbrev c : Curve
  c = (is_stored s bytes read).curve

  abbrev a : Class
  a = (is_stored s bytes read).class

  stored_bytes : s ≡ class_record_bytes c a
  stored_bytes = (is_stored s bytes read).bytes

  passes : ClassPasses c a
  passes = (is_stored s bytes read).passes

  -- what the calls write and what is rebuilt from it, by the curve and the class of the record
  multiple_field : (n : ℕ) → n < multiple_limit → (out : List ℕ) → class_room ≤ length out → multiple_call n s out ≡ write (class_field 0x43 (multiple_answer c a n).class) out
  unfolding answered times
  multiple_field n l out room = stored_writes stored_bytes passes (times n) (multiple_given passes n l) out room

  multiple_record : (n : ℕ) → n < multiple_limit → (out : List ℕ) → class_room ≤ length out → class_rebuilt s (multiple_call n s out) ≡ class_record_bytes c (multiple_answer c a n).class
  unfolding answered times
  multiple_record n l out room = stored_rebuilt stored_bytes passes (times n) (multiple_given passes n l) out room

  halvings_record : (k : ℕ) → k ≤ halvings_limit → (out : List ℕ) → class_room ≤ length out → class_rebuilt s (halvings_call k s out) ≡ class_record_bytes c (halvings_answer c a k).class
  unfolding answered halved
  halvings_record k l out room = stored_rebuilt stored_bytes passes (halved k) (halvings_given passes k l) out room

  own_field : (x : Class) → x ≡ a → class_field 0x43 x ≡ last_field s
  own_field x e = ap (class_field 0x43) e ∙ sym (last_is c a stored_bytes)

  module _ (out : List ℕ) (room : class_room ≤ length out) where
    pub zero_bytes : multiple_call 0 s out ≡ write (class_field 0x43 neutral_class) out
    zero_bytes = multiple_field 0 (lit< tt) out room ∙ ap (λ (r : Result). write (class_field 0x43 r.class) out) (multiple_of_zero passes)

    pub once_bytes : multiple_call 1 s out ≡ write (last_field s) out
    once_bytes =
        multiple_field 1 (lit< tt) out room
        ∙ ap (λ (l : List ℕ). write l out) (own_field _ (ap (λ (r : Result). r.class) (multiple_of_one passes)))

    module _ (mid : List ℕ) (room' : class_room ≤ length mid) where
      pub product_bytes : (m n : ℕ) → m < multiple_limit → n < multiple_limit → m * n < multiple_limit
          → multiple_call (m * n) s out ≡ multiple_call m (class_rebuilt s (multiple_call n s mid)) out
      unfolding answered times
      product_bytes m n lm ln l =
          let g = multiple_given passes n ln in
          multiple_field (m * n) l out room
          ∙ ap (λ (r : Result). write (class_field 0x43 r.class) out) (multiple_of_product passes m n lm ln l)
          ∙ sym (follow_writes (is_stored s bytes read) mid room' out room (times n) (times m) g (multiple_given g.passes m lm))

      pub sum_bytes : (last : List ℕ) → class_room ≤ length last → (m n : ℕ) → m + n < multiple_limit
          → multiple_call (m + n) s out ≡ sum_call (sum_record_of (class_rebuilt s (multiple_call m s mid)) (class_rebuilt s (multiple_call n s last))) out
      sum_bytes last room'' m n l =
          let lm : m < multiple_limit = omega (arith, l) in
          let ln : n < multiple_limit = omega (arith, l) in
          multiple_field (m + n) l out room
          ∙ ap (λ (r : Result). write (class_field 0x43 r.class) out) (multiple_of_sum passes m n l)
          ∙ sym
          (sum_record_writes (multiple_given passes m lm).passes (multiple_given passes n ln).passes
          (sum_record_is c _ _ (multiple_record m lm mid room') (multiple_record n ln last room'')) out room)

    -- with a doubling or a half for each of these outputs
    module _ {outs : List (List ℕ)} (rooms : ClassRooms outs) where
      abbrev many : ℕ
      many = length outs

      doubled_at : doubled_record outs s ≡ class_record_bytes c (doublings c many a)
      doubled_at = ap (doubled_record outs) stored_bytes ∙ doubled_is passes rooms

      halved_at : halved_record outs s ≡ class_record_bytes c (halves c many a)
      halved_at = ap (halved_record outs) stored_bytes ∙ halved_is passes rooms

      pub doublings_bytes : length outs < 61 → class_rebuilt s (multiple_call (2 ^ length outs) s out) ≡ doubled_record outs s
      doublings_bytes l =
          multiple_record (2 ^ many) (pow-lt l) out room
          ∙ ap (λ (r : Result). class_record_bytes c r.class) (doublings_are_multiple passes many l)
          ∙ sym doubled_at

      pub halvings_bytes : length outs ≤ halvings_limit → class_rebuilt s (halvings_call (length outs) s out) ≡ halved_record outs s
      halvings_bytes l =
          halvings_record many l out room
          ∙ ap (λ (r : Result). class_record_bytes c r.class) (halvings_are_halves passes many l)
          ∙ sym halved_at

      pub halvings_of_doublings_bytes : length outs ≤ halvings_limit → halvings_call (length outs) (doubled_record outs s) out ≡ write (last_field s) out
      unfolding answered halved
      halvings_of_doublings_bytes l =
          let p = doublings_accept c passes many in
          stored_writes doubled_at p (halved many) (halvings_given p many l) out room
          ∙ ap (λ (b : List ℕ). write b out) (own_field _ (ap (λ (r : Result). r.class) (halvings_of_doublings passes many l)))

      pub doublings_of_halvings_bytes : length outs ≤ halvings_limit → doubled_record outs (class_rebuilt s (halvings_call (length outs) s out)) ≡ s
      doublings_of_halvings_bytes l =
          ap (doubled_record outs) (halvings_record many l out room)
          ∙ doubled_is (halvings_given passes many l).passes rooms
          ∙ ap (class_record_bytes c) (doublings_of_halvings passes many l)
          ∙ sym stored_bytes
