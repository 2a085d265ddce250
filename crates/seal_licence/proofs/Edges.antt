-- The limits of n and k in numbers (docs/SPECIFICATION.md, 2.11 and 6): for an accepted class; by bytes for a record of
-- one class that is read, where the output has at least 51 bytes.
-- `multiple_at_largest`, `multiple_at_largest_bytes`: n = 2^61 - 1 is accepted.
-- `multiple_past_largest`, `multiple_past_largest_bytes`: n = 2^61 is refused with 118.
-- `halvings_at_largest`, `halvings_at_largest_bytes`: k = 64 is accepted.
-- `halvings_past_largest`, `halvings_past_largest_bytes`: k = 65 is refused with 119.
-- `multiple_short_bytes`, `halvings_short_bytes`: an output of at most 50 bytes is refused with 101 for every input.
use Prim.Native.Nat.{ℕ, ◌≤◌}
use mathlib.Core.Path.{◌≡◌, refl, ap, ◌∙◌}
use mathlib.Core.List.{List}
use native.Mathlib.Omega.{arith}
use lib.{Dec.lit<, Dec.lit≤, ListN.length}
use Rattle.jacobian.specs.{Answer.Result, Answer.gives, Answer.Accepts, declared.Curve.Curve, declared.Class.Class}
use Rattle.stored_form.specs.{Reading.found, Head.class_room, Classes.class_field, Reader.read_record, Reader.class_layout, declared.Record.Record}
use Rattle.stored_form_theorems.proofs.Passing.{class_holds}
use Rattle.written_form.specs.Effect.{write, refuse, class_response}
use Rattle.written_form.proofs.Effects.{call_short, answer_refused}
use Rattle.seal_licence.specs.Multiples.{refuses, multiple_class, halved_class, multiple_answer, halvings_answer}
use Rattle.seal_licence.specs.Calls.{answered, called, multiple_call, halvings_call}
use Rattle.seal_licence.specs.declared.calls.Call.{Call}
use Rattle.seal_licence.specs.declared.calls.Call.TheVariants.{Multiple, Halvings}
use Rattle.seal_licence.proofs.{Theorems.multiple_gives, Theorems.halvings_give, Theorems.multiple_too_large, Theorems.halvings_too_many, Written.multiple_writes, Written.halvings_write}

-- ---- by value

module _ {c : Curve} {a : Class} (h : Accepts c a) where
  pub multiple_at_largest : multiple_answer c a 2305843009213693951 ≡ gives (multiple_class c a 2305843009213693951)
  multiple_at_largest = multiple_gives h 2305843009213693951 (lit< tt)

  pub multiple_past_largest : multiple_answer c a 2305843009213693952 ≡ refuses 118
  multiple_past_largest = multiple_too_large c a 2305843009213693952 h (lit≤ tt)

  pub halvings_at_largest : halvings_answer c a 64 ≡ gives (halved_class c a 64)
  halvings_at_largest = halvings_give h 64 (lit≤ tt)

  pub halvings_past_largest : halvings_answer c a 65 ≡ refuses 119
  halvings_past_largest = halvings_too_many c a 65 h (lit< tt)

-- ---- by bytes

module _ (s out : List ℕ) (room : 51 ≤ length out) {h : Record} {end : ℕ} (read : read_record class_layout s ≡ found h end) where
  refused : (call : Call) {m : ℕ} {r : Result} → answered call h ≡ class_response r → r ≡ refuses m → called call s out ≡ refuse m out
  unfolding class_response
  refused call is e = answer_refused class_room class_layout (answered call) s out room read _ _ is (ap (λ (x : Result). x.outcome) e)

  pub multiple_at_largest_bytes : multiple_call 2305843009213693951 s out ≡ write (class_field 0x43 (multiple_class h.curve h.class 2305843009213693951)) out
  multiple_at_largest_bytes =
      multiple_writes s out room read 2305843009213693951 (lit< tt)
      ∙ ap (λ (r : Result). write (class_field 0x43 r.class) out) (multiple_at_largest (class_holds s read))

  pub multiple_past_largest_bytes : multiple_call 2305843009213693952 s out ≡ refuse 118 out
  unfolding answered
  multiple_past_largest_bytes = refused (Multiple 2305843009213693952) refl (multiple_past_largest (class_holds s read))

  pub halvings_at_largest_bytes : halvings_call 64 s out ≡ write (class_field 0x43 (halved_class h.curve h.class 64)) out
  halvings_at_largest_bytes =
      halvings_write s out room read 64 (lit≤ tt) ∙ ap (λ (r : Result). write (class_field 0x43 r.class) out) (halvings_at_largest (class_holds s read))

  pub halvings_past_largest_bytes : halvings_call 65 s out ≡ refuse 119 out
  unfolding answered
  halvings_past_largest_bytes = refused (Halvings 65) refl (halvings_past_largest (class_holds s read))

module _ (s out : List ℕ) (short : length out ≤ 50) (n : ℕ) where
  pub multiple_short_bytes : multiple_call n s out ≡ refuse 101 out
  multiple_short_bytes = call_short class_room class_layout (answered (Multiple n)) s out (omega (arith, short))

  pub halvings_short_bytes : halvings_call n s out ≡ refuse 101 out
  halvings_short_bytes = call_short class_room class_layout (answered (Halvings n)) s out (omega (arith, short))
