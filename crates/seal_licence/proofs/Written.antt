-- What the two byte calls write for a record of one class that is read (docs/SPECIFICATION.md, 2.11 and 7), where the
-- output has room for a class field and n and k are within their limits.
-- `multiple_writes`: n times writes the field of what the call by value gives.
-- `halvings_write`: k halvings write the field of what the call by value gives.
-- `halves_times`: that class is the only accepted one that k doublings take to the record's class.
use Prim.Native.Nat.{ℕ, ◌≤◌, ◌<◌}
use mathlib.Core.Path.{◌≡◌, refl, sym, ap, subst, ◌∙◌}
use mathlib.Core.List.{List}
use lib.ListN.{length}
use Rattle.jacobian.specs.{Answer.Result, Answer.gives, Answer.Accepts, declared.Class.Class}
use Rattle.jacobian.proofs.Group.{class_is}
use Rattle.stored_form.specs.{Reading.found, Head.class_room, Classes.class_field, Reader.read_record, Reader.class_layout, declared.Record.Record}
use Rattle.stored_form_theorems.proofs.{ClassRoundTrips.class_short, Passing.class_holds}
use Rattle.written_form.specs.Effect.{Effect, write, class_response}
use Rattle.written_form.proofs.Effects.{answer_written}
use Rattle.seal_licence.specs.Multiples.{multiple_limit, halvings_limit, multiple_answer, halvings_answer}
use Rattle.seal_licence.specs.Calls.{answered, called, multiple_call, halvings_call, HalvesTimes}
use Rattle.seal_licence.specs.declared.calls.Call.{Call}
use Rattle.seal_licence.specs.declared.calls.Call.TheVariants.{Multiple, Halvings}
use Rattle.seal_licence.proofs.Values.{multiple_accepts, halved_accepts}
use Rattle.seal_licence.proofs.Theorems.{multiple_gives, halvings_give, halvings_only}

module _ (s out : List ℕ) (room : class_room ≤ length out) {h : Record} {end : ℕ} (read : read_record class_layout s ≡ found h end) where
  accepts : Accepts h.curve h.class
  accepts = class_holds s read

  -- a call that gives an accepted class writes its field
  writes : (call : Call) {r : Result} {x : Class} → answered call h ≡ class_response r → r ≡ gives x → Accepts h.curve x
      → called call s out ≡ write (class_field 0x43 r.class) out
  unfolding class_response
  writes call {r} {x} is given ok =
      answer_written class_room class_layout (answered call) s out room read r.outcome (class_field 0x43 r.class) is (ap (λ (q : Result). q.outcome) given)
      (class_short 0x43 h.curve r.class (subst (Accepts h.curve) (sym (class_is given)) ok).none)

  pub multiple_writes : (n : ℕ) → n < multiple_limit → multiple_call n s out ≡ write (class_field 0x43 (multiple_answer h.curve h.class n).class) out
  unfolding answered
  multiple_writes n l = writes (Multiple n) refl (multiple_gives accepts n l) (multiple_accepts accepts n)

  pub halvings_write : (k : ℕ) → k ≤ halvings_limit → halvings_call k s out ≡ write (class_field 0x43 (halvings_answer h.curve h.class k).class) out
  unfolding answered
  halvings_write k l = writes (Halvings k) refl (halvings_give accepts k l) (halved_accepts accepts k)

pub halves_times : {k : ℕ} {s out : List ℕ} {e : Effect} → e ≡ halvings_call k s out → HalvesTimes k s out e
halves_times {k} {s} {out} is = record {
  answer = is;
  halved = λ {h} {end} read l room.
      ((halvings_answer h.curve h.class k).class, is ∙ halvings_write s out room read k l, halvings_only (class_holds s read) k l);
}
