-- What each byte call answers and leaves in the lent output (docs/SPECIFICATION.md, 5, 6 and 7).
use Rattle.std.specs.Prelude.{ℕ, ◌≤◌, length}
use mathlib.Core.{Path.◌≡◌, List.List}
use Rattle.jacobian.specs.{Answer.Only, Group.doublings, declared.Class.Class}
use Rattle.stored_form.specs.{Reading.found, Head.class_room, Classes.class_field, Reader.read_record, Reader.class_layout, declared.Record.Record}
use Rattle.written_form.specs.Effect.{Effect, Response, write, class_response, byte_call}
use Rattle.seal_licence.specs.Multiples.{halvings_limit, multiple_answer, halvings_answer}
use Rattle.seal_licence.specs.declared.calls.Call.{Call}
use Rattle.seal_licence.specs.declared.calls.Call.TheVariants.{Multiple, Halvings}

-- the response to a call, from a record of one class
unfoldable pub answered : Call → Record → Response
answered (Multiple n) h = class_response (multiple_answer h.curve h.class n)
answered (Halvings k) h = class_response (halvings_answer h.curve h.class k)

-- a byte call: it decodes a record of one class and writes the response into an output with room for a class field
abbrev pub called : Call → List ℕ → List ℕ → Effect
called call s out = byte_call class_room class_layout (answered call) s out

-- n times the record's class; n is an argument of the call
abbrev pub multiple_call : ℕ → List ℕ → List ℕ → Effect
multiple_call n = called (Multiple n)

-- the record's class halved k times; k is an argument of the call
abbrev pub halvings_call : ℕ → List ℕ → List ℕ → Effect
halvings_call k = called (Halvings k)

-- if record, k and output are accepted, halvings write the one class that k doublings take to the record's class
pub record HalvesTimes (k : ℕ) (s out : List ℕ) (e : Effect) : Type 0 where
  pub answer : e ≡ halvings_call k s out
  pub halved : {h : Record} {end : ℕ} → read_record class_layout s ≡ found h end → k ≤ halvings_limit → class_room ≤ length out →
      (x : Class) × (e ≡ write (class_field 0x43 x) out) × Only h.curve (λ b. doublings h.curve k b ≡ h.class) x
