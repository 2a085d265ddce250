-- The byte calls at the edges, in numbers (docs/SPECIFICATION.md, 6.3).
-- `output_of_50`: a call that writes a class refuses an output of 50 bytes with 101, whatever the record.
-- `output_of_51`: it never refuses one of 51 bytes with 101.
-- `output_of_60`, `output_of_61`: the same of commit, undo and release, with 60 and 61 bytes.
-- `commit_at_1023`: a commit at count 1,023 writes the count 1,024. `commit_at_1024`: at 1,024 it is refused with 114.
-- `undo_at_0`: an undo at count 0 is refused with 113, where the released step is 0 too.
-- `undo_at_released`: an undo at the released step, if that is not 0, is refused with 121.
-- `undo_above_released`: one above it, an undo writes the released step as the count.
-- `release_at`: a release at a count n writes n as count and as released step, with the seal as it was.
-- `release_at_0`, `release_at_1024`: so it does at 0 and at 1,024.
-- `release_length`: it writes 13 bytes and 16 more for each degree of the seal.
-- `call_at_1025`: a commit, an undo or a release at count 1,025 is refused with 109, whatever follows.
-- `released_past_count`: one whose released step is one above the count is refused with 120, whatever follows.
-- `without_released`: one whose 0x42 is followed by 0x43, as before there was 0x45, is refused with 103.
use Prim.Native.Nat.{ℕ, ◌+◌, ◌*◌, ◌-◌, ◌≤◌, ◌<◌}
use mathlib.Core.{Path.◌≡◌, Path.refl, Path.sym, Path.ap, Path.subst, Path.◌∙◌, Bool.true, Bool.true≢false, List.List, List.[], List.◌∷◌, List.◌++◌, Logic.inl, Logic.inr}
use native.Mathlib.Omega.{arith}
use lib.{Dec.leb, ListN.length, ListN.get_or, ListN.length-append}
use borrow.Author.Tests.{leb-true}
use Rattle.jacobian.specs.{Refusals.listed, Answer.refusal_of_two, Answer.accepted}
use Rattle.jacobian.proofs.{Calls.accepts_two, Checking.among, Checking.fails_among}
use Rattle.history.specs.Register.{commit_seal, undo_seal, with_count_and_seal, with_released, RegisterReply, commit_answer, undo_answer, release_answer}
use Rattle.history.specs.Calls as history
use Rattle.history.specs.Calls.{answer}
use Rattle.history.proofs.Edges as edges
use Rattle.history.proofs.Edges.{commit_to_limit, commit_at_limit, undo_at_zero, release_within_limit}
use Rattle.stored_form.specs.{Tags.rules, Reading.found, Reading.refused as unread, Head.BytesAt, Fields.count_limit, Fields.count_field, Fields.released_field, Classes.encode_class, Classes.class_field, Record.empty_record, declared.Record.Record}
use Rattle.stored_form.specs.Reader.{read_body, read_field, read_fields, read_record, curve_layout, register_layout, step_layout}
use Rattle.stored_form.proofs.{Heads.head_103, Lengths.length_stored, Lengths.length_count, Lengths.length_released, Readings.then_found, Readings.then_refused, Readers.fields_append}
use Rattle.stored_form_theorems.specs.{Checking.record_checks, Checking.record_values, Numbers.OneOf}
use Rattle.stored_form_theorems.proofs.{FieldEdges.count_of_1025, ClassRoundTrips.length_encoded}
use Rattle.stored_form_theorems.proofs.FieldEdges as field
use Rattle.written_form.specs.Effect.{Effect, refuse, write, EffectOf, all_hold, first_fails}
use Rattle.written_form.proofs.Checking.{every, every_one}
use Rattle.seal.specs.Records.{register_fields}
use Rattle.seal.specs.Calls.{register, answered, tags, called, commit_call, undo_call, release_call}
use Rattle.seal.specs.Checking.{least_output, last_checks, checks, lengths}
use Rattle.seal.specs.Steps.{Request, request_call}
use Rattle.seal.specs.declared.calls.Call.{Call}
use Rattle.seal.specs.declared.calls.Call.TheVariants.{Opposite, Double, Half, Sum, Stamp}
use Rattle.seal.proofs.{Passing.register_holds, Passing.step_holds, Checking.call_checked, Promises.undo_writes, ByteFailing.call_unread, ByteFailing.record_fails}
use Rattle.seal.proofs.ByteRegister.{commit_of_record, undo_of_record, release_of_record, unwritten, call_written}

-- ---- the output

-- the numbers of the checks that follow that of the output
abbrev later : List ℕ
later = 102 ∷ 103 ∷ 104 ∷ 105 ∷ 106 ∷ 107 ∷ 109 ∷ 110 ∷ 111 ∷ 112 ∷ 113 ∷ 114 ∷ 115 ∷ 116 ∷ 120 ∷ 121 ∷ []

later_checks : (call : Call) (s : List ℕ) → among (record_checks (tags call) s ++ last_checks call (record_values (tags call) s)) later ≡ true
unfolding listed
later_checks Opposite s = refl
later_checks Double s = refl
later_checks Half s = refl
later_checks Sum s = refl
later_checks Call.Commit s = refl
later_checks Call.Undo s = refl
later_checks Call.Release s = refl
later_checks (Stamp n) s = refl

lengths_short : (call : Call) → every (λ n. leb n 100) (lengths call) ≡ true
lengths_short Opposite = refl
lengths_short Double = refl
lengths_short Half = refl
lengths_short Sum = refl
lengths_short Call.Commit = refl
lengths_short Call.Undo = refl
lengths_short Call.Release = refl
lengths_short (Stamp n) = refl

module _ (call : Call) (s out : List ℕ) where
  -- an output shorter than the least is refused with 101
  short_output : length out < least_output call → called call s out ≡ refuse 101 out
  short_output l = by (call_checked call s out)
    where
      by : EffectOf (checks call s out) (lengths call) (answered call (record_values (tags call) s)).bytes out (called call s out) → called call s out ≡ refuse 101 out
      by (all_hold held one e) = absurd (omega (arith, held.0))
      by (first_fails n (inl p) e) = e ∙ ap (λ (k : ℕ). refuse k out) p.1
      by (first_fails n (inr p) e) = absurd (omega (arith, p.0))

  -- one that is not shorter is not refused with 101
  long_output : least_output call ≤ length out → ¬ ((called call s out).answer ≡ 101)
  unfolding write refuse listed
  long_output l is = by (call_checked call s out)
    where
      by : EffectOf (checks call s out) (lengths call) (answered call (record_values (tags call) s)).bytes out (called call s out) → ⊥
      by (all_hold held one e) =
          let n = length (answered call (record_values (tags call) s)).bytes in
          let short = leb-true n 100 (every_one (λ n. leb n 100) (lengths call) n (lengths_short call) one) in
          omega (arith, ap (λ (x : Effect). x.answer) e)
      by (first_fails n (inl p) e) = p.0 l
      by (first_fails n (inr p) e) =
          let number : n ≡ 101 = sym (ap (λ (x : Effect). x.answer) e) ∙ is in
          true≢false (sym (subst (OneOf later) number (fails_among (record_checks (tags call) s ++ last_checks call (record_values (tags call) s)) later n (later_checks call s) p.1)))

  pub output_of_50 : least_output call ≡ 51 → length out ≡ 50 → called call s out ≡ refuse 101 out
  output_of_50 e l = short_output (omega arith)

  pub output_of_51 : least_output call ≡ 51 → length out ≡ 51 → ¬ ((called call s out).answer ≡ 101)
  output_of_51 e l = long_output (omega arith)

  pub output_of_60 : least_output call ≡ 61 → length out ≡ 60 → called call s out ≡ refuse 101 out
  output_of_60 e l = short_output (omega arith)

  pub output_of_61 : least_output call ≡ 61 → length out ≡ 61 → ¬ ((called call s out).answer ≡ 101)
  output_of_61 e l = long_output (omega arith)

-- ---- the count and the released step

module _ (s out : List ℕ) (long : 61 ≤ length out) where
  -- of a step's record that is read
  module _ {h : Record} {end : ℕ} (read : read_record step_layout s ≡ found h end) where
    -- no check refuses its seal and its class
    none : refusal_of_two h.curve h.class h.operation ≡ 0
    none = let p = step_holds s read in accepts_two h.curve p.2 p.3

    pub commit_at_1023 : h.count ≡ 1023 →
        commit_call s out ≡ write (count_field 1024 ++ released_field h.released ++ class_field 0x43 (commit_seal h.curve h.class h.operation)) out
    unfolding answer with_count_and_seal
    commit_at_1023 e =
        let g = register h in
        let a = h.operation in
        let next = commit_to_limit g a none (step_holds s read).1 e in
        commit_of_record s out long read
        ∙ call_written g (history.commit a) (ap (λ (x : RegisterReply). x.outcome) next) out long
        ∙ ap (λ (x : RegisterReply). write (register_fields x.register) out) next

    pub commit_at_1024 : h.count ≡ 1024 → commit_call s out ≡ refuse 114 out
    commit_at_1024 e =
        let g = register h in
        commit_of_record s out long read ∙ unwritten out (commit_answer g h.operation) (ap (λ (x : RegisterReply). x.outcome) (commit_at_limit g h.operation none (step_holds s read).1 e))

    pub undo_at_0 : h.count ≡ 0 → undo_call s out ≡ refuse 113 out
    undo_at_0 e =
        let g = register h in
        let p = step_holds s read in
        undo_of_record s out long read ∙ unwritten out (undo_answer g h.operation) (ap (λ (x : RegisterReply). x.outcome) (undo_at_zero g h.operation none p.0 p.1 e))

    pub undo_at_released : ¬ (h.count ≡ 0) → h.count ≡ h.released → undo_call s out ≡ refuse 121 out
    undo_at_released some e =
        let g = register h in
        let p = step_holds s read in
        undo_of_record s out long read ∙ unwritten out (undo_answer g h.operation) (ap (λ (x : RegisterReply). x.outcome) (edges.undo_at_released g h.operation none p.0 p.1 some e))

    pub undo_above_released : h.count ≡ h.released + 1 →
        undo_call s out ≡ write (count_field h.released ++ released_field h.released ++ class_field 0x43 (undo_seal h.curve h.class h.operation)) out
    undo_above_released e =
        let one_less : h.count - 1 ≡ h.released = omega arith in
        undo_writes s out read (omega arith) long
        ∙ ap (λ (n : ℕ). write (count_field n ++ released_field h.released ++ class_field 0x43 (undo_seal h.curve h.class h.operation)) out) one_less

  -- of a release's record that is read
  module _ {h : Record} {end : ℕ} (read : read_record register_layout s ≡ found h end) where
    pub release_at : (n : ℕ) → h.count ≡ n → release_call s out ≡ write (count_field n ++ released_field n ++ class_field 0x43 h.class) out
    unfolding answer with_released count_limit
    release_at n e =
        let g = register h in
        let p = register_holds s read in
        let next : release_answer g ≡ record { outcome = accepted; register = with_released h.count g } = release_within_limit g p.2.none p.0 p.1 in
        release_of_record s out long read
        ∙ call_written g history.release (ap (λ (x : RegisterReply). x.outcome) next) out long
        ∙ ap (λ (x : RegisterReply). write (register_fields x.register) out) next
        ∙ ap (λ (m : ℕ). write (count_field m ++ released_field m ++ class_field 0x43 h.class) out) e

    pub release_at_0 : h.count ≡ 0 → release_call s out ≡ write (count_field 0 ++ released_field 0 ++ class_field 0x43 h.class) out
    release_at_0 e = release_at 0 e

    pub release_at_1024 : h.count ≡ 1024 → release_call s out ≡ write (count_field 1024 ++ released_field 1024 ++ class_field 0x43 h.class) out
    release_at_1024 e = release_at 1024 e

    pub release_length : (release_call s out).answer ≡ 13 + 16 * h.class.degree
    unfolding write class_field
    release_length =
        let n = h.count in
        let a = h.class in
        ap (λ (x : Effect). x.answer) (release_at n refl)
        ∙ length-append (count_field n ++ released_field n) (class_field 0x43 a)
        ∙ omega (arith, length-append (count_field n) (released_field n), length_count n, length_released n, length_stored 0x43 (encode_class a), length_encoded h.curve a (register_holds s read).2.none)

  -- ---- fields that are refused as they are read

  -- fields at the front of a record that are read, before one that is refused
  refused_behind : (q : Request) (front rest : List ℕ) (tag : ℕ) {h : Record} {at n : ℕ} → register_layout ≡ front ++ tag ∷ rest → read_fields front empty_record s 0 ≡ found h at
      → read_field tag h s at ≡ unread n → called (request_call q) s out ≡ refuse n out
  unfolding read_fields
  refused_behind q front rest tag {h} {at} {n} layout first refused =
      call_unread q s (record_fails s (ap (λ (l : List ℕ). read_fields l empty_record s 0) layout ∙ fields_append front (tag ∷ rest) empty_record s 0 ∙ then_found _ first ∙ then_refused _ refused) q) out long

  pub call_at_1025 : (q : Request) {h : Record} {at : ℕ} → read_fields curve_layout empty_record s 0 ≡ found h at → BytesAt s at (0x42 ∷ 0x00 ∷ 0x02 ∷ 0x04 ∷ 0x01 ∷ [])
      → called (request_call q) s out ≡ refuse 109 out
  call_at_1025 q {h} {at} first stands = refused_behind q curve_layout (0x45 ∷ 0x43 ∷ []) 0x42 refl first (count_of_1025 h s at stands)

  pub released_past_count : (q : Request) {h : Record} {at : ℕ} (high low : ℕ) → read_fields (curve_layout ++ 0x42 ∷ []) empty_record s 0 ≡ found h at
      → high * 256 + low ≡ h.count + 1 → BytesAt s at (0x45 ∷ 0x00 ∷ 0x02 ∷ high ∷ low ∷ []) → called (request_call q) s out ≡ refuse 120 out
  released_past_count q {h} {at} high low first one_more stands = refused_behind q (curve_layout ++ 0x42 ∷ []) (0x43 ∷ []) 0x45 refl first (field.released_past_count h s at high low one_more stands)

  pub without_released : (q : Request) {h : Record} {at : ℕ} → read_fields (curve_layout ++ 0x42 ∷ []) empty_record s 0 ≡ found h at → at + 3 ≤ length s → get_or s at 0 ≡ 0x43
      → called (request_call q) s out ≡ refuse 103 out
  unfolding read_field read_body
  without_released q {h} {at} first fits seal =
      refused_behind q (curve_layout ++ 0x42 ∷ []) (0x43 ∷ []) 0x45 refl first (then_refused _ (then_refused _ (head_103 0x45 ((rules 0x45).allows h) s at fits (λ e. omega (arith, seal, e)))))
