-- Demand 3 for a list of byte commits, undos and releases (docs/SPECIFICATION.md, 11).
-- The list starts from the stored form of any register that no check refuses; any bytes may be given as operations,
-- into any outputs, and calls may be refused. Each call gets the fields that the last accepted call wrote.
-- If no release was accepted, the accepted calls are taken back, newest first, by any calls with the other step and the
-- same operation, each with an output of its own that has room, whatever it holds (`TakesBack`).
-- `taken_back_accepted`: none of these calls is refused.
-- `taken_back_kept`: each leads to what was kept just before the call that it takes back: that register's fields.
-- `taken_back_all`: at the end everything kept is as at the start.
-- `after_accepted`, `after_kept`, `after_all`: the same of the second of two lists, made one after the other, if no
-- release of the second was accepted; at the end everything kept is as between the two.
-- `steps_only`: in a list of commits and undos no release is accepted.
-- `last_release`: every list is in two parts, the first empty or up to its last accepted release.
-- `buffer_takes_back`: calls that reuse one buffer with room, each as the call before left it, are such calls.
-- `buffer_reused`: their outputs are the buffer, and then what each of them left of it, in order.
-- `any_outputs`, `any_outputs_last`: a list whose calls all have room does the same with other outputs that have room.
-- `of_each`: what holds of each call made in stored form, with bytes as its operation, holds of each call of the list.
-- `last_stored`: what is kept after the list is the stored form of a register that no check refuses.
use Prim.Native.Nat.{ℕ, ◌≤◌}
use mathlib.Core.Path.{◌≡◌, refl, sym, ap, ap₂, ◌∙◌, subst}
use mathlib.Core.{Bool.true, List.List, List.[], List.◌∷◌, List.◌++◌, List.map, List.map-map, Logic.◌⊎◌, Logic.inl, Logic.inr}
use native.Mathlib.Omega.{arith}
use lib.Dec.{leb, lit≤}
use borrow.Author.Tests.{leb-true}
use lib.ListN.{length, get_or, take, drop, replicate, length-append, length-drop}
use Rattle.lists.specs.{Lists.All, Lists.none, Lists.more, Walk.foldl}
use Rattle.lists.proofs.Lists.{all_reverse}
use Rattle.jacobian.specs.{Answer.Verdict, Answer.accepted, Answer.refused}
use Rattle.history.specs.Machine.{Machine, Event, event, accepted_of, run, newest, last, accepted_calls, carried, Agrees, Reversible}
use Rattle.history.specs.Machine as machine
use Rattle.history.specs.declared.{Step.TheVariants.Commit, Step.TheVariants.Undo}
use Rattle.history.proofs.Machine.{Run.accepted_fit, Run.all_oldest, Run.last_append, Carried.run_carried, Carried.last_carried, Accepted.accepted_newest, Accepted.accepted_last}
use Rattle.history.proofs.Machine.TakingBack as law
use Rattle.stored_form.specs.Number.{Bytes}
use Rattle.written_form.specs.{Effect.Effect, Effect.Response, Effect.WroteOrRefused, Effect.refuse, Effect.write, Effect.register_room, Wrote.outcome}
use Rattle.written_form.specs.Effect as effects
use Rattle.written_form.proofs.Checking.{every, every_one}
use Rattle.seal.specs.Calls.{called}
use Rattle.seal.specs.declared.calls.Call.TheVariants as Call
use Rattle.seal.specs.Steps.{Kept, Request, step, release, operation, request_call, ByteCall, call_effect, next, byte_calls, ByteEvent, BytesGiven, RegisterRooms, back, backs, NoReleases, TakesBack, with_buffer, InStoredForm}
use Rattle.seal.proofs.OneByteStep.{into, refused_stays, kept_stored, room_was, returned}
use Rattle.seal.proofs.{WroteOrRefused.wrote_or_refused, AnyOutput.same_request}

-- ---- the machine of requests, each made into one and the same output

-- an output with room
abbrev blank : List ℕ
blank = replicate register_room 0

blank_room : register_room ≤ length blank
blank_room = lit≤ tt

-- the request of a call
abbrev request : ByteCall → Request
request c = c.request

-- the machine
abbrev requests : Machine Kept Request
requests = record { outcome = λ k q. byte_calls.outcome k (into blank q); next = λ k q. byte_calls.next k (into blank q) }

-- a call without its output
abbrev asked : ByteEvent → Event Kept Request
asked = carried (λ t. t) request

-- what is kept after a response
abbrev left_by : Kept → Response → Kept
left_by k r = elim (outcome r.answer) [ accepted ↦ record { curve = k.curve; register = r.bytes } | refused n ↦ k ]

-- a call that has room does what its request does
agrees : (k : Kept) (c : ByteCall) → register_room ≤ length c.output → Agrees (λ t. t) request requests (event byte_calls k c)
unfolding Agrees carried event next
agrees k c room =
    let same = same_request (k.curve ++ k.register ++ operation c.request) blank c.output c.request blank_room room in
    ap (λ (r : Response). record { before = k; call = c.request; outcome = outcome r.answer; left = left_by k r }) same

agree_all : (k : Kept) {cs : List ByteCall} → RegisterRooms cs → All (Agrees (λ t. t) request requests) (run byte_calls k cs)
unfolding run
agree_all k none = none
agree_all k (more {a = c} room rooms) = more (agrees k c room) (agree_all (byte_calls.next k c) rooms)

-- ---- any outputs

module _ (k : Kept) {cs ds : List ByteCall} (same : map (λ c. c.request) cs ≡ map (λ c. c.request) ds) (rooms : RegisterRooms cs) (rooms' : RegisterRooms ds) where
  pub any_outputs : map (carried (λ t. t) (λ c. c.request)) (run byte_calls k cs) ≡ map (carried (λ t. t) (λ c. c.request)) (run byte_calls k ds)
  any_outputs =
      run_carried (λ t. t) request byte_calls requests k cs (agree_all k rooms)
      ∙ ap (run requests k) same
      ∙ sym (run_carried (λ t. t) request byte_calls requests k ds (agree_all k rooms'))

  pub any_outputs_last : last byte_calls k cs ≡ last byte_calls k ds
  any_outputs_last =
      last_carried (λ t. t) request byte_calls requests k cs (agree_all k rooms)
      ∙ ap (last requests k) same
      ∙ sym (last_carried (λ t. t) request byte_calls requests k ds (agree_all k rooms'))

-- ---- a list of calls

-- a request of bytes that can be taken back
abbrev Fits : Request → Type 0
Fits q = Bytes (operation q) × (¬ (q ≡ release))

reversible : Reversible requests back InStoredForm Fits
unfolding event machine.turned
reversible = record {
  stays = λ k q n e. refused_stays k (into blank q) n e;
  keeps = λ k q h f e. kept_stored k h (into blank q) f.0 e;
  returns = λ k q h f e.
      let p = returned k h (into blank q) f.0 e f.1 blank blank_room in
      ap₂ (λ (v : Verdict) (t : Kept). record { before = byte_calls.next k (into blank q); call = back q; outcome = v; left = t }) p.0 p.1;
}

next_stored : (k : Kept) → InStoredForm k → (c : ByteCall) → Bytes (operation c.request) → InStoredForm (byte_calls.next k c)
next_stored k form c b = go (byte_calls.outcome k c) refl
  where
    go : (v : Verdict) → byte_calls.outcome k c ≡ v → InStoredForm (byte_calls.next k c)
    go accepted e = kept_stored k form c b e
    go (refused n) e = subst InStoredForm (sym (refused_stays k c n e)) form

pub last_stored : (k : Kept) → InStoredForm k → {cs : List ByteCall} → BytesGiven cs → InStoredForm (last byte_calls k cs)
unfolding last foldl
last_stored k form none = form
last_stored k form (more {a = c} b bs) = last_stored (byte_calls.next k c) (next_stored k form c b) bs

pub of_each : {P : ByteEvent → Type 0} → ((k : Kept) (c : ByteCall) → InStoredForm k → Bytes (operation c.request) → P (event byte_calls k c))
    → (k : Kept) → InStoredForm k → {cs : List ByteCall} → BytesGiven cs → All P (run byte_calls k cs)
unfolding run
of_each p k form none = none
of_each p k form (more {a = c} b bs) = more (p k c form b) (of_each p (byte_calls.next k c) (next_stored k form c b) bs)

module _ (k : Kept) (form : InStoredForm k) (cs : List ByteCall) (bytes : BytesGiven cs) where
  -- an accepted call had room, so it did what its request does
  accepted_agree : All (λ e. e.outcome ≡ accepted → Agrees (λ t. t) request requests e) (run byte_calls k cs)
  unfolding event
  accepted_agree = of_each (λ t c h b e. agrees t c (room_was t h c b e)) k form bytes

  -- the requests of the accepted calls
  abbrev qs : List Request
  qs = map request (accepted_calls byte_calls k cs)

  newest_asked : map asked (newest byte_calls k cs) ≡ newest requests k qs
  newest_asked = accepted_newest (λ t. t) request byte_calls requests refused_stays k cs accepted_agree

  last_asked : last byte_calls k cs ≡ last requests k qs
  last_asked = accepted_last (λ t. t) request byte_calls requests refused_stays k cs accepted_agree

  module _ (only : NoReleases (newest byte_calls k cs)) where
    all_fit : All (λ e. Fits e.call) (accepted_of (run requests k qs))
    unfolding accepted_calls
    all_fit = accepted_fit requests k (fit (accepted_fit byte_calls k bytes) (all_oldest byte_calls k cs only))
      where
        fit : {es : List ByteEvent} → All (λ e. Bytes (operation e.call.request)) es → NoReleases es → All Fits (map request (map (λ e. e.call) es))
        fit none none = none
        fit (more h hs) (more n ns) = more (h, n) (fit hs ns)

    module _ (bs : List ByteCall) (takes : TakesBack bs (newest byte_calls k cs)) where
      -- as requests, the calls that take back are the accepted calls turned back
      asked_back : map asked (run byte_calls (last byte_calls k cs) bs) ≡ map (machine.turned back) (map asked (newest byte_calls k cs))
      unfolding machine.taken_back machine.backs carried
      asked_back =
          run_carried (λ t. t) request byte_calls requests (last byte_calls k cs) bs (agree_all (last byte_calls k cs) takes.rooms)
          ∙ ap₂ (run requests) last_asked (takes.requests ∙ sym (map-map (λ e. back e.call) asked (newest byte_calls k cs)) ∙ ap (map (λ e. back e.call)) newest_asked)
          ∙ law.taken_back_turned requests back reversible qs form all_fit
          ∙ ap (map (machine.turned back)) (sym newest_asked)

      -- a function of an event that does not look at the output, along these calls
      along : {X : Type 0} (f : Event Kept Request → X) → map (λ e. f (asked e)) (run byte_calls (last byte_calls k cs) bs) ≡ map (λ e. f (machine.turned back (asked e))) (newest byte_calls k cs)
      along f =
          sym (map-map f asked (run byte_calls (last byte_calls k cs) bs))
          ∙ ap (map f) asked_back
          ∙ map-map f (machine.turned back) (map asked (newest byte_calls k cs))
          ∙ map-map (λ e. f (machine.turned back e)) asked (newest byte_calls k cs)

      pub taken_back_accepted : All (λ e. e.outcome ≡ accepted) (run byte_calls (last byte_calls k cs) bs)
      unfolding carried machine.turned
      taken_back_accepted = all_of_map (run byte_calls (last byte_calls k cs) bs) (newest byte_calls k cs) (along (λ e. e.outcome))
        where
          all_of_map : (es fs : List ByteEvent) → map (λ e. e.outcome) es ≡ map (λ e. accepted) fs → All (λ e. e.outcome ≡ accepted) es
          all_of_map [] fs e = none
          all_of_map (x ∷ es) [] e = absurd (let n : length (map (λ (e : ByteEvent). e.outcome) (x ∷ es)) ≡ 0 = ap length e in omega arith)
          all_of_map (x ∷ es) (y ∷ fs) e = more (ap (λ l. get_or l 0 accepted) e) (all_of_map es fs (ap (drop 1) e))

      pub taken_back_kept : map (λ e. e.left) (run byte_calls (last byte_calls k cs) bs) ≡ map (λ e. e.before) (newest byte_calls k cs)
      unfolding carried machine.turned
      taken_back_kept = along (λ e. e.left)

      pub taken_back_all : last byte_calls (last byte_calls k cs) bs ≡ k
      unfolding machine.backs carried
      taken_back_all =
          last_carried (λ t. t) request byte_calls requests (last byte_calls k cs) bs (agree_all (last byte_calls k cs) takes.rooms)
          ∙ ap₂ (last requests) last_asked (takes.requests ∙ sym (map-map (λ e. back e.call) asked (newest byte_calls k cs)) ∙ ap (map (λ e. back e.call)) newest_asked)
          ∙ law.taken_back_all requests back reversible qs form all_fit

-- ---- a list in two parts

module _ (k : Kept) (form : InStoredForm k) (cs ds : List ByteCall) (bytes : BytesGiven cs) (bytes' : BytesGiven ds) (only : NoReleases (newest byte_calls (last byte_calls k cs) ds))
    (bs : List ByteCall) (takes : TakesBack bs (newest byte_calls (last byte_calls k cs) ds)) where
  -- what is kept between the two parts is in stored form
  between : InStoredForm (last byte_calls k cs)
  between = last_stored k form bytes

  pub after_accepted : All (λ e. e.outcome ≡ accepted) (run byte_calls (last byte_calls k (cs ++ ds)) bs)
  after_accepted = rw (last_append byte_calls k cs ds) (taken_back_accepted (last byte_calls k cs) between ds bytes' only bs takes)

  pub after_kept : map (λ e. e.left) (run byte_calls (last byte_calls k (cs ++ ds)) bs) ≡ map (λ e. e.before) (newest byte_calls (last byte_calls k cs) ds)
  after_kept = rw (last_append byte_calls k cs ds) (taken_back_kept (last byte_calls k cs) between ds bytes' only bs takes)

  pub after_all : last byte_calls (last byte_calls k (cs ++ ds)) bs ≡ last byte_calls k cs
  after_all = rw (last_append byte_calls k cs ds) (taken_back_all (last byte_calls k cs) between ds bytes' only bs takes)

-- ---- releases in a list

pub steps_only : (k : Kept) {cs : List ByteCall} → All (λ c. ¬ (c.request ≡ release)) cs → NoReleases (newest byte_calls k cs)
unfolding newest
steps_only k h = all_reverse (accepted_fit byte_calls k h)

is_release : (c : ByteCall) → (c.request ≡ release) ⊎ (¬ (c.request ≡ release))
is_release c = go c.request
  where
    go : (q : Request) → (q ≡ release) ⊎ (¬ (q ≡ release))
    go (step k op) = inr (λ e. let z : ◌≡◌ {A = ℕ} 0 1 = cc in omega arith)
    go release = inl refl

pub last_release : (k : Kept) (cs : List ByteCall) → machine.LastFinal byte_calls (λ c. c.request ≡ release) k cs
last_release = law.last_final byte_calls is_release

-- ---- one buffer for all calls

wrote_length : {least : ℕ} {lengths numbers out : List ℕ} {e : Effect} → every (λ n. leb n least) lengths ≡ true → WroteOrRefused least lengths numbers out e → length e.output ≡ length out
unfolding write refuse
wrote_length {least} {lengths} {out = out} low (effects.wrote xs one fits e) =
    let short = leb-true (length xs) least (every_one (λ n. leb n least) lengths (length xs) low one) in
    ap (λ (x : Effect). length x.output) e ∙ length-append xs (drop (length xs) out) ∙ omega (arith, length-drop (length xs) out)
wrote_length low (effects.kept n i e) = ap (λ (x : Effect). length x.output) e

-- a call leaves an output as long as it was
output_length : (q : Request) (s out : List ℕ) → length (called (request_call q) s out).output ≡ length out
output_length (step Commit op) s out = wrote_length refl (wrote_or_refused Call.Commit s out)
output_length (step Undo op) s out = wrote_length refl (wrote_or_refused Call.Undo s out)
output_length release s out = wrote_length refl (wrote_or_refused Call.Release s out)

buffer_requests : (k : Kept) (buffer : List ℕ) (qs : List Request) → map request (with_buffer k buffer qs) ≡ qs
unfolding with_buffer
buffer_requests k buffer [] = refl
buffer_requests k buffer (q ∷ qs) = ap (λ l. q ∷ l) (buffer_requests (byte_calls.next k (into buffer q)) (call_effect k (into buffer q)).output qs)

buffer_rooms : (k : Kept) (buffer : List ℕ) → register_room ≤ length buffer → (qs : List Request) → RegisterRooms (with_buffer k buffer qs)
unfolding with_buffer
buffer_rooms k buffer room [] = none
buffer_rooms k buffer room (q ∷ qs) =
    let long : length (call_effect k (into buffer q)).output ≡ length buffer = output_length q (k.curve ++ k.register ++ operation q) buffer in
    more room (buffer_rooms (byte_calls.next k (into buffer q)) (call_effect k (into buffer q)).output (omega arith) qs)

pub buffer_takes_back : (k : Kept) (buffer : List ℕ) → register_room ≤ length buffer → (es : List ByteEvent) → TakesBack (with_buffer k buffer (backs es)) es
buffer_takes_back k buffer room es = record { requests = buffer_requests k buffer (backs es); rooms = buffer_rooms k buffer room (backs es) }

pub buffer_reused : (k : Kept) (buffer : List ℕ) (qs : List Request) → let es = run byte_calls k (with_buffer k buffer qs) in
    map (λ e. e.call.output) es ≡ take (length es) (buffer ∷ map (λ e. (call_effect e.before e.call).output) es)
unfolding run event with_buffer
buffer_reused k buffer [] = refl
buffer_reused k buffer (q ∷ qs) = ap (λ l. buffer ∷ l) (buffer_reused (byte_calls.next k (into buffer q)) (call_effect k (into buffer q)).output qs)
