-- The suppressed archive is the one that a history without the operation leaves.
-- `suppressed_history`: two lists of register calls from one seal on one curve, whose accepted calls are commits that
-- differ in operation k alone, neutral in the second: the archive kept of the second is the first one's with
-- operation k suppressed.
-- `suppressed_history_bytes`: the same of the bytes that the call writes.
-- `suppressed_history_left`: the same if each call is by value or in place.
-- `suppressed_byte_history`: the same of lists of byte calls, and of the archives made of the fields that they kept.
use Prim.Native.Nat.{ℕ, ◌≤◌}
use mathlib.Core.Path.{◌≡◌, sym, ap, ap₂, ◌∙◌, subst}
use mathlib.Core.Bool.{true}
use mathlib.Core.List.{List}
use lib.ListN.{length}
use Rattle.jacobian.specs.{Answer.neutral_class, declared.Curve.Curve, declared.Class.Class}
use Rattle.history.proofs.Classes.{commits_no_undos}
use Rattle.history.specs.{Machine.newest as newest_of, Calls.Event, Calls.Call, Calls.last, Calls.newest, Calls.classes, Calls.Variants, declared.Register.Register}
use Rattle.stored_form.specs.{Number.Bytes, Reading.found, Head.drawing_limit, Fields.printable}
use Rattle.archive.specs.Archive.{Archive, read_archive}
use Rattle.archive_theorems.specs.Written.{archive_bytes}
use Rattle.report_theorems.specs.Demand3.{kept_archive}
use Rattle.seal_register.specs.InPlace.{RecordedCall, calls, Session, left_by, newest_recorded}
use Rattle.seal_register.proofs.InPlace.{left_by_last, newest_is}
use Rattle.seal.specs.Steps.{Kept, ByteCall, byte_calls, BytesGiven, operations, decode_kept, newest_decoded, decoded_calls, InStoredForm}
use Rattle.seal.proofs.{ByteCarried.newest_carried, ByteCarried.last_carried}
use Rattle.byte_theorems.specs.Demand3.{archive_of_fields}
use Rattle.byte_theorems.proofs.Demand3.{archive_is_fields, archive_exists_bytes, archive_reads_bytes}
use Rattle.stored_form_theorems.specs.Pairs.{PairsAllowed}
use Rattle.suppression_theory.specs.{Archives.suppressed}
use Rattle.suppression_theory.proofs.Histories.{neutral_commit_operations, neutral_commit_seal}
use Rattle.seal_archive.proofs.Accepted.{said_is}
use Rattle.suppression_theorems.specs.Suppressed.{Suppresses}
use Rattle.suppression_theorems.proofs.Suppressed.{suppress_form}

module _ (r t : Register) (cs ds : List Call) {k : ℕ} {d : Class} (v : Variants k d neutral_class r t (newest r cs) (newest t ds)) (drawing pairs : List ℕ) where
  pub suppressed_history : kept_archive t (last t ds) (newest t ds) drawing pairs ≡ suppressed k (kept_archive r (last r cs) (newest r cs) drawing pairs)
  unfolding kept_archive suppressed
  suppressed_history =
      ap (λ (c : Curve). record { curve = c; drawing = drawing; seal = (last t ds).seal; operations = classes (newest t ds); pairs = pairs }) v.same_curve
      ∙ ap₂ (λ (seal : Class) (ops : List Class). record { curve = r.curve; drawing = drawing; seal = seal; operations = ops; pairs = pairs }) (neutral_commit_seal r t cs ds v) (neutral_commit_operations r t cs ds v)

  pub suppressed_history_bytes : {s out u : List ℕ} {end : ℕ} → Bytes s → read_archive s ≡ found (kept_archive r (last r cs) (newest r cs) drawing pairs) end →
      Suppresses s k out u → u ≡ archive_bytes (kept_archive t (last t ds) (newest t ds) drawing pairs)
  suppressed_history_bytes {s} b reads does =
      suppress_form b does ∙ ap (λ (x : Archive). archive_bytes (suppressed k x)) (said_is s reads) ∙ ap archive_bytes (sym suppressed_history)

-- ---- each call by value or in place

pub suppressed_history_left : (r t : Register) (ms ns : List RecordedCall) → Session r ms → Session t ns → {k : ℕ} {d : Class} →
    Variants k d neutral_class r t (newest_recorded r ms) (newest_recorded t ns) → (drawing pairs : List ℕ) →
    kept_archive t (left_by t ns) (newest_recorded t ns) drawing pairs ≡ suppressed k (kept_archive r (left_by r ms) (newest_recorded r ms) drawing pairs)
suppressed_history_left r t ms ns session other v drawing pairs =
    rw (newest_is r ms session, left_by_last r ms session, newest_is t ns other, left_by_last t ns other)
    (suppressed_history r t (calls ms) (calls ns) (rw (newest_is r ms session, newest_is t ns other) at v) drawing pairs)

-- ---- lists of byte calls

module _ (k k' : Kept) (form : InStoredForm k) (form' : InStoredForm k') (cs ds : List ByteCall) (given : BytesGiven cs) (given' : BytesGiven ds) {i : ℕ} {d : Class}
    (v : Variants i d neutral_class (decode_kept k) (decode_kept k') (newest_decoded k cs) (newest_decoded k' ds))
    (drawing : List ℕ) (clean : printable drawing ≡ true) (short : length drawing ≤ drawing_limit)
    (pairs : List ℕ) (allowed : PairsAllowed (length (operations (newest_of byte_calls k cs))) pairs) (few : length pairs ≤ 2048) where
  pub suppressed_byte_history : {out u : List ℕ} → Suppresses (archive_of_fields k cs drawing pairs) i out u → u ≡ archive_of_fields k' ds drawing pairs
  suppressed_byte_history does =
      let r = decode_kept k in
      let r' = decode_kept k' in
      let xs = decoded_calls k cs in
      let ys = decoded_calls k' ds in
      let e = newest_carried k form cs given in
      let e' = newest_carried k' form' ds given' in
      let only = commits_no_undos v.commits in
      let bytes = subst Bytes (archive_is_fields k form cs given drawing pairs) (archive_exists_bytes k form cs given only drawing clean short pairs allowed few).bytes in
      let reads = archive_reads_bytes k form cs given only drawing clean short pairs allowed few
      ∙ ap₂ (λ (es : List Event) (g : Register). found (kept_archive r g es drawing pairs) (length (archive_of_fields k cs drawing pairs))) e (last_carried k form cs given) in
      suppressed_history_bytes r r' xs ys (rw (e, e') at v) drawing pairs bytes reads does
      ∙ ap₂ (λ (es : List Event) (g : Register). archive_bytes (kept_archive r' g es drawing pairs)) (sym e') (sym (last_carried k' form' ds given'))
      ∙ archive_is_fields k' form' ds given' drawing pairs
