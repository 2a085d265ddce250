-- Demand 3 for lists of byte calls whose accepted calls are commits and releases (docs/SPECIFICATION.md, 11).
-- The list starts from the stored form of any register that no check refuses; any bytes may be given as operations,
-- into any outputs, and calls may be refused. Walks start from the seal field last written, and go past releases.
-- `row_walk_bytes`: the walk over a lent row of the i newest classes is not refused, and answers the seal whose field
-- was kept just before the i-th newest commit, for i = 0 the one last written.
-- `archive_seals_bytes`: the seals of the walk of every accepted archive that keeps this have the fields kept.
-- `archive_seal_bytes`: with i operations undone the seal's field is the one kept just before the i-th newest commit.
-- `archive_exists_bytes`: for every allowed drawing number such an archive exists, with any allowed pairs or without.
-- `archive_is_fields`: its bytes are the fields that were kept, written and given, one after the other, and its pairs.
-- `archive_reads_bytes`: these fields are read as that archive.
use Prim.Native.Nat.{ℕ, ◌≤◌}
use mathlib.Core.Path.{◌≡◌, refl, sym, ap, ap₂, ◌∙◌, subst}
use mathlib.Core.Bool.{true}
use mathlib.Core.List.{List, [], ◌∷◌, ◌++◌, map, flatten}
use lib.ListN.{length, get_or, take, length-map, get_or-map}
use Rattle.jacobian.specs.{Answer.accepted, Answer.Result, declared.Class.Class}
use Rattle.history.specs.{Machine.last, Machine.newest, Calls.NoUndos, Calls.classes, Calls.seals_met, declared.Register.Register}
use Rattle.history.specs.Calls as history
use Rattle.stored_form.specs.{Reading.found, Head.drawing_limit, Fields.printable, Fields.drawing_field, Fields.count_field, Classes.class_field, Classes.curve_fields_bytes, Classes.operation_fields, Pairs.pairs_field}
use Rattle.stored_form_theorems.specs.Pairs.{PairsAllowed}
use Rattle.seal.specs.Steps.{Kept, ByteCall, byte_calls, BytesGiven, operations, seal_field, seal_fields, kept, decode_kept, newest_decoded, last_decoded, decoded_calls, InStoredForm}
use Rattle.seal.proofs.{ByteCarried.newest_carried, ByteCarried.last_carried, ByteCarried.operations_stored, ByteCarried.seals_stored, ByteSteps.last_stored, Decoding.seal_stored}
use Rattle.seal_register.specs.RowWalk.{row_walk_answer}
use Rattle.seal_register.proofs.RowWalk.{row_walk_by_value}
use Rattle.archive.specs.Archive.{Archive, read_archive}
use Rattle.archive_theorems.specs.Written.{archive_bytes}
use Rattle.walk_report.specs.Walk.{seals}
use Rattle.report_theorems.specs.Demand3.{Keeps, kept_archive, Encodes}
use Rattle.report_theorems.proofs.Demand3.{archive_seals, archive_exists}
use Rattle.byte_theorems.specs.Demand3.{archive_of_fields}

-- the fields of operations are their joined fields
joined : (l : List Class) → operation_fields l ≡ flatten (map (class_field 0x44) l)
unfolding operation_fields flatten
joined [] = refl
joined (a ∷ l) = ap (λ (ys : List ℕ). class_field 0x44 a ++ ys) (joined l)

module _ (k : Kept) (form : InStoredForm k) (cs : List ByteCall) (bytes : BytesGiven cs) where
  abbrev r : Register
  r = decode_kept k

  abbrev xs : List history.Call
  xs = decoded_calls k cs

  -- what holds of the accepted calls and the last register by value holds of the decoded ones
  by_value : (P : List history.Event → Register → Type 0) → P (history.newest r xs) (history.last r xs) → P (newest_decoded k cs) (last_decoded k cs)
  by_value P h = rw (newest_carried k form cs bytes, last_carried k form cs bytes) h

  many : length (classes (newest_decoded k cs)) ≡ length (operations (newest byte_calls k cs))
  many = sym (ap length (operations_stored k form cs bytes) ∙ length-map (classes (newest_decoded k cs)) (class_field 0x44))

  -- ---- the archive made of the fields
  first_fields : curve_fields_bytes r.curve ≡ k.curve
  unfolding kept
  first_fields = ap (λ (t : Kept). t.curve) form.stored

  operations_given : operation_fields (classes (newest_decoded k cs)) ≡ flatten (operations (newest byte_calls k cs))
  operations_given = joined (classes (newest_decoded k cs)) ∙ ap flatten (sym (operations_stored k form cs bytes))

  last_field : class_field 0x43 (last_decoded k cs).seal ≡ seal_field (last byte_calls k cs)
  unfolding last_decoded
  last_field = sym (seal_stored (last byte_calls k cs) (last_stored k form bytes).stored)

  pub archive_is_fields : (drawing pairs : List ℕ) → archive_bytes (kept_archive (decode_kept k) (last_decoded k cs) (newest_decoded k cs) drawing pairs) ≡ archive_of_fields k cs drawing pairs
  unfolding archive_bytes kept_archive archive_of_fields
  archive_is_fields drawing pairs =
      ap₂ (λ (f : List ℕ) (n : ℕ). f ++ drawing_field drawing ++ count_field n ++ class_field 0x43 (last_decoded k cs).seal ++ operation_fields (classes (newest_decoded k cs)) ++ pairs_field pairs) first_fields
      many
      ∙ ap₂ (λ (f o : List ℕ). k.curve ++ drawing_field drawing ++ count_field (length (operations (newest byte_calls k cs))) ++ f ++ o ++ pairs_field pairs) last_field operations_given

  module _ (only : NoUndos (newest_decoded k cs)) where
    only_by_value : NoUndos (history.newest r xs)
    only_by_value = rw (newest_carried k form cs bytes) at only

    -- ---- the walk over a lent row
    walked : (i : ℕ) → i ≤ length (classes (newest_decoded k cs)) → row_walk_answer r.curve (last_decoded k cs).seal (take i (classes (newest_decoded k cs)))
        ≡ record { outcome = accepted; class = get_or (seals_met (last_decoded k cs) (newest_decoded k cs)) i (last_decoded k cs).seal }
    walked =
        by_value
        (λ es t. (i : ℕ) → i ≤ length (classes es) → row_walk_answer r.curve t.seal (take i (classes es)) ≡ record { outcome = accepted; class = get_or (seals_met t es) i t.seal })
        (row_walk_by_value r xs only_by_value form.passes)

    pub row_walk_bytes : (i : ℕ) → i ≤ length (operations (newest byte_calls k cs)) →
        let walk = row_walk_answer (decode_kept k).curve (last_decoded k cs).seal (take i (classes (newest_decoded k cs))) in
        (walk.outcome ≡ accepted) × (class_field 0x43 walk.class ≡ get_or (seal_fields k cs) i (seal_field (last byte_calls k cs)))
    row_walk_bytes i h =
        let e = walked i (subst (λ (n : ℕ). i ≤ n) (sym many) h) in
        let all = seals_met (last_decoded k cs) (newest_decoded k cs) in (
          ap (λ (x : Result). x.outcome) e,
          ap (λ (x : Result). class_field 0x43 x.class) e
              ∙ sym (get_or-map (class_field 0x43) all i (last_decoded k cs).seal)
              ∙ ap₂ (λ l f. get_or l i f) (sym (seals_stored k form cs bytes)) last_field,
        )

    -- ---- the walk of an archive
    module _ (s : List ℕ) {a : Archive} {end : ℕ} (reads : read_archive s ≡ found a end) (keeps : Keeps a (decode_kept k) (last_decoded k cs) (newest_decoded k cs)) where
      pub archive_seals_bytes : map (class_field 0x43) (seals a.curve a.seal a.operations) ≡ seal_fields k cs
      archive_seals_bytes =
          ap (map (class_field 0x43))
          (archive_seals r xs only_by_value s reads (rw (newest_carried k form cs bytes, last_carried k form cs bytes) at keeps)
          ∙ by_value (λ es t. seals_met (history.last r xs) (history.newest r xs) ≡ seals_met t es) refl)
          ∙ sym (seals_stored k form cs bytes)

      pub archive_seal_bytes : (i : ℕ) → class_field 0x43 (get_or (seals a.curve a.seal a.operations) i a.seal) ≡ get_or (seal_fields k cs) i (class_field 0x43 a.seal)
      archive_seal_bytes i = sym (get_or-map (class_field 0x43) (seals a.curve a.seal a.operations) i a.seal) ∙ ap (λ l. get_or l i (class_field 0x43 a.seal)) archive_seals_bytes

    module _ (drawing : List ℕ) (clean : printable drawing ≡ true) (short : length drawing ≤ drawing_limit)
        (pairs : List ℕ) (allowed : PairsAllowed (length (operations (newest byte_calls k cs))) pairs) (few : length pairs ≤ 2048) where
      pub archive_exists_bytes : Encodes (decode_kept k) (last_decoded k cs) (newest_decoded k cs) drawing pairs (kept_archive (decode_kept k) (last_decoded k cs) (newest_decoded k cs) drawing pairs)
      archive_exists_bytes =
          by_value (λ es t. PairsAllowed (length (classes es)) pairs → Encodes r t es drawing pairs (kept_archive r t es drawing pairs))
          (λ ok. archive_exists r xs only_by_value form.passes drawing clean short pairs ok few)
          (subst (λ (n : ℕ). PairsAllowed n pairs) (sym many) allowed)

      pub archive_reads_bytes : read_archive (archive_of_fields k cs drawing pairs)
          ≡ found (kept_archive (decode_kept k) (last_decoded k cs) (newest_decoded k cs) drawing pairs) (length (archive_of_fields k cs drawing pairs))
      archive_reads_bytes =
          subst (λ (l : List ℕ). read_archive l ≡ found (kept_archive r (last_decoded k cs) (newest_decoded k cs) drawing pairs) (length l)) (archive_is_fields drawing pairs)
          archive_exists_bytes.reads
