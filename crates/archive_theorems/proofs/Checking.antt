-- Each refusal of an archive, under its condition and in its order (docs/SPECIFICATION.md, 6 and 9).
-- `archive_checked`: the refusal of an archive is that of its fields' checks, header first and then the operations that
-- its count says, then that of what follows them: their pairs, and the end.
-- `archive_answers`: it is 0, one of 102 to 112, or 122.
use Prim.Native.Nat.{ℕ, zero, suc}
use mathlib.Core.Path.{◌≡◌, refl, sym, ap, subst, ◌∙◌}
use mathlib.Core.{Bool.Bool, Bool.true, Bool.false, Bool.cond, List.List, List.[], List.◌∷◌, List.◌++◌}
use lib.{Dec.leb, ListN.length, ListN.get_or, ListN.replicate}
use Rattle.jacobian.specs.{Checks.Check, Checks.check, Checks.RefusalOf, Refusals.listed}
use Rattle.stored_form.specs.{Reading.Reading, Reading.found, Reading.refused, Reading.◌then◌, Reading.reading_refusal, Fields.ended, Record.empty_record, Pairs.read_pairs}
use Rattle.stored_form.specs.{Reader.read_field, Reader.read_fields, Reader.read_operations, Reader.header_layout, declared.Record.Record}
use Rattle.stored_form.proofs.{Readings.then_assoc, Readings.same_found, Readings.found_refusal, Readings.same_refusal, Readers.fields_append}
use Rattle.stored_form_theorems.specs.{Checking.fields_checks, Checking.with_field_at, Checking.after_field, Checking.head_checks, Checking.end_check, Numbers.ZeroOrOneOf}
use Rattle.stored_form_theorems.specs.Pairs.{PairsLength, PairsAllowed, pairs_said, after_pairs}
use Rattle.stored_form_theorems.proofs.{CheckedReadings.Reads, CheckedReadings.then_reads, Checking.first_read, Checking.end_reads, Pairs.pairs_reads}
use Rattle.jacobian.proofs.Checking.{among, among_append, refusal_among}
use Rattle.archive.specs.Archive.{read_tail, archive_of, read_archive, archive_refusal}
use Rattle.archive_theorems.specs.Checking.{count_said, archive_layout, operations_end, tail_checks, archive_checks, archive_numbers}

module _ (s : List ℕ) where
  -- k operations are read as fields, one after the other, and then what follows n of them
  operations_as_fields : (n k : ℕ) (h : Record) (at : ℕ) →
      reading_refusal (read_operations k h s at then λ ops end. read_tail n s end) ≡ reading_refusal (read_fields (replicate k 0x44) h s at then λ more end. read_tail n s end)
  unfolding read_operations read_fields ◌then◌
  operations_as_fields n zero h at = refl
  operations_as_fields n (suc k) h at =
      ap reading_refusal (then_assoc (read_field 0x44 h s at) _ _)
      ∙ same_refusal (read_field 0x44 h s at) _ (λ more next. read_fields (replicate k 0x44) more s next then λ last end. read_tail n s end)
      (λ more next. ap reading_refusal (then_assoc (read_operations k more s next) _ _) ∙ operations_as_fields n k more next)
      ∙ sym (ap reading_refusal (then_assoc (read_field 0x44 h s at) _ _))

  -- n operations as fields, then what follows them
  from_operations : ℕ → Record → ℕ → Reading (List ℕ)
  from_operations n h at = read_fields (replicate n 0x44) h s at then λ more end. read_tail n s end

  -- after the header as many operations are read as its bytes say
  count_read : {x : Reading Record} → read_fields header_layout empty_record s 0 ≡ x → reading_refusal (x then λ h first. from_operations h.count h first) ≡ reading_refusal (x then from_operations (count_said s))
  unfolding ◌then◌
  count_read {x = found h first} e =
      let same = same_found (sym e ∙ (first_read s header_layout).value (ap reading_refusal e)) in
      ap (λ (k : ℕ). reading_refusal (from_operations k h first)) (ap (λ (m : Record). m.count) same.0)
  count_read {x = refused n} e = refl

  archive_as_fields : archive_refusal s ≡ reading_refusal (read_fields (archive_layout s) empty_record s 0 then λ more end. read_tail (count_said s) s end)
  unfolding archive_refusal read_archive from_operations
  archive_as_fields =
      same_refusal (read_fields header_layout empty_record s 0) _ (λ h first. from_operations h.count h first)
      (λ h first.
      same_refusal (read_operations h.count h s first) _ (λ ops end. read_tail h.count s end) (λ ops end. found_refusal (read_tail h.count s end) (archive_of h ops))
      ∙ operations_as_fields h.count h.count h first)
      ∙ count_read refl
      ∙ sym (ap reading_refusal
      (ap (λ (x : Reading Record). x then λ more end. read_tail (count_said s) s end) (fields_append header_layout (replicate (count_said s) 0x44) empty_record s 0)
      ∙ then_assoc (read_fields header_layout empty_record s 0) _ _))

  tail_reads : (n at : ℕ) → Reads (tail_checks n s at) (pairs_said s at) (after_pairs s at) (read_tail n s at)
  unfolding read_tail
  tail_reads n at = then_reads (ended s) (read_pairs n s at) (pairs_reads n s at) (λ held. end_reads s (pairs_said s at) (after_pairs s at))

  pub archive_checked : RefusalOf (archive_checks s) (archive_refusal s)
  archive_checked =
      subst (RefusalOf (archive_checks s)) (sym archive_as_fields)
      (then_reads (λ more end. read_tail (count_said s) s end) (read_fields (archive_layout s) empty_record s 0) (first_read s (archive_layout s)) (λ held. tail_reads (count_said s) (operations_end s))).refusal

-- ---- the numbers

operations_among : (n : ℕ) (h : Record) (s : List ℕ) (at : ℕ) → among (fields_checks (replicate n 0x44) h s at) archive_numbers ≡ true
unfolding listed
operations_among zero h s at = refl
operations_among (suc n) h s at = operations_among n (with_field_at 0x44 h s at) s (after_field s at)

tail_among : (n : ℕ) (s : List ℕ) (at : ℕ) → among (tail_checks n s at) archive_numbers ≡ true
unfolding listed
tail_among n s at = go (leb (length s) at)
  where
    field : List Check
    field = check 112 (get_or s at 0 ≡ 0x48) ∷ (head_checks 0x48 PairsLength s at ++ check 122 (PairsAllowed n (pairs_said s at)) ∷ [])

    go : (b : Bool) → among (cond b [] field ++ end_check s (after_pairs s at) ∷ []) archive_numbers ≡ true
    go true = refl
    go false = refl

pub archive_answers : (s : List ℕ) → ZeroOrOneOf archive_numbers (archive_refusal s)
unfolding listed
archive_answers s =
    refusal_among archive_numbers
    (among_append (fields_checks (archive_layout s) empty_record s 0) (tail_checks (count_said s) s (operations_end s)) archive_numbers (operations_among (count_said s) _ s _) (tail_among (count_said s) s (operations_end s)))
    (archive_checked s)
