-- Properties of records that the checks of their fields ensure.
-- `Holds`: P holds of the record h with any bodies for these tags that pass their checks.
-- `fields_hold`, `record_holds`: then P holds of every record that is read with these tags.
use Prim.Native.Nat.{ℕ}
use mathlib.Core.Path.{◌≡◌, sym, ap, ◌∙◌, subst}
use mathlib.Core.List.{List, [], ◌∷◌}
use lib.ListN.{length}
use Rattle.stored_form.specs.{Reading.found, Fields.ended, Record.empty_record, Tags.rules, Reader.read_field, Reader.read_fields, Reader.read_record, declared.Record.Record}
use Rattle.stored_form.proofs.{Readings.same_found, Readings.both_found, Readings.checked_found, Readers.field_found}

-- P holds of the record h with any bodies for these tags that pass their checks
unfoldable pub Holds : (Record → Type 0) → List ℕ → Record → Type 0
Holds P [] h = P h
Holds P (tag ∷ tags) h = (body : List ℕ) → (rules tag).check (length body) ((rules tag).with_field body h) ≡ 0 → Holds P tags ((rules tag).with_field body h)

module _ (P : Record → Type 0) (s : List ℕ) where
  pub fields_hold : (tags : List ℕ) (h : Record) (at : ℕ) {m : Record} {end : ℕ} → Holds P tags h → read_fields tags h s at ≡ found m end → P m
  unfolding Holds read_fields
  fields_hold [] h at p e = subst P (same_found e).0 p
  fields_hold (tag ∷ tags) h at p e =
      let q = both_found _ (read_field tag h s at) e in
      let f = field_found tag h s at q.2 in
      let passes = ap ((rules tag).check (length f.body)) (sym f.values) ∙ f.passes in
      fields_hold tags q.0 q.1 (subst (Holds P tags) (sym f.values) (p f.body passes)) q.3

  pub record_holds : (tags : List ℕ) {h : Record} {end : ℕ} → Holds P tags empty_record → read_record tags s ≡ found h end → P h
  unfolding read_record ended
  record_holds tags p e =
      let f = both_found _ (read_fields tags empty_record s 0) e in
      subst P (same_found (checked_found _ _ f.3).1).0 (fields_hold tags empty_record 0 p f.2)
