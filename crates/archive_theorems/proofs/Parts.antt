-- The parts of an archive that was read.
-- `parts_of`: its header, its operations and what follows them.
-- `seal_sound`, `operations_accepted`: no check refuses its seal and its operations on its curve.
use Prim.Native.Nat.{ℕ}
use mathlib.Core.Path.{◌≡◌, sym, ap, ◌∙◌, subst}
use mathlib.Core.List.{List}
use Rattle.lists.specs.Lists.{All}
use Rattle.jacobian.specs.declared.Class.{Class}
use Rattle.jacobian.specs.Answer.{Accepts}
use Rattle.stored_form.specs.{Reading.found, Record.empty_record, Tags.rules, Reader.read_fields, Reader.read_operations, Reader.header_layout, declared.Record.Record}
use Rattle.stored_form.proofs.{Readings.both_found, Readings.same_found, Passing.Holds, Passing.fields_hold}
use Rattle.stored_form_theorems.proofs.Operations.{operations_sound}
use Rattle.archive.specs.Archive.{Archive, read_tail, archive_of, read_archive}

-- the readings of an archive's header, of its operations and of what follows them
pub record Parts (s : List ℕ) (a : Archive) (end : ℕ) : Type 0 where
  pub values : Record
  pub first : ℕ
  pub operations : List Class
  pub last : ℕ
  pub pairs : List ℕ
  pub header_read : read_fields header_layout empty_record s 0 ≡ found values first
  pub operations_read : read_operations values.count values s first ≡ found operations last
  pub tail_read : read_tail values.count s last ≡ found pairs end
  pub archive : a ≡ archive_of values operations pairs

module _ (s : List ℕ) {a : Archive} {end : ℕ} (e : read_archive s ≡ found a end) where
  pub parts_of : Parts s a end
  unfolding read_archive
  parts_of =
      let h = both_found _ (read_fields header_layout empty_record s 0) e in
      let ops = both_found _ (read_operations h.0.count h.0 s h.1) h.3 in
      let t = both_found _ (read_tail h.0.count s ops.1) ops.3 in
      let same = same_found t.3 in
      record {
        values = h.0;
        first = h.1;
        operations = ops.0;
        last = ops.1;
        pairs = t.0;
        header_read = h.2;
        operations_read = ops.2;
        tail_read = t.2 ∙ ap (found t.0) same.1;
        archive = sym same.0;
      }

  pub seal_sound : Accepts a.curve a.seal
  unfolding Holds rules archive_of
  seal_sound =
      let p = parts_of in
      subst (λ (x : Archive). Accepts x.curve x.seal) (sym p.archive)
      (fields_hold (λ h. Accepts h.curve h.class) s header_layout empty_record 0 (λ d _ c _ name _ n _ a e. record { none = e }) p.header_read)

  pub operations_accepted : All (Accepts a.curve) a.operations
  unfolding archive_of
  operations_accepted =
      let p = parts_of in
      subst (λ (x : Archive). All (Accepts x.curve) x.operations) (sym p.archive) (operations_sound s p.values.count p.values p.first p.operations_read)
