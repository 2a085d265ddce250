-- The walk of any accepted archive, whatever calls made it (docs/SPECIFICATION.md, 10).
-- `walk_accepted`: no step of the walk back from its last seal is refused.
-- `walk_seals`: the walk's seals are the last seal and the answers of these steps.
-- `report_seals`: the report's lines have these seals.
-- `seal_accepted`: each of the walk's seals is accepted.
-- `header_passes`: its drawing number is printable, and its operations are no more than the limit.
-- `count_fits`: so their number fits 64 bits.
use Prim.Native.Nat.{ℕ, zero, suc, ◌^◌, ◌≤◌, ◌<◌}
use mathlib.Core.Path.{◌≡◌, ap, ◌∙◌, sym, subst}
use mathlib.Core.List.{List, [], ◌∷◌, map}
use native.Mathlib.Nat.{lt_of_le_of_lt}
use native.Mathlib.Omega.{arith}
use mathlib.Core.Bool.{true}
use lib.Dec.{lit<}
use lib.ListN.{length, get_or}
use borrow.Author.Tests.{leb-true}
use Rattle.lists.specs.{Lists.All, Lists.none, Lists.more, Walk.walk}
use Rattle.jacobian.specs.{Answer.accepted, Answer.Accepts, Answer.neutral_class, declared.Class.Class}
use Rattle.jacobian.proofs.ByValue.Checks.{unless_zero}
use Rattle.stored_form.specs.{Reading.found, Fields.count_limit, Fields.count_refusal, Fields.printable, Fields.drawing_refusal, Record.drawing_name, Record.empty_record, Tags.rules, Reader.header_layout}
use Rattle.stored_form.proofs.Passing.{Holds, fields_hold}
use Rattle.stored_form_theorems.proofs.Operations.{operations_counted}
use Rattle.history.specs.{Register.undo_seal, Calls.steps_back}
use Rattle.history.proofs.{Seals.undo_sound, Steps.steps_accepted, Steps.steps_walk}
use Rattle.archive.specs.Archive.{Archive, archive_of, read_archive}
use Rattle.archive_theorems.proofs.Parts.{parts_of, seal_sound, operations_accepted}
use Rattle.walk_report.specs.{Lines.first_line, Walk.seals, Walk.letters, Report.seal_lines, Report.walk_lines, Report.lines_of, Report.report_lines}

module _ (s : List ℕ) {a : Archive} {end : ℕ} (reads : read_archive s ≡ found a end) where
  pub walk_accepted : All (λ x. x.outcome ≡ accepted) (steps_back a.curve a.seal a.operations)
  walk_accepted = steps_accepted a.operations (seal_sound s reads) (operations_accepted s reads)

  pub walk_seals : seals a.curve a.seal a.operations ≡ a.seal ∷ map (λ x. x.class) (steps_back a.curve a.seal a.operations)
  unfolding seals
  walk_seals = steps_walk a.curve a.seal a.operations walk_accepted

  pub report_seals : report_lines s ≡ first_line (length a.operations) a.drawing
      ∷ seal_lines 0 (0x2E ∷ letters a.curve a.operations) (a.seal ∷ map (λ x. x.class) (steps_back a.curve a.seal a.operations))
  unfolding report_lines lines_of walk_lines
  report_seals =
      ap lines_of reads
      ∙ ap (λ (l : List Class). first_line (length a.operations) a.drawing ∷ seal_lines 0 (0x2E ∷ letters a.curve a.operations) l) walk_seals

  -- a seal is accepted, as are all after it
  pub seal_accepted : (k : ℕ) → k ≤ length a.operations → Accepts a.curve (get_or (seals a.curve a.seal a.operations) k neutral_class)
  unfolding seals walk
  seal_accepted k h = go k a.operations h (seal_sound s reads) (operations_accepted s reads)
    where
      go : (k : ℕ) {seal : Class} (ops : List Class) → k ≤ length ops → Accepts a.curve seal → All (Accepts a.curve) ops →
          Accepts a.curve (get_or (walk (undo_seal a.curve) seal ops) k neutral_class)
      go zero [] h hs none = hs
      go (suc k) [] h hs none = absurd (omega (arith, h))
      go zero (b ∷ ops) h hs (more hb rest) = hs
      go (suc k) (b ∷ ops) h hs (more hb rest) = go k ops (omega (arith, h)) (undo_sound hs hb) rest

  -- the drawing number is printable, and the operations are no more than the limit
  pub header_passes : (printable a.drawing ≡ true) × (length a.operations ≤ count_limit)
  unfolding Holds rules archive_of drawing_refusal count_refusal
  header_passes =
      let p = parts_of s reads in
      let h : (printable (drawing_name p.values.drawing) ≡ true) × (p.values.count ≤ count_limit) =
      fields_hold (λ h. (printable (drawing_name h.drawing) ≡ true) × (h.count ≤ count_limit)) s header_layout empty_record 0
      (λ d _ c _ name clean n few a e. (unless_zero _ 108 (lit< tt) clean, leb-true _ _ (unless_zero _ 109 (lit< tt) few))) p.header_read in
      let counted : length p.operations ≡ p.values.count = operations_counted s p.values.count p.values p.first p.operations_read in
      subst (λ (x : Archive). (printable x.drawing ≡ true) × (length x.operations ≤ count_limit)) (sym p.archive) (h.0, omega (arith, counted, h.1))

  pub count_fits : (k : ℕ) → k ≤ length a.operations → k < 2 ^ 64
  unfolding count_limit
  count_fits k h =
      let few : k ≤ count_limit = omega (arith, h, header_passes.1) in
      lt_of_le_of_lt few (lit< tt)
