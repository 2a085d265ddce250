-- What half and undo promise (docs/SPECIFICATION.md, 2), if the record is read and the output has room.
-- `halves`: half writes the one class whose double is the record's class.
-- `undo_writes`: if the released step is below the count, undo writes the count less one, the released step as it was
-- and the seal after the undo. `undoes`: that is the one seal whose double plus the operation's class is the record's.
use Prim.Native.Nat.{ℕ, ◌-◌, ◌≤◌, ◌<◌}
use mathlib.Core.Path.{◌≡◌, sym, ap, ◌∙◌}
use mathlib.Core.List.{List, ◌++◌}
use lib.ListN.{length}
use Rattle.class_group.specs.{Operations.sum, Operations.double, Moves.double_and_add}
use Rattle.class_group.proofs.Closed.{double_reduced}
use Rattle.jacobian.specs.{Curves.curve, Classes.pair, Classes.class_of, Answer.Only, Answer.Result, Answer.result, Answer.gives, Answer.double_answer, Answer.half_answer, Answer.sum_answer, declared.Curve.Curve, declared.Class.Class}
use Rattle.jacobian.proofs.{Calls.accepts_two, Calls.double_gives, Calls.sum_gives, Calls.double_accepts, Calls.double_of_half, Calls.only_half, Representation.accepted_reduced, Representation.Form.pair_class_of}
use Rattle.history.specs.Register.{commit_seal, undo_seal, with_count_and_seal, stepped, RegisterReply}
use Rattle.history.specs.Calls as history
use Rattle.history.specs.Calls.{answer}
use Rattle.history.proofs.{Seals.undo_sound, Seals.undo_of_commit, Seals.commit_of_undo, Edges.undo_above_released}
use Rattle.stored_form.specs.{Reading.found, Fields.count_field, Fields.released_field, Classes.class_field, Passing.ClassPasses, Reader.read_record, Reader.step_layout, declared.Record.Record}
use Rattle.written_form.specs.Effect.{Effect, write, register_room}
use Rattle.seal.specs.Records.{register_fields}
use Rattle.seal.specs.Calls.{register, half_call, undo_call, Halves, Undoes}
use Rattle.seal.proofs.Passing.{class_holds, step_holds, half_given}
use Rattle.seal.proofs.ByteHalving.{half_writes}
use Rattle.seal.proofs.ByteRegister.{undo_of_record, call_written}

-- ---- half

module _ {c : Curve} {a : Class} (p : ClassPasses c a) where
  only_halved : Only c (λ b. result (double_answer c b) ≡ gives a) (half_answer c a).class
  only_halved = record {
    accepts = (half_given p).passes;
    holds = double_of_half c p;
    only = λ b q e. only_half c p q e;
  }

pub halves : {s out : List ℕ} {e : Effect} → e ≡ half_call s out → Halves s out e
halves {s} {out} is = record {
  answer = is;
  half = λ {h} {end} read room. ((half_answer h.curve h.class).class, is ∙ half_writes s out room read, only_halved (class_holds s read));
}

-- ---- undo

-- the double plus a class is the seal after a commit
sum_of_double : {c : Curve} {b a : Class} → ClassPasses c b → ClassPasses c a → result (sum_answer c (double_answer c b).class a) ≡ gives (commit_seal c b a)
unfolding commit_seal double_and_add
sum_of_double {c} {b} {a} q p =
    let d = c.degree in
    let twice = double (curve c) (pair d b) in
    let is : pair d (double_answer c b).class ≡ twice =
    ap (λ (r : Result). pair d r.class) (double_gives c q)
    ∙ pair_class_of d (curve c) twice (double_reduced (curve c) (accepted_reduced c b q)) in
    sum_gives c (double_accepts c q) p ∙ ap (λ D. gives (class_of d (sum (curve c) D (pair d a)))) is

module _ {c : Curve} {s a : Class} (p : ClassPasses c s) (q : ClassPasses c a) where
  only_undone : Only c (λ b. result (sum_answer c (double_answer c b).class a) ≡ gives s) (undo_seal c s a)
  only_undone =
      let passes = undo_sound p q in
      record {
        accepts = passes;
        holds = sum_of_double passes q ∙ ap gives (commit_of_undo p q);
        only = λ b r e.
            sym (undo_of_commit r q)
            ∙ ap (λ (x : Result). undo_seal c x.class a) (sym (sum_of_double r q) ∙ e);
      }

pub undo_writes : (s out : List ℕ) {h : Record} {end : ℕ} → read_record step_layout s ≡ found h end → h.released < h.count → register_room ≤ length out →
    undo_call s out ≡ write (count_field (h.count - 1) ++ released_field h.released ++ class_field 0x43 (undo_seal h.curve h.class h.operation)) out
unfolding answer stepped with_count_and_seal
undo_writes s out {h} read above room =
    let g = register h in
    let a = h.operation in
    let p = step_holds s read in
    let is = undo_above_released g a (accepts_two h.curve p.2 p.3) p.0 p.1 above in
    undo_of_record s out room read
    ∙ call_written g (history.undo a) (ap (λ (x : RegisterReply). x.outcome) is) out room
    ∙ ap (λ (x : RegisterReply). write (register_fields x.register) out) is

pub undoes : {s out : List ℕ} {e : Effect} → e ≡ undo_call s out → Undoes s out e
undoes {s} {out} is = record {
  answer = is;
  undone = λ {h} {end} read above room.
      let p = step_holds s read in
      (undo_seal h.curve h.class h.operation, is ∙ undo_writes s out read above room, only_undone p.2 p.3);
}
