-- The rules of commit and undo on seals, by value, for an accepted seal S and an accepted class C.
-- `commit_sum`: the commit rule gives twice S plus C, by jacobian's calls.
-- `commit_sound`: the commit rule gives an accepted class.
-- `undo_sound`: the undo rule gives an accepted class.
-- `undo_of_commit`: demand 3, half of (2 S + C) - C is S.
-- `commit_of_undo`: demand 3, twice the half of S - C, plus C, is S.
-- `undo_is_only`: the undo rule gives the only accepted class that the commit rule takes to S.
-- `reversible`: the two rules take each other back.
-- `walk_is_only`: a walk back from S over accepted classes ends in the only accepted class from which a walk forward
-- over them, oldest first, ends in S.
use mathlib.Core.Path.{◌≡◌, sym, ◌∙◌, ap, subst}
use mathlib.Core.List.{List, reverse, reverse-reverse}
use Rattle.lists.specs.{Lists.All, Walk.foldl, Walk.Reversible}
use Rattle.lists.proofs.{Lists.all_reverse, Walk.foldl_state, Walk.foldl_back, Walk.only_start, Walk.turned}
use Rattle.jacobian.specs.Answer.{Accepts, Only, Result, double_and_add_answer, subtract_and_halve_answer}
use Rattle.jacobian.specs.Group.{sum_of, double_of}
use Rattle.jacobian.specs.declared.{Curve.Curve, Class.Class}
use Rattle.jacobian.proofs.Moves as moves
use Rattle.jacobian.proofs.Group.{double_and_add_is}
use Rattle.history.specs.{Register.commit_seal, Register.undo_seal, Calls.walk_forward, Calls.walk_back}

module _ {c : Curve} {s a : Class} (hs : Accepts c s) (ha : Accepts c a) where
  commit_is : (double_and_add_answer c s a).class ≡ commit_seal c s a
  unfolding commit_seal
  commit_is = ap (λ (r : Result). r.class) (moves.double_and_add_gives hs ha)

  undo_is : (subtract_and_halve_answer c s a).class ≡ undo_seal c s a
  unfolding undo_seal
  undo_is = ap (λ (r : Result). r.class) (moves.subtract_and_halve_gives hs ha)

  pub commit_sum : commit_seal c s a ≡ sum_of c (double_of c s) a
  commit_sum = sym commit_is ∙ double_and_add_is c hs ha

  pub commit_sound : Accepts c (commit_seal c s a)
  commit_sound = subst (Accepts c) commit_is (moves.double_and_add_accepts hs ha)

  pub undo_sound : Accepts c (undo_seal c s a)
  undo_sound = subst (Accepts c) undo_is (moves.subtract_and_halve_accepts hs ha)

module _ {c : Curve} {s a : Class} (hs : Accepts c s) (ha : Accepts c a) where
  pub undo_of_commit : undo_seal c (commit_seal c s a) a ≡ s
  undo_of_commit =
      sym (undo_is (commit_sound hs ha) ha)
      ∙ ap (λ x. (subtract_and_halve_answer c x a).class) (sym (commit_is hs ha))
      ∙ ap (λ (r : Result). r.class) (moves.subtract_of_double_and_add hs ha)

  pub commit_of_undo : commit_seal c (undo_seal c s a) a ≡ s
  commit_of_undo =
      sym (commit_is (undo_sound hs ha) ha)
      ∙ ap (λ x. (double_and_add_answer c x a).class) (sym (undo_is hs ha))
      ∙ ap (λ (r : Result). r.class) (moves.double_of_subtract_and_halve hs ha)

module _ {c : Curve} {s a : Class} (hs : Accepts c s) (ha : Accepts c a) where
  pub undo_is_only : Only c (λ h. commit_seal c h a ≡ s) (undo_seal c s a)
  undo_is_only = record {
    accepts = undo_sound hs ha;
    holds = commit_of_undo hs ha;
    only = λ h k e. sym (undo_of_commit k ha) ∙ ap (λ x. undo_seal c x a) e;
  }

pub reversible : (c : Curve) → Reversible (Accepts c) (Accepts c) (commit_seal c) (undo_seal c)
reversible c = record {
  rule_closed = λ h k. commit_sound h k;
  back_closed = λ h k. undo_sound h k;
  back_rule = λ h k. undo_of_commit h k;
  rule_back = λ h k. commit_of_undo h k;
}

module _ {c : Curve} {s : Class} {ops : List Class} (hs : Accepts c s) (ho : All (Accepts c) ops) where
  -- a walk back as the way back over the reversed list, as `Reversible` has it
  walk_back_reversed : walk_back c s ops ≡ foldl (undo_seal c) s (reverse (reverse ops))
  unfolding walk_back
  walk_back_reversed = ap (foldl (undo_seal c) s) (sym (reverse-reverse ops))

  pub walk_is_only : Only c (λ h. walk_forward c h (reverse ops) ≡ s) (walk_back c s ops)
  unfolding walk_back
  walk_is_only = record {
    accepts = foldl_state (turned (reversible c)) hs ho;
    holds = ap (λ h. walk_forward c h (reverse ops)) walk_back_reversed ∙ foldl_back (reversible c) hs (all_reverse ho);
    only = λ h k e. only_start (reversible c) k (all_reverse ho) e ∙ sym walk_back_reversed;
  }
