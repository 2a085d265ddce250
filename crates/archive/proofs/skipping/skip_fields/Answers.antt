-- `skipping::skip_fields` meets its contract: the fold passes over a field at each turn.
use Prim.Native.Nat.{ℕ}
use Rattle.std.proofs.Common.{rules, arith, refl, ◌∙◌}
use Rattle.std.proofs.lemmas.Iterator.{YieldsList-from_range}
use Rattle.std.proofs.lemmas.Iterator.Consumers.{fold_from_yields_List}
use Rattle.archive.specs.Skipping.{next_field}
use Rattle.archive.proofs.Skipped.{skip_all}
use Rattle.archive.proofs.skipping.skip_fields.Goals as goal

pub returns : goal.returns
returns c =
    let s = c.args.s.now in
    fold_from_yields_List _ (λ (next i : ℕ). next_field s next) c.args.at _ c.fold.ensures.ran (YieldsList-from_range 0 c.args.k c.args.k refl (omega arith)) (λ a x b q k. search rules)
    ∙ skip_all s 0 c.args.k c.args.at
