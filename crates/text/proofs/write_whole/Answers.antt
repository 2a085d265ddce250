-- `write_whole` meets its contract: what a write takes is appended to the front that was written before.
use Rattle.std.proofs.Common.{◌≡◌, ◌+◌, ◌-◌, ◌≤◌, ℕ, List, arith, drop, length, length-drop, take, sym, subst, take_all}
use Rattle.std.proofs.Math.Seq.{take-add}
use Rattle.std.specs.Io.KnownBytes.{Appends}
use Rattle.std.proofs.KnownBytes.{Appends-trans}
use Rattle.text.proofs.write_whole.Goals as goal

-- what is left from an offset on is all of the rest
rest_whole : (at : ℕ) (bytes : List ℕ) → take (length bytes - at) (drop at bytes) ≡ drop at bytes
rest_whole at bytes = take_all (length bytes - at) (drop at bytes) (omega (arith, length-drop at bytes))

-- what a write took of the rest ends within the bytes
ends_within : (at n : ℕ) (bytes : List ℕ) → at ≤ length bytes → n ≤ length (take (length bytes - at) (drop at bytes)) → at + n ≤ length bytes
ends_within at n bytes h k = let m : n ≤ length (drop at bytes) = subst (λ r. n ≤ length r) (rest_whole at bytes) k in omega (arith, h, m, length-drop at bytes)

pub loop-done-preserved : goal.loop-done-preserved
loop-done-preserved g c =
    let at = c.loop-done.done in
    let n = c.in_ok-n.n in
    let bytes = c.args.bytes.now in
    let before = c.loop-done.invariant in
    let more = subst (λ r. Appends (g.W.Write.contents c.loop-done.out) (g.W.Write.contents c.write.new.self) (take n r)) (rest_whole at bytes) c.in_ok-n.ensures.bytes in
    (ends_within at n bytes before.0 c.in_ok-n.ensures.bound, subst (Appends _ _) (sym (take-add at n bytes)) (Appends-trans _ _ _ _ _ before.1 more))
