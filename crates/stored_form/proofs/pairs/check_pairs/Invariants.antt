-- The invariant of `pairs::check_pairs`: the pairs that are left decide.
use mathlib.Core.Path.{◌≡◌}
use Rattle.std.specs.Slice.Iter.{chunks_exact_rest, chunks_exact_size}
use Rattle.stored_form.specs.Pairs.{pair_length, pairs_after, decode_pairs}
use Rattle.stored_form.proofs.pairs.check_pairs.Given as goal

abbrev pub invariant-loop-bytes : goal.invariant-loop-bytes
invariant-loop-bytes l = record {
  can : (goal.iterator-loop-bytes).can_next l.bytes-iterator;
  finite : (goal.iterator-loop-bytes).is_finite l.bytes-iterator;
  size : chunks_exact_size l.bytes-iterator ≡ pair_length;
  left : pairs_after l.n 0 (decode_pairs l.body) ≡ pairs_after l.n l.last (decode_pairs (chunks_exact_rest l.bytes-iterator));
}
