-- A buffer that is filled from the front, one read after the other.
use Rattle.std.proofs.Common.{◌≡◌, ℕ, ◌+◌, ◌≤◌, List, ◌++◌, length, take, sym, ap, ◌∙◌, length-take-le}
use Rattle.std.proofs.Math.Seq.{take-append-add}
use Rattle.std.proofs.lemmas.List.{take-append-le}
use borrow.Rule.Slice.PartMut.{put_mid, post_of}

-- the front of xs, and then the front of what was read after it, are the front of the buffer after the read
pub take_put_mid_more : (at room n : ℕ) (xs read : List ℕ) → at ≤ length xs → n ≤ length read
    → take (at + n) (put_mid at room xs read) ≡ take at xs ++ take n read
take_put_mid_more at room n xs read filled fits =
    let front = take at xs in
    let rest = read ++ post_of at room xs in
    ap (λ k. take (k + n) (front ++ rest)) (sym (length-take-le at xs filled)) ∙ take-append-add front rest n
    ∙ ap (λ l. front ++ l) (take-append-le n read (post_of at room xs) fits)
