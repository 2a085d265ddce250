-- An output's array, which is 0 after its bytes, when more bytes are pushed.
-- `pushed_long`: its length still fits. `pushed_rest`: it is 0 after them.
use Prim.Native.Nat.{ℕ, ◌+◌, ◌-◌, ◌≤◌}
use mathlib.Core.Path.{◌≡◌, sym, ap, ap₂, ◌∙◌}
use mathlib.Core.List.{List, [], ◌++◌, append-nil, append_assoc}
use native.Mathlib.Omega.{arith}
use lib.ListN.{length, take, drop, replicate, length-append, drop_of_length-le}
use lib.Seq.{take_all, drop-append_seam}
use borrow.Rule.Slice.PartMut.{put_mid}
use Rattle.std.proofs.Math.Nat.{le_of_eq}
use Rattle.std.proofs.lemmas.List.{length-take-le, length-replicate, drop-replicate}
use Rattle.written_form.specs.Effect.{room}

module _ (len : ℕ) (bytes : List ℕ) (inside : len ≤ length bytes) (rest : drop len bytes ≡ replicate (room - len) 0) where
  module _ (more : List ℕ) {out : List ℕ} (copied : out ≡ more ++ drop (length more) (take (room - len) (drop len bytes))) where
    abbrev zeros : List ℕ
    zeros = replicate (room - len - length more) 0

    left : drop (length more) (take (room - len) (drop len bytes)) ≡ zeros
    left =
        ap (λ (l : List ℕ). drop (length more) (take (room - len) l)) rest
        ∙ ap (λ (l : List ℕ). drop (length more) l) (take_all (room - len) (replicate (room - len) 0) (le_of_eq (length-replicate (room - len) 0)))
        ∙ drop-replicate (length more) (room - len) 0

    none : drop (room - len) (drop len bytes) ≡ []
    none = ap (λ (l : List ℕ). drop (room - len) l) rest ∙ drop_of_length-le (replicate (room - len) 0) (le_of_eq (length-replicate (room - len) 0))

    laid : put_mid len (room - len) bytes out ≡ (take len bytes ++ more) ++ zeros
    laid =
        ap₂ (λ (o p : List ℕ). take len bytes ++ (o ++ p)) (copied ∙ ap (λ (l : List ℕ). more ++ l) left) none
        ∙ ap (λ (l : List ℕ). take len bytes ++ l) (append-nil (more ++ zeros))
        ∙ sym (append_assoc (take len bytes) more zeros)

    front : length (take len bytes ++ more) ≡ len + length more
    front = length-append (take len bytes) more ∙ ap (λ (n : ℕ). n + length more) (length-take-le len bytes inside)

    pub pushed_long : len + length more ≤ length (put_mid len (room - len) bytes out)
    pushed_long =
        let all = ap length laid ∙ length-append (take len bytes ++ more) zeros in
        omega (arith, all, front)

    pub pushed_rest : drop (len + length more) (put_mid len (room - len) bytes out) ≡ replicate (room - (len + length more)) 0
    pushed_rest =
        let e : room - len - length more ≡ room - (len + length more) = omega arith in
        ap (λ (l : List ℕ). drop (len + length more) l) laid
        ∙ ap (λ (n : ℕ). drop n ((take len bytes ++ more) ++ zeros)) (sym front)
        ∙ drop-append_seam (take len bytes ++ more) zeros
        ∙ ap (λ (n : ℕ). replicate {A = ℕ} n 0) e
