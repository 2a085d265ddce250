-- Whether an operation is held, as the code finds it out.
-- `HeldSoFar`: the pairs from the i-th on do not hold operation k, and where the next later operation is looked for.
-- `pairs_inside`: the pairs, if there are any, stand inside the bytes.
-- `held_begin`, `held_turn`, `held_found`, `held_none`: before the first turn, after a turn, and both ends of the loop.
use Prim.Native.Nat.{ℕ, suc, ◌+◌, ◌-◌, ◌/◌, ◌≤◌, ◌<◌}
use mathlib.Core.Path.{◌≡◌, refl, sym, ap, ap₂, ◌∙◌, subst}
use mathlib.Core.Bool.{Bool, true, false, not, ◌&&◌, ◌||◌}
use mathlib.Core.List.{List, [], ◌∷◌, ◌++◌}
use native.Mathlib.Omega.{arith}
use lib.Dec.{eqb}
use lib.ListN.{length, get_or, take}
use lib.Seq.{take_all, take-suc}
use Rattle.lists.proofs.Lists.{all_at}
use Rattle.jacobian.specs.{declared.Class.Class}
use Rattle.stored_form.specs.{Head.length_at, Cuts.fields_end, Pairs.later, Pairs.earlier, Pairs.pair_at, declared.Record.Record}
use Rattle.stored_form_theorems.proofs.Pairs.{later_ascends}
use Rattle.archive.specs.{Archive.archive_said, Skipping.skip_fields}
use Rattle.archive.proofs.Skipped.{skip_inside, fields_more}
use Rattle.archive_theorems.specs.Written.{Storable}
use Rattle.archive_theorems.proofs.FieldPlaces.{Layout, operations_end, place_within, operation_neutral, pairs_end, pairs_counted, pair_stands}
use Rattle.suppression_theory.specs.{Suppression.operation_of, Archives.holds, Archives.held_by, Archives.held}
use Rattle.seal_archive.specs.internal.Accepted.{IsAccepted}
use Rattle.seal_archive.proofs.Accepted.{stored, laid, header_counted}

or_false : (b : Bool) → (b || false) ≡ b
or_false true = refl
or_false false = refl

-- ---- lists of pairs

module _ (k : ℕ) (ops : List Class) where
  held_snoc : (ps : List ℕ) (p : ℕ) → held_by k ops (ps ++ p ∷ []) ≡ (held_by k ops ps || holds k ops p)
  unfolding held_by
  held_snoc [] p = or_false (holds k ops p)
  held_snoc (q ∷ ps) p = ap (λ (b : Bool). holds k ops q || b) (held_snoc ps p) ∙ or_assoc (holds k ops q) (held_by k ops ps) (holds k ops p)
    where
      or_assoc : (a b c : Bool) → (a || (b || c)) ≡ ((a || b) || c)
      or_assoc true b c = refl
      or_assoc false b c = refl

  held_take : (ps : List ℕ) (i : ℕ) → i < length ps → held_by k ops (take (suc i) ps) ≡ (held_by k ops (take i ps) || holds k ops (get_or ps i 0))
  held_take ps i h = ap (held_by k ops) (take-suc ps i 0 h) ∙ held_snoc (take i ps) (get_or ps i 0)

-- ---- the loop

-- no pair from the i-th on holds operation k, and the field of the operation with this number is at this offset; the
-- later operations of the pairs before have numbers up to this one
pub record HeldSoFar (s : List ℕ) (n first m k place number i : ℕ) : Type 0 where
  pub left : i ≤ m
  pub low : number ≤ n
  pub stands : place ≡ fields_end (n - number) s first
  pub above : (j : ℕ) → j < i → later (get_or (archive_said s).pairs j 0) ≤ number
  pub so_far : held k (archive_said s) ≡ held_by k (archive_said s).operations (take i (archive_said s).pairs)

module _ {s : List ℕ} {h : Record} {first : ℕ} (accepted : IsAccepted s h first) {end long : ℕ} (skipped : end ≡ skip_fields h.count s first) (headed : long ≡ length_at s end) where
  abbrev pairs : List ℕ
  pairs = (archive_said s).pairs

  abbrev ops : List Class
  ops = (archive_said s).operations

  abbrev n : ℕ
  n = h.count

  abbrev m : ℕ
  m = long / 4

  fields : Layout s (archive_said s)
  fields = laid accepted

  ok : Storable (archive_said s)
  ok = (stored accepted).1

  counted : n ≡ length ops
  counted = header_counted accepted

  first_is : first ≡ fields.first
  first_is = accepted.begins ∙ fields.first_begins

  end_is : end ≡ fields.last
  end_is =
      let last : fields_end n s first ≡ fields.last = ap₂ (λ (i j : ℕ). fields_end i s j) counted first_is ∙ operations_end fields ok in
      skipped ∙ skip_inside s n first (omega (arith, last, fields.pairs.ends)) ∙ last

  pairs_number : m ≡ length pairs
  pairs_number = ap (λ (x : ℕ). x / 4) (headed ∙ ap (length_at s) end_is) ∙ pairs_counted fields ok

  pub pairs_inside : ¬ (m ≡ 0) → end + 3 ≤ length s
  pairs_inside some = omega (arith, end_is, pairs_end fields ok (omega (arith, pairs_number, some)))

  module _ (k : ℕ) where
    pub held_begin : HeldSoFar s n first m k first n m
    unfolding held fields_end
    held_begin =
        let e : n - n ≡ 0 = omega arith in
        record {
          left = omega arith;
          low = omega arith;
          stands = ap (λ (i : ℕ). fields_end i s first) (sym e);
          above = λ j h. let w = (all_at j 0 (omega (arith, pairs_number)) ok.pairs_allowed.within).later_within in omega (arith, w, counted);
          so_far = ap (held_by k ops) (sym (take_all m pairs (omega (arith, pairs_number))));
        }

    module _ {place number i : ℕ} (now : HeldSoFar s n first m k place number i) (more : 0 < i) {p : ℕ} (read : p ≡ pair_at s (end + 3) (i - 1)) where
      abbrev turn : ℕ
      turn = i - 1

      before : HeldSoFar s n first m k place number (suc turn)
      before = subst (HeldSoFar s n first m k place number) (omega arith) now

      inside : turn < length pairs
      inside = omega (arith, before.left, pairs_number)

      pair_is : p ≡ get_or pairs turn 0
      pair_is = read ∙ ap (λ (x : ℕ). pair_at s (x + 3) turn) end_is ∙ pair_stands fields ok turn inside

      pub later_low : later p ≤ number
      later_low = rw pair_is (before.above turn (omega arith))

      module _ {next : ℕ} (passed : next ≡ skip_fields (number - later p) s place) where
        some : (1 ≤ later p) × (later p ≤ length ops)
        some =
            let w = all_at turn 0 inside ok.pairs_allowed.within in
            let e = pair_is in
            (omega (arith, w.earlier_some, w.earlier_below, e), omega (arith, later_low, before.low, counted))

        next_is : next ≡ fields_end (length ops - later p) s fields.first
        next_is =
            let sum : n - number + (number - later p) ≡ length ops - later p = omega (arith, later_low, before.low, counted) in
            let end : fields_end (number - later p) s place ≡ fields_end (length ops - later p) s fields.first =
            ap (fields_end (number - later p) s) before.stands
            ∙ sym (fields_more s (n - number) (number - later p) first)
            ∙ ap₂ (λ (i j : ℕ). fields_end i s j) sum first_is in
            passed ∙ skip_inside s (number - later p) place (rw end (place_within fields ok (length ops - later p) (omega arith))) ∙ end

        test_is : (eqb (earlier p) k && not (eqb (length_at s next) 0)) ≡ holds k ops p
        unfolding holds operation_of
        test_is =
            ap (λ (x : ℕ). eqb (earlier p) k && not (eqb (length_at s x) 0)) next_is
            ∙ ap (λ (x : Bool). eqb (earlier p) k && not x) (operation_neutral fields ok (length ops - later p) (omega (arith, some.0, some.1)))

        last_pair : held k (archive_said s) ≡ (held_by k ops (take turn pairs) || holds k ops p)
        last_pair = before.so_far ∙ held_take k ops pairs turn inside ∙ ap (λ (x : ℕ). held_by k ops (take turn pairs) || holds k ops x) (sym pair_is)

        pub held_found : (eqb (earlier p) k && not (eqb (length_at s next) 0)) ≡ true → true ≡ held k (archive_said s)
        held_found e = sym (last_pair ∙ ap (λ (x : Bool). held_by k ops (take turn pairs) || x) (sym test_is ∙ e) ∙ or_true (held_by k ops (take turn pairs)))
          where
            or_true : (b : Bool) → (b || true) ≡ true
            or_true true = refl
            or_true false = refl

        pub held_turn : (eqb (earlier p) k && not (eqb (length_at s next) 0)) ≡ false → HeldSoFar s n first m k next (later p) turn
        held_turn e = record {
          left = omega (arith, before.left);
          low = omega (arith, later_low, before.low);
          stands = next_is ∙ ap₂ (λ (i j : ℕ). fields_end (i - later p) s j) (sym counted) (sym first_is);
          above = λ j l. rw pair_is (later_ascends ok.pairs_allowed turn j (omega arith) inside);
          so_far = last_pair ∙ ap (λ (x : Bool). held_by k ops (take turn pairs) || x) (sym test_is ∙ e) ∙ or_false (held_by k ops (take turn pairs));
        }

    pub held_none : {place number i : ℕ} → HeldSoFar s n first m k place number i → i ≤ 0 → false ≡ held k (archive_said s)
    unfolding held_by
    held_none {i = i} now none = let e : i ≡ 0 = omega arith in sym (now.so_far ∙ ap (λ (x : ℕ). held_by k ops (take x pairs)) e)
