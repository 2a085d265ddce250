-- Demand 3 of rows, for every degree, every row f of a curve and all rows that are a divisor of it.
-- The answers are those of `unary_rows` and `binary_rows`, and each is given to the next call.
-- `unary_accepted`, `binary_accepted`: each operation gives an answer for divisors, and it is a divisor again.
-- `double_of_half`: the half is given, and its double is the divisor.
-- `half_of_double`: the double is given, and its half is the divisor.
-- `only_half`: the half is the only divisor whose double is the one given.
-- `subtract_of_add`: subtract and halve undoes double and add with the same second pair.
-- `add_of_subtract`: double and add undoes subtract and halve with the same second pair.
use Prim.Native.Nat.{ℕ}
use mathlib.Core.{Path.◌≡◌, Path.subst, Path.sym, Path.◌∙◌, Path.ap, Path.ap₂, Bool.Bool, Bool.true, Bool.◌&&◌, List.List}
use Rattle.class_group.specs.Curve as Theory
use Rattle.class_group.specs.{Mumford.Pair, Mumford.Reduced, Reduction.Counted, Operations.sum, Operations.double}
use Rattle.class_group.specs.Moves.{double_and_add, subtract_and_halve, counted_double_and_add, counted_subtract_and_halve}
use Rattle.class_group.proofs.{Halving.double_half, Halving.half_double, Moves.subtract_double_and_add, Moves.double_subtract_and_halve}
use Rattle.std.specs.Prelude.{Option, Some}
use Rattle.std.proofs.lemmas.Option.{same_Some}
use Rattle.row_theory.specs.Field.{𝔸, Poly}
use Rattle.class_rows.specs.{Pair.rows_pair, Pair.rows_of, Checked.row_curve, Checked.is_divisor, Operations.unary, Operations.binary, Answer.Gives, Answer.answered, Answer.unary_answer, Answer.binary_answer}
use Rattle.class_rows.specs.declared.{row.RowPair.RowPair, reduction.CountedRows.CountedRows, Unary.Unary, Unary.TheVariants.Double, Unary.TheVariants.Half, Binary.Binary, Binary.TheVariants.DoubleAndAdd, Binary.TheVariants.SubtractAndHalve}
use Rattle.class_rows.proofs.{ReductionRows.pair_eq, Tests.shown, Answers.divisor_rows, Answers.divisor_reduced, Answers.rows_of_stand, Answers.rows_of_divisor, Answers.unary_reduced, Answers.binary_reduced}

module _ (d : ℕ) (f : List ℕ) where
  abbrev C : Theory.Curve (𝔸 d)
  C = row_curve d f

  -- ---- the answers for divisors
  given : (t : Bool) (c : Counted (Poly d)) → t ≡ true → answered d t c ≡ Some (record { pair = rows_of d c.class; steps = c.steps })
  unfolding answered
  given t c e = ap (λ t. answered d t c) e

  -- an answer gives one pair
  same_pair : {r : Option CountedRows} {h k : RowPair} → Gives r h → Gives r k → h ≡ k
  same_pair g m = ap (λ c. c.pair) (same_Some _ _ (sym g.is_given ∙ m.is_given))

  module _ (op : Unary) (a : RowPair) (h : is_divisor d f a ≡ true) where
    unary_gives : Gives (unary_answer op d f a) (rows_of d (unary op C (rows_pair d a)).class)
    unfolding unary_answer
    unary_gives = record { steps = _; is_given = given _ _ h }

    reduced : Reduced C (unary op C (rows_pair d a)).class
    reduced = unary_reduced d C op (divisor_reduced (shown h))

    pub unary_accepted : (r : RowPair) × Gives (unary_answer op d f a) r × (is_divisor d f r ≡ true)
    unary_accepted = (_, unary_gives, rows_of_divisor (shown h) reduced)

  module _ (op : Binary) (a b : RowPair) (h : is_divisor d f a ≡ true) (k : is_divisor d f b ≡ true) where
    binary_gives : Gives (binary_answer op d f a b) (rows_of d (binary op C (rows_pair d a) (rows_pair d b)).class)
    unfolding binary_answer
    binary_gives = record { steps = _; is_given = given _ _ (ap₂ ◌&&◌ h k) }

    both_reduced : Reduced C (binary op C (rows_pair d a) (rows_pair d b)).class
    both_reduced = binary_reduced d C op (divisor_reduced (shown h)) (divisor_reduced (shown k))

    pub binary_accepted : (r : RowPair) × Gives (binary_answer op d f a b) r × (is_divisor d f r ≡ true)
    binary_accepted = (_, binary_gives, rows_of_divisor (shown h) both_reduced)

  -- ---- an operation that undoes another on reduced classes undoes it on divisors
  undone : {r : Option CountedRows} {D E : Pair (Poly d)} → Gives r (rows_of d D) → D ≡ E → Gives r (rows_of d E)
  undone {r} g e = subst (λ D. Gives r (rows_of d D)) e g

  unary_undone : (op back : Unary) → ((D : Pair (Poly d)) → Reduced C D → (unary back C (unary op C D).class).class ≡ D)
      → (a : RowPair) → is_divisor d f a ≡ true → (r : RowPair) → Gives (unary_answer op d f a) r → Gives (unary_answer back d f r) a
  unary_undone op back undoes a h r g =
      let there = rows_of d (unary op C (rows_pair d a)).class in
      let back_at = ap (λ D. (unary back C D).class) (pair_eq d (rows_of_stand d (reduced op a h))) ∙ undoes (rows_pair d a) (divisor_reduced (shown h)) in
      let returns = undone (unary_gives back there (rows_of_divisor (shown h) (reduced op a h))) back_at in
      subst (λ r. Gives (unary_answer back d f r) a) (same_pair (unary_gives op a h) g) (subst (Gives (unary_answer back d f there)) (sym (divisor_rows (shown h))) returns)

  binary_undone : (op back : Binary) → ((D E : Pair (Poly d)) → Reduced C D → Reduced C E → (binary back C (binary op C D E).class E).class ≡ D)
      → (a b : RowPair) → is_divisor d f a ≡ true → is_divisor d f b ≡ true → (r : RowPair) → Gives (binary_answer op d f a b) r → Gives (binary_answer back d f r b) a
  binary_undone op back undoes a b h k r g =
      let D = rows_pair d a in
      let E = rows_pair d b in
      let there = rows_of d (binary op C D E).class in
      let back_at = ap (λ D. (binary back C D E).class) (pair_eq d (rows_of_stand d (both_reduced op a b h k))) ∙ undoes D E (divisor_reduced (shown h)) (divisor_reduced (shown k)) in
      let returns = undone (binary_gives back there b (rows_of_divisor (shown h) (both_reduced op a b h k)) k) back_at in
      subst (λ r. Gives (binary_answer back d f r b) a) (same_pair (binary_gives op a b h k) g) (subst (Gives (binary_answer back d f there b)) (sym (divisor_rows (shown h))) returns)

  -- ---- double and half
  undone_double : (a : RowPair) → is_divisor d f a ≡ true → (r : RowPair) → Gives (unary_answer Double d f a) r → Gives (unary_answer Half d f r) a
  unfolding double
  undone_double = unary_undone Double Half (λ D r. half_double C r)

  pub double_of_half : (a : RowPair) → is_divisor d f a ≡ true → (r : RowPair) × Gives (unary_answer Half d f a) r × Gives (unary_answer Double d f r) a
  unfolding double
  double_of_half a h =
      let r = unary_accepted Half a h in
      (r.0, r.1, unary_undone Half Double (λ D r. double_half C r) a h r.0 r.1)

  pub half_of_double : (a : RowPair) → is_divisor d f a ≡ true → (r : RowPair) × Gives (unary_answer Double d f a) r × Gives (unary_answer Half d f r) a
  half_of_double a h = let r = unary_accepted Double a h in (r.0, r.1, undone_double a h r.0 r.1)

  pub only_half : (a b : RowPair) → is_divisor d f b ≡ true → Gives (unary_answer Double d f b) a → Gives (unary_answer Half d f a) b
  only_half a b k g = undone_double b k a g

  -- ---- the two rules that move a seal
  pub subtract_of_add : (a b : RowPair) → is_divisor d f a ≡ true → is_divisor d f b ≡ true
      → (r : RowPair) × Gives (binary_answer DoubleAndAdd d f a b) r × Gives (binary_answer SubtractAndHalve d f r b) a
  unfolding double_and_add subtract_and_halve counted_double_and_add counted_subtract_and_halve sum double
  subtract_of_add a b h k =
      let r = binary_accepted DoubleAndAdd a b h k in
      (r.0, r.1, binary_undone DoubleAndAdd SubtractAndHalve (λ D E r s. subtract_double_and_add C r s) a b h k r.0 r.1)

  pub add_of_subtract : (a b : RowPair) → is_divisor d f a ≡ true → is_divisor d f b ≡ true
      → (r : RowPair) × Gives (binary_answer SubtractAndHalve d f a b) r × Gives (binary_answer DoubleAndAdd d f r b) a
  unfolding double_and_add subtract_and_halve counted_double_and_add counted_subtract_and_halve sum double
  add_of_subtract a b h k =
      let r = binary_accepted SubtractAndHalve a b h k in
      (r.0, r.1, binary_undone SubtractAndHalve DoubleAndAdd (λ D E r s. double_subtract_and_halve C r s) a b h k r.0 r.1)
