-- The answers of the open functions, from what their rows stand for: rows of twelve numbers in range are determined by
-- the pair that they stand for.
-- `unary_refused`, `binary_refused`: where the check fails, the answer is as promised.
-- `unary_given`, `binary_given`: where it holds, rows that stand for the theory's result are the answer promised.
-- `unary_divisor`, `binary_divisor`: an answer is given exactly where the rows given are divisors.
-- `unary_stands`, `binary_stands`: the rows that are given stand for the theory's result.
use Prim.Native.Nat.{ℕ}
use mathlib.Core.{Path.◌≡◌, Path.refl, Path.sym, Path.◌∙◌, Path.ap, Path.ap₂, Path.subst, Bool.Bool, Bool.true, Bool.false, Bool.◌&&◌, List.List}
use native.Mathlib.Omega.{arith}
use Rattle.std.specs.Prelude.{Option, Some, None, is_some}
use Rattle.std.proofs.lemmas.Option.{same_Some, none-some}
use Rattle.class_group.specs.Curve as Theory
use Rattle.class_group.specs.{Mumford.Pair, Mumford.Reduced, Reduction.Counted, Operations.sum, Operations.double, Moves.subtract_and_halve}
use Rattle.class_group.proofs.{Closed.opposite_reduced, Closed.sum_reduced, Closed.double_reduced, Halving.half_reduced, Halving.double_half, Halving.half_unique}
use Rattle.class_group.proofs.Moves.{double_and_add_reduced, subtract_and_halve_reduced, subtract_double_and_add, double_subtract_and_halve, counted_double_and_add_class, counted_subtract_and_halve_class}
use Rattle.row_theory.specs.{Field.𝔸, Field.Poly}
use Rattle.row_theory.proofs.Rows.{RowOf.row_of_length, RowOf.row_of_stands, RowOf.row_determined, Coefficients.self_stands}
use Rattle.class_rows.specs.{Pair.StandsPair, Pair.rows_pair, Pair.rows_of, Core.OnCurve, Core.StandsCounted, Checked.row_curve, Checked.is_divisor, Operations.unary, Operations.binary}
use Rattle.class_rows.specs.{Answer.Gives, Answer.IsHalf, Answer.Precedes, Answer.answered, Answer.unary_answer, Answer.binary_answer, Answer.Only, Answer.UnaryAnswers, Answer.BinaryAnswers}
use Rattle.class_rows.specs.declared.{row.RowPair.RowPair, reduction.CountedRows.CountedRows, Unary.Unary, Unary.TheVariants.Opposite, Unary.TheVariants.Double, Unary.TheVariants.Half, Binary.Binary, Binary.TheVariants.Sum, Binary.TheVariants.DoubleAndAdd, Binary.TheVariants.SubtractAndHalve}
use Rattle.class_rows.proofs.{ReductionRows.pair_eq, ReductionRows.stands_pair_eq, ReductionRows.reduced_on, ReductionRows.reduced_rows, Tests.both, Tests.Sized, Tests.Shown, Tests.shown, Tests.test}

-- ---- rows and pairs
module _ (d : ℕ) where
  pub rows_determined : {r : RowPair} {D : Pair (Poly d)} → Sized r → StandsPair d r D → r ≡ rows_of d D
  unfolding rows_of
  rows_determined {D = D} z s =
      let u = row_determined d D.u z.u_size s.u_stands in
      let v = row_determined d D.v z.v_size s.v_stands in
      λ i. record { u = u i; v = v i }

  -- the rows of a reduced class stand for it
  pub rows_of_stand : {C : Theory.Curve (𝔸 d)} {D : Pair (Poly d)} → Reduced C D → StandsPair d (rows_of d D) D
  unfolding rows_of
  rows_of_stand {D = D} r =
      let u_len = r.u_len in
      let v_len = r.v_len in
      record { u_stands = row_of_stands d D.u (omega arith); v_stands = row_of_stands d D.v (omega arith) }

module _ {d : ℕ} {f : List ℕ} {a : RowPair} (h : Shown d f a) where
  pub divisor_reduced : Reduced (row_curve d f) (rows_pair d a)
  divisor_reduced = reduced_on d h.divisor.reduced h.on

  -- the rows of a divisor are those of its pair
  pub divisor_rows : a ≡ rows_of d (rows_pair d a)
  unfolding rows_pair
  divisor_rows =
      let r = h.divisor.reduced in
      rows_determined d h.sized (record { u_stands = self_stands d a.u r.u_range; v_stands = self_stands d a.v r.v_range })

-- rows of twelve numbers that stand for a reduced class of the curve of a divisor are a divisor
stand_divisor : {d : ℕ} {f : List ℕ} {a r : RowPair} {D : Pair (Poly d)} → Shown d f a → Sized r → StandsPair d r D → Reduced (row_curve d f) D → is_divisor d f r ≡ true
stand_divisor {d} h z s reduced = test h.f_size z (record { degree = h.divisor.degree; reduced = reduced_rows d h.on reduced s })

pub rows_of_divisor : {d : ℕ} {f : List ℕ} {a : RowPair} {D : Pair (Poly d)} → Shown d f a → Reduced (row_curve d f) D → is_divisor d f (rows_of d D) ≡ true
unfolding rows_of
rows_of_divisor {d} {D = D} h reduced =
    stand_divisor h (record { u_size = row_of_length d D.u; v_size = row_of_length d D.v }) (rows_of_stand d reduced) reduced

-- rows that stand for the only reduced class of which Q holds are the only divisor of whose pair Q holds
pub only_rows : {d : ℕ} {f : List ℕ} {a r : RowPair} {Q : Pair (Poly d) → Type 0} {D : Pair (Poly d)}
    → Shown d f a → Sized r → StandsPair d r D → Reduced (row_curve d f) D → Q D
    → ((E : Pair (Poly d)) → Reduced (row_curve d f) E → Q E → E ≡ D) → Only d f (λ k. Q (rows_pair d k)) r
only_rows {d} {r = r} {Q = Q} h z s reduced holds only =
    record {
      divisor = stand_divisor h z s reduced;
      holds = subst Q (sym (pair_eq d s)) holds;
      only = λ k e q. let n = shown e in divisor_rows n ∙ ap (rows_of d) (only (rows_pair d k) (divisor_reduced n) q) ∙ sym (rows_determined d z s);
    }

-- ---- the operations give reduced classes
module _ (d : ℕ) (C : Theory.Curve (𝔸 d)) where
  pub unary_reduced : (op : Unary) {D : Pair (Poly d)} → Reduced C D → Reduced C (unary op C D).class
  unfolding double
  unary_reduced Opposite r = opposite_reduced C r
  unary_reduced Double r = double_reduced C r
  unary_reduced Half r = half_reduced C r

  pub binary_reduced : (op : Binary) {D E : Pair (Poly d)} → Reduced C D → Reduced C E → Reduced C (binary op C D E).class
  unfolding sum
  binary_reduced Sum r s = sum_reduced C r s
  binary_reduced DoubleAndAdd r s = subst (Reduced C) (sym (counted_double_and_add_class C _ _)) (double_and_add_reduced C r s)
  binary_reduced SubtractAndHalve r s = subst (Reduced C) (sym (counted_subtract_and_halve_class C _ _)) (subtract_and_halve_reduced C r s)

-- ---- an answer by a test
module _ (d : ℕ) {t : Bool} (c : Counted (Poly d)) where
  refused_is : t ≡ false → None ≡ answered d t c
  unfolding answered
  refused_is e = ap (λ t. answered d t c) (sym e)

  given_is : {b : CountedRows} → t ≡ true → Sized b.pair → StandsCounted d b c → Some b ≡ answered d t c
  unfolding answered
  given_is e z s =
      let pair = rows_determined d z s.pair_stands in
      let steps = s.steps_is in
      (λ i. Some (record { pair = pair i; steps = steps i })) ∙ ap (λ t. answered d t c) (sym e)

  -- the rows that are given stand for the class
  answer_stands : {b : CountedRows} → StandsPair d (rows_of d c.class) c.class → t ≡ true → Some b ≡ answered d t c → StandsCounted d b c
  unfolding answered
  answer_stands {b} s e h = subst (λ (r : CountedRows). StandsCounted d r c) (sym (same_Some _ _ (h ∙ ap (λ t. answered d t c) e))) (record { pair_stands = s; steps_is = refl })

  answered_is_some : is_some (answered d t c) ≡ t
  unfolding answered
  answered_is_some = go t
    where
      go : (t : Bool) → is_some (answered d t c) ≡ t
      go true = refl
      go false = refl

-- an answer that is given has one pair
given_pair : {b : CountedRows} {h : RowPair} → Gives (Some b) h → b.pair ≡ h
given_pair g = ap (λ r. r.pair) (same_Some _ _ g.is_given)

none_gives : {h : RowPair} → ¬ Gives None h
none_gives g = none-some _ g.is_given

-- ---- one pair
module _ {d : ℕ} {f : List ℕ} {a : RowPair} where
  pub unary_refused : {op : Unary} → is_divisor d f a ≡ false → UnaryAnswers op d f a None
  unfolding unary_answer
  unary_refused e = record { answer = refused_is d _ e; is_half = λ _ h g. absurd (none_gives g) }

  pub unary_given : (op : Unary) {b : CountedRows} → is_divisor d f a ≡ true → Sized b.pair
      → ((C : Theory.Curve (𝔸 d)) → OnCurve d f C → StandsCounted d b (unary op C (rows_pair d a)))
      → UnaryAnswers op d f a (Some b)
  unfolding unary_answer
  unary_given op {b} held z stands =
      let h = shown held in
      let C = row_curve d f in
      let s = stands C h.on in
      let r = divisor_reduced h in
      record {
        answer = given_is d _ held z s;
        is_half = λ o k g.
            let half_stands = subst (λ op. StandsPair d b.pair (unary op C (rows_pair d a)).class) o s.pair_stands in
            subst (Only d f (IsHalf d f a)) (given_pair g) (only_rows h z half_stands (half_reduced C r) (double_half C r) (λ E k q. half_unique C r k q));
      }

-- ---- two pairs
module _ {d : ℕ} {f : List ℕ} {a b : RowPair} where
  pub binary_refused : {op : Binary} → (is_divisor d f a && is_divisor d f b) ≡ false → BinaryAnswers op d f a b None
  unfolding binary_answer
  binary_refused e = record { answer = refused_is d _ e; taken_back = λ _ h g. absurd (none_gives g) }

  pub binary_given : (op : Binary) {c : CountedRows} → is_divisor d f a ≡ true → is_divisor d f b ≡ true → Sized c.pair
      → ((C : Theory.Curve (𝔸 d)) → OnCurve d f C → StandsCounted d c (binary op C (rows_pair d a) (rows_pair d b)))
      → BinaryAnswers op d f a b (Some c)
  unfolding binary_answer
  binary_given op {c} first second z stands =
      let h = shown first in
      let C = row_curve d f in
      let s = stands C h.on in
      let m = divisor_reduced h in
      let n = divisor_reduced (shown second) in
      record {
        answer = given_is d _ (ap₂ ◌&&◌ first second) z s;
        taken_back = λ o k g.
            let back = subst (λ op. StandsPair d c.pair (binary op C (rows_pair d a) (rows_pair d b)).class) o s.pair_stands in
            subst (Only d f (Precedes d f a b)) (given_pair g)
            (only_rows h z
            (stands_pair_eq d (counted_subtract_and_halve_class C (rows_pair d a) (rows_pair d b)) back)
            (subtract_and_halve_reduced C m n)
            (double_subtract_and_halve C m n)
            (λ E k q. sym (subtract_double_and_add C k n) ∙ ap (λ S. subtract_and_halve C S (rows_pair d b)) q));
      }

-- ---- the answers by the degree and the row that a curve keeps
pub unary_moved : {op : Unary} {d e : ℕ} {f g : List ℕ} {a : RowPair} {r : Option CountedRows} → e ≡ d → g ≡ f → UnaryAnswers op e g a r → UnaryAnswers op d f a r
unary_moved {op} {d} {e} {f} {g} {a} {r} p q h = subst (λ d. UnaryAnswers op d f a r) p (subst (λ f. UnaryAnswers op e f a r) q h)

pub binary_moved : {op : Binary} {d e : ℕ} {f g : List ℕ} {a b : RowPair} {r : Option CountedRows} → e ≡ d → g ≡ f → BinaryAnswers op e g a b r → BinaryAnswers op d f a b r
binary_moved {op} {d} {e} {f} {g} {a} {b} {r} p q h = subst (λ d. BinaryAnswers op d f a b r) p (subst (λ f. BinaryAnswers op e f a b r) q h)

-- ---- what a caller uses of the answers
module _ {op : Unary} {d : ℕ} {f : List ℕ} {a : RowPair} {r : Option CountedRows} (h : UnaryAnswers op d f a r) where
  pub unary_divisor : is_some r ≡ is_divisor d f a
  unfolding unary_answer
  unary_divisor = ap is_some h.answer ∙ answered_is_some d _

  pub unary_stands : {c : CountedRows} → r ≡ Some c → StandsCounted d c (unary op (row_curve d f) (rows_pair d a))
  unfolding unary_answer
  unary_stands e =
      let held = sym unary_divisor ∙ ap is_some e in
      answer_stands d _ (rows_of_stand d (unary_reduced d (row_curve d f) op (divisor_reduced (shown held)))) held (sym e ∙ h.answer)

module _ {op : Binary} {d : ℕ} {f : List ℕ} {a b : RowPair} {r : Option CountedRows} (h : BinaryAnswers op d f a b r) where
  pub binary_divisor : is_some r ≡ (is_divisor d f a && is_divisor d f b)
  unfolding binary_answer
  binary_divisor = ap is_some h.answer ∙ answered_is_some d _

  pub binary_stands : {c : CountedRows} → r ≡ Some c → StandsCounted d c (binary op (row_curve d f) (rows_pair d a) (rows_pair d b))
  unfolding binary_answer
  binary_stands e =
      let held = sym binary_divisor ∙ ap is_some e in
      let divisors = both (is_divisor d f a) (is_divisor d f b) held in
      answer_stands d _ (rows_of_stand d (binary_reduced d (row_curve d f) op (divisor_reduced (shown divisors.0)) (divisor_reduced (shown divisors.1)))) held (sym e ∙ h.answer)
