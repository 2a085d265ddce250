-- What the lines of the report say (report_theorems/specs/Parse.antt).
-- `seal_line_says`: the line of an accepted seal says its number of operations undone, its letter and the seal.
-- `first_line_says`: the first line says its count and its drawing number.
-- `refusal_line_says`: the line of a refusal says its number.
-- `seal_line_whole`, `first_line_whole`, `refusal_line_whole`: each of these lines ends in 0x0A and has no other.
use Prim.Native.Nat.{ℕ, zero, suc, ◌^◌, ◌≤◌, ◌<◌}
use mathlib.Core.Path.{◌≡◌, refl, sym, ap, ap₂, ◌∙◌}
use mathlib.Core.Bool.{true}
use mathlib.Core.List.{List, [], ◌∷◌, ◌++◌, append-nil, append_assoc}
use native.Mathlib.Nat.{lt_of_lt_of_le}
use native.Mathlib.Omega.{arith}
use lib.Dec.{lit≤}
use lib.ListN.{length, get_or, drop}
use Rattle.lists.specs.Lists.{none, more}
use Rattle.lists.proofs.Lists.{all_append}
use Rattle.jacobian.specs.{Answer.Accepts, declared.Curve.Curve, declared.Class.Class}
use Rattle.jacobian.proofs.{ByValue.Degrees.by_degree, ByValue.Threes.by_three, ByValue.Answers.passes}
use Rattle.stored_form.specs.{Fields.printable, Classes.decode_row}
use Rattle.text.specs.Text.{decimal, hexadecimal, row_text, class_text, refusal_text}
use Rattle.walk_report.specs.Lines.{line, part_text, first_line, refusal_line}
use Rattle.report_theorems.specs.Numerals.{parse_digits}
use Rattle.report_theorems.specs.Parse.{before, after, parse_numbers, parse_class, SealLine, parse_seal_line, FirstLine, parse_first_line, parse_refusal_line, Without, WholeLine}
use Rattle.report_theorems.proofs.Digits.{parse_decimal, parse_hexadecimal}
use Rattle.report_theorems.proofs.Cuts.{before_at, after_at, before_all, after_all, printable_without, end, blank, comma, colon, decimal_without, hexadecimal_without, row_without, class_without}

-- ---- a class

numbers_none : (l : List ℕ) → parse_numbers 0 l ≡ []
unfolding parse_numbers
numbers_none l = refl

numbers_one : (l : List ℕ) → Without 0x2C l → parse_numbers 1 l ≡ parse_digits 16 l ∷ []
unfolding parse_numbers
numbers_one l h = ap (λ (t : List ℕ). parse_digits 16 t ∷ []) (before_all 0x2C h)

numbers_more : (n : ℕ) (l m : List ℕ) → Without 0x2C l → parse_numbers (suc n) (l ++ 0x2C ∷ m) ≡ parse_digits 16 l ∷ parse_numbers n m
unfolding parse_numbers
numbers_more n l m h = ap₂ (λ (s t : List ℕ). parse_digits 16 s ∷ parse_numbers n t) (before_at 0x2C m h) (after_at 0x2C m h)

row_says : (n : ℕ) (r : List ℕ) → n ≤ 3 → length r ≡ 3 → ((i : ℕ) → get_or r i 0 < 2 ^ 64) → ((i : ℕ) → n ≤ i → get_or r i 0 ≡ 0) → decode_row (parse_numbers n (row_text n r)) ≡ r
unfolding decode_row row_text
row_says n r low long =
    by_three (λ r. ((i : ℕ) → get_or r i 0 < 2 ^ 64) → ((i : ℕ) → n ≤ i → get_or r i 0 ≡ 0) → decode_row (parse_numbers n (row_text n r)) ≡ r) (λ x y z. go n low x y z) r long
  where
    hex : (m : ℕ) → Without 0x2C (hexadecimal m)
    hex m = hexadecimal_without comma m

    go : (n : ℕ) → n ≤ 3 → (x y z : ℕ) → let r : List ℕ = x ∷ y ∷ z ∷ [] in
        ((i : ℕ) → get_or r i 0 < 2 ^ 64) → ((i : ℕ) → n ≤ i → get_or r i 0 ≡ 0) → decode_row (parse_numbers n (row_text n r)) ≡ r
    go zero low x y z s h = rw (numbers_none (row_text 0 (x ∷ y ∷ z ∷ [])), h 0 (lit≤ tt), h 1 (lit≤ tt), h 2 (lit≤ tt))
    go (suc zero) low x y z s h = rw (numbers_one (hexadecimal x) (hex x), parse_hexadecimal x (s 0), h 1 (lit≤ tt), h 2 (lit≤ tt))
    go (suc (suc zero)) low x y z s h =
        rw (numbers_more 1 (hexadecimal y) (hexadecimal x) (hex y), numbers_one (hexadecimal x) (hex x), parse_hexadecimal y (s 1), parse_hexadecimal x (s 0), h 2 (lit≤ tt))
    go (suc (suc (suc zero))) low x y z s h =
        rw (
          numbers_more 2 (hexadecimal z) (hexadecimal y ++ 0x2C ∷ hexadecimal x) (hex z),
          numbers_more 1 (hexadecimal y) (hexadecimal x) (hex y),
          numbers_one (hexadecimal x) (hex x),
          parse_hexadecimal z (s 2),
          parse_hexadecimal y (s 1),
          parse_hexadecimal x (s 0),
        )
    go (suc (suc (suc (suc n)))) low x y z s h = absurd (omega (arith, low))

class_parts : (degree n : ℕ) (u v : List ℕ) → class_text degree u v n ≡ decimal degree ++ 0x3A ∷ (row_text n u ++ 0x3A ∷ row_text n v)
unfolding class_text
class_parts degree n u v = append_assoc (decimal degree) (0x3A ∷ row_text n u) (0x3A ∷ row_text n v)

class_says : {c : Curve} {a : Class} → Accepts c a → parse_class (class_text a.degree a.u a.v a.degree) ≡ a
unfolding parse_class
class_says {c} {a} h =
    let p = passes c a (sym h.none) refl in
    let shape = p.1.shape in
    let n = a.degree in
    let small : 2 ^ c.degree ≤ 2 ^ 64 = by_degree (λ d. 2 ^ d ≤ 2 ^ 64) (lit≤ tt) (lit≤ tt) c.degree p.0.accepted in
    let rows : List ℕ = row_text n a.u ++ 0x3A ∷ row_text n a.v in
    let u_text : Without 0x3A (row_text n a.u) = row_without colon (λ e. omega (arith, e)) n a.u in
    let degree_says : parse_digits 10 (decimal n) ≡ n = parse_decimal n (lt_of_lt_of_le {m = 4} (omega (arith, shape.low)) (lit≤ tt)) in
    let cut : ℕ → List ℕ → List ℕ → Class = λ k x y. record { degree = k; u = decode_row (parse_numbers k x); v = decode_row (parse_numbers k y) } in
    ap parse_class (class_parts n n a.u a.v)
    ∙ ap₂ (λ (s t : List ℕ). cut (parse_digits 10 s) (before 0x3A t) (after 0x3A t)) (before_at 0x3A rows (decimal_without colon n)) (after_at 0x3A rows (decimal_without colon n))
    ∙ ap₂ (cut (parse_digits 10 (decimal n))) (before_at 0x3A (row_text n a.v) u_text) (after_at 0x3A (row_text n a.v) u_text)
    ∙ ap (λ (k : ℕ). cut k (row_text n a.u) (row_text n a.v)) degree_says
    ∙ ap₂ (λ (s t : List ℕ). record { degree = n; u = s; v = t })
    (row_says n a.u shape.low shape.u_three (λ i. lt_of_lt_of_le (p.1.range.u_below i) small) shape.u_blank)
    (row_says n a.v shape.low shape.v_three (λ i. lt_of_lt_of_le (p.1.range.v_below i) small) shape.v_blank)

-- ---- the line of a seal

module _ (k mark : ℕ) (seal : Class) where
  text_of_class : List ℕ
  text_of_class = class_text seal.degree seal.u seal.v seal.degree

  class_ends : Without 0x0A text_of_class
  unfolding text_of_class
  class_ends = class_without end (λ e. omega (arith, e)) (λ e. omega (arith, e)) seal.degree seal.u seal.v seal.degree

  line_parts : line k mark seal ≡ decimal k ++ 0x20 ∷ (mark ∷ 0x20 ∷ (text_of_class ++ 0x0A ∷ []))
  unfolding line text_of_class
  line_parts = append_assoc (decimal k) (0x20 ∷ mark ∷ 0x20 ∷ text_of_class) (0x0A ∷ [])

  pub seal_line_says : {c : Curve} → Accepts c seal → k < 2 ^ 64 → parse_seal_line (line k mark seal) ≡ record { undone = k; letter = mark; seal = seal }
  unfolding parse_seal_line text_of_class
  seal_line_says h small =
      let rest : List ℕ = mark ∷ 0x20 ∷ (text_of_class ++ 0x0A ∷ []) in
      let said : ℕ → List ℕ → SealLine = λ i t. record { undone = i; letter = mark; seal = parse_class t } in
      ap parse_seal_line line_parts
      ∙ ap₂ (λ (s t : List ℕ). record { undone = parse_digits 10 s; letter = get_or t 0 0; seal = parse_class (before 0x0A (drop 2 t)) })
      (before_at 0x20 rest (decimal_without blank k)) (after_at 0x20 rest (decimal_without blank k))
      ∙ ap₂ said (parse_decimal k small) (before_at 0x0A [] class_ends)
      ∙ ap (λ (x : Class). record { undone = k; letter = mark; seal = x }) (class_says h)

  pub seal_line_whole : ¬ (mark ≡ 0x0A) → WholeLine (line k mark seal)
  unfolding line text_of_class
  seal_line_whole other = record {
    text = decimal k ++ 0x20 ∷ mark ∷ 0x20 ∷ text_of_class;
    ends = refl;
    no_other = all_append (decimal_without end k) (more (λ e. omega (arith, e)) (more other (more (λ e. omega (arith, e)) class_ends)));
  }

-- ---- the first line

-- a word and the text of a line
word_whole : (w : List ℕ) {t : List ℕ} → printable w ≡ true → Without 0x0A t → Without 0x0A (w ++ t)
word_whole w clean h = all_append (printable_without w clean) h

part_without : (d : List ℕ) → Without 0x0A d → Without 0x0A (part_text d)
unfolding part_text
part_without [] h = none
part_without (b ∷ d) h = more {a = 0x20} (λ e. omega (arith, e)) h

module _ (n : ℕ) (d : List ℕ) (clean : printable d ≡ true) where
  head_text : List ℕ
  head_text = decimal n ++ part_text d

  head_ends : Without 0x0A head_text
  unfolding head_text
  head_ends = all_append (decimal_without end n) (part_without d (printable_without d clean))

  pub first_line_says : n < 2 ^ 64 → parse_first_line (first_line n d) ≡ record { count = n; drawing = d }
  unfolding parse_first_line first_line part_text head_text
  first_line_says small = ap said (before_at 0x0A [] head_ends) ∙ go d
    where
      said : List ℕ → FirstLine
      said t = record { count = parse_digits 10 (before 0x20 t); drawing = after 0x20 t }

      go : (d : List ℕ) → said (decimal n ++ part_text d) ≡ record { count = n; drawing = d }
      go [] =
          let h : Without 0x20 (decimal n) = decimal_without blank n in
          ap said (append-nil (decimal n))
          ∙ ap₂ (λ (i : ℕ) (t : List ℕ). record { count = i; drawing = t }) (ap (parse_digits 10) (before_all 0x20 h) ∙ parse_decimal n small) (after_all 0x20 h)
      go (x ∷ d) =
          let h : Without 0x20 (decimal n) = decimal_without blank n in
          ap₂ (λ (i : ℕ) (t : List ℕ). record { count = i; drawing = t }) (ap (parse_digits 10) (before_at 0x20 (x ∷ d) h) ∙ parse_decimal n small) (after_at 0x20 (x ∷ d) h)

  pub first_line_whole : WholeLine (first_line n d)
  unfolding first_line head_text printable
  first_line_whole = record {
    text = 0x77 ∷ 0x61 ∷ 0x6C ∷ 0x6B ∷ 0x20 ∷ head_text;
    ends = refl;
    no_other = word_whole (0x77 ∷ 0x61 ∷ 0x6C ∷ 0x6B ∷ 0x20 ∷ []) refl head_ends;
  }

-- ---- the line of a refusal

module _ (n : ℕ) where
  pub refusal_line_says : n < 2 ^ 64 → parse_refusal_line (refusal_line n) ≡ n
  unfolding parse_refusal_line refusal_line refusal_text
  refusal_line_says small = ap (parse_digits 10) (before_at 0x0A [] (decimal_without end n)) ∙ parse_decimal n small

  pub refusal_line_whole : WholeLine (refusal_line n)
  unfolding refusal_line refusal_text printable
  refusal_line_whole = record {
    text = refusal_text n;
    ends = refl;
    no_other = word_whole (0x72 ∷ 0x65 ∷ 0x66 ∷ 0x75 ∷ 0x73 ∷ 0x65 ∷ 0x64 ∷ 0x20 ∷ []) refl (decimal_without end n);
  }
