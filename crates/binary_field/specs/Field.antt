-- The field of elements of degree d, for d = 5 and d = 61, as the record of laws that other crates use
-- (docs/SPECIFICATION.md, 1), and the element of a number.
-- The operations compute; proofs/Field.antt says which number each gives.
use Rattle.std.specs.Prelude.{ℕ, ◌-◌, ◌^◌}
use mathlib.Core.{Path.◌≡◌, Path.ap, HLevel.hedberg}
use native.Mathlib.{Decide.Fin-discrete, Omega.arith}
use Rattle.std.proofs.Common.{pow_pos}
use Rattle.field_laws.specs.{Ring.Ring2, Field.Field2}
use Rattle.binary_field_theory.specs.{Carryless.◌⊕◌, Carryless.remainder, Element.Accepted, Element.Element, Element.low, Element.product, Chain.spreadings, Chain.chain_inverse}
use Rattle.binary_field_theory.proofs.Sums
use Rattle.binary_field_theory.proofs.Remainder
use Rattle.binary_field_theory.proofs.Products
use Rattle.binary_field_theory.proofs.Elements
use Rattle.binary_field_theory.proofs.{Products.low_lt, Elements.element_path}

module _ (d : ℕ) (ok : Accepted d) where
  -- the ring of elements: sum, product, 0 and 1, with their laws
  unfoldable pub ring : Ring2 (Element d)
  ring =
      record {
        add = λ x y. (x.0 ⊕ y.0, Sums.sum_lt d x.0 y.0 x.1 y.1);
        mul = λ x y. (product d x.0 y.0, Products.product_lt d (low_lt d ok) x.0 y.0);
        zero = (0, pow_pos d);
        one = (1, Products.one_lt d (low_lt d ok));
        is_set = hedberg (Fin-discrete (2 ^ d));
        add_comm = λ x y. element_path d (Sums.sum_comm x.0 y.0);
        add_assoc = λ x y z. element_path d (Sums.sum_assoc x.0 y.0 z.0);
        add_zero = λ x. element_path d (Sums.sum_zero x.0);
        add_self = λ x. element_path d (Sums.sum_self x.0);
        mul_comm = λ x y. element_path d (Products.product_comm d x.0 y.0);
        mul_assoc = λ x y z. element_path d (Products.product_assoc d (low_lt d ok) x.0 y.0 z.0);
        mul_one = λ x. element_path d (Products.product_one d (low_lt d ok) x.0 x.1);
        mul_add = λ x y z. element_path d (Products.product_sum d (low_lt d ok) x.0 y.0 z.0);
      }

  -- the field: the ring with inverses and square roots
  unfoldable pub field : Field2 (Element d)
  unfolding ring
  field =
      record {
        ring = ring;
        discrete = Fin-discrete (2 ^ d);
        one≢zero = λ e. let z : ◌≡◌ {A = ℕ} 1 0 = ap (λ (x : Element d). x.0) e in omega arith;
        inverse = λ x. (chain_inverse d x.0, Elements.chain_lt d ok x.0 x.1);
        mul_inverse = λ x ne. element_path d (Elements.product_chain d ok x.0 x.1 (λ z. ne (element_path d z)));
        root = λ x. (spreadings d (d - 1) x.0, Elements.spreadings_lt d ok x.0 x.1);
        root_square = λ x. element_path d (Elements.spreadings_square d ok x.0 x.1);
      }

  -- the element of a number: its remainder by the modulus
  unfoldable pub element : ℕ → Element d
  element n = (remainder d (low d) n, Remainder.remainder_lt d (low d) (low_lt d ok) n)
