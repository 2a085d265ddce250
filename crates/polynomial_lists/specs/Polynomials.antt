-- The trimmed lists of coefficients are the polynomials over a field.
-- The operations are those of char2_algebra/specs/Polynomial.antt; the laws are proved in char2_algebra/proofs.
-- All of it computes where `polynomials` is unfolded and the field's operations compute: two closed polynomials
-- that are equal are so by refl.
use Rattle.std.specs.Prelude.{refl}
use Rattle.std.proofs.Math.ListN.{get_or-eq_default}
use Rattle.field_laws.specs.{Ring.Ring2, Field.Field2}
use Rattle.char2_algebra.specs.{Polynomials.Polynomials, Polynomial.Polynomial, Polynomial.zero_polynomial, Polynomial.con, Polynomial.x, Polynomial.add, Polynomial.mul}
use Rattle.char2_algebra.specs.Polynomial.{coeff, len, quot, rem}
use Rattle.char2_algebra.proofs.PolynomialRing as Laws
use Rattle.char2_algebra.proofs.{ListCoefficients.at_last, ListDivision.division, ListDivision.divide_short}

module _ {K : Type 0} (F : Field2 K) where
  -- the ring of the trimmed lists of coefficients
  unfoldable pub ring : Ring2 (Polynomial F)
  unfolding add mul zero_polynomial con Laws.ring
  ring =
      let laws = Laws.ring F in
      record {
        add = add F;
        mul = mul F;
        zero = zero_polynomial F;
        one = con F F.ring.one;
        is_set = laws.is_set;
        add_comm = laws.add_comm;
        add_assoc = laws.add_assoc;
        add_zero = laws.add_zero;
        add_self = laws.add_self;
        mul_comm = laws.mul_comm;
        mul_assoc = laws.mul_assoc;
        mul_one = laws.mul_one;
        mul_add = laws.mul_add;
      }

  -- the polynomials over F, with the trimmed lists of coefficients as the carrier
  unfoldable pub polynomials : Polynomials F (Polynomial F)
  unfolding ring coeff len con x quot rem
  polynomials =
      record {
        ring = ring;
        coeff = coeff F;
        ext = Laws.ext F;
        coeff_add = Laws.coeff_add F;
        con = con F;
        coeff_con = Laws.coeff_con F;
        coeff_con_suc = Laws.coeff_con_suc F;
        coeff_con_mul = Laws.coeff_con_mul F;
        one_con = refl;
        x = x F;
        coeff_x_mul = Laws.coeff_x_mul F;
        coeff_x_mul_suc = Laws.coeff_x_mul_suc F;
        len = len F;
        len_past = λ p i l. get_or-eq_default p.coefficients F.ring.zero l;
        len_top = λ p i e. at_last F p.coefficients p.trimmed i e;
        quot = quot F;
        rem = rem F;
        division = λ a b _. division F a b;
        rem_len = λ a b h. divide_short F a.coefficients b.coefficients b.trimmed (λ e. h (Laws.eq_of_coefficients F b (zero_polynomial F) e));
      }
