-- Euclid's algorithm with coefficients: the greatest common divisor of two or three polynomials as a combination.
use Prim.Native.Nat.{ℕ, zero, suc}
use Rattle.std.specs.Prelude.{◌≡◌}
use Rattle.field_laws.specs.{Field.Field2, Division.inverse_of}
use Rattle.char2_algebra.specs.{Polynomials.Polynomials, Divides.Divides, Lead.lead, Lead.Monic}

-- a divisor g of a and b, and the coefficients with g = s a + t b
pub record Bezout (P : Type 0) : Type 0 where
  pub g : P
  pub s : P
  pub t : P

-- a divisor e of a, b and c, and the coefficients with e = s1 a + s2 b + s3 c
pub record Bezout3 (P : Type 0) : Type 0 where
  pub e : P
  pub s1 : P
  pub s2 : P
  pub s3 : P

module _ {K P : Type 0} {F : Field2 K} (A : Polynomials F P) where
  open A use {ring, len, con, quot, rem}
  open ring use {add as ◌⊞◌, mul as ◌·◌, zero as 𝟘, one as 𝟙}

  infixl 60 ◌⊞◌
  infixl 70 ◌·◌
  -- g is a greatest common divisor of a and b, by whatever method: a combination of both that divides both,
  -- and monic unless both are 0
  pub record IsBezout (a b : P) (B : Bezout P) : Type 0 where
    pub combination : B.g ≡ B.s · a ⊞ B.t · b
    pub divides_first : Divides ring B.g a
    pub divides_second : Divides ring B.g b
    pub monic : ¬ ((a ≡ 𝟘) × (b ≡ 𝟘)) → Monic A B.g

  -- e is a greatest common divisor of a, b and c, by whatever method
  pub record IsBezout3 (a b c : P) (B : Bezout3 P) : Type 0 where
    pub combination : B.e ≡ B.s1 · a ⊞ B.s2 · b ⊞ B.s3 · c
    pub divides_first : Divides ring B.e a
    pub divides_second : Divides ring B.e b
    pub divides_third : Divides ring B.e c
    pub monic : ¬ ((a ≡ 𝟘) × (b ≡ 𝟘) × (c ≡ 𝟘)) → Monic A B.e

  -- the divisor of a and 0: a divided by its leading coefficient, and 0 where a is 0 too
  unfoldable pub bezout_zero : P → Bezout P
  bezout_zero a =
      elim (F.discrete (lead A a) F.ring.zero) [
        | yes _ ↦ record { g = 𝟘; s = 𝟘; t = 𝟘 }
        | no shown ↦ (let c = con (inverse_of F (lead A a) shown) in record { g = c · a; s = c; t = 𝟘 })
      ]

  -- Euclid's algorithm, which recurs on b and the remainder r of a by b:
  -- from g = s b + t r and a = q b + r follows g = t a + (s + t q) b; the first number bounds the calls
  unfoldable pub bezout_to : ℕ → P → P → Bezout P
  unfolding bezout_zero
  bezout_to zero a b = record { g = a; s = 𝟙; t = 𝟘 }
  bezout_to (suc n) a b =
      elim (len b) [
        | zero ↦ bezout_zero a
        | suc m ↦
            (let r = bezout_to n b (rem a b) in
            record { g = r.g; s = r.t; t = r.s ⊞ r.t · quot a b })
      ]

  -- the divisor of a and b with its coefficients; as many calls as b has coefficients, plus one, are enough
  unfoldable pub bezout : P → P → Bezout P
  bezout a b = bezout_to (suc (len b)) a b

  -- the divisor of a, b and c with its coefficients: first that of a and b, then that of their divisor and c
  unfoldable pub bezout3 : P → P → P → Bezout3 P
  bezout3 a b c =
      let first = bezout a b in
      let second = bezout first.g c in
      record {
        e = second.g;
        s1 = second.s · first.s;
        s2 = second.s · first.t;
        s3 = second.t;
      }
