-- Cantor's composition of two classes, in Koblitz's form for even characteristic (docs/SPECIFICATION.md, 2).
use Rattle.std.specs.Prelude.{◌≡◌}
use Rattle.field_laws.specs.{Field.Field2}
use Rattle.char2_algebra.specs.{Polynomials.Polynomials, Divides.Divides, Lead.monic_of, Euclid.Bezout3, Euclid.bezout3}
use Rattle.class_group.specs.Curve.{Curve}
use Rattle.class_group.specs.Mumford.{Pair}

module _ {K P : Type 0} {F : Field2 K} {A : Polynomials F P} (C : Curve A) where
  open A use {ring, quot, rem}
  open ring use {add as ◌⊞◌, mul as ◌·◌, one as 𝟙}
  open C use {f}

  infixl 60 ◌⊞◌
  infixl 70 ◌·◌
  -- the composition by given coefficients, with e = s1 u1 + s2 u2 + s3 (v1 + v2 + 1):
  -- u = u1 u2 / e² and v = (s1 u1 v2 + s2 u2 v1 + s3 (v1 v2 + f)) / e modulo u
  unfoldable pub composed : Bezout3 P → Pair P → Pair P → Pair P
  composed b D E =
      let u = quot (D.u · E.u) (b.e · b.e) in
      let n = b.s1 · D.u · E.v ⊞ b.s2 · E.u · D.v ⊞ b.s3 · (D.v · E.v ⊞ f) in
      record { u = u; v = rem (quot n b.e) u }

  -- e is a combination of u1, u2 and v1 + v2 + 1 and divides each of them; it need not be monic
  pub record Combines (D E : Pair P) (b : Bezout3 P) : Type 0 where
    pub combination : b.e ≡ b.s1 · D.u ⊞ b.s2 · E.u ⊞ b.s3 · (D.v ⊞ E.v ⊞ 𝟙)
    pub divides_first : Divides ring b.e D.u
    pub divides_second : Divides ring b.e E.u
    pub divides_third : Divides ring b.e (D.v ⊞ E.v ⊞ 𝟙)

  -- the composed pair with u made monic; where e is monic, u is so already
  unfoldable pub composed_monic : Bezout3 P → Pair P → Pair P → Pair P
  composed_monic b D E = record { u = monic_of A (composed b D E).u; v = (composed b D E).v }

  -- Cantor's composition: e is the greatest common divisor of u1, u2 and v1 + v2 + 1
  unfoldable pub compose : Pair P → Pair P → Pair P
  compose D E = composed (bezout3 A D.u E.u (D.v ⊞ E.v ⊞ 𝟙)) D E

  -- the composition of a class with itself: [u², v² + f modulo u²]
  unfoldable pub compose_double : Pair P → Pair P
  compose_double D =
      let u = D.u · D.u in
      record { u = u; v = rem (D.v · D.v ⊞ f) u }

module _ {K P : Type 0} {F : Field2 K} (A : Polynomials F P) where
  open A use {rem}
  open A.ring use {add as ◌⊞◌, mul as ◌·◌}

  infixl 60 ◌⊞◌
  infixl 70 ◌·◌
  -- the composition by short polynomials, from u1 = d1 e, u2 = d2 e and a polynomial m:
  -- [d1 d2, v1 + d1 (m mod d2) modulo d1 d2]
  unfoldable pub joined : (d₁ d₂ v₁ m : P) → Pair P
  joined d₁ d₂ v₁ m = record { u = d₁ · d₂; v = rem (v₁ ⊞ d₁ · rem m d₂) (d₁ · d₂) }
