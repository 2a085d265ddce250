-- Commutative groups on those elements of a type that satisfy a predicate, as the reduced classes among all pairs;
-- doubling and halving in them.
use Rattle.std.specs.Prelude.{◌≡◌}

module _ {X : Type 0} (Member : X → Type 0) (◌⊞◌ : X → X → X) (neutral : X) (opposite : X → X) where
  infixl 60 ◌⊞◌
  -- a commutative group on the elements that satisfy `Member`
  pub record CommutativeGroup : Type 0 where
    pub sum_closed : {a b : X} → Member a → Member b → Member (a ⊞ b)
    pub neutral_closed : Member neutral
    pub opposite_closed : {a : X} → Member a → Member (opposite a)
    pub comm : {a b : X} → Member a → Member b → a ⊞ b ≡ b ⊞ a
    pub assoc : {a b c : X} → Member a → Member b → Member c → a ⊞ b ⊞ c ≡ a ⊞ (b ⊞ c)
    pub sum_neutral : {a : X} → Member a → a ⊞ neutral ≡ a
    pub sum_opposite : {a : X} → Member a → a ⊞ opposite a ≡ neutral

  -- a commutative group in which doubling is injective: it has no element of order 2
  pub record Doubling (double : X → X) : Type 0 where
    pub group : CommutativeGroup
    pub double_sum : {a : X} → Member a → double a ≡ a ⊞ a
    pub double_injective : {a b : X} → Member a → Member b → double a ≡ double b → a ≡ b

  -- a commutative group in which each element has exactly one half
  pub record Halving (double half : X → X) : Type 0 where
    pub doubling : Doubling double
    pub half_closed : {a : X} → Member a → Member (half a)
    pub double_half : {a : X} → Member a → double (half a) ≡ a
