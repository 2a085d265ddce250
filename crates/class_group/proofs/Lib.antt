-- Theorems on classes. The curve has no singular point;
pub mod NonSingular
-- commutative groups: multiples, doublings, halvings, and one changed element of a walk;
pub mod GroupLaws
pub mod Multiples
pub mod Doublings
pub mod Digits
pub mod Displacement
-- the coordinate ring and its ideals, and what composition, reduction and uniqueness mean there;
pub mod Coordinate
pub mod Ideal
pub mod RingMaps
pub mod PairIdeal
pub mod Norm
pub mod Reduction
pub mod Composition
pub mod Uniqueness
-- pairs: composed, reduced, and the group of their classes;
pub mod SemiReduced
pub mod Composed
pub mod Joined
pub mod Closed
pub mod Classes
pub mod Adds
pub mod Group
-- the half by rules on coefficients, and the two rules that move a seal
pub mod Triple
pub mod LiftCoefficients
pub mod Rows
pub mod EvenRoot
pub mod HalfChain
pub mod Halving
pub mod Moves
-- changes of variables, and the plain curve
pub mod Change
pub mod PlainCurve
