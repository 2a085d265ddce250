-- Records of one class after halvings, one for each lent output, each on the record rebuilt from what the one before it
-- wrote (docs/SPECIFICATION.md, 7 and 11); after doublings it is `doubled_record` of seal/specs/Group.antt.
use Rattle.std.specs.Prelude.{ℕ, List}
use Rattle.lists.specs.Walk.{foldl}
use Rattle.seal.specs.{Rebuilt.class_rebuilt, Calls.half_call}

-- the record after a halving for each of these outputs
abbrev pub halved_record : List (List ℕ) → List ℕ → List ℕ
halved_record outs s = foldl (λ t out. class_rebuilt t (half_call t out)) s outs
