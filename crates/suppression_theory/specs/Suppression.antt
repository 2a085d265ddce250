-- Suppressing operation k of the operations that an archive keeps. They are numbered 1 to n from the oldest and stored
-- newest first, so that operation k stands at place n - k.
use Rattle.std.specs.Prelude.{ℕ, ◌-◌, List, length, get_or, set}
use Rattle.jacobian.specs.{Answer.neutral_class, Group.difference, Group.doublings}
use Rattle.jacobian.specs.declared.{Curve.Curve, Class.Class}

-- the class of operation k
unfoldable pub operation_of : ℕ → List Class → Class
operation_of k ops = get_or ops (length ops - k) neutral_class

-- the operations with the neutral class as operation k, all others as they were
unfoldable pub suppressed_operations : ℕ → List Class → List Class
suppressed_operations k ops = set ops (length ops - k) neutral_class

-- the last seal without operation k: the last seal minus n - k doublings of the operation's class
unfoldable pub suppressed_seal : Curve → ℕ → Class → List Class → Class
suppressed_seal c k seal ops = difference c seal (doublings c (length ops - k) (operation_of k ops))
