-- `terms_joined` meets its contract.
use mathlib.Core.Path.{refl}
use Prim.Native.Nat.{◌*◌}
use Rattle.binary_field_theory.proofs.Words.HalfTraces.{power_added}
use Rattle.binary_field.specs.Degree.{degree_number}
use Rattle.binary_field.proofs.Degrees.{accepted}
use Rattle.binary_field.proofs.quadratics.terms_joined.Goals as goal

pub returns : goal.returns
returns g c =
    let degree = g.S.Squaring.field_degree c.args.by in
    power_added (degree_number degree) (c.args.n * g.S.Squaring.times) (accepted degree) c.requires.0 c.requires.1 c.stepped.ensures.0 refl
