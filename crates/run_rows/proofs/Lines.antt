-- The lines of refusals.
use Rattle.std.proofs.Common.{refl}
use Rattle.std.specs.Fmt.{digits}
use Rattle.run_rows.specs.{RefusalsHaveLines}

pub refusals_have_lines : RefusalsHaveLines
unfolding digits
refusals_have_lines = record { word = refl; hex = refl; blocks = refl; script = refl; part = refl; none = (refl, refl, refl) }
