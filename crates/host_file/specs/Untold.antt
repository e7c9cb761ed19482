-- What a disk that tells nothing need not show.
use Rattle.std.specs.Prelude.{IsTrue, false}

-- anything, where a test that is false were true
pub untold : {A : Type 0} → IsTrue false → A
untold told = absurd (cc told)
