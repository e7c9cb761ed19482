-- A run on fresh objects.
use Rattle.std.proofs.Common.{ℕ, Option}
use Rattle.blockhost.specs.{IsUntouched, IsProgramEnd, IsRunEnd, Outside}
use Rattle.host_words.specs.{Meaning}

pub from_fresh : (meaning : Option Meaning) (before after : Outside) (number : ℕ) → IsUntouched before → IsRunEnd meaning before after number → IsProgramEnd number
from_fresh meaning before after number fresh ended = record { meaning = meaning; before = before; after = after; fresh = fresh; ended = ended }
