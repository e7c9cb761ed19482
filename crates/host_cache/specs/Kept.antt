-- What every state of a cache keeps.
use Rattle.std.specs.Prelude.{◌≡◌, ℕ, ◌<◌, ◌≤◌, false, Some, None, List, [], ◌∷◌, length}
use Rattle.std.proofs.Props.{props}
use Rattle.host_block.specs.Disk.{DiskState, read_of}
use Rattle.host_cache.specs.Held.{Held, line_at}
use Rattle.host_cache.specs.declared.line.Line.{Line}
use Rattle.host_cache.specs.declared.line.Victim.{Victim}
use Rattle.host_cache.specs.declared.line.TheConstants.{ENTRIES}

-- no block stands twice in the list
abbrev pub AreApart : List (ℕ × Line) → Type 0
AreApart [] = Unit {0}
AreApart (e ∷ es) = (line_at es e.0 ≡ None) × AreApart es

pub apart_is_one : (es : List (ℕ × Line)) → IsProp (AreApart es)
apart_is_one [] = hlevel props
apart_is_one (e ∷ es) = let rest = apart_is_one es in hlevel (rest, props)

-- a block of the disk with a block's number of bytes
abbrev pub IsBlock : ℕ → ℕ → ℕ → List ℕ → Type 0
IsBlock blocks size b bytes = (b < blocks) × (length bytes ≡ size)

-- No block stands twice among list and victim, the list isn't too long, and each has a block's
-- number of bytes.
pub record IsCacheKept (blocks size : ℕ) (held : Held) : Type 0 where
  pub apart : AreApart held.lines
  pub room : length held.lines ≤ ENTRIES
  pub lines : (b : ℕ) (line : Line) → line_at held.lines b ≡ Some line
      → IsBlock blocks size b line.bytes
  pub victim : (v : Victim) → held.victim ≡ Some v
      → IsBlock blocks size v.block v.bytes × (line_at held.lines v.block ≡ None)

-- of a clean entry the disk has the same bytes
abbrev pub AreClean : DiskState → List (ℕ × Line) → Type 0
AreClean s lines =
    (b : ℕ) (line : Line) → line_at lines b ≡ Some line → line.dirty ≡ false
    → line.bytes ≡ read_of s b
