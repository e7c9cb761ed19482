-- Which call of the cache a step makes.
use Rattle.std.specs.Prelude.{ℕ, List}
use Rattle.host_block.specs.declared.op.Op.{Op}
use Rattle.host_block.specs.declared.op.Op.TheVariants.{Read, Write, Trim, Flush}
use Rattle.host_cache.specs.Calls.{Rule, IsRead, IsWrite, IsTrim, IsFlush}

-- the call that the op names
abbrev pub IsCacheCall : Op → ℕ → ℕ → ℕ → List ℕ → Rule
IsCacheCall Read blocks size b bytes = IsRead b bytes
IsCacheCall Write blocks size b bytes = IsWrite b bytes
IsCacheCall Trim blocks size b bytes = IsTrim size b
IsCacheCall Flush blocks size b bytes = IsFlush blocks
