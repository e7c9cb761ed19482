-- What a source in memory tells, and where it fails.
use Rattle.std.specs.Prelude.{◌≡◌, ℕ, List, drop}
use Rattle.host_io.specs.declared.mem_source.MemSource.{MemSource}

-- the bytes that are left
abbrev pub source_left : MemSource → List ℕ
source_left s = drop s.at s.bytes.items

abbrev pub source_faults : MemSource → ℕ
source_faults s = s.faults

-- the numbers of its calls that fail
abbrev pub source_fails : MemSource → List ℕ
source_fails s = s.fails.items

-- how often it was called
abbrev pub source_calls : MemSource → ℕ
source_calls s = s.calls

-- a source of these bytes and this list of failing calls that no call has touched yet
pub record IsSourceMadeOf (bytes fails : List ℕ) (s : MemSource) : Type 0 where
  pub left : source_left s ≡ bytes
  pub listed : source_fails s ≡ fails
  pub calls : source_calls s ≡ 0
  pub faults : source_faults s ≡ 0
