-- What a sink in memory tells, and where it fails.
use Rattle.std.specs.Prelude.{◌≡◌, ◌⊎◌, ◌<◌, ℕ, ◌-◌, List, [], length, Contains}
use Rattle.host_io.specs.Causes.{next_count}
use Rattle.host_io.specs.declared.mem_sink.MemSink.{MemSink}

-- the bytes that were appended
abbrev pub sink_appended : MemSink → List ℕ
sink_appended s = s.bytes.items

abbrev pub sink_faults : MemSink → ℕ
sink_faults s = s.faults

-- how many more bytes fit
abbrev pub sink_room : MemSink → ℕ
sink_room s = s.room - length s.bytes.items

-- the numbers of its calls that fail
abbrev pub sink_fails : MemSink → List ℕ
sink_fails s = s.fails.items

-- how often it was called
abbrev pub sink_calls : MemSink → ℕ
sink_calls s = s.calls

-- an empty sink with this room and this list of failing calls that no call has touched yet
pub record IsSinkMadeOf (room : ℕ) (fails : List ℕ) (s : MemSink) : Type 0 where
  pub appended : sink_appended s ≡ []
  pub fits : sink_room s ≡ room
  pub listed : sink_fails s ≡ fails
  pub calls : sink_calls s ≡ 0
  pub faults : sink_faults s ≡ 0

-- the next call with this piece fails: it is listed, or nothing fits of a piece that isn't empty
abbrev pub FailsToPut : MemSink → List ℕ → Type 0
FailsToPut s from =
    Contains (sink_fails s) (next_count (sink_calls s)) ⊎ ((sink_room s ≡ 0) × (0 < length from))
