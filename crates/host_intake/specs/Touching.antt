-- What taking a record asks of its buffer.
use Rattle.std.specs.Prelude.{◌≡◌, ℕ, ◌<◌, true, List, IsSome, None}
use Rattle.host_record.specs.declared.request.Request.{Request}
use Rattle.host_record.specs.Command.{opcode, names_buffer}
use Rattle.host_model.specs.declared.memory.MemEvent.{MemEvent}
use Rattle.host_model.specs.declared.verdict.Verdict.{Verdict}
use Rattle.host_model.specs.declared.verdict.Verdict.TheVariants.{Accepted}
use Rattle.host_model.specs.Lists.{count}
use Rattle.host_memory.specs.Entries.{pin_count}
use Rattle.host_memory.specs.Held.{closer_of, standing_in}
use Rattle.host_memory.specs.Pins.{is_pin_for}

-- buffer v stands for record i, which has not pinned it, and no record has closed it
pub record IsPinReady (h : List MemEvent) (records i v : ℕ) : Type 0 where
  pub room : pin_count h < records
  pub stands : IsSome (standing_in v i h)
  pub open_still : closer_of v h ≡ None
  pub first : count (is_pin_for i) h ≡ 0

-- an accepted record finds its buffer ready
abbrev pub IsReadyFor : List MemEvent → ℕ → ℕ → Request → Verdict → Type 0
IsReadyFor h records i r verdict =
    verdict ≡ Accepted → names_buffer (opcode r) ≡ true → IsPinReady h records i r.vmoid
