-- What each session of a script is opened with.
use Rattle.std.specs.Prelude.{◌≡◌, ℕ, ◌+◌, min, true, List, [], ◌∷◌}
use Rattle.host_block.specs.declared.range.Range.{Range}
use Rattle.host_session.specs.declared.spec.SessionSpec.{SessionSpec}
use Rattle.script_model.specs.declared.script.ScriptLine.{ScriptLine}
use Rattle.script_model.specs.Plans.{PlannedSession}
use Rattle.script_played.specs.Room.{moves_in}
use Rattle.host_play.specs.Counts.{attach_count, call_count, record_count}

-- There is room for all that the lines can make: a record for each that sends one, a buffer for
-- each that attaches one, an event for each call and for each answer, and a lift or landing for
-- each block that a record reads or writes. Histories are kept.
abbrev pub spec_for : ℕ → PlannedSession → Range → ℕ → ℕ → SessionSpec
spec_for number plan part size depth = record {
  number = number;
  part_number = plan.part;
  part = part;
  size = size;
  depth = depth;
  records = record_count plan.lines;
  attaches = min (attach_count plan.lines) 65535;
  events = call_count plan.lines + record_count plan.lines;
  memory_room = moves_in plan.lines;
  keeps = true;
}

-- the specs of these sessions on these ranges, numbered from n
abbrev pub specs_from : ℕ → List PlannedSession → List Range → ℕ → ℕ → List SessionSpec
specs_from n (plan ∷ plans) (range ∷ ranges) size depth =
    spec_for n plan range size depth ∷ specs_from (n + 1) plans ranges size depth
specs_from n _ _ size depth = []

-- a spec with such room for these lines
pub record HasRoomForLines (lines : List ScriptLine) (spec : SessionSpec) : Type 0 where
  pub records : spec.records ≡ record_count lines
  pub attaches : spec.attaches ≡ min (attach_count lines) 65535
  pub events : spec.events ≡ call_count lines + record_count lines
