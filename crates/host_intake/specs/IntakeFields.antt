-- What the fields of an `Intake` are, as contracts see them.
use Rattle.std.specs.Prelude.{◌≤◌, vec_capacity}
use Rattle.host_intake.specs.Intaken.{IsIntake}
use Rattle.host_intake.specs.State.{IntakeState}
use Rattle.host_intake.specs.declared.intake.Intake.TheInside.{Inside}

abbrev pub intake_state : Inside → IntakeState
intake_state a = record {
  part = a.part;
  size = a.size;
  room = a.ledger.room;
  keeps = a.ledger.keeps;
  entries = a.ledger.entries;
  held = a.held;
  waiting = a.waiting.items;
  taker = a.taker;
  memory_seat = a.memory_seat;
  cell_seat = a.cell_seat;
}

-- there is room for all closes that may wait
abbrev pub IsIntakeKept : Inside → Type 0
IsIntakeKept a = IsIntake (intake_state a) × (64 ≤ vec_capacity a.waiting)
