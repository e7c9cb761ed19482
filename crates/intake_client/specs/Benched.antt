-- What contracts see of a bench, and what is true of every one.
use Rattle.std.specs.Prelude.{◌≡◌, length, Option}
use Rattle.host_group.specs.Seats.{cells_id, seat_cells}
use Rattle.host_intake.specs.State.{IntakeState}
use Rattle.host_turn.specs.Seats.{IsSeatOutside, book_id, number, seat_book}
use Rattle.intake_client.specs.declared.bench.Bench.TheInside.{Inside}
use Rattle.intake_client.specs.declared.flight.Flight.{Flight}
use Rattle.intake_client.specs.Flights.{FliesIfAny}

-- the intake, and the record that flies beside others
pub record BenchState : Type 0 where
  pub intake : IntakeState
  pub flight : Option Flight

abbrev pub bench_state : Inside → BenchState
bench_state a = record { intake = a.intake; flight = a.flight }

-- The seats of the hand and of the intake are of these buffers and cells, the client's number is 1,
-- and the client counts what it sent.
pub record IsKept (a : Inside) : Type 0 where
  pub seat : IsSeatOutside a.memory a.hand
  pub of_memory : seat_book a.intake.memory_seat ≡ book_id a.memory
  pub of_cells : seat_cells a.intake.cell_seat ≡ cells_id a.cells
  pub client : number a.intake.memory_seat ≡ 2
  pub pushed : a.sent ≡ length a.sender.pushed
  pub records : a.sender.records ≡ 128
  pub flies : FliesIfAny 0 a.intake a.flight
