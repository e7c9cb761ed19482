-- What taking the next record leaves a hand with.
use Rattle.std.specs.Prelude.{◌≡◌, ℕ, length, Option}
use Rattle.host_intake.specs.Entries.{takings}
use Rattle.host_intake.specs.State.{IntakeState}
use Rattle.intake_client.specs.declared.flight.Flight.{Flight}
use Rattle.intake_client.specs.declared.taken.Taken.{Taken}
use Rattle.intake_client.specs.declared.taken.Taken.TheVariants.{Flying}
use Rattle.intake_client.specs.Flights.{Flies, IsOtherThan}

-- a record that flies is the next one, and the hand took it
abbrev pub IsTaken : ℕ → IntakeState → IntakeState → Taken → Type 0
IsTaken hand old new (Flying f) =
    (f.envelope.index ≡ length (takings old.entries)) × Flies hand new f
IsTaken hand old new _ = Unit {0}

-- it is another record than the one that flies, if one does
abbrev pub IsBeside : Option Flight → Taken → Type 0
IsBeside other (Flying f) = IsOtherThan f.envelope.index other
IsBeside other _ = Unit {0}
