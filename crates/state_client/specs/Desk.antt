-- A desk, as contracts see it.
use Rattle.std.specs.Prelude.{ℕ, List}
use Rattle.crossbeam_queue.specs.Fifo.{Held}
use Rattle.host_rings.specs.declared.envelope.Envelope.{Envelope}
use Rattle.host_rings.specs.RequestRule.{StillAhead}
use Rattle.host_rings.specs.RequestEnds.{RingId}

-- the ring of its taker, for how many records that was made, the envelopes taken, and those heard
-- to be pushed
pub record DeskState : Type 0 where
  pub ring : RingId
  pub records : ℕ
  pub taken : List Envelope
  pub heard : List Envelope

abbrev pub desk_of : RingId → ℕ → List Envelope → List Envelope → DeskState
desk_of ring records taken heard =
    record { ring = ring; records = records; taken = taken; heard = heard }

-- what an empty ring can tell a desk: all that it heard to be pushed was taken
abbrev pub DeskFoundEmpty : DeskState → Type 0
DeskFoundEmpty d = Held 0 (StillAhead d.taken d.heard)
