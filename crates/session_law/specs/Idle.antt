-- What an idle visit tells: it excludes states.
use Rattle.std.specs.Prelude.{ℕ, [], ◌∷◌}
use Rattle.host_rings.specs.declared.envelope.Envelope.{Envelope}
use Rattle.host_rings.specs.RequestEnds.{FoundEmpty, RingId, taker_of}
use Rattle.host_hand.specs.Visits.{CannotTake}

-- A visit isn't idle where one record was sent and nothing has been done; and a taker that heard of
-- a record and took none doesn't find its ring empty.
pub record IdleVisitsTell : Type 0 where
  pub one_was_sent : CannotTake 1 [] → ⊥
  pub one_was_heard : (ring : RingId) (depth records : ℕ) (e : Envelope)
      → FoundEmpty (taker_of ring depth records [] (e ∷ [])) → ⊥
