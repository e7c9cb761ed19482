-- The hands of a session, as contracts see them.
use Rattle.std.specs.Prelude.{◌≡◌, List, length}
use Rattle.host_rings.specs.Places.{EachPlace}
use Rattle.host_rings.specs.AnswerEnds.{SlipTakerState}
use Rattle.state_client.specs.declared.rings.hand.Hand.{Hand}

-- these are all hands of the taker's ring, by their numbers
abbrev pub AreAllHands : SlipTakerState → List Hand → Type 0
AreAllHands t hands =
    (length hands ≡ t.senders)
    × EachPlace (λ k h. (h.sender.ring ≡ t.ring) × (h.sender.number ≡ k)) hands
