-- The ends of an answer ring, as contracts see them.
use Rattle.std.specs.Prelude.{◌≡◌, ℕ, List, [], ◌∷◌, ◌++◌, length}
use Rattle.crossbeam_queue.specs.Fifo.{Held}
use Rattle.host_rings.specs.declared.slip.Slip.{Slip}
use Rattle.host_rings.specs.Places.{EachPlace}
use Rattle.host_rings.specs.RequestEnds.{RingId}
use Rattle.host_rings.specs.AnswerRule.{HoldsAfter, AllThere}

-- the ring, its depth, the sender's number, and what this sender pushed
pub record SlipSenderState : Type 0 where
  pub ring : RingId
  pub depth : ℕ
  pub number : ℕ
  pub pushed : List Slip

-- the ring, its depth, how many senders it has, what was taken, and what the taker heard to be
-- pushed
pub record SlipTakerState : Type 0 where
  pub ring : RingId
  pub depth : ℕ
  pub senders : ℕ
  pub taken : List Slip
  pub heard : List Slip

abbrev pub slip_sender_of : RingId → ℕ → ℕ → List Slip → SlipSenderState
slip_sender_of ring depth number pushed =
    record { ring = ring; depth = depth; number = number; pushed = pushed }

abbrev pub slip_taker_of : RingId → ℕ → ℕ → List Slip → List Slip → SlipTakerState
slip_taker_of ring depth senders taken heard =
    record { ring = ring; depth = depth; senders = senders; taken = taken; heard = heard }

-- one more slip was pushed
abbrev pub with_slip : SlipSenderState → Slip → SlipSenderState
with_slip s x = slip_sender_of s.ring s.depth s.number (s.pushed ++ x ∷ [])

-- one more slip was taken
abbrev pub with_slip_taken : SlipTakerState → Slip → SlipTakerState
with_slip_taken t x = slip_taker_of t.ring t.depth t.senders (t.taken ++ x ∷ []) t.heard

-- what a full ring can tell a sender: as many slips as it is deep, and those that left it, have all
-- that this one pushed
abbrev pub FoundNoRoom : SlipSenderState → Type 0
FoundNoRoom s = Held s.depth (HoldsAfter s.number s.pushed)

-- what an empty ring can tell the taker: all that it heard to be pushed was taken
abbrev pub FoundNoSlip : SlipTakerState → Type 0
FoundNoSlip t = Held 0 (AllThere t.taken t.heard)

-- the k-th is the sender k of this ring, and has pushed nothing
abbrev pub AreFresh : RingId → ℕ → List SlipSenderState → Type 0
AreFresh ring depth senders = EachPlace (λ k s. s ≡ slip_sender_of ring depth k []) senders

-- these are all senders of the taker's ring, by their numbers
abbrev pub AreAllOf : SlipTakerState → List SlipSenderState → Type 0
AreAllOf t senders =
    (length senders ≡ t.senders) × EachPlace (λ k s. (s.ring ≡ t.ring) × (s.number ≡ k)) senders
