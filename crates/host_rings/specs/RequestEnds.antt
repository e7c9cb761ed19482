-- The two ends of a request ring, as contracts see them.
use Rattle.std.specs.Prelude.{ℕ, List, [], ◌∷◌, ◌++◌}
use Rattle.atomic_table.specs.Seated.{TableId}
use Rattle.crossbeam_queue.specs.Fifo.{Held}
use Rattle.host_rings.specs.declared.envelope.Envelope.{Envelope}
use Rattle.host_log.specs.History.{longer}
use Rattle.host_rings.specs.RequestRule.{LeftBehind, StillAhead}

-- which ring it is
abbrev pub RingId : Type 0
RingId = TableId

-- the ring, its depth, for how many records it was made, what was pushed, and what the sender heard
-- to be taken
pub record SenderState : Type 0 where
  pub ring : RingId
  pub depth : ℕ
  pub records : ℕ
  pub pushed : List Envelope
  pub heard : List Envelope

-- the same of a taker: what was taken, and what the taker heard to be pushed
pub record TakerState : Type 0 where
  pub ring : RingId
  pub depth : ℕ
  pub records : ℕ
  pub taken : List Envelope
  pub heard : List Envelope

-- the ring of a note, and what was pushed when it was written
pub record NoteState : Type 0 where
  pub ring : RingId
  pub pushed : List Envelope

abbrev pub sender_of : RingId → ℕ → ℕ → List Envelope → List Envelope → SenderState
sender_of ring depth records pushed heard =
    record { ring = ring; depth = depth; records = records; pushed = pushed; heard = heard }

abbrev pub taker_of : RingId → ℕ → ℕ → List Envelope → List Envelope → TakerState
taker_of ring depth records taken heard =
    record { ring = ring; depth = depth; records = records; taken = taken; heard = heard }

-- one more envelope was pushed
abbrev pub with_pushed : SenderState → Envelope → SenderState
with_pushed s e = sender_of s.ring s.depth s.records (s.pushed ++ e ∷ []) s.heard

-- one more envelope was taken
abbrev pub with_taken : TakerState → Envelope → TakerState
with_taken t e = taker_of t.ring t.depth t.records (t.taken ++ e ∷ []) t.heard

-- these were heard to be pushed
abbrev pub with_heard : TakerState → List Envelope → TakerState
with_heard t pushed = taker_of t.ring t.depth t.records t.taken (longer t.heard pushed)

-- what a full ring can tell the sender: as many as it is deep were pushed last, and before them all
-- that it heard to be taken
abbrev pub FoundFull : SenderState → Type 0
FoundFull s = Held s.depth (LeftBehind s.pushed s.heard)

-- what an empty ring can tell the taker: all that it heard to be pushed was taken
abbrev pub FoundEmpty : TakerState → Type 0
FoundEmpty t = Held 0 (StillAhead t.taken t.heard)
