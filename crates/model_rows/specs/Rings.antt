-- What was pushed to a ring, taken from it and left in it.
use Rattle.std.specs.Prelude.{◌≡◌, ℕ, List, [], ◌∷◌, replicate}
use Rattle.host_block.specs.Lists.{IsPrefix}
use Rattle.host_rings.specs.AnswerRule.{HoldsAfter}
use Rattle.host_rings.specs.Places.{EachPlace}
use Rattle.host_rings.specs.RequestRule.{IsNumbered, LeftBehind, StillAhead}
use Rattle.host_log.specs.History.{longer}
use Rattle.host_rings.specs.Slips.{Marked, slips, slips_sent_by, AllBelow, ComeFrom, IsAmong}
use Rattle.host_rings.specs.declared.envelope.Envelope.{Envelope}
use Rattle.host_rings.specs.declared.slip.Slip.{Slip}

-- envelopes of these numbers
abbrev pub envelope : ℕ → Envelope
envelope i = record { bytes = replicate 32 0; index = i; device_front = 0; memory_front = 0 }

abbrev pub first : Envelope
first = envelope 0

abbrev pub second : Envelope
second = envelope 1

-- slips for the records 0, 1 and 2
abbrev pub slip : ℕ → Slip
slip i = record { index = i; bytes = replicate 32 0; device_front = 0; memory_front = 0 }

abbrev pub a : Slip
a = slip 0

abbrev pub b : Slip
b = slip 1

abbrev pub c : Slip
c = slip 2

-- sender 0 pushed a, sender 1 pushed b and c
abbrev pub history : List Marked
history = (1, b) ∷ (0, a) ∷ (1, c) ∷ []

pub record RingsAreAsWritten : Type 0 where
  pub second_longer : longer {E = ℕ} (1 ∷ []) (1 ∷ 2 ∷ []) ≡ 1 ∷ 2 ∷ []
  pub first_as_long : longer {E = ℕ} (1 ∷ []) (2 ∷ []) ≡ 1 ∷ []
  pub numbered : IsNumbered (first ∷ second ∷ [])
  pub not_numbered : ¬ IsNumbered (second ∷ [])
  -- both were pushed and the first was taken
  pub second_left : LeftBehind (first ∷ second ∷ []) (first ∷ []) (second ∷ [])
  pub second_ahead : StillAhead (first ∷ []) (first ∷ second ∷ []) (second ∷ [])
  pub not_empty : ¬ StillAhead (first ∷ []) (first ∷ second ∷ []) []
  pub its_slips : slips history ≡ b ∷ a ∷ c ∷ []
  pub of_the_second : slips_sent_by 1 history ≡ b ∷ c ∷ []
  pub of_nobody : slips_sent_by 2 history ≡ []
  pub of_two : AllBelow 2 history
  pub not_of_one : ¬ AllBelow 1 history
  pub places : EachPlace (λ k pushed. IsPrefix (slips_sent_by k ((1, b) ∷ (0, a) ∷ [])) pushed)
      ((a ∷ []) ∷ (b ∷ c ∷ []) ∷ [])
  -- c is still in the ring
  pub taken_two : ComeFrom ((a ∷ []) ∷ (b ∷ c ∷ []) ∷ []) (b ∷ a ∷ [])
  pub holds_after : HoldsAfter 1 (b ∷ c ∷ []) (c ∷ [])
  -- a slip that was pushed once isn't taken twice
  pub not_twice : ¬ IsAmong (a ∷ a ∷ []) (a ∷ [])
