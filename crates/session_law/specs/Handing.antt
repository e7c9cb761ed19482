-- The hands of a session pushed what its intake's history tells that they handed on.
use Rattle.std.specs.Prelude.{◌≡◌, List}
use Rattle.host_intake.specs.declared.entry.IntakeEntry.{IntakeEntry}
use Rattle.host_rings.specs.Places.{EachPlace}
use Rattle.host_session.specs.declared.hand.SessionHand.{SessionHand}
use Rattle.host_session.specs.Handed.{handed_by}

-- each hand pushed just what its own entries handed on
abbrev pub PushedAsTold : List SessionHand → List IntakeEntry → Type 0
PushedAsTold hands es = EachPlace (λ k hand. hand.sender.pushed ≡ handed_by k es) hands
