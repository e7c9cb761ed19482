-- What is true of a hand at one session, between its calls.
use Rattle.std.specs.Prelude.{◌≡◌, ℕ, ◌||◌, nat_le, Bool, List, length, All, IsTrue}
use Rattle.std.specs.List.{list_all, list_any}
use Rattle.host_model.specs.declared.memory.MemEntry.{MemEntry}
use Rattle.host_model.specs.declared.step.Step.{Step}
use Rattle.host_rings.specs.declared.slip.Slip.{Slip}
use Rattle.host_log.specs.History.{entries_of}
use Rattle.host_turn.specs.Seats.{seen_by}
use Rattle.host_intake.specs.declared.entry.IntakeEntry.{IntakeEntry}
use Rattle.host_intake.specs.Entries.{Landing, Taking, is_landing_of, landings, maker_of, place_of}
use Rattle.host_intake.specs.Entries.{takings}
use Rattle.host_session.specs.declared.hand.SessionHand.{SessionHand}
use Rattle.host_session.specs.declared.spec.SessionSpec.{SessionSpec}
use Rattle.host_log.specs.Growth.{EachOwn}
use Rattle.host_hand.specs.Records.{IsClosedBefore, IsEndingRecord, IsMoveTaken, IsStepTaken}
use Rattle.host_session.specs.Handed.{handed_by}

-- the records that hand n took, and those whose end it told
abbrev pub own_takings : ℕ → List IntakeEntry → List Taking
own_takings n es = takings (entries_of maker_of n es)

abbrev pub own_landings : ℕ → List IntakeEntry → List Landing
own_landings n es = landings (entries_of maker_of n es)

-- a record has ended, or waits
abbrev pub is_settled : List Landing → Taking → Bool
is_settled ls t = t.waits || list_any (is_landing_of (place_of t)) ls

-- the record was judged on a beginning of this history
abbrev pub is_judged_within : ℕ → Taking → Bool
is_judged_within n t = nat_le t.seen n

-- What hand n keeps at a session, over what its own seats have seen of the histories of the intake,
-- of the buffers and of the device, and over the slips that it pushed.
pub record IsAtSession (spec : SessionSpec) (n : ℕ) (es : List IntakeEntry) (h : List MemEntry)
    (made : List Step) (pushed : List Slip) : Type 0 where
  -- each of its steps and each of its entries at the buffers is of a record that it took, past that
  -- record's fronts
  pub steps : EachOwn (λ step. step.hand) n
      (λ p step. step.session ≡ spec.number → IsStepTaken es n p step) made
  pub moves : EachOwn (λ e. e.hand) n (IsMoveTaken es n) h
  -- each buffer that it released had been closed
  pub releases : EachOwn (λ e. e.hand) n (IsClosedBefore h) h
  -- each record that it took and that doesn't wait has ended
  pub settled : IsTrue (list_all (is_settled (own_landings n es)) (own_takings n es))
  -- each record whose end it told was carried out, or is a close that waited
  pub endings : All (IsEndingRecord spec.part spec.number n es h made) (own_landings n es)
  -- the slips that it pushed are the answers that it handed on
  pub slips : pushed ≡ handed_by n es
  -- it has seen the buffer histories on which its records were judged
  pub seen : IsTrue (list_all (is_judged_within (length h)) (own_takings n es))

-- the same of a hand, which has a seat at the device that has seen these steps
abbrev pub KeepsSession : SessionSpec → ℕ → SessionHand → List Step → Type 0
KeepsSession spec n hand steps =
    IsAtSession spec n (seen_by hand.intake) (seen_by hand.memory) steps hand.sender.pushed
