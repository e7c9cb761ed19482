-- The entries of an intake's history: the records that were taken, and those that ended.
use Rattle.std.specs.Prelude.{ℕ, Bool, ◌==◌, List, map, filter_map, Option, Some, None}
use Rattle.host_record.specs.declared.request.Request.{Request}
use Rattle.host_record.specs.Request.{request_of}
use Rattle.host_model.specs.declared.verdict.Verdict.{Verdict}
use Rattle.host_rings.specs.declared.envelope.Envelope.{Envelope}
use Rattle.host_rings.specs.declared.slip.Slip.{Slip}
use Rattle.host_intake.specs.declared.entry.IntakeEntry.{IntakeEntry}
use Rattle.host_intake.specs.declared.entry.IntakeEntry.TheVariants.{Took, Landed, Passed, Turned}
use Rattle.host_intake.specs.declared.entry.RecordEnd.{RecordEnd}

-- who made an entry
abbrev pub maker_of : IntakeEntry → ℕ
maker_of (Took hand envelope verdict waits seen) = hand
maker_of (Landed hand index end answer kept) = hand
maker_of (Passed hand) = hand
maker_of (Turned hand phase) = hand

-- that a record was taken
pub record Taking : Type 0 where
  pub hand : ℕ
  pub envelope : Envelope
  pub verdict : Verdict
  pub waits : Bool
  pub seen : ℕ

-- that a record ended
pub record Landing : Type 0 where
  pub hand : ℕ
  pub index : ℕ
  pub end : RecordEnd
  pub answer : Option Slip
  pub kept : Bool

abbrev pub taking_of : IntakeEntry → Option Taking
taking_of (Took hand envelope verdict waits seen) =
    Some
    (record { hand = hand; envelope = envelope; verdict = verdict; waits = waits; seen = seen })
taking_of _ = None

abbrev pub landing_of : IntakeEntry → Option Landing
landing_of (Landed hand index end answer kept) =
    Some (record { hand = hand; index = index; end = end; answer = answer; kept = kept })
landing_of _ = None

-- the records taken, in order
abbrev pub takings : List IntakeEntry → List Taking
takings es = filter_map taking_of es

-- the records that ended, in the order in which they did
abbrev pub landings : List IntakeEntry → List Landing
landings es = filter_map landing_of es

-- the index of a record that was taken
abbrev pub place_of : Taking → ℕ
place_of t = t.envelope.index

abbrev pub envelope_of : Taking → Envelope
envelope_of t = t.envelope

-- what it asks for
abbrev pub request_in : Taking → Request
request_in t = request_of t.envelope.bytes

-- the requests taken, in order
abbrev pub requests_of : List Taking → List Request
requests_of ts = map request_in ts

abbrev pub is_landing_of : ℕ → Landing → Bool
is_landing_of i l = l.index == i
