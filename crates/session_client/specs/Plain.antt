-- The plain list of what a hand took, and how the plain judge has a record end.
use Rattle.std.specs.Prelude.{◌≡◌, ◌⊎◌, ℕ, ◌+◌, nat_lt, if◌then◌else◌, List, [], ◌∷◌, ◌++◌, length}
use Rattle.std.specs.Prelude.{slice_get, Option, Some, option_map}
use Rattle.host_block.specs.declared.range.Range.{Range}
use Rattle.host_model.specs.declared.event.Event.{Event}
use Rattle.host_model.specs.declared.event.Event.TheVariants.{Attached, Sent}
use Rattle.host_model.specs.declared.verdict.Verdict.{Verdict}
use Rattle.host_model.specs.declared.verdict.Verdict.TheVariants.{Accepted, Refused}
use Rattle.host_model.specs.Log.{given_before}
use Rattle.host_model.specs.Verdict.{verdicts_on}
use Rattle.host_record.specs.declared.request.Request.{Request}
use Rattle.host_record.specs.declared.status.Status.{Status}
use Rattle.host_record.specs.declared.status.Status.TheVariants as status
use Rattle.host_record.specs.Request.{request_bytes}
use Rattle.session_client.specs.declared.deed.Deed.{Deed}
use Rattle.session_client.specs.declared.deed.Deed.TheVariants as deed
use Rattle.session_client.specs.declared.judge.Judge.{Judge}
use Rattle.session_client.specs.declared.judge.Judge.TheVariants as judge
use Rattle.session_client.specs.declared.plain.PlainList.{PlainList}

-- record i of a log
unfoldable pub sent_as : ℕ → Request → Event
sent_as i request = Sent i (request_bytes request)

-- What a client that may send so many records logs of these things, after it was given so many
-- buffers and sent so many records: the buffers that it is given and the records that it sends. No
-- attach is refused but for want of ids.
abbrev pub log_of : ℕ → ℕ → ℕ → List Deed → List Event
log_of records given sent [] = []
log_of records given sent (deed.Attach pages ∷ deeds) =
    if nat_lt given 65535 then Attached pages (given + 1) ∷ log_of records (given + 1) sent deeds
    else log_of records given sent deeds
log_of records given sent (deed.Send request ∷ deeds) =
    if nat_lt sent records then sent_as sent request ∷ log_of records given (sent + 1) deeds
    else log_of records given sent deeds
log_of records given sent (_ ∷ deeds) = log_of records given sent deeds

-- how a record with this verdict ends, where nothing is carried out
abbrev pub end_under : Verdict → Status
end_under Accepted = status.Ok
end_under (Refused s) = s

-- the plain verdict on a record that is taken after these
abbrev pub verdict_next : List Event → Range → List Request → Request → Option Verdict
verdict_next log part earlier r =
    slice_get (verdicts_on (earlier ++ r ∷ []) (given_before log) part (length earlier + 1))
    (length earlier)

-- the record ends as the plain verdict has it, and stands on the list
pub record IsPlainEnd (old new : PlainList) (r : Request) (end : Status) : Type 0 where
  pub verdict : option_map end_under (verdict_next old.log.items old.part old.taken.items r)
      ≡ Some end
  pub noted : new.taken.items ≡ old.taken.items ++ r ∷ []
  pub log : (new.log ≡ old.log) × (new.part ≡ old.part)

-- so it is, or memory lacked for it, and the record ends with NoMemory
abbrev pub IsPlainEndOr : PlainList → PlainList → Request → Status → Type 0
IsPlainEndOr old new r end = IsPlainEnd old new r end ⊎ (end ≡ status.NoMemory)

-- the record ends as the judge has it, who stays the same; its own end is that of the intake
abbrev pub IsEndBy : Judge → Judge → Request → Status → Status → Type 0
IsEndBy judge.Intake new r own end = (new ≡ judge.Intake) × (end ≡ own)
IsEndBy (judge.Plain old) (judge.Plain new) r own end = IsPlainEndOr old new r end
IsEndBy (judge.Plain old) judge.Intake r own end = ⊥
