-- Whether a run played a script, told by what the script asks of each client.
use Rattle.std.specs.Prelude.{◌≡◌, ℕ, zero, suc, Bool, true, false, not, ◌==◌, ◌&&◌, nat_le, List}
use Rattle.std.specs.Prelude.{[], ◌∷◌, length, filter, IsTrue}
use Rattle.std.specs.List.{AllZip}
use Rattle.std.specs.Str.{bytes_eq}
use Rattle.host_record.specs.declared.finish.Finish.{Finish}
use Rattle.host_record.specs.declared.finish.Finish.TheVariants.{Drain, Abort}
use Rattle.host_model.specs.declared.event.AttachError.{AttachError}
use Rattle.host_model.specs.declared.event.AttachError.TheVariants.{Closed}
use Rattle.host_model.specs.declared.event.Event.{Event}
use Rattle.host_model.specs.declared.event.Event.TheVariants.{Attached, NotAttached, Filled, Sent}
use Rattle.host_model.specs.declared.event.Event.TheVariants.{Received, Shown, Drained, Aborted}
use Rattle.host_model.specs.Groups.{owed}
use Rattle.host_model.specs.Lists.{all_with_before}
use Rattle.host_model.specs.Log.{requests, received}
use Rattle.host_report.specs.declared.report.Report.{Report}
use Rattle.host_report.specs.declared.session.SessionReport.{SessionReport}

-- what a line asks of a client: a call with its arguments, or to wait until each owed answer, or so
-- many answers, were received
pub data LineAsk : Type 0 where
  attach : ℕ → LineAsk
  fill : ℕ → ℕ → ℕ → ℕ → LineAsk
  show : ℕ → ℕ → ℕ → LineAsk
  send : List ℕ → LineAsk
  wait_all : LineAsk
  wait_for : ℕ → LineAsk

-- what a script asks of one client
pub record Plan : Type 0 where
  pub part : ℕ
  pub asks : List LineAsk
  pub finish : Finish

-- ---- the calls

abbrev pub is_received : Event → Bool
is_received (Received bytes) = true
is_received _ = false

abbrev pub is_wait : LineAsk → Bool
is_wait wait_all = true
is_wait (wait_for total) = true
is_wait _ = false

-- what the client did, without what it received
abbrev pub calls_in : List Event → List Event
calls_in log = filter (λ e. not (is_received e)) log

-- what it was asked to do, without the waits
abbrev pub calls_asked : List LineAsk → List LineAsk
calls_asked asks = filter (λ a. not (is_wait a)) asks

abbrev pub is_closed_error : AttachError → Bool
is_closed_error Closed = true
is_closed_error _ = false

-- whether the event is what was asked for
abbrev pub is_call_for : LineAsk → Event → Bool
is_call_for (attach pages) (Attached pages' id) = pages == pages'
is_call_for (attach pages) (NotAttached pages' cause) =
    pages == pages' && not (is_closed_error cause)
is_call_for (fill id block count byte) (Filled id' block' count' byte' done) =
    id == id' && block == block' && count == count' && byte == byte'
is_call_for (show id block count) (Shown id' block' count' done bytes) =
    id == id' && block == block' && count == count'
is_call_for (send bytes) (Sent index bytes') = bytes_eq bytes bytes'
is_call_for _ _ = false

abbrev pub is_end_of : Finish → Event → Bool
is_end_of Drain Drained = true
is_end_of Abort Aborted = true
is_end_of _ _ = false

-- one event for each call asked for, in order, and then the end
abbrev pub are_calls_for : Finish → List LineAsk → List Event → Bool
are_calls_for finish [] (e ∷ []) = is_end_of finish e
are_calls_for finish (a ∷ asks) (e ∷ log) = is_call_for a e && are_calls_for finish asks log
are_calls_for finish _ _ = false

-- ---- the waits

-- the events before the client's call of that number
abbrev pub before_call : ℕ → List Event → List Event
before_call n [] = []
before_call n (Received bytes ∷ log) = Received bytes ∷ before_call n log
before_call zero (e ∷ log) = []
before_call (suc n) (e ∷ log) = e ∷ before_call n log

-- whether as much was received before the client's next call as the wait asks for, after these
-- others
abbrev pub is_waited_for : List Event → List LineAsk → LineAsk → Bool
is_waited_for log before wait_all =
    let past = before_call (length (calls_asked before)) log in
    length (received past) == length (owed (requests past))
is_waited_for log before (wait_for total) =
    nat_le total (length (received (before_call (length (calls_asked before)) log)))
is_waited_for log before _ = true

-- ---- the script

pub record IsPlayedBy (plan : Plan) (s : SessionReport) : Type 0 where
  pub part : s.part ≡ plan.part
  pub finish : s.finish ≡ plan.finish
  pub calls : IsTrue (are_calls_for plan.finish (calls_asked plan.asks) (calls_in s.log.items))
  pub waits : IsTrue (all_with_before (is_waited_for s.log.items) plan.asks)

-- one session for each client of the script, in order
abbrev pub IsPlayedReport : List Plan → Report → Type 0
IsPlayedReport plans report = AllZip IsPlayedBy plans report.sessions.items
