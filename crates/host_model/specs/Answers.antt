-- The answers that a client is due.
use Rattle.std.specs.Prelude.{ℕ, Bool, true, false, nat_lt, if◌then◌else◌, List, find, map}
use Rattle.std.specs.Prelude.{unwrap_or, length, take, filter, ◌≤◌, IsTrue}
use Rattle.std.specs.Str.{bytes_eq}
use Rattle.host_record.specs.declared.request.Request.{Request}
use Rattle.host_record.specs.declared.response.Response.{Response}
use Rattle.host_record.specs.declared.status.Status.{Status}
use Rattle.host_record.specs.declared.status.Status.TheVariants as status
use Rattle.host_record.specs.Response.{response_bytes}
use Rattle.host_record.specs.Status.{status_number}
use Rattle.host_model.specs.declared.event.Event.{Event}
use Rattle.host_model.specs.declared.row.TakenRow.{TakenRow}
use Rattle.host_model.specs.Groups.{is_member, answered_by, owed}
use Rattle.host_model.specs.Lists.{within_counts, same_counts}
use Rattle.host_model.specs.Log.{requests, request_at, received}
use Rattle.host_model.specs.Session.{Session}
use Rattle.host_model.specs.Taking.{row_at, is_drain}

abbrev pub is_failure : Status → Bool
is_failure status.Ok = false
is_failure _ = true

-- the first that isn't Ok, else Ok
abbrev pub first_failure : List Status → Status
first_failure outcomes = unwrap_or (find is_failure outcomes) status.Ok

-- the answer of owing record i: the status of the first of its records that failed, and how many it
-- answers
abbrev pub answer : List Request → List TakenRow → ℕ → Response
answer rs rows i =
    let r = request_at rs i in
    let answered = answered_by rs i in
    record {
      status = status_number (first_failure (map (λ k. (row_at rows k).outcome) answered));
      reqid = r.reqid;
      group = if is_member r then r.group else 0;
      count = length answered;
    }

abbrev pub answer_bytes : List Request → List TakenRow → ℕ → List ℕ
answer_bytes rs rows i = response_bytes (answer rs rows i)

-- the answers due: one for each owing record that was taken, since the members of its instance were
-- then taken too
abbrev pub due : List Event → List TakenRow → List (List ℕ)
due log rows =
    let rs = requests log in
    map (answer_bytes rs rows) (filter (λ i. nat_lt i (length rows)) (owed rs))

-- no answer was received more often than it is due
abbrev pub is_answered_at_most : List Event → List TakenRow → Bool
is_answered_at_most log rows = within_counts bytes_eq (received log) (due log rows)

-- each answer was received as often as it is due
abbrev pub is_answered_exactly : List Event → List TakenRow → Bool
is_answered_exactly log rows = same_counts bytes_eq (received log) (due log rows)

-- after each event no answer was received more often than it is due then; after a drain each as
-- often as it is due
pub record AreDueAnswers (s : Session) : Type 0 where
  pub at_most : (n : ℕ) → n ≤ length s.log → IsTrue (is_answered_at_most (take n s.log) s.rows)
  pub exactly : IsTrue (is_drain s.finish) → IsTrue (is_answered_exactly s.log s.rows)
