-- The records taken, and how the log ends.
use Rattle.std.specs.Prelude.{◌≡◌, ℕ, ◌≤◌, Bool, true, false, not, ◌==◌, List, [], ◌∷◌, ◌++◌, map}
use Rattle.std.specs.Prelude.{length, filter, filter_map, get_or, IsTrue}
use Rattle.host_record.specs.declared.finish.Finish.{Finish}
use Rattle.host_record.specs.declared.finish.Finish.TheVariants.{Drain, Abort}
use Rattle.host_record.specs.declared.status.Status.TheVariants as status
use Rattle.host_model.specs.declared.event.AttachError.TheVariants.{NoIds}
use Rattle.host_model.specs.declared.event.Event.{Event}
use Rattle.host_model.specs.declared.event.Event.TheVariants.{Attached, NotAttached, Drained}
use Rattle.host_model.specs.declared.event.Event.TheVariants.{Aborted}
use Rattle.host_model.specs.declared.row.TakenRow.{TakenRow}
use Rattle.host_model.specs.declared.verdict.Verdict.TheVariants.{Refused}
use Rattle.host_model.specs.Lists.{agrees, all_with_before, below, implies}
use Rattle.host_model.specs.Log.{sent, sent_index, given}
use Rattle.host_model.specs.Session.{Session}
use Rattle.host_model.specs.Verdict.{verdicts}

-- the row of record i; there is one for each record that was taken
abbrev pub row_at : List TakenRow → ℕ → TakenRow
row_at rows i = get_or rows i (record { verdict = Refused status.Io; outcome = status.Io })

abbrev pub is_drain : Finish → Bool
is_drain Drain = true
is_drain Abort = false

-- the event that ends a log
abbrev pub end_event : Finish → Event
end_event Drain = Drained
end_event Abort = Aborted

abbrev pub is_end : Event → Bool
is_end Drained = true
is_end Aborted = true
is_end _ = false

abbrev pub is_attach : Event → Bool
is_attach (Attached pages id) = true
is_attach (NotAttached pages cause) = true
is_attach _ = false

abbrev pub is_out_of_ids : Event → Bool
is_out_of_ids (NotAttached pages NoIds) = true
is_out_of_ids _ = false

-- an attach is refused for want of ids just where 65,535 were given before
abbrev pub runs_out_rightly : List Event → Event → Bool
runs_out_rightly before e =
    implies (is_attach e) (agrees (is_out_of_ids e) (length (given before) == 65535))

pub record IsTakenInOrder (s : Session) : Type 0 where
  -- the records sent are numbered from 0
  pub numbered : filter_map sent_index s.log ≡ below (length (sent s.log))
  -- the rows are those of the first records sent, with their verdicts
  pub only_sent : length s.rows ≤ length (sent s.log)
  pub verdicts : map (λ row. row.verdict) s.rows ≡ verdicts s.log s.range (length s.rows)
  -- the log ends as the session was ended; after a drain every record was taken
  pub ends : s.log ≡ filter (λ e. not (is_end e)) s.log ++ end_event s.finish ∷ []
  pub all_taken : IsTrue (is_drain s.finish) → length s.rows ≡ length (sent s.log)
  pub ids : IsTrue (all_with_before runs_out_rightly s.log)
