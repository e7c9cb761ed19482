-- The text of a report's summary.
use Rattle.std.specs.Prelude.{ℕ, Bool, true, false, not, ◌==◌, List, [], ◌∷◌, ◌++◌, length}
use Rattle.std.specs.Prelude.{count_by, sum_by, decimal, codes}
use Rattle.byteorder.specs.Endian.{little_number}
use Rattle.host_model.specs.declared.event.Event.{Event}
use Rattle.host_model.specs.declared.event.Event.TheVariants.{Sent, Received}
use Rattle.host_report.specs.declared.report.Report.{Report}
use Rattle.host_report.specs.declared.session.SessionReport.{SessionReport}
use Rattle.host_report.specs.Text.{end_text, steps_line}
use Rattle.host_text.specs.Words.{line}

-- ---- what is counted

-- an answer with status 0
abbrev pub is_good_answer : List ℕ → Bool
is_good_answer bytes = little_number 4 bytes == 0

abbrev pub is_sent_event : Event → Bool
is_sent_event (Sent index bytes) = true
is_sent_event _ = false

abbrev pub is_received_event : Event → Bool
is_received_event (Received bytes) = true
is_received_event _ = false

abbrev pub is_good_event : Event → Bool
is_good_event (Received bytes) = is_good_answer bytes
is_good_event _ = false

abbrev pub is_failed_event : Event → Bool
is_failed_event (Received bytes) = not (is_good_answer bytes)
is_failed_event _ = false

-- how many events of these sessions pass the test
abbrev pub events_in : (Event → Bool) → List SessionReport → ℕ
events_in test sessions = sum_by (λ s. count_by test s.log.items) sessions

abbrev pub records_sent : List SessionReport → ℕ
records_sent sessions = events_in is_sent_event sessions

abbrev pub answers_received : List SessionReport → ℕ
answers_received sessions = events_in is_received_event sessions

abbrev pub good_answers : List SessionReport → ℕ
good_answers sessions = events_in is_good_event sessions

abbrev pub failed_answers : List SessionReport → ℕ
failed_answers sessions = events_in is_failed_event sessions

-- ---- the lines

abbrev pub load_line : ℕ → ℕ → List ℕ
load_line sessions records =
    line (codes "load" ∷ decimal sessions ∷ codes "sessions" ∷ decimal records ∷ codes "records"
    ∷ [])

abbrev pub answers_line : ℕ → ℕ → ℕ → List ℕ
answers_line answers good failed =
    line (codes "answers" ∷ decimal answers ∷ codes "ok" ∷ decimal good ∷ codes "failed"
    ∷ decimal failed ∷ [])

-- the text of a summary
abbrev pub summary_text : Report → List ℕ
summary_text report =
    let sessions = report.sessions.items in
    load_line (length sessions) (records_sent sessions)
    ++ answers_line (answers_received sessions) (good_answers sessions) (failed_answers sessions)
    ++ steps_line (length report.steps.items)
    ++ end_text report.closing
