-- The text of a report.
use Rattle.std.specs.Prelude.{ℕ, Bool, true, false, List, [], ◌∷◌, ◌++◌, length, flat_map, decimal}
use Rattle.std.specs.Prelude.{codes}
use Rattle.std.specs.List.{enumerate_from}
use Rattle.host_gpt.specs.declared.which.Which.{Which}
use Rattle.host_gpt.specs.declared.which.Which.TheVariants.{Primary, Backup}
use Rattle.host_model.specs.declared.step.Step.{Step}
use Rattle.host_report.specs.declared.closing.Closing.{Closing}
use Rattle.host_report.specs.declared.closing.Closing.TheVariants as closing
use Rattle.host_report.specs.declared.report.Report.{Report}
use Rattle.host_report.specs.declared.session.SessionReport.{SessionReport}
use Rattle.host_report.specs.LogText.{event_text}
use Rattle.host_report.specs.StepText.{memory_entry_line, row_line, step_line}
use Rattle.host_text.specs.Words.{line}

-- ---- single lines

abbrev pub image_line : ℕ → ℕ → List ℕ
image_line blocks size = line (codes "image" ∷ decimal blocks ∷ codes "of" ∷ decimal size ∷ [])

abbrev pub which_word : Which → List ℕ
which_word Primary = codes "primary"
which_word Backup = codes "backup"

abbrev pub table_line : Which → List ℕ
table_line which = line (codes "table" ∷ which_word which ∷ [])

abbrev pub session_line : SessionReport → List ℕ
session_line s =
    line (codes "session" ∷ decimal s.number ∷ codes "part" ∷ decimal s.part ∷ codes "first"
    ∷ decimal s.range.first ∷ codes "count" ∷ decimal s.range.count ∷ [])

abbrev pub steps_line : ℕ → List ℕ
steps_line n = line (codes "steps" ∷ decimal n ∷ [])

abbrev pub closing_word : Closing → List ℕ
closing_word closing.Good = codes "ok"
closing_word closing.Fault = codes "fault"
closing_word closing.Cut = codes "cut"
closing_word closing.NoMemory = codes "no-memory"

abbrev pub closing_line : Closing → List ℕ
closing_line c = line (codes "closing" ∷ closing_word c ∷ [])

abbrev pub end_line : List ℕ
end_line = line (codes "end" ∷ [])

-- ---- the report

abbrev pub head_text : Report → List ℕ
head_text report = image_line report.blocks report.size ++ table_line report.which

-- what a session took and what was done to its buffers, where steps are printed
abbrev pub taken_text : Bool → SessionReport → List ℕ
taken_text true s =
    flat_map row_line (enumerate_from 0 s.taken.items) ++ flat_map memory_entry_line s.memory.items
taken_text false s = []

abbrev pub session_text : ℕ → Bool → SessionReport → List ℕ
session_text size steps s =
    session_line s ++ flat_map (event_text size) s.log.items ++ taken_text steps s

abbrev pub step_lines : Bool → List Step → List ℕ
step_lines true steps = flat_map step_line steps
step_lines false steps = []

-- the number of steps, and the steps where they are printed
abbrev pub steps_text : Bool → Report → List ℕ
steps_text steps report =
    steps_line (length report.steps.items) ++ step_lines steps report.steps.items

abbrev pub end_text : Closing → List ℕ
end_text c = closing_line c ++ end_line

-- the text of a report, with its steps or without
abbrev pub report_text : Report → Bool → List ℕ
report_text report steps =
    head_text report
    ++ flat_map (session_text report.size steps) report.sessions.items
    ++ steps_text steps report
    ++ end_text report.closing
