-- For each field of a lawful report, and of one that played a script, a report that breaks that
-- field.
use Rattle.std.specs.Prelude.{ℕ, true, false, List, [], ◌∷◌, ◌++◌, set}
use Rattle.host_block.specs.declared.range.Range.{Range}
use Rattle.host_gpt.specs.declared.which.Which.TheVariants.{Backup}
use Rattle.host_model.specs.declared.event.Event.TheVariants.{Filled}
use Rattle.host_record.specs.declared.finish.Finish.TheVariants.{Abort}
use Rattle.host_report.specs.Lawful.{IsLawfulRun, IsOfImage, IsOnTable, closing_flush}
use Rattle.host_report.specs.Played.{IsPlayedReport, IsPlayedBy}
use Rattle.host_report.specs.declared.closing.Closing.TheVariants.{Fault}
use Rattle.host_report.specs.declared.report.Report.{Report}
use Rattle.host_report.specs.declared.session.SessionReport.{SessionReport}
use Rattle.model_rows.specs.Reports.{image, in_room, plan, report, session_report}
use Rattle.model_rows.specs.Sessions.{realistic}
use Rattle.model_rows.specs.Table as table
use Rattle.model_rows.specs.WrongSessions.{without}

-- the report with these sessions
abbrev pub with_sessions : List SessionReport → Report
with_sessions sessions = record report { sessions = in_room sessions }

-- the same with so many blocks, its session on this partition and these blocks
abbrev pub on_partition : ℕ → ℕ → Range → Report
on_partition blocks part range =
    record (with_sessions (record (session_report realistic 1) { part = part; range = range }
    ∷ [])) { blocks = blocks }

-- the one block of the only partition of the small table, and one beside it
abbrev pub its_block : Range
its_block = record { first = 2; count = 1 }

abbrev pub beside : Range
beside = record { first = 1; count = 1 }

abbrev pub run : SessionReport
run = session_report realistic 1

pub record ImageIsNeeded : Type 0 where
  pub blocks : ¬ IsOfImage image (record report { blocks = 127 })
  pub size : ¬ IsOfImage image (record report { size = 4096 })
  -- on an image with a table a session stands on a partition of it
  pub served : IsOnTable table.image (on_partition 4 1 its_block)
  pub part : ¬ IsOnTable table.image (on_partition 4 2 its_block)
  pub range : ¬ IsOnTable table.image (on_partition 4 1 beside)
  -- an image of zeros has no table, and the primary header is taken where it is valid
  pub no_table : ¬ IsOnTable image report
  pub which : ¬ IsOnTable table.image (record (on_partition 4 1 its_block) { which = Backup })

pub record RunIsNeeded : Type 0 where
  pub numbers : ¬ IsLawfulRun image (with_sessions (session_report realistic 2 ∷ []))
  -- a session whose last answer is missing
  pub sessions :
      ¬ IsLawfulRun image (with_sessions (session_report (record realistic {
        log = without 10 realistic.log;
      }) 1 ∷ []))
  -- the only session isn't told, though its steps are
  pub missing : ¬ IsLawfulRun image (with_sessions [])
  -- the closing flush failed, and is told to have ended well; and the other way round
  pub hidden_fault :
      ¬ IsLawfulRun image (record report {
        steps = in_room (realistic.steps ++ closing_flush true
            ∷ []);
      })
  pub made_up_fault : ¬ IsLawfulRun image (record report { closing = Fault })
  -- the closing flush stands before the steps of the session
  pub flush_first :
      ¬ IsLawfulRun image (record report {
        steps = in_room (closing_flush false ∷ realistic.steps);
      })

pub record ScriptIsNeeded : Type 0 where
  pub part : ¬ IsPlayedBy (record plan { part = 2 }) run
  pub finish : ¬ IsPlayedBy (record plan { finish = Abort }) run
  -- it filled another page, and did nothing for the last line
  pub calls : ¬ IsPlayedBy plan (session_report (record realistic {
    log = set realistic.log 1 (Filled 1 1 4 0xa1 true);
  }) 1)
  pub too_few :
      ¬ IsPlayedBy plan (session_report (record realistic { log = without 11 realistic.log }) 1)
  -- an answer that is waited for came after the next call
  pub waits : ¬ IsPlayedBy plan (session_report (record realistic {
    log = without 6 realistic.log;
  }) 1)
  -- a session that wasn't asked for, and one that is missing
  pub one_more : ¬ IsPlayedReport [] report
  pub missing : ¬ IsPlayedReport (plan ∷ plan ∷ []) report

pub record EachReportFieldIsNeeded : Type 0 where
  pub image : ImageIsNeeded
  pub run : RunIsNeeded
  pub script : ScriptIsNeeded
