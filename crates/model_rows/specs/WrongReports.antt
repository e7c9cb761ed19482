-- Runs that differ in one thing from the realistic one, each refused by the part that it breaks.
use Rattle.std.specs.Prelude.{◌≡◌, ℕ, true, false, [], ◌∷◌, ◌++◌, take, drop, set, nat_lt}
use Rattle.std.specs.Prelude.{replicate}
use Rattle.host_block.specs.declared.op.Op.TheVariants as op
use Rattle.host_model.specs.Lists.{implies}
use Rattle.host_model.specs.declared.event.AttachError.TheVariants as attach
use Rattle.host_model.specs.declared.event.Event.TheVariants.{NotAttached, Filled}
use Rattle.host_report.specs.Lawful.{IsLawfulRun, IsOfImage, IsOnTable, closing_flush, pages_asked}
use Rattle.host_report.specs.Lawful.{ran_short}
use Rattle.host_report.specs.Played.{IsPlayedBy}
use Rattle.host_report.specs.declared.closing.Closing.TheVariants.{Cut}
use Rattle.host_report.specs.declared.report.Report.{Report}
use Rattle.host_report.specs.declared.session.SessionReport.{SessionReport}
use Rattle.model_rows.specs.Parts.{step}
use Rattle.model_rows.specs.Reports.{image, in_room, plan, report, session_report}
use Rattle.model_rows.specs.Sessions.{realistic}

-- frames ran short though all attaches asked for 4,096 at most; with one page more they may
abbrev pub with_attach_of : ℕ → Report
with_attach_of n = record report {
  sessions =
      in_room (session_report (record realistic {
        log = NotAttached n attach.NoFrames
            ∷ realistic.log;
      }) 1 ∷ []);
}

-- its session, on a range that goes past the image
abbrev pub past_it : SessionReport
past_it = session_report (record realistic { range = record { first = 34; count = 95 } }) 1

pub record WrongReportsAreRefused : Type 0 where
  pub stale_read :
      ¬ IsLawfulRun image (record report {
        steps =
            in_room (set realistic.steps 5 (step 5 0 op.Read 34 (replicate 512 0) false)
            ++ closing_flush false ∷ []);
      })
  pub two_closing_flushes :
      ¬ IsLawfulRun image (record report {
        steps = in_room (realistic.steps ++ closing_flush false
            ∷ closing_flush false ∷ []);
      })
  pub no_closing_flush : ¬ IsLawfulRun image (record report { steps = in_room realistic.steps })
  pub flush_after_a_cut : ¬ IsLawfulRun image (record report { closing = Cut })
  pub lost_page : ¬ IsLawfulRun image (record report { frames_home = 4095 })
  pub frames_short_without_want : ¬ IsLawfulRun image (with_attach_of 4088)
  pub frames_short :
      implies (ran_short (with_attach_of 4089).sessions.items)
      (nat_lt 4096 (pages_asked (with_attach_of 4089).sessions.items)) ≡ true
  -- an image of empty blocks
  pub empty_blocks : ¬ IsOfImage (replicate 128 []) report
  -- a range that goes past the image, whatever table is named
  pub past_the_image :
      ¬ IsOnTable image (record report { sessions = in_room (past_it ∷ []) })
  pub impatient :
      ¬ IsPlayedBy plan (session_report (record realistic {
        log = take 6 realistic.log
            ++ drop 7 realistic.log;
      }) 1)
  pub line_left_out :
      ¬ IsPlayedBy plan (session_report (record realistic {
        log = take 11 realistic.log
            ++ drop 12 realistic.log;
      }) 1)
  pub line_changed :
      ¬ IsPlayedBy plan (session_report (record realistic {
        log = set realistic.log 1 (Filled 1 0 4 0xa2 true);
      }) 1)
