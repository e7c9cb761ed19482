-- What a gathered report is.
use Rattle.std.specs.Prelude.{◌≡◌, ℕ, List, ◌++◌, length}
use Rattle.host_gpt.specs.declared.which.Which.{Which}
use Rattle.host_report.specs.declared.closing.Closing.{Closing}
use Rattle.host_report.specs.declared.report.Report.{Report}
use Rattle.host_report.specs.Lawful.{closing_steps}
use Rattle.host_session.specs.Client.{ClientState}
use Rattle.host_worker.specs.declared.gathering.Served.{Served}
use Rattle.host_worker.specs.Ends.{AreEnded, EndsState, HandEnd}

-- the report that was gathered
abbrev pub reported : Served → Report
reported served = served.report.value

-- the report of these ends, whether or not it is kept
abbrev pub report_on : EndsState → ℕ → Which → Closing → Report
report_on ends blocks which closing = record {
  blocks = blocks;
  size = ends.size;
  which = which;
  sessions = record { items = ends.sessions; room = length ends.sessions };
  steps = record {
    items = ends.story ++ closing_steps closing;
    room = length (ends.story ++ closing_steps closing);
  };
  closing = closing;
  frames_home = ends.frames_home;
}

-- A report of these ends, which are those of a server with these clients and hands: the sessions
-- are the server's, and the steps are the server's, with those of the closing behind them.
pub record IsReportGathered (ends : EndsState) (report : Report) : Type 0 where
  pub clients : List ClientState
  pub hands : List HandEnd
  pub ended : AreEnded clients hands ends
  pub sessions_are : report.sessions.items ≡ ends.sessions
  pub steps_are : report.steps.items ≡ ends.story ++ closing_steps report.closing
  pub home_is : report.frames_home ≡ ends.frames_home
  pub size_is : report.size ≡ ends.size
