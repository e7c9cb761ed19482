-- What a run tells of its script, of the server that played it, and of its disk.
use Rattle.std.specs.Prelude.{◌≡◌, ℕ, ◌+◌, List, length, map, slice_get, Some}
use Rattle.host_block.specs.Changes.{Change, IsLegal}
use Rattle.host_block.specs.Crash.{IsCrashImage}
use Rattle.host_block.specs.Disk.{DiskState, IsCrashOf, IsImage}
use Rattle.host_block.specs.declared.range.Range.{Range}
use Rattle.host_report.specs.declared.report.Report.{Report}
use Rattle.host_session.specs.Client.{ClientState}
use Rattle.host_io.specs.declared.disk.Disk as disk
use Rattle.host_worker.specs.Ends.{AreEnded, EndsState, HandEnd}
use Rattle.host_worker.specs.Gathered.{IsReportGathered}
use Rattle.host_worker.specs.Servers.{plan_of_session}
use Rattle.host_worker.specs.declared.server.Server.{Server}
use Rattle.script_model.specs.Plans.{PlannedSession}
use Rattle.host_play.specs.Actors.{HasPlayedSession}
use Rattle.host_play.specs.Opened.{specs_from}

module _ {D : Type 0} {g : disk.Ghosts D} where
  -- A server ended so, once its clients had played these plans.
  pub record HasPerformed (plans : List PlannedSession) (server : Server D g) (ends : EndsState)
      : Type 0 where
    pub clients : List ClientState
    pub hands : List HandEnd
    pub ended : AreEnded clients hands ends
    pub plans_are : map (λ client. client.plan) clients ≡ map plan_of_session server.sessions.items
    pub hand_count : length hands ≡ server.hands
    pub played : (k : ℕ) (client : ClientState) → slice_get clients k ≡ Some client
        → (before : ClientState) × HasPlayedSession plans before client

-- The report was gathered from a server that was started with a session for each plan, each with a
-- hand beside those of the workers, and finished.
pub record IsReportOf (plans : List PlannedSession) (ranges : List Range) (workers depth : ℕ)
    (report : Report) : Type 0 where
  pub clients : List ClientState
  pub hands : List HandEnd
  pub ends : EndsState
  pub ended : AreEnded clients hands ends
  pub gathered : IsReportGathered ends report
  pub specs_are : map (λ client. client.plan.spec) clients
      ≡ specs_from 1 plans ranges report.size depth
  pub hand_count : length hands ≡ workers + length plans

-- A disk that opened with this image has this history: it is legal, and a crash leaves an image
-- that it allows.
pub record KeepsImage (image : List (List ℕ)) (blocks size : ℕ) (history : List Change)
    (state : DiskState) : Type 0 where
  pub blocks_are : length image ≡ blocks
  pub size_is : IsImage size image
  pub legal : IsLegal image history
  pub crashes : (left : List (List ℕ)) → IsCrashOf state left → IsCrashImage image history left
