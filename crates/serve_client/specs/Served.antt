-- What is known once a server has served its client, whether or not it kept its histories.
use Rattle.std.specs.Prelude.{◌≡◌, ℕ, List, [], ◌∷◌, length, All, is_some, IfSome, IsTrue}
use Rattle.host_device.specs.declared.device.Device.{Device}
use Rattle.host_device.specs.Faults.{RoseBy, faulted_count}
use Rattle.host_device.specs.Seen.{opening_of, shape_of, steps_of}
use Rattle.host_gpt.specs.declared.which.Which.TheVariants.{Primary}
use Rattle.host_io.specs.declared.disk.Disk as disk
use Rattle.host_model.specs.Changes.{changes_of}
use Rattle.host_model.specs.Log.{sent}
use Rattle.host_play.specs.Plays.{KeepsImage}
use Rattle.host_report.specs.declared.closing.Closing.TheVariants.{Cut}
use Rattle.host_report.specs.declared.report.Report.{Report}
use Rattle.host_session.specs.Client.{ClientState}
use Rattle.host_worker.specs.Ends.{AreEnded, EndsState, HandEnd}
use Rattle.host_worker.specs.Gathered.{IsReportGathered, report_on}
use Rattle.play_law.specs.LawfulRuns.{IsLawfulOnAnyDisk}
use Rattle.serve_client.specs.declared.load.Load.{Load}
use Rattle.serve_client.specs.declared.outcome.Outcome.{Outcome}

-- A server ended so, once its one client had sent so many records.
pub record HasAttended (ends : EndsState) (count : ℕ) : Type 0 where
  pub client : ClientState
  pub hands : List HandEnd
  pub ended : AreEnded (client ∷ []) hands ends
  pub sent_are : length (sent client.log) ≡ count

-- the report of these ends, made or not
abbrev pub report_for : Load → EndsState → Report
report_for load ends = report_on ends load.blocks Primary Cut

module _ {D : Type 0} {g : disk.Ghosts D} where
  -- The server had one session, in which so many records were sent, and all that makes its report
  -- lawful on any disk holds. Its steps are one legal history of the disk where that tells, and a
  -- crash leaves an image that they allow. The report was made where the device keeps its history,
  -- and says the same.
  pub record IsServed (device : Device D g) (load : Load) (done : Outcome D) : Type 0 where
    pub ends : EndsState
    pub gathered : IsReportGathered ends (report_for load ends)
    pub lawful : IsLawfulOnAnyDisk (report_for load ends)
    pub one : length ends.sessions ≡ 1
    pub sent_are : All (λ session. length (sent session.log.items) ≡ done.sent) ends.sessions
    pub told : IsTrue (shape_of device).tells
        → KeepsImage (g.state (opening_of device)).durable load.blocks load.size
        (changes_of ends.story) (g.state done.disk)
    pub faults : RoseBy (faulted_count ends.story) (g.counts (opening_of device)).faults
        (g.counts done.disk).faults
    pub made : is_some done.report ≡ (steps_of device).kept
    pub says : IfSome done.report (λ made. IsReportGathered ends made.0)
