-- What makes the report of a run lawful for an image.
use Rattle.std.specs.Prelude.{◌≡◌, ℕ, Bool, true, false, ◌==◌, ◌&&◌, nat_le, nat_lt, List, [], ◌∷◌}
use Rattle.std.specs.Prelude.{◌++◌, map, length, filter, sum_by, IsTrue}
use Rattle.std.specs.List.{list_any, AllByRecursion, range_with_len}
use Rattle.host_block.specs.declared.op.Op.TheVariants.{Flush}
use Rattle.host_block.specs.Changes.{IsLegal}
use Rattle.host_block.specs.Disk.{IsImage}
use Rattle.host_gpt.specs.declared.entry.Entry.{Entry}
use Rattle.host_gpt.specs.Table.{IsTable}
use Rattle.host_part.specs.Ranges.{IsRangeOf}
use Rattle.host_model.specs.declared.event.AttachError.TheVariants.{NoFrames}
use Rattle.host_model.specs.declared.event.Event.{Event}
use Rattle.host_model.specs.declared.event.Event.TheVariants.{Attached, NotAttached}
use Rattle.host_model.specs.declared.step.Step.{Step}
use Rattle.host_model.specs.Changes.{changes_of}
use Rattle.host_model.specs.LawfulSession.{IsLawfulSession}
use Rattle.host_model.specs.Lists.{implies}
use Rattle.host_model.specs.Session.{Session}
use Rattle.host_report.specs.declared.closing.Closing.{Closing}
use Rattle.host_report.specs.declared.closing.Closing.TheVariants.{Good, Fault, Cut, NoMemory}
use Rattle.host_report.specs.declared.report.Report.{Report}
use Rattle.host_report.specs.declared.session.SessionReport.{SessionReport}

-- ---- the image

-- the image's table is read by the report's header, and each session is on a partition that this
-- table serves
pub record IsOnTable (image : List (List ℕ)) (report : Report) : Type 0 where
  pub disk_id : List ℕ
  pub first_usable : ℕ
  pub last_usable : ℕ
  pub entries : List Entry
  pub table : IsTable image report.which disk_id first_usable last_usable entries
  pub ranges : AllByRecursion (λ s.
      IsRangeOf (record {
        first_usable = first_usable;
        last_usable = last_usable;
        blocks = length image;
        entries = entries;
      }) s.part s.range) report.sessions.items

-- the report counts the image's blocks, and names their length
pub record IsOfImage (image : List (List ℕ)) (report : Report) : Type 0 where
  pub blocks : report.blocks ≡ length image
  pub size : IsImage report.size image

-- ---- sessions and steps

-- one session of a report, with the device's steps for it
abbrev pub session_of : Report → SessionReport → Session
session_of report s = record {
  size = report.size;
  range = s.range;
  log = s.log.items;
  rows = s.taken.items;
  memory = map (λ e. e.what) s.memory.items;
  steps = filter (λ step. step.session == s.number) report.steps.items;
  finish = s.finish;
}

-- the closing flush, with a fault or without
abbrev pub closing_flush : Bool → Step
closing_flush faulted =
    record {
      hand = 0;
      session = 0;
      index = 0;
      k = 0;
      op = Flush;
      block = 0;
      bytes = [];
      faulted = faulted;
    }

-- the steps after those of the sessions
abbrev pub closing_steps : Closing → List Step
closing_steps Good = closing_flush false ∷ []
closing_steps Fault = closing_flush true ∷ []
closing_steps Cut = []
closing_steps NoMemory = []

-- whether the step is of one of n sessions
abbrev pub is_of_sessions : ℕ → Step → Bool
is_of_sessions n step = nat_le 1 step.session && nat_le step.session n

-- ---- the pool

-- the pages that all attaches asked for, those refused too
abbrev pub pages_asked_by : Event → ℕ
pages_asked_by (Attached pages id) = pages
pages_asked_by (NotAttached pages cause) = pages
pages_asked_by _ = 0

abbrev pub pages_asked : List SessionReport → ℕ
pages_asked sessions = sum_by (λ s. sum_by pages_asked_by s.log.items) sessions

abbrev pub is_short_of_frames : Event → Bool
is_short_of_frames (NotAttached pages NoFrames) = true
is_short_of_frames _ = false

-- whether an attach was refused for want of frames
abbrev pub ran_short : List SessionReport → Bool
ran_short sessions = list_any (λ s. list_any is_short_of_frames s.log.items) sessions

-- ---- the run

-- the run is lawful, but for its partitions
pub record IsLawfulRun (image : List (List ℕ)) (report : Report) : Type 0 where
  -- sessions are numbered from 1, and each is lawful
  pub numbers : map (λ s. s.number) report.sessions.items
      ≡ range_with_len 1 (length report.sessions.items)
  pub sessions : AllByRecursion (λ s. IsLawfulSession (session_of report s)) report.sessions.items
  -- the steps are those of the sessions and the closing flush, and one legal history of the image
  pub closing : report.steps.items
      ≡ filter (is_of_sessions (length report.sessions.items)) report.steps.items
      ++ closing_steps report.closing
  pub legal : IsLegal image (changes_of report.steps.items)
  -- frames ran short only where more than the pool has were asked for, and all are home
  pub frames : IsTrue (implies (ran_short report.sessions.items)
      (nat_lt 4096 (pages_asked report.sessions.items)))
  pub home : report.frames_home ≡ 4096

pub record IsLawful (image : List (List ℕ)) (report : Report) : Type 0 where
  pub of_image : IsOfImage image report
  pub on_table : IsOnTable image report
  pub run : IsLawfulRun image report
