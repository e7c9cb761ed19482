-- What a report has of a session's end.
use Rattle.std.specs.Prelude.{◌≡◌, [], ◌∷◌, ◌++◌}
use Rattle.host_block.specs.Room.{WithRoom}
use Rattle.host_log.specs.Switch.{SwitchedLog}
use Rattle.host_report.specs.declared.session.SessionReport.{SessionReport}
use Rattle.host_worker.specs.declared.session_end.SessionEnd.{SessionEnd}

-- the entries of a log, kept or not, as a list with room
abbrev pub listed_log : {A : Type 0} → SwitchedLog A → WithRoom A
listed_log log = record { items = log.items; room = log.room }

abbrev pub report_of : SessionEnd → SessionReport
report_of end = record {
  number = end.number;
  part = end.part;
  range = end.range;
  log = listed_log end.logs.log;
  taken = listed_log end.logs.rows;
  memory = listed_log end.logs.memory;
  finish = end.finish;
}

-- The report says of the session what its end says.
pub record IsSessionReportOf (end : SessionEnd) (report : SessionReport) : Type 0 where
  pub place : (report.number ≡ end.number) × (report.part ≡ end.part) × (report.range ≡ end.range)
  pub log : report.log.items ≡ end.logs.log.items
  pub rows : report.taken.items ≡ end.logs.rows.items
  pub memory : report.memory.items ≡ end.logs.memory.items
  pub finish : report.finish ≡ end.finish

-- One report more stands at the end, that of this session.
pub record HasPutReport (end : SessionEnd) (old new : SwitchedLog SessionReport) : Type 0 where
  pub report : SessionReport
  pub says : IsSessionReportOf end report
  pub put : new ≡ record old { items = old.items ++ report ∷ [] }
