-- The entries of a record, from the lists that a session consists of.
use Rattle.std.specs.Prelude.{◌≡◌, ℕ, List}
use Rattle.host_record.specs.declared.request.Request.{Request}
use Rattle.host_model.specs.declared.memory.MemEvent.{MemEvent}
use Rattle.host_model.specs.declared.row.TakenRow.{TakenRow}
use Rattle.host_model.specs.declared.step.Step.{Step}
use Rattle.host_model.specs.Carrying.{steps_of}
use Rattle.host_model.specs.Log.{request_at}
use Rattle.host_model.specs.RecordEntries.{entries_of, entries_owed}
use Rattle.host_model.specs.Taking.{row_at}

-- these are the entries that a request with this row and these steps has to have
abbrev pub AreOwed : Request → TakenRow → List Step → ℕ → List MemEvent → Type 0
AreOwed r row steps i own = own ≡ entries_owed row.verdict row.outcome i r steps own

abbrev pub HasEntriesBy : List Request → List TakenRow → List Step → List MemEvent → ℕ → Type 0
HasEntriesBy rs rows steps history i =
    AreOwed (request_at rs i) (row_at rows i) (steps_of i steps) i (entries_of i history)
