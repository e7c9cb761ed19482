-- A record that is carried out, from the lists that a session consists of.
use Rattle.std.specs.Prelude.{◌≡◌, ℕ, List, IsTrue}
use Rattle.host_block.specs.declared.range.Range.{Range}
use Rattle.host_record.specs.declared.request.Request.{Request}
use Rattle.host_model.specs.declared.row.TakenRow.{TakenRow}
use Rattle.host_model.specs.declared.step.Step.{Step}
use Rattle.host_model.specs.Carrying.{asked, carries_out, outcome_of, steps_of}
use Rattle.host_model.specs.Log.{request_at}
use Rattle.host_model.specs.Taking.{row_at}

-- a request with this row is carried out by these steps
abbrev pub IsRecordCarried : Range → Request → TakenRow → List Step → Type 0
IsRecordCarried range r row steps =
    let asks = asked row.verdict range r in
    IsTrue (carries_out asks steps) × (row.outcome ≡ outcome_of row.verdict asks steps)

-- record i is
abbrev pub IsCarriedBy : Range → List Request → List TakenRow → List Step → ℕ → Type 0
IsCarriedBy range rs rows steps i =
    IsRecordCarried range (request_at rs i) (row_at rows i) (steps_of i steps)
