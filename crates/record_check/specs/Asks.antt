-- Parts of the lists that the judge goes along.
use Rattle.std.specs.Prelude.{ℕ, ◌+◌, ◌-◌, ◌==◌, Bool, if◌then◌else◌, List, [], ◌∷◌, ◌++◌, map}
use Rattle.std.specs.Prelude.{filter, nat_lt, length}
use Rattle.std.specs.List.{range_with_len}
use Rattle.host_block.specs.declared.op.Op.{Op}
use Rattle.host_block.specs.declared.range.Range.{Range}
use Rattle.host_record.specs.declared.request.Request.{Request}
use Rattle.host_record.specs.declared.status.Status.{Status}
use Rattle.host_record.specs.declared.status.Status.TheVariants as status
use Rattle.host_model.specs.declared.step.Step.{Step}
use Rattle.host_model.specs.declared.row.TakenRow.{TakenRow}
use Rattle.host_model.specs.Answers.{answer_bytes}
use Rattle.host_model.specs.Carrying.{Ask, flush_ask}
use Rattle.host_model.specs.Groups.{is_owing}
use Rattle.host_model.specs.Lists.{below}
use Rattle.host_model.specs.Log.{request_at}

-- the steps that a transfer asks for from place k on, for `left` blocks
abbrev pub asks_from : Op → Range → Request → ℕ → ℕ → List Ask
asks_from kind range r k left =
    map (λ j. record { k = j; op = kind; block = range.first + r.dev_offset + j })
    (range_with_len k left)

-- the flush that comes after n blocks, where one is asked for
abbrev pub flush_of : Bool → ℕ → List Ask
flush_of forced n = if forced then flush_ask n ∷ [] else []

-- what is asked for from block k on, of as many as the request names
abbrev pub asks_on : Op → Range → Request → Bool → ℕ → List Ask
asks_on kind range r forced k = asks_from kind range r k (r.length - k) ++ flush_of forced r.length

-- the answers due to the first n records
abbrev pub due_below : List Request → List TakenRow → ℕ → List (List ℕ)
due_below rs rows n =
    map (answer_bytes rs rows)
    (filter (λ i. nat_lt i (length rows)) (filter (λ i. is_owing (request_at rs i)) (below n)))

-- how a record that asked for n steps ended
abbrev pub ended_after : ℕ → List Step → Status
ended_after n [] = if n == 0 then status.Ok else status.NoMemory
ended_after n (step ∷ steps) = if step.faulted then status.Io else ended_after (n - 1) steps
