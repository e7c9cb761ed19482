-- The verdict on a record, by the first check that fails.
use Rattle.std.specs.Prelude.{ℕ, zero, suc, ◌-◌, Bool, true, false, not, ◌==◌, ◌&&◌, nat_le}
use Rattle.std.specs.Prelude.{if◌then◌else◌, List, [], ◌∷◌, ◌++◌, length, Option, None, is_none}
use Rattle.std.specs.Prelude.{is_some, unwrap_or, position}
use Rattle.std.specs.List.{zip}
use Rattle.host_block.specs.declared.range.Range.{Range}
use Rattle.host_record.specs.declared.request.Request.{Request}
use Rattle.host_record.specs.declared.status.Status.{Status}
use Rattle.host_record.specs.declared.status.Status.TheVariants.{InvalidArgs, NotSupported}
use Rattle.host_record.specs.declared.status.Status.TheVariants.{OutOfRange, NotFound, TooSmall}
use Rattle.host_record.specs.Command.{opcode, is_grouped, has_unknown_bit, names_blocks}
use Rattle.host_record.specs.Command.{names_buffer, is_transfer, is_close}
use Rattle.host_model.specs.declared.event.Event.{Event}
use Rattle.host_model.specs.declared.verdict.Verdict.{Verdict}
use Rattle.host_model.specs.declared.verdict.Verdict.TheVariants.{Accepted, Refused}
use Rattle.host_model.specs.Log.{requests, request_at, given_before, sent}

-- ---- one request

-- the blocks from an offset on lie among so many
abbrev pub is_within : ℕ → ℕ → ℕ → Bool
is_within offset len count = nat_le len count && nat_le offset (count - len)

-- refused with the status of the first check that fails, else accepted
abbrev pub first_check : List (Bool × Status) → Verdict
first_check [] = Accepted
first_check (check ∷ checks) = if check.0 then Refused check.1 else first_check checks

-- The checks on a request, in order: whether it fails, and with which status.
-- Its buffer has so many pages, or None where it isn't attached.
abbrev pub checks : Range → Option ℕ → Request → List (Bool × Status)
checks range pages r =
    (is_grouped r && not (nat_le r.group 7), InvalidArgs) ∷ (is_none (opcode r), NotSupported)
    ∷ (has_unknown_bit r, InvalidArgs)
    ∷ (names_blocks (opcode r) && not (nat_le 1 r.length && nat_le r.length 65536), InvalidArgs)
    ∷ (names_blocks (opcode r) && not (is_within r.dev_offset r.length range.count), OutOfRange)
    ∷ (names_buffer (opcode r) && is_none pages, NotFound)
    ∷ (
      is_transfer (opcode r) && not (is_within r.vmo_offset r.length (unwrap_or pages 0)),
      TooSmall,
    ) ∷ []

-- the verdict on a request in this partition, whose buffer has so many pages, or isn't attached
unfoldable pub judged : Range → Option ℕ → Request → Verdict
judged range pages r = first_check (checks range pages r)

-- ---- the records of a log

abbrev pub is_accepted : Verdict → Bool
is_accepted Accepted = true
is_accepted (Refused status) = false

-- whether the request, with this verdict, closes buffer v
abbrev pub closes : ℕ → Request → Verdict → Bool
closes v r verdict = is_accepted verdict && is_close (opcode r) && r.vmoid == v

-- the first of these requests that closes buffer v by its verdict
abbrev pub close_in : ℕ → List Request → List Verdict → Option ℕ
close_in v rs verdicts = position (λ p. closes v p.0 p.1) (zip rs verdicts)

-- whether one of these requests closed buffer v
abbrev pub is_closed : ℕ → List Request → List Verdict → Bool
is_closed v rs verdicts = is_some (close_in v rs verdicts)

-- The verdict on record i after the verdicts on those before it. lent i v has the pages of buffer
-- v, where it was given before record i was sent. A buffer is attached for a record where it was
-- given before and no record before closed it.
abbrev pub verdict_after : List Request → (ℕ → ℕ → Option ℕ) → Range → List Verdict → ℕ → Verdict
verdict_after rs lent range earlier i =
    let r = request_at rs i in
    judged range (if is_closed r.vmoid rs earlier then None else lent i r.vmoid) r

-- the verdicts on the first n records
abbrev pub verdicts_on : List Request → (ℕ → ℕ → Option ℕ) → Range → ℕ → List Verdict
verdicts_on rs lent range zero = []
verdicts_on rs lent range (suc n) =
    let earlier = verdicts_on rs lent range n in
    earlier ++ verdict_after rs lent range earlier n ∷ []

-- the verdicts on the first n records of a log
abbrev pub verdicts : List Event → Range → ℕ → List Verdict
verdicts log range n = verdicts_on (requests log) (given_before log) range n

-- the verdict on record i of a log
abbrev pub verdict_of : List Event → Range → ℕ → Verdict
verdict_of log range i =
    verdict_after (requests log) (given_before log) range (verdicts log range i) i

-- the record that closes buffer v, among all that were sent
abbrev pub close_of : List Event → Range → ℕ → Option ℕ
close_of log range v = close_in v (requests log) (verdicts log range (length (sent log)))
