-- What the plain cells have come to, by the rows of each number's current instance.
use Rattle.std.specs.Prelude.{◌≡◌, ◌⊎◌, ℕ, ◌+◌, ◌-◌, ◌*◌, ◌^◌, ◌<◌, List, [], Bool, true, false}
use Rattle.std.specs.Prelude.{map, min, max, get_or}
use mathlib.Core.Option.{some}
use lib.ListN.{get_elem?}
use Rattle.host_record.specs.declared.status.Status.{Status}
use Rattle.host_group.specs.declared.plain_cells.PlainCell.{PlainCell}
use Rattle.host_group.specs.declared.plain_cells.PlainCells.{PlainCells}
use Rattle.host_group.specs.declared.group_end.GroupEnd.{GroupEnd}
use Rattle.host_group.specs.declared.view.Row.{Row}
use Rattle.host_group.specs.declared.view.Progress.TheVariants.{Passed}
use Rattle.host_group.specs.Failures.{no_failure, status_of}
use Rattle.host_group.specs.Views.{bit, fresh_row, IsRising}
use Rattle.host_group.specs.Tallies.{Tally, nothing, both, tally_of}
use Rattle.host_log.specs.Sums.{fold}
use Rattle.host_group.specs.Ends.{closers_of}

abbrev pub empty_cell : PlainCell
empty_cell =
    record {
      members = 0;
      unsettled = 0;
      closed = false;
      index = 0;
      reqid = 0;
      error = no_failure;
      device_front = 0;
      memory_front = 0;
    }

-- the cell of a number
abbrev pub plain_cell : ℕ → PlainCells → PlainCell
plain_cell g p = get_or p.cells g empty_cell

abbrev pub added_cell : PlainCell → ℕ → ℕ → Bool → PlainCell
added_cell c index reqid last =
    record {
      members = c.members + 1;
      unsettled = c.unsettled + 1;
      closed = last;
      index = index;
      reqid = reqid;
      error = c.error;
      device_front = c.device_front;
      memory_front = c.memory_front;
    }

abbrev pub settled_cell : PlainCell → ℕ → ℕ → ℕ → PlainCell
settled_cell c word device_front memory_front =
    record {
      members = c.members;
      unsettled = c.unsettled - 1;
      closed = c.closed;
      index = c.index;
      reqid = c.reqid;
      error = min c.error word;
      device_front = max c.device_front device_front;
      memory_front = max c.memory_front memory_front;
    }

abbrev pub cell_end : PlainCell → GroupEnd
cell_end c =
    record {
      status = status_of c.error;
      count = c.members;
      reqid = c.reqid;
      index = c.index;
      device_front = c.device_front;
      memory_front = c.memory_front;
    }

-- what these rows come to
abbrev pub whole : List Row → Tally
whole rows = fold both nothing tally_of rows

-- the cell has come to what rows come to
pub record HasCome (c : PlainCell) (t : Tally) : Type 0 where
  pub members : c.members ≡ t.rows
  pub unsettled : c.unsettled ≡ t.unsettled
  pub closed : bit c.closed ≡ t.closers
  pub error : c.error ≡ t.error
  pub device_front : c.device_front ≡ t.device_front
  pub memory_front : c.memory_front ≡ t.memory_front
  pub closing : c.closed ≡ true → (c.index + 2 ^ 32 * c.reqid ≡ t.closing) × (c.index < 2 ^ 32)

-- these are the rows of the number's current instance, in the order in which its members were
-- admitted
pub record HasRows (g : ℕ) (p : PlainCells) (rows : List Row) : Type 0 where
  pub rising : IsRising (map (λ r. r.member) rows) 0 p.next
  pub bound : p.next < 2 ^ 32
  pub come : HasCome (plain_cell g p) (whole rows)

-- the i-th row is that of the member with this index, which hasn't settled
abbrev pub IsRowWaiting : List Row → ℕ → ℕ → Row → Type 0
IsRowWaiting rows i index r =
    (get_elem? rows i ≡ some r) × (r ≡ fresh_row r.member) × (r.member.index ≡ index)

-- the row, once its member has settled
abbrev pub settled_row : Row → Status → ℕ → ℕ → Row
settled_row r status device_front memory_front =
    record r {
      progress = Passed;
      status = status;
      device_front = device_front;
      memory_front = memory_front;
    }

-- some member of the instance hasn't settled, or none closes it
abbrev pub IsGoingOn : List Row → Type 0
IsGoingOn rows = (0 < (whole rows).unsettled) ⊎ (closers_of rows ≡ [])
