-- What the rows of one instance come to.
use Rattle.std.specs.Prelude.{ℕ, ◌+◌, ◌/◌, List, Bool, true, false, min, max}
use Rattle.host_group.specs.declared.view.View.{View}
use Rattle.host_group.specs.declared.view.Row.{Row}
use Rattle.host_group.specs.declared.view.Member.{Member}
use Rattle.host_group.specs.declared.view.Stage.{Stage}
use Rattle.host_group.specs.declared.view.Stage.TheVariants.{Resting, Looked, Placed, Added, Right}
use Rattle.host_group.specs.declared.view.Stage.TheVariants.{Spent}
use Rattle.host_group.specs.declared.view.Progress.{Progress}
use Rattle.host_group.specs.declared.view.Progress.TheVariants.{Unsettled, Last, TookError}
use Rattle.host_group.specs.declared.view.Progress.TheVariants.{TookDeviceFront, TookMemoryFront}
use Rattle.host_group.specs.declared.view.Progress.TheVariants.{TookClosing, Ended, Passed}
use Rattle.host_group.specs.Failures.{no_failure, failure_word}
use Rattle.host_group.specs.Views.{bit, where_in, name_of}
use Rattle.host_log.specs.Sums.{fold, total}

pub record Tally : Type 0 where
  pub rows : ℕ
  pub unsettled : ℕ
  -- rows that are to take the words out, and those that did
  pub ending : ℕ
  pub ended : ℕ
  -- closing members, and their names
  pub closers : ℕ
  pub closing : ℕ
  -- what was put into the words
  pub error : ℕ
  pub device_front : ℕ
  pub memory_front : ℕ
  -- how many words an ending row has taken out
  pub error_out : ℕ
  pub device_front_out : ℕ
  pub memory_front_out : ℕ
  pub closing_out : ℕ
  -- what was taken out
  pub end_error : ℕ
  pub end_device_front : ℕ
  pub end_memory_front : ℕ
  pub end_closing : ℕ
  -- how many members the last one found
  pub end_count : ℕ

abbrev pub nothing : Tally
nothing = record {
  rows = 0;
  unsettled = 0;
  ending = 0;
  ended = 0;
  closers = 0;
  closing = 0;
  error = no_failure;
  device_front = 0;
  memory_front = 0;
  error_out = 0;
  device_front_out = 0;
  memory_front_out = 0;
  closing_out = 0;
  end_error = 0;
  end_device_front = 0;
  end_memory_front = 0;
  end_closing = 0;
  end_count = 0;
}

-- numbers add up; of the errors the least counts, and of the fronts the greatest
abbrev pub both : Tally → Tally → Tally
both a b = record {
  rows = a.rows + b.rows;
  unsettled = a.unsettled + b.unsettled;
  ending = a.ending + b.ending;
  ended = a.ended + b.ended;
  closers = a.closers + b.closers;
  closing = a.closing + b.closing;
  error = min a.error b.error;
  device_front = max a.device_front b.device_front;
  memory_front = max a.memory_front b.memory_front;
  error_out = a.error_out + b.error_out;
  device_front_out = a.device_front_out + b.device_front_out;
  memory_front_out = a.memory_front_out + b.memory_front_out;
  closing_out = a.closing_out + b.closing_out;
  end_error = a.end_error + b.end_error;
  end_device_front = a.end_device_front + b.end_device_front;
  end_memory_front = a.end_memory_front + b.end_memory_front;
  end_closing = a.end_closing + b.end_closing;
  end_count = a.end_count + b.end_count;
}

abbrev pub unsettled_of : Progress → ℕ
unsettled_of Unsettled = 1
unsettled_of _ = 0

abbrev pub ending_of : Progress → ℕ
ending_of Last = 1
ending_of TookError = 1
ending_of TookDeviceFront = 1
ending_of TookMemoryFront = 1
ending_of TookClosing = 1
ending_of _ = 0

abbrev pub ended_of : Progress → ℕ
ended_of Ended = 1
ended_of _ = 0

abbrev pub error_out_of : Progress → ℕ
error_out_of TookError = 1
error_out_of TookDeviceFront = 1
error_out_of TookMemoryFront = 1
error_out_of TookClosing = 1
error_out_of _ = 0

abbrev pub device_front_out_of : Progress → ℕ
device_front_out_of TookDeviceFront = 1
device_front_out_of TookMemoryFront = 1
device_front_out_of TookClosing = 1
device_front_out_of _ = 0

abbrev pub memory_front_out_of : Progress → ℕ
memory_front_out_of TookMemoryFront = 1
memory_front_out_of TookClosing = 1
memory_front_out_of _ = 0

abbrev pub closing_out_of : Progress → ℕ
closing_out_of TookClosing = 1
closing_out_of _ = 0

-- what an end tells counts from the last subtraction on
abbrev pub told_number : Progress → ℕ → ℕ
told_number Unsettled n = 0
told_number Passed n = 0
told_number _ n = n

abbrev pub if_last : Bool → ℕ → ℕ
if_last true n = n
if_last false n = 0

-- what one row comes to
abbrev pub tally_of : Row → Tally
tally_of r = record {
  rows = 1;
  unsettled = unsettled_of r.progress;
  ending = ending_of r.progress;
  ended = ended_of r.progress;
  closers = bit r.member.last;
  closing = if_last r.member.last (name_of r.member);
  error = failure_word r.member.index r.status;
  device_front = r.device_front;
  memory_front = r.memory_front;
  error_out = error_out_of r.progress;
  device_front_out = device_front_out_of r.progress;
  memory_front_out = memory_front_out_of r.progress;
  closing_out = closing_out_of r.progress;
  end_error = told_number r.progress r.end_error;
  end_device_front = told_number r.progress r.end_device_front;
  end_memory_front = told_number r.progress r.end_memory_front;
  end_closing = told_number r.progress r.end_closing;
  end_count = told_number r.progress (r.found / 256);
}

-- the same, where the row is of the instance j of the number g
abbrev pub row_tally : ℕ → ℕ → Row → Tally
row_tally g j r = where_in g j r.member (tally_of r) nothing

abbrev pub rows_tally : ℕ → ℕ → List Row → Tally
rows_tally g j rs = fold both nothing (row_tally g j) rs

-- what a view's rows come to, by its stage. A row whose right is out stands in the right's view
abbrev pub tally_at : ℕ → ℕ → View → Stage → Tally
tally_at g j v Resting = rows_tally g j v.back
tally_at g j v Looked = rows_tally g j v.back
tally_at g j v Placed = rows_tally g j v.back
tally_at g j v Added = both (row_tally g j v.row) (rows_tally g j v.back)
tally_at g j v Right = row_tally g j v.row
tally_at g j v Spent = nothing

abbrev pub view_tally : ℕ → ℕ → View → Tally
view_tally g j v = tally_at g j v v.stage

-- what the rows of all views come to
abbrev pub tally : ℕ → ℕ → List View → Tally
tally g j vs = fold both nothing (view_tally g j) vs

-- the members of a view's rows, weighed by φ
abbrev pub weight_at : (Member → ℕ) → View → Stage → ℕ
weight_at φ v Resting = total (λ (r : Row). φ r.member) v.back
weight_at φ v Looked = total (λ (r : Row). φ r.member) v.back
weight_at φ v Placed = total (λ (r : Row). φ r.member) v.back
weight_at φ v Added = φ v.row.member + total (λ (r : Row). φ r.member) v.back
weight_at φ v Right = φ v.row.member
weight_at φ v Spent = 0

abbrev pub weight : (Member → ℕ) → View → ℕ
weight φ v = weight_at φ v v.stage
