-- How a step moves the disk's count of faults.
use Rattle.std.proofs.Common.{◌≡◌, ℕ, ◌+◌, ◌≤◌, refl, Result, Ok, Err, List, [], ◌++◌, sym, subst, cond, arith}
use Rattle.std.specs.Prelude.{IsErrOf}
use Rattle.std.proofs.lemmas.List.Sums.{sum_by-append}
use Rattle.host_block.specs.{Op}
use Rattle.host_io.specs.{Rose}
use Rattle.host_model.specs.{Step}
use Rattle.host_device.specs.{StepError, Fault, Oom, step_made, entries_added, faulted_count, RoseBy}

rose_same : (n start before now : ℕ) → RoseBy n start before → before ≤ now → RoseBy n start now
rose_same n start before now rose later = omega arith

rose_more : (n start before now : ℕ) → RoseBy n start before → Rose before now → RoseBy (n + 1) start now
rose_more n start before now rose more = omega arith

faulted_count-append : (xs ys : List Step) → faulted_count (xs ++ ys) ≡ faulted_count xs + faulted_count ys
faulted_count-append xs ys = sum_by-append (λ (step : Step). cond step.faulted 1 0) xs ys

pub faults_step : (hand session index k : ℕ) (op : Op) (b : ℕ) (given : List ℕ) (answer : Result Unit StepError) (steps : List Step) (start before now : ℕ)
    → RoseBy (faulted_count steps) start before → before ≤ now → (IsErrOf answer Fault → Rose before now) → RoseBy (faulted_count (steps ++ entries_added answer (step_made hand session index k op b given))) start now
faults_step hand session index k op b given (Ok x) steps start before now rose later fault =
    let n : faulted_count (steps ++ entries_added (Ok x) (step_made hand session index k op b given)) ≡ faulted_count steps + 0 = faulted_count-append steps _ in
    rose_same (faulted_count (steps ++ entries_added (Ok x) (step_made hand session index k op b given))) start before now (omega (arith, rose, n)) later
faults_step hand session index k op b given (Err Fault) steps start before now rose later fault =
    let n : faulted_count (steps ++ entries_added (Err Fault) (step_made hand session index k op b given)) ≡ faulted_count steps + 1 = faulted_count-append steps _ in
    subst (λ (m : ℕ). RoseBy m start now) (sym n) (rose_more (faulted_count steps) start before now rose (fault refl))
faults_step hand session index k op b given (Err Oom) steps start before now rose later fault =
    let n : faulted_count (steps ++ []) ≡ faulted_count steps + 0 = faulted_count-append steps [] in
    subst (λ (m : ℕ). RoseBy m start now) (sym n) (rose_same (faulted_count steps + 0) start before now (omega (arith, rose)) later)
