-- How the faults of a history show in the disk's count.
use Rattle.std.specs.Prelude.{ℕ, ◌+◌, ◌-◌, ◌^◌, ◌≤◌, min, max, List, count_by}
use Rattle.host_model.specs.declared.step.Step.{Step}

-- how many of these steps failed
abbrev pub faulted_count : List Step → ℕ
faulted_count steps = count_by (λ step. step.faulted) steps

-- the count rose so many times at least, or stands at its last value
abbrev pub RoseBy : ℕ → ℕ → ℕ → Type 0
RoseBy n before now = max before (min (before + n) (2 ^ 64 - 1)) ≤ now
