-- Lists that count, logs that end, and answers due at each prefix, as the judge goes along them.
use Rattle.std.specs.Prelude.{ℕ, ◌+◌, Bool, true, false, ◌==◌, ◌&&◌, if◌then◌else◌, List, [], ◌∷◌}
use Rattle.host_record.specs.declared.finish.Finish.{Finish}
use Rattle.host_record.specs.declared.finish.Finish.TheVariants.{Drain, Abort}
use Rattle.host_model.specs.declared.event.Event.{Event}
use Rattle.host_model.specs.declared.event.Event.TheVariants.{Drained, Aborted}
use Rattle.host_model.specs.Lists.{is_nil}
use Rattle.host_model.specs.Taking.{is_end}

-- whether the numbers are n, n + 1 and so on
abbrev pub counts_from : ℕ → List ℕ → Bool
counts_from n [] = true
counts_from n (x ∷ xs) = x == n && counts_from (n + 1) xs

abbrev pub is_end_for : Finish → Event → Bool
is_end_for Drain Drained = true
is_end_for Abort Aborted = true
is_end_for _ _ = false

-- whether the log has one end, its last event
abbrev pub ends_as : Finish → List Event → Bool
ends_as finish [] = false
ends_as finish (e ∷ log) =
    if is_end e then is_nil log && is_end_for finish e else ends_as finish log
