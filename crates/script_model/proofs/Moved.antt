-- Totals over the sessions of a program's script, and over what they say.
use Rattle.std.proofs.Common.{◌≡◌, List, [], ◌∷◌, map, refl, ap, sym, ◌∙◌, ◌+◌}
use Rattle.std.specs.Prelude.{ℕ, ◌*◌, ◌||◌, nat_lt, if◌then◌else◌, length, Some, None}
use Rattle.std.proofs.Math.ListN.{length-map}
use Rattle.std.specs.List.{list_any, sum_by}
use Rattle.std.proofs.lemmas.List.Sums.{sum_by-cons}
use Rattle.script_model.specs.{SessionScript, PlannedSession, plan_of, has_many_records, moved_by_lines, limit_of, Sessions, Records, Moved}

pub any_of_plans : (sessions : List SessionScript) → list_any (λ s. has_many_records s.lines) (map plan_of sessions) ≡ list_any (λ s. has_many_records s.lines.items) sessions
any_of_plans [] = refl
any_of_plans (s ∷ sessions) = ap (λ b. has_many_records s.lines.items || b) (any_of_plans sessions)

pub sum_of_plans : (sessions : List SessionScript) → sum_by (λ s. moved_by_lines s.lines) (map plan_of sessions) ≡ sum_by (λ s. moved_by_lines s.lines.items) sessions
sum_of_plans [] = refl
sum_of_plans (s ∷ sessions) =
    sum_by-cons (λ (p : PlannedSession). moved_by_lines p.lines) (plan_of s) (map plan_of sessions)
    ∙ ap (λ n. moved_by_lines s.lines.items + n) (sum_of_plans sessions)
    ∙ sym (sum_by-cons (λ (p : SessionScript). moved_by_lines p.lines.items) s sessions)

-- the limit, by what the program's script has
pub limit_by : (size : ℕ) (sessions : List SessionScript) → limit_of size (map plan_of sessions) ≡
    (if nat_lt 16 (length sessions) then Some Sessions
    else if list_any (λ s. has_many_records s.lines.items) sessions then Some Records
    else if nat_lt 134217728 (size * sum_by (λ s. moved_by_lines s.lines.items) sessions) then Some Moved
    else None)
unfolding limit_of
limit_by size sessions = rw (length-map sessions plan_of, any_of_plans sessions, sum_of_plans sessions)
