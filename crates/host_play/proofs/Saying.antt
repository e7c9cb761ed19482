-- A script that can be said, within its limits, can be played.
use Rattle.std.proofs.Common.{◌≡◌, ℕ, zero, suc, ◌*◌, ◌≤◌, Bool, true, false, ◌&&◌, cond, List, [], ◌∷◌, ◌++◌, length, map, All, Some, None, refl, sym, ap, subst, ◌∙◌, arith}
use Rattle.std.specs.Prelude.{nat_le, nat_lt, slice_get}
use Rattle.std.specs.List.{list_all, list_any, sum_by}
use Rattle.std.proofs.lemmas.List.{length-map}
use Rattle.std.proofs.lemmas.List.Elements.{All-cons, All-nil}
use Rattle.std.proofs.lemmas.Bool.{ltb-false}
use Rattle.script_model.proofs.PrintedValues.{and_true, le_from}
use Rattle.script_model.specs.{Sessions, Records, Moved, ScriptLine, Attach, Fill, Show, Send, WaitAll, WaitFor, SessionScript, has_many_records, limit_of, moved_by_lines, owed, can_be_said, fits_line, fits_lines, fits_plan, is_between, PlannedSession, plan_of}
use Rattle.host_worker.proofs.Lists.{each_place, map_at}
use Rattle.host_play.specs.{CanPlay, record_count, FitsShow, AreSessionsPlayable}
use Rattle.host_log.proofs.Bools.{or_parts}

between : (low high n : ℕ) → is_between low high n ≡ true → (low ≤ n) × (n ≤ high)
between low high n h = let parts = and_true (nat_le low n) (nat_le n high) h in (le_from low n parts.0, le_from n high parts.1)

line_fits : (answers : ℕ) (line : ScriptLine) → fits_line answers line ≡ true → CanPlay line × FitsShow line
line_fits answers (Attach pages) h = (between 1 4096 pages h, tt)
line_fits answers (Fill id block count byte) h = (tt, tt)
line_fits answers (Show id block count) h =
    let rest = and_true (is_between 0 65535 id) (is_between 0 65535 block && is_between 1 4096 count) h in
    let last = and_true (is_between 0 65535 block) (is_between 1 4096 count) rest.1 in
    (tt, (between 1 4096 count last.1).1)
line_fits answers (Send bytes) h = (tt, tt)
line_fits answers WaitAll h = (tt, tt)
line_fits answers (WaitFor total) h = (tt, tt)

lines_fit : (before lines : List ScriptLine) → fits_lines before lines ≡ true → All CanPlay lines × All FitsShow lines
lines_fit before [] h = (All-nil CanPlay, All-nil FitsShow)
lines_fit before (line ∷ lines) h =
    let parts = and_true (fits_line (owed before) line) (fits_lines (before ++ line ∷ []) lines) h in
    let one = line_fits (owed before) line parts.0 in
    let rest = lines_fit (before ++ line ∷ []) lines parts.1 in
    (All-cons CanPlay line lines one.0 rest.0, All-cons FitsShow line lines one.1 rest.1)

plan_fits : (plans : List PlannedSession) → can_be_said plans ≡ true → (k : ℕ) (plan : PlannedSession) → slice_get plans k ≡ Some plan → All CanPlay plan.lines × All FitsShow plan.lines
plan_fits [] h k plan at = absurd (cc at)
plan_fits (p ∷ plans) h zero plan at =
    let parts = and_true (fits_plan p) (list_all fits_plan plans) h in
    let lines = and_true (is_between 1 1024 p.part) (fits_lines [] p.lines) parts.0 in
    let same : p ≡ plan = cc at in
    subst (λ (q : PlannedSession). All CanPlay q.lines × All FitsShow q.lines) same (lines_fit [] p.lines lines.1)
plan_fits (p ∷ plans) h (suc k) plan at = plan_fits plans (and_true (fits_plan p) (list_all fits_plan plans) h).1 k plan at

-- ---- limits

few_in : (size : ℕ) (plans : List PlannedSession) → limit_of size plans ≡ None → (length plans ≤ 16) × (list_any (λ s. has_many_records s.lines) plans ≡ false)
unfolding limit_of
few_in size plans h = by (nat_lt 16 (length plans)) refl h
  where
    by : (b : Bool) → nat_lt 16 (length plans) ≡ b
        → cond b (Some Sessions) (cond (list_any (λ (s : PlannedSession). has_many_records s.lines) plans) (Some Records) (cond (nat_lt 134217728 (size * sum_by (λ (s : PlannedSession). moved_by_lines s.lines) plans)) (Some Moved) None)) ≡ None
        → (length plans ≤ 16) × (list_any (λ s. has_many_records s.lines) plans ≡ false)
    by true e h = absurd (cc h)
    by false e h = (ltb-false 16 (length plans) e, on (list_any (λ (s : PlannedSession). has_many_records s.lines) plans) h)
      where
        on : (c : Bool) → cond c (Some Records) (cond (nat_lt 134217728 (size * sum_by (λ (s : PlannedSession). moved_by_lines s.lines) plans)) (Some Moved) None) ≡ None → c ≡ false
        on true h = absurd (cc h)
        on false h = refl

none_any : (p : PlannedSession → Bool) (plans : List PlannedSession) → list_any p plans ≡ false → (k : ℕ) (plan : PlannedSession) → slice_get plans k ≡ Some plan → p plan ≡ false
none_any p [] h k plan at = absurd (cc at)
none_any p (q ∷ plans) h zero plan at = let same : q ≡ plan = cc at in ap p (sym same) ∙ (or_parts (p q) (list_any p plans) h).0
none_any p (q ∷ plans) h (suc k) plan at = none_any p plans (or_parts (p q) (list_any p plans) h).1 k plan at

few_records : (lines : List ScriptLine) → has_many_records lines ≡ false → record_count lines ≤ 65535
unfolding has_many_records
few_records lines h = ltb-false 65535 (record_count lines) h

pub is_playable : (size : ℕ) (sessions : List SessionScript) → can_be_said (map plan_of sessions) ≡ true → limit_of size (map plan_of sessions) ≡ None → AreSessionsPlayable sessions
is_playable size sessions said within =
    let plans = map plan_of sessions in
    let limits = few_in size plans within in
    record {
      few = let n = length-map sessions plan_of in omega (arith, limits.0, n);
      records = each_place (λ (s : SessionScript). record_count s.lines.items ≤ 65535) sessions (λ k s at. few_records s.lines.items (none_any (λ p. has_many_records p.lines) plans limits.1 k (plan_of s) (map_at plan_of sessions k s at)));
      lines = each_place (λ (s : SessionScript). All CanPlay s.lines.items) sessions (λ k s at. (plan_fits plans said k (plan_of s) (map_at plan_of sessions k s at)).0);
      shows = each_place (λ (s : SessionScript). All FitsShow s.lines.items) sessions (λ k s at. (plan_fits plans said k (plan_of s) (map_at plan_of sessions k s at)).1);
    }
