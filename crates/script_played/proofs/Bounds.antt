-- How many steps and moves the records of a script make at most.
use Rattle.std.proofs.Common.{◌≡◌, ℕ, ◌+◌, ◌*◌, ◌≤◌, Bool, true, false, cond, ◌&&◌, nat_le, List, [], ◌∷◌, map, refl, sym, ap, ◌∙◌, arith, Option, Some, None}
use Rattle.std.specs.Prelude.{if◌then◌else◌}
use Rattle.std.specs.List.{sum_by, count_by}
use Rattle.std.proofs.lemmas.List.Sums.{sum_by-cons}
use Rattle.std.proofs.lemmas.Bool.{leb-true}
use Rattle.host_record.specs.{opcode, is_forced, is_transfer, names_blocks, request_of, Opcode, Read, Write, Flush, Trim, Close}
use Rattle.host_record.specs.declared.request.Request.{Request}
use Rattle.script_model.specs.{ScriptLine, Attach, Fill, Show, Send, WaitAll, WaitFor, SessionScript, is_record, PlannedSession, plan_of}
use Rattle.script_played.specs.{by_record, flush_steps, moves_by_request, steps_by_request, steps_in}

-- ---- one record

within : (b : Bool) (n : ℕ) → nat_le n 65536 ≡ b → (if b then n else 0) ≤ 65536
within true n h = leb-true n 65536 h
within false n h = omega arith

one_if : (b : Bool) → (if b then 1 else 0) ≤ 1
one_if true = omega arith
one_if false = omega arith

pub few_steps : (o : Option Opcode) (n : ℕ) (forced : Bool) → (if names_blocks o && nat_le n 65536 then n else 0) + flush_steps o forced ≤ 65537
few_steps None n forced = omega arith
few_steps (Some Read) n forced = let h = within (nat_le n 65536) n refl in omega (arith, h)
few_steps (Some Write) n forced = let h = within (nat_le n 65536) n refl in let one = one_if forced in omega (arith, h, one)
few_steps (Some Trim) n forced = let h = within (nat_le n 65536) n refl in omega (arith, h)
few_steps (Some Flush) n forced = omega arith
few_steps (Some Close) n forced = omega arith

pub few_moves : (o : Option Opcode) (n : ℕ) → (if is_transfer o && nat_le n 65536 then n else 0) ≤ 65536
few_moves None n = omega arith
few_moves (Some Read) n = within (nat_le n 65536) n refl
few_moves (Some Write) n = within (nat_le n 65536) n refl
few_moves (Some Trim) n = omega arith
few_moves (Some Flush) n = omega arith
few_moves (Some Close) n = omega arith

-- ---- the lines of a session

of_line : (f : Request → ℕ) → ((r : Request) → f r ≤ 65537) → (line : ScriptLine) → by_record f line ≤ 65537 * cond (is_record line) 1 0
of_line f few (Send bytes) = few (request_of bytes)
of_line f few (Attach pages) = omega arith
of_line f few (Fill id block count byte) = omega arith
of_line f few (Show id block count) = omega arith
of_line f few WaitAll = omega arith
of_line f few (WaitFor total) = omega arith

at_most : (f : Request → ℕ) → ((r : Request) → f r ≤ 65537) → (lines : List ScriptLine) → sum_by (by_record f) lines ≤ 65537 * count_by is_record lines
at_most f few [] = omega arith
at_most f few (line ∷ lines) =
    let here = of_line f few line in
    let rest = at_most f few lines in
    let a = sum_by-cons (by_record f) line lines in
    let b = sum_by-cons (λ (l : ScriptLine). cond (is_record l) 1 0) line lines in
    omega (arith, here, rest, a, b)

pub steps_fit : (lines : List ScriptLine) → count_by is_record lines ≤ 65535 → sum_by (by_record steps_by_request) lines ≤ 65537 * 65535
steps_fit lines few = let h = at_most steps_by_request (λ r. few_steps (opcode r) r.length (is_forced r)) lines in omega (arith, h, few)

pub moves_fit : (lines : List ScriptLine) → count_by is_record lines ≤ 65535 → sum_by (by_record moves_by_request) lines ≤ 65537 * 65535
moves_fit lines few = let h = at_most moves_by_request (λ r. let h = few_moves (opcode r) r.length in omega (arith, h)) lines in omega (arith, h, few)

-- ---- the sessions of a script

pub steps_of_plans : (sessions : List SessionScript) → sum_by (λ s. steps_in s.lines) (map plan_of sessions) ≡ sum_by (λ s. steps_in s.lines.items) sessions
steps_of_plans [] = refl
steps_of_plans (s ∷ sessions) =
    sum_by-cons (λ (p : PlannedSession). steps_in p.lines) (plan_of s) (map plan_of sessions)
    ∙ ap (λ n. steps_in s.lines.items + n) (steps_of_plans sessions)
    ∙ sym (sum_by-cons (λ (p : SessionScript). steps_in p.lines.items) s sessions)
