-- The histories of a lawful run fit into the room that its script asks for.
use Rattle.std.proofs.Common.{◌≡◌, ℕ, suc, ◌+◌, ◌≤◌, ◌<◌, Bool, true, false, cond, not, ◌&&◌, ◌==◌, nat_le, nat_lt, List, [], ◌∷◌, ◌++◌, length, map, filter, filter_map, take, refl, sym, ap, subst, ◌∙◌, arith, IsFalse, Option, Some, None, length-append, ltb-true}
use Rattle.std.specs.Bool.{then_some}
use Rattle.std.specs.List.{AllByRecursion, AllZip, cons_option, range_with_len, sum_by}
use Rattle.std.proofs.lemmas.Bool.{eq-eqb, leb-true}
use Rattle.std.proofs.lemmas.List.{length-map}
use Rattle.std.proofs.lemmas.List.Elements.{filter-append}
use Rattle.std.proofs.lemmas.List.FromFn.{length-map-range_with_len}
use Rattle.std.proofs.lemmas.List.Sums.{sum_by-cons}
use Rattle.host_block.specs.declared.range.Range.{Range}
use Rattle.host_block.specs.{Op}
use Rattle.host_block.specs.declared.op.Op.TheVariants as op
use Rattle.host_record.specs.{opcode, is_forced, is_transfer, names_blocks, request_of, Finish, Drain, Abort, Opcode, Read, Write, Flush, Trim, Close}
use Rattle.host_record.specs.declared.request.Request.{Request}
use Rattle.host_record.specs.declared.status.Status.{Status}
use Rattle.host_record.specs.declared.status.Status.TheVariants as status
use Rattle.host_model.specs.{Event, Received, Drained, Aborted, MemEvent, Lift, Land, Pin, Done, Step, Accepted, Refused, Ask, asked, asked_by, asked_in, carries_out, ended, flush_after, flush_ask, for_each_block, is_step_for, outcome_of, same_op, steps_of, IsLawfulSession, IsByFirstCheck, below, count, is_nil, request_at, requests, sent, sent_bytes, entries_for, entries_of, entries_owed, land_for, lift_at, lift_for, names_taken, spare, writes_of, row_at, checks, judged}
use Rattle.host_model.specs.declared.memory.MemEvent.TheVariants as mem
use Rattle.host_model.specs.declared.verdict.Verdict.{Verdict}
use Rattle.host_model.specs.Session.{Session}
use Rattle.host_model.proofs.Checks.{first_check_decides}
use Rattle.host_model.proofs.Inside.{row_verdict}
use Rattle.host_model.proofs.ListTests.{both}
use Rattle.host_report.specs.{Closing, Good, Fault, Cut, NoMemory, Report, SessionReport, closing_steps, is_of_sessions, session_of, IsPlayedBy, are_calls_for, calls_asked, calls_in, is_call_for, is_end_of}
use Rattle.host_report.specs.Played as played
use Rattle.script_model.specs.{ScriptLine, Attach, Fill, Show, Send, WaitAll, WaitFor, PlannedSession}
use Rattle.script_played.specs.{HistoriesFit, ask_of, asked_of, by_record, flush_steps, is_move, moves_by_request, moves_in, steps_ahead, steps_by_request, steps_in}
use Rattle.script_played.proofs.Counting.{all_left, at_most_each, counted, filter_few, of_map, of_places}
use Rattle.script_played.proofs.Owing.{asked_bytes, call_sends}

-- ---- the steps of one record

only_not : (a b : Bool) → a && not b ≡ false → a ≡ true → b ≡ true
only_not true true e f = refl
only_not true false e f = absurd (cc e)
only_not false b e f = absurd (cc f)

-- an accepted request on blocks has at most 65,536
few_of : (range : Range) (pages : Option ℕ) (r : Request) → judged range pages r ≡ Accepted → names_blocks (opcode r) ≡ true → nat_le r.length 65536 ≡ true
few_of range pages r e on =
    let passed : AllByRecursion (λ (check : Bool × Status). IsFalse check.0) (checks range pages r) = subst (λ (v : Verdict). IsByFirstCheck (checks range pages r) v) e (first_check_decides range pages r) in
    (both (nat_le 1 r.length) (nat_le r.length 65536) (only_not (names_blocks (opcode r)) (nat_le 1 r.length && nat_le r.length 65536) passed.1.1.1.0 on)).1

-- a forced write has one flush
length-flush : (forced : Bool) (k : ℕ) → length (cond forced (flush_ask k ∷ []) []) ≡ cond forced 1 0
length-flush true k = refl
length-flush false k = refl

few_asked : (range : Range) (r : Request) (o : Option Opcode) → (names_blocks o ≡ true → nat_le r.length 65536 ≡ true) → length (asked_by o range r) ≤ cond (names_blocks o && nat_le r.length 65536) r.length 0 + flush_steps o (is_forced r)
few_asked range r (Some Read) few = let n = length-map-range_with_len (λ (k : ℕ). let a : Ask = record { k = k; op = op.Read; block = range.first + r.dev_offset + k } in a) 0 r.length in
    let f : cond (nat_le r.length 65536) r.length 0 ≡ r.length = ap (λ b. cond b r.length 0) (few refl) in omega (arith, n, f)
few_asked range r (Some Write) few = let n = length-map-range_with_len (λ (k : ℕ). let a : Ask = record { k = k; op = op.Write; block = range.first + r.dev_offset + k } in a) 0 r.length in
    let f : cond (nat_le r.length 65536) r.length 0 ≡ r.length = ap (λ b. cond b r.length 0) (few refl) in
    let whole = length-append (for_each_block op.Write range r) (flush_after r) in
    let last = length-flush (is_forced r) r.length in
    omega (arith, n, f, whole, last)
few_asked range r (Some Trim) few = let n = length-map-range_with_len (λ (k : ℕ). let a : Ask = record { k = k; op = op.Trim; block = range.first + r.dev_offset + k } in a) 0 r.length in
    let f : cond (nat_le r.length 65536) r.length 0 ≡ r.length = ap (λ b. cond b r.length 0) (few refl) in omega (arith, n, f)
few_asked range r (Some Flush) few = omega arith
few_asked range r (Some Close) few = omega arith
few_asked range r None few = omega arith

record_asks : (range : Range) (pages : Option ℕ) (r : Request) (v : Verdict) → judged range pages r ≡ v → length (asked v range r) ≤ steps_by_request r
record_asks range pages r Accepted e = few_asked range r (opcode r) (few_of range pages r e)
record_asks range pages r (Refused s) e = omega arith

rest_few : (asks : List Ask) (steps : List Step) (faulted : Bool) → cond faulted (is_nil steps) (carries_out asks steps) ≡ true → (carries_out asks steps ≡ true → length steps ≤ length asks) → length steps ≤ length asks
rest_few asks [] faulted e h = omega arith
rest_few asks (step ∷ steps) true e h = absurd (cc e)
rest_few asks (step ∷ steps) false e h = h e

few_made : (asks : List Ask) (steps : List Step) → carries_out asks steps ≡ true → length steps ≤ length asks
few_made asks [] e = omega arith
few_made [] (step ∷ steps) e = absurd (cc e)
few_made (ask ∷ asks) (step ∷ steps) e =
    let rest = rest_few asks steps step.faulted (both (is_step_for ask step) (cond step.faulted (is_nil steps) (carries_out asks steps)) e).1 (few_made asks steps) in
    omega (arith, rest)

record_steps : (s : Session) → IsLawfulSession s → (i : ℕ) → i < length s.rows → length (steps_of i s.steps) ≤ steps_by_request (request_at (requests s.log) i)
record_steps s h i p =
    let made = few_made (asked_in s i) (steps_of i s.steps) (h.carried.each i p).steps in
    let asks = record_asks s.range _ (request_at (requests s.log) i) (row_at s.rows i).verdict (sym (row_verdict s h i p)) in
    omega (arith, made, asks)

-- ---- the steps of a session

few_taken : (s : Session) → IsLawfulSession s → length s.rows ≤ length (requests s.log)
few_taken s h = let n = length-map (sent s.log) request_of in omega (arith, n, h.taken.only_sent)

-- what is counted for each record taken is within what the requests give
of_records : (s : Session) → IsLawfulSession s → (f : ℕ → ℕ) (g : Request → ℕ) → ((i : ℕ) → i < length s.rows → f i ≤ g (request_at (requests s.log) i)) → sum_by f (below (length s.rows)) ≤ sum_by g (requests s.log)
of_records s h f g each =
    let a = at_most_each f (λ i. g (request_at (requests s.log) i)) 0 (length s.rows) (λ v p. each v (omega (arith, p))) in
    let b = of_places g (request_of []) (λ i. request_at (requests s.log) i) 0 (length s.rows) (requests s.log) (λ j p. let same : 0 + j ≡ j = omega arith in ap (λ i. request_at (requests s.log) i) same) (few_taken s h) in
    omega (arith, a, b)

session_steps : (s : Session) → IsLawfulSession s → length s.steps ≤ sum_by steps_by_request (requests s.log)
session_steps s h =
    let inside = λ (step : Step). nat_lt step.index (length s.rows) in
    let all : length (filter (λ step. true && inside step) s.steps) ≡ length (filter (λ step. true) s.steps) = all_left (λ step. true) inside s.steps h.carried.others in
    let whole : length (filter (λ (step : Step). true) s.steps) ≡ length s.steps = kept s.steps in
    let each = counted (λ (step : Step). true && inside step) (λ step i. step.index == i) 0 (length s.rows) (λ step p. (step.index, omega arith, omega (arith, ltb-true step.index (length s.rows) p), eq-eqb step.index step.index refl)) s.steps in
    let sum = of_records s h (λ i. length (steps_of i s.steps)) steps_by_request (record_steps s h) in
    omega (arith, all, whole, each, sum)
  where
    kept : (steps : List Step) → length (filter (λ (step : Step). true) steps) ≡ length steps
    kept [] = refl
    kept (step ∷ steps) = ap suc (kept steps)

-- ---- the records of a log that tells of a script

end_sends : (finish : Finish) (e : Event) → is_end_of finish e ≡ true → sent_bytes e ≡ None
end_sends Drain Drained h = refl
end_sends Abort Aborted h = refl
end_sends _ _ h = cc

sent_calls : (log : List Event) → sent (calls_in log) ≡ sent log
sent_calls [] = refl
sent_calls (Received bytes ∷ log) = sent_calls log
sent_calls (e ∷ log) = ap (cons_option (sent_bytes e)) (sent_calls log)

sent_asked : (finish : Finish) (asks : List played.LineAsk) (calls : List Event) → are_calls_for finish asks calls ≡ true → sent calls ≡ filter_map asked_bytes asks
sent_asked finish [] (e ∷ []) h = ap (λ o. cons_option o []) (end_sends finish e h)
sent_asked finish (a ∷ asks) (e ∷ calls) h =
    let p = both (is_call_for a e) (are_calls_for finish asks calls) h in
    ap (λ o. cons_option o (sent calls)) (call_sends a e p.0) ∙ ap (cons_option (asked_bytes a)) (sent_asked finish asks calls p.1)
sent_asked finish _ _ h = absurd (cc h)

of_lines : (f : Request → ℕ) (lines : List ScriptLine) → sum_by f (map request_of (filter_map asked_bytes (calls_asked (map ask_of lines)))) ≡ sum_by (by_record f) lines
of_lines f [] = refl
of_lines f (Send bytes ∷ lines) = omega (arith, of_lines f lines, sum_by-cons f (request_of bytes) (map request_of (filter_map asked_bytes (calls_asked (map ask_of lines)))), sum_by-cons (by_record f) (Send bytes) lines)
of_lines f (Attach pages ∷ lines) = omega (arith, of_lines f lines, sum_by-cons (by_record f) (Attach pages) lines)
of_lines f (Fill id block count byte ∷ lines) = omega (arith, of_lines f lines, sum_by-cons (by_record f) (Fill id block count byte) lines)
of_lines f (Show id block count ∷ lines) = omega (arith, of_lines f lines, sum_by-cons (by_record f) (Show id block count) lines)
of_lines f (WaitAll ∷ lines) = omega (arith, of_lines f lines, sum_by-cons (by_record f) WaitAll lines)
of_lines f (WaitFor total ∷ lines) = omega (arith, of_lines f lines, sum_by-cons (by_record f) (WaitFor total) lines)

of_plan : (f : Request → ℕ) (plan : PlannedSession) (s : SessionReport) → IsPlayedBy (asked_of plan) s → sum_by f (requests s.log.items) ≡ sum_by (by_record f) plan.lines
of_plan f plan s h =
    ap (λ bs. sum_by f (map request_of bs)) (sym (sent_calls s.log.items) ∙ sent_asked plan.finish (calls_asked (map ask_of plan.lines)) (calls_in s.log.items) h.calls)
    ∙ of_lines f plan.lines

-- ---- the lifts and landings of one record

-- the lift or landing is of record i
is_move_of : ℕ → MemEvent → Bool
is_move_of i (Lift index k id block bytes) = index == i
is_move_of i (Land index k id block bytes) = index == i
is_move_of i _ = false

dropped : (b : Bool) (e : MemEvent) (es : List MemEvent) → is_move e ≡ false → length (filter is_move (cons_option (then_some b e) es)) ≡ length (filter is_move es)
dropped true e es h = ap (λ c. length (cond c (e ∷ filter is_move es) (filter is_move es))) h
dropped false e es h = refl

moves_among : (i : ℕ) (memory : List MemEvent) → length (filter (is_move_of i) memory) ≡ length (filter is_move (entries_of i memory))
unfolding is_move_of
moves_among i [] = refl
moves_among i (Lift index k id block bytes ∷ memory) = at (index == i) (moves_among i memory)
  where
    at : (b : Bool) → length (filter (is_move_of i) memory) ≡ length (filter is_move (entries_of i memory)) → length (cond b (Lift index k id block bytes ∷ filter (is_move_of i) memory) (filter (is_move_of i) memory)) ≡ length (filter is_move (cons_option (then_some b (Lift index k id block bytes)) (entries_of i memory)))
    at true h = ap suc h
    at false h = h
moves_among i (Land index k id block bytes ∷ memory) = at (index == i) (moves_among i memory)
  where
    at : (b : Bool) → length (filter (is_move_of i) memory) ≡ length (filter is_move (entries_of i memory)) → length (cond b (Land index k id block bytes ∷ filter (is_move_of i) memory) (filter (is_move_of i) memory)) ≡ length (filter is_move (cons_option (then_some b (Land index k id block bytes)) (entries_of i memory)))
    at true h = ap suc h
    at false h = h
moves_among i (Pin index id by ∷ memory) = moves_among i memory ∙ sym (dropped (index == i) (Pin index id 0) (entries_of i memory) refl)
moves_among i (Done index id ∷ memory) = moves_among i memory ∙ sym (dropped (index == i) (Done index id) (entries_of i memory) refl)
moves_among i (mem.Close index id ∷ memory) = moves_among i memory ∙ sym (dropped (index == i) (mem.Close index id) (entries_of i memory) refl)
moves_among i (e ∷ memory) = moves_among i memory

all_moves : {A : Type 0} (f : A → MemEvent) → ((x : A) → is_move (f x) ≡ true) → (xs : List A) → length (filter is_move (map f xs)) ≡ length xs
all_moves f h [] = refl
all_moves f h (x ∷ xs) = ap (λ b. length (cond b (f x ∷ filter is_move (map f xs)) (filter is_move (map f xs)))) (h x) ∙ ap suc (all_moves f h xs)

-- ---- of the steps of a write those that write

one_more : (b : Bool) (step : Step) (steps : List Step) → length (cond b (step ∷ steps) steps) ≤ suc (length steps)
one_more true step steps = omega arith
one_more false step steps = omega arith

flush_no_write : (o : Op) → same_op o op.Flush ≡ true → same_op o op.Write ≡ false
flush_no_write op.Flush e = refl
flush_no_write op.Read e = refl
flush_no_write op.Trim e = refl
flush_no_write op.Write e = absurd (cc e)

last_part : (a b c : Bool) → (a && b && c) ≡ true → b ≡ true
last_part true true c e = refl
last_part true false c e = absurd (cc e)
last_part false b c e = absurd (cc e)

nothing_after : (faulted : Bool) (steps : List Step) → cond faulted (is_nil steps) (carries_out [] steps) ≡ true → steps ≡ []
nothing_after faulted [] e = refl
nothing_after true (step ∷ steps) e = absurd (cc e)
nothing_after false (step ∷ steps) e = absurd (cc e)

rest_writes : (asks : List Ask) (most : ℕ) (steps : List Step) (faulted : Bool) → cond faulted (is_nil steps) (carries_out asks steps) ≡ true → (carries_out asks steps ≡ true → length (writes_of steps) ≤ most) → length (writes_of steps) ≤ most
rest_writes asks most [] faulted e h = omega arith
rest_writes asks most (step ∷ steps) true e h = absurd (cc e)
rest_writes asks most (step ∷ steps) false e h = h e

-- at most as many as there are blocks; a flush may come after them
few_writes : (blocks : List Ask) (forced : Bool) (n : ℕ) (steps : List Step) → carries_out (blocks ++ cond forced (flush_ask n ∷ []) []) steps ≡ true → length (writes_of steps) ≤ length blocks
few_writes blocks forced n [] e = omega arith
few_writes [] false n (step ∷ steps) e = absurd (cc e)
few_writes [] true n (step ∷ steps) e =
    let p = both (is_step_for (flush_ask n) step) (cond step.faulted (is_nil steps) (carries_out [] steps)) e in
    let none : writes_of (step ∷ steps) ≡ [] =
    ap (λ l. writes_of (step ∷ l)) (nothing_after step.faulted steps p.1)
    ∙ ap (λ b. cond b (step ∷ []) []) (flush_no_write step.op (last_part (step.k == n) (same_op step.op op.Flush) (step.block == 0) p.0)) in
    let few : length (writes_of (step ∷ steps)) ≡ 0 = ap length none in
    omega (arith, few)
few_writes (ask ∷ blocks) forced n (step ∷ steps) e =
    let asks = blocks ++ cond forced (flush_ask n ∷ []) [] in
    let rest = rest_writes asks (length blocks) steps step.faulted (both (is_step_for ask step) (cond step.faulted (is_nil steps) (carries_out asks steps)) e).1 (few_writes blocks forced n steps) in
    let one = one_more (same_op step.op op.Write) step (writes_of steps) in
    omega (arith, rest, one)

take_one : {A : Type 0} (xs : List A) → length (take 1 xs) ≤ 1
take_one [] = omega arith
take_one (x ∷ xs) = omega arith

-- a spare lift is there only where a block is left
lifted_few : (b : Bool) (made writes most : ℕ) (lifts : List MemEvent) → nat_lt made most ≡ b → writes ≤ made → writes ≤ most → writes + length (filter is_move (cond b (take 1 lifts) [])) ≤ most
lifted_few true made writes most lifts e few all =
    let rest = filter_few is_move (take 1 lifts) in
    let one = take_one lifts in
    omega (arith, rest, one, few, ltb-true made most e)
lifted_few false made writes most lifts e few all = omega (arith, all)

spare_few : (st : Status) (i : ℕ) (r : Request) (own : List MemEvent) (steps : List Step) → length (writes_of steps) ≤ r.length
    → length (writes_of steps) + length (filter is_move (spare st (length steps) i r own)) ≤ r.length
spare_few status.NoMemory i r own steps few = lifted_few (nat_lt (length steps) r.length) (length steps) (length (writes_of steps)) r.length (filter_map (lift_at (length steps) i r) own) refl (filter_few (λ (step : Step). same_op step.op op.Write) steps) few
spare_few _ i r own steps few = omega (arith, few)

write_moves : (st : Status) (i : ℕ) (r : Request) (own : List MemEvent) (steps : List Step) → length (writes_of steps) ≤ r.length
    → length (filter is_move (entries_for (Some Write) st i r steps own)) ≤ r.length
write_moves st i r own steps few =
    let lifts = map (λ (step : Step). lift_for i r step.k step.bytes) (writes_of steps) in
    let extra = spare st (length steps) i r own in
    let split : filter is_move ((lifts ++ extra) ++ Done i r.vmoid ∷ []) ≡ (filter is_move lifts ++ filter is_move extra) ++ [] =
    filter-append is_move (lifts ++ extra) (Done i r.vmoid ∷ []) ∙ ap (λ l. l ++ []) (filter-append is_move lifts extra) in
    let a = all_moves (λ (step : Step). lift_for i r step.k step.bytes) (λ step. refl) (writes_of steps) in
    let n = ap length split in
    let m = length-append (filter is_move lifts ++ filter is_move extra) [] in
    let k = length-append (filter is_move lifts) (filter is_move extra) in
    let s = spare_few st i r own steps few in
    omega (arith, n, m, k, a, s)

read_moves : (st : Status) (i : ℕ) (r : Request) (own : List MemEvent) (asks : List Ask) (steps : List Step) → carries_out asks steps ≡ true
    → length (filter is_move (entries_for (Some Read) st i r steps own)) ≤ length asks
read_moves st i r own asks steps c =
    let good = filter (λ (step : Step). not step.faulted) steps in
    let lands = map (λ (step : Step). land_for i r step.k step.bytes) good in
    let n = ap length (filter-append is_move lands (Done i r.vmoid ∷ [])) in
    let m = length-append (filter is_move lands) [] in
    let a = all_moves (λ (step : Step). land_for i r step.k step.bytes) (λ step. refl) good in
    let few = filter_few (λ (step : Step). not step.faulted) steps in
    omega (arith, n, m, a, few, few_made asks steps c)

moves_owed : (o : Option Opcode) (range : Range) (st : Status) (i : ℕ) (r : Request) (own : List MemEvent) (steps : List Step) → (names_blocks o ≡ true → nat_le r.length 65536 ≡ true)
    → st ≡ ended (asked_by o range r) steps → carries_out (asked_by o range r) steps ≡ true
    → length (filter is_move (entries_for o st i r steps own)) ≤ cond (is_transfer o && nat_le r.length 65536) r.length 0
moves_owed (Some Read) range st i r own steps few e c =
    let h = read_moves st i r own (asked_by (Some Read) range r) steps c in
    let n = few_asked range r (Some Read) few in
    omega (arith, h, n)
moves_owed (Some Write) range st i r own steps few e c =
    let blocks = length-map-range_with_len (λ (k : ℕ). let a : Ask = record { k = k; op = op.Write; block = range.first + r.dev_offset + k } in a) 0 r.length in
    let writes = few_writes (for_each_block op.Write range r) (is_forced r) r.length steps c in
    let h = write_moves st i r own steps (omega (arith, blocks, writes)) in
    let f : cond (nat_le r.length 65536) r.length 0 ≡ r.length = ap (λ b. cond b r.length 0) (few refl) in
    omega (arith, h, f)
moves_owed (Some Trim) range st i r own steps few e c = omega arith
moves_owed (Some Flush) range st i r own steps few e c = omega arith
moves_owed (Some Close) range st i r own steps few e c = omega arith
moves_owed None range st i r own steps few e c = omega arith

record_owes : (range : Range) (pages : Option ℕ) (v : Verdict) (st : Status) (i : ℕ) (r : Request) (own : List MemEvent) (steps : List Step) → judged range pages r ≡ v
    → st ≡ outcome_of v (asked v range r) steps → carries_out (asked v range r) steps ≡ true
    → length (filter is_move (entries_owed v st i r steps own)) ≤ moves_by_request r
record_owes range pages Accepted st i r own steps e o c = moves_owed (opcode r) range st i r own steps (few_of range pages r e) o c
record_owes range pages (Refused status) st i r own steps e o c = omega arith

record_moves : (s : Session) → IsLawfulSession s → (i : ℕ) → i < length s.rows → length (filter (is_move_of i) s.memory) ≤ moves_by_request (request_at (requests s.log) i)
record_moves s h i p =
    let row = row_at s.rows i in
    let own = entries_of i s.memory in
    let steps = steps_of i s.steps in
    let r = request_at (requests s.log) i in
    let owed = record_owes s.range _ row.verdict row.outcome i r own steps (sym (row_verdict s h i p)) (h.carried.each i p).outcome (h.carried.each i p).steps in
    let is : length (filter is_move own) ≡ length (filter is_move (entries_owed row.verdict row.outcome i r steps own)) = ap (λ l. length (filter is_move l)) (h.buffers.records.each i p) in
    omega (arith, moves_among i s.memory, is, owed)

-- ---- the lifts and landings of a session

-- a move of a record that was taken is of one of these
move_found : (n : ℕ) (e : MemEvent) → is_move e && names_taken n e ≡ true → (i : ℕ) × (0 ≤ i) × (i < 0 + n) × (is_move_of i e ≡ true)
unfolding is_move_of
move_found n (Lift index k id block bytes) h = (index, omega arith, omega (arith, ltb-true index n h), eq-eqb index index refl)
move_found n (Land index k id block bytes) h = (index, omega arith, omega (arith, ltb-true index n h), eq-eqb index index refl)
move_found n _ h = absurd (cc h)

session_moves : (s : Session) → IsLawfulSession s → count is_move s.memory ≤ sum_by moves_by_request (requests s.log)
session_moves s h =
    let n = length s.rows in
    let all = all_left is_move (names_taken n) s.memory h.buffers.records.others in
    let each = counted (λ e. is_move e && names_taken n e) (λ e i. is_move_of i e) 0 n (move_found n) s.memory in
    let sum = of_records s h (λ i. length (filter (is_move_of i) s.memory)) moves_by_request (record_moves s h) in
    omega (arith, all, each, sum)

-- ---- the run

closing_few : (closing : Closing) → length (closing_steps closing) ≤ 1
closing_few Good = omega arith
closing_few Fault = omega arith
closing_few Cut = omega arith
closing_few NoMemory = omega arith

module _ (report : Report) where
  steps_for : ℕ → ℕ
  steps_for number = length (filter (λ step. step.session == number) report.steps.items)

  session_fits : (plan : PlannedSession) (s : SessionReport) → IsPlayedBy (asked_of plan) s → IsLawfulSession (session_of report s) → steps_for s.number ≤ steps_in plan.lines
  unfolding steps_for steps_in
  session_fits plan s p h = let a = session_steps (session_of report s) h in let b = of_plan steps_by_request plan s p in omega (arith, a, b)

  moves_fit : (plan : PlannedSession) (s : SessionReport) → IsPlayedBy (asked_of plan) s → IsLawfulSession (session_of report s) → count is_move (map (λ e. e.what) s.memory.items) ≤ moves_in plan.lines
  unfolding moves_in
  moves_fit plan s p h = let a = session_moves (session_of report s) h in let b = of_plan moves_by_request plan s p in omega (arith, a, b)

  all_fit : (plans : List PlannedSession) (sessions : List SessionReport) → AllZip IsPlayedBy (map asked_of plans) sessions → AllByRecursion (λ s. IsLawfulSession (session_of report s)) sessions
      → sum_by (λ s. steps_for s.number) sessions ≤ sum_by (λ p. steps_in p.lines) plans
  all_fit [] [] p h = omega arith
  all_fit [] (s ∷ sessions) p h = absurd p
  all_fit (plan ∷ plans) [] p h = absurd p
  all_fit (plan ∷ plans) (s ∷ sessions) p h =
      let here = session_fits plan s p.0 h.0 in
      let rest = all_fit plans sessions p.1 h.1 in
      omega (arith, here, rest, sum_by-cons (λ (x : SessionReport). steps_for x.number) s sessions, sum_by-cons (λ (x : PlannedSession). steps_in x.lines) plan plans)

  all_moves_fit : (plans : List PlannedSession) (sessions : List SessionReport) → AllZip IsPlayedBy (map asked_of plans) sessions → AllByRecursion (λ s. IsLawfulSession (session_of report s)) sessions
      → AllZip (λ plan s. count is_move (map (λ e. e.what) s.memory.items) ≤ moves_in plan.lines) plans sessions
  all_moves_fit [] [] p h = tt
  all_moves_fit [] (s ∷ sessions) p h = absurd p
  all_moves_fit (plan ∷ plans) [] p h = absurd p
  all_moves_fit (plan ∷ plans) (s ∷ sessions) p h = (moves_fit plan s p.0 h.0, all_moves_fit plans sessions p.1 h.1)

  -- a step of one of n sessions has one of their numbers
  session_found : (n : ℕ) (step : Step) → is_of_sessions n step ≡ true → (v : ℕ) × (1 ≤ v) × (v < 1 + n) × ((step.session == v) ≡ true)
  session_found n step h =
      let p = both (nat_le 1 step.session) (nat_le step.session n) h in
      (step.session, leb-true 1 step.session p.0, (let le = leb-true step.session n p.1 in omega (arith, le)), eq-eqb step.session step.session refl)

pub histories_fit : HistoriesFit
unfolding steps_ahead steps_for
histories_fit image plans report h p =
    let sessions = report.sessions.items in
    let n = length sessions in
    let steps = report.steps.items in
    let each = counted (is_of_sessions n) (λ step v. step.session == v) 1 n (session_found report n) steps in
    let numbered : sum_by (steps_for report) (range_with_len 1 n) ≡ sum_by (λ s. steps_for report s.number) sessions = ap (λ l. sum_by (steps_for report) l) (sym h.numbers) ∙ of_map (steps_for report) (λ (s : SessionReport). s.number) sessions in
    let whole = ap length h.closing ∙ length-append (filter (is_of_sessions n) steps) (closing_steps report.closing) in
    let fits = all_fit report plans sessions p h.sessions in
    record {
      steps = omega (arith, each, numbered, whole, closing_few report.closing, fits);
      moves = all_moves_fit report plans sessions p h.sessions;
    }
