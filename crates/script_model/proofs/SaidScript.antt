-- A script that a text means, or that a seed makes, can be said.
use Rattle.std.proofs.Common.{◌≡◌, ℕ, zero, suc, ◌+◌, ◌≤◌, ◌<◌, Bool, true, false, cond, ◌&&◌, nat_le, nat_lt, List, [], ◌∷◌, ◌++◌, refl, subst, sym, arith, append_assoc, append-nil, Option, Some, None, Result, Ok, Err}
use Rattle.std.specs.Prelude.{◌==◌, ◌||◌, ◌%◌, length}
use Rattle.std.specs.List.{list_all}
use Rattle.std.specs.Str.Lines.{lines}
use Rattle.script_model.specs.{ScriptCause, BadByte, TooMany, ParseError, Bad, Statement, Begin, Do, End, ScriptLine, Attach, Fill, Show, Send, WaitAll, WaitFor, word, OpenPlan, nothing_yet, plans, closed_plan, closed_plans, added, with_line, with_finish, may_stand, may_wait, owed_so_far, waits_enough, meaning, next, drawn, request_from, after_request, after_requests, request_line, request_lines, waits, session_from, sessions_from, generated, keyword_of, statement, owed, is_between, fits_line, fits_lines, fits_plan, can_be_said, PlannedSession, after_statement, after_line, after_lines, plans_after, script_of, ◌>>=◌, holds, words, all_allowed}
use Rattle.script_model.specs.Draft.{Draft}
use Rattle.host_record.specs.{Finish}
use Rattle.script_model.proofs.Printed.{all_append}
use Rattle.script_model.proofs.PrintedValues.{and_true, le_from, le_true}
use Rattle.script_model.proofs.Said.{and_both, fits_statement, request_is_record, statement_fits}

-- ---- a draft whose sessions can be said

fits_open : Option OpenPlan → Bool
fits_open None = true
fits_open (Some s) = is_between 1 1024 s.part && fits_lines [] s.lines

record CanBeSaid (d : Draft) : Type 0 where
  past : can_be_said d.past ≡ true
  current : fits_open d.current ≡ true

closed_fit : (o : Option OpenPlan) → fits_open o ≡ true → can_be_said (closed_plans o) ≡ true
unfolding fits_open
closed_fit None h = refl
closed_fit (Some s) h = and_both (fits_plan (closed_plan s)) true h refl

plans_fit : (d : Draft) → CanBeSaid d → can_be_said (plans d) ≡ true
plans_fit d good = all_append fits_plan d.past (closed_plans d.current) good.past (closed_fit d.current good.current)

fits_lines-append : (before ls : List ScriptLine) (line : ScriptLine) → fits_lines before ls ≡ true → fits_line (owed (before ++ ls)) line ≡ true → fits_lines before (ls ++ line ∷ []) ≡ true
fits_lines-append before [] line h k = and_both (fits_line (owed before) line) true (subst (λ xs. fits_line (owed xs) line ≡ true) (append-nil before) k) refl
fits_lines-append before (l ∷ ls) line h k =
    let both = and_true (fits_line (owed before) l) (fits_lines (before ++ l ∷ []) ls) h in
    let after : fits_line (owed ((before ++ l ∷ []) ++ ls)) line ≡ true = subst (λ xs. fits_line (owed xs) line ≡ true) (sym (append_assoc before (l ∷ []) ls)) k in
    and_both (fits_line (owed before) l) (fits_lines (before ++ l ∷ []) (ls ++ line ∷ [])) both.0 (fits_lines-append (before ++ l ∷ []) ls line both.1 after)

line_fits : (o : Option OpenPlan) (line : ScriptLine) → fits_open o ≡ true → fits_line (owed_so_far o) line ≡ true → fits_open (with_line o line) ≡ true
unfolding fits_open
line_fits None line h k = refl
line_fits (Some s) line h k =
    let both = and_true (is_between 1 1024 s.part) (fits_lines [] s.lines) h in
    and_both (is_between 1 1024 s.part) (fits_lines [] (s.lines ++ line ∷ [])) both.0 (fits_lines-append [] s.lines line both.1 k)

finish_fits : (o : Option OpenPlan) (finish : Finish) → fits_open o ≡ true → fits_open (with_finish o finish) ≡ true
unfolding fits_open
finish_fits None finish h = refl
finish_fits (Some s) finish h = h

added_fits : (d : Draft) (s : Statement) → CanBeSaid d → fits_statement (owed_so_far d.current) s ≡ true → CanBeSaid (added d s)
unfolding added fits_open
added_fits d (Begin part) good h = record { past = plans_fit d good; current = and_both (is_between 1 1024 part) true h refl }
added_fits d (Do line) good h = record { past = good.past; current = line_fits d.current line good.current h }
added_fits d (End finish) good h = record { past = good.past; current = finish_fits d.current finish good.current }

-- ---- a line

bind_ok : {A B : Type 0} (r : Result A ScriptCause) (f : A → Result B ScriptCause) (y : B) → (r >>= f) ≡ Ok y → (x : A) × (r ≡ Ok x) × (f x ≡ Ok y)
bind_ok (Ok x) f y h = (x, refl, h)
bind_ok (Err e) f y h = cc

held : (b : Bool) (cause : ScriptCause) (u : Unit {0}) → holds b cause ≡ Ok u → b ≡ true
held true cause u h = refl
held false cause u h = cc

waited : (d : Draft) (s : Statement) (u : Unit {0}) → may_wait d s ≡ Ok u → waits_enough (owed_so_far d.current) s ≡ true
unfolding may_wait
waited d s u h = held (waits_enough (owed_so_far d.current) s) TooMany u h

meaning_fits : (d : Draft) (ws : List (List ℕ)) (s : Statement) → meaning d ws ≡ Ok s → fits_statement (owed_so_far d.current) s ≡ true
unfolding meaning
meaning_fits d ws s h =
    let a = bind_ok (holds (all_allowed ws) BadByte) _ s h in
    let b = bind_ok (keyword_of (word ws 0)) _ s a.2 in
    let c = bind_ok (may_stand d b.0) _ s b.2 in
    let e = bind_ok (statement b.0 ws) _ s c.2 in
    let f = bind_ok (may_wait d e.0) _ s e.2 in
    let same : e.0 ≡ s = let k = f.2 in cc in
    subst (λ (t : Statement). fits_statement (owed_so_far d.current) t ≡ true) same (statement_fits (owed_so_far d.current) b.0 ws e.0 e.1 (waited d e.0 f.0 f.1))

after_meaning : (d e : Draft) (b : Bool) (r : Result Statement ScriptCause) → ((s : Statement) → r ≡ Ok s → fits_statement (owed_so_far d.current) s ≡ true) → CanBeSaid d → cond b (Ok d) (after_statement d r) ≡ Ok e → CanBeSaid e
after_meaning d e true r fits good h = let same : d ≡ e = cc in subst CanBeSaid same good
after_meaning d e false (Ok s) fits good h = let same : added d s ≡ e = cc in subst CanBeSaid same (added_fits d s good (fits s refl))
after_meaning d e false (Err cause) fits good h = cc

line_after : (d e : Draft) (ws : List (List ℕ)) → CanBeSaid d → after_line d ws ≡ Ok e → CanBeSaid e
unfolding after_line
line_after d e ws good h = after_meaning d e (length ws == 0) (meaning d ws) (meaning_fits d ws) good h

-- ---- a text

first_after : (n : ℕ) (ls : List (List ℕ)) (e : Draft) (r : Result Draft ScriptCause) → ((x : Draft) → r ≡ Ok x → CanBeSaid x) → ((x : Draft) → CanBeSaid x → after_lines (n + 1) x ls ≡ Ok e → CanBeSaid e)
    → (elim r as (λ _. Result Draft ParseError) [ Ok x ↦ after_lines (n + 1) x ls | Err cause ↦ Err (Bad n cause) ]) ≡ Ok e → CanBeSaid e
first_after n ls e (Ok x) first later h = later x (first x refl) h
first_after n ls e (Err cause) first later h = cc

lines_after : (n : ℕ) (d e : Draft) (ls : List (List ℕ)) → CanBeSaid d → after_lines n d ls ≡ Ok e → CanBeSaid e
lines_after n d e [] good h = let same : d ≡ e = cc in subst CanBeSaid same good
lines_after n d e (l ∷ ls) good h = first_after n ls e (after_line d (words l)) (λ x. line_after d x (words l) good) (λ x. lines_after (n + 1) x e ls) h

from_draft : (r : Result Draft ParseError) (ss : List PlannedSession) → plans_after r ≡ Ok ss → ((d : Draft) → r ≡ Ok d → CanBeSaid d) → can_be_said ss ≡ true
from_draft (Ok d) ss h good = let same : plans d ≡ ss = cc in subst (λ xs. can_be_said xs ≡ true) same (plans_fit d (good d refl))
from_draft (Err e) ss h good = cc

nothing_fits : CanBeSaid nothing_yet
unfolding fits_open
nothing_fits = record { past = refl; current = refl }

pub script_fits : (text : List ℕ) (ss : List PlannedSession) → script_of text ≡ Ok ss → can_be_said ss ≡ true
script_fits text ss h = from_draft (after_lines 1 nothing_yet (lines text)) ss h (λ d. lines_after 1 nothing_yet d (lines text) nothing_fits)

-- ---- a generated script

-- what fits where nothing is owed fits anywhere
fits_owed : (answers : ℕ) (line : ScriptLine) → fits_line 0 line ≡ true → fits_line answers line ≡ true
fits_owed answers (Attach pages) h = h
fits_owed answers (Fill id block count byte) h = h
fits_owed answers (Show id block count) h = h
fits_owed answers (Send bytes) h = h
fits_owed answers WaitAll h = h
fits_owed answers (WaitFor total) h =
    let both = and_true (is_between 1 4294967295 total) (nat_le total 0) h in
    let none : total ≤ 0 = le_from total 0 both.1 in
    and_both (is_between 1 4294967295 total) (nat_le total answers) both.0 (le_true total answers (omega arith))

all_fit : (before ls : List ScriptLine) → list_all (fits_line 0) ls ≡ true → fits_lines before ls ≡ true
all_fit before [] h = refl
all_fit before (l ∷ ls) h =
    let both = and_true (fits_line 0 l) (list_all (fits_line 0) ls) h in
    and_both (fits_line (owed before) l) (fits_lines (before ++ l ∷ []) ls) (fits_owed (owed before) l both.0) (all_fit (before ++ l ∷ []) ls both.1)

request_fits : (x n : ℕ) → fits_line 0 (request_line x n) ≡ true
unfolding request_line
request_fits x n =
    let a = next x in
    let b = next a in
    let c = next b in
    let e = next c in
    request_is_record (request_from n (drawn a) (drawn b) (drawn c) (drawn e))

either_waits : (b : Bool) → list_all (fits_line 0) (cond b (WaitAll ∷ []) []) ≡ true
either_waits true = refl
either_waits false = refl

requests_fit : (x n left : ℕ) → list_all (fits_line 0) (request_lines x n left) ≡ true
requests_fit x n zero = refl
requests_fit x n (suc left) =
    and_both (fits_line 0 (request_line x n)) (list_all (fits_line 0) (waits n left ++ request_lines (after_request x) (n + 1) left)) (request_fits x n)
    (all_append (fits_line 0) (waits n left) (request_lines (after_request x) (n + 1) left) (either_waits ((n + 1) % 16 == 0 || left == 0)) (requests_fit (after_request x) (n + 1) left))

either_part : (b : Bool) → is_between 1 1024 (cond b 1 2) ≡ true
either_part true = refl
either_part false = refl

session_fits : (x s requests : ℕ) → s < 256 → fits_plan (session_from x s requests) ≡ true
unfolding session_from
session_fits x s requests h =
    let small : nat_lt s 256 ≡ true = le_true (suc s) 256 h in
    let middle : list_all (fits_line 0) (request_lines x 0 requests ++ Show 1 0 8 ∷ []) ≡ true = all_append (fits_line 0) (request_lines x 0 requests) (Show 1 0 8 ∷ []) (requests_fit x 0 requests) refl in
    let all : list_all (fits_line 0) (Attach 8 ∷ Fill 1 0 8 s ∷ request_lines x 0 requests ++ Show 1 0 8 ∷ []) ≡ true = and_both (nat_lt s 256) (list_all (fits_line 0) (request_lines x 0 requests ++ Show 1 0 8 ∷ [])) small middle in
    and_both (is_between 1 1024 (cond (s % 2 == 1) 1 2)) (fits_lines [] (Attach 8 ∷ Fill 1 0 8 s ∷ request_lines x 0 requests ++ Show 1 0 8 ∷ [])) (either_part (s % 2 == 1)) (all_fit [] (Attach 8 ∷ Fill 1 0 8 s ∷ request_lines x 0 requests ++ Show 1 0 8 ∷ []) all)

sessions_fit : (x s requests left : ℕ) → s + left ≤ 256 → can_be_said (sessions_from x s requests left) ≡ true
sessions_fit x s requests zero h = refl
sessions_fit x s requests (suc left) h =
    and_both (fits_plan (session_from x s requests)) (can_be_said (sessions_from (after_requests x requests) (s + 1) requests left)) (session_fits x s requests (omega (arith, h)))
    (sessions_fit (after_requests x requests) (s + 1) requests left (omega (arith, h)))

pub generated_fits : (seed sessions requests : ℕ) → sessions ≤ 16 → can_be_said (generated seed sessions requests) ≡ true
generated_fits seed sessions requests h = sessions_fit seed 1 requests sessions (omega arith)
