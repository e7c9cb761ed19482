-- A script that was printed is read again.
use Rattle.std.proofs.Common.{◌≡◌, zero, suc, subst, append-nil, ◌≢◌, ℕ, ◌+◌, ◌≤◌, ◌<◌, Bool, true, false, cond, ◌&&◌, nat_le, nat_lt, List, [], ◌∷◌, ◌++◌, length, get_or, map, refl, ap, sym, ◌∙◌, arith, append_assoc, Some, None, Result, Ok, Err, decimal, codes}
use Rattle.std.specs.Prelude.{◌==◌, flat_map}
use Rattle.std.specs.List.{list_all}
use Rattle.std.specs.Str.Lines.{lines}
use Rattle.std.proofs.lemmas.Bool.{eqb-true}
use Rattle.std.proofs.lemmas.Grind.{flat_map-append}
use Rattle.host_text.specs.{hex, hex_byte, line}
use Rattle.hex.proofs.HexLemmas.{decode_sized-encode_lower}
use Rattle.script_model.specs.{ScriptCause, ParseError, Statement, Begin, Do, End, ScriptLine, Attach, Fill, Show, Send, WaitAll, WaitFor, words, all_allowed, hex_bytes, ◌>>=◌, word, has_count, keyword_of, statement, session_line, nothing_yet, plans, added, is_session, may_stand, may_wait, waits_enough, meaning, PlannedSession, owed, after_line, after_lines, plans_after, script_of, fits_line, fits_lines, fits_plan, can_be_said, is_between, says, line_words, line_text, end_word, session_script_text, script_text}
use Rattle.script_model.specs.declared.keyword.Keyword.{Keyword}
use Rattle.script_model.specs.Draft.{Draft}
use Rattle.script_model.proofs.Printed.{is_word, joined, ne_false, allowed_words, words_joined, lines_printed, all_append}
use Rattle.script_model.proofs.HexText.{hex-encode_lower}
use Rattle.script_model.proofs.PrintedLines.{says_attach, says_show, says_fill, says_wait, says_wait_for, says_send, says_end}
use Rattle.script_model.proofs.PrintedValues.{and_true, le_from, number-decimal}
use Rattle.script_model.proofs.PrintedWords.{word_first, number_first, no_words, hex_is_word, send_is_words, end_is_words}

-- the words of all lines
abbrev session_words : PlannedSession → List (List (List ℕ))
session_words s = (codes "session" ∷ decimal s.part ∷ []) ∷ map line_words s.lines ++ (end_word s.finish ∷ []) ∷ []

abbrev script_words : List PlannedSession → List (List (List ℕ))
script_words plans = flat_map session_words plans

map_lines : (ls : List ScriptLine) → flat_map line (map line_words ls) ≡ flat_map line_text ls
map_lines [] = refl
map_lines (l ∷ ls) = ap (λ (t : List ℕ). line (line_words l) ++ t) (map_lines ls)

session_lines : (s : PlannedSession) → flat_map line (session_words s) ≡ session_script_text s
session_lines s =
    let first : List ℕ = line (codes "session" ∷ decimal s.part ∷ []) in
    let last : List ℕ = line (end_word s.finish ∷ []) in
    ap (λ (t : List ℕ). first ++ t)
    (flat_map-append line (map line_words s.lines) ((end_word s.finish ∷ []) ∷ [])
    ∙ ap (λ (t : List ℕ). t ++ (last ++ [])) (map_lines s.lines) ∙ ap (λ (t : List ℕ). flat_map line_text s.lines ++ t) (append-nil last))
    ∙ sym (append_assoc first (flat_map line_text s.lines) last)

script_lines : (ss : List PlannedSession) → flat_map line (script_words ss) ≡ script_text ss
script_lines [] = refl
script_lines (s ∷ ss) =
    flat_map-append line (session_words s) (script_words ss)
    ∙ ap (λ (t : List ℕ). t ++ flat_map line (script_words ss)) (session_lines s)
    ∙ ap (λ (t : List ℕ). session_script_text s ++ t) (script_lines ss)

-- a session that is being read
abbrev reading : List PlannedSession → ℕ → List ScriptLine → Draft
reading past part before = record { past = past; current = Some (record { part = part; lines = before; finish = None }) }

same_twice : {A : Type 0} (b : Bool) (x : A) → cond b x x ≡ x
same_twice true x = refl
same_twice false x = refl

stands : (past : List PlannedSession) (part : ℕ) (before : List ScriptLine) (key : Keyword) → may_stand (reading past part before) key ≡ Ok tt
unfolding may_stand
stands past part before key = same_twice (is_session key) (Ok tt)

key_meaning : (past : List PlannedSession) (part : ℕ) (before : List ScriptLine) (ws : List (List ℕ)) (s : Statement) (key : Result Keyword ScriptCause) → (key >>= λ k. statement k ws) ≡ Ok s → may_wait (reading past part before) s ≡ Ok tt → (key >>= λ k. may_stand (reading past part before) k >>= λ _. statement k ws >>= λ t. may_wait (reading past part before) t >>= λ _. Ok t) ≡ Ok s
key_meaning past part before ws s (Err e) h w = cc
key_meaning past part before ws s (Ok k) h w = rw (stands past part before k, h, w)

meaning_said : (past : List PlannedSession) (part : ℕ) (before : List ScriptLine) (ws : List (List ℕ)) (s : Statement) → all_allowed ws ≡ true → says ws ≡ Ok s → may_wait (reading past part before) s ≡ Ok tt → meaning (reading past part before) ws ≡ Ok s
unfolding meaning
meaning_said past part before ws s a h w = rw a (key_meaning past part before ws s (keyword_of (word ws 0)) h w)

-- ---- one line

after_meaning : (d : Draft) (w : List ℕ) (ws : List (List ℕ)) (s : Statement) → meaning d (w ∷ ws) ≡ Ok s → after_line d (w ∷ ws) ≡ Ok (added d s)
unfolding after_line
after_meaning d w ws s h =
    let some : (length (w ∷ ws) == 0) ≡ false = ne_false (length (w ∷ ws)) 0 (let ne : length (w ∷ ws) ≢ 0 = omega arith in ne) in
    rw (some, h)

-- the lines that follow say r, whatever their numbers are
abbrev Reads : Draft → List (List (List ℕ)) → Result Draft ParseError → Type 0
Reads d lss r = (n : ℕ) → after_lines n d (map joined lss) ≡ r

read_line : (d e : Draft) (w : List ℕ) (ws : List (List ℕ)) (rest : List (List (List ℕ))) (r : Result Draft ParseError) → list_all is_word (w ∷ ws) ≡ true → after_line d (w ∷ ws) ≡ Ok e → Reads e rest r → Reads d ((w ∷ ws) ∷ rest) r
read_line d e w ws rest r good h k n =
    let read : after_line d (words (joined (w ∷ ws))) ≡ Ok e = ap (after_line d) (words_joined w ws good) ∙ h in
    rw (read, after_lines) (k (n + 1))

says_nothing : (s : Statement) → says [] ≡ Ok s → ⊥
unfolding keyword_of
says_nothing s h = cc

read_said : (past : List PlannedSession) (part : ℕ) (before : List ScriptLine) (ws : List (List ℕ)) (s : Statement) (rest : List (List (List ℕ))) (r : Result Draft ParseError) → list_all is_word ws ≡ true → says ws ≡ Ok s → may_wait (reading past part before) s ≡ Ok tt → Reads (added (reading past part before) s) rest r → Reads (reading past part before) (ws ∷ rest) r
read_said past part before [] s rest r good h w k = absurd (says_nothing s h)
read_said past part before (v ∷ vs) s rest r good h w k =
    read_line (reading past part before) (added (reading past part before) s) v vs rest r good
    (after_meaning (reading past part before) v vs s (meaning_said past part before (v ∷ vs) s (allowed_words (v ∷ vs) good) h w)) k

-- ---- the lines of a session

between : (low high n : ℕ) → is_between low high n ≡ true → (low ≤ n) × (n ≤ high)
between low high n h = let both = and_true (nat_le low n) (nat_le n high) h in (le_from low n both.0, le_from n high both.1)

bytes_at : (bytes : List ℕ) → list_all (λ b. nat_lt b 256) bytes ≡ true → (i : ℕ) → get_or bytes i 0 < 256
bytes_at [] h i = omega arith
bytes_at (b ∷ bytes) h zero = le_from (suc b) 256 (and_true (nat_lt b 256) (list_all (λ c. nat_lt c 256) bytes) h).0
bytes_at (b ∷ bytes) h (suc i) = bytes_at bytes (and_true (nat_lt b 256) (list_all (λ c. nat_lt c 256) bytes) h).1 i

hex_again : (n : ℕ) (bytes : List ℕ) → length bytes ≡ n → list_all (λ b. nat_lt b 256) bytes ≡ true → hex_bytes n (hex bytes) ≡ Ok bytes
unfolding hex_bytes
hex_again n bytes e h = ap (hex_bytes n) (hex-encode_lower bytes h) ∙ rw (decode_sized-encode_lower bytes n e (bytes_at bytes h), hex_bytes)

-- what a line that fits prints
record Prints (answers : ℕ) (line : ScriptLine) : Type 0 where
  says_it : says (line_words line) ≡ Ok (Do line)
  good : list_all is_word (line_words line) ≡ true
  waits : waits_enough answers (Do line) ≡ true

prints : (answers : ℕ) (line : ScriptLine) → fits_line answers line ≡ true → Prints answers line
prints answers (Attach pages) h = let p = between 1 4096 pages h in record {
  says_it = says_attach pages p.0 p.1;
  good = (word_first (codes "attach") refl (number_first pages no_words)).all;
  waits = refl;
}
prints answers (Fill id block count byte) h =
    let a = and_true (is_between 0 65535 id) (is_between 0 65535 block && (is_between 1 4096 count && nat_lt byte 256)) h in
    let b = and_true (is_between 0 65535 block) (is_between 1 4096 count && nat_lt byte 256) a.1 in
    let c = and_true (is_between 1 4096 count) (nat_lt byte 256) b.1 in
    let n = between 1 4096 count c.0 in
    let small : list_all (λ x. nat_lt x 256) (byte ∷ []) ≡ true = rw c.1 in
    record {
      says_it = says_fill id block count byte (between 0 65535 id a.0).1 (between 0 65535 block b.0).1 n.0 n.1 (hex_again 1 (byte ∷ []) refl small);
      good = (word_first (codes "fill") refl (number_first id (number_first block (number_first count (word_first (hex_byte byte) (hex_is_word (byte ∷ []) (omega arith) small) no_words))))).all;
      waits = refl;
    }
prints answers (Show id block count) h =
    let a = and_true (is_between 0 65535 id) (is_between 0 65535 block && is_between 1 4096 count) h in
    let b = and_true (is_between 0 65535 block) (is_between 1 4096 count) a.1 in
    let n = between 1 4096 count b.1 in
    record {
      says_it = says_show id block count (between 0 65535 id a.0).1 (between 0 65535 block b.0).1 n.0 n.1;
      good = (word_first (codes "show") refl (number_first id (number_first block (number_first count no_words)))).all;
      waits = refl;
    }
prints answers (Send bytes) h =
    let a = and_true (length bytes == 32) (list_all (λ b. nat_lt b 256) bytes) h in
    let len : length bytes ≡ 32 = eqb-true (length bytes) 32 a.0 in
    record {
      says_it = says_send bytes (hex_again 32 bytes len a.1);
      good = send_is_words bytes (omega (arith, len)) a.1;
      waits = refl;
    }
prints answers WaitAll h = record { says_it = says_wait; good = refl; waits = refl }
prints answers (WaitFor total) h =
    let a = and_true (is_between 1 4294967295 total) (nat_le total answers) h in
    let n = between 1 4294967295 total a.0 in
    record {
      says_it = says_wait_for total n.0 n.1;
      good = (word_first (codes "wait") refl (number_first total no_words)).all;
      waits = a.1;
    }

may_wait_enough : (past : List PlannedSession) (part : ℕ) (before : List ScriptLine) (s : Statement) → waits_enough (owed before) s ≡ true → may_wait (reading past part before) s ≡ Ok tt
unfolding may_wait
may_wait_enough past part before s h = rw h

added_line : (past : List PlannedSession) (part : ℕ) (before : List ScriptLine) (line : ScriptLine) → added (reading past part before) (Do line) ≡ reading past part (before ++ line ∷ [])
unfolding added
added_line past part before line = refl

read_lines : (past : List PlannedSession) (part : ℕ) (before ls : List ScriptLine) (rest : List (List (List ℕ))) (r : Result Draft ParseError) → fits_lines before ls ≡ true → Reads (reading past part (before ++ ls)) rest r → Reads (reading past part before) (map line_words ls ++ rest) r
read_lines past part before [] rest r h k = rw append-nil at k
read_lines past part before (l ∷ ls) rest r h k =
    let both = and_true (fits_line (owed before) l) (fits_lines (before ++ l ∷ []) ls) h in
    let line = prints (owed before) l both.0 in
    let regrouped : (before ++ l ∷ []) ++ ls ≡ before ++ l ∷ ls = append_assoc before (l ∷ []) ls in
    let more : Reads (reading past part (before ++ l ∷ [])) (map line_words ls ++ rest) r =
    read_lines past part (before ++ l ∷ []) ls rest r both.1 (subst (λ xs. Reads (reading past part xs) rest r) (sym regrouped) k) in
    read_said past part before (line_words l) (Do l) (map line_words ls ++ rest) r line.good line.says_it (may_wait_enough past part before (Do l) line.waits)
    (subst (λ (e : Draft). Reads e (map line_words ls ++ rest) r) (sym (added_line past part before l)) more)

-- ---- sessions

-- a session that was read to its end
abbrev ended : List PlannedSession → PlannedSession → Draft
ended past s = record { past = past; current = Some (record { part = s.part; lines = s.lines; finish = Some s.finish }) }

added_end : (past : List PlannedSession) (s : PlannedSession) → added (reading past s.part s.lines) (End s.finish) ≡ ended past s
unfolding added
added_end past s = refl

added_begin : (d : Draft) (part : ℕ) → added d (Begin part) ≡ reading (plans d) part []
unfolding added
added_begin d part = refl

session_good : (part : ℕ) → list_all is_word (codes "session" ∷ decimal part ∷ []) ≡ true
session_good part = (word_first (codes "session") refl (number_first part no_words)).all

session_meaning : (d : Draft) (part : ℕ) → 1 ≤ part → part ≤ 1024 → meaning d (codes "session" ∷ decimal part ∷ []) ≡ Ok (Begin part)
unfolding meaning keyword_of may_stand statement session_line has_count may_wait
session_meaning d part l u = rw (allowed_words (codes "session" ∷ decimal part ∷ []) (session_good part), number-decimal 1 1024 part l u (omega arith))

read_session : (d : Draft) (s : PlannedSession) (rest : List (List (List ℕ))) (r : Result Draft ParseError) → fits_plan s ≡ true → Reads (ended (plans d) s) rest r → Reads d (session_words s ++ rest) r
read_session d s rest r h k =
    let both = and_true (is_between 1 1024 s.part) (fits_lines [] s.lines) h in
    let part = between 1 1024 s.part both.0 in
    let finish : Reads (reading (plans d) s.part s.lines) ((end_word s.finish ∷ []) ∷ rest) r =
    read_said (plans d) s.part s.lines (end_word s.finish ∷ []) (End s.finish) rest r (end_is_words s.finish) (says_end s.finish) (may_wait_enough (plans d) s.part s.lines (End s.finish) refl)
    (subst (λ (e : Draft). Reads e rest r) (sym (added_end (plans d) s)) k) in
    let all : Reads (reading (plans d) s.part []) (map line_words s.lines ++ (end_word s.finish ∷ []) ∷ rest) r =
    read_lines (plans d) s.part [] s.lines ((end_word s.finish ∷ []) ∷ rest) r both.1 finish in
    let regrouped : (map line_words s.lines ++ (end_word s.finish ∷ []) ∷ []) ++ rest ≡ map line_words s.lines ++ (end_word s.finish ∷ []) ∷ rest = append_assoc (map line_words s.lines) ((end_word s.finish ∷ []) ∷ []) rest in
    read_line d (reading (plans d) s.part []) (codes "session") (decimal s.part ∷ []) ((map line_words s.lines ++ (end_word s.finish ∷ []) ∷ []) ++ rest) r (session_good s.part)
    (after_meaning d (codes "session") (decimal s.part ∷ []) (Begin s.part) (session_meaning d s.part part.0 part.1) ∙ ap Ok (added_begin d s.part))
    (subst (λ lss. Reads (reading (plans d) s.part []) lss r) (sym regrouped) all)

-- ---- the whole

-- the draft after these sessions
final : Draft → List PlannedSession → Draft
final d [] = d
final d (s ∷ ss) = final (ended (plans d) s) ss

read_sessions : (ss : List PlannedSession) (d : Draft) → can_be_said ss ≡ true → Reads d (script_words ss) (Ok (final d ss))
unfolding final
read_sessions [] d h = λ n. refl
read_sessions (s ∷ ss) d h =
    let both = and_true (fits_plan s) (can_be_said ss) h in
    read_session d s (script_words ss) (Ok (final d (s ∷ ss))) both.0 (read_sessions ss (ended (plans d) s) both.1)

final_plans : (ss : List PlannedSession) (d : Draft) → plans (final d ss) ≡ plans d ++ ss
unfolding final
final_plans [] d = sym (append-nil (plans d))
final_plans (s ∷ ss) d = final_plans ss (ended (plans d) s) ∙ append_assoc (plans d) (s ∷ []) ss

good_lines : (before ls : List ScriptLine) → fits_lines before ls ≡ true → list_all (list_all is_word) (map line_words ls) ≡ true
good_lines before [] h = refl
good_lines before (l ∷ ls) h =
    let both = and_true (fits_line (owed before) l) (fits_lines (before ++ l ∷ []) ls) h in
    ap (λ b. b && list_all (list_all is_word) (map line_words ls)) (prints (owed before) l both.0).good ∙ good_lines (before ++ l ∷ []) ls both.1

good_session : (s : PlannedSession) → fits_plan s ≡ true → list_all (list_all is_word) (session_words s) ≡ true
good_session s h =
    let both = and_true (is_between 1 1024 s.part) (fits_lines [] s.lines) h in
    let last : list_all (list_all is_word) ((end_word s.finish ∷ []) ∷ []) ≡ true = ap (λ b. b && true) (end_is_words s.finish) in
    ap (λ b. b && list_all (list_all is_word) (map line_words s.lines ++ (end_word s.finish ∷ []) ∷ [])) (session_good s.part)
    ∙ all_append (list_all is_word) (map line_words s.lines) ((end_word s.finish ∷ []) ∷ []) (good_lines [] s.lines both.1) last

good_script : (ss : List PlannedSession) → can_be_said ss ≡ true → list_all (list_all is_word) (script_words ss) ≡ true
good_script [] h = refl
good_script (s ∷ ss) h =
    let both = and_true (fits_plan s) (can_be_said ss) h in
    all_append (list_all is_word) (session_words s) (script_words ss) (good_session s both.0) (good_script ss both.1)

lines_of_texts : (lss : List (List (List ℕ))) → list_all (list_all is_word) lss ≡ true → lines (flat_map line lss) ≡ map joined lss
lines_of_texts [] h = refl
lines_of_texts (ws ∷ lss) h =
    let both = and_true (list_all is_word ws) (list_all (list_all is_word) lss) h in
    lines_printed ws (flat_map line lss) both.0 ∙ ap (λ ls. joined ws ∷ ls) (lines_of_texts lss both.1)

-- the printed text of a script that can be said means the script
pub printed_again : (ss : List PlannedSession) → can_be_said ss ≡ true → script_of (script_text ss) ≡ Ok ss
printed_again ss h =
    let read : after_lines 1 nothing_yet (lines (script_text ss)) ≡ Ok (final nothing_yet ss) =
    ap (λ t. after_lines 1 nothing_yet (lines t)) (sym (script_lines ss)) ∙ ap (after_lines 1 nothing_yet) (lines_of_texts (script_words ss) (good_script ss h)) ∙ read_sessions ss nothing_yet h 1 in
    ap plans_after read ∙ ap Ok (final_plans ss nothing_yet)
