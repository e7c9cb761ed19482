-- What is printed of a line says that line again.
use Rattle.std.proofs.Common.{◌≡◌, ℕ, ◌≤◌, Bool, true, false, cond, List, [], ◌∷◌, refl, ap, arith, Option, Some, None, Result, Ok, Err}
use Rattle.std.proofs.lemmas.Slice.Eq.{bytes_eq-Decides}
use Rattle.host_record.specs.{Opcode, Finish, Drain, Abort, request_of, opcode}
use Rattle.host_text.specs.{hex_byte, hex}
use Rattle.script_model.specs.{ScriptCause, Statement, Begin, Do, End, ScriptLine, Attach, Fill, Show, Send, WaitAll, WaitFor, hex_bytes, keyword_of, has_count, statement, attach_line, fill_line, show_line, raw_line, wait_line, end_line, says, is_sending, is_named, named_words, raw_words, named_or_raw, send_words, line_words, end_word}
use Rattle.script_model.proofs.PrintedValues.{number-decimal}

pub says_attach : (pages : ℕ) → 1 ≤ pages → pages ≤ 4096 → says (line_words (Attach pages)) ≡ Ok (Do (Attach pages))
unfolding keyword_of statement attach_line has_count
says_attach pages l u = rw (number-decimal 1 4096 pages l u (omega arith))

pub says_show : (id block count : ℕ) → id ≤ 65535 → block ≤ 65535 → 1 ≤ count → count ≤ 4096 → says (line_words (Show id block count)) ≡ Ok (Do (Show id block count))
unfolding keyword_of statement show_line has_count
says_show id block count i b l u =
    rw (number-decimal 0 65535 id (omega arith) i (omega arith), number-decimal 0 65535 block (omega arith) b (omega arith), number-decimal 1 4096 count l u (omega arith))

pub says_fill : (id block count byte : ℕ) → id ≤ 65535 → block ≤ 65535 → 1 ≤ count → count ≤ 4096 → hex_bytes 1 (hex_byte byte) ≡ Ok (byte ∷ []) → says (line_words (Fill id block count byte)) ≡ Ok (Do (Fill id block count byte))
unfolding keyword_of statement fill_line has_count
says_fill id block count byte i b l u x =
    rw (number-decimal 0 65535 id (omega arith) i (omega arith), number-decimal 0 65535 block (omega arith) b (omega arith), number-decimal 1 4096 count l u (omega arith), x)

pub says_wait : says (line_words WaitAll) ≡ Ok (Do WaitAll)
unfolding keyword_of statement wait_line
says_wait = refl

pub says_wait_for : (total : ℕ) → 1 ≤ total → total ≤ 4294967295 → says (line_words (WaitFor total)) ≡ Ok (Do (WaitFor total))
unfolding keyword_of statement wait_line has_count
says_wait_for total l u = rw (number-decimal 1 4294967295 total l u (omega arith))

pub says_end : (finish : Finish) → says (end_word finish ∷ []) ≡ Ok (End finish)
unfolding keyword_of statement end_line has_count
says_end Drain = refl
says_end Abort = refl

pub says_raw : (bytes : List ℕ) → hex_bytes 32 (hex bytes) ≡ Ok bytes → says (raw_words bytes) ≡ Ok (Do (Send bytes))
unfolding keyword_of statement raw_line has_count
says_raw bytes x = rw x

-- ---- records

sending_line : (bytes : List ℕ) (line : ScriptLine) → is_sending bytes (Ok (Do line)) ≡ true → line ≡ Send bytes
sending_line bytes (Send sent) h = ap Send ((bytes_eq-Decides sent bytes).0 h)
sending_line bytes (Attach pages) h = cc
sending_line bytes (Fill id block count byte) h = cc
sending_line bytes (Show id block count) h = cc
sending_line bytes WaitAll h = cc
sending_line bytes (WaitFor total) h = cc

sending : (bytes : List ℕ) (said : Result Statement ScriptCause) → is_sending bytes said ≡ true → said ≡ Ok (Do (Send bytes))
sending bytes (Ok (Do line)) h = ap (λ l. Ok (Do l)) (sending_line bytes line h)
sending bytes (Ok (Begin part)) h = cc
sending bytes (Ok (End finish)) h = cc
sending bytes (Err e) h = cc

either_says : (b : Bool) (ws raw : List (List ℕ)) (s : Statement) → (b ≡ true → says ws ≡ Ok s) → says raw ≡ Ok s → says (cond b ws raw) ≡ Ok s
either_says true ws raw s h k = h refl
either_says false ws raw s h k = k

named_says : (code : Opcode) (bytes : List ℕ) → is_named code bytes ≡ true → says (named_words code (request_of bytes)) ≡ Ok (Do (Send bytes))
unfolding is_named
named_says code bytes h = sending bytes (says (named_words code (request_of bytes))) h

named_or_raw_says : (bytes : List ℕ) (code : Option Opcode) → hex_bytes 32 (hex bytes) ≡ Ok bytes → says (named_or_raw bytes code) ≡ Ok (Do (Send bytes))
named_or_raw_says bytes None x = says_raw bytes x
named_or_raw_says bytes (Some code) x =
    either_says (is_named code bytes) (named_words code (request_of bytes)) (raw_words bytes) (Do (Send bytes)) (named_says code bytes) (says_raw bytes x)

pub says_send : (bytes : List ℕ) → hex_bytes 32 (hex bytes) ≡ Ok bytes → says (send_words bytes) ≡ Ok (Do (Send bytes))
unfolding send_words
says_send bytes x = named_or_raw_says bytes (opcode (request_of bytes)) x
