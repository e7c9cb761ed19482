-- What a line says can be said.
use Rattle.std.proofs.Common.{◌≡◌, ℕ, zero, suc, ◌+◌, ◌<◌, Bool, true, false, cond, ◌&&◌, nat_le, nat_lt, List, [], ◌∷◌, ◌++◌, length, get_or, refl, subst, ap, sym, ◌∙◌, ◌/◌, ◌%◌, ◌^◌, eq-eqb, arith, Option, Some, None, Result, Ok, Err}
use Rattle.std.specs.Prelude.{◌==◌}
use Rattle.std.specs.Int.{byte_at, bytes_low_first}
use Rattle.byteorder.specs.Endian.{little_bytes}
use Rattle.std.specs.List.{list_all}
use Rattle.host_record.specs.declared.request.Request.{Request}
use Rattle.host_record.specs.declared.opcode.Opcode.TheVariants as op
use Rattle.host_record.specs.{Finish, Drain, Abort, request_bytes}
use Rattle.hex.specs.Hex.{IsBytes, decode_sized}
use Rattle.hex.specs.declared.error.FromHexError.{FromHexError}
use Rattle.hex.proofs.HexLemmas.{decode_of-even, decode_pairs-ok, decode_sized-ok, decode_sized-twice}
use Rattle.script_model.specs.{ScriptCause, BadNumber, Statement, Begin, Do, End, Attach, Fill, Show, Send, WaitAll, WaitFor, word, has_count, force_bit, write_count, group_bits, group_number, waits_enough, statement, session_line, attach_line, fill_line, show_line, transfer_line, write_line, flush_line, trim_line, close_line, raw_line, wait_line, end_line, sends, opcode_number, number, in_range, decimal_value, hex_result, hex_bytes, is_between, is_record_bytes, fits_line, ◌>>=◌}
use Rattle.script_model.specs.declared.keyword.Keyword.{Keyword}
use Rattle.script_model.specs.declared.keyword.Keyword.TheVariants as key
use Rattle.script_model.proofs.Printed.{all_append}
use Rattle.script_model.proofs.PrintedValues.{and_true, le_true}

-- ---- numbers

either_ok : (b : Bool) (m n : ℕ) → cond b (Ok m) (Err BadNumber) ≡ Ok n → (b ≡ true) × (m ≡ n)
either_ok true m n h = (refl, cc)
either_ok false m n h = cc

in_range_ok : (low high : ℕ) (o : Option ℕ) (n : ℕ) → in_range low high o ≡ Ok n → is_between low high n ≡ true
in_range_ok low high None n h = cc
in_range_ok low high (Some m) n h =
    let both = either_ok (nat_le low m && nat_le m high) m n h in
    subst (λ (k : ℕ). is_between low high k ≡ true) both.1 both.0

number_ok : (low high : ℕ) (w : List ℕ) (n : ℕ) → number low high w ≡ Ok n → is_between low high n ≡ true
unfolding number
number_ok low high w n h = in_range_ok low high (decimal_value w) n h

-- ---- what fits where so many answers are owed

abbrev pub fits_statement : ℕ → Statement → Bool
fits_statement answers (Begin part) = is_between 1 1024 part
fits_statement answers (Do line) = fits_line answers line
fits_statement answers (End finish) = true

-- what a step that gave this statement says fits
abbrev Fits : ℕ → Result Statement ScriptCause → Type 0
Fits answers said = (s : Statement) → said ≡ Ok s → waits_enough answers s ≡ true → fits_statement answers s ≡ true

said_fits : (answers : ℕ) (t : Statement) → (waits_enough answers t ≡ true → fits_statement answers t ≡ true) → Fits answers (Ok t)
said_fits answers t h s e w =
    let same : t ≡ s = cc in
    subst (λ u. waits_enough answers u ≡ true → fits_statement answers u ≡ true) same h w

after : {A : Type 0} (answers : ℕ) (r : Result A ScriptCause) (f : A → Result Statement ScriptCause) → ((x : A) → r ≡ Ok x → Fits answers (f x)) → Fits answers (r >>= f)
after answers (Ok x) f h = h x refl
after answers (Err e) f h = λ s k w. cc

-- ---- bytes

small_bytes : (bytes : List ℕ) → IsBytes bytes → list_all (λ b. nat_lt b 256) bytes ≡ true
small_bytes [] h = refl
small_bytes (b ∷ bytes) h = rw (le_true (suc b) 256 (h 0)) (small_bytes bytes (λ i. h (suc i)))

from_hex : (d : Result (List ℕ) FromHexError) (bytes : List ℕ) → hex_result d ≡ Ok bytes → d ≡ Ok bytes
from_hex (Ok x) bytes h = let e : x ≡ bytes = cc in ap Ok e
from_hex (Err e) bytes h = cc

hex_bytes_ok : (n : ℕ) (w bytes : List ℕ) → hex_bytes n w ≡ Ok bytes → (length bytes ≡ n) × (list_all (λ b. nat_lt b 256) bytes ≡ true)
unfolding hex_bytes
hex_bytes_ok n w bytes h =
    let decoded = from_hex (decode_sized w n) bytes h in
    let digits = decode_sized-ok w n bytes decoded in
    let even : length w % 2 ≡ 0 = omega arith in
    let pairs = decode_pairs-ok 0 w bytes (sym (decode_sized-twice w n digits ∙ decode_of-even w even) ∙ decoded) in
    let len = pairs.1 in
    (omega (arith, digits, len), small_bytes bytes pairs.2)

byte_at_small : (i m : ℕ) → byte_at i m < 256
byte_at_small zero m = omega arith
byte_at_small (suc i) m = let q : ℕ = m / 256 ^ suc i in let h : q % 256 < 256 = omega arith in h

low_first_small : (i n m : ℕ) → list_all (λ b. nat_lt b 256) (bytes_low_first i n m) ≡ true
low_first_small i zero m = refl
low_first_small i (suc n) m = rw (le_true (suc (byte_at i m)) 256 (byte_at_small i m)) (low_first_small (suc i) n m)

-- the bytes of any request are a record
pub request_is_record : (r : Request) → is_record_bytes (request_bytes r) ≡ true
request_is_record r =
    let p : ℕ → Bool = λ b. nat_lt b 256 in
    let a = all_append p (little_bytes 4 r.command) (little_bytes 4 r.reqid) (low_first_small 0 4 r.command) (low_first_small 0 4 r.reqid) in
    let b = all_append p (little_bytes 4 r.command ++ little_bytes 4 r.reqid) (little_bytes 2 r.group) a (low_first_small 0 2 r.group) in
    let c = all_append p (little_bytes 4 r.command ++ little_bytes 4 r.reqid ++ little_bytes 2 r.group) (little_bytes 2 r.vmoid) b (low_first_small 0 2 r.vmoid) in
    let d = all_append p (little_bytes 4 r.command ++ little_bytes 4 r.reqid ++ little_bytes 2 r.group ++ little_bytes 2 r.vmoid) (little_bytes 4 r.length) c (low_first_small 0 4 r.length) in
    let e = all_append p (little_bytes 4 r.command ++ little_bytes 4 r.reqid ++ little_bytes 2 r.group ++ little_bytes 2 r.vmoid ++ little_bytes 4 r.length) (little_bytes 8 r.vmo_offset) d (low_first_small 0 8 r.vmo_offset) in
    all_append p (little_bytes 4 r.command ++ little_bytes 4 r.reqid ++ little_bytes 2 r.group ++ little_bytes 2 r.vmoid ++ little_bytes 4 r.length ++ little_bytes 8 r.vmo_offset) (little_bytes 8 r.dev_offset) e (low_first_small 0 8 r.dev_offset)

-- ---- each kind of line

pub and_both : (a b : Bool) → a ≡ true → b ≡ true → (a && b) ≡ true
and_both a b h k = ap (λ c. c && b) h ∙ k

session_fits : (answers : ℕ) (ws : List (List ℕ)) → Fits answers (session_line ws)
unfolding session_line
session_fits answers ws =
    after answers (has_count 2 ws) _ (λ c i. after answers (number 1 1024 (word ws 1)) _ (λ n j. said_fits answers (Begin n) (λ w. number_ok 1 1024 (word ws 1) n j)))

attach_fits : (answers : ℕ) (ws : List (List ℕ)) → Fits answers (attach_line ws)
unfolding attach_line
attach_fits answers ws =
    after answers (has_count 2 ws) _ (λ c i. after answers (number 1 4096 (word ws 1)) _ (λ n j. said_fits answers (Do (Attach n)) (λ w. number_ok 1 4096 (word ws 1) n j)))

first_small : (bytes : List ℕ) → length bytes ≡ 1 → list_all (λ b. nat_lt b 256) bytes ≡ true → nat_lt (get_or bytes 0 0) 256 ≡ true
first_small [] e h = refl
first_small (b ∷ bytes) e h = (and_true (nat_lt b 256) (list_all (λ c. nat_lt c 256) bytes) h).0

fill_fits : (answers : ℕ) (ws : List (List ℕ)) → Fits answers (fill_line ws)
unfolding fill_line
fill_fits answers ws =
    after answers (has_count 5 ws) _ (λ c0 i0. after answers (number 0 65535 (word ws 1)) _ (λ id i1. after answers (number 0 65535 (word ws 2)) _ (λ block i2. after answers (number 1 4096 (word ws 3)) _ (λ count i3. after answers (hex_bytes 1 (word ws 4)) _ (λ bytes i4.
    said_fits answers (Do (Fill id block count (get_or bytes 0 0)))
    (λ w. let x = hex_bytes_ok 1 (word ws 4) bytes i4 in
    and_both (is_between 0 65535 id) _ (number_ok 0 65535 (word ws 1) id i1)
    (and_both (is_between 0 65535 block) _ (number_ok 0 65535 (word ws 2) block i2)
    (and_both (is_between 1 4096 count) _ (number_ok 1 4096 (word ws 3) count i3) (first_small bytes x.0 x.1)))))))))

show_fits : (answers : ℕ) (ws : List (List ℕ)) → Fits answers (show_line ws)
unfolding show_line
show_fits answers ws =
    after answers (has_count 4 ws) _ (λ c0 i0. after answers (number 0 65535 (word ws 1)) _ (λ id i1. after answers (number 0 65535 (word ws 2)) _ (λ block i2. after answers (number 1 4096 (word ws 3)) _ (λ count i3.
    said_fits answers (Do (Show id block count))
    (λ w. and_both (is_between 0 65535 id) _ (number_ok 0 65535 (word ws 1) id i1)
    (and_both (is_between 0 65535 block) _ (number_ok 0 65535 (word ws 2) block i2) (number_ok 1 4096 (word ws 3) count i3)))))))

sends_fits : (answers : ℕ) (r : Request) → Fits answers (Ok (sends r))
sends_fits answers r = said_fits answers (sends r) (λ w. request_is_record r)

transfer_fits : (answers command n : ℕ) (ws : List (List ℕ)) → Fits answers (transfer_line command n ws)
unfolding transfer_line
transfer_fits answers command n ws =
    after answers (group_bits n ws) _ (λ bits i0. after answers (number 0 4294967295 (word ws 1)) _ (λ reqid i1. after answers (number 0 65535 (word ws 2)) _ (λ id i2. after answers (number 0 18446744073709551615 (word ws 3)) _ (λ offset i3. after answers (number 0 18446744073709551615 (word ws 4)) _ (λ block i4. after answers (number 0 4294967295 (word ws 5)) _ (λ len i5. after answers (group_number n ws) _ (λ group i6. sends_fits answers _)))))))

write_fits : (answers : ℕ) (ws : List (List ℕ)) → Fits answers (write_line ws)
unfolding write_line
write_fits answers ws = after answers (force_bit ws) _ (λ force i. transfer_fits answers (opcode_number op.Write + force) (write_count ws) ws)

flush_fits : (answers : ℕ) (ws : List (List ℕ)) → Fits answers (flush_line ws)
unfolding flush_line
flush_fits answers ws =
    after answers (group_bits 2 ws) _ (λ bits i0. after answers (number 0 4294967295 (word ws 1)) _ (λ reqid i1. after answers (group_number 2 ws) _ (λ group i2. sends_fits answers (record { command = opcode_number op.Flush + bits; reqid = reqid; group = group; vmoid = 0; length = 0; vmo_offset = 0; dev_offset = 0 }))))

trim_fits : (answers : ℕ) (ws : List (List ℕ)) → Fits answers (trim_line ws)
unfolding trim_line
trim_fits answers ws =
    after answers (group_bits 4 ws) _ (λ bits i0. after answers (number 0 4294967295 (word ws 1)) _ (λ reqid i1. after answers (number 0 18446744073709551615 (word ws 2)) _ (λ block i2. after answers (number 0 4294967295 (word ws 3)) _ (λ len i3. after answers (group_number 4 ws) _ (λ group i4. sends_fits answers (record { command = opcode_number op.Trim + bits; reqid = reqid; group = group; vmoid = 0; length = len; vmo_offset = 0; dev_offset = block }))))))

close_fits : (answers : ℕ) (ws : List (List ℕ)) → Fits answers (close_line ws)
unfolding close_line
close_fits answers ws =
    after answers (group_bits 3 ws) _ (λ bits i0. after answers (number 0 4294967295 (word ws 1)) _ (λ reqid i1. after answers (number 0 65535 (word ws 2)) _ (λ id i2. after answers (group_number 3 ws) _ (λ group i3. sends_fits answers (record { command = opcode_number op.Close + bits; reqid = reqid; group = group; vmoid = id; length = 0; vmo_offset = 0; dev_offset = 0 })))))

raw_fits : (answers : ℕ) (ws : List (List ℕ)) → Fits answers (raw_line ws)
unfolding raw_line
raw_fits answers ws =
    after answers (has_count 2 ws) _ (λ c i. after answers (hex_bytes 32 (word ws 1)) _ (λ bytes j.
    said_fits answers (Do (Send bytes))
    (λ w. let x = hex_bytes_ok 32 (word ws 1) bytes j in and_both (length bytes == 32) _ (eq-eqb (length bytes) 32 x.0) x.1)))

either_fits : (answers : ℕ) (b : Bool) (r t : Result Statement ScriptCause) → Fits answers r → Fits answers t → Fits answers (cond b r t)
either_fits answers true r t h k = h
either_fits answers false r t h k = k

wait_fits : (answers : ℕ) (ws : List (List ℕ)) → Fits answers (wait_line ws)
unfolding wait_line
wait_fits answers ws =
    either_fits answers (length ws == 1) _ _ (said_fits answers (Do WaitAll) (λ w. refl))
    (after answers (has_count 2 ws) _ (λ c i. after answers (number 1 4294967295 (word ws 1)) _ (λ total j.
    said_fits answers (Do (WaitFor total)) (λ w. and_both (is_between 1 4294967295 total) _ (number_ok 1 4294967295 (word ws 1) total j) w))))

end_fits : (answers : ℕ) (finish : Finish) (ws : List (List ℕ)) → Fits answers (end_line finish ws)
unfolding end_line
end_fits answers finish ws = after answers (has_count 1 ws) _ (λ c i. said_fits answers (End finish) (λ w. refl))

pub statement_fits : (answers : ℕ) (k : Keyword) (ws : List (List ℕ)) → Fits answers (statement k ws)
unfolding statement
statement_fits answers key.Session ws = session_fits answers ws
statement_fits answers key.Attach ws = attach_fits answers ws
statement_fits answers key.Fill ws = fill_fits answers ws
statement_fits answers key.Show ws = show_fits answers ws
statement_fits answers key.Read ws = transfer_fits answers (opcode_number op.Read) 6 ws
statement_fits answers key.Write ws = write_fits answers ws
statement_fits answers key.Flush ws = flush_fits answers ws
statement_fits answers key.Trim ws = trim_fits answers ws
statement_fits answers key.Close ws = close_fits answers ws
statement_fits answers key.Raw ws = raw_fits answers ws
statement_fits answers key.Wait ws = wait_fits answers ws
statement_fits answers key.Drain ws = end_fits answers Drain ws
statement_fits answers key.Abort ws = end_fits answers Abort ws
