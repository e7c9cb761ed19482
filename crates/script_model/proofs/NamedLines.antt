-- What the named line of a record says.
use Rattle.std.proofs.Common.{◌≡◌, ℕ, ◌+◌, ◌<◌, ◌≤◌, ◌^◌, Bool, true, false, cond, ◌&&◌, nat_le, List, [], ◌∷◌, ◌++◌, refl, ap, ◌∙◌, arith, Result, Ok, Err, decimal, codes}
use Rattle.std.specs.Prelude.{◌==◌, ◌||◌}
use Rattle.std.specs.Str.{bytes_eq}
use Rattle.host_record.specs.declared.request.Request.{Request}
use Rattle.host_record.specs.{Opcode, is_forced, request_bytes, request_of}
use Rattle.host_record.specs.declared.opcode.Opcode.TheVariants as op
use Rattle.script_model.specs.{ScriptCause, BadNumber, Statement, force_bit, group_bits, group_number, keyword_of, statement, sends, transfer_line, write_line, flush_line, trim_line, close_line, force_of, high_bits, named_bits, named_group, has_named_group, named_request, number, is_sending, is_named, named_words, says, ◌>>=◌}
use Rattle.script_model.proofs.PrintedValues.{decimal_value-decimal, le_true, number-decimal}

-- the group words that are printed, by what the bits above the opcode are
abbrev tail : Bool → Bool → ℕ → List (List ℕ)
tail member last g = cond member (codes "member" ∷ decimal g ∷ []) (cond last (codes "last" ∷ decimal g ∷ []) [])

abbrev bits_by : Bool → Bool → ℕ
bits_by member last = cond member 0x800 (cond last 0xc00 0)

-- what a line with them says, which sends a request of these bits and that group
abbrev said : Bool → Bool → ℕ → (ℕ → ℕ → Request) → Result Statement ScriptCause
said member last g f =
    cond member (number 0 7 (decimal g) >>= λ k. Ok (sends (f 0x800 k))) (cond last (number 0 7 (decimal g) >>= λ k. Ok (sends (f 0xc00 k))) (Ok (sends (f 0 0))))

-- ---- whether it sends just these bytes

either_sends : (b : Bool) (g : ℕ) (bytes : List ℕ) (f : ℕ → Request) → is_sending bytes (cond b (Ok g) (Err BadNumber) >>= λ k. Ok (sends (f k))) ≡ (b && bytes_eq (request_bytes (f g)) bytes)
either_sends true g bytes f = refl
either_sends false g bytes f = refl

number_group : (g : ℕ) → g < 2 ^ 64 → number 0 7 (decimal g) ≡ cond (nat_le g 7) (Ok g) (Err BadNumber)
unfolding number
number_group g h = rw (decimal_value-decimal g h, le_true 0 g (omega arith))

group_sends : (g : ℕ) (bytes : List ℕ) (f : ℕ → Request) → g < 2 ^ 64 → is_sending bytes (number 0 7 (decimal g) >>= λ k. Ok (sends (f k))) ≡ (nat_le g 7 && bytes_eq (request_bytes (f g)) bytes)
group_sends g bytes f h = ap (λ r. is_sending bytes (r >>= λ k. Ok (sends (f k)))) (number_group g h) ∙ either_sends (nat_le g 7) g bytes f

said_sends : (member last : Bool) (g : ℕ) (bytes : List ℕ) (f : ℕ → ℕ → Request) → g < 2 ^ 64
    → is_sending bytes (said member last g f) ≡ ((bits_by member last == 0 || nat_le g 7) && bytes_eq (request_bytes (f (bits_by member last) (cond (bits_by member last == 0) 0 g))) bytes)
said_sends true last g bytes f h = group_sends g bytes (f 0x800) h
said_sends false true g bytes f h = group_sends g bytes (f 0xc00) h
said_sends false false g bytes f h = refl

-- ---- each kind of line

says_read : (member last : Bool) (g reqid id buffer block len : ℕ) → reqid ≤ 4294967295 → id ≤ 65535 → buffer ≤ 18446744073709551615 → block ≤ 18446744073709551615 → len ≤ 4294967295
    → says (codes "read" ∷ decimal reqid ∷ decimal id ∷ decimal buffer ∷ decimal block ∷ decimal len ∷ tail member last g)
    ≡ said member last g (λ bits group. record { command = 1 + bits; reqid = reqid; group = group; vmoid = id; length = len; vmo_offset = buffer; dev_offset = block })
unfolding keyword_of statement transfer_line group_bits group_number
says_read true last g reqid id buffer block len a b c d e = rw (number-decimal 0 4294967295 reqid (omega arith) a (omega arith), number-decimal 0 65535 id (omega arith) b (omega arith), number-decimal 0 18446744073709551615 buffer (omega arith) c (omega arith), number-decimal 0 18446744073709551615 block (omega arith) d (omega arith), number-decimal 0 4294967295 len (omega arith) e (omega arith))
says_read false true g reqid id buffer block len a b c d e = rw (number-decimal 0 4294967295 reqid (omega arith) a (omega arith), number-decimal 0 65535 id (omega arith) b (omega arith), number-decimal 0 18446744073709551615 buffer (omega arith) c (omega arith), number-decimal 0 18446744073709551615 block (omega arith) d (omega arith), number-decimal 0 4294967295 len (omega arith) e (omega arith))
says_read false false g reqid id buffer block len a b c d e = rw (number-decimal 0 4294967295 reqid (omega arith) a (omega arith), number-decimal 0 65535 id (omega arith) b (omega arith), number-decimal 0 18446744073709551615 buffer (omega arith) c (omega arith), number-decimal 0 18446744073709551615 block (omega arith) d (omega arith), number-decimal 0 4294967295 len (omega arith) e (omega arith))

-- the word that forces a write, and the bit that it stands for
abbrev forcing : Bool → List (List ℕ)
forcing forced = cond forced (codes "force" ∷ []) []

abbrev force_by : Bool → ℕ
force_by forced = cond forced 0x1000 0

says_write : (forced member last : Bool) (g reqid id buffer block len : ℕ) → reqid ≤ 4294967295 → id ≤ 65535 → buffer ≤ 18446744073709551615 → block ≤ 18446744073709551615 → len ≤ 4294967295
    → says (codes "write" ∷ decimal reqid ∷ decimal id ∷ decimal buffer ∷ decimal block ∷ decimal len ∷ (forcing forced ++ tail member last g))
    ≡ said member last g (λ bits group. record { command = 2 + force_by forced + bits; reqid = reqid; group = group; vmoid = id; length = len; vmo_offset = buffer; dev_offset = block })
unfolding keyword_of statement write_line transfer_line force_bit group_bits group_number
says_write true true last g reqid id buffer block len a b c d e = rw (number-decimal 0 4294967295 reqid (omega arith) a (omega arith), number-decimal 0 65535 id (omega arith) b (omega arith), number-decimal 0 18446744073709551615 buffer (omega arith) c (omega arith), number-decimal 0 18446744073709551615 block (omega arith) d (omega arith), number-decimal 0 4294967295 len (omega arith) e (omega arith))
says_write true false true g reqid id buffer block len a b c d e = rw (number-decimal 0 4294967295 reqid (omega arith) a (omega arith), number-decimal 0 65535 id (omega arith) b (omega arith), number-decimal 0 18446744073709551615 buffer (omega arith) c (omega arith), number-decimal 0 18446744073709551615 block (omega arith) d (omega arith), number-decimal 0 4294967295 len (omega arith) e (omega arith))
says_write true false false g reqid id buffer block len a b c d e = rw (number-decimal 0 4294967295 reqid (omega arith) a (omega arith), number-decimal 0 65535 id (omega arith) b (omega arith), number-decimal 0 18446744073709551615 buffer (omega arith) c (omega arith), number-decimal 0 18446744073709551615 block (omega arith) d (omega arith), number-decimal 0 4294967295 len (omega arith) e (omega arith))
says_write false true last g reqid id buffer block len a b c d e = rw (number-decimal 0 4294967295 reqid (omega arith) a (omega arith), number-decimal 0 65535 id (omega arith) b (omega arith), number-decimal 0 18446744073709551615 buffer (omega arith) c (omega arith), number-decimal 0 18446744073709551615 block (omega arith) d (omega arith), number-decimal 0 4294967295 len (omega arith) e (omega arith))
says_write false false true g reqid id buffer block len a b c d e = rw (number-decimal 0 4294967295 reqid (omega arith) a (omega arith), number-decimal 0 65535 id (omega arith) b (omega arith), number-decimal 0 18446744073709551615 buffer (omega arith) c (omega arith), number-decimal 0 18446744073709551615 block (omega arith) d (omega arith), number-decimal 0 4294967295 len (omega arith) e (omega arith))
says_write false false false g reqid id buffer block len a b c d e = rw (number-decimal 0 4294967295 reqid (omega arith) a (omega arith), number-decimal 0 65535 id (omega arith) b (omega arith), number-decimal 0 18446744073709551615 buffer (omega arith) c (omega arith), number-decimal 0 18446744073709551615 block (omega arith) d (omega arith), number-decimal 0 4294967295 len (omega arith) e (omega arith))

says_flush : (member last : Bool) (g reqid : ℕ) → reqid ≤ 4294967295
    → says (codes "flush" ∷ decimal reqid ∷ tail member last g)
    ≡ said member last g (λ bits group. record { command = 3 + bits; reqid = reqid; group = group; vmoid = 0; length = 0; vmo_offset = 0; dev_offset = 0 })
unfolding keyword_of statement flush_line group_bits group_number
says_flush true last g reqid a = rw (number-decimal 0 4294967295 reqid (omega arith) a (omega arith))
says_flush false true g reqid a = rw (number-decimal 0 4294967295 reqid (omega arith) a (omega arith))
says_flush false false g reqid a = rw (number-decimal 0 4294967295 reqid (omega arith) a (omega arith))

says_trim : (member last : Bool) (g reqid block len : ℕ) → reqid ≤ 4294967295 → block ≤ 18446744073709551615 → len ≤ 4294967295
    → says (codes "trim" ∷ decimal reqid ∷ decimal block ∷ decimal len ∷ tail member last g)
    ≡ said member last g (λ bits group. record { command = 4 + bits; reqid = reqid; group = group; vmoid = 0; length = len; vmo_offset = 0; dev_offset = block })
unfolding keyword_of statement trim_line group_bits group_number
says_trim true last g reqid block len a b c = rw (number-decimal 0 4294967295 reqid (omega arith) a (omega arith), number-decimal 0 18446744073709551615 block (omega arith) b (omega arith), number-decimal 0 4294967295 len (omega arith) c (omega arith))
says_trim false true g reqid block len a b c = rw (number-decimal 0 4294967295 reqid (omega arith) a (omega arith), number-decimal 0 18446744073709551615 block (omega arith) b (omega arith), number-decimal 0 4294967295 len (omega arith) c (omega arith))
says_trim false false g reqid block len a b c = rw (number-decimal 0 4294967295 reqid (omega arith) a (omega arith), number-decimal 0 18446744073709551615 block (omega arith) b (omega arith), number-decimal 0 4294967295 len (omega arith) c (omega arith))

says_close : (member last : Bool) (g reqid id : ℕ) → reqid ≤ 4294967295 → id ≤ 65535
    → says (codes "close" ∷ decimal reqid ∷ decimal id ∷ tail member last g)
    ≡ said member last g (λ bits group. record { command = 5 + bits; reqid = reqid; group = group; vmoid = id; length = 0; vmo_offset = 0; dev_offset = 0 })
unfolding keyword_of statement close_line group_bits group_number
says_close true last g reqid id a b = rw (number-decimal 0 4294967295 reqid (omega arith) a (omega arith), number-decimal 0 65535 id (omega arith) b (omega arith))
says_close false true g reqid id a b = rw (number-decimal 0 4294967295 reqid (omega arith) a (omega arith), number-decimal 0 65535 id (omega arith) b (omega arith))
says_close false false g reqid id a b = rw (number-decimal 0 4294967295 reqid (omega arith) a (omega arith), number-decimal 0 65535 id (omega arith) b (omega arith))

-- ---- the test

-- the fields that are printed are in their ranges
pub record IsSized (r : Request) : Type 0 where
  pub reqid : r.reqid ≤ 4294967295
  pub group : r.group ≤ 65535
  pub vmoid : r.vmoid ≤ 65535
  pub length : r.length ≤ 4294967295
  pub vmo_offset : r.vmo_offset ≤ 18446744073709551615
  pub dev_offset : r.dev_offset ≤ 18446744073709551615

-- the request that a line of this kind spells, with these bits and that group
abbrev spelled : Opcode → Request → ℕ → ℕ → Request
spelled op.Read r bits group = record { command = 1 + bits; reqid = r.reqid; group = group; vmoid = r.vmoid; length = r.length; vmo_offset = r.vmo_offset; dev_offset = r.dev_offset }
spelled op.Write r bits group = record { command = 2 + force_of r + bits; reqid = r.reqid; group = group; vmoid = r.vmoid; length = r.length; vmo_offset = r.vmo_offset; dev_offset = r.dev_offset }
spelled op.Flush r bits group = record { command = 3 + bits; reqid = r.reqid; group = group; vmoid = 0; length = 0; vmo_offset = 0; dev_offset = 0 }
spelled op.Trim r bits group = record { command = 4 + bits; reqid = r.reqid; group = group; vmoid = 0; length = r.length; vmo_offset = 0; dev_offset = r.dev_offset }
spelled op.Close r bits group = record { command = 5 + bits; reqid = r.reqid; group = group; vmoid = r.vmoid; length = 0; vmo_offset = 0; dev_offset = 0 }

says_spelled : (code : Opcode) (r : Request) → IsSized r → says (named_words code r) ≡ said (high_bits r == 0x800) (high_bits r == 0xc00) r.group (spelled code r)
says_spelled op.Read r s = says_read (high_bits r == 0x800) (high_bits r == 0xc00) r.group r.reqid r.vmoid r.vmo_offset r.dev_offset r.length s.reqid s.vmoid s.vmo_offset s.dev_offset s.length
says_spelled op.Write r s = says_write (is_forced r) (high_bits r == 0x800) (high_bits r == 0xc00) r.group r.reqid r.vmoid r.vmo_offset r.dev_offset r.length s.reqid s.vmoid s.vmo_offset s.dev_offset s.length
says_spelled op.Flush r s = says_flush (high_bits r == 0x800) (high_bits r == 0xc00) r.group r.reqid s.reqid
says_spelled op.Trim r s = says_trim (high_bits r == 0x800) (high_bits r == 0xc00) r.group r.reqid r.dev_offset r.length s.reqid s.dev_offset s.length
says_spelled op.Close r s = says_close (high_bits r == 0x800) (high_bits r == 0xc00) r.group r.reqid r.vmoid s.reqid s.vmoid

spelled_named : (code : Opcode) (r : Request) → spelled code r (named_bits r) (named_group r) ≡ named_request code r
spelled_named op.Read r = refl
spelled_named op.Write r = refl
spelled_named op.Flush r = refl
spelled_named op.Trim r = refl
spelled_named op.Close r = refl

pub is_named-by : (code : Opcode) (bytes : List ℕ) → IsSized (request_of bytes) → is_named code bytes ≡ (has_named_group (request_of bytes) && bytes_eq (request_bytes (named_request code (request_of bytes))) bytes)
unfolding is_named
is_named-by code bytes s =
    let r : Request = request_of bytes in
    ap (is_sending bytes) (says_spelled code r s)
    ∙ said_sends (high_bits r == 0x800) (high_bits r == 0xc00) r.group bytes (spelled code r) (let g = s.group in omega arith)
    ∙ ap (λ (t : Request). has_named_group r && bytes_eq (request_bytes t) bytes) (spelled_named code r)
