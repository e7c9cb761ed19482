-- What is printed is made of words.
use Rattle.std.proofs.Common.{◌≡◌, ◌≢◌, ℕ, zero, suc, ◌+◌, ◌/◌, ◌%◌, ◌<◌, ◌≤◌, Bool, true, false, cond, ◌&&◌, nat_le, nat_lt, List, [], ◌∷◌, length, get_or, refl, ap, ◌∙◌, arith, Option, Some, None, decimal, codes}
use Rattle.std.specs.Prelude.{◌==◌}
use Rattle.std.specs.List.{list_all}
use Rattle.std.specs.Fmt.{digits, digits_onto, digit_glyph}
use Rattle.host_record.specs.declared.request.Request.{Request}
use Rattle.host_record.specs.{Opcode, Finish, Drain, Abort, request_of, is_forced, opcode}
use Rattle.host_record.specs.declared.opcode.Opcode.TheVariants as op
use Rattle.hex.specs.Hex.{encode_lower, encode_with, lower_digits}
use Rattle.host_text.specs.{hex}
use Rattle.script_model.specs.{is_allowed, high_bits, force_words, group_words, named_words, raw_words, named_or_raw, send_words, is_named, end_word}
use Rattle.script_model.proofs.Printed.{all_append, is_word, ne_false, weaker}
use Rattle.script_model.proofs.HexText.{hex-encode_lower}
use Rattle.script_model.proofs.PrintedValues.{and_true, le_from, le_true}

-- digits and lower-case letters among others
abbrev is_mark : ℕ → Bool
is_mark b = nat_le 48 b && nat_le b 126

mark_allowed : (b : ℕ) → is_mark b ≡ true → is_allowed b ≡ true
mark_allowed b h =
    let both = and_true (nat_le 48 b) (nat_le b 126) h in
    let low : 48 ≤ b = le_from 48 b both.0 in
    rw (le_true 33 b (omega arith), both.1)

marks_are_word : (w : List ℕ) → 0 < length w → list_all is_mark w ≡ true → is_word w ≡ true
marks_are_word [] h k = absurd (omega (arith, h))
marks_are_word (b ∷ w) h k =
    let low : 48 ≤ b = le_from 48 b (and_true (nat_le 48 b) (nat_le b 126) (and_true (is_mark b) (list_all is_mark w) k).0).0 in
    let some : (length (b ∷ w) == 0) ≡ false = ne_false (length (b ∷ w)) 0 (let ne : length (b ∷ w) ≢ 0 = omega (arith, h) in ne) in
    let plain : (b == 35) ≡ false = ne_false b 35 (let ne : b ≢ 35 = omega arith in ne) in
    rw (some, plain) (weaker is_mark is_allowed mark_allowed (b ∷ w) k)

mark_digit : (d : ℕ) → d < 10 → is_mark (digit_glyph false d) ≡ true
mark_digit d h =
    let e : nat_lt d 10 ≡ true = le_true (suc d) 10 h in
    rw e (rw (le_true 48 (48 + d) (omega arith), le_true (48 + d) 126 (omega arith)))

either_all : (b : Bool) (xs ys : List ℕ) → list_all is_mark xs ≡ true → list_all is_mark ys ≡ true → list_all is_mark (cond b xs ys) ≡ true
either_all true xs ys h k = h
either_all false xs ys h k = k

marks_onto : (k n : ℕ) (acc : List ℕ) → list_all is_mark acc ≡ true → list_all is_mark (digits_onto k 10 false n acc) ≡ true
marks_onto zero n acc h = h
marks_onto (suc k) n acc h =
    let more : list_all is_mark (digit_glyph false (n % 10) ∷ acc) ≡ true = rw (mark_digit (n % 10) (omega arith)) h in
    either_all (n / 10 == 0) (digit_glyph false (n % 10) ∷ acc) (digits_onto k 10 false (n / 10) (digit_glyph false (n % 10) ∷ acc)) more (marks_onto k (n / 10) (digit_glyph false (n % 10) ∷ acc) more)

either_some : (b : Bool) (xs ys : List ℕ) → 0 < length xs → 0 < length ys → 0 < length (cond b xs ys)
either_some true xs ys h k = h
either_some false xs ys h k = k

some_onto : (k n : ℕ) (acc : List ℕ) → 0 < length acc → 0 < length (digits_onto k 10 false n acc)
some_onto zero n acc h = h
some_onto (suc k) n acc h = either_some (n / 10 == 0) (digit_glyph false (n % 10) ∷ acc) (digits_onto k 10 false (n / 10) (digit_glyph false (n % 10) ∷ acc)) (omega arith) (some_onto k (n / 10) (digit_glyph false (n % 10) ∷ acc) (omega arith))

pub decimal_is_word : (n : ℕ) → is_word (decimal n) ≡ true
unfolding digits
decimal_is_word n =
    marks_are_word (digits_onto 64 10 false n [])
    (either_some (n / 10 == 0) (digit_glyph false (n % 10) ∷ []) (digits_onto 63 10 false (n / 10) (digit_glyph false (n % 10) ∷ [])) (omega arith) (some_onto 63 (n / 10) (digit_glyph false (n % 10) ∷ []) (omega arith)))
    (marks_onto 64 n [] refl)

-- ---- hexadecimal digits

mark_at : (xs : List ℕ) (i : ℕ) → i < length xs → list_all is_mark xs ≡ true → is_mark (get_or xs i 0) ≡ true
mark_at [] i h k = absurd (omega (arith, h))
mark_at (x ∷ xs) zero h k = (and_true (is_mark x) (list_all is_mark xs) k).0
mark_at (x ∷ xs) (suc i) h k = mark_at xs i (omega (arith, h)) (and_true (is_mark x) (list_all is_mark xs) k).1

marks_hex : (bytes : List ℕ) → list_all (λ b. nat_lt b 256) bytes ≡ true → list_all is_mark (encode_with lower_digits bytes) ≡ true
unfolding encode_with
marks_hex [] h = refl
marks_hex (b ∷ bytes) h =
    let both = and_true (nat_lt b 256) (list_all (λ c. nat_lt c 256) bytes) h in
    let small : suc b ≤ 256 = le_from (suc b) 256 both.0 in
    let high : is_mark (get_or lower_digits (b / 16) 0) ≡ true = mark_at lower_digits (b / 16) (omega arith) refl in
    let low : is_mark (get_or lower_digits (b % 16) 0) ≡ true = mark_at lower_digits (b % 16) (omega arith) refl in
    rw (high, low) (marks_hex bytes both.1)

some_hex : (bytes : List ℕ) → 0 < length bytes → 0 < length (encode_with lower_digits bytes)
unfolding encode_with
some_hex [] h = absurd (omega (arith, h))
some_hex (b ∷ bytes) h = omega arith

pub hex_is_word : (bytes : List ℕ) → 0 < length bytes → list_all (λ b. nat_lt b 256) bytes ≡ true → is_word (hex bytes) ≡ true
hex_is_word bytes h k = ap is_word (hex-encode_lower bytes k) ∙ marks_are_word (encode_lower bytes) (some_hex bytes h) (marks_hex bytes k)

-- ---- lines

pub and_word : (w : List ℕ) (ws : List (List ℕ)) → is_word w ≡ true → list_all is_word ws ≡ true → list_all is_word (w ∷ ws) ≡ true
and_word w ws h k = ap (λ b. b && list_all is_word ws) h ∙ k

either_words : (b : Bool) (vs ws : List (List ℕ)) → list_all is_word vs ≡ true → list_all is_word ws ≡ true → list_all is_word (cond b vs ws) ≡ true
either_words true vs ws h k = h
either_words false vs ws h k = k

group_is_words : (r : Request) → list_all is_word (group_words r) ≡ true
group_is_words r =
    let number = and_word (decimal r.group) [] (decimal_is_word r.group) refl in
    either_words (high_bits r == 0x800) (codes "member" ∷ decimal r.group ∷ []) (cond (high_bits r == 0xc00) (codes "last" ∷ decimal r.group ∷ []) [])
    (and_word (codes "member") (decimal r.group ∷ []) refl number)
    (either_words (high_bits r == 0xc00) (codes "last" ∷ decimal r.group ∷ []) [] (and_word (codes "last") (decimal r.group ∷ []) refl number) refl)

force_is_words : (r : Request) → list_all is_word (force_words r) ≡ true
force_is_words r = either_words (is_forced r) (codes "force" ∷ []) [] (and_word (codes "force") [] refl refl) refl

-- a record, so that its list is found
pub record AreWords (ws : List (List ℕ)) : Type 0 where
  pub all : list_all is_word ws ≡ true

pub word_first : {ws : List (List ℕ)} (w : List ℕ) → is_word w ≡ true → AreWords ws → AreWords (w ∷ ws)
word_first {ws} w h more = record { all = and_word w ws h more.all }

pub number_first : {ws : List (List ℕ)} (n : ℕ) → AreWords ws → AreWords (decimal n ∷ ws)
number_first n more = word_first (decimal n) (decimal_is_word n) more

pub no_words : AreWords []
no_words = record { all = refl }

named_are_words : (code : Opcode) (r : Request) → AreWords (named_words code r)
named_are_words op.Read r = word_first (codes "read") refl (number_first r.reqid (number_first r.vmoid (number_first r.vmo_offset (number_first r.dev_offset (number_first r.length (record { all = group_is_words r }))))))
named_are_words op.Write r =
    word_first (codes "write") refl (number_first r.reqid (number_first r.vmoid (number_first r.vmo_offset (number_first r.dev_offset (number_first r.length
    (record { all = all_append is_word (force_words r) (group_words r) (force_is_words r) (group_is_words r) }))))))
named_are_words op.Flush r = word_first (codes "flush") refl (number_first r.reqid (record { all = group_is_words r }))
named_are_words op.Trim r = word_first (codes "trim") refl (number_first r.reqid (number_first r.dev_offset (number_first r.length (record { all = group_is_words r }))))
named_are_words op.Close r = word_first (codes "close") refl (number_first r.reqid (number_first r.vmoid (record { all = group_is_words r })))

named_or_raw_is_words : (bytes : List ℕ) (code : Option Opcode) → list_all is_word (raw_words bytes) ≡ true → list_all is_word (named_or_raw bytes code) ≡ true
named_or_raw_is_words bytes None h = h
named_or_raw_is_words bytes (Some code) h =
    either_words (is_named code bytes) (named_words code (request_of bytes)) (raw_words bytes) (named_are_words code (request_of bytes)).all h

pub send_is_words : (bytes : List ℕ) → 0 < length bytes → list_all (λ b. nat_lt b 256) bytes ≡ true → list_all is_word (send_words bytes) ≡ true
unfolding send_words
send_is_words bytes h k = named_or_raw_is_words bytes (opcode (request_of bytes)) (and_word (codes "raw") (hex bytes ∷ []) refl (and_word (hex bytes) [] (hex_is_word bytes h k) refl))

pub end_is_words : (finish : Finish) → list_all is_word (end_word finish ∷ []) ≡ true
end_is_words Drain = refl
end_is_words Abort = refl
