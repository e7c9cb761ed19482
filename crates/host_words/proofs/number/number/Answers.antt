use Rattle.std.proofs.Common.{suc, length, get_or, drop-cons, ◌≡◌, ◌∙◌, ◌<◌, ◌+◌, ◌-◌, ◌*◌, ℕ, Bool, true, false, ◌&&◌, cond, nat_le, [], ◌∷◌, None, Some, refl, ap, sym, arith, rules, drop}
use Rattle.host_words.specs.{Word, word_digits_after, word_in_range, is_digit, number, decimal}
use Rattle.host_words.proofs.number.number.Goals as goal

and_false : (b : Bool) → (b && false) ≡ false
and_false true = refl
and_false false = refl

past : (low high n : ℕ) → high < n → word_in_range low high (Some n) ≡ None
past low high n h = let no : nat_le n high ≡ false = search (rules, arith) in rw (no, and_false (nat_le low n)) refl

-- a value that is past its range stays so
stays_past : (low high n : ℕ) (ds : Word) → high < n → word_in_range low high (word_digits_after n ds) ≡ None
stays_past low high n [] h = past low high n h
stays_past low high n (d ∷ ds) h = go (is_digit d) (stays_past low high (n * 10 + (d - 48)) ds (omega arith))
  where
    go : (b : Bool) → word_in_range low high (word_digits_after (n * 10 + (d - 48)) ds) ≡ None → word_in_range low high (cond b (word_digits_after (n * 10 + (d - 48)) ds) None) ≡ None
    go true next = next
    go false next = refl

at_digit : (low high n d : ℕ) (ds : Word) → high < n * 10 + (d - 48) → word_in_range low high (word_digits_after n (d ∷ ds)) ≡ None
at_digit low high n d ds h = go (is_digit d)
  where
    go : (b : Bool) → word_in_range low high (cond b (word_digits_after (n * 10 + (d - 48)) ds) None) ≡ None
    go true = stays_past low high (n * 10 + (d - 48)) ds h
    go false = refl

past_at : (low high n i : ℕ) (word : Word) → i < length word → word_digits_after n (drop i word) ≡ word_digits_after 0 word → high < n * 10 + (get_or word i 0 - 48) → None ≡ word_in_range low high (decimal word)
past_at low high n i [] lt same h = absurd (omega arith)
past_at low high n i (b ∷ bs) lt same h =
    let here : drop i (b ∷ bs) ≡ get_or (b ∷ bs) i 0 ∷ drop (suc i) (b ∷ bs) = drop-cons (b ∷ bs) i 0 lt in
    sym (ap (word_in_range low high) (sym same ∙ ap (word_digits_after n) here) ∙ at_digit low high n (get_or (b ∷ bs) i 0) (drop (suc i) (b ∷ bs)) h)

pub returns-then-value-from : goal.returns-then-value-from
unfolding number
returns-then-value-from c =
    let value = c.as_bytes-digits.ensures.value in
    past_at c.args.low c.args.high c.loop-digit.value c.loop-digit.digit-index c.args.word.now (search rules) c.loop-digit.invariant.rest (search rules)
