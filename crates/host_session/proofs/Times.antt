-- How often a number stands in a list.
use Rattle.std.proofs.Common.{◌≡◌, ℕ, zero, suc, ◌+◌, ◌≤◌, ◌<◌, Bool, true, false, not, cond, nat_eq, List, [], ◌∷◌, ◌++◌, length, filter, take, drop, refl, sym, ap, ◌∙◌, arith, length-append}
use Rattle.std.proofs.lemmas.Bool.{eqb-true, eq-eqb, ne_eqb}
use Rattle.std.proofs.lemmas.Bool.Decides.{nat_tests}
use Rattle.std.proofs.lemmas.List.{take-append-drop}
use Rattle.std.proofs.lemmas.List.Elements.{filter-append}
use Rattle.std.specs.List.{range_with_len}
use Rattle.host_model.specs.{count}
use Rattle.host_model.proofs.Counts.{times-cons, times-without, length-without, length-counts, without}
use Rattle.host_session.specs.{times}

same : (n : ℕ) → nat_eq n n ≡ true
same n = eq-eqb n n refl

sound : (m n : ℕ) → nat_eq m n ≡ true → m ≡ n
sound m n e = eqb-true m n e

pub times_one : (z x : ℕ) (xs : List ℕ) → times z (x ∷ xs) ≡ cond (nat_eq z x) 1 0 + times z xs
times_one z x xs = times-cons nat_eq same sound z x xs

pub times_self : (x : ℕ) (xs : List ℕ) → 0 < times x (x ∷ xs)
times_self x xs = let one : times x (x ∷ xs) ≡ 1 + times x xs = times_one x x xs ∙ ap (λ b. cond b 1 0 + times x xs) (same x) in omega (arith, one)

-- one step of the next: b and d are the tests of x and z, c whether they are one, f those that pass behind x
filter_step : (z x : ℕ) (xs f : List ℕ) (b c d : Bool) → (c ≡ true → b ≡ d) → times z (x ∷ f) ≡ cond c 1 0 + times z f → times z f ≡ cond d (times z xs) 0
    → times z (cond b (x ∷ f) f) ≡ cond d (cond c 1 0 + times z xs) 0
filter_step z x xs f true c true k h ih = h ∙ ap (λ n. cond c 1 0 + n) ih
filter_step z x xs f true true false k h ih = absurd (cc (k refl))
filter_step z x xs f true false false k h ih = omega (arith, h, ih)
filter_step z x xs f false true true k h ih = absurd (cc (k refl))
filter_step z x xs f false false true k h ih = omega (arith, ih)
filter_step z x xs f false c false k h ih = ih

-- how often a number that passes a test stands among those that pass
pub times-filter : (test : ℕ → Bool) (z : ℕ) (xs : List ℕ) → times z (filter test xs) ≡ cond (test z) (times z xs) 0
times-filter test z [] = elim (test z) as (λ b. ◌≡◌ {A = ℕ} 0 (cond b 0 0)) [ true ↦ refl | false ↦ refl ]
times-filter test z (x ∷ xs) =
    filter_step z x xs (filter test xs) (test x) (nat_eq z x) (test z) (λ e. ap test (sym (sound z x e))) (times_one z x (filter test xs)) (times-filter test z xs)
    ∙ ap (λ n. cond (test z) n 0) (sym (times_one z x xs))

-- ---- the first elements

pub count-append : {A : Type 0} (test : A → Bool) (xs ys : List A) → count test (xs ++ ys) ≡ count test xs + count test ys
count-append test xs ys = ap length (filter-append test xs ys) ∙ length-append (filter test xs) (filter test ys)

pub times-take : (z k : ℕ) (xs : List ℕ) → times z (take k xs) ≤ times z xs
times-take z k xs =
    let e : times z xs ≡ times z (take k xs) + times z (drop k xs) = ap (times z) (sym (take-append-drop k xs)) ∙ count-append (nat_eq z) (take k xs) (drop k xs) in
    omega (arith, e)

-- ---- the numbers of a range

-- a number that the range begins after
pub range_misses : (z a n : ℕ) → z < a → times z (range_with_len a n) ≡ 0
range_misses z a zero h = refl
range_misses z a (suc n) h =
    let ne : nat_eq z a ≡ false = ne_eqb z a (λ e. omega (arith, e, h)) in
    times_one z a (range_with_len (a + 1) n) ∙ ap (λ b. cond b 1 0 + times z (range_with_len (a + 1) n)) ne ∙ omega (arith, range_misses z (a + 1) n (omega (arith, h)))

pub range_has : (z a n : ℕ) → a ≤ z → z < a + n → 0 < times z (range_with_len a n)
range_has z a zero lo hi = absurd (omega (arith, lo, hi))
range_has z a (suc n) lo hi = at (nat_eq z a) refl (λ p q. range_has z (a + 1) n p q)
  where
    at : (b : Bool) → nat_eq z a ≡ b → (a + 1 ≤ z → z < a + 1 + n → 0 < times z (range_with_len (a + 1) n)) → 0 < times z (a ∷ range_with_len (a + 1) n)
    at true e later = let one : times z (a ∷ range_with_len (a + 1) n) ≡ 1 + times z (range_with_len (a + 1) n) = times_one z a (range_with_len (a + 1) n) ∙ ap (λ b. cond b 1 0 + times z (range_with_len (a + 1) n)) e in omega (arith, one)
    at false e later =
        let one : times z (a ∷ range_with_len (a + 1) n) ≡ 0 + times z (range_with_len (a + 1) n) = times_one z a (range_with_len (a + 1) n) ∙ ap (λ b. cond b 1 0 + times z (range_with_len (a + 1) n)) e in
        let more : a + 1 ≤ z = grind (arith, nat_tests, e, lo) in
        omega (arith, one, later more (omega (arith, hi)))

pub range_once : (z a n : ℕ) → times z (range_with_len a n) ≤ 1
range_once z a zero = omega arith
range_once z a (suc n) = at (nat_eq z a) refl (range_once z (a + 1) n)
  where
    at : (b : Bool) → nat_eq z a ≡ b → times z (range_with_len (a + 1) n) ≤ 1 → times z (a ∷ range_with_len (a + 1) n) ≤ 1
    at true e later =
        let one : times z (a ∷ range_with_len (a + 1) n) ≡ 1 + times z (range_with_len (a + 1) n) = times_one z a (range_with_len (a + 1) n) ∙ ap (λ b. cond b 1 0 + times z (range_with_len (a + 1) n)) e in
        let none : times z (range_with_len (a + 1) n) ≡ 0 = range_misses z (a + 1) n (omega (arith, sound z a e)) in
        omega (arith, one, none)
    at false e later =
        let one : times z (a ∷ range_with_len (a + 1) n) ≡ 0 + times z (range_with_len (a + 1) n) = times_one z a (range_with_len (a + 1) n) ∙ ap (λ b. cond b 1 0 + times z (range_with_len (a + 1) n)) e in
        omega (arith, one, later)

-- ---- lists that stand within others

-- Each number of the first list stands there once, and in the second too.
pub record StandsOnce (some all : List ℕ) : Type 0 where
  pub once : (z : ℕ) → times z some ≤ 1
  pub among : (z : ℕ) → 0 < times z some → 0 < times z all

within_step : (b : Bool) (m n : ℕ) → m ≤ 1 → (0 < m → 0 < n) → cond b m 0 ≤ cond b n 0
within_step false m n one among = omega arith
within_step true zero n one among = omega arith
within_step true (suc m) n one among = omega (arith, one, among (omega arith))

-- no more of them pass a test
pub fewer_pass : (test : ℕ → Bool) (some all : List ℕ) → StandsOnce some all → count test some ≤ count test all
fewer_pass test some all h = length-counts nat_eq same sound (filter test some) (filter test all)
    (λ z. omega (arith, within_step (test z) (times z some) (times z all) (h.once z) (h.among z), times-filter test z some, times-filter test z all))

pub count_split : {A : Type 0} (test : A → Bool) (xs : List A) → count test xs + count (λ x. not (test x)) xs ≡ length xs
count_split test [] = refl
count_split test (x ∷ xs) = elim (test x) as (λ b. length (cond b (x ∷ filter test xs) (filter test xs)) + length (cond (not b) (x ∷ filter (λ y. not (test y)) xs) (filter (λ y. not (test y)) xs)) ≡ suc (length xs)) [
  | true ↦ omega (arith, count_split test xs)
  | false ↦ omega (arith, count_split test xs)
]

-- where there are no fewer of them, as many pass
pub as_many_pass : (test : ℕ → Bool) (some all : List ℕ) → StandsOnce some all → length all ≤ length some → count test some ≡ count test all
as_many_pass test some all h enough =
    omega (arith, fewer_pass test some all h, fewer_pass (λ x. not (test x)) some all h, count_split test some, count_split test all, enough)

pub no_more : (some all : List ℕ) → StandsOnce some all → length some ≤ length all
no_more some all h = length-counts nat_eq same sound some all (λ z. at z (times z some) refl)
  where
    at : (z n : ℕ) → times z some ≡ n → times z some ≤ times z all
    at z zero e = omega (arith, e)
    at z (suc n) e = omega (arith, e, h.once z, h.among z (omega (arith, e)))

-- one number: passes is its test, a and b how often it stands in both lists, c whether it is the one left out, w how often it is left
bound_step : (passes c : Bool) (a b w : ℕ) → a ≤ 1 → (0 < a → 0 < b) → (c ≡ true → a ≡ 0) → cond passes b 0 ≡ cond c 1 0 + w → cond passes a 0 ≤ w
bound_step false c a b w one some none e = omega arith
bound_step true true a b w one some none e = omega (arith, none refl)
bound_step true false zero b w one some none e = omega arith
bound_step true false (suc a) b w one some none e = omega (arith, one, some (omega arith), e)

-- Where as many pass in both lists, each of the second that passes stands in the first.
pub found_again : (test : ℕ → Bool) (some all : List ℕ) → StandsOnce some all → count test some ≡ count test all
    → (o : ℕ) → 0 < times o all → test o ≡ true → 0 < times o some
found_again test some all h equal o there passes = at (times o some) refl
  where
    kept : 0 < times o (filter test all)
    kept = omega (arith, there, times-filter test o all ∙ ap (λ b. cond b (times o all) 0) passes)

    bound : times o some ≡ 0 → (z : ℕ) → times z (filter test some) ≤ times z (without nat_eq same sound o (filter test all))
    bound none z =
        let left : ℕ = times z (without nat_eq same sound o (filter test all)) in
        let c : cond (test z) (times z all) 0 ≡ cond (nat_eq z o) 1 0 + left = sym (times-filter test z all) ∙ times-without nat_eq same sound o z (filter test all) kept in
        let k : nat_eq z o ≡ true → times z some ≡ 0 = λ e. ap (λ n. times n some) (sound z o e) ∙ none in
        let p : cond (test z) (times z some) 0 ≤ left = bound_step (test z) (nat_eq z o) (times z some) (times z all) left (h.once z) (h.among z) k c in
        omega (arith, p, times-filter test z some)

    at : (n : ℕ) → times o some ≡ n → 0 < times o some
    at zero e =
        let shorter : length (filter test some) ≤ length (without nat_eq same sound o (filter test all)) = length-counts nat_eq same sound (filter test some) (without nat_eq same sound o (filter test all)) (bound e) in
        absurd (omega (arith, shorter, equal, length-without nat_eq same sound o (filter test all) kept))
    at (suc n) e = omega (arith, e)
