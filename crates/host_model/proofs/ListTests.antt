-- From tests on lists to sentences, and back.
use Rattle.std.proofs.Common.{◌≡◌, ℕ, zero, suc, ◌+◌, ◌≤◌, ◌<◌, Bool, true, false, ◌&&◌, ◌||◌, IsTrue, nat_lt, List, [], ◌∷◌, Contains, slice_index_or, refl, subst, arith}
use Rattle.std.proofs.lemmas.Bool.{ltb-true, lt-ltb}
use Rattle.std.proofs.lemmas.List.Elements.{All-contains, All-contains_itself}
use Rattle.std.proofs.lemmas.List.Sums.{AllPass-from_list_all, list_all-from_AllPass}
use Rattle.std.specs.List.{AllByRecursion, list_all, list_any, range_with_len}
use Rattle.host_model.specs.{StandBefore, all_before, below, implies}

pub both : (a b : Bool) → a && b ≡ true → IsTrue a × IsTrue b
both true true e = (refl, refl)
both true false e = absurd (cc e)
both false b e = absurd (cc e)

pub and-from : (a b : Bool) → IsTrue a → IsTrue b → a && b ≡ true
and-from true true e f = refl
and-from true false e f = absurd (cc f)
and-from false b e f = absurd (cc e)

pub implied : (p q : Bool) → implies p q ≡ true → IsTrue p → IsTrue q
implied true q e p = e
implied false q e p = absurd (cc p)

pub implies-from : (p q : Bool) → (IsTrue p → IsTrue q) → implies p q ≡ true
implies-from true q f = f refl
implies-from false q f = refl

-- each element passes
pub passed : {A : Type 0} (test : A → Bool) (xs : List A) → list_all test xs ≡ true → (x : A) → Contains xs x → IsTrue (test x)
passed test xs e x h = All-contains (λ y. IsTrue (test y)) xs x (AllPass-from_list_all test xs e) h

pub all_pass : {A : Type 0} (test : A → Bool) (xs : List A) → ((x : A) → Contains xs x → IsTrue (test x)) → list_all test xs ≡ true
all_pass test xs f = list_all-from_AllPass test xs (λ k d h. f (slice_index_or xs k d) (All-contains_itself xs k d h))

-- places that stand before others
pub stand_before : (these those : List ℕ) → all_before these those ≡ true → StandBefore these those
stand_before these those e p q in_these in_those =
    let row : IsTrue (list_all (λ b. nat_lt p b) those) = passed (λ a. list_all (λ b. nat_lt a b) those) these e p in_these in
    ltb-true p q (passed (λ b. nat_lt p b) those row q in_those)

pub before-from : (these those : List ℕ) → StandBefore these those → all_before these those ≡ true
before-from these those h = all_pass (λ a. list_all (λ b. nat_lt a b) those) these (λ a in_these. all_pass (λ b. nat_lt a b) those (λ b in_those. lt-ltb a b (h a b in_these in_those)))

-- ---- the numbers below a bound

abbrev FoundFrom : (ℕ → Bool) → ℕ → ℕ → Type 0
FoundFrom test a n = (m : ℕ) × (a ≤ m) × (m < a + n) × IsTrue (test m)

found_later : (test : ℕ → Bool) (a n : ℕ) → FoundFrom test (a + 1) n → FoundFrom test a (suc n)
found_later test a n later = (later.0, omega (arith, later.1), omega (arith, later.2), later.3)

found_at : (test : ℕ → Bool) (a n : ℕ) (rest b : Bool) → (IsTrue rest → FoundFrom test (a + 1) n) → b || rest ≡ true → test a ≡ b → FoundFrom test a (suc n)
found_at test a n rest true later e f = (a, omega arith, omega arith, f)
found_at test a n rest false later e f = found_later test a n (later e)

found_from : (test : ℕ → Bool) (a n : ℕ) → list_any test (range_with_len a n) ≡ true → FoundFrom test a n
found_from test a zero e = absurd (cc e)
found_from test a (suc n) e = found_at test a n (list_any test (range_with_len (a + 1) n)) (test a) (λ r. found_from test (a + 1) n r) e refl

-- a test that some number below n passes
pub found_below : (test : ℕ → Bool) (n : ℕ) → list_any test (below n) ≡ true → (m : ℕ) × (m < n) × IsTrue (test m)
found_below test n e = let some : (m : ℕ) × (0 ≤ m) × (m < 0 + n) × IsTrue (test m) = found_from test 0 n e in (some.0, omega (arith, some.2), some.3)

or-first : (a b : Bool) → IsTrue a → a || b ≡ true
or-first true b e = refl
or-first false b e = absurd (cc e)

or-second : (a b : Bool) → IsTrue b → a || b ≡ true
or-second true b e = refl
or-second false b e = e

any_from : (test : ℕ → Bool) (a n k : ℕ) → k < n → IsTrue (test (a + k)) → list_any test (range_with_len a n) ≡ true
any_from test a zero k p h = absurd (omega (arith, p))
any_from test a (suc n) zero p h = let e : a + 0 ≡ a = omega arith in or-first (test a) _ (subst (λ m. IsTrue (test m)) e h)
any_from test a (suc n) (suc k) p h =
    let e : a + suc k ≡ a + 1 + k = omega arith in
    let q : k < n = omega (arith, p) in
    or-second (test a) _ (any_from test (a + 1) n k q (subst (λ m. IsTrue (test m)) e h))

pub any_below : (test : ℕ → Bool) (n m : ℕ) → m < n → IsTrue (test m) → list_any test (below n) ≡ true
any_below test n m p h = let e : m ≡ 0 + m = omega arith in any_from test 0 n m p (subst (λ k. IsTrue (test k)) e h)

each_from : (P : ℕ → Type 0) (a n : ℕ) → AllByRecursion P (range_with_len a n) → (i : ℕ) → i < n → P (a + i)
each_from P a zero h i p = absurd (omega (arith, p))
each_from P a (suc n) h zero p = let e : a ≡ a + 0 = omega arith in subst P e h.0
each_from P a (suc n) h (suc i) p =
    let e : a + 1 + i ≡ a + suc i = omega arith in
    let q : i < n = omega (arith, p) in
    subst P e (each_from P (a + 1) n h.1 i q)

-- a fact about every number below n, from its parts
pub each_below : (P : ℕ → Type 0) (n : ℕ) → AllByRecursion P (below n) → (i : ℕ) → i < n → P i
each_below P n h i p = let e : 0 + i ≡ i = omega arith in subst P e (each_from P 0 n h i p)

pub all_passed : (test : ℕ → Bool) (xs : List ℕ) → list_all test xs ≡ true → AllByRecursion (λ x. IsTrue (test x)) xs
all_passed test [] e = tt
all_passed test (x ∷ xs) e = let h : IsTrue (test x) × IsTrue (list_all test xs) = both (test x) (list_all test xs) e in (h.0, all_passed test xs h.1)

-- a test that every number below n passes
pub tested_below : (test : ℕ → Bool) (n : ℕ) → list_all test (below n) ≡ true → (i : ℕ) → i < n → IsTrue (test i)
tested_below test n e i p = each_below (λ x. IsTrue (test x)) n (all_passed test (below n) e) i p
