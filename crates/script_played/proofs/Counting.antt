-- The elements of a list, counted by what they belong to.
use Rattle.std.proofs.Common.{◌≡◌, ℕ, zero, suc, ◌+◌, ◌≤◌, ◌<◌, Bool, true, false, cond, ◌&&◌, List, [], ◌∷◌, length, get_or, map, filter, refl, sym, ap, ◌∙◌, arith, inl, inr}
use Rattle.std.specs.List.{list_all, range_with_len, sum_by}
use Rattle.std.proofs.lemmas.Bool.Decides.{eqb_tells}
use Rattle.std.proofs.lemmas.List.Sums.{sum_by-cons}
use Rattle.host_model.proofs.ListTests.{both}

-- ---- sums

pub add_by : {X : Type 0} (f g : X → ℕ) (xs : List X) → sum_by (λ x. f x + g x) xs ≡ sum_by f xs + sum_by g xs
add_by f g [] = refl
add_by f g (x ∷ xs) = omega (arith, sum_by-cons (λ y. f y + g y) x xs, sum_by-cons f x xs, sum_by-cons g x xs, add_by f g xs)

pub same_by : {X : Type 0} (f g : X → ℕ) → ((x : X) → f x ≡ g x) → (xs : List X) → sum_by f xs ≡ sum_by g xs
same_by f g h [] = refl
same_by f g h (x ∷ xs) = omega (arith, sum_by-cons f x xs, sum_by-cons g x xs, h x, same_by f g h xs)

pub of_map : {X Y : Type 0} (f : Y → ℕ) (g : X → Y) (xs : List X) → sum_by f (map g xs) ≡ sum_by (λ x. f (g x)) xs
of_map f g [] = refl
of_map f g (x ∷ xs) = omega (arith, sum_by-cons f (g x) (map g xs), sum_by-cons (λ y. f (g y)) x xs, of_map f g xs)

-- over some numbers in a row
pub at_most_each : (f g : ℕ → ℕ) (a n : ℕ) → ((v : ℕ) → v < a + n → f v ≤ g v) → sum_by f (range_with_len a n) ≤ sum_by g (range_with_len a n)
at_most_each f g a zero h = omega arith
at_most_each f g a (suc n) h =
    let here : f a ≤ g a = h a (omega arith) in
    let rest = at_most_each f g (a + 1) n (λ v p. h v (omega (arith, p))) in
    omega (arith, here, rest, sum_by-cons f a (range_with_len (a + 1) n), sum_by-cons g a (range_with_len (a + 1) n))

-- the first elements of a list, by their places
pub of_places : {X : Type 0} (f : X → ℕ) (d : X) (at : ℕ → X) (a n : ℕ) (xs : List X) → ((j : ℕ) → j < n → at (a + j) ≡ get_or xs j d) → n ≤ length xs → sum_by (λ i. f (at i)) (range_with_len a n) ≤ sum_by f xs
of_places f d at a zero xs same le = omega arith
of_places f d at a (suc n) [] same le = absurd (omega (arith, le))
of_places f d at a (suc n) (x ∷ xs) same le =
    let zeroth : a ≡ a + 0 = omega arith in
    let here : at a ≡ x = ap at zeroth ∙ same 0 (omega arith) in
    let rest = of_places f d at (a + 1) n xs (λ j p. let next : a + 1 + j ≡ a + suc j = omega arith in ap at next ∙ same (suc j) (omega (arith, p))) (omega (arith, le)) in
    omega (arith, rest, ap f here, sum_by-cons (λ i. f (at i)) a (range_with_len (a + 1) n), sum_by-cons f x xs)

-- ---- tests

pub one_more : {X : Type 0} (b : Bool) (x : X) (xs : List X) → length (cond b (x ∷ xs) xs) ≡ cond b 1 0 + length xs
one_more true x xs = omega arith
one_more false x xs = omega arith

pub filter_few : {X : Type 0} (p : X → Bool) (xs : List X) → length (filter p xs) ≤ length xs
filter_few p [] = omega arith
filter_few p (x ∷ xs) = at (p x) (filter_few p xs)
  where
    at : (b : Bool) → length (filter p xs) ≤ length xs → length (cond b (x ∷ filter p xs) (filter p xs)) ≤ suc (length xs)
    at true h = omega (arith, h)
    at false h = omega (arith, h)

-- a test that each element passes leaves none out
pub all_left : {X : Type 0} (p q : X → Bool) (xs : List X) → list_all q xs ≡ true → length (filter (λ x. p x && q x) xs) ≡ length (filter p xs)
all_left p q [] h = refl
all_left p q (x ∷ xs) h =
    let t = both (q x) (list_all q xs) h in
    let now : p x && q x ≡ p x = at (p x) (q x) t.0 in
    one_more (p x && q x) x (filter (λ y. p y && q y) xs) ∙ ap (λ b. cond b 1 0 + length (filter (λ y. p y && q y) xs)) now
    ∙ ap (λ n. cond (p x) 1 0 + n) (all_left p q xs t.1) ∙ sym (one_more (p x) x (filter p xs))
  where
    at : (a b : Bool) → b ≡ true → a && b ≡ a
    at true b e = e
    at false b e = refl

-- ---- counting

-- a test that a number from a on passes is passed at least once
hit : (t : ℕ → Bool) (k a n : ℕ) → t k ≡ true → a ≤ k → k < a + n → 1 ≤ sum_by (λ v. cond (t v) 1 0) (range_with_len a n)
hit t k a zero passes from to = absurd (omega (arith, from, to))
hit t k a (suc n) passes from to =
    let flag : Bool → ℕ = λ b. cond b 1 0 in
    let step = sum_by-cons (λ v. flag (t v)) a (range_with_len (a + 1) n) in
    elim (eqb_tells k a) [
      | inl same ↦ let here : flag (t a) ≡ 1 = ap flag (ap t (sym same.1) ∙ passes) in omega (arith, step, here)
      | inr other ↦ let rest = hit t k (a + 1) n passes (omega (arith, from, other.1)) (omega (arith, to)) in omega (arith, step, rest)
    ]

-- each element that passes the test belongs to a number from a on
pub counted : {X : Type 0} (test : X → Bool) (belongs : X → ℕ → Bool) (a n : ℕ)
    → ((x : X) → test x ≡ true → (k : ℕ) × (a ≤ k) × (k < a + n) × (belongs x k ≡ true))
    → (xs : List X) → length (filter test xs) ≤ sum_by (λ v. length (filter (λ x. belongs x v) xs)) (range_with_len a n)
counted test belongs a n found [] = omega arith
counted test belongs a n found (x ∷ xs) =
    let all = range_with_len a n in
    let own = λ (v : ℕ). cond (belongs x v) 1 0 in
    let rest = λ (v : ℕ). length (filter (λ y. belongs y v) xs) in
    let split : sum_by (λ v. length (filter (λ y. belongs y v) (x ∷ xs))) all ≡ sum_by own all + sum_by rest all =
    same_by (λ v. length (filter (λ y. belongs y v) (x ∷ xs))) (λ v. own v + rest v) (λ v. one_more (belongs x v) x (filter (λ y. belongs y v) xs)) all ∙ add_by own rest all in
    let later = counted test belongs a n found xs in
    let here : cond (test x) 1 0 ≤ sum_by own all = at (test x) refl in
    omega (arith, one_more (test x) x (filter test xs), later, here, split)
  where
    at : (b : Bool) → test x ≡ b → cond b 1 0 ≤ sum_by (λ v. cond (belongs x v) 1 0) (range_with_len a n)
    at true is = let f = found x is in hit (λ v. belongs x v) f.0 a n f.3 f.1 f.2
    at false is = omega arith
