-- Counting what passes a test, over lists and over the first numbers.
use Rattle.std.proofs.Common.{◌≡◌, ℕ, zero, suc, ◌+◌, ◌<◌, ◌≤◌, ◌==◌, Bool, true, false, nat_lt, cond, List, [], ◌∷◌, ◌++◌, length, filter, filter_map, map, reverse, Option, Some, None, refl, sym, ap, ◌∙◌, arith, length-append}
use Rattle.std.specs.List.{cons_option, slice_get}
use Rattle.std.specs.Option.{option_map_or}
use Rattle.std.proofs.lemmas.Bool.{eqb-true, eq-eqb, ltb-false, ltb-true}
use Rattle.std.proofs.lemmas.List.{reverse-append}
use Rattle.std.proofs.lemmas.List.Elements.{filter-append}
use Rattle.host_model.specs.{count}
use Rattle.host_session.specs.{IsPart}

-- one where it passes
abbrev pub bit : Bool → ℕ
bit true = 1
bit false = 0

abbrev pub hits : {A : Type 0} → (A → Bool) → Option A → ℕ
hits p None = 0
hits p (Some x) = bit (p x)

module _ {A : Type 0} (p : A → Bool) where
  pub count_one : (x : A) (xs : List A) → count p (x ∷ xs) ≡ bit (p x) + count p xs
  count_one x xs = elim (p x) as (λ b. length (cond b (x ∷ filter p xs) (filter p xs)) ≡ bit b + length (filter p xs)) [
    | true ↦ omega arith
    | false ↦ omega arith
  ]

  pub count_option : (o : Option A) (xs : List A) → count p (cons_option o xs) ≡ hits p o + count p xs
  count_option None xs = omega arith
  count_option (Some x) xs = count_one x xs

  pub count_both : (xs ys : List A) → count p (xs ++ ys) ≡ count p xs + count p ys
  count_both xs ys = ap length (filter-append p xs ys) ∙ length-append (filter p xs) (filter p ys)

  pub count_reverse : (xs : List A) → count p (reverse xs) ≡ count p xs
  count_reverse [] = refl
  count_reverse (x ∷ xs) =
      let split : count p (reverse (x ∷ xs)) ≡ count p (reverse xs ++ x ∷ []) = ap (count p) (reverse-append (x ∷ []) xs) in
      omega (arith, split, count_both (reverse xs) (x ∷ []), count_one x [], count_one x xs, count_reverse xs)

  -- none of a list passes
  pub none_counted : (xs : List A) → ((n : ℕ) (x : A) → slice_get xs n ≡ Some x → p x ≡ false) → count p xs ≡ 0
  none_counted [] h = refl
  none_counted (x ∷ xs) h =
      let b : bit (p x) ≡ 0 = ap bit (h 0 x refl) in
      let r : count p xs ≡ 0 = none_counted xs (λ n y at. h (suc n) y at) in
      omega (arith, count_one x xs, b, r)

  pub counted_none : (xs : List A) (n : ℕ) (x : A) → count p xs ≡ 0 → slice_get xs n ≡ Some x → p x ≡ false
  counted_none [] zero x none at = absurd (cc)
  counted_none [] (suc n) x none at = absurd (cc)
  counted_none (y ∷ ys) zero x none at =
      let same : y ≡ x = cc in
      ap p (sym same) ∙ off (p y) (let c = count_one y ys in omega arith)
    where
      off : (b : Bool) → bit b ≡ 0 → b ≡ false
      off true e = absurd (omega arith)
      off false e = refl
  counted_none (y ∷ ys) (suc n) x none at = counted_none ys n x (let c = count_one y ys in omega arith) at

  pub counted_here : (xs : List A) (n : ℕ) (x : A) → slice_get xs n ≡ Some x → p x ≡ true → 1 ≤ count p xs
  counted_here [] zero x at is = absurd (cc)
  counted_here [] (suc n) x at is = absurd (cc)
  counted_here (y ∷ ys) zero x at is = let same : y ≡ x = cc in let b : bit (p y) ≡ 1 = ap bit (ap p same ∙ is) in omega (arith, count_one y ys, b)
  counted_here (y ∷ ys) (suc n) x at is = let r = counted_here ys n x at is in omega (arith, count_one y ys, r)

  pub somewhere : (xs : List A) → 0 < count p xs → (n : ℕ) × (x : A) × (slice_get xs n ≡ Some x) × (p x ≡ true)
  somewhere [] h = absurd (omega arith)
  somewhere (x ∷ xs) h = step (p x) refl (count_one x xs) (λ g. somewhere xs g)
    where
      step : (b : Bool) → p x ≡ b → count p (x ∷ xs) ≡ bit b + count p xs → (0 < count p xs → (n : ℕ) × (y : A) × (slice_get xs n ≡ Some y) × (p y ≡ true)) → (n : ℕ) × (y : A) × (slice_get (x ∷ xs) n ≡ Some y) × (p y ≡ true)
      step true e c more = (0, x, refl, e)
      step false e c more = let r = more (omega (arith, c, h)) in (suc r.0, r.1, r.2, r.3)

  -- some elements of a list
  marked_few : (ms : List (A × Bool)) → count p (map (λ (m : A × Bool). m.0) (filter (λ (m : A × Bool). m.1) ms)) ≤ count p (map (λ (m : A × Bool). m.0) ms)
  marked_few [] = omega arith
  marked_few (m ∷ ms) = step m.1 (marked_few ms)
    where
      step : (b : Bool) → count p (map (λ (m : A × Bool). m.0) (filter (λ (m : A × Bool). m.1) ms)) ≤ count p (map (λ (m : A × Bool). m.0) ms)
          → count p (map (λ (m : A × Bool). m.0) (cond b (m ∷ filter (λ (m : A × Bool). m.1) ms) (filter (λ (m : A × Bool). m.1) ms))) ≤ count p (m.0 ∷ map (λ (m : A × Bool). m.0) ms)
      step true h = omega (arith, count_one m.0 (map (λ (m : A × Bool). m.0) (filter (λ (m : A × Bool). m.1) ms)), count_one m.0 (map (λ (m : A × Bool). m.0) ms), h)
      step false h = omega (arith, count_one m.0 (map (λ (m : A × Bool). m.0) ms), h)

  pub part_few : (some all : List A) → IsPart some all → count p some ≤ count p all
  part_few some all part =
      let a : count p some ≡ count p (map (λ (m : A × Bool). m.0) (filter (λ (m : A × Bool). m.1) part.marked)) = ap (count p) (sym part.some_are) in
      let b : count p (map (λ (m : A × Bool). m.0) part.marked) ≡ count p all = ap (count p) part.all_are in
      omega (arith, a, b, marked_few part.marked)

-- what is counted where something is told
pub count_told : {A B : Type 0} (p : B → Bool) (f : A → Option B) (xs : List A) → count p (filter_map f xs) ≡ count (λ x. option_map_or p (f x) false) xs
count_told {A} {B} p f [] = refl
count_told {A} {B} p f (x ∷ xs) = step (f x) (count_told p f xs)
  where
    step : (o : Option B) → count p (filter_map f xs) ≡ count (λ x. option_map_or p (f x) false) xs
        → count p (cons_option o (filter_map f xs)) ≡ length (cond (option_map_or p o false) (x ∷ filter (λ x. option_map_or p (f x) false) xs) (filter (λ x. option_map_or p (f x) false) xs))
    step None h = h
    step (Some y) h = elim (p y) as (λ b. length (cond b (y ∷ filter p (filter_map f xs)) (filter p (filter_map f xs))) ≡ length (cond b (x ∷ filter (λ x. option_map_or p (f x) false) xs) (filter (λ x. option_map_or p (f x) false) xs))) [
      | true ↦ ap suc h
      | false ↦ h
    ]

-- where every element that passes one test passes another
pub count_within : {A : Type 0} (p q : A → Bool) (xs : List A) → ((n : ℕ) (x : A) → slice_get xs n ≡ Some x → p x ≡ true → q x ≡ true) → count p xs ≤ count q xs
count_within p q [] h = omega arith
count_within p q (x ∷ xs) h =
    let r : count p xs ≤ count q xs = count_within p q xs (λ n y at. h (suc n) y at) in
    step (p x) (q x) (h 0 x refl) (count_one p x xs) (count_one q x xs) r
  where
    step : (b c : Bool) → (b ≡ true → c ≡ true) → count p (x ∷ xs) ≡ bit b + count p xs → count q (x ∷ xs) ≡ bit c + count q xs → count p xs ≤ count q xs → count p (x ∷ xs) ≤ count q (x ∷ xs)
    step true true e f g r = omega (arith, f, g, r)
    step true false e f g r = absurd (let z : false ≡ true = e refl in cc)
    step false c e f g r = omega (arith, f, g, r)

-- those that pass both tests
pub count_filter : {A : Type 0} (p q : A → Bool) (xs : List A) → ((n : ℕ) (x : A) → slice_get xs n ≡ Some x → p x ≡ true → q x ≡ true) → count p (filter q xs) ≡ count p xs
count_filter p q [] h = refl
count_filter p q (x ∷ xs) h = step (q x) (p x) (h 0 x refl) (count_one p x xs) (count_one p x (filter q xs)) (count_filter p q xs (λ n y at. h (suc n) y at))
  where
    step : (b c : Bool) → (c ≡ true → b ≡ true) → count p (x ∷ xs) ≡ bit c + count p xs → count p (x ∷ filter q xs) ≡ bit c + count p (filter q xs) → count p (filter q xs) ≡ count p xs
        → count p (cond b (x ∷ filter q xs) (filter q xs)) ≡ count p (x ∷ xs)
    step true c e f g r = omega (arith, f, g, r)
    step false true e f g r = absurd (let z : false ≡ true = e refl in cc)
    step false false e f g r = omega (arith, f, r)

-- ---- sums

-- the values of a function on the numbers below n, added up
abbrev pub sum_below : ℕ → (ℕ → ℕ) → ℕ
sum_below zero f = 0
sum_below (suc n) f = sum_below n f + f n

pub sum_same : (n : ℕ) (f g : ℕ → ℕ) → ((k : ℕ) → k < n → f k ≡ g k) → sum_below n f ≡ sum_below n g
sum_same zero f g h = refl
sum_same (suc n) f g h = let a = sum_same n f g (λ k lt. h k (omega arith)) in let b = h n (omega arith) in omega (arith, a, b)

pub sum_few : (n : ℕ) (f g : ℕ → ℕ) → ((k : ℕ) → k < n → f k ≤ g k) → sum_below n f ≤ sum_below n g
sum_few zero f g h = omega arith
sum_few (suc n) f g h = let a = sum_few n f g (λ k lt. h k (omega arith)) in let b = h n (omega arith) in omega (arith, a, b)

pub sum_both : (n : ℕ) (f g : ℕ → ℕ) → sum_below n (λ k. f k + g k) ≡ sum_below n f + sum_below n g
sum_both zero f g = omega arith
sum_both (suc n) f g = let a = sum_both n f g in omega (arith, a)

pub sum_none : (n : ℕ) → sum_below n (λ k. 0) ≡ 0
sum_none zero = refl
sum_none (suc n) = let a = sum_none n in omega (arith, a)

-- one number has a value, and the others none
abbrev pub only_at_one : ℕ → ℕ → ℕ → ℕ
only_at_one m c k = cond (m == k) c 0

other_one : (m c k : ℕ) → k < m → only_at_one m c k ≡ 0
other_one m c k lt = step (m == k) refl
  where
    step : (b : Bool) → (m == k) ≡ b → cond b c 0 ≡ 0
    step true e = absurd (let z : m ≡ k = eqb-true m k e in omega arith)
    step false e = refl

others_none : (n m c : ℕ) → n ≤ m → sum_below n (only_at_one m c) ≡ 0
others_none zero m c le = refl
others_none (suc n) m c le = let a = others_none n m c (omega arith) in let b = other_one m c n (omega arith) in omega (arith, a, b)

lt_or : (m n : ℕ) → m < suc n → (m == n) ≡ false → m < n
lt_or m n lt e = step (nat_lt m n) refl
  where
    step : (b : Bool) → nat_lt m n ≡ b → m < n
    step true f = ltb-true m n f
    step false f = absurd (let ge = ltb-false m n f in let z : m ≡ n = omega arith in let y : true ≡ false = sym (eq-eqb m n z) ∙ e in cc)

pub sum_one : (n m c : ℕ) → m < n → sum_below n (only_at_one m c) ≡ c
sum_one zero m c lt = absurd (omega arith)
sum_one (suc n) m c lt = step (m == n) refl (λ l. sum_one n m c l) (λ l. others_none n m c l)
  where
    step : (b : Bool) → (m == n) ≡ b → (m < n → sum_below n (only_at_one m c) ≡ c) → (n ≤ m → sum_below n (only_at_one m c) ≡ 0) → sum_below n (only_at_one m c) + cond b c 0 ≡ c
    step true e f g = let z : m ≡ n = eqb-true m n e in let r = g (omega arith) in omega (arith, r)
    step false e f g = let r = f (lt_or m n lt e) in omega (arith, r)

-- at most that, whether or not the number is among them
pub sum_one_few : (n m c : ℕ) → sum_below n (only_at_one m c) ≤ c
sum_one_few n m c = step (nat_lt m n) refl
  where
    step : (b : Bool) → nat_lt m n ≡ b → sum_below n (only_at_one m c) ≤ c
    step true e = let r = sum_one n m c (ltb-true m n e) in omega (arith, r)
    step false e = let r = others_none n m c (ltb-false m n e) in omega (arith, r)
