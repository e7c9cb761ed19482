-- Sums over lists: by makers, by what is told of some elements, and of lists with the same numbers.
use Rattle.std.proofs.Common.{◌≡◌, ℕ, zero, suc, ◌+◌, ◌<◌, ◌==◌, Bool, true, false, nat_eq, cond, List, [], ◌∷◌, ◌++◌, filter, filter_map, length, map, Option, Some, None, refl, sym, ap, ◌∙◌, arith, eq-eqb}
use Rattle.std.specs.Prelude.{flat_map, sum, sum_by}
use Rattle.std.specs.List.{cons_option, slice_get}
use Rattle.std.specs.Option.{option_map_or}
use Rattle.std.proofs.lemmas.Bool.{eqb-true}
use Rattle.std.proofs.lemmas.List.Sums.{sum_by-append, sum_by-cons}
use Rattle.host_log.specs.{entries_of}
use Rattle.host_session.specs.{times}
use Rattle.session_law.proofs.Sums.{bit, count_both, count_one, only_at_one, sum_below, sum_both, sum_none, sum_one, sum_same}

module _ {A : Type 0} where
  pub sum_alike : (f g : A → ℕ) (xs : List A) → ((n : ℕ) (x : A) → slice_get xs n ≡ Some x → f x ≡ g x) → sum_by f xs ≡ sum_by g xs
  sum_alike f g [] h = refl
  sum_alike f g (x ∷ xs) h =
      let r : sum_by f xs ≡ sum_by g xs = sum_alike f g xs (λ n y at. h (suc n) y at) in
      let a : f x ≡ g x = h 0 x refl in
      omega (arith, sum_by-cons f x xs, sum_by-cons g x xs, r, a)

  pub sum_nothing : (f : A → ℕ) (xs : List A) → ((n : ℕ) (x : A) → slice_get xs n ≡ Some x → f x ≡ 0) → sum_by f xs ≡ 0
  sum_nothing f [] h = refl
  sum_nothing f (x ∷ xs) h =
      let r : sum_by f xs ≡ 0 = sum_nothing f xs (λ n y at. h (suc n) y at) in
      let a : f x ≡ 0 = h 0 x refl in
      omega (arith, sum_by-cons f x xs, r, a)

  pub sum_mapped : {B : Type 0} (f : A → B) (w : B → ℕ) (xs : List A) → sum_by w (map f xs) ≡ sum_by (λ (x : A). w (f x)) xs
  sum_mapped f w [] = refl
  sum_mapped f w (x ∷ xs) = let r = sum_mapped f w xs in omega (arith, sum_by-cons w (f x) (map f xs), sum_by-cons (λ (y : A). w (f y)) x xs, r)

  -- what is told of some elements
  pub sum_told : {B : Type 0} (f : A → Option B) (w : B → ℕ) (xs : List A) → sum_by w (filter_map f xs) ≡ sum_by (λ (x : A). option_map_or w (f x) 0) xs
  sum_told f w [] = refl
  sum_told {B} f w (x ∷ xs) = step (f x) (sum_told f w xs) ∙ sym (sum_by-cons (λ (y : A). option_map_or w (f y) 0) x xs)
    where
      step : (o : Option B) → sum_by w (filter_map f xs) ≡ sum_by (λ (y : A). option_map_or w (f y) 0) xs → sum_by w (cons_option o (filter_map f xs)) ≡ option_map_or w o 0 + sum_by (λ (y : A). option_map_or w (f y) 0) xs
      step None e = omega (arith, e)
      step (Some y) e = sum_by-cons w y (filter_map f xs) ∙ omega (arith, e)

  pub sum_flat : {B : Type 0} (f : B → List A) (w : A → ℕ) (us : List B) → sum_by w (flat_map f us) ≡ sum_by (λ (u : B). sum_by w (f u)) us
  sum_flat f w [] = refl
  sum_flat {B} f w (u ∷ us) = let r = sum_flat f w us in omega (arith, sum_by-append w (f u) (flat_map f us), sum_by-cons (λ (x : B). sum_by w (f x)) u us, r)

pub sum_option : (o : Option ℕ) (l : List ℕ) → sum (cons_option o l) ≡ option_map_or (λ (k : ℕ). k) o 0 + sum l
sum_option None l = omega arith
sum_option (Some n) l = sum_by-cons (λ (k : ℕ). k) n l

-- ---- by makers

module _ {E : Type 0} (maker : E → ℕ) (value : E → ℕ) where
  one_more : (x : E) (xs : List E) (k : ℕ) → sum_by value (entries_of maker k (x ∷ xs)) ≡ only_at_one (maker x) (value x) k + sum_by value (entries_of maker k xs)
  one_more x xs k = step (maker x == k)
    where
      step : (b : Bool) → sum_by value (cond b (x ∷ entries_of maker k xs) (entries_of maker k xs)) ≡ cond b (value x) 0 + sum_by value (entries_of maker k xs)
      step true = sum_by-cons value x (entries_of maker k xs)
      step false = omega arith

  -- what the makers of a history add up to is what the history does
  pub sum_makers : (m : ℕ) (xs : List E) → ((n : ℕ) (x : E) → slice_get xs n ≡ Some x → maker x < m) → sum_below m (λ k. sum_by value (entries_of maker k xs)) ≡ sum_by value xs
  sum_makers m [] h = sum_none m
  sum_makers m (x ∷ xs) h =
      let r = sum_makers m xs (λ n y at. h (suc n) y at) in
      let c = sum_one m (maker x) (value x) (h 0 x refl) in
      sum_same m (λ k. sum_by value (entries_of maker k (x ∷ xs))) (λ k. only_at_one (maker x) (value x) k + sum_by value (entries_of maker k xs)) (λ k _. one_more x xs k)
      ∙ (sum_both m (only_at_one (maker x) (value x)) (λ k. sum_by value (entries_of maker k xs))
      ∙ omega (arith, c, r, sum_by-cons value x xs))

-- the first is taken off
pub sum_first : (m : ℕ) (f : ℕ → ℕ) → sum_below (suc m) f ≡ f 0 + sum_below m (λ k. f (suc k))
sum_first zero f = omega arith
sum_first (suc m) f = let r = sum_first m f in omega (arith, r)

-- ---- lists in which each number stands as often

number_at : (v : ℕ) (ys : List ℕ) → 0 < times v ys → (a : List ℕ) × (b : List ℕ) × (ys ≡ a ++ v ∷ b)
number_at v [] lt = absurd (omega arith)
number_at v (y ∷ ys) lt = step (nat_eq v y) refl lt (λ l. number_at v ys l)
  where
    step : (b : Bool) → nat_eq v y ≡ b → 0 < length (cond b (y ∷ filter (nat_eq v) ys) (filter (nat_eq v) ys)) → (0 < times v ys → (a : List ℕ) × (c : List ℕ) × (ys ≡ a ++ v ∷ c)) → (a : List ℕ) × (c : List ℕ) × (y ∷ ys ≡ a ++ v ∷ c)
    step true e l more = ([], ys, ap (λ z. z ∷ ys) (sym (eqb-true v y e)))
    step false e l more = let r = more l in (y ∷ r.0, r.1, ap (λ z. y ∷ z) r.2)

itself : (v : ℕ) → bit (nat_eq v v) ≡ 1
itself v = ap bit (eq-eqb v v refl)

pub sum_times : (w : ℕ → ℕ) (xs ys : List ℕ) → ((v : ℕ) → times v xs ≡ times v ys) → sum_by w xs ≡ sum_by w ys
sum_times w [] [] h = refl
sum_times w [] (y ∷ ys) h = absurd (let b = itself y in let c = count_one (nat_eq y) y ys in let e : 0 ≡ times y (y ∷ ys) = h y in omega (arith, b, c, e))
sum_times w (x ∷ xs) ys h =
    let b = itself x in
    let c = count_one (nat_eq x) x xs in
    let e = h x in
    let r = number_at x ys (omega (arith, b, c, e)) in
    let rest : sum_by w xs ≡ sum_by w (r.0 ++ r.1) = sum_times w xs (r.0 ++ r.1) (λ v.
    let l = count_one (nat_eq v) x xs in
    let m : times v ys ≡ times v (r.0 ++ x ∷ r.1) = ap (times v) r.2 in
    let n = count_both (nat_eq v) r.0 (x ∷ r.1) in
    let o = count_one (nat_eq v) x r.1 in
    let p = count_both (nat_eq v) r.0 r.1 in
    let q = h v in
    omega (arith, l, m, n, o, p, q)) in
    let a : sum_by w ys ≡ sum_by w (r.0 ++ x ∷ r.1) = ap (sum_by w) r.2 in
    omega (arith, rest, a, sum_by-append w r.0 (x ∷ r.1), sum_by-append w r.0 r.1, sum_by-cons w x r.1, sum_by-cons w x xs)
