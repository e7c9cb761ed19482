-- Elements of lists, and the order of those that pass a test.
use Rattle.std.proofs.Common.{◌≡◌, ℕ, zero, suc, ◌+◌, ◌<◌, Bool, true, false, cond, List, [], ◌∷◌, filter, map, Some, refl, ap, subst, ◌∙◌, arith}
use Rattle.std.specs.Prelude.{Contains}
use Rattle.std.specs.List.{AllByRecursion, slice_get, slice_index_or}
use Rattle.host_block.proofs.Places.{within}
use Rattle.host_model.specs.{places_from}

module _ {A : Type 0} where
  -- what holds of all holds of one
  pub one_of : (P : A → Type 0) (xs : List A) (n : ℕ) (x : A) → AllByRecursion P xs → slice_get xs n ≡ Some x → P x
  one_of P [] zero x all at = absurd (cc)
  one_of P [] (suc n) x all at = absurd (cc)
  one_of P (y ∷ ys) zero x all at = let same : y ≡ x = cc in subst P same all.0
  one_of P (y ∷ ys) (suc n) x all at = one_of P ys n x all.1 at

  -- ---- those that pass

  -- how many of the first n pass
  abbrev pub rank : (A → Bool) → List A → ℕ → ℕ
  rank p [] n = 0
  rank p (y ∷ ys) zero = 0
  rank p (y ∷ ys) (suc n) = cond (p y) (suc (rank p ys n)) (rank p ys n)

  -- one that passes stands among those that pass where so many passed before it
  pub at_rank : (p : A → Bool) (xs : List A) (n : ℕ) (x : A) → slice_get xs n ≡ Some x → p x ≡ true → slice_get (filter p xs) (rank p xs n) ≡ Some x
  at_rank p [] zero x at is = absurd (cc)
  at_rank p [] (suc n) x at is = absurd (cc)
  at_rank p (y ∷ ys) zero x at is =
      let same : y ≡ x = cc in
      let t : p y ≡ true = ap p same ∙ is in
      ap (λ b. slice_get (cond b (y ∷ filter p ys) (filter p ys)) 0) t ∙ at
  at_rank p (y ∷ ys) (suc n) x at is = step (p y) (at_rank p ys n x at is)
    where
      step : (b : Bool) → slice_get (filter p ys) (rank p ys n) ≡ Some x → slice_get (cond b (y ∷ filter p ys) (filter p ys)) (cond b (suc (rank p ys n)) (rank p ys n)) ≡ Some x
      step true r = r
      step false r = r

  -- fewer passed before the earlier one
  pub rank_order : (p : A → Bool) (xs : List A) (n m : ℕ) → rank p xs n < rank p xs m → n < m
  rank_order p [] n m less = absurd (let none : 0 < 0 = less in omega (arith, none))
  rank_order p (y ∷ ys) zero zero less = absurd (let none : 0 < 0 = less in omega (arith, none))
  rank_order p (y ∷ ys) (suc n) zero less = absurd (let none : rank p (y ∷ ys) (suc n) < 0 = less in omega (arith, none))
  rank_order p (y ∷ ys) zero (suc m) less = omega arith
  rank_order p (y ∷ ys) (suc n) (suc m) less = let r = rank_order p ys n m (step (p y) less) in omega (arith, r)
    where
      step : (b : Bool) → cond b (suc (rank p ys n)) (rank p ys n) < cond b (suc (rank p ys m)) (rank p ys m) → rank p ys n < rank p ys m
      step true e = let f : suc (rank p ys n) < suc (rank p ys m) = e in omega (arith, f)
      step false e = e

  place_at : (p : A → Bool) (a : ℕ) (xs : List A) (n : ℕ) (x : A) → slice_get xs n ≡ Some x → p x ≡ true → (j : ℕ) × (slice_get (places_from a p xs) j ≡ Some (a + n))
  place_at p a [] zero x at is = absurd (cc)
  place_at p a [] (suc n) x at is = absurd (cc)
  place_at p a (y ∷ ys) zero x at is =
      let same : y ≡ x = cc in
      let t : p y ≡ true = ap p same ∙ is in
      (0, ap (λ b. slice_get (cond b (a ∷ places_from (a + 1) p ys) (places_from (a + 1) p ys)) 0) t ∙ ap Some (omega arith))
  place_at p a (y ∷ ys) (suc n) x at is = step (p y) (place_at p (a + 1) ys n x at is)
    where
      step : (b : Bool) → (j : ℕ) × (slice_get (places_from (a + 1) p ys) j ≡ Some (a + 1 + n)) → (j : ℕ) × (slice_get (cond b (a ∷ places_from (a + 1) p ys) (places_from (a + 1) p ys)) j ≡ Some (a + suc n))
      step true r = (suc r.0, r.1 ∙ ap Some (omega arith))
      step false r = (r.0, r.1 ∙ ap Some (omega arith))

pub contains : {A : Type 0} (xs : List A) (n : ℕ) (x : A) → slice_get xs n ≡ Some x → Contains xs x
contains {A} xs n x at = (n, within xs n x at, there xs n x at)
  where
    there : (ys : List A) (m : ℕ) (y : A) → slice_get ys m ≡ Some y → slice_index_or ys m y ≡ y
    there [] zero y e = absurd (cc)
    there [] (suc m) y e = absurd (cc)
    there (z ∷ zs) zero y e = cc
    there (z ∷ zs) (suc m) y e = there zs m y e

pub in_places : {A : Type 0} (p : A → Bool) (xs : List A) (n : ℕ) (x : A) → slice_get xs n ≡ Some x → p x ≡ true → Contains (places_from 0 p xs) n
in_places p xs n x at is =
    let r = place_at p 0 xs n x at is in
    let same : 0 + n ≡ n = omega arith in
    contains (places_from 0 p xs) r.0 n (r.1 ∙ ap Some same)

-- ---- lists that are made from others

module _ {A B : Type 0} (f : A → B) where
  pub from_map : (xs : List A) (n : ℕ) (y : B) → slice_get (map f xs) n ≡ Some y → (x : A) × (slice_get xs n ≡ Some x) × (f x ≡ y)
  from_map [] zero y at = absurd (cc)
  from_map [] (suc n) y at = absurd (cc)
  from_map (x ∷ xs) zero y at = (x, refl, cc)
  from_map (x ∷ xs) (suc n) y at = from_map xs n y at
