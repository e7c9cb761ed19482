-- Elements of lists, and where they stand.
use Rattle.std.proofs.Common.{◌≡◌, ℕ, zero, suc, ◌+◌, ◌<◌, Bool, true, false, ◌||◌, cond, List, [], ◌∷◌, length, filter, map, take, Some, refl, sym, ap, ◌∙◌, arith}
use Rattle.std.specs.List.{list_any, range_with_len, slice_get}

module _ {A : Type 0} where
  pub within : (xs : List A) (n : ℕ) (x : A) → slice_get xs n ≡ Some x → n < length xs
  within [] zero x e = absurd (cc)
  within [] (suc n) x e = absurd (cc)
  within (y ∷ ys) zero x e = omega arith
  within (y ∷ ys) (suc n) x e = let h = within ys n x e in omega arith

  pub in_take : (xs : List A) (n m : ℕ) (x : A) → m < n → slice_get xs m ≡ Some x → slice_get (take n xs) m ≡ Some x
  in_take [] n zero x h e = absurd (cc)
  in_take [] n (suc m) x h e = absurd (cc)
  in_take (y ∷ ys) zero m x h e = absurd (omega arith)
  in_take (y ∷ ys) (suc n) zero x h e = e
  in_take (y ∷ ys) (suc n) (suc m) x h e = in_take ys n m x (omega arith) e

  pub from_take : (xs : List A) (n m : ℕ) (x : A) → slice_get (take n xs) m ≡ Some x → (slice_get xs m ≡ Some x) × (m < n)
  from_take [] zero zero x e = absurd (cc)
  from_take [] zero (suc m) x e = absurd (cc)
  from_take [] (suc n) zero x e = absurd (cc)
  from_take [] (suc n) (suc m) x e = absurd (cc)
  from_take (y ∷ ys) zero zero x e = absurd (cc)
  from_take (y ∷ ys) zero (suc m) x e = absurd (cc)
  from_take (y ∷ ys) (suc n) zero x e = (e, omega arith)
  from_take (y ∷ ys) (suc n) (suc m) x e = let r = from_take ys n m x e in (r.0, (let h = r.1 in omega arith))

  -- where one passes, one that passes stands somewhere
  pub any_at : (p : A → Bool) (xs : List A) → list_any p xs ≡ true → (n : ℕ) × (x : A) × (slice_get xs n ≡ Some x) × (p x ≡ true)
  any_at p [] e = absurd (cc)
  any_at p (z ∷ zs) e = step (p z) refl e (λ h. any_at p zs h)
    where
      step : (b : Bool) → p z ≡ b → (b || list_any p zs) ≡ true → (list_any p zs ≡ true → (n : ℕ) × (x : A) × (slice_get zs n ≡ Some x) × (p x ≡ true)) → (n : ℕ) × (x : A) × (slice_get (z ∷ zs) n ≡ Some x) × (p x ≡ true)
      step true y e more = (0, z, refl, y)
      step false y e more = let r = more e in (suc r.0, r.1, r.2, r.3)

  -- what stands among those that pass stands in the list
  pub from_filter : (p : A → Bool) (xs : List A) (j : ℕ) (x : A) → slice_get (filter p xs) j ≡ Some x → (n : ℕ) × (slice_get xs n ≡ Some x) × (p x ≡ true)
  from_filter p [] zero x at = absurd (cc)
  from_filter p [] (suc j) x at = absurd (cc)
  from_filter p (y ∷ ys) j x at = step (p y) refl j at (λ i e. from_filter p ys i x e)
    where
      step : (b : Bool) → p y ≡ b → (j : ℕ) → slice_get (cond b (y ∷ filter p ys) (filter p ys)) j ≡ Some x → ((i : ℕ) → slice_get (filter p ys) i ≡ Some x → (n : ℕ) × (slice_get ys n ≡ Some x) × (p x ≡ true))
          → (n : ℕ) × (slice_get (y ∷ ys) n ≡ Some x) × (p x ≡ true)
      step true t zero e more = let same : y ≡ x = cc in (0, e, ap p (sym same) ∙ t)
      step true t (suc i) e more = let r = more i e in (suc r.0, r.1, r.2)
      step false t i e more = let r = more i e in (suc r.0, r.1, r.2)

module _ {A B : Type 0} (f : A → B) where
  pub in_map : (xs : List A) (n : ℕ) (x : A) → slice_get xs n ≡ Some x → slice_get (map f xs) n ≡ Some (f x)
  in_map [] zero x at = absurd (cc)
  in_map [] (suc n) x at = absurd (cc)
  in_map (y ∷ ys) zero x at = let same : y ≡ x = cc in ap (λ z. Some (f z)) same
  in_map (y ∷ ys) (suc n) x at = in_map ys n x at

pub range_at : (a n k : ℕ) → k < n → slice_get (range_with_len a n) k ≡ Some (a + k)
range_at a zero k lt = absurd (omega arith)
range_at a (suc n) zero lt = ap Some (omega arith)
range_at a (suc n) (suc k) lt = range_at (a + 1) n k (omega arith) ∙ ap Some (omega arith)
