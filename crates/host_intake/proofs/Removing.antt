-- A list from which one element was taken.
use Rattle.std.proofs.Common.{◌≡◌, ◌⊎◌, inl, inr, ℕ, zero, suc, ◌≤◌, ◌<◌, Bool, true, false, ◌||◌, cond, List, [], ◌∷◌, ◌++◌, length, filter, get_or, Option, Some, refl, ap, ◌∙◌, arith, remove}
use Rattle.std.specs.Prelude.{slice_get, unwrap_or}
use Rattle.std.specs.List.{list_any}
use Rattle.host_model.specs.{count}

module _ {A : Type 0} where
  -- an element of a list with one more
  pub get_snoc : (xs : List A) (x : A) (k : ℕ) (y : A) → slice_get (xs ++ x ∷ []) k ≡ Some y → (slice_get xs k ≡ Some y) ⊎ ((k ≡ length xs) × (x ≡ y))
  get_snoc [] x zero y e = inr (refl, ap (λ (o : Option A). unwrap_or o x) e)
  get_snoc [] x (suc k) y e = absurd (cc)
  get_snoc (z ∷ zs) x zero y e = inl e
  get_snoc (z ∷ zs) x (suc k) y e = later (get_snoc zs x k y e)
    where
      later : (slice_get zs k ≡ Some y) ⊎ ((k ≡ length zs) × (x ≡ y)) → (slice_get zs k ≡ Some y) ⊎ ((suc k ≡ suc (length zs)) × (x ≡ y))
      later (inl f) = inl f
      later (inr f) = inr (ap suc f.0, f.1)

  -- what is left stood in the list before
  pub left_stood : (xs : List A) (i k : ℕ) (x : A) → slice_get (remove xs i) k ≡ Some x → (n : ℕ) × (slice_get xs n ≡ Some x)
  left_stood [] zero k x e = (k, e)
  left_stood [] (suc i) k x e = (k, e)
  left_stood (y ∷ ys) zero k x e = (suc k, e)
  left_stood (y ∷ ys) (suc i) zero x e = (zero, e)
  left_stood (y ∷ ys) (suc i) (suc k) x e = let r = left_stood ys i k x e in (suc r.0, r.1)

  keeps : (x : A) (b : Bool) (l m : List A) → length l ≤ length m → length (cond b (x ∷ l) l) ≤ length (cond b (x ∷ m) m)
  keeps x true l m h = omega arith
  keeps x false l m h = h

  loses : (x : A) (b : Bool) (l : List A) → length l ≤ length (cond b (x ∷ l) l)
  loses x true l = omega arith
  loses x false l = omega arith

  pub count_remove : (p : A → Bool) (xs : List A) (i : ℕ) → count p (remove xs i) ≤ count p xs
  count_remove p [] zero = omega arith
  count_remove p [] (suc i) = omega arith
  count_remove p (y ∷ ys) zero = loses y (p y) (filter p ys)
  count_remove p (y ∷ ys) (suc i) = keeps y (p y) (filter p (remove ys i)) (filter p ys) (count_remove p ys i)

  none_step : (x : A) (b : Bool) (l : List A) (any : Bool) → length (cond b (x ∷ l) l) ≡ 0 → (length l ≡ 0 → any ≡ false) → (b || any) ≡ false
  none_step x true l any e more = absurd (omega arith)
  none_step x false l any e more = more e

  pub none_any : (p : A → Bool) (xs : List A) → count p xs ≡ 0 → list_any p xs ≡ false
  none_any p [] e = refl
  none_any p (y ∷ ys) e = none_step y (p y) (filter p ys) (list_any p ys) e (λ n. none_any p ys n)

  first_gone : (y : A) (b : Bool) (l : List A) → b ≡ true → length (cond b (y ∷ l) l) ≤ 1 → length l ≡ 0
  first_gone y true l e one = omega arith
  first_gone y false l e one = absurd (cc)

  later_gone : (y : A) (b : Bool) (l : List A) → 1 ≤ length l → length (cond b (y ∷ l) l) ≤ 1 → (b ≡ false) × (length l ≤ 1)
  later_gone y true l some one = absurd (omega arith)
  later_gone y false l some one = (refl, one)

  some_here : (y : A) (b : Bool) (l : List A) → b ≡ true → 1 ≤ length (cond b (y ∷ l) l)
  some_here y true l e = omega arith
  some_here y false l e = absurd (cc)

  -- an element that passes is counted
  pub counted_at : (p : A → Bool) (xs : List A) (i : ℕ) (d : A) → i < length xs → p (get_or xs i d) ≡ true → 1 ≤ count p xs
  counted_at p [] i d h e = absurd (omega arith)
  counted_at p (y ∷ ys) zero d h e = some_here y (p y) (filter p ys) e
  counted_at p (y ∷ ys) (suc i) d h e = let r = counted_at p ys i d (omega arith) e in let l = loses y (p y) (filter p ys) in omega arith

  -- the one element that passes was taken
  pub none_left : (p : A → Bool) (xs : List A) (i : ℕ) (d : A) → i < length xs → p (get_or xs i d) ≡ true → count p xs ≤ 1 → list_any p (remove xs i) ≡ false
  none_left p [] i d h e one = absurd (omega arith)
  none_left p (y ∷ ys) zero d h e one = none_any p ys (first_gone y (p y) (filter p ys) e one)
  none_left p (y ∷ ys) (suc i) d h e one =
      let some = counted_at p ys i d (omega arith) e in let r = later_gone y (p y) (filter p ys) some one in
      ap (λ b. b || list_any p (remove ys i)) r.0 ∙ none_left p ys i d (omega arith) e r.1

  -- none was found
  pub past_any : (p : A → Bool) (xs : List A) → ((k : ℕ) (d : A) → k < length xs → p (get_or xs k d) ≡ false) → list_any p xs ≡ false
  past_any p [] h = refl
  past_any p (y ∷ ys) h = ap (λ b. b || list_any p ys) (h 0 y (omega arith)) ∙ past_any p ys (λ k d l. h (suc k) d (omega arith))
