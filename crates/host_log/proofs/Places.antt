-- What stands at which place of a list.
use Rattle.std.proofs.Common.{◌≡◌, ℕ, zero, suc, ◌+◌, ◌≤◌, ◌<◌, ◌⊎◌, inl, inr, ⊎_elim, Bool, true, false, ◌||◌, List, [], ◌∷◌, ◌++◌, length, Some, Option, set, refl, sym, ap, ◌∙◌, arith, length-append, filter, cond}
use Rattle.std.proofs.Math.Bool.{or-true}
use Rattle.std.specs.Prelude.{unwrap_or}
use Rattle.std.specs.List.{list_any, slice_get}
use mathlib.Core.List.{IsPrefix}
use mathlib.Core.Option.{some, some-injective, some-ne-none}
use lib.ListN.{get_elem?}

module _ {A : Type 0} where
  -- what follows one beginning is one list
  pub append_left : (xs ys zs : List A) → xs ++ ys ≡ xs ++ zs → ys ≡ zs
  append_left [] ys zs e = e
  append_left (x ∷ xs) ys zs e = append_left xs ys zs (cc e)

  pub nil_of : (xs : List A) → length xs ≡ 0 → xs ≡ []
  nil_of [] e = refl
  nil_of (x ∷ xs) e = absurd (omega arith)

  -- a list that is no longer has nothing more
  pub nothing_more : (xs ys : List A) → xs ++ ys ≡ xs → ys ≡ []
  nothing_more [] ys e = e
  nothing_more (x ∷ xs) ys e = nothing_more xs ys (cc e)

  pub longer_length : (xs ys : List A) → IsPrefix xs ys → length xs ≤ length ys
  longer_length xs ys begins = omega (arith, ap length begins.1, length-append xs begins.0)

  -- ---- of a list and of what is added

  -- what stands in a list stands in each that it begins
  pub stands_append : (xs ys : List A) (p : ℕ) (x : A) → slice_get xs p ≡ Some x → slice_get (xs ++ ys) p ≡ Some x
  stands_append [] ys p x e = absurd (cc e)
  stands_append (y ∷ xs) ys zero x e = e
  stands_append (y ∷ xs) ys (suc p) x e = stands_append xs ys p x e

  pub stands_longer : (xs ys : List A) (p : ℕ) (x : A) → IsPrefix xs ys → slice_get xs p ≡ Some x → slice_get ys p ≡ Some x
  stands_longer xs ys p x begins e = ap (λ l. slice_get l p) (sym begins.1) ∙ stands_append xs begins.0 p x e

  pub get_append : (xs ys : List A) (n : ℕ) (x : A) → slice_get (xs ++ ys) n ≡ Some x → (slice_get xs n ≡ Some x) ⊎ ((m : ℕ) × (n ≡ length xs + m) × (slice_get ys m ≡ Some x))
  get_append [] ys n x e = inr (n, omega arith, e)
  get_append (y ∷ xs) ys zero x e = inl e
  get_append (y ∷ xs) ys (suc n) x e = step (get_append xs ys n x e)
    where
      step : (slice_get xs n ≡ Some x) ⊎ ((m : ℕ) × (n ≡ length xs + m) × (slice_get ys m ≡ Some x)) → (slice_get xs n ≡ Some x) ⊎ ((m : ℕ) × (suc n ≡ suc (length xs) + m) × (slice_get ys m ≡ Some x))
      step (inl f) = inl f
      step (inr f) = inr (f.0, (let g = f.1 in omega arith), f.2)

  -- what stands in a list with one more stood there, or is the new one
  pub get_snoc : (xs : List A) (x y : A) (n : ℕ) → slice_get (xs ++ x ∷ []) n ≡ Some y → (slice_get xs n ≡ Some y) ⊎ ((n ≡ length xs) × (x ≡ y))
  get_snoc [] x y zero e = inr (refl, cc)
  get_snoc [] x y (suc n) e = absurd (cc e)
  get_snoc (z ∷ xs) x y zero e = inl e
  get_snoc (z ∷ xs) x y (suc n) e = ⊎_elim (λ t. inl t) (λ t. inr (ap suc t.0, t.1)) (get_snoc xs x y n e)

  pub get_middle : (xs : List A) (x : A) (ys : List A) → slice_get (xs ++ x ∷ ys) (length xs) ≡ Some x
  get_middle [] x ys = refl
  get_middle (y ∷ xs) x ys = get_middle xs x ys

  pub get_last : (xs : List A) (x : A) → slice_get (xs ++ x ∷ []) (length xs) ≡ Some x
  get_last xs x = get_middle xs x []

  -- each place below the length has its element
  pub some_at : (xs : List A) (n : ℕ) → n < length xs → (x : A) × (slice_get xs n ≡ Some x)
  some_at [] n less = absurd (omega arith)
  some_at (x ∷ xs) zero less = (x, refl)
  some_at (x ∷ xs) (suc n) less = some_at xs n (omega arith)

  -- ---- tests of the elements

  pub any_here : (p : A → Bool) (xs : List A) (n : ℕ) (x : A) → slice_get xs n ≡ Some x → p x ≡ true → list_any p xs ≡ true
  any_here p [] zero x e y = absurd (cc)
  any_here p [] (suc n) x e y = absurd (cc)
  any_here p (z ∷ zs) zero x e y = ap (λ b. b || list_any p zs) (ap (λ (o : Option A). p (unwrap_or o z)) e ∙ y)
  any_here p (z ∷ zs) (suc n) x e y = ap (λ b. p z || b) (any_here p zs n x e y) ∙ or-true (p z)

  pub none_at : (p : A → Bool) (xs : List A) → ((n : ℕ) (x : A) → slice_get xs n ≡ Some x → p x ≡ false) → list_any p xs ≡ false
  none_at p [] h = refl
  none_at p (x ∷ xs) h = ap (λ b. b || list_any p xs) (h 0 x refl) ∙ none_at p xs (λ n y e. h (suc n) y e)

  -- what passes stands among those that pass
  pub in_filter : (p : A → Bool) (xs : List A) (n : ℕ) (x : A) → slice_get xs n ≡ Some x → p x ≡ true → (m : ℕ) × (slice_get (filter p xs) m ≡ Some x)
  in_filter p [] zero x e y = absurd (cc)
  in_filter p [] (suc n) x e y = absurd (cc)
  in_filter p (z ∷ zs) zero x e y = (0, ap (λ b. slice_get (cond b (z ∷ filter p zs) (filter p zs)) 0) (ap (λ (o : Option A). p (unwrap_or o z)) e ∙ y) ∙ e)
  in_filter p (z ∷ zs) (suc n) x e y = step (p z) (in_filter p zs n x e y)
    where
      step : (b : Bool) → (m : ℕ) × (slice_get (filter p zs) m ≡ Some x) → (m : ℕ) × (slice_get (cond b (z ∷ filter p zs) (filter p zs)) m ≡ Some x)
      step true r = (suc r.0, r.1)
      step false r = r

  -- ---- the same, by the option of a table's views

  pub here : (xs : List A) (i : ℕ) (v w : A) → get_elem? xs i ≡ some v → get_elem? (set xs i w) i ≡ some w
  here [] i v w e = absurd (some-ne-none v (sym e))
  here (x ∷ xs) zero v w e = refl
  here (x ∷ xs) (suc i) v w e = here xs i v w e

  pub at_snoc : (xs : List A) (a b : A) (j : ℕ) → get_elem? (xs ++ a ∷ []) j ≡ some b → (get_elem? xs j ≡ some b) ⊎ ((j ≡ length xs) × (a ≡ b))
  at_snoc [] a b zero e = inr (refl, some-injective a b e)
  at_snoc [] a b (suc j) e = absurd (some-ne-none b (sym e))
  at_snoc (x ∷ xs) a b zero e = inl e
  at_snoc (x ∷ xs) a b (suc j) e = ⊎_elim (λ t. inl t) (λ t. inr (ap suc t.0, t.1)) (at_snoc xs a b j e)

  pub at_longer : (xs ys : List A) (j : ℕ) (a : A) → get_elem? xs j ≡ some a → get_elem? (xs ++ ys) j ≡ some a
  at_longer [] ys j a e = absurd (some-ne-none a (sym e))
  at_longer (x ∷ xs) ys zero a e = e
  at_longer (x ∷ xs) ys (suc j) a e = at_longer xs ys j a e
