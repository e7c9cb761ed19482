-- Places of lists.
use Rattle.std.proofs.Common.{◌≡◌, ℕ, zero, suc, ◌+◌, List, [], ◌∷◌, map, All, Some, refl, sym, ap, subst, ◌∙◌}
use Rattle.std.specs.Prelude.{slice_get, slice_set, slice_index_or, sum_by}
use Rattle.std.proofs.lemmas.Option.{get_or_from_slice_get, slice_get-get_or, slice_get_within}
use Rattle.std.proofs.lemmas.List.Sums.{sum_by-set}

-- what stands at the place that was written
pub set_here : {A : Type 0} (xs : List A) (k : ℕ) (x y : A) → slice_get (slice_set xs k x) k ≡ Some y → y ≡ x
set_here [] k x y at = absurd (cc at)
set_here (a ∷ xs) zero x y at = cc at
set_here (a ∷ xs) (suc k) x y at = set_here xs k x y at

pub set_at : {A : Type 0} (xs : List A) (k : ℕ) (x y : A) → slice_get xs k ≡ Some y → slice_get (slice_set xs k x) k ≡ Some x
set_at [] k x y at = absurd (cc at)
set_at (a ∷ xs) zero x y at = refl
set_at (a ∷ xs) (suc k) x y at = set_at xs k x y at

-- what stands elsewhere
pub set_elsewhere : {A : Type 0} (xs : List A) (k j : ℕ) (x : A) → (j ≡ k → ⊥) → slice_get (slice_set xs k x) j ≡ slice_get xs j
set_elsewhere [] k j x other = refl
set_elsewhere (a ∷ xs) zero zero x other = absurd (other refl)
set_elsewhere (a ∷ xs) zero (suc j) x other = refl
set_elsewhere (a ∷ xs) (suc k) zero x other = refl
set_elsewhere (a ∷ xs) (suc k) (suc j) x other = set_elsewhere xs k j x (λ e. other (ap suc e))

pub at_place : {A : Type 0} (P : A → Type 0) (xs : List A) (k : ℕ) (x : A) → All P xs → slice_get xs k ≡ Some x → P x
at_place P xs k x all at = subst P (get_or_from_slice_get xs k x x at) (all k x (slice_get_within xs k x at))

pub each_place : {A : Type 0} (P : A → Type 0) (xs : List A) → ((k : ℕ) (x : A) → slice_get xs k ≡ Some x → P x) → All P xs
each_place P xs f k d less = f k (slice_index_or xs k d) (slice_get-get_or xs k d less)

-- a place of a mapped list
pub map_at : {A B : Type 0} (f : A → B) (xs : List A) (k : ℕ) (x : A) → slice_get xs k ≡ Some x → slice_get (map f xs) k ≡ Some (f x)
map_at {A} {B} f [] k x at = absurd (cc at)
map_at {A} {B} f (a ∷ xs) zero x at = let same : a ≡ x = cc at in ap (λ (z : A). Some (f z)) same
map_at {A} {B} f (a ∷ xs) (suc k) x at = map_at f xs k x at

pub map_from : {A B : Type 0} (f : A → B) (xs : List A) (k : ℕ) (y : B) → slice_get (map f xs) k ≡ Some y → (x : A) × (slice_get xs k ≡ Some x) × (y ≡ f x)
map_from f [] k y at = absurd (cc at)
map_from f (a ∷ xs) zero y at = (a, refl, cc at)
map_from f (a ∷ xs) (suc k) y at = map_from f xs k y at

-- one more or less at a place
pub sum_set : {A : Type 0} (f : A → ℕ) (xs : List A) (k : ℕ) (x y : A) → slice_get xs k ≡ Some x → sum_by f (slice_set xs k y) + f x ≡ sum_by f xs + f y
sum_set {A} f xs k x y at =
    ap (λ (z : A). sum_by f (slice_set xs k y) + f z) (sym (get_or_from_slice_get xs k x x at)) ∙ sum_by-set f xs k y x (slice_get_within xs k x at)
