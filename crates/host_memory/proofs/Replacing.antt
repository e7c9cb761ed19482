-- A list of which one element was replaced, or that has one more.
use Rattle.std.proofs.Common.{◌≡◌, ◌≢◌, ◌⊎◌, inl, inr, ℕ, zero, suc, List, [], ◌∷◌, ◌++◌, length, set, Some, refl, ap, arith}
use Rattle.std.specs.Prelude.{slice_get}

module _ {A : Type 0} where
  pub slice_get-set : (xs : List A) (i j : ℕ) (x y : A) → slice_get (set xs i x) j ≡ Some y → ((j ≡ i) × (x ≡ y)) ⊎ ((j ≢ i) × (slice_get xs j ≡ Some y))
  slice_get-set [] i j x y e = absurd (cc)
  slice_get-set (z ∷ zs) zero zero x y e = inl (refl, cc)
  slice_get-set (z ∷ zs) zero (suc j) x y e = inr ((λ s. absurd (omega arith)), e)
  slice_get-set (z ∷ zs) (suc i) zero x y e = inr ((λ s. absurd (omega arith)), e)
  slice_get-set (z ∷ zs) (suc i) (suc j) x y e = elim (slice_get-set zs i j x y e) [ inl p ↦ inl (ap suc p.0, p.1) | inr p ↦ inr ((λ s. p.0 (omega arith)), p.1) ]

  pub slice_get-snoc : (xs : List A) (j : ℕ) (x y : A) → slice_get (xs ++ x ∷ []) j ≡ Some y → ((j ≡ length xs) × (x ≡ y)) ⊎ (slice_get xs j ≡ Some y)
  slice_get-snoc [] zero x y e = inl (refl, cc)
  slice_get-snoc [] (suc j) x y e = absurd (cc)
  slice_get-snoc (z ∷ zs) zero x y e = inr e
  slice_get-snoc (z ∷ zs) (suc j) x y e = elim (slice_get-snoc zs j x y e) [ inl p ↦ inl (ap suc p.0, p.1) | inr p ↦ inr p ]

  pub set_same : (xs : List A) (i : ℕ) (x : A) → slice_get xs i ≡ Some x → set xs i x ≡ xs
  set_same [] i x e = absurd (cc)
  set_same (z ∷ zs) zero x e = let is : x ≡ z = cc in ap (λ y. y ∷ zs) is
  set_same (z ∷ zs) (suc i) x e = ap (λ l. z ∷ l) (set_same zs i x e)
