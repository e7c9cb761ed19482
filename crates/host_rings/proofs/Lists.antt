-- Lists read by `get_elem?`, and the views of a ring's passes.
use Rattle.std.proofs.Common.{◌≡◌, ◌<◌, ◌≢◌, ◌⊎◌, inl, inr, ⊎_elim, ℕ, zero, suc, ◌≤◌, List, [], ◌∷◌, ◌++◌, length, slice_index_or, set, sym, refl, ap, subst, arith}
use mathlib.Core.Option.{some, some-injective, some-ne-none}
use lib.ListN.{get_elem?}
use Rattle.crossbeam_queue.proofs.Lists.{at_set}
use Rattle.host_rings.specs.{EachPlace}

module _ {A : Type 0} where
  pub at_snoc_or_end : (l : List A) (a b : A) (j : ℕ) → get_elem? (l ++ a ∷ []) j ≡ some b → (get_elem? l j ≡ some b) ⊎ ((j ≡ length l) × (a ≡ b))
  at_snoc_or_end [] a b zero e = inr (refl, some-injective a b e)
  at_snoc_or_end [] a b (suc j) e = absurd (some-ne-none b (sym e))
  at_snoc_or_end (x ∷ xs) a b zero e = inl e
  at_snoc_or_end (x ∷ xs) a b (suc j) e = ⊎_elim (λ t. inl t) (λ t. inr (ap suc t.0, t.1)) (at_snoc_or_end xs a b j e)

  pub at_middle : (l m : List A) (x : A) → get_elem? (l ++ x ∷ m) (length l) ≡ some x
  at_middle [] m x = refl
  at_middle (y ∷ l) m x = at_middle l m x

  -- each view of the passes fits
  abbrev pub AllFit : (ℕ → A → Type 0) → List A → Type 0
  AllFit F views = (pass : ℕ) (v : A) → get_elem? views pass ≡ some v → F pass v

  pub all_set : (F : ℕ → A → Type 0) (views : List A) (pass : ℕ) (w : A) → F pass w → ((j : ℕ) (u : A) → j ≢ pass → get_elem? views j ≡ some u → F j u) → AllFit F (set views pass w)
  all_set F views pass w mine others j u e = ⊎_elim (λ (x : (j ≡ pass) × (w ≡ u)). subst (λ (y : ℕ × A). F y.0 y.1) (λ i. (sym x.0 i, x.1 i)) mine)
      (λ (x : (j ≢ pass) × (get_elem? views j ≡ some u)). others j u x.0 x.1) (at_set views pass j w u e)

  pub all_one : (F : ℕ → A → Type 0) (w : A) → F 0 w → AllFit F (w ∷ [])
  all_one F w mine zero u e = subst (λ (y : A). F 0 y) (some-injective w u e) mine
  all_one F w mine (suc j) u e = absurd (some-ne-none u (sym e))

  pub all_snoc : (F : ℕ → A → Type 0) (views : List A) (w : A) → AllFit F views → F (length views) w → AllFit F (views ++ w ∷ [])
  all_snoc F views w old mine j u e = ⊎_elim (λ (x : get_elem? views j ≡ some u). old j u x)
      (λ (x : (j ≡ length views) × (w ≡ u)). subst (λ (y : ℕ × A). F y.0 y.1) (λ i. (sym x.0 i, x.1 i)) mine) (at_snoc_or_end views w u j e)

  pub at_within : (l : List A) (j : ℕ) (b : A) → get_elem? l j ≡ some b → suc j ≤ length l
  at_within [] j b e = absurd (some-ne-none b (sym e))
  at_within (x ∷ xs) zero b e = omega arith
  at_within (x ∷ xs) (suc j) b e = let r = at_within xs j b e in omega arith

  pub of_place : (l : List A) (k : ℕ) (a d : A) → get_elem? l k ≡ some a → slice_index_or l k d ≡ a
  of_place [] k a d e = absurd (some-ne-none a (sym e))
  of_place (x ∷ xs) zero a d e = some-injective x a e
  of_place (x ∷ xs) (suc k) a d e = of_place xs k a d e

  pub in_place : (l : List A) (k : ℕ) (d : A) → k < length l → get_elem? l k ≡ some (slice_index_or l k d)
  in_place [] k d h = absurd (omega arith)
  in_place (x ∷ xs) zero d h = refl
  in_place (x ∷ xs) (suc k) d h = in_place xs k d (omega arith)

  pub at_each : (P : ℕ → A → Type 0) (l : List A) → EachPlace P l → (k : ℕ) (a : A) → get_elem? l k ≡ some a → P k a
  at_each P l h k a e = subst (P k) (of_place l k a a e) (h k a (at_within l k a e))

  pub each_at : (P : ℕ → A → Type 0) (l : List A) → ((k : ℕ) (a : A) → get_elem? l k ≡ some a → P k a) → EachPlace P l
  each_at P l h k d b = h k (slice_index_or l k d) (in_place l k d b)
