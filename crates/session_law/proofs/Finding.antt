-- Elements of lists that are made from others.
use Rattle.std.proofs.Common.{◌≡◌, ℕ, zero, suc, Bool, true, false, cond, List, [], ◌∷◌, length, map, reverse, Option, Some, refl, sym, ap, ◌∙◌}
use Rattle.std.specs.Prelude.{find, unwrap_or}
use Rattle.std.specs.List.{slice_get}
use Rattle.std.proofs.lemmas.List.{reverse-append}
use Rattle.host_log.proofs.Places.{get_last, stands_append}

module _ {A B : Type 0} (f : A → B) where
  pub from_map : (xs : List A) (n : ℕ) (y : B) → slice_get (map f xs) n ≡ Some y → (x : A) × (slice_get xs n ≡ Some x) × (f x ≡ y)
  from_map [] zero y at = absurd (cc)
  from_map [] (suc n) y at = absurd (cc)
  from_map (x ∷ xs) zero y at = (x, refl, ap (λ (o : Option B). unwrap_or o y) at)
  from_map (x ∷ xs) (suc n) y at = from_map xs n y at

module _ {A : Type 0} where
  pub in_reverse : (xs : List A) (n : ℕ) (x : A) → slice_get xs n ≡ Some x → (m : ℕ) × (slice_get (reverse xs) m ≡ Some x)
  in_reverse [] zero x at = absurd (cc)
  in_reverse [] (suc n) x at = absurd (cc)
  in_reverse (y ∷ ys) zero x at = let same : y ≡ x = cc in (length (reverse ys), ap (λ l. slice_get l (length (reverse ys))) (reverse-append (y ∷ []) ys) ∙ (get_last (reverse ys) y ∙ ap Some same))
  in_reverse (y ∷ ys) (suc n) x at = let r = in_reverse ys n x at in (r.0, ap (λ l. slice_get l r.0) (reverse-append (y ∷ []) ys) ∙ stands_append (reverse ys) (y ∷ []) r.0 x r.1)

  -- what is found stands there
  pub find_place : (p : A → Bool) (xs : List A) (x : A) → find p xs ≡ Some x → (n : ℕ) × (slice_get xs n ≡ Some x) × (p x ≡ true)
  find_place p [] x e = absurd (cc)
  find_place p (y ∷ ys) x e = step (p y) refl e (λ f. find_place p ys x f)
    where
      step : (b : Bool) → p y ≡ b → cond b (Some y) (find p ys) ≡ Some x → (find p ys ≡ Some x → (n : ℕ) × (slice_get ys n ≡ Some x) × (p x ≡ true)) → (n : ℕ) × (slice_get (y ∷ ys) n ≡ Some x) × (p x ≡ true)
      step true t f more = let same : y ≡ x = cc in (0, f, ap p (sym same) ∙ t)
      step false t f more = let r = more f in (suc r.0, r.1, r.2)
