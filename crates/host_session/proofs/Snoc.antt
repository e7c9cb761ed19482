-- Lists to which one element was added.
use Rattle.std.proofs.Common.{◌≡◌, ◌⊎◌, ⊎_elim, ℕ, suc, ◌+◌, Bool, true, false, cond, List, [], ◌∷◌, ◌++◌, length, take, filter, filter_map, Option, Some, None, refl, sym, ap, subst, ◌∙◌, arith, append_assoc, append-nil}
use Rattle.std.specs.List.{slice_get, cons_option, range_with_len}
use Rattle.std.proofs.lemmas.List.{take-append-le, take_at}
use Rattle.std.proofs.lemmas.List.Elements.{filter-append, filter_map-append}
use Rattle.std.proofs.lemmas.Option.{slice_get_within}
use Rattle.host_model.specs.{map_after, map_with_before, places, places_from}
use Rattle.host_log.proofs.Places.{get_snoc}
use Rattle.host_intake.proofs.Counting.{snoc_from}

module _ {A : Type 0} where
  -- what holds of each element with those before it holds with one more
  pub each_more : (P : List A → A → Type 0) (xs : List A) (x : A) → ((n : ℕ) (a : A) → slice_get xs n ≡ Some a → P (take n xs) a) → P xs x
      → (n : ℕ) (a : A) → slice_get (xs ++ x ∷ []) n ≡ Some a → P (take n (xs ++ x ∷ [])) a
  each_more P xs x each here n a e = ⊎_elim
      (λ t. subst (λ l. P l a) (sym (take-append-le n xs (x ∷ []) (omega (arith, slice_get_within xs n a t)))) (each n a t))
      (λ t. subst (λ l. P l a) (sym (ap (λ k. take k (xs ++ x ∷ [])) t.0 ∙ take_at xs (x ∷ []) (length xs) refl)) (subst (λ y. P xs y) t.1 here))
      (get_snoc xs x a n e)

  pub filter_rest : (p : A → Bool) (xs ys : List A) → filter p ys ≡ [] → filter p (xs ++ ys) ≡ filter p xs
  filter_rest p xs ys e = filter-append p xs ys ∙ (ap (λ l. filter p xs ++ l) e ∙ append-nil (filter p xs))

module _ {A B : Type 0} where
  pub found_one : (f : A → Option B) (xs : List A) (x : A) (y : B) → f x ≡ Some y → filter_map f (xs ++ x ∷ []) ≡ filter_map f xs ++ y ∷ []
  found_one f xs x y e = filter_map-append f xs (x ∷ []) ∙ ap (λ o. filter_map f xs ++ cons_option o []) e

  pub found_none : (f : A → Option B) (xs : List A) (x : A) → f x ≡ None → filter_map f (xs ++ x ∷ []) ≡ filter_map f xs
  found_none f xs x e = filter_map-append f xs (x ∷ []) ∙ ap (λ o. filter_map f xs ++ cons_option o []) e ∙ append-nil (filter_map f xs)

  pub map_after-append : (f : List A → A → Option B) (before xs ys : List A) → map_after f before (xs ++ ys) ≡ map_after f before xs ++ map_after f (before ++ xs) ys
  map_after-append f before [] ys = ap (λ l. map_after f l ys) (sym (append-nil before))
  map_after-append f before (x ∷ xs) ys = at (f before x) (map_after-append f (before ++ x ∷ []) xs ys ∙ ap (λ l. map_after f (before ++ x ∷ []) xs ++ map_after f l ys) (append_assoc before (x ∷ []) xs))
    where
      at : (o : Option B) → map_after f (before ++ x ∷ []) (xs ++ ys) ≡ map_after f (before ++ x ∷ []) xs ++ map_after f (before ++ x ∷ xs) ys
          → cons_option o (map_after f (before ++ x ∷ []) (xs ++ ys)) ≡ cons_option o (map_after f (before ++ x ∷ []) xs) ++ map_after f (before ++ x ∷ xs) ys
      at None e = e
      at (Some y) e = ap (λ l. y ∷ l) e

  pub told_append : (f : List A → A → Option B) (xs : List A) (x : A) → map_with_before f (xs ++ x ∷ []) ≡ map_with_before f xs ++ cons_option (f xs x) []
  told_append f xs x = map_after-append f [] xs (x ∷ [])

  pub told_one : (f : List A → A → Option B) (xs : List A) (x : A) (y : B) → f xs x ≡ Some y → map_with_before f (xs ++ x ∷ []) ≡ map_with_before f xs ++ y ∷ []
  told_one f xs x y e = map_after-append f [] xs (x ∷ []) ∙ ap (λ o. map_with_before f xs ++ cons_option o []) e

  pub told_none : (f : List A → A → Option B) (xs : List A) (x : A) → f xs x ≡ None → map_with_before f (xs ++ x ∷ []) ≡ map_with_before f xs
  told_none f xs x e = map_after-append f [] xs (x ∷ []) ∙ ap (λ o. map_with_before f xs ++ cons_option o []) e ∙ append-nil (map_with_before f xs)

  -- elements of which nothing is told
  silent : (f : List A → A → Option B) (p : A → Bool) → ((before : List A) (x : A) → p x ≡ false → f before x ≡ None) → (before ys : List A) → filter p ys ≡ [] → map_after f before ys ≡ []
  silent f p none before [] e = refl
  silent f p none before (y ∷ ys) e = at (p y) refl e (silent f p none (before ++ y ∷ []) ys)
    where
      at : (b : Bool) → p y ≡ b → cond b (y ∷ filter p ys) (filter p ys) ≡ [] → (filter p ys ≡ [] → map_after f (before ++ y ∷ []) ys ≡ []) → cons_option (f before y) (map_after f (before ++ y ∷ []) ys) ≡ []
      at true q g ih = absurd (cc g)
      at false q g ih = ap (λ o. cons_option o (map_after f (before ++ y ∷ []) ys)) (none before y q) ∙ ih g

  pub told_rest : (f : List A → A → Option B) (p : A → Bool) → ((before : List A) (x : A) → p x ≡ false → f before x ≡ None) → (xs ys : List A) → filter p ys ≡ [] → map_with_before f (xs ++ ys) ≡ map_with_before f xs
  told_rest f p none xs ys e = map_after-append f [] xs ys ∙ (ap (λ l. map_with_before f xs ++ l) (silent f p none xs ys e) ∙ append-nil (map_with_before f xs))

module _ {A : Type 0} (p : A → Bool) where
  places-append : (n : ℕ) (xs ys : List A) → places_from n p (xs ++ ys) ≡ places_from n p xs ++ places_from (n + length xs) p ys
  places-append n [] ys = ap (λ k. places_from k p ys) (omega arith)
  places-append n (x ∷ xs) ys = at (p x) (places-append (n + 1) xs ys ∙ ap (λ k. places_from (n + 1) p xs ++ places_from k p ys) (omega arith))
    where
      at : (b : Bool) → places_from (n + 1) p (xs ++ ys) ≡ places_from (n + 1) p xs ++ places_from (n + suc (length xs)) p ys
          → cond b (n ∷ places_from (n + 1) p (xs ++ ys)) (places_from (n + 1) p (xs ++ ys)) ≡ cond b (n ∷ places_from (n + 1) p xs) (places_from (n + 1) p xs) ++ places_from (n + suc (length xs)) p ys
      at true e = ap (λ l. n ∷ l) e
      at false e = e

  no_places : (n : ℕ) (ys : List A) → filter p ys ≡ [] → places_from n p ys ≡ []
  no_places n [] e = refl
  no_places n (y ∷ ys) e = at (p y) e (no_places (n + 1) ys)
    where
      at : (b : Bool) → cond b (y ∷ filter p ys) (filter p ys) ≡ [] → (filter p ys ≡ [] → places_from (n + 1) p ys ≡ []) → cond b (n ∷ places_from (n + 1) p ys) (places_from (n + 1) p ys) ≡ []
      at true g ih = absurd (cc g)
      at false g ih = ih g

  pub places_rest : (xs ys : List A) → filter p ys ≡ [] → places p (xs ++ ys) ≡ places p xs
  places_rest xs ys e = places-append 0 xs ys ∙ (ap (λ l. places p xs ++ l) (no_places (0 + length xs) ys e) ∙ append-nil (places p xs))

  pub places_one : (xs : List A) (x : A) → p x ≡ true → places p (xs ++ x ∷ []) ≡ places p xs ++ length xs ∷ []
  places_one xs x e = places-append 0 xs (x ∷ []) ∙ (ap (λ b. places p xs ++ cond b ((0 + length xs) ∷ []) []) e ∙ ap (λ n. places p xs ++ n ∷ []) (omega arith))

pub ids_more : (n : ℕ) → range_with_len 1 (n + 1) ≡ range_with_len 1 n ++ (n + 1) ∷ []
ids_more n = let e : n + 1 ≡ suc n = omega arith in ap (λ k. range_with_len 1 k) e ∙ (snoc_from 1 n ∙ ap (λ k. range_with_len 1 n ++ k ∷ []) (omega arith))
