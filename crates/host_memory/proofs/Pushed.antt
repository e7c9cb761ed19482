-- Lists, tests and pages once an entry was added at the end.
use Rattle.std.proofs.Common.{◌≡◌, ℕ, ◌+◌, Bool, true, false, ◌||◌, cond, List, [], ◌∷◌, ◌++◌, length, filter, filter_map, replicate, Option, Some, None, refl, ap, ◌∙◌, length-append, append-nil}
use Rattle.std.proofs.Math.Bool.{or-true}
use Rattle.std.specs.List.{list_any, cons_option, last_or}
use Rattle.std.specs.Prelude.{unwrap_or}
use Rattle.std.proofs.lemmas.List.{map-append}
use Rattle.std.proofs.lemmas.List.Elements.{filter_map-append, filter-append}
use Rattle.host_model.specs.{MemEntry, MemEvent, count, last, page_at, page_put_by}
use Rattle.host_memory.specs.{events}

module _ {A : Type 0} where
  pub any_skip : (p : A → Bool) (xs : List A) (x : A) → p x ≡ false → list_any p (xs ++ x ∷ []) ≡ list_any p xs
  any_skip p [] x e = ap (λ b. b || false) e
  any_skip p (y ∷ ys) x e = ap (λ b. p y || b) (any_skip p ys x e)

  pub any_add : (p : A → Bool) (xs : List A) (x : A) → p x ≡ true → list_any p (xs ++ x ∷ []) ≡ true
  any_add p [] x e = ap (λ b. b || false) e
  any_add p (y ∷ ys) x e = ap (λ b. p y || b) (any_add p ys x e) ∙ or-true (p y)

  pub filter_skip : (p : A → Bool) (xs : List A) (x : A) → p x ≡ false → filter p (xs ++ x ∷ []) ≡ filter p xs
  filter_skip p xs x e = filter-append p xs (x ∷ []) ∙ ap (λ b. filter p xs ++ cond b (x ∷ []) []) e ∙ append-nil (filter p xs)

  pub filter_add : (p : A → Bool) (xs : List A) (x : A) → p x ≡ true → filter p (xs ++ x ∷ []) ≡ filter p xs ++ x ∷ []
  filter_add p xs x e = filter-append p xs (x ∷ []) ∙ ap (λ b. filter p xs ++ cond b (x ∷ []) []) e

  pub count_skip : (p : A → Bool) (xs : List A) (x : A) → p x ≡ false → count p (xs ++ x ∷ []) ≡ count p xs
  count_skip p xs x e = ap length (filter_skip p xs x e)

  pub count_add : (p : A → Bool) (xs : List A) (x : A) → p x ≡ true → count p (xs ++ x ∷ []) ≡ count p xs + 1
  count_add p xs x e = ap length (filter_add p xs x e) ∙ length-append (filter p xs) (x ∷ [])

  pub filter_map_skip : {B : Type 0} (f : A → Option B) (xs : List A) (x : A) → f x ≡ None → filter_map f (xs ++ x ∷ []) ≡ filter_map f xs
  filter_map_skip f [] x e = ap (λ o. cons_option o []) e
  filter_map_skip f (y ∷ ys) x e = ap (λ l. cons_option (f y) l) (filter_map_skip f ys x e)

  pub filter_map_add : {B : Type 0} (f : A → Option B) (xs : List A) (x : A) (y : B) → f x ≡ Some y → filter_map f (xs ++ x ∷ []) ≡ filter_map f xs ++ y ∷ []
  filter_map_add f xs x y e = filter_map-append f xs (x ∷ []) ∙ ap (λ o. filter_map f xs ++ cons_option o []) e

  pub last_or_snoc : (o : Option A) (xs : List A) (x : A) → last_or o (xs ++ x ∷ []) ≡ Some x
  last_or_snoc o [] x = refl
  last_or_snoc o (y ∷ ys) x = last_or_snoc (Some y) ys x

  pub last_snoc : (d : A) (xs : List A) (x : A) → last d (xs ++ x ∷ []) ≡ x
  last_snoc d xs x = ap (λ o. unwrap_or o d) (last_or_snoc None xs x)

pub events_pushed : (xs : List MemEntry) (x : MemEntry) → events (xs ++ x ∷ []) ≡ events xs ++ x.what ∷ []
events_pushed xs x = map-append (λ e. e.what) xs (x ∷ [])

module _ (size : ℕ) (h : List MemEvent) (v k : ℕ) (e : MemEvent) where
  pub page_same : page_put_by size v k e ≡ None → page_at size (h ++ e ∷ []) v k ≡ page_at size h v k
  page_same n = ap (last (replicate size 0)) (filter_map_skip (page_put_by size v k) h e n)

  pub page_put : (ws : List ℕ) → page_put_by size v k e ≡ Some ws → page_at size (h ++ e ∷ []) v k ≡ ws
  page_put ws s = ap (last (replicate size 0)) (filter_map_add (page_put_by size v k) h e ws s) ∙ last_snoc (replicate size 0) (filter_map (page_put_by size v k) h) ws
