-- Elements of lists, and where they stand.
use Rattle.std.proofs.Common.{◌≡◌, ℕ, zero, suc, ◌+◌, ◌≤◌, Bool, true, false, cond, List, [], ◌∷◌, ◌++◌, length, filter, filter_map, take, drop, Option, Some, None, refl, sym, ap, ◌∙◌, arith, append-nil, append_assoc, length-append}
use Rattle.std.specs.List.{cons_option, slice_get}
use Rattle.std.proofs.lemmas.List.{take-append-drop, take-take}
use Rattle.std.proofs.lemmas.List.Elements.{filter_map-append}
use Rattle.host_block.proofs.Places.{from_take}
use Rattle.host_model.specs.{all_after, places_from}
use Rattle.host_model.proofs.ListTests.{both}

module _ {A : Type 0} where
  -- the first elements, up to one that stands there
  pub take_one : (xs : List A) (n : ℕ) (x : A) → slice_get xs n ≡ Some x → take (suc n) xs ≡ take n xs ++ x ∷ []
  take_one [] zero x at = absurd (cc)
  take_one [] (suc n) x at = absurd (cc)
  take_one (y ∷ ys) zero x at = let same : y ≡ x = cc in ap (λ z. z ∷ []) same
  take_one (y ∷ ys) (suc n) x at = ap (λ l. y ∷ l) (take_one ys n x at)

  -- where an element stands, one stands before it
  pub one_before : (xs : List A) (m n : ℕ) (x : A) → slice_get xs n ≡ Some x → m ≤ n → (y : A) × (slice_get xs m ≡ Some y)
  one_before [] m zero x at le = absurd (cc)
  one_before [] m (suc n) x at le = absurd (cc)
  one_before (y ∷ ys) zero n x at le = (y, refl)
  one_before (y ∷ ys) (suc m) zero x at le = absurd (omega arith)
  one_before (y ∷ ys) (suc m) (suc n) x at le = one_before ys m n x at (omega arith)

  -- one element stands at a place
  pub only_at : (xs : List A) (n : ℕ) (x y : A) → slice_get xs n ≡ Some x → slice_get xs n ≡ Some y → x ≡ y
  only_at xs n x y e f = cc

  pub from_drop : (xs : List A) (n k : ℕ) (x : A) → slice_get (drop n xs) k ≡ Some x → slice_get xs (n + k) ≡ Some x
  from_drop [] zero zero x e = absurd (cc)
  from_drop [] zero (suc k) x e = absurd (cc)
  from_drop [] (suc n) zero x e = absurd (cc)
  from_drop [] (suc n) (suc k) x e = absurd (cc)
  from_drop (y ∷ ys) zero k x e = let i : 0 + k ≡ k = omega arith in ap (slice_get (y ∷ ys)) i ∙ e
  from_drop (y ∷ ys) (suc n) k x e = let i : suc n + k ≡ suc (n + k) = omega arith in ap (slice_get (y ∷ ys)) i ∙ from_drop ys n k x e

  -- what stands at places of a part
  pub from_part : (xs : List A) (n m k : ℕ) (x : A) (part : List A) → take m (drop n xs) ≡ part → slice_get part k ≡ Some x → slice_get xs (n + k) ≡ Some x
  from_part xs n m k x part e at = from_drop xs n k x (from_take (drop n xs) m k x (ap (λ l. slice_get l k) e ∙ at)).0

  -- ---- tests

  -- the element at a place passes with those before it
  after_at : (test : List A → A → Bool) (before xs : List A) (n : ℕ) (x : A) → all_after test before xs ≡ true → slice_get xs n ≡ Some x → test (before ++ take n xs) x ≡ true
  after_at test before [] zero x all at = absurd (cc)
  after_at test before [] (suc n) x all at = absurd (cc)
  after_at test before (y ∷ ys) zero x all at =
      let same : y ≡ x = cc in
      ap (λ l. test l x) (append-nil before) ∙ (ap (test before) (sym same) ∙ (both (test before y) (all_after test (before ++ y ∷ []) ys) all).0)
  after_at test before (y ∷ ys) (suc n) x all at =
      ap (λ l. test l x) (sym (append_assoc before (y ∷ []) (take n ys)))
      ∙ after_at test (before ++ y ∷ []) ys n x (both (test before y) (all_after test (before ++ y ∷ []) ys) all).1 at

  pub with_before_at : (test : List A → A → Bool) (xs : List A) (n : ℕ) (x : A) → all_after test [] xs ≡ true → slice_get xs n ≡ Some x → test (take n xs) x ≡ true
  with_before_at test xs n x all at = after_at test [] xs n x all at

  -- ---- those that pass, and their places

  pub rank : (p : A → Bool) (a : ℕ) (xs : List A) (n : ℕ) (x : A) → slice_get xs n ≡ Some x → p x ≡ true → (j : ℕ) × (slice_get (filter p xs) j ≡ Some x) × (slice_get (places_from a p xs) j ≡ Some (a + n))
  rank p a [] zero x at is = absurd (cc)
  rank p a [] (suc n) x at is = absurd (cc)
  rank p a (y ∷ ys) zero x at is =
      let same : y ≡ x = cc in
      let t : p y ≡ true = ap p same ∙ is in (
        0,
        ap (λ b. slice_get (cond b (y ∷ filter p ys) (filter p ys)) 0) t ∙ ap Some same,
        ap (λ b. slice_get (cond b (a ∷ places_from (a + 1) p ys) (places_from (a + 1) p ys)) 0) t ∙ ap Some (omega arith),
      )
  rank p a (y ∷ ys) (suc n) x at is = step (p y) (rank p (a + 1) ys n x at is)
    where
      step : (b : Bool) → (j : ℕ) × (slice_get (filter p ys) j ≡ Some x) × (slice_get (places_from (a + 1) p ys) j ≡ Some (a + 1 + n))
          → (j : ℕ) × (slice_get (cond b (y ∷ filter p ys) (filter p ys)) j ≡ Some x) × (slice_get (cond b (a ∷ places_from (a + 1) p ys) (places_from (a + 1) p ys)) j ≡ Some (a + suc n))
      step true r = (suc r.0, r.1, r.2 ∙ ap Some (omega arith))
      step false r = (r.0, r.1, r.2 ∙ ap Some (omega arith))

  pub unrank : (p : A → Bool) (a : ℕ) (xs : List A) (j m : ℕ) → slice_get (places_from a p xs) j ≡ Some m → (n : ℕ) × (x : A) × (m ≡ a + n) × (slice_get xs n ≡ Some x) × (p x ≡ true) × (slice_get (filter p xs) j ≡ Some x)
  unrank p a [] zero m at = absurd (cc)
  unrank p a [] (suc j) m at = absurd (cc)
  unrank p a (y ∷ ys) j m at = step (p y) refl j at (λ i e. unrank p (a + 1) ys i m e)
    where
      step : (b : Bool) → p y ≡ b → (j : ℕ) → slice_get (cond b (a ∷ places_from (a + 1) p ys) (places_from (a + 1) p ys)) j ≡ Some m
          → ((i : ℕ) → slice_get (places_from (a + 1) p ys) i ≡ Some m → (n : ℕ) × (x : A) × (m ≡ a + 1 + n) × (slice_get ys n ≡ Some x) × (p x ≡ true) × (slice_get (filter p ys) i ≡ Some x))
          → (n : ℕ) × (x : A) × (m ≡ a + n) × (slice_get (y ∷ ys) n ≡ Some x) × (p x ≡ true) × (slice_get (cond b (y ∷ filter p ys) (filter p ys)) j ≡ Some x)
      step true t zero e more = let q : a ≡ m = cc in (0, y, omega arith, refl, t, refl)
      step true t (suc i) e more = let r = more i e in (suc r.0, r.1, (let q = r.2 in omega arith), r.3, r.4, r.5)
      step false t i e more = let r = more i e in (suc r.0, r.1, (let q = r.2 in omega arith), r.3, r.4, r.5)

  -- ---- what is told of some elements

  module _ {B : Type 0} (f : A → Option B) where
    pub found_at : (xs : List A) (j : ℕ) (y : B) → slice_get (filter_map f xs) j ≡ Some y → (n : ℕ) × (x : A) × (slice_get xs n ≡ Some x) × (f x ≡ Some y) × (j ≡ length (filter_map f (take n xs)))
    found_at [] zero y e = absurd (cc)
    found_at [] (suc j) y e = absurd (cc)
    found_at (z ∷ zs) j y e = step (f z) refl j e (λ i g. found_at zs i y g)
      where
        step : (o : Option B) → f z ≡ o → (j : ℕ) → slice_get (cons_option o (filter_map f zs)) j ≡ Some y
            → ((i : ℕ) → slice_get (filter_map f zs) i ≡ Some y → (n : ℕ) × (x : A) × (slice_get zs n ≡ Some x) × (f x ≡ Some y) × (i ≡ length (filter_map f (take n zs))))
            → (n : ℕ) × (x : A) × (slice_get (z ∷ zs) n ≡ Some x) × (f x ≡ Some y) × (j ≡ length (filter_map f (take n (z ∷ zs))))
        step None q j g more = let r = more j g in (suc r.0, r.1, r.2, r.3, r.4 ∙ ap (λ o. length (cons_option o (filter_map f (take r.0 zs)))) (sym q))
        step (Some w) q zero g more = (0, z, refl, q ∙ g, refl)
        step (Some w) q (suc i) g more = let r = more i g in (suc r.0, r.1, r.2, r.3, (let k = r.4 in ap suc k) ∙ ap (λ o. length (cons_option o (filter_map f (take r.0 zs)))) (sym q))

    pub has_found : (xs : List A) (n : ℕ) (x : A) (y : B) → slice_get xs n ≡ Some x → f x ≡ Some y → slice_get (filter_map f xs) (length (filter_map f (take n xs))) ≡ Some y
    has_found [] zero x y at is = absurd (cc)
    has_found [] (suc n) x y at is = absurd (cc)
    has_found (z ∷ zs) zero x y at is = let same : z ≡ x = cc in ap (λ o. slice_get (cons_option o (filter_map f zs)) 0) (ap f same ∙ is)
    has_found (z ∷ zs) (suc n) x y at is = step (f z) (has_found zs n x y at is)
      where
        step : (o : Option B) → slice_get (filter_map f zs) (length (filter_map f (take n zs))) ≡ Some y → slice_get (cons_option o (filter_map f zs)) (length (cons_option o (filter_map f (take n zs)))) ≡ Some y
        step None g = g
        step (Some w) g = g

    -- no more is told of fewer
    pub fewer_told : (xs : List A) (m n : ℕ) → m ≤ n → length (filter_map f (take m xs)) ≤ length (filter_map f (take n xs))
    fewer_told xs m n le =
        let whole : take m (take n xs) ++ drop m (take n xs) ≡ take n xs = take-append-drop m (take n xs) in
        let split : filter_map f (take n xs) ≡ filter_map f (take m (take n xs)) ++ filter_map f (drop m (take n xs)) = ap (filter_map f) (sym whole) ∙ filter_map-append f (take m (take n xs)) (drop m (take n xs)) in
        let long : length (filter_map f (take n xs)) ≡ length (filter_map f (take m (take n xs))) + length (filter_map f (drop m (take n xs))) = ap length split ∙ length-append (filter_map f (take m (take n xs))) (filter_map f (drop m (take n xs))) in
        let same : length (filter_map f (take m (take n xs))) ≡ length (filter_map f (take m xs)) = ap (λ l. length (filter_map f l)) (take-take m n xs le) in
        omega (arith, long, same)

    pub told_here : (xs : List A) (n : ℕ) (x : A) (y : B) → slice_get xs n ≡ Some x → f x ≡ Some y → length (filter_map f (take (suc n) xs)) ≡ length (filter_map f (take n xs)) + 1
    told_here xs n x y at is =
        ap (λ l. length (filter_map f l)) (take_one xs n x at)
        ∙ (ap length (filter_map-append f (take n xs) (x ∷ []))
        ∙ (length-append (filter_map f (take n xs)) (filter_map f (x ∷ []))
        ∙ ap (λ o. length (filter_map f (take n xs)) + length (cons_option o [])) is))

    pub none_told : (xs : List A) (n : ℕ) (x : A) → slice_get xs n ≡ Some x → f x ≡ None → length (filter_map f (take (suc n) xs)) ≡ length (filter_map f (take n xs))
    none_told xs n x at is =
        let e : length (filter_map f (take (suc n) xs)) ≡ length (filter_map f (take n xs)) + length (cons_option (f x) []) =
        ap (λ l. length (filter_map f l)) (take_one xs n x at) ∙ (ap length (filter_map-append f (take n xs) (x ∷ [])) ∙ length-append (filter_map f (take n xs)) (filter_map f (x ∷ []))) in
        let z : length (cons_option (f x) []) ≡ 0 = ap (λ o. length (cons_option o [])) is in
        omega (arith, e, z)
