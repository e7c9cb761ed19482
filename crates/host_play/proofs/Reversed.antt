-- Lists from their ends.
use Rattle.std.proofs.Common.{◌≡◌, ℕ, suc, ◌<◌, List, [], ◌∷◌, ◌++◌, length, map, reverse, Option, Some, refl, sym, ap, subst, ◌∙◌, arith}
use Rattle.std.specs.Prelude.{slice_get, slice_index_or}
use Rattle.std.specs.List.{AllZip, cons_option, filter_map}
use Rattle.std.proofs.lemmas.List.{map-append, reverse-append, reverse-reverse}
use Rattle.std.proofs.lemmas.List.Elements.{AllZip-push, filter_map-append}

pub some_same : {A : Type 0} {a b : A} → Some a ≡ Some b → a ≡ b
some_same h = cc h

-- the last element comes first
pub reverse_snoc : {A : Type 0} (xs : List A) (x : A) → reverse (xs ++ x ∷ []) ≡ x ∷ reverse xs
reverse_snoc xs x = reverse-append xs (x ∷ [])

-- the first comes last
pub reverse_cons : {A : Type 0} (x : A) (xs : List A) → reverse (x ∷ xs) ≡ reverse xs ++ x ∷ []
reverse_cons x xs = reverse-append (x ∷ []) xs

pub map-reverse : {A B : Type 0} (f : A → B) (xs : List A) → map f (reverse xs) ≡ reverse (map f xs)
map-reverse f [] = refl
map-reverse f (x ∷ xs) =
    ap (map f) (reverse_cons x xs) ∙ map-append f (reverse xs) (x ∷ [])
    ∙ ap (λ l. l ++ f x ∷ []) (map-reverse f xs) ∙ sym (reverse_cons (f x) (map f xs))

-- what f tells of the elements found by g
pub map-filter_map : {A B C : Type 0} (f : B → C) (g : A → Option B) (h : A → Option C) → ((x : A) → cons_option (h x) [] ≡ map f (cons_option (g x) [])) → (xs : List A) → filter_map h xs ≡ map f (filter_map g xs)
map-filter_map f g h same [] = refl
map-filter_map f g h same (x ∷ xs) =
    filter_map-append h (x ∷ []) xs
    ∙ ap (λ l. l ++ filter_map h xs) (same x)
    ∙ ap (λ l. map f (cons_option (g x) []) ++ l) (map-filter_map f g h same xs)
    ∙ sym (ap (map f) (filter_map-append g (x ∷ []) xs) ∙ map-append f (cons_option (g x) []) (filter_map g xs))

-- ---- a list whose image ends with an element

pub record EndsWith {A B : Type 0} (f : A → B) (xs : List A) (ys : List B) (y : B) : Type 0 where
  pub rest : List A
  pub last : A
  pub is : xs ≡ rest ++ last ∷ []
  pub rest_is : map f rest ≡ ys
  pub last_is : f last ≡ y

pub ends_with : {A B : Type 0} (f : A → B) (xs : List A) (ys : List B) (y : B) → map f xs ≡ ys ++ y ∷ [] → EndsWith f xs ys y
ends_with f [] [] y h = absurd (cc h)
ends_with f [] (z ∷ ys) y h = absurd (cc h)
ends_with {A} {B} f (x ∷ []) [] y h = record { rest = []; last = x; is = refl; rest_is = refl; last_is = cc }
ends_with f (x ∷ w ∷ xs) [] y h = absurd (cc h)
ends_with f (x ∷ xs) (z ∷ ys) y h =
    let more = ends_with f xs ys y (cc h) in
    record {
      rest = x ∷ more.rest;
      last = more.last;
      is = ap (λ l. x ∷ l) more.is;
      rest_is = let first : f x ≡ z = cc h in ap (λ l. f x ∷ l) more.rest_is ∙ ap (λ b. b ∷ ys) first;
      last_is = more.last_is;
    }

-- ---- place by place

-- two lists that hold place by place, as a call for each place tells it
pub zipped : {A : Type 0} (R : A → A → Type 0) (xs ys : List A) → length ys ≡ length xs → ((i : ℕ) (d : A) → i < length xs → R (slice_index_or xs i d) (slice_index_or ys i d)) → AllZip R xs ys
zipped R [] [] n h = tt
zipped R [] (y ∷ ys) n h = absurd (omega arith)
zipped R (x ∷ xs) [] n h = absurd (omega arith)
zipped R (x ∷ xs) (y ∷ ys) n h = (h 0 x (omega arith), zipped R xs ys (omega arith) (λ i d less. h (suc i) d (omega (arith, less))))

pub zipped_map : {A B : Type 0} (R : A → A → Type 0) (f : A → B) → ((x y : A) → R x y → f y ≡ f x) → (xs ys : List A) → AllZip R xs ys → map f ys ≡ map f xs
zipped_map R f same [] [] z = refl
zipped_map R f same [] (y ∷ ys) z = absurd z
zipped_map R f same (x ∷ xs) [] z = absurd z
zipped_map {A} {B} R f same (x ∷ xs) (y ∷ ys) z =
    ap (λ (b : B). b ∷ map f ys) (same x y z.0) ∙ ap (λ l. f x ∷ l) (zipped_map R f same xs ys z.1)

pub zipped_found : {A B : Type 0} (R : A → A → Type 0) (f : A → Option B) → ((x y : A) → R x y → f y ≡ f x) → (xs ys : List A) → AllZip R xs ys → filter_map f ys ≡ filter_map f xs
zipped_found R f same [] [] z = refl
zipped_found R f same [] (y ∷ ys) z = absurd z
zipped_found R f same (x ∷ xs) [] z = absurd z
zipped_found {A} {B} R f same (x ∷ xs) (y ∷ ys) z =
    ap (λ (o : Option B). cons_option o (filter_map f ys)) (same x y z.0) ∙ ap (cons_option (f x)) (zipped_found R f same xs ys z.1)

pub zipped_length : {A B : Type 0} (R : A → B → Type 0) (xs : List A) (ys : List B) → AllZip R xs ys → length ys ≡ length xs
zipped_length R [] [] z = refl
zipped_length R [] (y ∷ ys) z = absurd z
zipped_length R (x ∷ xs) [] z = absurd z
zipped_length R (x ∷ xs) (y ∷ ys) z = ap suc (zipped_length R xs ys z.1)

-- two lists that hold place by place
pub zipped_at : {A B : Type 0} (R : A → B → Type 0) (xs : List A) (ys : List B) → length ys ≡ length xs → ((k : ℕ) (a : A) (b : B) → slice_get xs k ≡ Some a → slice_get ys k ≡ Some b → R a b) → AllZip R xs ys
zipped_at R [] [] n h = tt
zipped_at R [] (y ∷ ys) n h = absurd (omega arith)
zipped_at R (x ∷ xs) [] n h = absurd (omega arith)
zipped_at R (x ∷ xs) (y ∷ ys) n h = (h 0 x y refl refl, zipped_at R xs ys (omega arith) (λ k a b at there. h (suc k) a b at there))

-- ---- both turned round

pub zipped_round : {A : Type 0} (R : A → A → Type 0) (xs ys : List A) → AllZip R xs ys → AllZip R (reverse xs) (reverse ys)
zipped_round R [] [] z = tt
zipped_round R [] (y ∷ ys) z = absurd z
zipped_round R (x ∷ xs) [] z = absurd z
zipped_round R (x ∷ xs) (y ∷ ys) z =
    let pushed = AllZip-push R (reverse xs) (reverse ys) x y (zipped_round R xs ys z.1) z.0 in
    subst (λ l. AllZip R l (reverse (y ∷ ys))) (sym (reverse_cons x xs)) (subst (λ l. AllZip R (reverse xs ++ x ∷ []) l) (sym (reverse_cons y ys)) pushed)

-- turned round, changed place by place, and turned back
pub turned_back : {A : Type 0} (R : A → A → Type 0) (old turned changed new : List A) → turned ≡ reverse old → new ≡ reverse changed → AllZip R turned changed → AllZip R old new
turned_back R old turned changed new round back z =
    let same = ap reverse round ∙ reverse-reverse old in
    subst (λ l. AllZip R old l) (sym back) (subst (λ l. AllZip R l (reverse changed)) same (zipped_round R turned changed z))
