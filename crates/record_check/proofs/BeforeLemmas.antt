-- One element more, with those before it.
use Rattle.std.proofs.Common.{◌≡◌, ℕ, ◌+◌, ◌<◌, Bool, ◌&&◌, List, [], ◌∷◌, ◌++◌, Option, Some, None, length, take, filter_map, get_or, unwrap_or, refl, sym, ap, ◌∙◌, append_assoc, append-nil}
use Rattle.std.proofs.lemmas.List.{take_more}
use Rattle.std.proofs.lemmas.List.Elements.{filter_map-append}
use Rattle.std.specs.List.{cons_option, last_or}
use Rattle.host_model.specs.{all_with_before, last, map_after, map_with_before}
use Rattle.host_model.proofs.Growth.{all_with_before-push}

pub all_before_more : {A : Type 0} (test : List A → A → Bool) (xs : List A) (i : ℕ) (d : A) → i < length xs
    → all_with_before test (take (i + 1) xs) ≡ (all_with_before test (take i xs) && test (take i xs) (get_or xs i d))
all_before_more test xs i d p = ap (all_with_before test) (take_more xs i d p) ∙ all_with_before-push test (take i xs) (get_or xs i d)

-- the test of one element more, as a loop makes it
pub before_step : {A : Type 0} (test : List A → A → Bool) (xs : List A) (i : ℕ) (x : A) (all here : Bool) → i < length xs → x ≡ get_or xs i x
    → all ≡ all_with_before test (take i xs) → here ≡ test (take i xs) x → all && here ≡ all_with_before test (take (i + 1) xs)
before_step test xs i x all here p at e h =
    ap (λ b. b && here) e
    ∙ ap (λ b. all_with_before test (take i xs) && b) (h ∙ ap (test (take i xs)) at)
    ∙ sym (all_before_more test xs i x p)

-- ---- lists that are made from each element and those before it

map_after-push : {A B : Type 0} (f : List A → A → Option B) (before xs : List A) (x : A) → map_after f before (xs ++ x ∷ []) ≡ map_after f before xs ++ cons_option (f (before ++ xs) x) []
map_after-push f before [] x = ap (λ b. cons_option (f b x) []) (sym (append-nil before))
map_after-push f before (y ∷ ys) x =
    let rest : map_after f (before ++ y ∷ []) (ys ++ x ∷ []) ≡ map_after f (before ++ y ∷ []) ys ++ cons_option (f (before ++ y ∷ ys) x) [] =
    map_after-push f (before ++ y ∷ []) ys x ∙ ap (λ b. map_after f (before ++ y ∷ []) ys ++ cons_option (f b x) []) (append_assoc before (y ∷ []) ys) in
    ap (cons_option (f before y)) rest ∙ cons_option-append (f before y) (map_after f (before ++ y ∷ []) ys) (cons_option (f (before ++ y ∷ ys) x) [])
  where
    cons_option-append : {B : Type 0} (o : Option B) (ys zs : List B) → cons_option o (ys ++ zs) ≡ cons_option o ys ++ zs
    cons_option-append None ys zs = refl
    cons_option-append (Some b) ys zs = refl

pub map_step : {A B : Type 0} (f : List A → A → Option B) (xs : List A) (i : ℕ) (x : A) (list longer : List B) (here : Option B) → i < length xs → x ≡ get_or xs i x
    → list ≡ map_with_before f (take i xs) → here ≡ f (take i xs) x → longer ≡ list ++ cons_option here [] → longer ≡ map_with_before f (take (i + 1) xs)
map_step f xs i x list longer here p at e h l =
    l
    ∙ ap (λ ys. ys ++ cons_option here []) e
    ∙ ap (λ o. map_with_before f (take i xs) ++ cons_option o []) (h ∙ ap (f (take i xs)) at)
    ∙ sym (ap (map_with_before f) (take_more xs i x p) ∙ map_after-push f [] (take i xs) (get_or xs i x))

pub filter_map_more : {A B : Type 0} (f : A → Option B) (xs : List A) (i : ℕ) (d : A) → i < length xs → filter_map f (take (i + 1) xs) ≡ filter_map f (take i xs) ++ cons_option (f (get_or xs i d)) []
filter_map_more f xs i d p = ap (filter_map f) (take_more xs i d p) ∙ filter_map-append f (take i xs) (get_or xs i d ∷ [])

pub filter_map_step : {A B : Type 0} (f : A → Option B) (xs : List A) (i : ℕ) (x : A) (list longer : List B) (here : Option B) → i < length xs → x ≡ get_or xs i x
    → list ≡ filter_map f (take i xs) → here ≡ f x → longer ≡ list ++ cons_option here [] → longer ≡ filter_map f (take (i + 1) xs)
filter_map_step f xs i x list longer here p at e h l =
    l
    ∙ ap (λ ys. ys ++ cons_option here []) e
    ∙ ap (λ o. filter_map f (take i xs) ++ cons_option o []) (h ∙ ap f at)
    ∙ sym (filter_map_more f xs i x p)

-- ---- the last of a list

last_or-push : {A : Type 0} (d : Option A) (xs : List A) (y : A) → last_or d (xs ++ y ∷ []) ≡ Some y
last_or-push d [] y = refl
last_or-push d (x ∷ xs) y = last_or-push (Some x) xs y

last-push : {A : Type 0} (d : A) (xs : List A) (o : Option A) → last d (xs ++ cons_option o []) ≡ unwrap_or o (last d xs)
last-push d xs None = ap (last d) (append-nil xs)
last-push d xs (Some y) = ap (λ o. unwrap_or o d) (last_or-push None xs y)

pub last_step : {A B : Type 0} (f : A → Option B) (d : B) (xs : List A) (i : ℕ) (x : A) (now after : B) → i < length xs → x ≡ get_or xs i x
    → now ≡ last d (filter_map f (take i xs)) → after ≡ unwrap_or (f x) now → after ≡ last d (filter_map f (take (i + 1) xs))
last_step f d xs i x now after p at e h =
    h
    ∙ ap (λ b. unwrap_or (f x) b) e
    ∙ ap (λ y. unwrap_or (f y) (last d (filter_map f (take i xs)))) at
    ∙ sym (ap (last d) (filter_map_more f xs i x p) ∙ last-push d (filter_map f (take i xs)) (f (get_or xs i x)))
