-- One place more.
use Rattle.std.proofs.Common.{◌≡◌, ℕ, suc, ◌+◌, ◌<◌, ◌≤◌, Bool, true, false, cond, List, [], ◌∷◌, ◌++◌, length, take, get_or, refl, sym, ap, ◌∙◌, arith}
use Rattle.std.proofs.lemmas.List.{length-take-le, take_more}
use Rattle.host_model.specs.{places, places_from}

cond-append : {A : Type 0} (b : Bool) (x : A) (ys zs : List A) → cond b (x ∷ ys ++ zs) (ys ++ zs) ≡ cond b (x ∷ ys) ys ++ zs
cond-append true x ys zs = refl
cond-append false x ys zs = refl

places_from-push : {A : Type 0} (n : ℕ) (p : A → Bool) (xs : List A) (y : A) → places_from n p (xs ++ y ∷ []) ≡ places_from n p xs ++ cond (p y) ((n + length xs) ∷ []) []
places_from-push n p [] y = let e : n ≡ n + 0 = omega arith in ap (λ m. cond (p y) (m ∷ []) []) e
places_from-push n p (x ∷ xs) y =
    let e : n + 1 + length xs ≡ n + suc (length xs) = omega arith in
    let rest : places_from (n + 1) p (xs ++ y ∷ []) ≡ places_from (n + 1) p xs ++ cond (p y) ((n + suc (length xs)) ∷ []) [] =
    places_from-push (n + 1) p xs y ∙ ap (λ m. places_from (n + 1) p xs ++ cond (p y) (m ∷ []) []) e in
    ap (λ zs. cond (p x) (n ∷ zs) zs) rest ∙ cond-append (p x) n (places_from (n + 1) p xs) (cond (p y) ((n + suc (length xs)) ∷ []) [])

pub places_step : {A : Type 0} (p : A → Bool) (xs : List A) (i : ℕ) (x : A) (list longer : List ℕ) (wanted : Bool) → i < length xs → x ≡ get_or xs i x
    → list ≡ places p (take i xs) → wanted ≡ p x → longer ≡ list ++ cond wanted (i ∷ []) [] → longer ≡ places p (take (i + 1) xs)
places_step p xs i x list longer wanted within at e h l =
    let few : i ≤ length xs = omega (arith, within) in
    let here : 0 + length (take i xs) ≡ i = omega (arith, length-take-le i xs few) in
    l
    ∙ ap (λ ys. ys ++ cond wanted (i ∷ []) []) e
    ∙ ap (λ b. places p (take i xs) ++ cond b (i ∷ []) []) (h ∙ ap p at)
    ∙ ap (λ m. places p (take i xs) ++ cond (p (get_or xs i x)) (m ∷ []) []) (sym here)
    ∙ sym (ap (places p) (take_more xs i x within) ∙ places_from-push 0 p (take i xs) (get_or xs i x))
