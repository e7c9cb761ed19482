-- How long the lists of records are.
use Rattle.std.proofs.Common.{◌≡◌, ℕ, zero, suc, ◌+◌, ◌<◌, ◌≤◌, Bool, true, false, ◌&&◌, IsTrue, cond, List, [], ◌∷◌, ◌++◌, length, find, flat_map, map, take, Some, unwrap_or, refl, sym, ap, ◌∙◌, arith, append-nil}
use Rattle.std.proofs.lemmas.Grind.{flat_map-append}
use Rattle.std.proofs.Math.Bool.{and-true}
use Rattle.std.proofs.Math.Seq.{take-length}
use Rattle.std.proofs.lemmas.List.Folds.{list_all-append}
use Rattle.std.specs.List.{list_all, range_with_len}
use Rattle.std.proofs.lemmas.List.{map-append}
use Rattle.host_record.specs.declared.request.Request.{Request}
use Rattle.host_model.specs.{answers_for, owing_record, below}
use Rattle.host_model.proofs.ListTests.{and-from}

length-range : (a n : ℕ) → length (range_with_len a n) ≡ n
length-range a zero = refl
length-range a (suc n) = ap suc (length-range (a + 1) n)

pub length-below : (n : ℕ) → length (below n) ≡ n
length-below n = length-range 0 n

pub range-append : (a n : ℕ) → range_with_len a (n + 1) ≡ range_with_len a n ++ (a + n) ∷ []
range-append a zero = let e : a ≡ a + 0 = omega arith in ap (λ b. b ∷ []) e
range-append a (suc n) =
    let e : a + 1 + n ≡ a + suc n = omega arith in
    let f : suc n + 1 ≡ suc (n + 1) = omega arith in
    ap (range_with_len a) f ∙ ap (λ xs. a ∷ xs) (range-append (a + 1) n) ∙ ap (λ b. a ∷ range_with_len (a + 1) n ++ b ∷ []) e

pub below_more : (n : ℕ) → below (n + 1) ≡ below n ++ n ∷ []
below_more n = let e : 0 + n ≡ n = omega arith in range-append 0 n ∙ ap (λ b. below n ++ b ∷ []) e

-- the pieces of one number more
pub flat_map_step : {A : Type 0} (f : ℕ → List A) (a n : ℕ) (list longer here : List A) → list ≡ flat_map f (range_with_len a n) → here ≡ f (a + n) → longer ≡ list ++ here → longer ≡ flat_map f (range_with_len a (n + 1))
flat_map_step f a n list longer here e h l =
    l
    ∙ ap (λ xs. xs ++ here) e
    ∙ ap (λ xs. flat_map f (range_with_len a n) ++ xs) (h ∙ sym (append-nil (f (a + n))))
    ∙ sym (ap (flat_map f) (range-append a n) ∙ flat_map-append f (range_with_len a n) ((a + n) ∷ []))

some-injective : (a o : ℕ) → Some a ≡ Some o → a ≡ o
some-injective a o e = ap (λ x. unwrap_or x 0) e

found_within : (p : ℕ → Bool) (a n o : ℕ) → find p (range_with_len a n) ≡ Some o → o < a + n
found_within p a zero o e = absurd (cc e)
found_within p a (suc n) o e = at (p a) e (λ g. found_within p (a + 1) n o g)
  where
    at : (b : Bool) → cond b (Some a) (find p (range_with_len (a + 1) n)) ≡ Some o → (find p (range_with_len (a + 1) n) ≡ Some o → o < a + 1 + n) → o < a + suc n
    at true e h = let q : a ≡ o = some-injective a o e in omega (arith, q)
    at false e h = omega (arith, h e)

-- the record that owes an answer was sent
pub owing_within : (rs : List Request) (k o : ℕ) → owing_record rs k ≡ Some o → o < length rs
owing_within rs k o e = omega (arith, found_within (λ i. answers_for rs i k) 0 (length rs) o e)

pub map_below_step : {A : Type 0} (f : ℕ → A) (n : ℕ) (list longer : List A) (here : A) → list ≡ map f (below n) → here ≡ f n → longer ≡ list ++ here ∷ [] → longer ≡ map f (below (n + 1))
map_below_step f n list longer here e h l =
    l
    ∙ ap (λ xs. xs ++ here ∷ []) e
    ∙ ap (λ x. map f (below n) ++ x ∷ []) h
    ∙ sym (ap (map f) (below_more n) ∙ map-append f (below n) (n ∷ []))

-- the whole list is the last prefix
pub map_below_end : {A B : Type 0} (g : List A → B) (xs : List A) (n : ℕ) (list longer : List B) (here : B) → n ≡ length xs → list ≡ map (λ m. g (take m xs)) (below n) → here ≡ g xs
    → longer ≡ list ++ here ∷ [] → longer ≡ map (λ m. g (take m xs)) (below (length xs + 1))
map_below_end g xs n list longer here e f h l =
    map_below_step (λ m. g (take m xs)) (length xs) list longer here (f ∙ ap (λ k. map (λ m. g (take m xs)) (below k)) e) (h ∙ ap g (sym (take-length xs))) l

-- a test of one number more, as a loop makes it
pub below_step : (test : ℕ → Bool) (n : ℕ) (all here : Bool) → all ≡ list_all test (below n) → here ≡ test n → all && here ≡ list_all test (below (n + 1))
below_step test n all here e h =
    ap (λ b. b && here) e
    ∙ ap (λ b. list_all test (below n) && b) (h ∙ sym (and-true (test n)))
    ∙ sym (ap (list_all test) (below_more n) ∙ list_all-append test (below n) (n ∷ []))

all_from : (test : ℕ → Bool) (a n : ℕ) → ((i : ℕ) → a ≤ i → i < a + n → IsTrue (test i)) → list_all test (range_with_len a n) ≡ true
all_from test a zero h = refl
all_from test a (suc n) h = and-from (test a) (list_all test (range_with_len (a + 1) n)) (h a (omega arith) (omega arith)) (all_from test (a + 1) n (λ i p q. h i (omega (arith, p)) (omega (arith, q))))

-- from tests of every number below n to one test
pub all_below-from : (test : ℕ → Bool) (n : ℕ) → ((i : ℕ) → i < n → IsTrue (test i)) → list_all test (below n) ≡ true
all_below-from test n h = all_from test 0 n (λ i p q. h i (omega (arith, q)))
