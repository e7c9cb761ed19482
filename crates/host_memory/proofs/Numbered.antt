-- The numbers of entries, once an entry was added.
use Rattle.std.proofs.Common.{◌≡◌, ℕ, Bool, true, ◌&&◌, List, [], ◌∷◌, ◌++◌, refl, sym, subst, ◌∙◌}
use Rattle.std.specs.List.{list_all, list_any}
use Rattle.std.proofs.lemmas.Bool.{and_from, and_parts, or_left}
use Rattle.std.proofs.lemmas.List.Folds.{list_all-append, list_any-append}
use Rattle.host_model.specs.{MemEntry, MemEvent, Lift, Land, Done}
use Rattle.host_memory.specs.{AreNumbered, is_by_its_hand, is_hand_of, is_numbered, is_pin_by, events}
use Rattle.host_memory.proofs.Pushed.{events_pushed}

all_pushed : {A : Type 0} (p : A → Bool) (xs : List A) (x : A) → list_all p xs ≡ true → p x ≡ true → list_all p (xs ++ x ∷ []) ≡ true
all_pushed p xs x e f = list_all-append p xs (x ∷ []) ∙ and_from (list_all p xs) (p x && true) e (and_from (p x) true f refl)

any_pushed : {A : Type 0} (p : A → Bool) (xs : List A) (x : A) → list_any p xs ≡ true → list_any p (xs ++ x ∷ []) ≡ true
any_pushed p xs x e = list_any-append p xs (x ∷ []) ∙ or_left (list_any p xs) (list_any p (x ∷ [])) e

hand_still : (h : List MemEvent) (x : MemEvent) (n : ℕ) (e : MemEvent) → is_hand_of h n e ≡ true → is_hand_of (h ++ x ∷ []) n e ≡ true
hand_still h x n (Lift index k id block bytes) t = any_pushed (is_pin_by n index id) h x t
hand_still h x n (Land index k id block bytes) t = any_pushed (is_pin_by n index id) h x t
hand_still h x n (Done index id) t = any_pushed (is_pin_by n index id) h x t
hand_still h x n _ t = t

hands_still : (h : List MemEvent) (x : MemEvent) (xs : List MemEntry) → list_all (is_by_its_hand h) xs ≡ true → list_all (is_by_its_hand (h ++ x ∷ [])) xs ≡ true
hands_still h x [] t = refl
hands_still h x (e ∷ es) t = let parts = and_parts (is_by_its_hand h e) (list_all (is_by_its_hand h) es) t in
    and_from (is_by_its_hand (h ++ x ∷ []) e) (list_all (is_by_its_hand (h ++ x ∷ [])) es) (hand_still h x e.hand e.what parts.0) (hands_still h x es parts.1)

pub numbered_pushed : (client admissions : ℕ) (entries : List MemEntry) (x : MemEntry) → AreNumbered client admissions entries → is_numbered client admissions x ≡ true → is_by_its_hand (events entries) x ≡ true
    → AreNumbered client admissions (entries ++ x ∷ [])
numbered_pushed client admissions entries x a number hand =
    let h = events entries in
    record {
      numbers = all_pushed (is_numbered client admissions) entries x a.numbers number;
      hands = subst (λ z. list_all (is_by_its_hand z) (entries ++ x ∷ []) ≡ true) (sym (events_pushed entries x))
          (all_pushed (is_by_its_hand (h ++ x.what ∷ [])) entries x (hands_still h x.what entries a.hands) (hand_still h x.what x.hand x.what hand));
    }
