-- All seats and senders of a session: what holds of the hands' holds of lists that are put together of them.
use Rattle.std.proofs.Common.{◌≡◌, ◌≢◌, ℕ, zero, suc, ◌<◌, ◌≤◌, List, [], ◌∷◌, ◌++◌, length, map, All, refl, sym, ap, subst, ◌∙◌, arith}
use Rattle.std.proofs.lemmas.List.{length-map}
use Rattle.std.proofs.lemmas.List.Elements.{All-append, All-cons, All-head, All-map, All-nil, All-same, All-tail}
use Rattle.host_rings.specs.{AreAllOf, SlipSenderState, SlipTakerState, EachPlace}
use Rattle.host_turn.specs.{IsSeatOutside}
use Rattle.host_session.specs.{SessionHand, SessionShared, AreAllHands, IsShared, SessionPlan}

-- ---- lists that are put together

module _ {B : Type 0} (P : B → Type 0) where
  pub all_one_more : (xs all : List B) (x : B) → all ≡ xs ++ x ∷ [] → All P xs → P x → All P all
  all_one_more xs all x is h p = All-same P all (xs ++ x ∷ []) is (All-append P xs (x ∷ []) h (All-cons P x [] p (All-nil P)))

  all_last_of : (xs : List B) (x : B) → All P (xs ++ x ∷ []) → P x
  all_last_of [] x h = All-head P x [] h
  all_last_of (y ∷ xs) x h = all_last_of xs x (All-tail P y (xs ++ x ∷ []) h)

  all_first_of : (xs : List B) (x : B) → All P (xs ++ x ∷ []) → All P xs
  all_first_of [] x h = All-nil P
  all_first_of (y ∷ xs) x h = All-cons P y xs (All-head P y (xs ++ x ∷ []) h) (all_first_of xs x (All-tail P y (xs ++ x ∷ []) h))

  pub all_but_last : (xs all : List B) (x : B) → all ≡ xs ++ x ∷ [] → All P all → All P xs
  all_but_last xs all x is h = all_first_of xs x (All-same P (xs ++ x ∷ []) all (sym is) h)

  pub all_last : (xs all : List B) (x : B) → all ≡ xs ++ x ∷ [] → All P all → P x
  all_last xs all x is h = all_last_of xs x (All-same P (xs ++ x ∷ []) all (sym is) h)

  module _ {A : Type 0} (f : A → B) where
    pub all_mapped : (xs : List A) (all : List B) → all ≡ map f xs → All (λ x. P (f x)) xs → All P all
    all_mapped xs all is h = All-same P all (map f xs) is (All-map P f xs h)

    all_from_map : (xs : List A) → All P (map f xs) → All (λ x. P (f x)) xs
    all_from_map [] h = All-nil (λ x. P (f x))
    all_from_map (x ∷ xs) h = All-cons (λ y. P (f y)) x xs (All-head P (f x) (map f xs) h) (all_from_map xs (All-tail P (f x) (map f xs) h))

    pub all_unmapped : (xs : List A) (all : List B) → all ≡ map f xs → All P all → All (λ x. P (f x)) xs
    all_unmapped xs all is h = all_from_map xs (All-same P (map f xs) all (sym is) h)

-- seats below n have another number
pub all_others : {A : Type 0} (number : A → ℕ) (count n : ℕ) (xs : List A) → count ≤ n → All (λ x. number x < count) xs → All (λ x. number x ≢ n) xs
all_others number count n [] le h = All-nil (λ x. number x ≢ n)
all_others number count n (x ∷ xs) le h =
    let below : number x < count = All-head (λ y. number y < count) x xs h in
    All-cons (λ y. number y ≢ n) x xs (λ e. absurd (omega (arith, below, e, le))) (all_others number count n xs le (All-tail (λ y. number y < count) x xs h))

each_map : {A B : Type 0} (P : ℕ → B → Type 0) (f : A → B) (xs : List A) → EachPlace (λ k x. P k (f x)) xs → EachPlace P (map f xs)
each_map P f [] h k d lt = absurd (omega (arith, lt))
each_map P f (x ∷ xs) h zero d lt = h zero x (omega arith)
each_map P f (x ∷ xs) h (suc k) d lt = each_map (λ j y. P (suc j) y) f xs (λ j e below. h (suc j) e (omega (arith, below))) k d (omega (arith, lt))

pub map_twice : {A B C : Type 0} (f : A → B) (g : B → C) (xs : List A) → map g (map f xs) ≡ map (λ x. g (f x)) xs
map_twice f g [] = refl
map_twice f g (x ∷ xs) = ap (λ l. g (f x) ∷ l) (map_twice f g xs)

-- ---- the hands of a session

module _ (p : SessionPlan) (shared : SessionShared) (part : IsShared p shared) (hands : List SessionHand) (are : AreAllHands p hands) where
  pub intake_outside : All (λ hand. IsSeatOutside shared.intake hand.intake) hands
  intake_outside k d lt = let h = are.1 k d lt in (h.intake.book_is ∙ sym part.books.0, h.intake.outside)

  pub memory_outside : All (λ hand. IsSeatOutside shared.memory hand.memory) hands
  memory_outside k d lt = let h = are.1 k d lt in (h.memory.book_is ∙ sym part.books.1, h.memory.outside)

  pub all_senders : (t : SlipTakerState) (senders : List SlipSenderState) → senders ≡ map (λ (hand : SessionHand). hand.sender) hands → t.ring ≡ p.answers → t.senders ≡ p.hands → AreAllOf t senders
  all_senders t senders is ring count = (
    ap length is ∙ (length-map hands (λ (hand : SessionHand). hand.sender) ∙ (are.0 ∙ sym count)),
    subst (λ (l : List SlipSenderState). EachPlace (λ k s. (s.ring ≡ t.ring) × (s.number ≡ k)) l) (sym is)
        (each_map (λ k (s : SlipSenderState). (s.ring ≡ t.ring) × (s.number ≡ k)) (λ (hand : SessionHand). hand.sender) hands (λ k d lt. let h = are.1 k d lt in (h.sender.0 ∙ sym ring, h.sender.1))),
  )
