-- What the hands have of one session, by their numbers; and lists.
use Rattle.std.proofs.Common.{◌≡◌, ℕ, zero, suc, ◌<◌, ◌==◌, Bool, true, false, cond, List, [], ◌∷◌, ◌++◌, filter, get_or, length, Some, refl, sym, ap, subst, ◌∙◌, arith, append-nil}
use Rattle.std.specs.List.{AllByRecursion, cons_option, slice_get}
use Rattle.std.proofs.lemmas.Bool.{eqb-true}
use Rattle.std.proofs.lemmas.List.Elements.{filter-append}
use Rattle.host_model.specs.{Step}
use Rattle.host_report.specs.{Closing, Good, Fault, Cut, NoMemory, closing_flush, closing_steps}
use Rattle.host_session.specs.{SessionHand}
use Rattle.host_worker.specs.{HandEnd, shares_in}
use Rattle.host_log.proofs.Places.{some_at}

-- hand n and its part of session k
pub record HasShare (k n : ℕ) (hands : List HandEnd) (h : SessionHand) : Type 0 where
  pub hand : HandEnd
  pub stands : slice_get hands n ≡ Some hand
  pub share : slice_get hand.shares k ≡ Some h

tail_has : (x : HandEnd) (hands : List HandEnd) (k : ℕ) → ((n : ℕ) (hand : HandEnd) → slice_get (x ∷ hands) n ≡ Some hand → k < length hand.shares) → (n : ℕ) (hand : HandEnd) → slice_get hands n ≡ Some hand → k < length hand.shares
tail_has x hands k h n hand at = h (suc n) hand at

-- where each hand has its part, there are as many parts as hands
pub shares_many : (k : ℕ) (hands : List HandEnd) → ((n : ℕ) (hand : HandEnd) → slice_get hands n ≡ Some hand → k < length hand.shares) → length (shares_in k hands) ≡ length hands
shares_many k [] h = refl
shares_many k (x ∷ hands) h =
    let s = some_at x.shares k (h 0 x refl) in
    ap (λ o. length (cons_option o (shares_in k hands))) s.1 ∙ ap suc (shares_many k hands (tail_has x hands k h))

-- and part n is that of hand n
pub share_at : (k : ℕ) (hands : List HandEnd) → ((n : ℕ) (hand : HandEnd) → slice_get hands n ≡ Some hand → k < length hand.shares) → (n : ℕ) (d : SessionHand) → n < length (shares_in k hands) → HasShare k n hands (get_or (shares_in k hands) n d)
share_at k [] h n d lt = absurd (omega arith)
share_at k (x ∷ hands) h n d lt =
    let s = some_at x.shares k (h 0 x refl) in
    let is : shares_in k (x ∷ hands) ≡ s.0 ∷ shares_in k hands = ap (λ o. cons_option o (shares_in k hands)) s.1 in
    subst (λ (l : List SessionHand). HasShare k n (x ∷ hands) (get_or l n d)) (sym is)
    (step n s.0 s.1 (let e = ap length is in omega arith) (λ m l. share_at k hands (tail_has x hands k h) m d l))
  where
    step : (n : ℕ) (y : SessionHand) → slice_get x.shares k ≡ Some y → n < suc (length (shares_in k hands)) → ((m : ℕ) → m < length (shares_in k hands) → HasShare k m hands (get_or (shares_in k hands) m d)) → HasShare k n (x ∷ hands) (get_or (y ∷ shares_in k hands) n d)
    step zero y at l more = record { hand = x; stands = refl; share = at }
    step (suc m) y at l more = let r = more m (omega arith) in record { hand = r.hand; stands = r.stands; share = r.share }

-- the closing steps are of no session
none_closing : (number : ℕ) (c : Closing) → 0 < number → filter (λ (step : Step). step.session == number) (closing_steps c) ≡ []
none_closing number c lt = at c (other (0 == number) refl)
  where
    other : (b : Bool) → (0 == number) ≡ b → (0 == number) ≡ false
    other true e = absurd (let z : 0 ≡ number = eqb-true 0 number e in omega arith)
    other false e = e

    at : (d : Closing) → (0 == number) ≡ false → filter (λ (step : Step). step.session == number) (closing_steps d) ≡ []
    at Good e = ap (λ b. cond b (closing_flush false ∷ []) []) e
    at Fault e = ap (λ b. cond b (closing_flush true ∷ []) []) e
    at Cut e = refl
    at NoMemory e = refl

pub own_steps : (number : ℕ) (c : Closing) (story : List Step) → 0 < number → filter (λ (step : Step). step.session == number) (story ++ closing_steps c) ≡ filter (λ (step : Step). step.session == number) story
own_steps number c story lt =
    filter-append (λ (step : Step). step.session == number) story (closing_steps c)
    ∙ (ap (λ l. filter (λ (step : Step). step.session == number) story ++ l) (none_closing number c lt) ∙ append-nil (filter (λ (step : Step). step.session == number) story))

-- what holds of each element, by its place, holds of all
pub all_by : {A : Type 0} (P : A → Type 0) (xs : List A) → ((k : ℕ) (x : A) → slice_get xs k ≡ Some x → P x) → AllByRecursion P xs
all_by P [] h = tt
all_by P (x ∷ xs) h = (h 0 x refl, all_by P xs (λ k y at. h (suc k) y at))
