use Rattle.std.proofs.Common.{◌≡◌, ◌≤◌, ◌+◌, ℕ, zero, suc, Bool, true, false, not, cond, List, [], ◌∷◌, ◌++◌, length, map, ap, sym, refl, ◌∙◌, subst, arith}
use Rattle.std.proofs.lemmas.List.{append-nil, length-map, nil_from_length}
use Rattle.std.specs.List.{count_by, sum_by}
use Rattle.std.proofs.lemmas.List.Sums.{sum_by-cons}
use Rattle.host_rings.specs.{Slip, EachPlace, ComeFrom, SlipSenderState, SlipTakerState, AreAllOf}
use Rattle.state_client.specs.{Hand, AreAllHands}
use Rattle.state_client.proofs.rings.closing.close_hands.Goals as goal

each_map : (P : ℕ → SlipSenderState → Type 0) (hands : List Hand) → EachPlace (λ k h. P k h.sender) hands → EachPlace P (map (λ h. h.sender) hands)
each_map P [] h k d near = absurd (omega arith)
each_map P (x ∷ xs) h zero d near = h zero x (omega arith)
each_map P (x ∷ xs) h (suc k) d near = each_map (λ j. P (suc j)) xs (λ j e n. h (suc j) e (omega arith)) k d (omega arith)

all : (hands yielded rest : List Hand) → hands ≡ yielded ++ rest → length rest ≡ 0 → yielded ≡ hands
all hands yielded rest e n = sym (e ∙ ap (λ l. yielded ++ l) (nil_from_length rest n) ∙ append-nil yielded)

are_all : (t : SlipTakerState) (hands : List Hand) (senders : List SlipSenderState) → senders ≡ map (λ h. h.sender) hands → AreAllHands t hands → AreAllOf t senders
are_all t hands senders e h = subst (AreAllOf t) (sym e) (length-map hands (λ (h : Hand). h.sender) ∙ h.0, each_map (λ k s. (s.ring ≡ t.ring) × (s.number ≡ k)) hands h.1)

twice : (hands : List Hand) → map (λ s. s.pushed) (map (λ h. h.sender) hands) ≡ map (λ h. h.sender.pushed) hands
twice [] = refl
twice (h ∷ hs) = ap (λ l. h.sender.pushed ∷ l) (twice hs)

pub close_answers-requires : goal.close_answers-requires
close_answers-requires c = let i = c.loop-hand.invariant in let whole = all _ _ _ i.rest (sym c.loop-hand.hand-iterator.rest.ok.0 ∙ c.in-None.ensures.steps.0) in
    are_all c.args.taker c.args.hands.items _ (i.senders ∙ ap (λ (l : List Hand). map (λ h. h.sender) l) whole) c.requires.hands

pub returns-clause-order : goal.returns-clause-order
returns-clause-order c = let i = c.loop-hand.invariant in let whole = all _ _ _ i.rest (sym c.loop-hand.hand-iterator.rest.ok.0 ∙ c.in-None.ensures.steps.0) in
    subst (λ l. ComeFrom l c.args.taker.taken) (ap (λ (l : List SlipSenderState). map (λ s. s.pushed) l) (i.senders ∙ ap (λ (l : List Hand). map (λ h. h.sender) l) whole) ∙ twice c.args.hands.items) c.close_answers.ensures.order

one_or_other : (b : Bool) → cond b 1 0 + cond (not b) 1 0 ≡ 1
one_or_other true = refl
one_or_other false = refl

-- a test and its opposite
halves : (test : Slip → Bool) (xs : List Slip) → count_by test xs + count_by (λ x. not (test x)) xs ≡ length xs
halves test [] = refl
halves test (x ∷ xs) = let a = sum_by-cons (λ y. cond (test y) 1 0) x xs in let b = sum_by-cons (λ y. cond (not (test y)) 1 0) x xs in let h = halves test xs in let o = one_or_other (test x) in
    omega arith

sum_halves : (test : Slip → Bool) (hands : List Hand)
    → sum_by (λ h. count_by test h.sender.pushed) hands + sum_by (λ h. count_by (λ x. not (test x)) h.sender.pushed) hands ≡ sum_by (λ h. length h.sender.pushed) hands
sum_halves test [] = refl
sum_halves test (h ∷ hs) = let a = sum_by-cons (λ (y : Hand). count_by test y.sender.pushed) h hs in let b = sum_by-cons (λ (y : Hand). count_by (λ x. not (test x)) y.sender.pushed) h hs in
    let d = sum_by-cons (λ (y : Hand). length y.sender.pushed) h hs in let e = halves test h.sender.pushed in let r = sum_halves test hs in omega arith

sums : (f : List Slip → ℕ) (hands : List Hand) → sum_by (λ s. f s.pushed) (map (λ h. h.sender) hands) ≡ sum_by (λ h. f h.sender.pushed) hands
sums f [] = refl
sums f (h ∷ hs) = sum_by-cons (λ (s : SlipSenderState). f s.pushed) h.sender (map (λ h. h.sender) hs) ∙ ap (λ n. f h.sender.pushed + n) (sums f hs) ∙ sym (sum_by-cons (λ (y : Hand). f y.sender.pushed) h hs)

exactly : (taken : List Slip) (senders : List SlipSenderState) (hands : List Hand) → senders ≡ map (λ h. h.sender) hands
    → ((test : Slip → Bool) → count_by test taken ≤ sum_by (λ s. count_by test s.pushed) senders) → length taken ≡ sum_by (λ h. length h.sender.pushed) hands
    → (test : Slip → Bool) → count_by test taken ≡ sum_by (λ h. count_by test h.sender.pushed) hands
exactly taken senders hands e most long test = let other : Slip → Bool = λ x. not (test x) in
    let f : (t : Slip → Bool) → sum_by (λ s. count_by t s.pushed) senders ≡ sum_by (λ h. count_by t h.sender.pushed) hands = λ t. ap (sum_by (λ (s : SlipSenderState). count_by t s.pushed)) e ∙ sums (count_by t) hands in
    let a = most test in let b = most other in let fa = f test in let fb = f other in let x = halves test taken in let y = sum_halves test hands in omega arith

pub returns-clause-all : goal.returns-clause-all
returns-clause-all c = let i = c.loop-hand.invariant in let whole = all _ _ _ i.rest (sym c.loop-hand.hand-iterator.rest.ok.0 ∙ c.in-None.ensures.steps.0) in
    λ long test. exactly c.args.taker.taken _ c.args.hands.items (i.senders ∙ ap (λ (l : List Hand). map (λ h. h.sender) l) whole) c.close_answers.ensures.count long test
