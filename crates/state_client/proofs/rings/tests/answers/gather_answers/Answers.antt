use Rattle.std.proofs.Common.{◌≡◌, ℕ, zero, suc, List, [], ◌∷◌, length, map, ap, sym, ◌∙◌, subst, arith}
use Rattle.std.proofs.lemmas.List.{length-map}
use Rattle.host_rings.specs.{EachPlace, SlipSenderState, SlipTakerState, slip_taker_of, AreFresh, AreAllOf}
use Rattle.state_client.specs.{Hand, AreAllHands}
use Rattle.state_client.proofs.rings.tests.answers.gather_answers.Goals as goal

-- the senders that were made with a taker are all of its ring
all_made : (t u : SlipTakerState) (senders : List SlipSenderState) (depth hands : ℕ) → length senders ≡ hands → AreFresh t.ring depth senders → t ≡ slip_taker_of t.ring depth hands [] []
    → (u.ring ≡ t.ring) × (u.senders ≡ t.senders) → AreAllOf u senders
all_made t u senders depth hands count fresh is same = (
  count ∙ sym (same.1 ∙ ap (λ (s : SlipTakerState). s.senders) is),
  λ k d near. let f = fresh k d near in (ap (λ (s : SlipSenderState). s.ring) f ∙ sym same.0, ap (λ (s : SlipSenderState). s.number) f),
)

each_hand : (P : ℕ → SlipSenderState → Type 0) (hands : List Hand) → EachPlace P (map (λ h. h.sender) hands) → EachPlace (λ k h. P k h.sender) hands
each_hand P [] e k d near = absurd (omega arith)
each_hand P (h ∷ hs) e zero d near = e zero h.sender (omega arith)
each_hand P (h ∷ hs) e (suc k) d near = each_hand (λ j. P (suc j)) hs (λ j s n. e (suc j) s (omega arith)) k d (omega arith)

all_hands : (u : SlipTakerState) (hands : List Hand) (senders : List SlipSenderState) → map (λ h. h.sender) hands ≡ senders → AreAllOf u senders → AreAllHands u hands
all_hands u hands senders e all = let of : AreAllOf u (map (λ h. h.sender) hands) = subst (AreAllOf u) (sym e) all in
    (sym (length-map hands (λ (h : Hand). h.sender)) ∙ of.0, each_hand (λ k s. (s.ring ≡ u.ring) × (s.number ≡ k)) hands of.1)

pub close_hands-requires-clause-hands : goal.close_hands-requires-clause-hands
close_hands-requires-clause-hands g c = let made = c.in_ok-senders.ensures in let joined = c.join-hands.ensures in let taker = c.join-hands.result.1.0 in
    joined.first taker (all_hands taker c.in_ok-hands.hands.items c.in_ok-senders.senders.items c.in_ok-hands.ensures
    (all_made c.in_ok-senders.taker taker c.in_ok-senders.senders.items _ _ made.count made.senders made.taker joined.second))

pub close_hands-requires-clause-room : goal.close_hands-requires-clause-room
close_hands-requires-clause-room g c = let count = (close_hands-requires-clause-hands g c).0 in let same = c.join-hands.ensures.second.1 in
    let many = ap (λ (s : SlipTakerState). s.senders) c.in_ok-senders.ensures.taker in let long = c.join-hands.result.0.ok.0 in let wide = c.in-Ok.ensures.capacity in
    (c.in-Ok.ensures.items, omega arith)
