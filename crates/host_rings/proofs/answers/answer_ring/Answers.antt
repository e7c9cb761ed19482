use Rattle.std.proofs.Common.{◌≡◌, ℕ, ◌+◌, List, ◌∷◌, ◌++◌, [], length, ap, sym, ◌∙◌, subst, ⊎_elim, length-append, arith}
use mathlib.Core.Option.{some}
use lib.ListN.{get_elem?}
use Rattle.host_rings.specs.{RingId, SlipSenderState, SlipTakerState, slip_sender_of, slip_taker_of, AreFresh}
use Rattle.host_rings.proofs.Lists.{at_snoc_or_end, at_each, each_at}
use Rattle.host_rings.proofs.AnswerMoves.{begins}
use Rattle.host_rings.proofs.answers.answer_ring.Goals as goal

pub ruled-requires-clause-rule : goal.ruled-requires-clause-rule
ruled-requires-clause-rule c = begins

fresh_more : (ring : RingId) (depth : ℕ) (senders : List SlipSenderState) (s : SlipSenderState) → AreFresh ring depth senders → s ≡ slip_sender_of ring depth (length senders) [] → AreFresh ring depth (senders ++ s ∷ [])
fresh_more ring depth senders s old is = each_at (λ k t. t ≡ slip_sender_of ring depth k []) (senders ++ s ∷ [])
    (λ k t at. ⊎_elim (λ (x : get_elem? senders k ≡ some t). at_each (λ k t. t ≡ slip_sender_of ring depth k []) senders old k t x)
    (λ (x : (k ≡ length senders) × (s ≡ t)). sym x.1 ∙ is ∙ ap (λ n. slip_sender_of ring depth n []) (sym x.0)) (at_snoc_or_end senders s t k at))

-- one more sender
step : (depth n : ℕ) (t u : SlipTakerState) (s : SlipSenderState) (old new : List SlipSenderState) → new ≡ old ++ s ∷ [] → t ≡ slip_taker_of t.ring depth n [] []
    → s ≡ slip_sender_of t.ring t.depth t.senders [] → u ≡ slip_taker_of t.ring t.depth (t.senders + 1) t.taken t.heard → length old ≡ n → AreFresh t.ring depth old
    → (length new ≡ n + 1) × AreFresh u.ring depth new × (u ≡ slip_taker_of u.ring depth (n + 1) [] [])
step depth n t u s old new e is made grown count fresh = let deep : t.depth ≡ depth = ap (λ (y : SlipTakerState). y.depth) is in let many : t.senders ≡ n = ap (λ (y : SlipTakerState). y.senders) is in
    let ring : t.ring ≡ u.ring = sym (ap (λ (y : SlipTakerState). y.ring) grown) in
    let place : s ≡ slip_sender_of t.ring depth (length old) [] = made ∙ ap (λ (y : ℕ × ℕ). slip_sender_of t.ring y.0 y.1 []) (λ i. (deep i, (many ∙ sym count) i)) in (
      ap length e ∙ length-append old (s ∷ []) ∙ ap (λ k. k + 1) count,
      subst (λ (r : RingId). AreFresh r depth new) ring (subst (AreFresh t.ring depth) (sym e) (fresh_more t.ring depth old s fresh place)),
      grown ∙ (λ i. slip_taker_of (ring i) (deep i) (many i + 1) (is i).taken (is i).heard),
    )

pub loop-preserved : goal.loop-preserved
loop-preserved c = let i = c.loop.invariant in let h = c.in_ok-sender.ensures in let r = step _ _ _ _ _ _ _ c.push_reserved.ensures.items i.taker h.0 h.1 i.count i.fresh in
    record { count = r.0; room = (let l = c.push_reserved.ensures.capacity in let w = i.room in omega arith); fresh = r.1; taker = r.2 }
