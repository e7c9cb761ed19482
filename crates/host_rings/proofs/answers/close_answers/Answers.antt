use Rattle.std.proofs.Common.{rules, ◌≡◌, ℕ, List, ◌∷◌, ◌++◌, length, map, ap, sym, ◌∙◌, subst}
use Rattle.std.proofs.lemmas.List.{append-nil, length-map, nil_from_length}
use mathlib.Core.Option.{some}
use lib.ListN.{get_elem?}
use Rattle.host_rings.specs.{AnswerView, ComeFrom, SlipSenderState, SlipTakerState, AreAllOf}
use Rattle.host_rings.proofs.Lists.{at_middle, at_each}
use Rattle.host_rings.proofs.AnswerMoves.{comes}
use Rattle.host_rings.proofs.Counts.{at_most_pushed}
use Rattle.host_rings.proofs.answers.close_answers.Goals as goal

-- the sender that comes next is at its place
next : (senders yielded rest more : List SlipSenderState) (s : SlipSenderState) → senders ≡ yielded ++ rest → rest ≡ s ∷ more → get_elem? senders (length yielded) ≡ some s
next senders yielded rest more s e f = ap (λ l. get_elem? l (length yielded)) (e ∙ ap (λ l. yielded ++ l) f) ∙ at_middle yielded more s

-- at the end all were yielded
all : (senders yielded rest : List SlipSenderState) → senders ≡ yielded ++ rest → length rest ≡ 0 → senders ≡ yielded
all senders yielded rest e n = e ∙ ap (λ l. yielded ++ l) (nil_from_length rest n) ∙ append-nil yielded

in_turn : (t : SlipTakerState) (senders : List SlipSenderState) → AreAllOf t senders → (k : ℕ) (s : SlipSenderState) → get_elem? senders k ≡ some s → (s.ring ≡ t.ring) × (s.number ≡ k)
in_turn t senders h k s e = at_each (λ k s. (s.ring ≡ t.ring) × (s.number ≡ k)) senders h.1 k s e

pub close_sender-requires-clause-queue : goal.close_sender-requires-clause-queue
close_sender-requires-clause-queue c = let i = c.loop-sender.invariant in let there = next _ _ _ _ _ i.rest c.in-Some.ensures.steps.0 in let r = in_turn c.args.taker c.args.senders.items c.requires _ _ there in (search rules, r.0 ∙ sym i.ring)

pub close_sender-requires-clause-place : goal.close_sender-requires-clause-place
close_sender-requires-clause-place c = let i = c.loop-sender.invariant in let there = next _ _ _ _ _ i.rest c.in-Some.ensures.steps.0 in let r = in_turn c.args.taker c.args.senders.items c.requires _ _ there in
    (ap (λ (v : AnswerView). v.pops) i.view, r.1 ∙ sym (ap (λ (v : AnswerView). length v.closed) i.view ∙ length-map _ _))

pub learn_as-requires-clause-rule : goal.learn_as-requires-clause-rule
learn_as-requires-clause-rule c = let i = c.loop-sender.invariant in let l = c.loop-sender.sender-iterator.rest.ok.0 in let whole = all _ _ _ i.rest (sym l ∙ c.in-None.ensures.steps.0) in
    comes _ _ (ap (λ (v : AnswerView). v.pops) i.view) (ap (λ (v : AnswerView). length v.closed) i.view ∙ length-map _ _ ∙ sym (ap length whole) ∙ c.requires.0 ∙ sym (ap (λ (v : AnswerView). v.senders) i.view))

pub returns-clause-order : goal.returns-clause-order
returns-clause-order c = let i = c.loop-sender.invariant in let l = c.loop-sender.sender-iterator.rest.ok.0 in let whole = all _ _ _ i.rest (sym l ∙ c.in-None.ensures.steps.0) in
    subst (λ (ss : List SlipSenderState). ComeFrom (map (λ s. s.pushed) ss) c.args.taker.taken) (sym whole) (subst (λ (v : AnswerView). ComeFrom v.closed v.taken) i.view c.learn_as.ensures.rule.1)

pub returns-clause-count : goal.returns-clause-count
returns-clause-count c = λ test. at_most_pushed test _ _ (returns-clause-order c)
