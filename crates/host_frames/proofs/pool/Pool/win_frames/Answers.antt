use Rattle.std.proofs.Common.{arith, refl, sym, ◌/◌, ◌∙◌, ℕ, inl, inr, ⊎_elim, subst, All}
use mathlib.Core.Logic.{dite}
use native.Mathlib.Decide.{ℕ_discrete}
use Rattle.std.proofs.lemmas.List.Elements.{All-nil}
use Rattle.host_frames.specs.{new_claim, IsBlankPage, IsInWords}
use Rattle.host_frames.proofs.Stepping.{begins_keeps}
use Rattle.host_frames.proofs.Claiming.{claim_begins}
use Rattle.host_frames.proofs.pool.Pool.win_frames.Goals as goal

pub compare_exchange-requires : goal.compare_exchange-requires
compare_exchange-requires c = let b = c.args.self.now in let some = b.some.0 in let words = b.words in (c.requires.table, omega arith, begins_keeps IsBlankPage b.table.shared.key _ _ c.args.n _ c.requires.seat.0)

pub loop-word-init : goal.loop-word-init
loop-word-init c = let did = c.compare_exchange.ensures in let old = c.args.seat.now.me in let W = IsInWords c.args.self.now.table.shared.table_id.words in
    (subst (All W) (sym c.requires.pages.0) (All-nil W), did.0, did.1, refl, (new_claim c.args.n, claim_begins c.args.n old.0 old c.compare_exchange.new.seat.me c.args.pages.now.items refl c.requires.seat did.2 c.requires.pages.0, inr (λ f lt z. absurd (omega arith))))

pub win_word-requires-clause-claim : goal.win_word-requires-clause-claim
win_word-requires-clause-claim c = let inv = c.loop-word.invariant in (c.args.seat.now.me.0, inv.4.0, inv.4.1)

pub loop-word-preserved : goal.loop-word-preserved
loop-word-preserved c = let inv = c.loop-word.invariant in let did = c.win_word.ensures in let word : ℕ = c.loop-word.word in let d = did.claim c.args.seat.now.me.0 inv.4.0 inv.4.1 in let ok = c.loop-word.pages.ok.0 in let len = c.len.ensures in let no = c.if-len-n.false in (
  did.in_words,
  did.same.0 ∙ inv.1,
  did.same.1 ∙ inv.2,
  did.same.2 ∙ inv.3,
  (
    d.0,
    d.1,
    ⊎_elim (λ all. inl all) (λ met. ⊎_elim
        (λ all. absurd (no (len ∙ (ok ∙ all))))
        (λ old. inr (λ f lt z. dite (ℕ_discrete (f / 64) word) (λ e. met f lt e) (λ ne. let before = old f lt (omega arith) in let on = d.2 f in omega arith)))
        inv.4.2) d.3,
  ),
)
