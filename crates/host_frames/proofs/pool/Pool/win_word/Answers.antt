use Rattle.std.proofs.Common.{arith, ap, refl, ◌%◌, ◌∙◌, ℕ, inl, inr, ⊎_elim}
use Rattle.std.specs.Int.{bit_at}
use Rattle.std.proofs.lemmas.Nat.{mod_below}
use Rattle.std.proofs.lemmas.Nat.Bits.{bit_at-lt, bit_at_ones}
use mathlib.Core.Logic.{dite}
use native.Mathlib.Decide.{ℕ_discrete, dec_lt}
use Rattle.host_frames.specs.{looks, IsBlankPage}
use Rattle.host_frames.proofs.Bits.{in_word, count_anywhere}
use Rattle.host_frames.proofs.Stepping.{looks_keeps}
use Rattle.host_frames.proofs.Claiming.{claim_looks, looks_on, looks_meets}
use Rattle.host_frames.proofs.pool.Pool.win_word.Goals as goal

pub load-found-requires : goal.load-found-requires
load-found-requires c = let b = c.args.self.now in let words = b.words in let word = c.requires.word in (c.requires.table, omega arith, looks_keeps IsBlankPage b.table.shared.key _ _ _ _ (ap (λ z. z.0.share) c.requires.claim.2.0))

-- all bits of the word are set
pub returns-then-found-clause-claim : goal.returns-then-found-clause-claim
returns-then-found-clause-claim c = λ v d h. let word : ℕ = c.args.word in let found : ℕ = c.load-found.result in (
  looks word found d,
  claim_looks c.args.n word found v d c.args.seat.now.me c.load-found.new.seat.me c.args.pages.now.items h c.load-found.ensures.2,
  looks_on word found d,
  inr (λ f lt here. looks_meets word found d f here (ap (λ z. bit_at z (f % 64)) c.if-found.true ∙ bit_at_ones 64 (f % 64) (mod_below f 64 (omega arith)))),
)

pub loop-from-init : goal.loop-from-init
loop-from-init c = let did = c.load-found.ensures in let word : ℕ = c.args.word in let found : ℕ = c.load-found.result in (
  c.requires.in_words,
  did.0,
  did.1,
  refl,
  λ v d h. (
    looks word found d,
    claim_looks c.args.n word found v d c.args.seat.now.me c.load-found.new.seat.me c.args.pages.now.items h did.2,
    looks_on word found d,
    λ f lt here is. ⊎_elim (λ z. absurd (omega arith)) (λ set. looks_meets word found d f here set) is,
  ),
)

pub win_bits-requires-clause-table : goal.win_bits-requires-clause-table
win_bits-requires-clause-table c = c.loop-from.invariant.1 ∙ c.requires.table

pub win_bits-requires-clause-in_words : goal.win_bits-requires-clause-in_words
win_bits-requires-clause-in_words c = c.loop-from.invariant.0

pub win_bits-requires-clause-claim : goal.win_bits-requires-clause-claim
win_bits-requires-clause-claim c = let inv = c.loop-from.invariant in let q = c.requires.claim in let d = inv.4 q.0 q.1 q.2 in (
  c.args.n,
  q.0,
  d.0,
  d.1,
  (let few = c.pick-mask.ensures.few in let same = count_anywhere c.args.word 0 c.pick-mask.result.0 in let ok = c.loop-from.pages.ok.0 in let len = c.len-in-loop-from.ensures in let le = d.1.3 in let fits = c.ranges.n.fits in omega arith),
  (let room = c.requires.room in let same = inv.3 in omega arith),
)

pub loop-from-preserved : goal.loop-from-preserved
loop-from-preserved c = let inv = c.loop-from.invariant in let did = c.win_bits.ensures in let word : ℕ = c.args.word in let found : ℕ = c.load-found.result in let mask : ℕ = c.pick-mask.result.0 in let from : ℕ = c.loop-from.from in (
  did.in_words,
  did.same.0 ∙ inv.1,
  did.same.1 ∙ inv.2,
  did.same.2 ∙ inv.3,
  λ v c0 h. let d = inv.4 v c0 h in let e = did.claim c.args.n v d.0 d.1 in (
    e.0,
    e.1,
    (λ f. let a = d.2 f in let b = e.2 f in omega arith),
    λ f lt here is. let old = d.3 f lt here in let more = e.2 f in let b : ℕ = f % 64 in ⊎_elim
        (λ below. dite (dec_lt b from)
        (λ before. let o = old (inl before) in omega arith)
        (λ after. dite (ℕ_discrete (bit_at found b) 1)
        (λ set. let o = old (inr set) in omega arith)
        (λ clear. let p = (c.pick-mask.ensures.bits b).0 (omega arith) below in let one = bit_at-lt found b in let m = in_word word mask f here in omega arith)))
        (λ set. let o = old (inr set) in omega arith)
        is,
  ),
)

pub returns-else-len-n-clause-same : goal.returns-else-len-n-clause-same
returns-else-len-n-clause-same c = let inv = c.loop-from.invariant in (inv.1, inv.2, inv.3)

pub returns-else-len-n-clause-in_words : goal.returns-else-len-n-clause-in_words
returns-else-len-n-clause-in_words c = c.loop-from.invariant.0

-- it has all its pages
pub returns-else-len-n-clause-claim : goal.returns-else-len-n-clause-claim
returns-else-len-n-clause-claim c = λ v c0 h. let d = c.loop-from.invariant.4 v c0 h in (d.0, d.1, d.2, inl (let le = d.1.3 in let len = c.len.ensures in let ok = c.loop-from.pages.ok.0 in let all = c.if-len-n.false in omega arith))

pub returns-after-loop-from-clause-same : goal.returns-after-loop-from-clause-same
returns-after-loop-from-clause-same c = let inv = c.loop-from.invariant in (inv.1, inv.2, inv.3)

pub returns-after-loop-from-clause-in_words : goal.returns-after-loop-from-clause-in_words
returns-after-loop-from-clause-in_words c = c.loop-from.invariant.0

-- it has gone over all bits of the word
pub returns-after-loop-from-clause-claim : goal.returns-after-loop-from-clause-claim
returns-after-loop-from-clause-claim c = λ v c0 h. let d = c.loop-from.invariant.4 v c0 h in
    (d.0, d.1, d.2, inr (λ f lt here. d.3 f lt here (inl (let low = mod_below f 64 (omega arith) in let limit = c.min-limit.ensures in let past = c.loop-from-test.false in omega arith))))
