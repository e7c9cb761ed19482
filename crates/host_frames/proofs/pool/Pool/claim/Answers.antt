use Rattle.std.proofs.Common.{arith, true≢false, ap, sym, subst, ◌∙◌, ◌≡◌, ℕ, ⊎_elim, length, replicate, All}
use Rattle.std.specs.Prelude.{Bool, true, false, IsTrue, ◌↔◌, ◌<◌, ◌≤◌, vec_len}
use mathlib.Core.Logic.{dite}
use native.Mathlib.Decide.{dec_lt}
use Rattle.host_frames.specs.{Page, IsBlankPage, badge_page_size}
use Rattle.host_frames.proofs.Seating.{packs}
use Rattle.host_frames.proofs.BadgeLemmas.{blank_contents}
use Rattle.host_frames.proofs.Claiming.{named_length}
use Rattle.host_frames.proofs.pool.Pool.claim.Goals as goal

fewer : (b : Bool) (m n : ℕ) → IsTrue b ↔ (m < n) → b ≡ true → m < n
fewer b m n is e = is.0 e

no_fewer : (b : Bool) (m n : ℕ) → IsTrue b ↔ (m < n) → b ≡ false → n ≤ m
no_fewer b m n is e = dite (dec_lt m n) (λ lt. absurd (true≢false (sym (is.1 lt) ∙ e))) (λ no. omega arith)

pub split_seat-packed-requires : goal.split_seat-packed-requires
split_seat-packed-requires c = let b = c.args.self.now in let some = b.some.0 in let words = b.words in (c.win_frames.ensures.same.0 ∙ ap (λ z. z.0) c.requires.pool, omega arith, packs IsBlankPage b.table.shared.key _ _)

pub returns-else-is_short-clause-pages : goal.returns-else-is_short-clause-pages
returns-else-is_short-clause-pages c = let did = c.win_frames.ensures.claim in let ps = c.win_frames.new.pages in let v = c.args.seat.now.seat.me.0 in let cut = c.split_seat-packed.ensures in let badge = c.into_badge.ensures in
    let ok = ps.ok.0 in let enough = no_fewer c.is_short.result (vec_len ps) c.args.n c.is_short.ensures c.if-is_short.false in let le = did.1.3 in
    let all : length ps.items ≡ c.args.n = omega arith in
    let size : v.page_size ≡ c.args.self.now.table.shared.key.page_size = ap (λ z. z.1) c.requires.pool in (
      blank_contents v.page_size ps.items did.1.4 ∙ (λ i. replicate (all i) (replicate (size i) 0)),
      (λ i. ((badge.0 ∙ (cut.3 ∙ c.win_frames.ensures.same.0)) i, (ap badge_page_size badge.2 ∙ (ap (λ z. z.0.page_size) cut.4 ∙ ap (λ z. z.0.page_size) did.1.0)) i)) ∙ c.requires.pool,
    )

-- a claim that got too few
pub give_up-requires-clause-seat : goal.give_up-requires-clause-seat
give_up-requires-clause-seat c = let h = c.win_frames.ensures.claim.1 in let ps = c.win_frames.new.pages.items in let long = named_length ps in let names = ap (λ z. length z.0.frames_out) h.0 in let sum = ap (λ z. z.0.granted) h.0 in let won = h.2 in
    (ap (λ z. z.0.share) h.0, ap (λ z. z.0.slots_held) h.0, ap (λ z. z.1) h.0, omega arith)

pub give_up-requires-clause-pages : goal.give_up-requires-clause-pages
give_up-requires-clause-pages c = let h = c.win_frames.ensures.claim.1 in
    (sym (ap (λ z. z.0.frames_out) h.0), subst (λ (z : ℕ). All (λ (p : Page). IsBlankPage z p.bytes) c.win_frames.new.pages.items) (sym (ap (λ z. z.0.page_size) h.0)) h.4)

pub returns-then-is_short-clause-claim : goal.returns-then-is_short-clause-claim
returns-then-is_short-clause-claim c = let did = c.win_frames.ensures.claim in let h = did.1 in let ps = c.win_frames.new.pages in let ok = ps.ok.0 in let few = fewer c.is_short.result (vec_len ps) c.args.n c.is_short.ensures c.if-is_short.true in let won = h.2 in let asked = h.1 in (
  did.0,
  ap (λ z. z.0.claims) c.give_up.ensures.given_up ∙ ap (λ z. z.0.claims) h.0,
  asked,
  (⊎_elim (λ all. absurd (omega arith)) (λ covers. covers) did.2, omega arith),
)

pub returns-then-is_short-clause-granted : goal.returns-then-is_short-clause-granted
returns-then-is_short-clause-granted c = let h = c.win_frames.ensures.claim.1 in let ps = c.win_frames.new.pages.items in let long = named_length ps in let names = ap (λ z. length z.0.frames_out) h.0 in let sum = ap (λ z. z.0.granted) h.0 in let won = h.2 in let now = ap (λ z. z.0.granted) c.give_up.ensures.given_up in omega arith
