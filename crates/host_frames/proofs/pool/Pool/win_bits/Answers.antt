use Rattle.std.proofs.Common.{arith, ap, sym, ◌∙◌, ℕ, subst, All}
use Rattle.std.specs.Int.{bit_not, w64}
use Rattle.std.proofs.lemmas.Nat.Bits.{bit_at-lt, bit_at_and}
use Rattle.host_frames.specs.{Page, wins, IsBlankPage}
use Rattle.host_frames.proofs.Bits.{won_le}
use Rattle.host_frames.proofs.Stepping.{wins_keeps}
use Rattle.host_frames.proofs.Claiming.{claim_wins, wins_meet, same_number, fetch_begins}
use Rattle.host_frames.proofs.pool.Pool.win_bits.Goals as goal

pub fetch_or-found-requires : goal.fetch_or-found-requires
fetch_or-found-requires c = let b = c.args.self.now in let words = b.words in let counted = b.counted in let word = c.requires.word in let q = c.requires.claim in let h = q.3 in let room = q.4 in let asked = h.1 in let won = h.2 in
    (c.requires.table, omega arith, wins_keeps IsBlankPage b.table.shared.key _ _ _ _ _ q.2 q.1.claims (ap (λ z. z.0.share) h.0) (ap (λ z. z.0.claims) h.0) (omega arith) (omega arith) (λ i lt set. let z = c.requires.mask i lt set in omega arith))

pub fetch_pages-requires : goal.fetch_pages-requires
fetch_pages-requires c = let q = c.requires.claim in let h = q.3 in let did = c.fetch_or-found.ensures in record {
  table = did.0 ∙ c.requires.table;
  won = λ i lt set. c.requires.mask i lt (let a = bit_at_and c.args.mask (bit_not w64 c.fetch_or-found.result) i in let m = bit_at-lt c.args.mask i in omega arith);
  in_words = c.requires.in_words;
  seat = fetch_begins q.0 c.args.word c.args.mask c.fetch_or-found.result q.1 q.2 c.args.seat.now.me c.fetch_or-found.new.seat.me c.args.pages.now.items h did.2;
  room = (let room = q.4 in let cap = q.5 in let le = won_le c.args.word c.args.mask c.fetch_or-found.result in omega arith);
  blank = subst (λ (z : ℕ). All (λ (p : Page). IsBlankPage z p.bytes) c.args.pages.now.items) (sym (ap (λ z. z.0.page_size) did.2 ∙ ap (λ z. z.0.page_size) h.0)) h.4;
}

pub returns-clause-claim : goal.returns-clause-claim
returns-clause-claim c = λ n v d h. let did = c.fetch_or-found.ensures in let got = c.fetch_pages.ensures in let q = c.requires.claim in let same = same_number n q.0 v q.1 d q.2 c.args.seat.now.me c.args.pages.now.items h q.3 in (
  wins c.args.word c.args.mask c.fetch_or-found.result d,
  claim_wins n c.args.word c.args.mask c.fetch_or-found.result v d c.args.seat.now.me c.fetch_or-found.new.seat.me c.fetch_pages.new.seat.me c.args.pages.now.items c.fetch_pages.new.pages.items h did.2 got.fetched got.count
      (let room = q.4 in let le = won_le c.args.word c.args.mask c.fetch_or-found.result in let count = got.count in omega arith)
      (subst (λ (z : ℕ). All (λ (p : Page). IsBlankPage z p.bytes) c.fetch_pages.new.pages.items) (ap (λ z. z.0.page_size) did.2 ∙ ap (λ z. z.0.page_size) h.0) got.blank),
  λ f. wins_meet c.args.word c.args.mask c.fetch_or-found.result d f (omega arith),
)
