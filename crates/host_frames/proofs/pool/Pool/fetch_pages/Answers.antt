use Rattle.std.proofs.Common.{arith, ap, sym, refl, subst, ◌≡◌, ◌≢◌, ◌++◌, ◌+◌, ◌-◌, ◌*◌, ◌∙◌, ◌∷◌, [], ℕ, List, length, length-append, vec_capacity, vec_items, All}
use Rattle.std.specs.Int.{bit_at}
use Rattle.std.proofs.lemmas.List.Elements.{All-push}
use Rattle.std.proofs.lemmas.Nat.{div_below}
use Rattle.std.proofs.lemmas.Nat.Bits.{bit_at-lt, shr_and_one}
use Rattle.host_frames.specs.{Page, set_frames, IsBlankPage, IsInWords, frames_of_pages, fetched_view}
use Rattle.host_frames.proofs.Bits.{frames_from, next_set, next_clear}
use Rattle.host_frames.proofs.Claiming.{fetch_starts, fetch_next, fetch_more, named_snoc}
use Rattle.host_frames.proofs.pool.Pool.fetch_pages.Goals as goal
use Rattle.host_frames.proofs.pool.Pool.fetch_pages.Goals.{then-won-bit-eq1, else-won-bit-eq1}

one_more : (x : ℕ) (xs : List ℕ) → length (x ∷ xs) ≡ 1 + length xs
one_more x xs = omega arith

pub loop-bit-init : goal.loop-bit-init
loop-bit-init c = let v = c.args.seat.now.me.0 in let ps = c.args.pages.now.items in let from = frames_from c.args.word c.args.won in (
  c.requires.in_words,
  refl,
  refl,
  refl,
  fetch_starts v c.args.seat.now.me _ (frames_of_pages ps) refl c.requires.seat ∙ (λ i. (fetched_view v (from i) (frames_of_pages ps), [])),
  ap (λ (l : List ℕ). length ps + length l) (sym from),
  c.requires.blank,
)

pub fetch_page-bytes-requires-clause-frame : goal.fetch_page-bytes-requires-clause-frame
fetch_page-bytes-requires-clause-frame c = let inv = c.loop-bit.invariant in let word : ℕ = c.args.word in let won : ℕ = c.args.won in let bit : ℕ = c.loop-bit.bit in let set : bit_at won bit ≡ 1 = sym (shr_and_one won bit) ∙ c.if-won-bit-eq1.true in
    fetch_next c.args.seat.now.me.0 c.loop-bit.seat.me (set_frames word won bit (64 - bit)) (set_frames word won (bit + 1) (64 - (bit + 1))) (frames_of_pages c.loop-bit.pages.items) (64 * word + bit) inv.4 (next_set word won bit c.loop-bit-test.true set) c.requires.seat.0

pub push_reserved-requires : goal.push_reserved-requires
push_reserved-requires c = let inv = c.loop-bit.invariant in let word : ℕ = c.args.word in let won : ℕ = c.args.won in let bit : ℕ = c.loop-bit.bit in let set : bit_at won bit ≡ 1 = sym (shr_and_one won bit) ∙ c.if-won-bit-eq1.true in
    let next : length (set_frames word won bit (64 - bit)) ≡ 1 + length (set_frames word won (bit + 1) (64 - (bit + 1))) = ap length (next_set word won bit c.loop-bit-test.true set) ∙ one_more (64 * word + bit) (set_frames word won (bit + 1) (64 - (bit + 1))) in
    let room = c.requires.room in let count = inv.5 in let same = inv.3 in let ok = c.loop-bit.pages.ok.0 in omega arith

pub loop-bit-preserved : goal.loop-bit-preserved
loop-bit-preserved c = let inv = c.loop-bit.invariant in let v = c.args.seat.now.me.0 in let word : ℕ = c.args.word in let won : ℕ = c.args.won in let bit : ℕ = c.loop-bit.bit in let lt = c.loop-bit-test.true in let ps = c.loop-bit.pages.items in let words : ℕ = c.args.self.now.table.shared.table_id.words in
    let now : List ℕ = set_frames word won bit (64 - bit) in let later : List ℕ = set_frames word won (bit + 1) (64 - (bit + 1)) in elim c.if-won-bit-eq1.branch [
      | then-won-bit-eq1 w ↦ (
          let set : bit_at won bit ≡ 1 = sym (shr_and_one won bit) ∙ w.if-won-bit-eq1.true in
          let next = next_set word won bit lt set in
          let p : Page = record { frame = 64 * word + bit; bytes = w.fetch_page-bytes.result } in
          let did = w.fetch_page-bytes.ensures in
          let items : c.if-won-bit-eq1.pages.items ≡ ps ++ p ∷ [] = ap vec_items w.pages-is ∙ w.push_reserved.ensures.items in
          let below = c.requires.won bit lt set in let suffice = c.args.self.now.words in
          let B : Page → Type 0 = λ q. IsBlankPage v.page_size q.bytes in (
            subst (All (IsInWords words)) (sym items) (All-push (IsInWords words) ps p inv.0 (div_below (64 * word + bit) 64 words (omega arith) (omega arith))),
            ap (λ q. q.table_id) w.seat-is ∙ (did.same.0 ∙ inv.1),
            ap (λ q. q.id) w.seat-is ∙ (did.same.1 ∙ inv.2),
            ap vec_capacity w.pages-is ∙ (w.push_reserved.ensures.capacity ∙ inv.3),
            ap (λ q. q.me) w.seat-is ∙ fetch_more v c.loop-bit.seat.me w.fetch_page-bytes.new.seat.me now later (frames_of_pages ps) (frames_of_pages c.if-won-bit-eq1.pages.items) (64 * word + bit) inv.4 next did.fetched (ap frames_of_pages items ∙ named_snoc ps p),
            (let long = ap length items ∙ length-append ps (p ∷ []) in let more = ap length next ∙ one_more (64 * word + bit) later in let count = inv.5 in omega arith),
            subst (All B) (sym items) (All-push B ps p inv.6 (subst (λ (z : ℕ). IsBlankPage z w.fetch_page-bytes.result) (ap (λ z. z.0.page_size) inv.4) did.blank)),
          )
          )
      | else-won-bit-eq1 w ↦ (
          let unset : bit_at won bit ≢ 1 = λ e. w.if-won-bit-eq1.false (shr_and_one won bit ∙ e) in
          let clear : bit_at won bit ≡ 0 = (let small = bit_at-lt won bit in omega arith) in
          let next = next_clear word won bit lt clear in let items = ap vec_items w.pages-is in (
            subst (λ (l : List Page). All (IsInWords words) l) (sym items) inv.0,
            ap (λ q. q.table_id) w.seat-is ∙ inv.1,
            ap (λ q. q.id) w.seat-is ∙ inv.2,
            ap vec_capacity w.pages-is ∙ inv.3,
            ap (λ q. q.me) w.seat-is ∙ (inv.4 ∙ (λ i. (fetched_view v (next i) (frames_of_pages (sym items i)), []))),
            (let long = ap length items in let same = ap length next in let count = inv.5 in omega arith),
            subst (λ (l : List Page). All (λ (q : Page). IsBlankPage v.page_size q.bytes) l) (sym items) inv.6,
          )
          )
    ]

pub returns-clause-fetched : goal.returns-clause-fetched
returns-clause-fetched c = let v = c.args.seat.now.me.0 in let ps = c.loop-bit.pages.items in let past : c.loop-bit.bit ≡ 64 = (let end = c.loop-bit.auto.bit-end in let over = c.loop-bit-test.false in omega arith) in
    let none : set_frames c.args.word c.args.won c.loop-bit.bit (64 - c.loop-bit.bit) ≡ [] = ap (λ (z : ℕ). set_frames c.args.word c.args.won z (64 - z)) past in
    c.loop-bit.invariant.4 ∙ (λ i. (fetched_view v (none i) (frames_of_pages ps), []))

pub returns-clause-count : goal.returns-clause-count
returns-clause-count c = let inv = c.loop-bit.invariant in let count = inv.5 in let past : c.loop-bit.bit ≡ 64 = (let end = c.loop-bit.auto.bit-end in let over = c.loop-bit-test.false in omega arith) in
    let none : length (set_frames c.args.word c.args.won c.loop-bit.bit (64 - c.loop-bit.bit)) ≡ 0 = ap (λ (z : ℕ). length (set_frames c.args.word c.args.won z (64 - z))) past in omega arith
