-- A buffer that a record has pinned has a place, and is held.
use Rattle.std.proofs.Common.{◌≡◌, inl, inr, ℕ, suc, ◌-◌, ◌<◌, ◌≤◌, ◌==◌, Bool, true, false, ◌&&◌, ◌||◌, nat_lt, cond, if◌then◌else◌, List, [], ◌∷◌, filter, length, get_or, Option, Some, None, refl, sym, ap, subst, ◌∙◌, arith, eq-eqb}
use Rattle.std.specs.Prelude.{slice_get}
use Rattle.std.specs.List.{list_any}
use Rattle.std.specs.Option.{option_map_or}
use Rattle.std.proofs.lemmas.Bool.{eqb-true, ltb-true}
use Rattle.std.proofs.lemmas.Bool.Decides.{leb_tells}
use Rattle.std.proofs.lemmas.Option.{slice_get_read}
use Rattle.atomic_table.specs.Seated.{TableId}
use Rattle.host_log.specs.{SwitchedLog}
use Rattle.host_frames.specs.{SeenPages}
use Rattle.host_model.specs.{MemEntry, MemEvent, Pin, page_at, buffer_of}
use Rattle.host_memory.specs.{Buffer, MemoryLimits, Attachment, attachment_of, holds_pages, is_block_of, is_released, AreTold, IsMemoryKept, IsToldBy, contents_held, outline, page_held, is_left, is_pin_by, is_pin_for, is_pinned_by, pins_left, pins_on, events}
use Rattle.host_memory.proofs.Pinning.{some_counted}
use Rattle.host_memory.proofs.Seeing.{attachment_is}

three_parts : (a b c : Bool) → (a && b && c) ≡ true → (b ≡ true) × (c ≡ true)
three_parts true true true e = (refl, refl)
three_parts true true false e = absurd (cc)
three_parts true false c e = absurd (cc)
three_parts false b c e = absurd (cc)

-- a pin of this record on this buffer
pub pin_for : (hand i v : ℕ) (p : MemEvent) → is_pin_by hand i v p ≡ true → is_pin_for i p ≡ true
pin_for hand i v (Pin index id by) e = eq-eqb i index (sym (eqb-true index i (three_parts (by == hand) (index == i) (id == v) e).0))
pin_for hand i v _ e = absurd (cc)

pub pin_on : (hand i v : ℕ) (p : MemEvent) → is_pin_by hand i v p ≡ true → (buffer_of p == v) ≡ true
pin_on hand i v (Pin index id by) e = (three_parts (by == hand) (index == i) (id == v) e).1
pin_on hand i v _ e = absurd (cc)

wider_step : (b c rest more : Bool) → (b ≡ true → c ≡ true) → (rest ≡ true → more ≡ true) → (b || rest) ≡ true → (c || more) ≡ true
wider_step true c rest more bc rm e = ap (λ z. z || more) (bc refl)
wider_step false true rest more bc rm e = refl
wider_step false false rest more bc rm e = rm e

part_step : {A : Type 0} (p : A → Bool) (x : A) (xs : List A) (c more : Bool) → (list_any p xs ≡ true → more ≡ true) → list_any p (cond c (x ∷ xs) xs) ≡ true → (p x || more) ≡ true
part_step p x xs true more m e = wider_step (p x) (p x) (list_any p xs) more (λ b. b) m e
part_step p x xs false more m e = wider_step false (p x) (list_any p xs) more (λ b. absurd (cc)) m e

module _ {A : Type 0} where
  -- what passes the narrower test passes the wider one
  any_wider : (p t : A → Bool) → ((x : A) → t x ≡ true → p x ≡ true) → (xs : List A) → list_any t xs ≡ true → list_any p xs ≡ true
  any_wider p t tp [] e = absurd (cc)
  any_wider p t tp (x ∷ xs) e = wider_step (t x) (p x) (list_any t xs) (list_any p xs) (tp x) (λ r. any_wider p t tp xs r) e

  pub any_of_part : (p q : A → Bool) (xs : List A) → list_any p (filter q xs) ≡ true → list_any p xs ≡ true
  any_of_part p q [] e = absurd (cc)
  any_of_part p q (x ∷ xs) e = part_step p x (filter q xs) (q x) (list_any p xs) (λ r. any_of_part p q xs r) e

unlike : (b : Bool) → b ≡ true → b ≡ false → ⊥
unlike true t f = absurd (cc)
unlike false t f = absurd (cc)

-- a buffer with an entry has a place
entered : (pool : TableId × ℕ) (size : ℕ) (h : List MemEvent) (bs : List Buffer) → AreTold pool size h bs → (id : ℕ) → list_any (λ e. buffer_of e == id) h ≡ true → (1 ≤ id) × (id ≤ length bs)
entered pool size h bs t id e = elim (leb_tells 1 id) as (λ _. (1 ≤ id) × (id ≤ length bs)) [
  | inl p ↦ elim (leb_tells id (length bs)) as (λ _. (1 ≤ id) × (id ≤ length bs)) [ inl q ↦ (p.1, q.1) | inr q ↦ absurd (unlike (list_any (λ x. buffer_of x == id) h) e (t.fresh id q.1)) ]
  | inr p ↦ absurd (unlike (list_any (λ x. buffer_of x == id) h) e (let low = p.1 in let z : 0 ≡ id = omega arith in subst (λ v. list_any (λ x. buffer_of x == v) h ≡ false) z t.never))
]

still_step : (z : Bool) (n : ℕ) → (z ≡ true → n ≡ 0) → 1 ≤ n → z ≡ false
still_step true n u some = absurd (let none = u refl in omega arith)
still_step false n u some = refl

block_step : (o : Option Attachment) (n from block : ℕ) → o ≡ Some (record { pages = n; from = from }) → option_map_or (λ a. nat_lt block a.pages) o false ≡ true → block < n
block_step o n from block is e = ltb-true block n (sym (ap (λ x. option_map_or (λ a. nat_lt block a.pages) x false) is) ∙ e)

counted_step : (pool : TableId × ℕ) (p : Option SeenPages) (n : ℕ) → outline p ≡ Some (pool, n) → length (contents_held p) ≡ n
counted_step pool None n e = absurd (cc)
counted_step pool (Some p) n e = ap (λ o. option_map_or (λ x. x.1) o 0) e

module _ (limits : MemoryLimits) (pool : TableId × ℕ) (l : SwitchedLog MemEntry) (moves left : ℕ) (bs : List Buffer) (k : IsMemoryKept limits pool l moves left bs)
    (hand index id : ℕ) (pinned : is_pinned_by hand index id (events l.items) ≡ true) where
  pub pinned_given : (1 ≤ id) × (id ≤ length bs)
  pinned_given = entered pool limits.size (events l.items) bs k.told id
      (any_of_part (λ e. buffer_of e == id) (is_left (events l.items)) (events l.items)
      (any_wider (λ e. buffer_of e == id) (is_pin_by hand index id) (pin_on hand index id) (pins_left (events l.items)) pinned))

  pub pinned_within : id - 1 < length bs
  pinned_within = let g = pinned_given in let a = g.0 in let b = g.1 in omega arith

  pub pinned_suc : suc (id - 1) ≡ id
  pinned_suc = let g = pinned_given in let a = g.0 in omega arith

  -- the record's own pin
  pub pinned_own : list_any (is_pin_by hand index (suc (id - 1))) (events l.items) ≡ true
  pinned_own = ap (λ v. list_any (is_pin_by hand index v) (events l.items)) pinned_suc ∙ any_of_part (is_pin_by hand index id) (is_left (events l.items)) (events l.items) pinned

  pub some_pin : 1 ≤ pins_on id (events l.items)
  some_pin = some_counted (λ e. buffer_of e == id) (is_pin_by hand index id) (pin_on hand index id) (pins_left (events l.items)) pinned

  module _ (x : Buffer) (here : x ≡ get_or bs (id - 1) x) where
    pub pinned_at : slice_get bs (id - 1) ≡ Some x
    pinned_at = slice_get_read bs (length bs) (id - 1) x refl pinned_within here

    pub pinned_told : IsToldBy pool limits.size (events l.items) (suc (id - 1)) x
    pinned_told = k.told.each (id - 1) x pinned_at

    pub pinned_some : 1 ≤ x.pins
    pinned_some = subst (λ n. 1 ≤ n) pinned_told.pinned (subst (λ v. 1 ≤ pins_on v (events l.items)) (sym pinned_suc) some_pin)

    pub pinned_still : is_released (suc (id - 1)) (events l.items) ≡ false
    pinned_still = still_step (is_released (suc (id - 1)) (events l.items)) x.pins pinned_told.unpinned pinned_some

    pub pinned_outline : outline x.pages ≡ Some (pool, x.page_count)
    pinned_outline = pinned_told.held ∙ ap (λ z. if z then None else Some (pool, x.page_count)) pinned_still

    -- a block of it is one of its pages
    pub pinned_block : (block : ℕ) → is_block_of id (events l.items) block ≡ true → block < length (contents_held x.pages)
    pinned_block block e =
        let lt = block_step (attachment_of (suc (id - 1)) (events l.items)) x.page_count x.from block (attachment_is pool limits.size (events l.items) (suc (id - 1)) x pinned_told)
        (ap (λ v. is_block_of v (events l.items) block) pinned_suc ∙ e) in
        subst (λ n. block < n) (sym (counted_step pool x.pages x.page_count pinned_outline)) lt

    pub pinned_long : (block : ℕ) → is_block_of id (events l.items) block ≡ true → length (page_held x.pages block) ≡ limits.size
    pinned_long block e = pinned_told.long block (pinned_block block e)

    pub pinned_page : (block : ℕ) → is_block_of id (events l.items) block ≡ true → page_held x.pages block ≡ page_at limits.size (events l.items) id block
    pinned_page block e = pinned_told.bytes block (pinned_block block e) ∙ ap (λ v. page_at limits.size (events l.items) v block) pinned_suc

    pub pinned_holds : holds_pages id (events l.items) ≡ true
    pinned_holds = ap (λ v. holds_pages v (events l.items)) (sym pinned_suc)
        ∙ (ap (λ z. option_map_or (λ n. true) (if z then None else option_map_or (λ a. Some a.pages) (attachment_of (suc (id - 1)) (events l.items)) None) false) pinned_still
        ∙ ap (λ o. option_map_or (λ n. true) (option_map_or (λ a. Some a.pages) o None) false) (attachment_is pool limits.size (events l.items) (suc (id - 1)) x pinned_told))
