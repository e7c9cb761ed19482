-- What holds of a memory at all times holds again after a fill, a show, a lift or a landing.
use Rattle.std.proofs.Common.{◌≡◌, ℕ, suc, ◌+◌, ◌-◌, ◌≤◌, ◌==◌, Bool, true, false, nat_le, if◌then◌else◌, List, [], ◌∷◌, ◌++◌, length, set, Option, Some, None, refl, sym, ap, subst, ◌∙◌, arith, eq-eqb}
use Rattle.std.specs.Prelude.{slice_get}
use Rattle.std.specs.Option.{option_map_or}
use Rattle.std.proofs.lemmas.Bool.{leb-true}
use Rattle.atomic_table.specs.Seated.{TableId}
use Rattle.host_log.specs.{SwitchedLog}
use Rattle.host_frames.specs.{SeenPages, contents}
use Rattle.host_model.specs.{MemEntry, MemEvent, Fill, count, buffer_of, is_within}
use Rattle.host_memory.specs.{Buffer, MemoryLimits, is_attach_entry, is_fill_or_show, used_room, attachment_of, is_released, has_blocks, IsMemoryKept, release_owed, contents_held, has_pages_at, outline, page_filled, page_held, pins_left, pins_on, events}
use Rattle.host_memory.proofs.Keeping.{kept_plain}
use Rattle.host_memory.proofs.Numbered.{numbered_pushed}
use Rattle.host_memory.proofs.Owing.{owed_set}
use Rattle.host_memory.proofs.Pinning.{pins_left_same}
use Rattle.host_memory.proofs.Pushed.{count_skip, count_add}
use Rattle.host_memory.proofs.Telling.{told_filled}
use Rattle.host_log.proofs.Bools.{and_parts}

held_step : (z : Bool) (o : Option ℕ) (block cnt : ℕ) → option_map_or (is_within block cnt) (if z then None else o) false ≡ true → z ≡ false
held_step true o block cnt e = absurd (cc)
held_step false o block cnt e = refl

-- a buffer that holds blocks isn't released
pub unreleased : (v : ℕ) (h : List MemEvent) (block cnt : ℕ) → has_blocks v h block cnt ≡ true → is_released v h ≡ false
unreleased v h block cnt e = held_step (is_released v h) (option_map_or (λ a. Some a.pages) (attachment_of v h) None) block cnt e

-- blocks that are within pages
pub blocks_within : (p : Option SeenPages) (block cnt : ℕ) → has_pages_at p block cnt ≡ true → block + cnt ≤ length (contents_held p)
blocks_within None block cnt e = absurd (cc)
blocks_within (Some p) block cnt e = let n = length (contents p) in let parts = and_parts (nat_le cnt n) (nat_le block (n - cnt)) e in
    let few = leb-true cnt n parts.0 in let low = leb-true block (n - cnt) parts.1 in omega arith

owed_outlined : (p : Option SeenPages) → release_owed p ≡ option_map_or (λ o. 1) (outline p) 0
owed_outlined None = refl
owed_outlined (Some p) = refl

pub same_owed : (p q : Option SeenPages) → outline p ≡ outline q → release_owed p ≡ release_owed q
same_owed p q e = owed_outlined p ∙ (ap (λ o. option_map_or (λ x. 1) o 0) e ∙ sym (owed_outlined q))

module _ (limits : MemoryLimits) (pool : TableId × ℕ) (l : SwitchedLog MemEntry) (moves left : ℕ) (bs : List Buffer) (k : IsMemoryKept limits pool l moves left bs) (i : ℕ) (b : Buffer) (at : slice_get bs i ≡ Some b) (still : is_released (suc i) (events l.items) ≡ false) (room : used_room (events l.items) + 1 ≤ limits.room) where
  filled_here : (block cnt byte : ℕ) (q : Option SeenPages) → outline q ≡ outline b.pages → ((j : ℕ) → page_held q j ≡ page_filled block cnt byte b.pages j)
      → IsMemoryKept limits pool (record l { items = l.items ++ record { hand = limits.hands; what = Fill (suc i) block cnt byte } ∷ [] }) moves left (set bs i (record b { pages = q }))
  filled_here block cnt byte q o f =
      let h = events l.items in let e = Fill (suc i) block cnt byte in
      let same : pins_left (h ++ e ∷ []) ≡ pins_left h = pins_left_same h e (λ j. refl) refl in
      let pinned : pins_on (suc i) (h ++ e ∷ []) ≡ pins_on (suc i) h = ap (λ ps. count (λ p. buffer_of p == suc i) ps) same in
      let attaches : count is_attach_entry (h ++ e ∷ []) ≡ count is_attach_entry h = count_skip is_attach_entry h e refl in
      let uses : count is_fill_or_show (h ++ e ∷ []) ≡ count is_fill_or_show h + 1 = count_add is_fill_or_show h e refl in
      let owes = owed_set bs i b (record b { pages = q }) at in
      let equal = same_owed q b.pages o in
      kept_plain limits pool l moves left bs k (record { hand = limits.hands; what = e }) i moves b (record b { pages = q }) at
      (record { of = refl; attach = refl; pin = refl; pin_for = λ j. refl; done_for = λ j. refl }) still refl
      (told_filled pool limits.size h (suc i) b block cnt byte q o f pinned (k.told.each i b at)) (omega arith) (omega arith)
      (numbered_pushed limits.hands (limits.hands + 1) l.items (record { hand = limits.hands; what = e }) k.numbered (eq-eqb limits.hands limits.hands refl) refl)

  pub kept_filled : (id block cnt byte : ℕ) (q : Option SeenPages) → suc i ≡ id → outline q ≡ outline b.pages → ((j : ℕ) → page_held q j ≡ page_filled block cnt byte b.pages j)
      → IsMemoryKept limits pool (record l { items = l.items ++ record { hand = limits.hands; what = Fill id block cnt byte } ∷ [] }) moves left (set bs i (record b { pages = q }))
  kept_filled id block cnt byte q e o f = subst (λ v. IsMemoryKept limits pool (record l { items = l.items ++ record { hand = limits.hands; what = Fill v block cnt byte } ∷ [] }) moves left (set bs i (record b { pages = q }))) e (filled_here block cnt byte q o f)
