-- What holds of a memory at all times holds again once a record has closed a buffer.
use Rattle.std.proofs.Common.{◌≡◌, ℕ, suc, ◌+◌, ◌<◌, ◌==◌, false, List, [], ◌∷◌, ◌++◌, length, set, Some, None, refl, ap, arith, eq-eqb}
use Rattle.std.specs.Prelude.{slice_get}
use Rattle.atomic_table.specs.Seated.{TableId}
use Rattle.host_log.specs.{SwitchedLog}
use Rattle.host_model.specs.{MemEntry, Release, count, buffer_of}
use Rattle.host_model.specs.declared.memory.MemEvent.TheVariants as mem
use Rattle.host_memory.specs.{Buffer, MemoryLimits, is_attach_entry, is_fill_or_show, is_released, IsMemoryKept, close_owed, release_owed, pins_left, pins_on, events}
use Rattle.host_memory.proofs.Keeping.{kept_plain}
use Rattle.host_memory.proofs.Numbered.{numbered_pushed}
use Rattle.host_memory.proofs.Owing.{owed_at, owed_set}
use Rattle.host_memory.proofs.Pinning.{pins_left_same}
use Rattle.host_memory.proofs.Pushed.{count_skip}
use Rattle.host_memory.proofs.Telling.{told_closed, told_released}

module _ (limits : MemoryLimits) (pool : TableId × ℕ) (l : SwitchedLog MemEntry) (moves left : ℕ) (bs : List Buffer) (k : IsMemoryKept limits pool l moves left bs) (i : ℕ) (b : Buffer) (at : slice_get bs i ≡ Some b) (still : is_released (suc i) (events l.items) ≡ false) where
  pub kept_closed : (index : ℕ) → b.closer ≡ None → IsMemoryKept limits pool (record l { items = l.items ++ record { hand = limits.hands + 1; what = mem.Close index (suc i) } ∷ [] }) moves left (set bs i (record b { closer = Some index }))
  kept_closed index none =
      let h = events l.items in let e = mem.Close index (suc i) in let c : Buffer = record b { closer = Some index } in
      let same : pins_left (h ++ e ∷ []) ≡ pins_left h = pins_left_same h e (λ j. refl) refl in
      let pinned : pins_on (suc i) (h ++ e ∷ []) ≡ pins_on (suc i) h = ap (λ ps. count (λ p. buffer_of p == suc i) ps) same in
      let attaches : count is_attach_entry (h ++ e ∷ []) ≡ count is_attach_entry h = count_skip is_attach_entry h e refl in
      let uses : count is_fill_or_show (h ++ e ∷ []) ≡ count is_fill_or_show h = count_skip is_fill_or_show h e refl in
      let owes = owed_set bs i b c at in let one : close_owed b.closer ≡ 1 = ap close_owed none in let used = k.room.used in
      kept_plain limits pool l moves left bs k (record { hand = limits.hands + 1; what = e }) i moves b c at
      (record { of = refl; attach = refl; pin = refl; pin_for = λ j. refl; done_for = λ j. refl }) still refl
      (told_closed pool limits.size h (suc i) b index pinned none (k.told.each i b at)) (omega arith) (omega arith)
      (numbered_pushed limits.hands (limits.hands + 1) l.items (record { hand = limits.hands + 1; what = e }) k.numbered (eq-eqb (limits.hands + 1) (limits.hands + 1) refl) refl)

  pub kept_released : (hand : ℕ) → pins_on (suc i) (events l.items) ≡ 0 → release_owed b.pages ≡ 1 → IsMemoryKept limits pool (record l { items = l.items ++ record { hand = hand; what = Release (suc i) } ∷ [] }) moves left (set bs i (record b { pages = None }))
  kept_released hand free one =
      let h = events l.items in let e = Release (suc i) in let c : Buffer = record b { pages = None } in
      let same : pins_left (h ++ e ∷ []) ≡ pins_left h = pins_left_same h e (λ j. refl) refl in
      let pinned : pins_on (suc i) (h ++ e ∷ []) ≡ pins_on (suc i) h = ap (λ ps. count (λ p. buffer_of p == suc i) ps) same in
      let attaches : count is_attach_entry (h ++ e ∷ []) ≡ count is_attach_entry h = count_skip is_attach_entry h e refl in
      let uses : count is_fill_or_show (h ++ e ∷ []) ≡ count is_fill_or_show h = count_skip is_fill_or_show h e refl in
      let owes = owed_set bs i b c at in let used = k.room.used in
      kept_plain limits pool l moves left bs k (record { hand = hand; what = e }) i moves b c at
      (record { of = refl; attach = refl; pin = refl; pin_for = λ j. refl; done_for = λ j. refl }) still refl
      (told_released pool limits.size h (suc i) b pinned free (k.told.each i b at)) (omega arith) (omega arith)
      (numbered_pushed limits.hands (limits.hands + 1) l.items (record { hand = hand; what = e }) k.numbered refl refl)

  -- the entry fits
  pub close_fits : b.closer ≡ None → length l.items < l.room
  close_fits none = let one : close_owed b.closer ≡ 1 = ap close_owed none in let some = owed_at bs i b at in let used = k.room.used in let pinned = k.room.pinned in let room = k.room.room in omega arith

  pub release_fits : release_owed b.pages ≡ 1 → length l.items < l.room
  release_fits one = let some = owed_at bs i b at in let used = k.room.used in let pinned = k.room.pinned in let room = k.room.room in omega arith
