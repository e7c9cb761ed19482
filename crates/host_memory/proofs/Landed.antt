-- What holds of a memory at all times holds again after a lift, a landing or a show.
use Rattle.std.proofs.Common.{◌≡◌, ℕ, suc, ◌+◌, ◌-◌, ◌<◌, ◌≤◌, ◌==◌, true, false, List, [], ◌∷◌, ◌++◌, length, set, Option, Some, refl, ap, subst, arith, eq-eqb}
use Rattle.std.specs.Prelude.{slice_get}
use Rattle.std.specs.List.{list_any}
use Rattle.std.proofs.lemmas.Slice.Eq.{bytes_eq-Decides}
use Rattle.atomic_table.specs.Seated.{TableId}
use Rattle.host_log.specs.{SwitchedLog}
use Rattle.host_frames.specs.{SeenPages}
use Rattle.host_model.specs.{MemEntry, Land, Lift, Show, count, lifts_page, page_at, buffer_of}
use Rattle.host_memory.specs.{Buffer, MemoryLimits, is_attach_entry, is_fill_or_show, used_room, is_released, AreNumbered, IsMemoryKept, buffers_owed, contents_held, outline, is_pin_by, pins_left, pins_on, events}
use Rattle.host_memory.proofs.Filled.{same_owed}
use Rattle.host_memory.proofs.Keeping.{IsPlain, kept_plain}
use Rattle.host_memory.proofs.Numbered.{numbered_pushed}
use Rattle.host_memory.proofs.Owing.{owed_set}
use Rattle.host_memory.proofs.Pinning.{pins_left_same}
use Rattle.host_memory.proofs.Pushed.{count_skip, count_add}
use Rattle.host_memory.proofs.Replacing.{set_same}
use Rattle.host_memory.proofs.Telling.{LeavesAlone, told_landed, told_still}

module _ (limits : MemoryLimits) (pool : TableId × ℕ) (l : SwitchedLog MemEntry) (moves left : ℕ) (bs : List Buffer) (k : IsMemoryKept limits pool l moves left bs) where
  module _ (i : ℕ) (b : Buffer) (at : slice_get bs i ≡ Some b) (still : is_released (suc i) (events l.items) ≡ false) where
    pub kept_landed : (hand index j block : ℕ) (ws : List ℕ) (q : Option SeenPages) → 1 ≤ moves → list_any (is_pin_by hand index (suc i)) (events l.items) ≡ true → outline q ≡ outline b.pages → contents_held q ≡ set (contents_held b.pages) block ws → block < length (contents_held b.pages) → length ws ≡ limits.size
        → IsMemoryKept limits pool (record l { items = l.items ++ record { hand = hand; what = Land index j (suc i) block ws } ∷ [] }) (moves - 1) left (set bs i (record b { pages = q }))
    kept_landed hand index j block ws q one own o f lt long =
        let h = events l.items in let e = Land index j (suc i) block ws in let c : Buffer = record b { pages = q } in
        let same : pins_left (h ++ e ∷ []) ≡ pins_left h = pins_left_same h e (λ n. refl) refl in
        let pinned : pins_on (suc i) (h ++ e ∷ []) ≡ pins_on (suc i) h = ap (λ ps. count (λ p. buffer_of p == suc i) ps) same in
        let attaches : count is_attach_entry (h ++ e ∷ []) ≡ count is_attach_entry h = count_skip is_attach_entry h e refl in
        let uses : count is_fill_or_show (h ++ e ∷ []) ≡ count is_fill_or_show h = count_skip is_fill_or_show h e refl in
        let owes = owed_set bs i b c at in let equal = same_owed q b.pages o in let used = k.room.used in
        kept_plain limits pool l moves left bs k (record { hand = hand; what = e }) i (moves - 1) b c at
        (record { of = refl; attach = refl; pin = refl; pin_for = λ n. refl; done_for = λ n. refl }) still refl
        (told_landed pool limits.size h (suc i) b index j block ws q o f lt long pinned (k.told.each i b at)) (omega arith) (omega arith)
        (numbered_pushed limits.hands (limits.hands + 1) l.items (record { hand = hand; what = e }) k.numbered refl own)

    -- an entry that only reads
    kept_read : (x : MemEntry) (moves_left : ℕ) → IsPlain x.what i → LeavesAlone limits.size (suc i) x.what → lifts_page limits.size (events l.items) x.what ≡ true → used_room (events l.items ++ x.what ∷ []) ≤ limits.room
        → moves_left + 1 + used_room (events l.items) ≤ moves + used_room (events l.items ++ x.what ∷ []) → AreNumbered limits.hands (limits.hands + 1) (l.items ++ x ∷ []) → IsMemoryKept limits pool (record l { items = l.items ++ x ∷ [] }) moves_left left bs
    kept_read x moves_left plain alone lifts used owes numbered =
        let h = events l.items in let e = x.what in
        let same : pins_left (h ++ e ∷ []) ≡ pins_left h = pins_left_same h e plain.done_for plain.pin in
        let pinned : pins_on (suc i) (h ++ e ∷ []) ≡ pins_on (suc i) h = ap (λ ps. count (λ p. buffer_of p == suc i) ps) same in
        let it = set_same bs i b at in let owed_same : buffers_owed (set bs i b) ≡ buffers_owed bs = ap buffers_owed it in
        subst (λ z. IsMemoryKept limits pool (record l { items = l.items ++ x ∷ [] }) moves_left left z) it
        (kept_plain limits pool l moves left bs k x i moves_left b b at plain still lifts (told_still pool limits.size h (suc i) b e alone pinned (k.told.each i b at)) used (omega arith) numbered)

    pub kept_lifted : (hand index j block : ℕ) (ws : List ℕ) → 1 ≤ moves → list_any (is_pin_by hand index (suc i)) (events l.items) ≡ true → ws ≡ page_at limits.size (events l.items) (suc i) block
        → IsMemoryKept limits pool (record l { items = l.items ++ record { hand = hand; what = Lift index j (suc i) block ws } ∷ [] }) (moves - 1) left bs
    kept_lifted hand index j block ws one own is =
        let h = events l.items in let e = Lift index j (suc i) block ws in
        let attaches : count is_attach_entry (h ++ e ∷ []) ≡ count is_attach_entry h = count_skip is_attach_entry h e refl in
        let uses : count is_fill_or_show (h ++ e ∷ []) ≡ count is_fill_or_show h = count_skip is_fill_or_show h e refl in let used = k.room.used in
        kept_read (record { hand = hand; what = e }) (moves - 1) (record { of = refl; attach = refl; pin = refl; pin_for = λ n. refl; done_for = λ n. refl })
        (record { attachment = refl; closer = refl; release = refl; put = λ n. refl }) ((bytes_eq-Decides ws (page_at limits.size h (suc i) block)).1 is) (omega arith) (omega arith)
        (numbered_pushed limits.hands (limits.hands + 1) l.items (record { hand = hand; what = e }) k.numbered refl own)

    pub kept_shown : (block cnt : ℕ) → used_room (events l.items) + 1 ≤ limits.room
        → IsMemoryKept limits pool (record l { items = l.items ++ record { hand = limits.hands; what = Show (suc i) block cnt } ∷ [] }) moves left bs
    kept_shown block cnt room =
        let h = events l.items in let e = Show (suc i) block cnt in
        let attaches : count is_attach_entry (h ++ e ∷ []) ≡ count is_attach_entry h = count_skip is_attach_entry h e refl in
        let uses : count is_fill_or_show (h ++ e ∷ []) ≡ count is_fill_or_show h + 1 = count_add is_fill_or_show h e refl in
        kept_read (record { hand = limits.hands; what = e }) moves (record { of = refl; attach = refl; pin = refl; pin_for = λ n. refl; done_for = λ n. refl })
        (record { attachment = refl; closer = refl; release = refl; put = λ n. refl }) refl (omega arith) (omega arith)
        (numbered_pushed limits.hands (limits.hands + 1) l.items (record { hand = limits.hands; what = e }) k.numbered (eq-eqb limits.hands limits.hands refl) refl)
