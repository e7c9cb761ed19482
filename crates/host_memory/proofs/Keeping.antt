-- What holds of a memory at all times holds again once an entry was added.
use Rattle.std.proofs.Common.{◌≡◌, ℕ, suc, ◌+◌, ◌*◌, ◌≤◌, ◌==◌, true, false, not, ◌||◌, List, [], ◌∷◌, ◌++◌, length, set, Some, refl, sym, ap, subst, ◌∙◌, arith, length-append}
use Rattle.std.specs.Prelude.{slice_get}
use Rattle.std.specs.List.{list_any}
use Rattle.std.proofs.lemmas.List.{length-set}
use Rattle.atomic_table.specs.Seated.{TableId}
use Rattle.host_log.specs.{SwitchedLog}
use Rattle.host_model.specs.{MemEntry, MemEvent, count, lifts_page, buffer_of, is_pin, is_release_of, is_close_of}
use Rattle.host_memory.specs.{Buffer, MemoryLimits, is_attach_entry, used_room, pin_count, is_released, AreNumbered, AreTold, IsHistorySound, IsToldBy, IsMemoryKept, buffers_owed, is_pin_for, is_done_for, pins_left, events}
use Rattle.host_memory.proofs.Pinning.{pins_left_same}
use Rattle.host_memory.proofs.Pushed.{count_skip, events_pushed}
use Rattle.host_memory.proofs.Sounding.{sound_pushed}
use Rattle.host_memory.proofs.Telling.{told_set}

module _ (limits : MemoryLimits) (pool : TableId × ℕ) (l : SwitchedLog MemEntry) (moves left : ℕ) (bs : List Buffer) where
  -- from the history with one entry more to the list with that entry
  pub kept_pushed : (x : MemEntry) (h : List MemEvent) → events l.items ++ x.what ∷ [] ≡ h → AreTold pool limits.size h bs → IsHistorySound limits.size h → used_room h ≤ limits.room → pin_count h ≤ limits.records → length bs ≤ limits.ids
      → length (pins_left h) ≡ left → length l.items + 1 + moves + (limits.room + 2 * limits.records) + left + buffers_owed bs ≤ l.room + used_room h + 2 * pin_count h
      → AreNumbered limits.hands (limits.hands + 1) (l.items ++ x ∷ []) → IsMemoryKept limits pool (record l { items = l.items ++ x ∷ [] }) moves left bs
  kept_pushed x h is told sound used pinned ids counted room numbered =
      let e : h ≡ events (l.items ++ x ∷ []) = sym (events_pushed l.items x ∙ is) in
      let n : length (l.items ++ x ∷ []) ≡ length l.items + 1 = length-append l.items (x ∷ []) in
      record {
        told = subst (λ z. AreTold pool limits.size z bs) e told;
        sound = subst (λ z. IsHistorySound limits.size z) e sound;
        room = record {
          used = subst (λ z. used_room z ≤ limits.room) e used;
          pinned = subst (λ z. pin_count z ≤ limits.records) e pinned;
          ids = ids;
          counted = subst (λ z. length (pins_left z) ≡ left) e counted;
          room = subst (λ z. length (l.items ++ x ∷ []) + moves + (limits.room + 2 * limits.records) + left + buffers_owed bs ≤ l.room + used_room z + 2 * pin_count z) e
              (subst (λ z. z + moves + (limits.room + 2 * limits.records) + left + buffers_owed bs ≤ l.room + used_room h + 2 * pin_count h) (sym n) room);
        };
        numbered = numbered;
      }

-- an entry of buffer i + 1 that is no attach, no pin and no done
pub record IsPlain (e : MemEvent) (i : ℕ) : Type 0 where
  pub of : buffer_of e ≡ suc i
  pub attach : is_attach_entry e ≡ false
  pub pin : is_pin e ≡ false
  pub pin_for : (j : ℕ) → is_pin_for j e ≡ false
  pub done_for : (j : ℕ) → is_done_for j e ≡ false

module _ (limits : MemoryLimits) (pool : TableId × ℕ) (l : SwitchedLog MemEntry) (moves left : ℕ) (bs : List Buffer) (k : IsMemoryKept limits pool l moves left bs) where
  pub kept_plain : (x : MemEntry) (i moves_left : ℕ) (b c : Buffer) → slice_get bs i ≡ Some b → IsPlain x.what i → is_released (suc i) (events l.items) ≡ false → lifts_page limits.size (events l.items) x.what ≡ true
      → IsToldBy pool limits.size (events l.items ++ x.what ∷ []) (suc i) c → used_room (events l.items ++ x.what ∷ []) ≤ limits.room
      → moves_left + buffers_owed (set bs i c) + 1 + used_room (events l.items) ≤ moves + buffers_owed bs + used_room (events l.items ++ x.what ∷ [])
      → AreNumbered limits.hands (limits.hands + 1) (l.items ++ x ∷ []) → IsMemoryKept limits pool (record l { items = l.items ++ x ∷ [] }) moves_left left (set bs i c)
  kept_plain x i moves_left b c at plain unreleased lifts told used owes numbered =
      let h = events l.items in let e = x.what in
      let same : pins_left (h ++ e ∷ []) ≡ pins_left h = pins_left_same h e plain.done_for plain.pin in
      let pins : pin_count (h ++ e ∷ []) ≡ pin_count h = count_skip is_pin h e plain.pin in
      let before : not (list_any (is_release_of (buffer_of e)) h) ≡ true = ap (λ v. not (list_any (is_release_of v) h)) plain.of ∙ ap not unreleased in
      let closes : (not (is_pin e) || not (list_any (is_close_of (buffer_of e)) h)) ≡ true = ap (λ z. not z || not (list_any (is_close_of (buffer_of e)) h)) plain.pin in
      let pinned = k.room.pinned in let ids = k.room.ids in let room = k.room.room in
      let long : length (set bs i c) ≡ length bs = length-set bs i c in
      kept_pushed limits pool l moves_left left (set bs i c) x (h ++ e ∷ []) refl
      (told_set pool limits.size h bs k.told i b c e at plain.of plain.attach (λ w n. ap (λ ps. count (λ p. buffer_of p == w) ps) same) told)
      (sound_pushed limits.size h e k.sound before closes lifts plain.pin_for plain.done_for)
      used (subst (λ z. z ≤ limits.records) (sym pins) pinned) (subst (λ z. z ≤ limits.ids) (sym long) ids) (ap length same ∙ k.room.counted) (omega arith) numbered
