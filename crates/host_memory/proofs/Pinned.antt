-- What holds of a memory at all times holds again once a record has pinned a buffer.
use Rattle.std.proofs.Common.{◌≡◌, ◌≢◌, ◌⊎◌, inl, inr, ℕ, suc, ◌+◌, ◌<◌, ◌≤◌, ◌==◌, Bool, true, false, not, ◌||◌, List, [], ◌∷◌, ◌++◌, length, set, filter_map, Option, Some, None, refl, sym, ap, subst, ◌∙◌, arith, eq-eqb, length-append}
use Rattle.std.specs.Prelude.{slice_get}
use Rattle.std.specs.List.{list_any, cons_option}
use Rattle.std.specs.Option.{is_some}
use Rattle.std.specs.Bool.{then_some}
use Rattle.std.proofs.lemmas.Bool.{ne_eqb}
use Rattle.std.proofs.lemmas.Bool.Decides.{eqb_tells}
use Rattle.std.proofs.lemmas.List.{length-set}
use Rattle.atomic_table.specs.Seated.{TableId}
use Rattle.host_log.specs.{SwitchedLog}
use Rattle.host_model.specs.{MemEntry, MemEvent, Pin, count, lifts_page, buffer_of, comes_before_release, is_close_of, is_pin, pins_before_close}
use Rattle.host_model.specs.declared.memory.MemEvent.TheVariants as mem
use Rattle.host_memory.specs.{Buffer, MemoryLimits, is_attach_entry, is_fill_or_show, pin_count, closer_by, is_released, IsMemoryKept, IsHistorySound, is_pin_for, is_done_for, pins_left, pins_on, events}
use Rattle.host_memory.proofs.Keeping.{kept_pushed}
use Rattle.host_memory.proofs.Numbered.{numbered_pushed}
use Rattle.host_memory.proofs.Owing.{owed_set}
use Rattle.host_memory.proofs.Pinning.{pins_left_pin}
use Rattle.host_memory.proofs.Pushed.{any_skip, count_skip, count_add}
use Rattle.host_memory.proofs.Sounding.{tests_pushed}
use Rattle.host_memory.proofs.Telling.{told_counted, told_set}

close_step : (b : Bool) (i : ℕ) → b ≡ is_some (then_some b i)
close_step true i = refl
close_step false i = refl

close_test : (v : ℕ) (e : MemEvent) → is_close_of v e ≡ is_some (closer_by v e)
close_test v (mem.Close index id) = close_step (id == v) index
close_test v _ = refl

none_step : (o : Option ℕ) (rest : List ℕ) → cons_option o rest ≡ [] → (is_some o ≡ false) × (rest ≡ [])
none_step None rest e = (refl, e)
none_step (Some x) rest e = absurd (cc)

-- no record closed the buffer
pub unclosed : (v : ℕ) (h : List MemEvent) → filter_map (closer_by v) h ≡ [] → list_any (is_close_of v) h ≡ false
unclosed v [] e = refl
unclosed v (x ∷ xs) e = let parts = none_step (closer_by v x) (filter_map (closer_by v) xs) e in ap (λ b. b || list_any (is_close_of v) xs) (close_test v x ∙ parts.0) ∙ unclosed v xs parts.1

no_done_step : (n : ℕ) (b : Bool) → n ≡ 0 → (b ≡ true → n ≡ 1) → b ≡ false
no_done_step n true z f = absurd (let o = f refl in omega arith)
no_done_step n false z f = refl

module _ (size : ℕ) (h : List MemEvent) (s : IsHistorySound size h) (index v by : ℕ) (still : is_released v h ≡ false) (never_closed : list_any (is_close_of v) h ≡ false) (first : count (is_pin_for index) h ≡ 0) where
  pub no_done : list_any (is_done_for index) h ≡ false
  no_done = no_done_step (count (is_pin_for index) h) (list_any (is_done_for index) h) first (s.done index)

  one_step : (j : ℕ) → ((j == index) ≡ true) × (j ≡ index) ⊎ ((j == index) ≡ false) × (j ≢ index) → count (is_pin_for j) (h ++ Pin index v by ∷ []) ≤ 1
  one_step j (inl e) = let more = count_add (is_pin_for j) h (Pin index v by) e.0 in let none = ap (λ z. count (is_pin_for z) h) e.1 in omega arith
  one_step j (inr e) = let same = count_skip (is_pin_for j) h (Pin index v by) e.0 in let old = s.one_pin j in omega arith

  done_step : (j : ℕ) → ((j == index) ≡ true) × (j ≡ index) ⊎ ((j == index) ≡ false) × (j ≢ index) → list_any (is_done_for j) h ≡ true → count (is_pin_for j) (h ++ Pin index v by ∷ []) ≡ 1
  done_step j (inl e) d = absurd (let f : false ≡ true = sym no_done ∙ (ap (λ z. list_any (is_done_for z) h) (sym e.1) ∙ d) in cc)
  done_step j (inr e) d = count_skip (is_pin_for j) h (Pin index v by) e.0 ∙ s.done j d

  pub sound_pinned : IsHistorySound size (h ++ Pin index v by ∷ [])
  sound_pinned = record {
    released = tests_pushed comes_before_release h (Pin index v by) s.released (ap not still);
    closed = tests_pushed pins_before_close h (Pin index v by) s.closed (ap not never_closed);
    lifts = tests_pushed (lifts_page size) h (Pin index v by) s.lifts refl;
    one_pin = λ j. one_step j (eqb_tells j index);
    done = λ j d. done_step j (eqb_tells j index) (sym (any_skip (is_done_for j) h (Pin index v by) refl) ∙ d);
  }

module _ (limits : MemoryLimits) (pool : TableId × ℕ) (l : SwitchedLog MemEntry) (moves left : ℕ) (bs : List Buffer) (k : IsMemoryKept limits pool l moves left bs) where
  pub kept_pinned : (index by i : ℕ) (b : Buffer) → slice_get bs i ≡ Some b → is_released (suc i) (events l.items) ≡ false → list_any (is_close_of (suc i)) (events l.items) ≡ false → count (is_pin_for index) (events l.items) ≡ 0
      → pin_count (events l.items) < limits.records
      → IsMemoryKept limits pool (record l { items = l.items ++ record { hand = limits.hands + 1; what = Pin index (suc i) by } ∷ [] }) moves (left + 1) (set bs i (record b { pins = b.pins + 1 }))
  kept_pinned index by i b at still never_closed first room =
      let h = events l.items in let e = Pin index (suc i) by in let c : Buffer = record b { pins = b.pins + 1 } in
      let none = no_done limits.size h k.sound index (suc i) by still never_closed first in
      let more : pins_left (h ++ e ∷ []) ≡ pins_left h ++ e ∷ [] = pins_left_pin h index (suc i) by none in
      let own : pins_on (suc i) (h ++ e ∷ []) ≡ b.pins + 1 = ap (λ ps. count (λ p. buffer_of p == suc i) ps) more ∙ (count_add (λ p. buffer_of p == suc i) (pins_left h) e (eq-eqb (suc i) (suc i) refl) ∙ ap (λ n. n + 1) (k.told.each i b at).pinned) in
      let others : (w : ℕ) → w ≢ suc i → pins_on w (h ++ e ∷ []) ≡ pins_on w h = (λ w n. ap (λ ps. count (λ p. buffer_of p == w) ps) more ∙ count_skip (λ p. buffer_of p == w) (pins_left h) e (ne_eqb (suc i) w (λ z. n (sym z)))) in
      let total : length (pins_left (h ++ e ∷ [])) ≡ left + 1 = ap length more ∙ (length-append (pins_left h) (e ∷ []) ∙ ap (λ n. n + 1) k.room.counted) in
      let attaches : count is_attach_entry (h ++ e ∷ []) ≡ count is_attach_entry h = count_skip is_attach_entry h e refl in
      let uses : count is_fill_or_show (h ++ e ∷ []) ≡ count is_fill_or_show h = count_skip is_fill_or_show h e refl in
      let pins : count is_pin (h ++ e ∷ []) ≡ count is_pin h + 1 = count_add is_pin h e refl in
      let owes = owed_set bs i b c at in let used = k.room.used in let enough = k.room.room in
      let long : length (set bs i c) ≡ length bs = length-set bs i c in
      kept_pushed limits pool l moves (left + 1) (set bs i c) (record { hand = limits.hands + 1; what = e }) (h ++ e ∷ []) refl
      (told_set pool limits.size h bs k.told i b c e at refl refl others
      (told_counted pool limits.size h (suc i) b e (b.pins + 1) (record { attachment = refl; closer = refl; release = refl; put = λ j. refl }) own (λ r. absurd (let f : false ≡ true = sym still ∙ r in cc)) (k.told.each i b at)))
      (sound_pinned limits.size h k.sound index (suc i) by still never_closed first)
      (omega arith) (omega arith) (subst (λ z. z ≤ limits.ids) (sym long) k.room.ids) total (omega arith)
      (numbered_pushed limits.hands (limits.hands + 1) l.items (record { hand = limits.hands + 1; what = e }) k.numbered (eq-eqb (limits.hands + 1) (limits.hands + 1) refl) refl)
