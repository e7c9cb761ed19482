-- What holds of a memory at all times holds again once a record has let go of a buffer.
use Rattle.std.proofs.Common.{◌≡◌, ◌≢◌, ◌⊎◌, inl, inr, ℕ, suc, ◌+◌, ◌-◌, ◌<◌, ◌≤◌, ◌==◌, Bool, true, false, not, cond, List, [], ◌∷◌, ◌++◌, filter, length, set, Some, refl, sym, ap, subst, ◌∙◌, arith}
use Rattle.std.specs.Prelude.{slice_get}
use Rattle.std.specs.List.{list_any}
use Rattle.std.proofs.lemmas.Bool.{eqb-true, ne_eqb}
use Rattle.std.proofs.lemmas.Bool.Decides.{eqb_tells}
use Rattle.std.proofs.lemmas.List.{length-set}
use Rattle.atomic_table.specs.Seated.{TableId}
use Rattle.host_log.specs.{SwitchedLog}
use Rattle.host_model.specs.{MemEntry, MemEvent, Done, count, lifts_page, buffer_of, comes_before_release, is_pin, pins_before_close}
use Rattle.host_memory.specs.{Buffer, MemoryLimits, is_attach_entry, is_fill_or_show, is_released, IsMemoryKept, IsHistorySound, is_done_for, is_left, is_pin_by, is_pin_for, is_pinned_by, pins_left, pins_on, events}
use Rattle.host_memory.proofs.Carrying.{any_of_part, pin_for, pin_on}
use Rattle.host_memory.proofs.Keeping.{kept_pushed}
use Rattle.host_memory.proofs.Numbered.{numbered_pushed}
use Rattle.host_memory.proofs.Owing.{owed_set}
use Rattle.host_memory.proofs.Pinning.{CutAt, count_le, cut_at, pins_left_done, some_counted}
use Rattle.host_memory.proofs.Pushed.{any_skip, count_skip}
use Rattle.host_memory.proofs.Sounding.{tests_pushed}
use Rattle.host_memory.proofs.Telling.{told_counted, told_set}

module _ {A : Type 0} where
  more_step : (x : A) (c d : Bool) (l m : List A) → length l ≡ length m + cond d 1 0 → length (cond c (x ∷ l) l) ≡ length (cond c (x ∷ m) m) + cond d 1 0
  more_step x true d l m e = omega arith
  more_step x false d l m e = e

  found_step : (x : A) (c : Bool) (l : List A) → length (cond c (x ∷ l) l) ≡ length l + cond c 1 0
  found_step x true l = omega arith
  found_step x false l = omega arith

  -- how many of a kind there are with an element and without it
  count_cut : (p : A → Bool) (xs : List A) (x : A) (ys : List A) → count p (xs ++ x ∷ ys) ≡ count p (xs ++ ys) + cond (p x) 1 0
  count_cut p [] x ys = found_step x (p x) (filter p ys)
  count_cut p (z ∷ zs) x ys = more_step z (p z) (p x) (filter p (zs ++ x ∷ ys)) (filter p (zs ++ ys)) (count_cut p zs x ys)

  length_cut : (xs : List A) (x : A) (ys : List A) → length (xs ++ x ∷ ys) ≡ length (xs ++ ys) + 1
  length_cut [] x ys = omega arith
  length_cut (z ∷ zs) x ys = let more = length_cut zs x ys in omega arith

module _ (size : ℕ) (h : List MemEvent) (s : IsHistorySound size h) (hand index v : ℕ) (still : is_released v h ≡ false) (pinned : is_pinned_by hand index v h ≡ true) where
  few : count (is_pin_for index) (pins_left h) ≤ 1
  few = let part = count_le (is_pin_for index) (is_left h) h in let one = s.one_pin index in omega arith

  one : count (is_pin_for index) h ≡ 1
  one = let part = count_le (is_pin_for index) (is_left h) h in let most = s.one_pin index in
      let some = some_counted (is_pin_for index) (is_pin_by hand index v) (pin_for hand index v) (pins_left h) pinned in omega arith

  -- the record's pin, among those that are left
  cut : CutAt (is_pin_for index) (is_pin_by hand index v) (pins_left h)
  cut = cut_at (is_pin_for index) (is_pin_by hand index v) (pin_for hand index v) (pins_left h) few pinned

  rest : pins_left (h ++ Done index v ∷ []) ≡ cut.before ++ cut.after
  rest = pins_left_done h index v ∙ cut.rest

  -- on each buffer
  on : (w : ℕ) → pins_on w h ≡ pins_on w (h ++ Done index v ∷ []) + cond (buffer_of cut.found == w) 1 0
  on w = ap (λ ps. count (λ p. buffer_of p == w) ps) cut.whole
      ∙ (count_cut (λ p. buffer_of p == w) cut.before cut.found cut.after ∙ ap (λ ps. count (λ p. buffer_of p == w) ps + cond (buffer_of cut.found == w) 1 0) (sym rest))

  pub own_done : pins_on v h ≡ pins_on v (h ++ Done index v ∷ []) + 1
  own_done = on v ∙ ap (λ b. pins_on v (h ++ Done index v ∷ []) + cond b 1 0) (pin_on hand index v cut.found cut.passes)

  others_done : (w : ℕ) → w ≢ v → pins_on w (h ++ Done index v ∷ []) ≡ pins_on w h
  others_done w n =
      let of : buffer_of cut.found ≡ v = eqb-true (buffer_of cut.found) v (pin_on hand index v cut.found cut.passes) in
      let apart : (buffer_of cut.found == w) ≡ false = ne_eqb (buffer_of cut.found) w (λ z. n (sym z ∙ of)) in
      let is = on w ∙ ap (λ b. pins_on w (h ++ Done index v ∷ []) + cond b 1 0) apart in omega arith

  total_done : length (pins_left h) ≡ length (pins_left (h ++ Done index v ∷ [])) + 1
  total_done = ap length cut.whole ∙ (length_cut cut.before cut.found cut.after ∙ ap (λ ps. length ps + 1) (sym rest))

  done_step : (j : ℕ) → ((index == j) ≡ true) × (index ≡ j) ⊎ ((index == j) ≡ false) × (index ≢ j) → list_any (is_done_for j) (h ++ Done index v ∷ []) ≡ true → count (is_pin_for j) h ≡ 1
  done_step j (inl e) d = ap (λ z. count (is_pin_for z) h) (sym e.1) ∙ one
  done_step j (inr e) d = s.done j (sym (any_skip (is_done_for j) h (Done index v) e.0) ∙ d)

  sound_done : IsHistorySound size (h ++ Done index v ∷ [])
  sound_done = record {
    released = tests_pushed comes_before_release h (Done index v) s.released (ap not still);
    closed = tests_pushed pins_before_close h (Done index v) s.closed refl;
    lifts = tests_pushed (lifts_page size) h (Done index v) s.lifts refl;
    one_pin = λ j. (let same = count_skip (is_pin_for j) h (Done index v) refl in let old = s.one_pin j in omega arith);
    done = λ j d. count_skip (is_pin_for j) h (Done index v) refl ∙ done_step j (eqb_tells index j) d;
  }

module _ (limits : MemoryLimits) (pool : TableId × ℕ) (l : SwitchedLog MemEntry) (moves left : ℕ) (bs : List Buffer) (k : IsMemoryKept limits pool l moves left bs) (hand index i : ℕ) (b : Buffer) (at : slice_get bs i ≡ Some b)
    (still : is_released (suc i) (events l.items) ≡ false) (pinned : is_pinned_by hand index (suc i) (events l.items) ≡ true) where
  pub left_some : 1 ≤ left
  left_some = let total = total_done limits.size (events l.items) k.sound hand index (suc i) still pinned in let is = k.room.counted in omega arith

  pub done_fits : length l.items < l.room
  done_fits = let some = left_some in let used = k.room.used in let pins = k.room.pinned in let room = k.room.room in omega arith

  pub kept_unpinned : IsMemoryKept limits pool (record l { items = l.items ++ record { hand = hand; what = Done index (suc i) } ∷ [] }) moves (left - 1) (set bs i (record b { pins = b.pins - 1 }))
  kept_unpinned =
      let h = events l.items in let e = Done index (suc i) in let c : Buffer = record b { pins = b.pins - 1 } in
      let own : pins_on (suc i) (h ++ e ∷ []) ≡ b.pins - 1 = (let is = own_done limits.size h k.sound hand index (suc i) still pinned in let was = (k.told.each i b at).pinned in omega arith) in
      let total : length (pins_left (h ++ e ∷ [])) ≡ left - 1 = (let is = total_done limits.size h k.sound hand index (suc i) still pinned in let was = k.room.counted in omega arith) in
      let some = left_some in
      let attaches : count is_attach_entry (h ++ e ∷ []) ≡ count is_attach_entry h = count_skip is_attach_entry h e refl in
      let uses : count is_fill_or_show (h ++ e ∷ []) ≡ count is_fill_or_show h = count_skip is_fill_or_show h e refl in
      let pins : count is_pin (h ++ e ∷ []) ≡ count is_pin h = count_skip is_pin h e refl in
      let owes = owed_set bs i b c at in let used = k.room.used in let few = k.room.pinned in let enough = k.room.room in
      let long : length (set bs i c) ≡ length bs = length-set bs i c in
      kept_pushed limits pool l moves (left - 1) (set bs i c) (record { hand = hand; what = e }) (h ++ e ∷ []) refl
      (told_set pool limits.size h bs k.told i b c e at refl refl (others_done limits.size h k.sound hand index (suc i) still pinned)
      (told_counted pool limits.size h (suc i) b e (b.pins - 1) (record { attachment = refl; closer = refl; release = refl; put = λ j. refl }) own (λ r. absurd (let f : false ≡ true = sym still ∙ r in cc)) (k.told.each i b at)))
      (sound_done limits.size h k.sound hand index (suc i) still pinned)
      (omega arith) (omega arith) (subst (λ z. z ≤ limits.ids) (sym long) k.room.ids) total (omega arith)
      (numbered_pushed limits.hands (limits.hands + 1) l.items (record { hand = hand; what = e }) k.numbered refl (any_of_part (is_pin_by hand index (suc i)) (is_left h) h pinned))
