-- What holds of a memory at all times holds again once a buffer was attached.
use Rattle.std.proofs.Common.{◌≡◌, ◌⊎◌, inl, inr, ℕ, suc, ◌+◌, ◌<◌, ◌≤◌, ◌==◌, Bool, true, false, not, cond, if◌then◌else◌, List, [], ◌∷◌, ◌++◌, filter, length, get_or, replicate, Some, None, refl, sym, ap, subst, ◌∙◌, arith, eq-eqb, length-append}
use Rattle.std.specs.Prelude.{slice_get}
use Rattle.std.specs.Bool.{then_some}
use Rattle.std.specs.List.{list_any}
use Rattle.std.proofs.lemmas.Bool.{ne_eqb, or_parts}
use Rattle.std.proofs.lemmas.List.{get_or-replicate, length-replicate}
use Rattle.std.proofs.lemmas.Option.{slice_get_within}
use Rattle.atomic_table.specs.Seated.{TableId}
use Rattle.host_log.specs.{SwitchedLog}
use Rattle.host_frames.specs.{SeenPages, contents, pages_pool}
use Rattle.host_model.specs.{MemEntry, MemEvent, Attach, count, last, page_put_by, buffer_of, is_pin, is_release_of}
use Rattle.host_memory.specs.{Buffer, MemoryLimits, is_attach_entry, is_fill_or_show, used_room, attachment_by, closer_by, is_released, AreTold, IsMemoryKept, IsToldBy, is_left, pins_left, pins_on, events}
use Rattle.host_memory.proofs.Keeping.{kept_pushed}
use Rattle.host_memory.proofs.Numbered.{numbered_pushed}
use Rattle.host_memory.proofs.Owing.{owed_snoc}
use Rattle.host_memory.proofs.Pinning.{count_le, pins_left_same}
use Rattle.host_memory.proofs.Pushed.{any_skip, count_skip, count_add, filter_map_add, filter_map_skip, page_same}
use Rattle.host_memory.proofs.Replacing.{slice_get-snoc}
use Rattle.host_memory.proofs.Sounding.{sound_pushed}
use Rattle.host_memory.proofs.Telling.{leaves_alone, no_any, no_map, told_still}

pub uncounted : {A : Type 0} (p : A → Bool) (xs : List A) → list_any p xs ≡ false → count p xs ≡ 0
uncounted p [] e = refl
uncounted p (x ∷ xs) e = let parts = or_parts (p x) (list_any p xs) e in ap (λ b. length (cond b (x ∷ filter p xs) (filter p xs))) parts.0 ∙ uncounted p xs parts.1

module _ (pool : TableId × ℕ) (size : ℕ) (h : List MemEvent) (v from : ℕ) (p : SeenPages) (none : list_any (λ e. buffer_of e == v) h ≡ false) (of_pool : pages_pool p ≡ pool)
    (blank : contents p ≡ replicate (length (contents p)) (replicate size 0)) (fits : length (contents p) ≤ 4294967295) where
  abbrev entry : MemEvent
  entry = Attach v (length (contents p)) from

  still_unreleased : is_released v (h ++ entry ∷ []) ≡ false
  still_unreleased = any_skip (is_release_of v) h entry refl ∙ no_any v (is_release_of v) (λ e n. (leaves_alone size v e n).release) h none

  unpinned_yet : pins_on v (h ++ entry ∷ []) ≡ 0
  unpinned_yet =
      let part = count_le (λ e. buffer_of e == v) (is_left h) h in let all = uncounted (λ e. buffer_of e == v) h none in
      ap (λ ps. count (λ e. buffer_of e == v) ps) (pins_left_same h entry (λ j. refl) refl) ∙ omega arith

  blank_page : (k : ℕ) → k < length (contents p) → get_or (contents p) k [] ≡ replicate size 0
  blank_page k lt = ap (λ l. get_or l k []) blank ∙ get_or-replicate (length (contents p)) k (replicate size 0) [] lt

  told_new : IsToldBy pool size (h ++ entry ∷ []) v (record { page_count = length (contents p); from = from; pages = Some p; closer = None; pins = 0 })
  told_new = record {
    attached = filter_map_add (attachment_by v) h entry (record { pages = length (contents p); from = from }) (ap (λ b. then_some b (record { pages = length (contents p); from = from })) (eq-eqb v v refl))
        ∙ ap (λ l. l ++ record { pages = length (contents p); from = from } ∷ []) (no_map v (attachment_by v) (λ e n. (leaves_alone size v e n).attachment) h none);
    closed = filter_map_skip (closer_by v) h entry refl ∙ no_map v (closer_by v) (λ e n. (leaves_alone size v e n).closer) h none;
    pinned = unpinned_yet;
    held = ap (λ q. Some (q, length (contents p))) of_pool ∙ ap (λ b. if b then None else Some (pool, length (contents p))) (sym still_unreleased);
    unpinned = λ r. refl;
    bytes = λ k lt. blank_page k lt ∙ (sym (ap (last (replicate size 0)) (no_map v (page_put_by size v k) (λ e n. (leaves_alone size v e n).put k) h none)) ∙ sym (page_same size h v k entry refl));
    long = λ k lt. ap length (blank_page k lt) ∙ length-replicate size 0;
    few = fits;
  }

module _ (pool : TableId × ℕ) (size : ℕ) (h : List MemEvent) (bs : List Buffer) (t : AreTold pool size h bs) (b : Buffer) (e : MemEvent) (of : buffer_of e ≡ suc (length bs)) (attach : is_attach_entry e ≡ true)
    (same : pins_left (h ++ e ∷ []) ≡ pins_left h) (told : IsToldBy pool size (h ++ e ∷ []) (suc (length bs)) b) where
  each_step : (j : ℕ) (d : Buffer) → ((j ≡ length bs) × (b ≡ d)) ⊎ (slice_get bs j ≡ Some d) → IsToldBy pool size (h ++ e ∷ []) (suc j) d
  each_step j d (inl q) = subst (λ k. IsToldBy pool size (h ++ e ∷ []) (suc k) d) (sym q.0) (subst (λ x. IsToldBy pool size (h ++ e ∷ []) (suc (length bs)) x) q.1 told)
  each_step j d (inr q) =
      let within = slice_get_within bs j d q in
      told_still pool size h (suc j) d e (leaves_alone size (suc j) e (ne_eqb (buffer_of e) (suc j) (λ z. absurd (let s = sym of ∙ z in omega arith)))) (ap (λ ps. count (λ p. buffer_of p == suc j) ps) same) (t.each j d q)

  told_more : AreTold pool size (h ++ e ∷ []) (bs ++ b ∷ [])
  told_more = record {
    given = count_add is_attach_entry h e attach ∙ (ap (λ n. n + 1) t.given ∙ sym (length-append bs (b ∷ [])));
    each = λ j d g. each_step j d (slice_get-snoc bs j b d g);
    never = any_skip (λ x. buffer_of x == 0) h e (ne_eqb (buffer_of e) 0 (λ z. absurd (let s = sym of ∙ z in omega arith))) ∙ t.never;
    fresh = λ v out. (let n = length-append bs (b ∷ []) in any_skip (λ x. buffer_of x == v) h e (ne_eqb (buffer_of e) v (λ z. absurd (let s = sym of ∙ z in omega arith))) ∙ t.fresh v (omega arith));
  }

module _ (limits : MemoryLimits) (pool : TableId × ℕ) (l : SwitchedLog MemEntry) (moves left : ℕ) (bs : List Buffer) (k : IsMemoryKept limits pool l moves left bs) where
  attached_here : (from : ℕ) (p : SeenPages) → pages_pool p ≡ pool → contents p ≡ replicate (length (contents p)) (replicate limits.size 0) → length (contents p) ≤ 4294967295 → used_room (events l.items) + 3 ≤ limits.room → length bs < limits.ids
      → IsMemoryKept limits pool (record l { items = l.items ++ record { hand = limits.hands; what = Attach (suc (length bs)) (length (contents p)) from } ∷ [] }) moves left
      (bs ++ record { page_count = length (contents p); from = from; pages = Some p; closer = None; pins = 0 } ∷ [])
  attached_here from p of_pool blank fits room few =
      let h = events l.items in let v = suc (length bs) in let e = Attach v (length (contents p)) from in
      let b : Buffer = record { page_count = length (contents p); from = from; pages = Some p; closer = None; pins = 0 } in
      let none : list_any (λ x. buffer_of x == v) h ≡ false = k.told.fresh v (omega arith) in
      let same : pins_left (h ++ e ∷ []) ≡ pins_left h = pins_left_same h e (λ j. refl) refl in
      let attaches : count is_attach_entry (h ++ e ∷ []) ≡ count is_attach_entry h + 1 = count_add is_attach_entry h e refl in
      let uses : count is_fill_or_show (h ++ e ∷ []) ≡ count is_fill_or_show h = count_skip is_fill_or_show h e refl in
      let pins : count is_pin (h ++ e ∷ []) ≡ count is_pin h = count_skip is_pin h e refl in
      let owes = owed_snoc bs b in let long = length-append bs (b ∷ []) in let pinned = k.room.pinned in let enough = k.room.room in
      kept_pushed limits pool l moves left (bs ++ b ∷ []) (record { hand = limits.hands; what = e }) (h ++ e ∷ []) refl
      (told_more pool limits.size h bs k.told b e refl refl same (told_new pool limits.size h v from p none of_pool blank fits))
      (sound_pushed limits.size h e k.sound (ap not (no_any v (is_release_of v) (λ x n. (leaves_alone limits.size v x n).release) h none)) refl refl (λ j. refl) (λ j. refl))
      (omega arith) (omega arith) (omega arith) (ap length same ∙ k.room.counted) (omega arith)
      (numbered_pushed limits.hands (limits.hands + 1) l.items (record { hand = limits.hands; what = e }) k.numbered (eq-eqb limits.hands limits.hands refl) refl)

  pub kept_attached : (id n from : ℕ) (p : SeenPages) → suc (length bs) ≡ id → n ≡ length (contents p) → pages_pool p ≡ pool → contents p ≡ replicate (length (contents p)) (replicate limits.size 0)
      → n ≤ 4294967295 → used_room (events l.items) + 3 ≤ limits.room → length bs < limits.ids
      → IsMemoryKept limits pool (record l { items = l.items ++ record { hand = limits.hands; what = Attach id n from } ∷ [] }) moves left (bs ++ record { page_count = n; from = from; pages = Some p; closer = None; pins = 0 } ∷ [])
  kept_attached id n from p named is of_pool blank fits room few =
      subst (λ v. IsMemoryKept limits pool (record l { items = l.items ++ record { hand = limits.hands; what = Attach v n from } ∷ [] }) moves left (bs ++ record { page_count = n; from = from; pages = Some p; closer = None; pins = 0 } ∷ [])) named
      (subst (λ m. IsMemoryKept limits pool (record l { items = l.items ++ record { hand = limits.hands; what = Attach (suc (length bs)) m from } ∷ [] }) moves left (bs ++ record { page_count = m; from = from; pages = Some p; closer = None; pins = 0 } ∷ [])) (sym is)
      (attached_here from p of_pool blank (subst (λ m. m ≤ 4294967295) is fits) room few))
