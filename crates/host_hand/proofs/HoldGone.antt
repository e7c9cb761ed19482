-- A hand lets go of a buffer.
use Rattle.std.proofs.Common.{◌≡◌, ◌⊎◌, inl, inr, ℕ, zero, suc, ◌+◌, ◌≤◌, ◌==◌, Bool, true, false, cond, List, [], ◌∷◌, ◌++◌, length, take, Option, Some, None, refl, sym, ap, ap₂, subst, ◌∙◌, arith, append_assoc, length-append, eq-eqb}
use Rattle.std.specs.Prelude.{IfSome, MatchOption, is_some, option_map, slice_get, sum}
use Rattle.std.specs.List.{cons_option}
use Rattle.std.specs.Option.{option_map_or}
use Rattle.std.proofs.lemmas.List.{take_at}
use Rattle.std.proofs.lemmas.List.Sums.{sum_by-append}
use Rattle.std.proofs.lemmas.Option.{same_Some}
use Rattle.atomic_table.specs.Seated.{TableId}
use Rattle.host_frames.specs.{SeenPages}
use Rattle.host_model.specs.{MemEntry, Done, Release, map_after, map_with_before}
use Rattle.host_memory.specs.{Attachment, attachment_by, closer_of, page_count_of, ArePagesOf, closer_due, pins_on, MemoryState, events, history, block_size_of}
use Rattle.host_memory.proofs.Pushed.{events_pushed, filter_map_skip}
use Rattle.host_log.specs.{Continues}
use Rattle.host_intake.specs.{under}
use Rattle.host_log.proofs.Places.{get_append, get_last}
use Rattle.host_hand.specs.{Errand, HasLetGo, IsBufferFreed, pages_freed, release_of, pages_by, pages_released_in, released_by, IsClosedBefore}
use Rattle.host_hand.proofs.Entered.{map_with_before_append}
use Rattle.host_hand.proofs.Framing.{released_still}
use Rattle.host_log.proofs.Growing.{grown_turn, not_between}
use Rattle.host_hand.proofs.HoldPins.{all_under}

-- what the call that lets go of a buffer adds
pub done_entries : (n i v : ℕ) (freed : Option (ℕ × SeenPages)) (old new : MemoryState)
    → MatchOption freed (new ≡ record old { entries = old.entries ++ record { hand = n; what = Done i v } ∷ [] }) (λ _. new ≡ record old { entries = old.entries ++ record { hand = n; what = Done i v } ∷ record { hand = n; what = Release v } ∷ [] })
    → new.entries ≡ old.entries ++ under n (Done i v ∷ release_of v freed)
done_entries n i v None old new is = ap (λ (s : MemoryState). s.entries) is
done_entries n i v (Some f) old new is = ap (λ (s : MemoryState). s.entries) is

due_closer : (b : Bool) (o : Option ℕ) (x : ℕ) → Some x ≡ cond b o None → o ≡ Some x
due_closer true o x e = sym e
due_closer false o x e = absurd (cc e)

module _ (n i v : ℕ) (pool : TableId × ℕ) (size : ℕ) (mid : List MemEntry) where
  done_entry : MemEntry
  done_entry = record { hand = n; what = Done i v }

  release_entry : MemEntry
  release_entry = record { hand = n; what = Release v }

  -- the close that was waiting
  closer_is : (f : ℕ × SeenPages) → option_map (λ (r : ℕ × SeenPages). r.0) (Some f) ≡ closer_due v (events mid ++ Done i v ∷ []) → closer_of v (events (mid ++ done_entry ∷ [])) ≡ Some f.0
  unfolding done_entry
  closer_is f answer = ap (closer_of v) (events_pushed mid done_entry) ∙ due_closer (pins_on v (events mid ++ Done i v ∷ []) == 0) (closer_of v (events mid ++ Done i v ∷ [])) f.0 answer

  before_release : take (length (mid ++ done_entry ∷ [])) (mid ++ done_entry ∷ release_entry ∷ []) ≡ mid ++ done_entry ∷ []
  before_release = ap (take (length (mid ++ done_entry ∷ []))) (sym (append_assoc mid (done_entry ∷ []) (release_entry ∷ []))) ∙ take_at (mid ++ done_entry ∷ []) (release_entry ∷ []) (length (mid ++ done_entry ∷ [])) refl

  released_at : slice_get (mid ++ done_entry ∷ release_entry ∷ []) (length (mid ++ done_entry ∷ [])) ≡ Some release_entry
  released_at = ap (λ l. slice_get l (length (mid ++ done_entry ∷ []))) (sym (append_assoc mid (done_entry ∷ []) (release_entry ∷ []))) ∙ get_last (mid ++ done_entry ∷ []) release_entry

  pages_still : page_count_of v (events (mid ++ done_entry ∷ [])) ≡ page_count_of v (events mid)
  unfolding done_entry
  pages_still = ap (page_count_of v) (events_pushed mid done_entry) ∙ ap (λ l. option_map_or (λ (a : Attachment). a.pages) (slice_get l 0) 0) (filter_map_skip (attachment_by v) (events mid) (Done i v) refl)

  -- the pages that come out
  frames_more : (freed : Option (ℕ × SeenPages)) → IfSome freed (λ r. ArePagesOf pool size (events mid) v (page_count_of v (events mid)) r.1)
      → released_by n (mid ++ under n (Done i v ∷ release_of v freed)) ≡ released_by n mid + pages_freed freed
  unfolding done_entry release_entry
  frames_more None pages =
      ap sum (map_with_before_append (pages_by n) mid (done_entry ∷ [])) ∙ (sum_by-append (λ x. x) (map_with_before (pages_by n) mid) (map_after (pages_by n) mid (done_entry ∷ []))
      ∙ ap (λ b. released_by n mid + sum (cons_option (cond b (pages_released_in mid (Done i v)) None) [])) (eq-eqb n n refl))
  frames_more (Some f) pages =
      ap sum (map_with_before_append (pages_by n) mid (done_entry ∷ release_entry ∷ [])) ∙ (sum_by-append (λ x. x) (map_with_before (pages_by n) mid) (map_after (pages_by n) mid (done_entry ∷ release_entry ∷ []))
      ∙ (ap (λ b. released_by n mid + sum (cons_option (cond b (pages_released_in mid (Done i v)) None) (cons_option (cond b (pages_released_in (mid ++ done_entry ∷ []) (Release v)) None) []))) (eq-eqb n n refl)
      ∙ let c = pages.number in let s = pages_still in omega arith))

module _ (e : Errand) (pool : TableId × ℕ) (size front : ℕ) (old mid new : List MemEntry) (later : Continues (λ (x : MemEntry). x.hand) e.hand old mid) (past : e.memory_front ≤ length mid) (front_is : front ≡ length new) where
  freed_is : (freed : Option (ℕ × SeenPages)) → option_map (λ (r : ℕ × SeenPages). r.0) freed ≡ closer_due e.request.vmoid (events mid ++ Done e.index e.request.vmoid ∷ [])
      → IfSome freed (λ r. ArePagesOf pool size (events mid) e.request.vmoid (page_count_of e.request.vmoid (events mid)) r.1)
      → new ≡ mid ++ under e.hand (Done e.index e.request.vmoid ∷ release_of e.request.vmoid freed) → IsBufferFreed e pool front new freed
  unfolding done_entry release_entry
  freed_is None answer pages is = tt
  freed_is (Some f) answer pages is =
      let d = done_entry e.hand e.index e.request.vmoid pool size mid in let r = release_entry e.hand e.index e.request.vmoid pool size mid in (
        pages.of_pool,
        record {
          place = length (mid ++ d ∷ []);
          released = ap (λ l. slice_get l (length (mid ++ d ∷ []))) is ∙ released_at e.hand e.index e.request.vmoid pool size mid;
          below = omega (arith, front_is, ap length is, length-append mid (d ∷ r ∷ []), length-append mid (d ∷ []));
          closed = ap (λ l. closer_of e.request.vmoid (events l)) (ap (take (length (mid ++ d ∷ []))) is ∙ before_release e.hand e.index e.request.vmoid pool size mid) ∙ closer_is e.hand e.index e.request.vmoid pool size mid f answer;
        },
      )

  closed_at : (freed : Option (ℕ × SeenPages)) → option_map (λ (r : ℕ × SeenPages). r.0) freed ≡ closer_due e.request.vmoid (events mid ++ Done e.index e.request.vmoid ∷ [])
      → new ≡ mid ++ under e.hand (Done e.index e.request.vmoid ∷ release_of e.request.vmoid freed)
      → (p m : ℕ) (x : MemEntry) → p ≡ length mid + m → slice_get (under e.hand (Done e.index e.request.vmoid ∷ release_of e.request.vmoid freed)) m ≡ Some x → IsClosedBefore new p x
  unfolding done_entry release_entry
  closed_at freed answer is p zero x at got = λ v what. absurd (let w : Done e.index e.request.vmoid ≡ Release v = ap (λ (y : MemEntry). y.what) (same_Some (record { hand = e.hand; what = Done e.index e.request.vmoid }) x got) ∙ what in cc)
  closed_at None answer is p (suc m) x at got = absurd (cc got)
  closed_at (Some f) answer is p (suc zero) x at got = λ v what.
      let d = done_entry e.hand e.index e.request.vmoid pool size mid in let r = release_entry e.hand e.index e.request.vmoid pool size mid in
      let w : Release e.request.vmoid ≡ Release v = ap (λ (y : MemEntry). y.what) (same_Some (record { hand = e.hand; what = Release e.request.vmoid }) x got) ∙ what in
      let same : e.request.vmoid ≡ v = cc w in
      let place : p ≡ length (mid ++ d ∷ []) = omega (arith, at, length-append mid (d ∷ [])) in
      subst (λ z. is_some (closer_of z (events (take p new))) ≡ true) same
      (ap (λ o. is_some o) (ap (λ l. closer_of e.request.vmoid (events l)) (ap₂ take place is ∙ before_release e.hand e.index e.request.vmoid pool size mid) ∙ closer_is e.hand e.index e.request.vmoid pool size mid f answer))
  closed_at (Some f) answer is p (suc (suc m)) x at got = absurd (cc got)

  pub let_go_of : (freed : Option (ℕ × SeenPages)) → option_map (λ (r : ℕ × SeenPages). r.0) freed ≡ closer_due e.request.vmoid (events mid ++ Done e.index e.request.vmoid ∷ [])
      → IfSome freed (λ r. ArePagesOf pool size (events mid) e.request.vmoid (page_count_of e.request.vmoid (events mid)) r.1)
      → new ≡ mid ++ under e.hand (Done e.index e.request.vmoid ∷ release_of e.request.vmoid freed) → HasLetGo e pool front old new freed
  let_go_of freed answer pages is = record {
    grown = grown_turn (λ (x : MemEntry). x.hand) e.hand e.memory_front front (under e.hand (Done e.index e.request.vmoid ∷ release_of e.request.vmoid freed)) old mid new later is (all_under e.hand (Done e.index e.request.vmoid ∷ release_of e.request.vmoid freed)) past (omega arith);
    is_freed = freed_is freed answer pages is;
    closers = λ p x at by from. own p x at by from (get_append mid (under e.hand (Done e.index e.request.vmoid ∷ release_of e.request.vmoid freed)) p x (ap (λ l. slice_get l p) (sym is) ∙ at));
    frames = ap (released_by e.hand) is ∙ (frames_more e.hand e.index e.request.vmoid pool size mid freed pages ∙ ap (λ k. k + pages_freed freed) (released_still e.hand old mid later));
    front_is = front_is;
  }
    where
      own : (p : ℕ) (x : MemEntry) → slice_get new p ≡ Some x → x.hand ≡ e.hand → length old ≤ p
          → (slice_get mid p ≡ Some x) ⊎ ((m : ℕ) × (p ≡ length mid + m) × (slice_get (under e.hand (Done e.index e.request.vmoid ∷ release_of e.request.vmoid freed)) m ≡ Some x)) → IsClosedBefore new p x
      own p x at by from (inl there) = absurd (not_between (λ (y : MemEntry). y.hand) e.hand old mid p x later there by from)
      own p x at by from (inr (m, where_is, got)) = closed_at freed answer is p m x where_is got

-- the pages are of the pool that the memory's pages are of
pub pages_here : (pool : TableId × ℕ) (m : MemoryState) (v : ℕ) (freed : Option (ℕ × SeenPages)) → m.plan.pool ≡ pool
    → IfSome freed (λ r. ArePagesOf m.plan.pool (block_size_of m) (history m) v (page_count_of v (history m)) r.1) → IfSome freed (λ r. ArePagesOf pool (block_size_of m) (events m.entries) v (page_count_of v (events m.entries)) r.1)
pages_here pool m v freed is pages = subst (λ p. IfSome freed (λ r. ArePagesOf p (block_size_of m) (events m.entries) v (page_count_of v (events m.entries)) r.1)) is pages
