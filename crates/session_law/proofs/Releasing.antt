-- The pages of the buffers that a history releases, by makers.
use Rattle.std.proofs.Common.{◌≡◌, ℕ, zero, suc, ◌+◌, ◌<◌, ◌==◌, Bool, true, false, not, ◌&&◌, cond, List, [], ◌∷◌, ◌++◌, filter, filter_map, length, map, take, drop, Option, Some, None, refl, sym, ap, ◌∙◌, arith, append-nil, append_assoc, eq-eqb}
use Rattle.std.specs.Prelude.{sum, sum_by}
use Rattle.std.specs.Bool.{then_some}
use Rattle.std.specs.List.{cons_option, list_any, slice_get}
use Rattle.std.specs.Option.{option_map_or}
use Rattle.std.proofs.lemmas.Bool.{eqb-true}
use Rattle.std.proofs.lemmas.List.{map-append, take-append-drop}
use Rattle.std.proofs.lemmas.List.Elements.{filter_map-append}
use Rattle.std.proofs.lemmas.List.Sums.{sum_by-cons}
use Rattle.host_block.specs.declared.range.Range.{Range}
use Rattle.host_block.proofs.Places.{in_take}
use Rattle.host_record.specs.{Opcode, Read, Write, Flush, Trim, Close, is_close, opcode}
use Rattle.host_model.specs.{MemEntry, MemEvent, Attach, Release, Accepted, Refused, all_with_before, map_after, comes_before_release, is_release_of, released_id, is_accepted}
use Rattle.host_model.specs.declared.memory.MemEvent.TheVariants as mem
use Rattle.host_model.specs.declared.verdict.Verdict.{Verdict}
use Rattle.host_memory.specs.{Attachment, attachment_by, page_count_of, events}
use Rattle.host_log.specs.{entries_of}
use Rattle.host_intake.specs.{Taking, place_of, request_in, AreTaken, left_by, made_for, made_under, under}
use Rattle.host_hand.specs.{is_closer, pages_by, pages_released_in, pages_named, released_by}
use Rattle.session_law.proofs.Places.{from_drop, take_one, with_before_at}
use Rattle.host_log.proofs.Places.{any_here, get_middle}
use Rattle.session_law.proofs.Released.{event_at, events_take, left_at}
use Rattle.session_law.proofs.Given.{none_found}
use Rattle.session_law.proofs.Totals.{sum_alike, sum_flat, sum_option}

-- ---- lists

front_is : {A : Type 0} (before after : List A) → take (length before) (before ++ after) ≡ before
front_is [] after = refl
front_is (x ∷ before) after = ap (λ l. x ∷ l) (front_is before after)

attachment_none : (v : ℕ) (w : MemEvent) → ((pages from : ℕ) → w ≡ Attach v pages from → ⊥) → attachment_by v w ≡ None
attachment_none v (Attach id pages from) h = step (id == v) (record { pages = pages; from = from }) refl
  where
    step : (b : Bool) (a : Attachment) → (id == v) ≡ b → then_some b a ≡ None
    step true a e = absurd (h pages from (ap (λ i. Attach i pages from) (eqb-true id v e)))
    step false a e = refl
attachment_none v _ h = refl

-- the pages that the first attachment tells
abbrev pages_by_first : List Attachment → ℕ
pages_by_first l = option_map_or (λ (a : Attachment). a.pages) (slice_get l 0) 0

-- a record that closed a buffer which nothing pinned left its close and its release
closer_made : (d : Verdict) (o : Option Opcode) (i id hand : ℕ) (waits : Bool) → (is_accepted d && is_close o && not waits) ≡ true → made_under d (made_for o i id hand waits) ≡ mem.Close i id ∷ Release id ∷ []
closer_made (Refused s) o i id hand waits e = absurd (cc)
closer_made Accepted None i id hand waits e = absurd (cc)
closer_made Accepted (Some Read) i id hand waits e = absurd (cc)
closer_made Accepted (Some Write) i id hand waits e = absurd (cc)
closer_made Accepted (Some Flush) i id hand waits e = absurd (cc)
closer_made Accepted (Some Trim) i id hand waits e = absurd (cc)
closer_made Accepted (Some Close) i id hand true e = absurd (cc)
closer_made Accepted (Some Close) i id hand false e = refl

module _ (h : List MemEntry) (last : all_with_before comes_before_release (events h) ≡ true) where
  abbrev pub pages : ℕ → ℕ
  pages v = page_count_of v (events h)

  -- an attach doesn't stand at a release of its buffer, nor behind it
  late : (v p : ℕ) (e : MemEntry) (n : ℕ) (w : MemEvent) (many from : ℕ) → slice_get h p ≡ Some e → e.what ≡ Release v → slice_get (events h) (p + n) ≡ Some w → w ≡ Attach v many from → ⊥
  late v p e zero w many from at what there is =
      let place : p + 0 ≡ p = omega arith in
      let same : Some e.what ≡ Some w = sym (event_at h p e at) ∙ (ap (slice_get (events h)) (sym place) ∙ there) in
      let two : Some (Release v) ≡ Some (Attach v many from) = ap Some (sym what) ∙ (same ∙ ap Some is) in
      cc
  late v p e (suc n) w many from at what there is =
      let lt : p < p + suc n = omega arith in
      let t : comes_before_release (take (p + suc n) (events h)) w ≡ true = with_before_at comes_before_release (events h) (p + suc n) w last there in
      let u : comes_before_release (take (p + suc n) (events h)) (Attach v many from) ≡ true = ap (comes_before_release (take (p + suc n) (events h))) (sym is) ∙ t in
      let r : is_release_of v e.what ≡ true = ap (is_release_of v) what ∙ eq-eqb v v refl in
      let found : list_any (is_release_of v) (take (p + suc n) (events h)) ≡ true = any_here (is_release_of v) (take (p + suc n) (events h)) p e.what (in_take (events h) (p + suc n) p e.what lt (event_at h p e at)) r in
      let z : false ≡ true = ap not (sym found) ∙ u in
      cc

  -- what a release finds of its buffer is what the whole history has
  pub pages_stand : (v p : ℕ) (e : MemEntry) → slice_get h p ≡ Some e → e.what ≡ Release v → page_count_of v (events (take p h)) ≡ pages v
  pages_stand v p e at what =
      let none : filter_map (attachment_by v) (drop p (events h)) ≡ [] = none_found (attachment_by v) (drop p (events h)) (λ n w there. attachment_none v w (λ many from is. late v p e n w many from at what (from_drop (events h) p n w there) is)) in
      let whole : filter_map (attachment_by v) (events h) ≡ filter_map (attachment_by v) (take p (events h)) =
      ap (filter_map (attachment_by v)) (sym (take-append-drop p (events h)))
      ∙ (filter_map-append (attachment_by v) (take p (events h)) (drop p (events h))
      ∙ (ap (λ l. filter_map (attachment_by v) (take p (events h)) ++ l) none ∙ append-nil (filter_map (attachment_by v) (take p (events h))))) in
      ap pages_by_first (ap (filter_map (attachment_by v)) (events_take h p) ∙ sym whole)

  -- the pages of the buffer that an entry releases
  abbrev pub released_pages : MemEntry → ℕ
  released_pages e = option_map_or pages (released_id e.what) 0

  found_pages : (before : List MemEntry) (w : MemEvent) → ((v : ℕ) → w ≡ Release v → page_count_of v (events before) ≡ pages v) → option_map_or (λ (k : ℕ). k) (pages_released_in before w) 0 ≡ option_map_or pages (released_id w) 0
  found_pages before (Release id) k = k id refl
  found_pages before _ k = refl

  released_from : (n : ℕ) (before xs : List MemEntry) → before ++ xs ≡ h → sum (map_after (pages_by n) before xs) ≡ sum_by released_pages (entries_of (λ (e : MemEntry). e.hand) n xs)
  released_from n before [] all = refl
  released_from n before (x ∷ xs) all = step (x.hand == n) (released_from n (before ++ x ∷ []) xs (append_assoc before (x ∷ []) xs ∙ all))
    where
      here : option_map_or (λ (k : ℕ). k) (pages_released_in before x.what) 0 ≡ released_pages x
      here = found_pages before x.what (λ v is.
          let at : slice_get h (length before) ≡ Some x = ap (λ l. slice_get l (length before)) (sym all) ∙ get_middle before x xs in
          let front : take (length before) h ≡ before = ap (take (length before)) (sym all) ∙ front_is before (x ∷ xs) in
          ap (λ l. page_count_of v (events l)) (sym front) ∙ pages_stand v (length before) x at is)

      step : (b : Bool) → sum (map_after (pages_by n) (before ++ x ∷ []) xs) ≡ sum_by released_pages (entries_of (λ (e : MemEntry). e.hand) n xs)
          → sum (cons_option (cond b (pages_released_in before x.what) None) (map_after (pages_by n) (before ++ x ∷ []) xs)) ≡ sum_by released_pages (cond b (x ∷ entries_of (λ (e : MemEntry). e.hand) n xs) (entries_of (λ (e : MemEntry). e.hand) n xs))
      step false r = r
      step true r = sum_option (pages_released_in before x.what) (map_after (pages_by n) (before ++ x ∷ []) xs) ∙ omega (arith, here, r, sum_by-cons released_pages x (entries_of (λ (e : MemEntry). e.hand) n xs))

  -- the pages of the buffers that hand n released
  pub released_sum : (n : ℕ) → released_by n h ≡ sum_by released_pages (entries_of (λ (e : MemEntry). e.hand) n h)
  released_sum n = released_from n [] h refl

  -- ---- the records that were taken

  -- the pages of the buffer that a record closed, where nothing pinned it
  abbrev pub closed_pages : Taking → ℕ
  closed_pages t = cond (is_closer t) (pages (request_in t).vmoid) 0

  left_pages : (number i id hand : ℕ) (d : Verdict) (o : Option Opcode) (waits : Bool) → sum_by released_pages (under number (made_under d (made_for o i id hand waits))) ≡ cond (is_accepted d && is_close o && not waits) (pages id) 0
  left_pages number i id hand (Refused s) o waits = refl
  left_pages number i id hand Accepted None waits = refl
  left_pages number i id hand Accepted (Some Read) waits = refl
  left_pages number i id hand Accepted (Some Write) waits = refl
  left_pages number i id hand Accepted (Some Flush) waits = refl
  left_pages number i id hand Accepted (Some Trim) waits = refl
  left_pages number i id hand Accepted (Some Close) true = refl
  left_pages number i id hand Accepted (Some Close) false = omega arith

  module _ (part : Range) (number : ℕ) (ts : List Taking) (a : AreTaken part number h ts) where
    -- the admissions released just what these records closed
    pub admitted_sum : sum_by released_pages (entries_of (λ (e : MemEntry). e.hand) number h) ≡ sum_by closed_pages ts
    admitted_sum =
        ap (sum_by released_pages) a.left
        ∙ (sum_flat (left_by number) released_pages ts
        ∙ sum_alike (λ (t : Taking). sum_by released_pages (left_by number t)) closed_pages ts (λ n t at. left_pages number (place_of t) (request_in t).vmoid t.hand t.verdict (opcode (request_in t)) t.waits))

    -- a record found as many pages in its buffer as the whole history has
    judged_pages : (k : ℕ) (t : Taking) → slice_get ts k ≡ Some t → is_closer t ≡ true → pages_named h t ≡ pages (request_in t).vmoid
    judged_pages k t at is =
        let close : MemEntry = record { hand = number; what = mem.Close (place_of t) (request_in t).vmoid } in
        let release : MemEntry = record { hand = number; what = Release (request_in t).vmoid } in
        let left : left_by number t ≡ close ∷ release ∷ [] = ap (under number) (closer_made t.verdict (opcode (request_in t)) (place_of t) (request_in t).vmoid t.hand t.waits is) in
        let first = left_at part number h ts a k t 0 close at (ap (λ l. slice_get l 0) left) in
        let second = left_at part number h ts a k t 1 release at (ap (λ l. slice_get l 1) left) in
        let zero_more : t.seen + 0 ≡ t.seen = omega arith in
        let one_more : t.seen + 1 ≡ suc t.seen = omega arith in
        let there : slice_get h t.seen ≡ Some close = ap (slice_get h) (sym zero_more) ∙ first in
        let whole : page_count_of (request_in t).vmoid (events (take (suc t.seen) h)) ≡ pages (request_in t).vmoid = ap (λ n. page_count_of (request_in t).vmoid (events (take n h))) (sym one_more) ∙ pages_stand (request_in t).vmoid (t.seen + 1) release second refl in
        let cut : filter_map (attachment_by (request_in t).vmoid) (events (take (suc t.seen) h)) ≡ filter_map (attachment_by (request_in t).vmoid) (events (take t.seen h)) =
        ap (λ l. filter_map (attachment_by (request_in t).vmoid) (events l)) (take_one h t.seen close there)
        ∙ (ap (filter_map (attachment_by (request_in t).vmoid)) (map-append (λ (e : MemEntry). e.what) (take t.seen h) (close ∷ []))
        ∙ (filter_map-append (attachment_by (request_in t).vmoid) (events (take t.seen h)) (mem.Close (place_of t) (request_in t).vmoid ∷ []) ∙ append-nil (filter_map (attachment_by (request_in t).vmoid) (events (take t.seen h))))) in
        ap pages_by_first (sym cut) ∙ whole

    -- the pages that some of these records closed
    pub closed_sum : (us : List Taking) → ((n : ℕ) (u : Taking) → slice_get us n ≡ Some u → (k : ℕ) × (slice_get ts k ≡ Some u)) → sum (map (pages_named h) (filter is_closer us)) ≡ sum_by closed_pages us
    closed_sum [] each = refl
    closed_sum (u ∷ us) each = step (is_closer u) refl (closed_sum us (λ n x at. each (suc n) x at)) ∙ sym (sum_by-cons closed_pages u us)
      where
        step : (b : Bool) → is_closer u ≡ b → sum (map (pages_named h) (filter is_closer us)) ≡ sum_by closed_pages us
            → sum (map (pages_named h) (cond b (u ∷ filter is_closer us) (filter is_closer us))) ≡ cond b (pages (request_in u).vmoid) 0 + sum_by closed_pages us
        step false e r = omega (arith, r)
        step true e r =
            let place = each 0 u refl in
            let p = judged_pages place.0 u place.1 e in
            sum_by-cons (λ (k : ℕ). k) (pages_named h u) (map (pages_named h) (filter is_closer us)) ∙ omega (arith, p, r)
