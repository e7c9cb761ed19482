-- A buffer that a record has pinned is still pinned, whatever others add to the history.
use Rattle.std.proofs.Common.{◌≡◌, ℕ, ◌+◌, ◌≤◌, ◌==◌, Bool, true, false, not, ◌||◌, ◌&&◌, cond, List, [], ◌∷◌, ◌++◌, length, filter, Option, Some, None, refl, sym, ap, ap₂, subst, ◌∙◌, arith, eq-eqb, ltb-true}
use Rattle.std.specs.Prelude.{◌<◌, nat_lt, slice_get}
use Rattle.std.specs.List.{All, list_all, list_any}
use Rattle.std.specs.Option.{option_map_or}
use Rattle.std.proofs.lemmas.Bool.{and_parts, eqb-true, or_left, or_parts}
use Rattle.std.proofs.lemmas.List.{map-append}
use Rattle.std.proofs.lemmas.List.Elements.{All-nil, All-cons}
use Rattle.std.proofs.lemmas.List.Folds.{list_any-append}
use Rattle.host_model.specs.{MemEntry, MemEvent, Pin, Done, count}
use Rattle.host_memory.specs.{Attachment, attachment_of, is_block_of, page_count_of, is_by_its_hand, is_hand_of, is_done_for, is_left, is_pin_by, is_pin_for, is_pinned_by, events}
use Rattle.host_memory.proofs.Carrying.{pin_for}
use Rattle.host_memory.proofs.Pinning.{some_counted}
use Rattle.host_log.specs.{Continues, entries_of, HasGrown}
use Rattle.host_intake.specs.{under}
use Rattle.host_hand.specs.{Errand, IsHeld}
use Rattle.host_log.proofs.Growing.{grown_nothing}
use Rattle.host_intake.proofs.Answering.{block_later}

-- ---- entries under one number

pub all_under : (n : ℕ) (moves : List MemEvent) → All (λ (x : MemEntry). x.hand ≡ n) (under n moves)
all_under n [] = All-nil (λ (x : MemEntry). x.hand ≡ n)
all_under n (m ∷ moves) = All-cons (λ (x : MemEntry). x.hand ≡ n) (record { hand = n; what = m }) (under n moves) refl (all_under n moves)

pub events_under : (n : ℕ) (moves : List MemEvent) → events (under n moves) ≡ moves
events_under n [] = refl
events_under n (m ∷ moves) = ap (λ l. m ∷ l) (events_under n moves)

-- ---- the pins of one record name one hand

first_part : (a b c : Bool) → (a && b && c) ≡ true → a ≡ true
first_part true b c e = refl
first_part false b c e = absurd (cc e)

same_hand : (i n m v w : ℕ) (x : MemEvent) → is_pin_by n i v x ≡ true → is_pin_by m i w x ≡ true → n ≡ m
same_hand i n m v w (Pin index id by) e f = sym (eqb-true by n (first_part (by == n) (index == i) (id == v) e)) ∙ eqb-true by m (first_part (by == m) (index == i) (id == w) f)
same_hand i n m v w _ e f = absurd (cc e)

module _ (i n m v w : ℕ) where
  agree_step : (x : MemEvent) (h : List MemEvent) (b c d : Bool) → is_pin_by n i v x ≡ b → is_pin_by m i w x ≡ c → is_pin_for i x ≡ d
      → (b || list_any (is_pin_by n i v) h) ≡ true → (c || list_any (is_pin_by m i w) h) ≡ true → length (cond d (x ∷ filter (is_pin_for i) h) (filter (is_pin_for i) h)) ≤ 1
      → (count (is_pin_for i) h ≤ 1 → list_any (is_pin_by n i v) h ≡ true → list_any (is_pin_by m i w) h ≡ true → n ≡ m) → n ≡ m
  agree_step x h true true d bn cm di en em le more = same_hand i n m v w x bn cm
  agree_step x h true false true bn cm di en em le more = absurd (let s = some_counted (is_pin_for i) (is_pin_by m i w) (pin_for m i w) h em in omega arith)
  agree_step x h true false false bn cm di en em le more = absurd (let t : is_pin_for i x ≡ true = pin_for n i v x bn in cc)
  agree_step x h false true true bn cm di en em le more = absurd (let s = some_counted (is_pin_for i) (is_pin_by n i v) (pin_for n i v) h en in omega arith)
  agree_step x h false true false bn cm di en em le more = absurd (let t : is_pin_for i x ≡ true = pin_for m i w x cm in cc)
  agree_step x h false false true bn cm di en em le more = more (omega arith) en em
  agree_step x h false false false bn cm di en em le more = more le en em

  agree : (h : List MemEvent) → count (is_pin_for i) h ≤ 1 → list_any (is_pin_by n i v) h ≡ true → list_any (is_pin_by m i w) h ≡ true → n ≡ m
  agree [] le en em = absurd (cc en)
  agree (x ∷ h) le en em = agree_step x h (is_pin_by n i v x) (is_pin_by m i w x) (is_pin_for i x) refl refl refl en em le (agree h)

-- ---- nobody else lets go of a record's buffer

module _ (whole : List MemEvent) (n i v : ℕ) (one : count (is_pin_for i) whole ≤ 1) (pin : list_any (is_pin_by n i v) whole ≡ true) where
  done_hand : (m : ℕ) (e : MemEvent) → is_done_for i e ≡ true → is_hand_of whole m e ≡ true → n ≡ m
  done_hand m (Done index id) d h = agree i n m v id whole one pin (subst (λ j. list_any (is_pin_by m j id) whole ≡ true) (eqb-true index i d) h)
  done_hand m _ d h = absurd (cc d)

  rest_none : (b d rest : Bool) (x : MemEntry) (l : List MemEntry) → is_done_for i x.what ≡ d → list_any (is_done_for i) (events (cond b (x ∷ l) l)) ≡ false → list_any (is_done_for i) (events l) ≡ false
  rest_none true d rest x l is none = (or_parts (is_done_for i x.what) (list_any (is_done_for i) (events l)) none).1
  rest_none false d rest x l is none = none

  pub none_done : (h : List MemEntry) → list_all (is_by_its_hand whole) h ≡ true → list_any (is_done_for i) (events (entries_of (λ x. x.hand) n h)) ≡ false → list_any (is_done_for i) (events h) ≡ false
  none_done [] all none = refl
  none_done (x ∷ h) all none = at (is_done_for i x.what) refl (λ f. none_done h (and_parts (is_by_its_hand whole x) (list_all (is_by_its_hand whole) h) all).1 f)
    where
      parts : (is_by_its_hand whole x ≡ true) × (list_all (is_by_its_hand whole) h ≡ true)
      parts = and_parts (is_by_its_hand whole x) (list_all (is_by_its_hand whole) h) all

      at : (d : Bool) → is_done_for i x.what ≡ d → (list_any (is_done_for i) (events (entries_of (λ x. x.hand) n h)) ≡ false → list_any (is_done_for i) (events h) ≡ false) → (is_done_for i x.what || list_any (is_done_for i) (events h)) ≡ false
      at true is more =
          let by : n ≡ x.hand = done_hand x.hand x.what is parts.0 in
          let here : list_any (is_done_for i) (events (x ∷ entries_of (λ x. x.hand) n h)) ≡ false = subst (λ b. list_any (is_done_for i) (events (cond b (x ∷ entries_of (λ x. x.hand) n h) (entries_of (λ x. x.hand) n h))) ≡ false) (eq-eqb x.hand n (sym by)) none in
          absurd (let f = (or_parts (is_done_for i x.what) (list_any (is_done_for i) (events (entries_of (λ x. x.hand) n h))) here).0 in cc)
      at false is more = ap (λ b. b || list_any (is_done_for i) (events h)) is
          ∙ more (rest_none (x.hand == n) false false x (entries_of (λ x. x.hand) n h) is none)

-- ---- a pin with no done is left

module _ {A : Type 0} (p q : A → Bool) (pq : (x : A) → p x ≡ true → q x ≡ true) where
  kept_step : (x : A) (xs : List A) (b c : Bool) → p x ≡ b → q x ≡ c → (b || list_any p xs) ≡ true → (list_any p xs ≡ true → list_any p (filter q xs) ≡ true) → list_any p (cond c (x ∷ filter q xs) (filter q xs)) ≡ true
  kept_step x xs true true pb qc e more = ap (λ b. b || list_any p (filter q xs)) pb
  kept_step x xs true false pb qc e more = absurd (let f : q x ≡ true = pq x pb in cc)
  kept_step x xs false true pb qc e more = ap (λ b. b || list_any p (filter q xs)) pb ∙ more e
  kept_step x xs false false pb qc e more = more e

  any_kept : (xs : List A) → list_any p xs ≡ true → list_any p (filter q xs) ≡ true
  any_kept [] e = absurd (cc e)
  any_kept (x ∷ xs) e = kept_step x xs (p x) (q x) refl refl e (any_kept xs)

left_pin : (h : List MemEvent) (n i v : ℕ) → list_any (is_done_for i) h ≡ false → (x : MemEvent) → is_pin_by n i v x ≡ true → is_left h x ≡ true
left_pin h n i v none (Pin index id by) e = ap not (subst (λ j. list_any (is_done_for j) h ≡ false) (eqb-true i index (pin_for n i v (Pin index id by) e)) none)
left_pin h n i v none _ e = absurd (cc e)

-- what a hand knows of a memory in its turn
pub pinned_now : (e : Errand) (h : List MemEntry) → count (is_pin_for e.index) (events h) ≤ 1 → list_all (is_by_its_hand (events h)) h ≡ true → IsHeld e h
    → is_pinned_by e.hand e.index e.request.vmoid (events h) ≡ true
pinned_now e h one all k =
    let none = none_done (events h) e.hand e.index e.request.vmoid one k.pinned h all k.undone in
    any_kept (is_pin_by e.hand e.index e.request.vmoid) (is_left (events h)) (left_pin (events h) e.hand e.index e.request.vmoid none) (events h) k.pinned

-- ---- the numbers of its pages

below_count : (o : Option Attachment) (b : ℕ) → option_map_or (λ (a : Attachment). nat_lt b a.pages) o false ≡ true → b < option_map_or (λ (a : Attachment). a.pages) o 0
below_count None b is = absurd (cc is)
below_count (Some a) b is = ltb-true b a.pages is

-- a page of a record that holds its buffer has a number of 32 bits
pub page_fits : (e : Errand) (h : List MemEntry) (k : ℕ) → page_count_of e.request.vmoid (events h) ≤ 4294967295 → IsHeld e h → k < e.request.length → e.request.vmo_offset + k < 4294967296
page_fits e h k few held lt =
    let below : e.request.vmo_offset + k < page_count_of e.request.vmoid (events h) = below_count (attachment_of e.request.vmoid (events h)) (e.request.vmo_offset + k) (held.blocks k lt) in omega arith

-- ---- as the history grows

first_stays : {A : Type 0} (f : Option A → Bool) (xs ys : List A) → f None ≡ false → f (slice_get xs 0) ≡ true → f (slice_get (xs ++ ys) 0) ≡ true
first_stays f [] ys none some = absurd (cc)
first_stays f (x ∷ xs) ys none some = some

pub events_append : (xs ys : List MemEntry) → events (xs ++ ys) ≡ events xs ++ events ys
events_append xs ys = map-append (λ (x : MemEntry). x.what) xs ys

pub held_grown : (e : Errand) (front stop : ℕ) (moves : List MemEvent) (old new : List MemEntry) → list_any (is_done_for e.index) moves ≡ false → HasGrown (λ (x : MemEntry). x.hand) e.hand front stop (under e.hand moves) old new → IsHeld e old → IsHeld e new
held_grown e front stop moves old new none g k =
    let whole : events new ≡ events old ++ events g.begins.0 = ap events (sym g.begins.1) ∙ events_append old g.begins.0 in
    record {
      pinned = ap (list_any (is_pin_by e.hand e.index e.request.vmoid)) whole
          ∙ (list_any-append (is_pin_by e.hand e.index e.request.vmoid) (events old) (events g.begins.0) ∙ or_left (list_any (is_pin_by e.hand e.index e.request.vmoid) (events old)) (list_any (is_pin_by e.hand e.index e.request.vmoid) (events g.begins.0)) k.pinned);
      undone = ap (λ l. list_any (is_done_for e.index) (events l)) g.own
          ∙ (ap (list_any (is_done_for e.index)) (events_append (entries_of (λ (x : MemEntry). x.hand) e.hand old) (under e.hand moves) ∙ ap (λ l. events (entries_of (λ (x : MemEntry). x.hand) e.hand old) ++ l) (events_under e.hand moves))
          ∙ (list_any-append (is_done_for e.index) (events (entries_of (λ (x : MemEntry). x.hand) e.hand old)) moves ∙ ap₂ (λ a b. a || b) k.undone none));
      blocks = λ j lt. subst (λ h. is_block_of e.request.vmoid h (e.request.vmo_offset + j) ≡ true) (sym whole) (block_later e.request.vmoid (e.request.vmo_offset + j) (events old) (events g.begins.0) (k.blocks j lt));
    }

pub held_still : (e : Errand) (old new : List MemEntry) → Continues (λ (x : MemEntry). x.hand) e.hand old new → IsHeld e old → IsHeld e new
held_still e old new c k = held_grown e 0 0 [] old new refl (grown_nothing (λ (x : MemEntry). x.hand) e.hand 0 0 old new c) k

-- what a seat with this number sees as it enters
pub entered_as : (n m : ℕ) (old seen mid : List MemEntry) → m ≡ n → seen ≡ mid → Continues (λ (x : MemEntry). x.hand) m old seen → Continues (λ (x : MemEntry). x.hand) n old mid
entered_as n m old seen mid by same c = subst (λ l. Continues (λ (x : MemEntry). x.hand) n old l) same (subst (λ k. Continues (λ (x : MemEntry). x.hand) k old seen) by c)
