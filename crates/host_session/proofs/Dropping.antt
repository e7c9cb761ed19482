-- The buffers that hold pages are released one by one.
use Rattle.std.proofs.Common.{◌≡◌, ℕ, ◌≤◌, ◌<◌, ◌==◌, Bool, true, false, not, ◌||◌, cond, List, [], ◌∷◌, ◌++◌, length, filter, filter_map, Some, None, refl, sym, ap, subst, ◌∙◌, arith, append_assoc, append-nil}
use Rattle.std.proofs.Math.Bool.{or-true, or-false}
use Rattle.std.specs.List.{All, list_any, range_with_len, slice_get}
use Rattle.std.specs.Option.{option_map_or, unwrap_or}
use Rattle.std.proofs.lemmas.Bool.{eq-eqb}
use Rattle.std.proofs.lemmas.List.{map-append}
use Rattle.std.proofs.lemmas.List.Folds.{list_any-append}
use Rattle.std.proofs.lemmas.List.Elements.{All-cons, All-nil, filter_map-append}
use Rattle.std.proofs.lemmas.List.Sums.{sum_by-append}
use Rattle.host_frames.specs.{PoolSeat}
use Rattle.host_memory.specs.{given_count, is_attach_entry, attachment_by, attachment_of, first_held, holds_pages, is_released, page_count_of, is_done_for, is_left, pins_left, MemoryState, events, history}
use Rattle.host_model.specs.{MemEntry, MemEvent, Attach, Fill, Show, Pin, Lift, Land, Done, Release, is_release_of}
use Rattle.host_model.specs.declared.memory.MemEvent.TheVariants as mem
use Rattle.host_log.specs.{Adds}
use Rattle.host_session.specs.{HasDropped, HasGivenBack, releases_by, entry_by}
use Rattle.host_session.proofs.Snoc.{found_none}
use Rattle.host_memory.proofs.Pushed.{filter_skip}

module _ {A : Type 0} (p q : A → Bool) (less : (x : A) → q x ≡ true → p x ≡ true) where
  no_more_pass : (xs : List A) → length (filter q xs) ≤ length (filter p xs)
  no_more_pass [] = omega arith
  no_more_pass (x ∷ xs) = at (q x) (p x) (less x) (no_more_pass xs)
    where
      at : (b d : Bool) → (b ≡ true → d ≡ true) → length (filter q xs) ≤ length (filter p xs) → length (cond b (x ∷ filter q xs) (filter q xs)) ≤ length (cond d (x ∷ filter p xs) (filter p xs))
      at true true f ih = omega (arith, ih)
      at true false f ih = absurd (cc (f refl))
      at false true f ih = omega (arith, ih)
      at false false f ih = ih

  -- where the first that passes one test fails the other, fewer pass that
  fewer : (xs : List A) (v : A) → slice_get (filter p xs) 0 ≡ Some v → q v ≡ false → length (filter q xs) < length (filter p xs)
  fewer [] v at no_q = absurd (cc at)
  fewer (x ∷ xs) v first no_q = at (p x) (q x) refl (less x) first (λ e. fewer xs v e no_q) (no_more_pass xs)
    where
      at : (d b : Bool) → q x ≡ b → (b ≡ true → d ≡ true) → slice_get (cond d (x ∷ filter p xs) (filter p xs)) 0 ≡ Some v → (slice_get (filter p xs) 0 ≡ Some v → length (filter q xs) < length (filter p xs)) → length (filter q xs) ≤ length (filter p xs)
          → length (cond b (x ∷ filter q xs) (filter q xs)) < length (cond d (x ∷ filter p xs) (filter p xs))
      at true true is f first ih le = let same : x ≡ v = ap (λ o. unwrap_or o x) first in absurd (cc (sym is ∙ (ap q same ∙ no_q)))
      at true false is f first ih le = omega (arith, le)
      at false true is f first ih le = absurd (cc (f refl))
      at false false is f first ih le = ih first

filter_same : {A : Type 0} (p q : A → Bool) → ((x : A) → p x ≡ q x) → (xs : List A) → filter p xs ≡ filter q xs
filter_same p q same [] = refl
filter_same p q same (x ∷ xs) = ap (λ b. cond b (x ∷ filter p xs) (filter p xs)) (same x) ∙ ap (λ l. cond (q x) (x ∷ l) l) (filter_same p q same xs)

-- ---- what a release leaves

module _ (h : List MemEvent) (v : ℕ) where
  given_still : given_count (h ++ Release v ∷ []) ≡ given_count h
  given_still = ap length (filter_skip is_attach_entry h (Release v) refl)

  attachment_still : (w : ℕ) → attachment_of w (h ++ Release v ∷ []) ≡ attachment_of w h
  attachment_still w = ap (λ l. slice_get l 0) (found_none (attachment_by w) h (Release v) refl)

  pub page_count_still : (w : ℕ) → page_count_of w (h ++ Release v ∷ []) ≡ page_count_of w h
  page_count_still w = ap (λ o. option_map_or (λ a. a.pages) o 0) (attachment_still w)

  released_now : (w : ℕ) → is_released w (h ++ Release v ∷ []) ≡ (is_released w h || (v == w || false))
  released_now w = list_any-append (is_release_of w) h (Release v ∷ [])

  held_before : (w : ℕ) → holds_pages w (h ++ Release v ∷ []) ≡ true → holds_pages w h ≡ true
  held_before w e = at (is_released w h) (v == w || false) refl (sym (ap (λ b. option_map_or (λ n. true) (cond b None (option_map_or (λ a. Some a.pages) (attachment_of w (h ++ Release v ∷ [])) None)) false) (released_now w)) ∙ e)
    where
      at : (b d : Bool) → is_released w h ≡ b → option_map_or (λ n. true) (cond (b || d) None (option_map_or (λ a. Some a.pages) (attachment_of w (h ++ Release v ∷ [])) None)) false ≡ true → holds_pages w h ≡ true
      at true d is f = absurd (cc f)
      at false true is f = absurd (cc f)
      at false false is f =
          ap (λ b. option_map_or (λ n. true) (cond b None (option_map_or (λ a. Some a.pages) (attachment_of w h) None)) false) is
          ∙ (ap (λ o. option_map_or (λ n. true) (option_map_or (λ a. Some a.pages) o None) false) (sym (attachment_still w)) ∙ f)

  gone_now : holds_pages v (h ++ Release v ∷ []) ≡ false
  gone_now =
      let e : is_released v (h ++ Release v ∷ []) ≡ true = released_now v ∙ (ap (λ b. is_released v h || (b || false)) (eq-eqb v v refl) ∙ or-true (is_released v h)) in
      ap (λ b. option_map_or (λ n. true) (cond b None (option_map_or (λ a. Some a.pages) (attachment_of v (h ++ Release v ∷ [])) None)) false) e

  -- how many buffers hold pages
  pub held_fewer : first_held h ≡ Some v
      → length (filter (λ w. holds_pages w (h ++ Release v ∷ [])) (range_with_len 1 (given_count (h ++ Release v ∷ [])))) < length (filter (λ w. holds_pages w h) (range_with_len 1 (given_count h)))
  held_fewer first = subst (λ n. length (filter (λ w. holds_pages w (h ++ Release v ∷ [])) (range_with_len 1 n)) < length (filter (λ w. holds_pages w h) (range_with_len 1 (given_count h)))) (sym given_still)
      (fewer (λ w. holds_pages w h) (λ w. holds_pages w (h ++ Release v ∷ [])) held_before (range_with_len 1 (given_count h)) v first gone_now)

  left_still : (e : MemEvent) → is_left (h ++ Release v ∷ []) e ≡ is_left h e
  left_still (Attach id pages from) = refl
  left_still (Fill id block cnt byte) = refl
  left_still (Show id block cnt) = refl
  left_still (Pin index id by) = ap not (list_any-append (is_done_for index) h (Release v ∷ []) ∙ or-false (list_any (is_done_for index) h))
  left_still (Lift index k id block bytes) = refl
  left_still (Land index k id block bytes) = refl
  left_still (Done index id) = refl
  left_still (mem.Close index id) = refl
  left_still (Release id) = refl

  pub pins_still : length (pins_left (h ++ Release v ∷ [])) ≡ length (pins_left h)
  pins_still = ap length (filter_skip (is_left (h ++ Release v ∷ [])) h (Release v) refl ∙ filter_same (is_left (h ++ Release v ∷ [])) (is_left h) left_still h)

-- ---- one release more

module _ (client : ℕ) (old now new : MemoryState) (seat mid after : PoolSeat) (d : HasDropped client old now seat mid) (v n : ℕ) where
  none_attached : (ids : List ℕ) → filter_map (attachment_by v) (events (releases_by client ids)) ≡ []
  none_attached [] = refl
  none_attached (w ∷ ids) = none_attached ids

  counts_still : (ids : List ℕ) → page_count_of v (events (old.entries ++ releases_by client ids)) ≡ page_count_of v (events old.entries)
  counts_still ids =
      ap (λ l. option_map_or (λ a. a.pages) (slice_get (filter_map (attachment_by v) l) 0) 0) (map-append (λ (e : MemEntry). e.what) old.entries (releases_by client ids))
      ∙ ap (λ l. option_map_or (λ a. a.pages) (slice_get l 0) 0) (filter_map-append (attachment_by v) (events old.entries) (events (releases_by client ids)) ∙ (ap (λ l. filter_map (attachment_by v) (events old.entries) ++ l) (none_attached ids) ∙ append-nil (filter_map (attachment_by v) (events old.entries))))

  pub dropped_more : new ≡ record now { entries = now.entries ++ entry_by client (Release v) ∷ [] } → n ≡ page_count_of v (history now) → HasGivenBack n mid after → HasDropped client old new seat after
  dropped_more is count_is back = record {
    ids = d.ids ++ v ∷ [];
    left = is ∙ (ap (λ (s : MemoryState). record s { entries = s.entries ++ entry_by client (Release v) ∷ [] }) d.left
        ∙ ap (λ l. record old { entries = l }) (append_assoc old.entries (releases_by client d.ids) (entry_by client (Release v) ∷ []) ∙ ap (λ l. old.entries ++ l) (sym (map-append (λ w. entry_by client (Release w)) d.ids (v ∷ [])))));
    home = record {
      pool = back.pool ∙ d.home.pool;
      claims = back.claims ∙ d.home.claims;
      granted = back.granted ∙ d.home.granted;
      given_back = omega (arith, back.given_back, d.home.given_back, count_is, ap (λ (s : MemoryState). page_count_of v (history s)) d.left, counts_still d.ids, sum_by-append (λ w. page_count_of w (events old.entries)) d.ids (v ∷ []));
    };
  }

module _ (s n : MemoryState) (client v : ℕ) (is : n ≡ record s { entries = s.entries ++ entry_by client (Release v) ∷ [] }) where
  history_is : history n ≡ history s ++ Release v ∷ []
  history_is = ap (λ (x : MemoryState). history x) is ∙ map-append (λ (e : MemEntry). e.what) s.entries (entry_by client (Release v) ∷ [])

  pub fewer_held : first_held (history s) ≡ Some v
      → length (filter (λ w. holds_pages w (history n)) (range_with_len 1 (given_count (history n)))) < length (filter (λ w. holds_pages w (history s)) (range_with_len 1 (given_count (history s))))
  fewer_held first = subst (λ h. length (filter (λ w. holds_pages w h) (range_with_len 1 (given_count h))) < length (filter (λ w. holds_pages w (history s)) (range_with_len 1 (given_count (history s))))) (sym history_is) (held_fewer (history s) v first)

  pub pins_same : length (pins_left (history n)) ≡ length (pins_left (history s))
  pins_same = ap (λ h. length (pins_left h)) history_is ∙ pins_still (history s) v

releases_mine : (client : ℕ) (ids : List ℕ) → All (λ (e : MemEntry). e.hand ≡ client) (releases_by client ids)
releases_mine client [] = All-nil (λ (e : MemEntry). e.hand ≡ client)
releases_mine client (v ∷ ids) = All-cons (λ (e : MemEntry). e.hand ≡ client) (entry_by client (Release v)) (releases_by client ids) refl (releases_mine client ids)

-- what was released stands under the client's number
pub dropped_adds : (client : ℕ) (old new : MemoryState) (seat seat' : PoolSeat) → HasDropped client old new seat seat' → Adds (λ (e : MemEntry). e.hand) client old.entries new.entries
dropped_adds client old new seat seat' d = (releases_by client d.ids, ap (λ (s : MemoryState). s.entries) d.left, releases_mine client d.ids)
