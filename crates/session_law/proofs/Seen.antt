-- What a beginning of the buffers' history has of the client's entries.
use Rattle.std.proofs.Common.{◌≡◌, ℕ, zero, suc, ◌+◌, ◌<◌, ◌≤◌, ◌==◌, Bool, true, false, cond, List, [], ◌∷◌, ◌++◌, filter, filter_map, length, map, take, drop, Option, Some, None, refl, sym, ap, ◌∙◌, arith}
use Rattle.std.specs.Bool.{then_some}
use Rattle.std.specs.List.{cons_option, slice_get}
use Rattle.std.specs.Option.{option_map, option_map_or}
use Rattle.std.proofs.lemmas.List.{take-append-drop, take_at}
use Rattle.std.proofs.lemmas.Option.{slice_get-map}
use Rattle.host_memory.specs.{Attachment, attachment_by, attachment_of, has_blocks, is_released}
use Rattle.host_model.specs.{Event, Attached, NotAttached, Filled, Shown, Sent, Received, Drained, Aborted, MemEvent, is_in_buffer, entry_after, is_client, told, map_after, places_from, pages_given, pages_of, sent, is_within}
use Rattle.host_session.specs.{Act, entry_place, log_of}
use Rattle.session_law.proofs.Lending.{attached_client}
use Rattle.session_law.proofs.Places.{unrank}
use Rattle.session_law.proofs.Spots.{told_count}
use Rattle.host_session.proofs.Snoc.{map_after-append}

-- ---- those that pass, up to a place

module _ {A : Type 0} (p : A → Bool) where
  not_before : (a : ℕ) (xs : List A) (j m : ℕ) → slice_get (places_from a p xs) j ≡ Some m → a ≤ m
  not_before a xs j m at = let u = unrank p a xs j m at in let e = u.2 in omega arith

  pub cut_places : (xs : List A) (a n : ℕ) (these those : List ℕ) → places_from a p xs ≡ these ++ those → ((j m : ℕ) → slice_get these j ≡ Some m → m < a + n) → ((j m : ℕ) → slice_get those j ≡ Some m → a + n ≤ m)
      → filter p (take n xs) ≡ take (length these) (filter p xs)
  cut_places [] a zero these those e early late = none_of (length these)
    where
      none_of : (k : ℕ) → [] ≡ take {A = A} k []
      none_of zero = refl
      none_of (suc k) = refl
  cut_places [] a (suc n) these those e early late = none_of (length these)
    where
      none_of : (k : ℕ) → [] ≡ take {A = A} k []
      none_of zero = refl
      none_of (suc k) = refl
  cut_places (x ∷ xs) a zero [] those e early late = refl
  cut_places (x ∷ xs) a zero (m ∷ these) those e early late =
      absurd (let f = not_before a (x ∷ xs) 0 m (ap (λ l. slice_get l 0) e) in let g = early 0 m refl in omega arith)
  cut_places (x ∷ xs) a (suc n) these those e early late = step (p x) these e early (λ l f g k. cut_places xs (a + 1) n l those f g k)
    where
      step : (b : Bool) (these : List ℕ) → cond b (a ∷ places_from (a + 1) p xs) (places_from (a + 1) p xs) ≡ these ++ those → ((j m : ℕ) → slice_get these j ≡ Some m → m < a + suc n)
          → ((l : List ℕ) → places_from (a + 1) p xs ≡ l ++ those → ((j m : ℕ) → slice_get l j ≡ Some m → m < a + 1 + n) → ((j m : ℕ) → slice_get those j ≡ Some m → a + 1 + n ≤ m) → filter p (take n xs) ≡ take (length l) (filter p xs))
          → cond b (x ∷ filter p (take n xs)) (filter p (take n xs)) ≡ take (length these) (cond b (x ∷ filter p xs) (filter p xs))
      step true [] f g more = absurd (let q = late 0 a (ap (λ l. slice_get l 0) (sym f)) in omega arith)
      step true (m ∷ l) f g more =
          ap (λ r. x ∷ r) (more l (tail_is a m (places_from (a + 1) p xs) (l ++ those) f) (λ j k at. let q = g (suc j) k at in omega arith) (λ j k at. let q = late j k at in omega arith))
        where
          tail_is : (y z : ℕ) (ys zs : List ℕ) → y ∷ ys ≡ z ∷ zs → ys ≡ zs
          tail_is y z ys zs t = cc
      step false l f g more = more l f (λ j k at. let q = g j k at in omega arith) (λ j k at. let q = late j k at in omega arith)

-- ---- what is told of a log and more

pub told_first : (acts : List Act) (n : ℕ) → take (length (filter_map entry_place (take n acts))) (told (log_of acts)) ≡ told (log_of (take n acts))
told_first acts n =
    let l : ℕ = length (filter_map entry_place (take n acts)) in
    ap (λ a. take (length (filter_map entry_place (take n acts))) (told (log_of a))) (sym (take-append-drop n acts))
    ∙ (ap (λ x. take (length (filter_map entry_place (take n acts))) (told x)) (log_both (take n acts) (drop n acts))
    ∙ (ap (take (length (filter_map entry_place (take n acts)))) (map_after-append entry_after [] (log_of (take n acts)) (log_of (drop n acts)))
    ∙ take_at (told (log_of (take n acts))) (map_after entry_after (log_of (take n acts)) (log_of (drop n acts))) (length (filter_map entry_place (take n acts))) (told_count (take n acts) [])))
  where
    log_both : (xs ys : List Act) → log_of (xs ++ ys) ≡ log_of xs ++ log_of ys
    log_both [] ys = refl
    log_both (x ∷ xs) ys = ap (λ r. x.event ∷ r) (log_both xs ys)

drop_here : {A : Type 0} (xs : List A) (n : ℕ) (x : A) → slice_get xs n ≡ Some x → drop n xs ≡ x ∷ drop (suc n) xs
drop_here [] zero x at = absurd (cc)
drop_here [] (suc n) x at = absurd (cc)
drop_here (y ∷ ys) zero x at = let same : y ≡ x = cc in ap (λ z. z ∷ ys) same
drop_here (y ∷ ys) (suc n) x at = drop_here ys n x at

-- the entry of an act is told after those of the acts before it
pub told_here : (acts : List Act) (n : ℕ) (a : Act) (w : MemEvent) → slice_get acts n ≡ Some a → entry_after (log_of (take n acts)) a.event ≡ Some w → slice_get (told (log_of acts)) (length (filter_map entry_place (take n acts))) ≡ Some w
told_here acts n a w at is =
    ap (λ x. slice_get (told (log_of x)) (length (filter_map entry_place (take n acts)))) (sym (take-append-drop n acts) ∙ ap (λ r. take n acts ++ r) (drop_here acts n a at))
    ∙ (ap (λ x. slice_get (told x) (length (filter_map entry_place (take n acts)))) (log_both (take n acts) (a ∷ drop (suc n) acts))
    ∙ (ap (λ l. slice_get l (length (filter_map entry_place (take n acts)))) (map_after-append entry_after [] (log_of (take n acts)) (a.event ∷ log_of (drop (suc n) acts)))
    ∙ (ap (λ k. slice_get (told (log_of (take n acts)) ++ cons_option (entry_after (log_of (take n acts)) a.event) (map_after entry_after (log_of (take n acts) ++ a.event ∷ []) (log_of (drop (suc n) acts)))) k) (sym (told_count (take n acts) []))
    ∙ (ap (λ o. slice_get (told (log_of (take n acts)) ++ cons_option o (map_after entry_after (log_of (take n acts) ++ a.event ∷ []) (log_of (drop (suc n) acts)))) (length (told (log_of (take n acts))))) is
    ∙ seam (told (log_of (take n acts))) w (map_after entry_after (log_of (take n acts) ++ a.event ∷ []) (log_of (drop (suc n) acts)))))))
  where
    log_both : (xs ys : List Act) → log_of (xs ++ ys) ≡ log_of xs ++ log_of ys
    log_both [] ys = refl
    log_both (x ∷ xs) ys = ap (λ r. x.event ∷ r) (log_both xs ys)

    seam : (xs : List MemEvent) (x : MemEvent) (ys : List MemEvent) → slice_get (xs ++ x ∷ ys) (length xs) ≡ Some x
    seam [] x ys = refl
    seam (y ∷ xs) x ys = seam xs x ys

-- ---- buffers

pages_told : (v : ℕ) (before log : List Event) → filter_map (pages_of v) log ≡ map (λ (a : Attachment). a.pages) (filter_map (attachment_by v) (map_after entry_after before log))
pages_told v before [] = refl
pages_told v before (Attached pages id ∷ log) = step (id == v) (pages_told v (before ++ Attached pages id ∷ []) log)
  where
    step : (b : Bool) → filter_map (pages_of v) log ≡ map (λ (a : Attachment). a.pages) (filter_map (attachment_by v) (map_after entry_after (before ++ Attached pages id ∷ []) log))
        → cons_option (cond b (Some pages) None) (filter_map (pages_of v) log) ≡ map (λ (a : Attachment). a.pages) (cons_option (then_some b (record { pages = pages; from = length (sent before) })) (filter_map (attachment_by v) (map_after entry_after (before ++ Attached pages id ∷ []) log)))
    step true e = ap (λ l. pages ∷ l) e
    step false e = e
pages_told v before (NotAttached pages cause ∷ log) = pages_told v (before ++ NotAttached pages cause ∷ []) log
pages_told v before (Filled id block count byte true ∷ log) = pages_told v (before ++ Filled id block count byte true ∷ []) log
pages_told v before (Filled id block count byte false ∷ log) = pages_told v (before ++ Filled id block count byte false ∷ []) log
pages_told v before (Shown id block count true bytes ∷ log) = pages_told v (before ++ Shown id block count true bytes ∷ []) log
pages_told v before (Shown id block count false bytes ∷ log) = pages_told v (before ++ Shown id block count false bytes ∷ []) log
pages_told v before (Sent index bytes ∷ log) = pages_told v (before ++ Sent index bytes ∷ []) log
pages_told v before (Received bytes ∷ log) = pages_told v (before ++ Received bytes ∷ []) log
pages_told v before (Drained ∷ log) = pages_told v (before ++ Drained ∷ []) log
pages_told v before (Aborted ∷ log) = pages_told v (before ++ Aborted ∷ []) log

pub given_pages : (v : ℕ) (log : List Event) (h : List MemEvent) → filter is_client h ≡ told log → pages_given v log ≡ option_map (λ (a : Attachment). a.pages) (attachment_of v h)
given_pages v log h same =
    ap (λ l. slice_get l 0) (pages_told v [] log)
    ∙ (slice_get-map (λ (a : Attachment). a.pages) (filter_map (attachment_by v) (told log)) 0
    ∙ ap (λ l. option_map (λ (a : Attachment). a.pages) (slice_get l 0)) (ap (filter_map (attachment_by v)) (sym same) ∙ sym (attached_client v h)))

-- a buffer that isn't released has the blocks that the log tells
pub blocks_told : (v block count : ℕ) (log : List Event) (h : List MemEvent) → filter is_client h ≡ told log → is_released v h ≡ false → has_blocks v h block count ≡ is_in_buffer log v block count
blocks_told v block count log h same held =
    ap (λ b. option_map_or (is_within block count) (cond b None (option_map_or (λ (a : Attachment). Some a.pages) (attachment_of v h) None)) false) held
    ∙ (either (attachment_of v h) ∙ ap (λ o. option_map_or (λ pages. is_within block count pages) o false) (sym (given_pages v log h same)))
  where
    either : (o : Option Attachment) → option_map_or (is_within block count) (option_map_or (λ (a : Attachment). Some a.pages) o None) false ≡ option_map_or (λ pages. is_within block count pages) (option_map (λ (a : Attachment). a.pages) o) false
    either None = refl
    either (Some a) = refl

pub blocks_held : (v block count : ℕ) (h : List MemEvent) → has_blocks v h block count ≡ true → is_released v h ≡ false
blocks_held v block count h e = step (is_released v h) e
  where
    step : (b : Bool) → option_map_or (is_within block count) (cond b None (option_map_or (λ (a : Attachment). Some a.pages) (attachment_of v h) None)) false ≡ true → b ≡ false
    step true f = absurd (cc)
    step false f = refl
