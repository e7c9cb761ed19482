-- Places of filtered lists, and of the events of a log.
use Rattle.std.proofs.Common.{◌≡◌, ℕ, zero, suc, ◌-◌, ◌<◌, Bool, true, false, cond, List, [], ◌∷◌, ◌++◌, length, filter, filter_map, take, drop, Option, Some, None, refl, sym, ap, ◌∙◌, arith}
use Rattle.std.specs.Prelude.{Contains, is_some}
use Rattle.std.specs.List.{cons_option, slice_get, slice_index_or}
use Rattle.std.proofs.lemmas.List.{take-append-drop, take_at}
use Rattle.std.proofs.lemmas.List.Elements.{filter_map-append}
use Rattle.host_model.specs.{Event, Attached, NotAttached, Filled, Shown, Sent, Received, Drained, Aborted, MemEvent, entry_after, count, map_after, before_sent, sending, sent, sent_bytes}
use Rattle.host_session.specs.{Act, entry_place, has_entry, log_of}
use Rattle.session_law.proofs.Sending.{entry_there, sent_until}
use Rattle.session_law.proofs.Sums.{bit, count_one}

module _ {A : Type 0} where
  pub in_contains : (xs : List A) (x : A) → Contains xs x → (k : ℕ) × (slice_get xs k ≡ Some x)
  in_contains xs x c = (c.0, at xs c.0 x c.1 c.2)
    where
      at : (ys : List A) (k : ℕ) (x : A) → k < length ys → slice_index_or ys k x ≡ x → slice_get ys k ≡ Some x
      at [] k x lt e = absurd (omega arith)
      at (y ∷ ys) zero x lt e = ap Some e
      at (y ∷ ys) (suc k) x lt e = at ys k x (omega arith) e

  -- where an element stands that was kept
  pub filter_at : (p : A → Bool) (xs : List A) (j : ℕ) (x : A) → slice_get (filter p xs) j ≡ Some x → (n : ℕ) × (slice_get xs n ≡ Some x) × (p x ≡ true) × (j ≡ count p (take n xs))
  filter_at p [] zero x at = absurd (cc)
  filter_at p [] (suc j) x at = absurd (cc)
  filter_at p (y ∷ ys) j x at = step (p y) refl j at (λ i e. filter_at p ys i x e)
    where
      step : (b : Bool) → p y ≡ b → (j : ℕ) → slice_get (cond b (y ∷ filter p ys) (filter p ys)) j ≡ Some x
          → ((i : ℕ) → slice_get (filter p ys) i ≡ Some x → (n : ℕ) × (slice_get ys n ≡ Some x) × (p x ≡ true) × (i ≡ count p (take n ys)))
          → (n : ℕ) × (slice_get (y ∷ ys) n ≡ Some x) × (p x ≡ true) × (j ≡ count p (take n (y ∷ ys)))
      step true t zero e more = let same : y ≡ x = cc in (0, e, ap p (sym same) ∙ t, refl)
      step true t (suc i) e more = let r = more i e in (suc r.0, r.1, r.2, (let c = count_one p y (take r.0 ys) in let b : bit (p y) ≡ 1 = ap bit t in let q = r.3 in omega (arith, c, b, q)))
      step false t i e more = let r = more i e in (suc r.0, r.1, r.2, (let c = count_one p y (take r.0 ys) in let b : bit (p y) ≡ 0 = ap bit t in let q = r.3 in omega (arith, c, b, q)))

  module _ {B : Type 0} (f : A → Option B) where
    split_told : (xs : List A) (n : ℕ) → filter_map f xs ≡ filter_map f (take n xs) ++ filter_map f (drop n xs)
    split_told xs n = ap (filter_map f) (sym (take-append-drop n xs)) ∙ filter_map-append f (take n xs) (drop n xs)

    pub take_told : (xs : List A) (n : ℕ) → take (length (filter_map f (take n xs))) (filter_map f xs) ≡ filter_map f (take n xs)
    take_told xs n = ap (take (length (filter_map f (take n xs)))) (split_told xs n) ∙ take_at (filter_map f (take n xs)) (filter_map f (drop n xs)) (length (filter_map f (take n xs))) refl

-- ---- entries told

-- as many entries are told as acts have a place
pub told_count : (acts : List Act) (before : List Event) → length (map_after entry_after before (log_of acts)) ≡ length (filter_map entry_place acts)
told_count [] before = refl
told_count (x ∷ acts) before = step (has_entry x.event) (entry_after before x.event) refl (entry_there before x.event) (told_count acts (before ++ x.event ∷ []))
  where
    step : (b : Bool) (o : Option MemEvent) → has_entry x.event ≡ b → is_some o ≡ has_entry x.event → length (map_after entry_after (before ++ x.event ∷ []) (log_of acts)) ≡ length (filter_map entry_place acts)
        → length (cons_option o (map_after entry_after (before ++ x.event ∷ []) (log_of acts))) ≡ length (cons_option (cond (has_entry x.event) (Some (x.fronts.memory - 1)) None) (filter_map entry_place acts))
    step true None p q e = absurd (let z : false ≡ true = q ∙ p in cc)
    step true (Some y) p q e = ap suc e ∙ sym (ap (λ b. length (cons_option (cond b (Some (x.fronts.memory - 1)) None) (filter_map entry_place acts))) p)
    step false None p q e = e ∙ sym (ap (λ b. length (cons_option (cond b (Some (x.fronts.memory - 1)) None) (filter_map entry_place acts))) p)
    step false (Some y) p q e = absurd (let z : true ≡ false = q ∙ p in cc)

-- ---- when a record was sent

quiet_before : (e : Event) (log : List Event) (i : ℕ) → sent_bytes e ≡ None → length (before_sent (e ∷ log) i) ≡ suc (length (before_sent log i))
quiet_before (Attached pages id) log i n = refl
quiet_before (NotAttached pages cause) log i n = refl
quiet_before (Filled id block c byte done) log i n = refl
quiet_before (Shown id block c done bytes) log i n = refl
quiet_before (Sent index bytes) log i n = absurd (cc)
quiet_before (Received bytes) log i n = refl
quiet_before Drained log i n = refl
quiet_before Aborted log i n = refl

first_before : (e : Event) (log : List Event) (b : List ℕ) → sent_bytes e ≡ Some b → length (before_sent (e ∷ log) 0) ≡ 0
first_before (Attached pages id) log b n = absurd (cc)
first_before (NotAttached pages cause) log b n = absurd (cc)
first_before (Filled id block c byte done) log b n = absurd (cc)
first_before (Shown id block c done bytes) log b n = absurd (cc)
first_before (Sent index bytes) log b n = refl
first_before (Received bytes) log b n = absurd (cc)
first_before Drained log b n = absurd (cc)
first_before Aborted log b n = absurd (cc)

next_before : (e : Event) (log : List Event) (b : List ℕ) (i : ℕ) → sent_bytes e ≡ Some b → length (before_sent (e ∷ log) (suc i)) ≡ suc (length (before_sent log i))
next_before (Attached pages id) log b i n = absurd (cc)
next_before (NotAttached pages cause) log b i n = absurd (cc)
next_before (Filled id block c byte done) log b i n = absurd (cc)
next_before (Shown id block c done bytes) log b i n = absurd (cc)
next_before (Sent index bytes) log b i n = refl
next_before (Received bytes) log b i n = absurd (cc)
next_before Drained log b i n = absurd (cc)
next_before Aborted log b i n = absurd (cc)

pub sending_is : (acts : List Act) (k i : ℕ) (a : Act) (b : List ℕ) → slice_get acts k ≡ Some a → sent_bytes a.event ≡ Some b → sent_until acts k ≡ i → sending (log_of acts) i ≡ k
sending_is [] zero i a b at is n = absurd (cc)
sending_is [] (suc k) i a b at is n = absurd (cc)
sending_is (x ∷ acts) zero i a b at is n =
    let same : x ≡ a = cc in
    let z : i ≡ 0 = omega arith in
    ap (λ j. length (before_sent (x.event ∷ log_of acts) j)) z ∙ first_before x.event (log_of acts) b (ap (λ (w : Act). sent_bytes w.event) same ∙ is)
sending_is (x ∷ acts) (suc k) i a b at is n = step (sent_bytes x.event) refl i n (λ j m. sending_is acts k j a b at is m)
  where
    step : (o : Option (List ℕ)) → sent_bytes x.event ≡ o → (i : ℕ) → length (cons_option o (sent (log_of (take k acts)))) ≡ i → ((j : ℕ) → sent_until acts k ≡ j → sending (log_of acts) j ≡ k) → length (before_sent (x.event ∷ log_of acts) i) ≡ suc k
    step None p i m more = quiet_before x.event (log_of acts) i p ∙ ap suc (more i m)
    step (Some y) p zero m more = absurd (omega arith)
    step (Some y) p (suc i) m more = next_before x.event (log_of acts) y i p ∙ ap suc (more i (omega arith))
