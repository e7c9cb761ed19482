-- What the buffers' history lends to a record is what the client's log tells.
use Rattle.std.proofs.Common.{◌≡◌, ℕ, zero, suc, ◌+◌, ◌<◌, ◌≤◌, ◌==◌, Bool, true, false, nat_eq, nat_le, cond, if◌then◌else◌, List, [], ◌∷◌, ◌++◌, filter, filter_map, length, take, drop, Option, Some, None, refl, sym, ap, ◌∙◌, arith, append-nil, eq-eqb}
use Rattle.std.specs.Bool.{then_some}
use Rattle.std.specs.List.{cons_option, range_with_len, slice_get}
use Rattle.std.proofs.lemmas.Bool.{and_right, eqb-true}
use Rattle.std.proofs.lemmas.List.{map-append, take-append-drop, length-take-le}
use Rattle.std.proofs.lemmas.List.Elements.{filter_map-append}
use Rattle.host_model.specs.{Event, Attached, NotAttached, Filled, Shown, Sent, Received, Drained, Aborted, MemEntry, MemEvent, Attach, entry_after, is_client, lent_by, lent_in, told, map_after, given, given_before, sent}
use Rattle.host_model.proofs.Lent.{lent_in-told}
use Rattle.host_memory.specs.{attachment_by, events}
use Rattle.host_session.specs.{times}
use Rattle.host_session.proofs.Times.{range_once}
use Rattle.host_log.proofs.Bools.{never_true}

-- whether the entry attached a buffer before record i was sent
abbrev pub is_attached_for : ℕ → MemEvent → Bool
is_attached_for i (Attach id pages from) = nat_le from i
is_attached_for i _ = false

-- ---- a beginning of the history

get_right : {A : Type 0} (xs ys : List A) (n k : ℕ) → n ≡ length xs + k → slice_get (xs ++ ys) n ≡ slice_get ys k
get_right [] ys n k h = let e : n ≡ k = omega arith in ap (slice_get ys) e
get_right (x ∷ xs) ys zero k h = absurd (omega arith)
get_right (x ∷ xs) ys (suc n) k h = get_right xs ys n k (omega arith)

kept_few : {B : Type 0} (o : Option B) (l m : List B) → length l ≤ length m → length (cons_option o l) ≤ length (cons_option o m)
kept_few None l m h = h
kept_few (Some x) l m h = omega arith

pub few_before : {B : Type 0} (f : MemEvent → Option B) (xs : List MemEntry) (n : ℕ) → length (filter_map f (events (take n xs))) ≤ length (filter_map f (events xs))
few_before f [] zero = omega arith
few_before f [] (suc n) = omega arith
few_before f (x ∷ xs) zero = omega arith
few_before f (x ∷ xs) (suc n) = kept_few (f x.what) (filter_map f (events (take n xs))) (filter_map f (events xs)) (few_before f xs n)

not_lent : (i v : ℕ) (e : MemEvent) → is_attached_for i e ≡ false → lent_by i v e ≡ None
not_lent i v (Attach id pages from) h = ap (λ b. if b then Some pages else None) (and_right (id == v) (nat_le from i) h)
not_lent i v _ h = refl

none_lent : (i v : ℕ) (xs : List MemEntry) → ((k : ℕ) (e : MemEntry) → slice_get xs k ≡ Some e → is_attached_for i e.what ≡ true → ⊥) → filter_map (lent_by i v) (events xs) ≡ []
none_lent i v [] h = refl
none_lent i v (x ∷ xs) h =
    ap (λ o. cons_option o (filter_map (lent_by i v) (events xs))) (not_lent i v x.what (never_true (is_attached_for i x.what) (h 0 x refl)))
    ∙ none_lent i v xs (λ k e at. h (suc k) e at)

-- what is lent to a record stands below its memory front
pub lent_before : (i v n : ℕ) (whole : List MemEntry) → n ≤ length whole → ((k : ℕ) (e : MemEntry) → slice_get whole k ≡ Some e → is_attached_for i e.what ≡ true → k < n)
    → lent_in (events (take n whole)) i v ≡ lent_in (events whole) i v
lent_before i v n whole within fronts =
    let f = lent_by i v in let first = take n whole in let rest = drop n whole in
    let len = length-take-le n whole within in let all : first ++ rest ≡ whole = take-append-drop n whole in
    let none : filter_map f (events rest) ≡ [] = none_lent i v rest (λ k e at on.
    let there : slice_get whole (n + k) ≡ Some e = ap (λ l. slice_get l (n + k)) (sym all) ∙ (get_right first rest (n + k) k (omega arith) ∙ at) in
    let below = fronts (n + k) e there on in omega arith) in
    let joined : filter_map f (events whole) ≡ filter_map f (events first) =
    ap (λ l. filter_map f (events l)) (sym all) ∙ (ap (filter_map f) (map-append (λ (x : MemEntry). x.what) first rest)
    ∙ (filter_map-append f (events first) (events rest) ∙ (ap (λ l. filter_map f (events first) ++ l) none ∙ append-nil (filter_map f (events first))))) in
    ap (λ l. slice_get l 0) (sym joined)

-- ---- by the client's log

lent_client : (i v : ℕ) (h : List MemEvent) → filter_map (lent_by i v) h ≡ filter_map (lent_by i v) (filter is_client h)
lent_client i v [] = refl
lent_client i v (Attach id pages from ∷ es) = ap (λ l. cons_option (lent_by i v (Attach id pages from)) l) (lent_client i v es)
lent_client i v (_ ∷ es) = lent_client i v es

pub lent_by_log : (log : List Event) (h : List MemEvent) → filter is_client h ≡ told log → (i v : ℕ) → lent_in h i v ≡ given_before log i v
lent_by_log log h same i v = ap (λ l. slice_get l 0) (lent_client i v h ∙ ap (filter_map (lent_by i v)) same) ∙ lent_in-told log i v

-- ---- a buffer is attached once

pub attached_client : (v : ℕ) (h : List MemEvent) → filter_map (attachment_by v) h ≡ filter_map (attachment_by v) (filter is_client h)
attached_client v [] = refl
attached_client v (Attach id pages from ∷ es) = ap (λ l. cons_option (attachment_by v (Attach id pages from)) l) (attached_client v es)
attached_client v (_ ∷ es) = attached_client v es

pub eq_flip : (m n : ℕ) → (m == n) ≡ nat_eq n m
eq_flip m n = at (m == n) (nat_eq n m) refl refl
  where
    at : (b c : Bool) → (m == n) ≡ b → nat_eq n m ≡ c → b ≡ c
    at true true p q = refl
    at true false p q = absurd (let e : m ≡ n = eqb-true m n p in let z : true ≡ false = sym (eq-eqb n m (sym e)) ∙ q in cc)
    at false true p q = absurd (let e : n ≡ m = eqb-true n m q in let z : true ≡ false = sym (eq-eqb m n (sym e)) ∙ p in cc)
    at false false p q = refl

attached_told : (v : ℕ) (before log : List Event) → length (filter_map (attachment_by v) (map_after entry_after before log)) ≡ times v (given log)
attached_told v before [] = refl
attached_told v before (Attached pages id ∷ log) = step (id == v) (nat_eq v id) (eq_flip id v) (attached_told v (before ++ Attached pages id ∷ []) log)
  where
    step : (b c : Bool) → b ≡ c → length (filter_map (attachment_by v) (map_after entry_after (before ++ Attached pages id ∷ []) log)) ≡ times v (given log)
        → length (cons_option (then_some b (record { pages = pages; from = length (sent before) })) (filter_map (attachment_by v) (map_after entry_after (before ++ Attached pages id ∷ []) log))) ≡ length (cond c (id ∷ filter (nat_eq v) (given log)) (filter (nat_eq v) (given log)))
    step true true e g = ap suc g
    step true false e g = absurd (cc)
    step false true e g = absurd (cc)
    step false false e g = g
attached_told v before (NotAttached pages cause ∷ log) = attached_told v (before ++ NotAttached pages cause ∷ []) log
attached_told v before (Filled id block count byte true ∷ log) = attached_told v (before ++ Filled id block count byte true ∷ []) log
attached_told v before (Filled id block count byte false ∷ log) = attached_told v (before ++ Filled id block count byte false ∷ []) log
attached_told v before (Shown id block count true bytes ∷ log) = attached_told v (before ++ Shown id block count true bytes ∷ []) log
attached_told v before (Shown id block count false bytes ∷ log) = attached_told v (before ++ Shown id block count false bytes ∷ []) log
attached_told v before (Sent index bytes ∷ log) = attached_told v (before ++ Sent index bytes ∷ []) log
attached_told v before (Received bytes ∷ log) = attached_told v (before ++ Received bytes ∷ []) log
attached_told v before (Drained ∷ log) = attached_told v (before ++ Drained ∷ []) log
attached_told v before (Aborted ∷ log) = attached_told v (before ++ Aborted ∷ []) log

pub attached_times : (v : ℕ) (log : List Event) (h : List MemEvent) → filter is_client h ≡ told log → length (filter_map (attachment_by v) h) ≡ times v (given log)
attached_times v log h same = ap length (attached_client v h ∙ ap (filter_map (attachment_by v)) same) ∙ attached_told v [] log

pub attached_once : (v : ℕ) (log : List Event) (h : List MemEvent) → filter is_client h ≡ told log → given log ≡ range_with_len 1 (length (given log)) → length (filter_map (attachment_by v) h) ≤ 1
attached_once v log h same ids =
    let e : length (filter_map (attachment_by v) h) ≡ times v (given log) = attached_times v log h same in
    let f : times v (given log) ≡ times v (range_with_len 1 (length (given log))) = ap (times v) ids in
    omega (arith, e, f, range_once v 1 (length (given log)))
