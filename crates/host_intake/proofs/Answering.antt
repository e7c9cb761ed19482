-- What the hand is told of the record that was taken.
use Rattle.std.proofs.Common.{◌≡◌, ℕ, zero, suc, ◌+◌, ◌-◌, ◌≤◌, ◌<◌, ◌==◌, Bool, true, false, not, ◌&&◌, nat_le, nat_lt, cond, List, [], ◌∷◌, ◌++◌, length, filter, filter_map, take, drop, Option, Some, None, MatchOption, refl, sym, ap, subst, ◌∙◌, arith, eq-eqb}
use Rattle.std.specs.Prelude.{slice_get, unwrap_or}
use Rattle.std.specs.Bool.{then_some}
use Rattle.std.specs.Option.{option_map_or}
use Rattle.std.proofs.lemmas.Bool.{lt-ltb, ltb-true, leb-true, ne_eqb}
use Rattle.std.proofs.lemmas.List.{map-append, take-append-drop, take-append-le}
use Rattle.std.proofs.lemmas.List.Elements.{filter_map-append}
use Rattle.std.specs.List.{list_any}
use Rattle.atomic_table.specs.Seated.{TableId}
use mathlib.Core.List.{IsPrefix}
use Rattle.host_block.specs.declared.range.Range.{Range}
use Rattle.host_frames.specs.{SeenPages}
use Rattle.host_record.specs.{opcode, is_close}
use Rattle.host_model.specs.{MemEntry, MemEvent, Accepted, Refused, below, count, is_accepted, judged}
use Rattle.host_model.specs.declared.verdict.Verdict.{Verdict}
use Rattle.host_memory.specs.{MemoryPlan, Attachment, attachment_by, attachment_of, closer_of, is_before_close, is_block_of, is_released, pages_for, page_count_of, standing_in, ArePagesOf, events}
use Rattle.host_group.specs.{CellSeat}
use Rattle.host_rings.specs.{Envelope}
use Rattle.host_turn.specs.{fixed_part, seen_by}
use Rattle.host_intake.specs.{Waiting, AreBlocksSeen, ArePagesClosed, GivesSeenPages, HasTaken, IsAdmitted, IsRightOut, IsTakenOrStalled, admission_of, Taking, Landing, place_of, request_in, IntakeState, MemorySeat, IsJudged, judged_on, is_open, AreWaiting, IsRecordWaiting, is_waiting_at}
use Rattle.host_intake.proofs.Accepting.{accepted_within}
use Rattle.host_intake.proofs.Counting.{but_for, count_cut}
use Rattle.host_intake.proofs.Removing.{none_any}
use Rattle.host_log.proofs.Bools.{or_left, or_right, and_left, and_right}

-- ---- blocks

block_of : (released before : Bool) (o : Option Attachment) (i block : ℕ) → block < unwrap_or (cond released None (cond before (option_map_or (pages_for i) o None) None)) 0 → option_map_or (λ (a : Attachment). nat_lt block a.pages) o false ≡ true
block_of true before o i block h = absurd (omega arith)
block_of false false o i block h = absurd (omega arith)
block_of false true None i block h = absurd (omega arith)
block_of false true (Some a) i block h = step (nat_le a.from i) h
  where
    step : (b : Bool) → block < unwrap_or (then_some b a.pages) 0 → nat_lt block a.pages ≡ true
    step true h = lt-ltb block a.pages h
    step false h = absurd (omega arith)

-- a block of a buffer that stands
stands_block : (v i block : ℕ) (h : List MemEvent) → block < unwrap_or (standing_in v i h) 0 → is_block_of v h block ≡ true
stands_block v i block h b = block_of (is_released v h) (is_before_close i (closer_of v h)) (attachment_of v h) i block b

first_stays : (xs ys : List Attachment) (block : ℕ) → option_map_or (λ (a : Attachment). nat_lt block a.pages) (slice_get xs 0) false ≡ true → option_map_or (λ (a : Attachment). nat_lt block a.pages) (slice_get (xs ++ ys) 0) false ≡ true
first_stays [] ys block h = absurd (cc)
first_stays (x ∷ xs) ys block h = h

-- a block of a buffer stays one
pub block_later : (v block : ℕ) (h more : List MemEvent) → is_block_of v h block ≡ true → is_block_of v (h ++ more) block ≡ true
block_later v block h more e =
    ap (λ (l : List Attachment). option_map_or (λ (a : Attachment). nat_lt block a.pages) (slice_get l 0) false) (filter_map-append (attachment_by v) h more) ∙ first_stays (filter_map (attachment_by v) h) (filter_map (attachment_by v) more) block e

pub blocks_seen : (part : Range) (n : ℕ) (seat : MemorySeat) (t : Taking) → IsJudged part n (seen_by seat) t → t.verdict ≡ Accepted → AreBlocksSeen seat (request_in t)
blocks_seen part n seat t k accepted transfer b less =
    let r = request_in t in let h = judged_on (seen_by seat) t in
    let yes : judged part (standing_in r.vmoid (place_of t) h) r ≡ Accepted = sym k.verdict ∙ accepted in
    let within = accepted_within part (standing_in r.vmoid (place_of t) h) r yes transfer in
    let pages = unwrap_or (standing_in r.vmoid (place_of t) h) 0 in
    let long = leb-true r.length pages (and_left (nat_le r.length pages) (nat_le r.vmo_offset (pages - r.length)) within) in
    let from = leb-true r.vmo_offset (pages - r.length) (and_right (nat_le r.length pages) (nat_le r.vmo_offset (pages - r.length)) within) in
    let at = stands_block r.vmoid (place_of t) (r.vmo_offset + b) h (omega arith) in
    subst (λ (l : List MemEntry). is_block_of r.vmoid (events l) (r.vmo_offset + b) ≡ true) (take-append-drop t.seen (seen_by seat))
    (subst (λ (l : List MemEvent). is_block_of r.vmoid l (r.vmo_offset + b) ≡ true) (sym (map-append (λ (e : MemEntry). e.what) (take t.seen (seen_by seat)) (drop t.seen (seen_by seat))))
    (block_later r.vmoid (r.vmo_offset + b) h (events (drop t.seen (seen_by seat))) at))

-- ---- pages, as the hand's seat has seen them

pub pages_told : (from to : MemorySeat) (t : Taking) (pages : Option SeenPages) → fixed_part from ≡ fixed_part to → IsPrefix (seen_by from) (seen_by to) → t.seen ≤ length (seen_by from) → GivesSeenPages from t pages → GivesSeenPages to t pages
pages_told from to t pages fixed p seen m = (m.0, of_pages pages m.1)
  where
    same : judged_on (seen_by from) t ≡ judged_on (seen_by to) t
    same = ap events (sym (ap (λ l. take t.seen l) (sym p.1) ∙ take-append-le t.seen (seen_by from) p.0 seen))

    of_pages : (pages : Option SeenPages) → MatchOption pages (Unit {0}) (λ p. ArePagesClosed from t p) → MatchOption pages (Unit {0}) (λ p. ArePagesClosed to t p)
    of_pages None m = tt
    of_pages (Some q) m =
        subst (λ (o : Option MemoryPlan). MatchOption o ⊥ (λ plan. let v = (request_in t).vmoid in let h = judged_on (seen_by to) t in ArePagesOf plan.pool plan.limits.size h v (page_count_of v h) q)) fixed
        (subst (λ h. MatchOption (fixed_part from) ⊥ (λ plan. let v = (request_in t).vmoid in ArePagesOf plan.pool plan.limits.size h v (page_count_of v h) q)) same m)

-- ---- the answer

accepted_where : (v : Verdict) (b c : Bool) → (is_accepted v && b && c) ≡ true → v ≡ Accepted
accepted_where Accepted b c e = refl
accepted_where (Refused s) b c e = absurd (cc)

not_now : (a b w : Bool) → w ≡ true → false ≡ (a && b && not w)
not_now true true w e = sym (ap not e)
not_now true false w e = refl
not_now false b w e = refl

module _ (hand : ℕ) (old new : IntakeState) (seat : MemorySeat) (e : Envelope) (t : Taking) (part : Range) (n : ℕ) (taken : HasTaken old new seat e t) (by : t.hand ≡ hand) (known : IsJudged part n (seen_by seat) t) where
  -- a close that waits
  pub told_waiting : t.waits ≡ true → length new.waiting ≡ length old.waiting + 1 → (x : Taking) × IsAdmitted hand old new seat e None None x
  told_waiting waits more =
      let accepted = accepted_where t.verdict _ _ (sym known.waits ∙ waits) in (
        t,
        record {
          taken = taken;
          by = by;
          verdict = accepted;
          blocks = blocks_seen part n seat t known accepted;
          pages_out = (not_now (is_accepted t.verdict) (is_close (opcode (request_in t))) t.waits waits, tt);
          right_out = (λ f. absurd (let z : false ≡ true = sym f ∙ waits in cc), λ y. (refl, more));
        },
      )

  -- any other record
  pub told_answer : (pages : Option SeenPages) (right : Option CellSeat) → GivesSeenPages seat t pages → IsRightOut old new t right → IsTakenOrStalled hand old new seat e (admission_of t.verdict e pages right)
  told_answer pages right has out = step t.verdict refl
    where
      step : (v : Verdict) → t.verdict ≡ v → IsTakenOrStalled hand old new seat e (admission_of v e pages right)
      step Accepted is = (refl, (t, record { taken = taken; by = by; verdict = is; blocks = blocks_seen part n seat t known is; pages_out = has; right_out = out }))
      step (Refused status) is = (refl, (t, record { taken = taken; by = by; verdict = is; right_out = out }))

-- ---- how many closes wait

fewer_waiting : (ws : List Waiting) (p : ℕ → Bool) (n : ℕ) → ((k : ℕ) (w : Waiting) → slice_get ws k ≡ Some w → (w.envelope.index < n) × (p w.envelope.index ≡ true)) → ((i : ℕ) → count (is_waiting_at i) ws ≤ 1) → length ws ≤ count p (below n)
fewer_waiting [] p n h apart = omega arith
fewer_waiting (w ∷ ws) p n h apart =
    let i = w.envelope.index in let here = h 0 w refl in
    let c = count_cut p i n here.0 here.1 in
    let rest = fewer_waiting ws (but_for i p) n (λ k x e. let b = h (suc k) x e in (b.0, ap (λ z. z && not (i == x.envelope.index)) b.1 ∙ ap not (others k x e))) (λ j. let a = apart j in let l = loses w (is_waiting_at j w) (filter (is_waiting_at j) ws) in omega arith) in
    omega arith
  where
    loses : (x : Waiting) (b : Bool) (l : List Waiting) → length l ≤ length (cond b (x ∷ l) l)
    loses x true l = omega arith
    loses x false l = omega arith

    first_counted : (b : Bool) (l : List Waiting) → b ≡ true → length (cond b (w ∷ l) l) ≤ 1 → length l ≡ 0
    first_counted true l e one = omega arith
    first_counted false l e one = absurd (cc)

    none_else : list_any (is_waiting_at w.envelope.index) ws ≡ false
    none_else = none_any (is_waiting_at w.envelope.index) ws (first_counted (is_waiting_at w.envelope.index w) (filter (is_waiting_at w.envelope.index) ws) (eq-eqb w.envelope.index w.envelope.index refl) (apart w.envelope.index))

    others : (k : ℕ) (x : Waiting) → slice_get ws k ≡ Some x → (w.envelope.index == x.envelope.index) ≡ false
    others k x e = ne_eqb w.envelope.index x.envelope.index (λ z. absurd (let f = any_at (is_waiting_at w.envelope.index) ws k x e none_else in let y = eq-eqb x.envelope.index w.envelope.index (sym z) in let q : false ≡ true = sym f ∙ y in cc))
      where
        any_at : (f : Waiting → Bool) (l : List Waiting) (k : ℕ) (x : Waiting) → slice_get l k ≡ Some x → list_any f l ≡ false → f x ≡ false
        any_at f [] zero x e none = absurd (cc)
        any_at f [] (suc k) x e none = absurd (cc)
        any_at f (y ∷ l) zero x e none = subst (λ z. f z ≡ false) (ap (λ (o : Option Waiting). unwrap_or o y) e) (or_left (f y) (list_any f l) none)
        any_at f (y ∷ l) (suc k) x e none = any_at f l k x e (or_right (f y) (list_any f l) none)

pub waiting_few : (cells : TableId) (ts : List Taking) (ls : List Landing) (ws : List Waiting) → AreWaiting cells ts ls ws → length ws ≤ count (is_open ls) (below (length ts))
waiting_few cells ts ls ws w = fewer_waiting ws (is_open ls) (length ts) (λ k x e. out x (slice_get ts x.envelope.index) (w.each k x e)) w.apart
  where
    out : (x : Waiting) (o : Option Taking) → MatchOption o ⊥ (λ u. IsRecordWaiting cells ts ls x u) → (x.envelope.index < length ts) × (is_open ls x.envelope.index ≡ true)
    out x None m = absurd m
    out x (Some u) m = (ltb-true x.envelope.index (length ts) (and_left (nat_lt x.envelope.index (length ts)) (is_open ls x.envelope.index) m.flying), and_right (nat_lt x.envelope.index (length ts)) (is_open ls x.envelope.index) m.flying)
