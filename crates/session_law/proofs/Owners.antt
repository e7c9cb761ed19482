-- Which record each entry of a session's buffers belongs to, and between which fronts it stands.
use Rattle.std.proofs.Common.{◌≡◌, ◌⊎◌, inl, inr, ℕ, zero, suc, ◌+◌, ◌<◌, ◌≤◌, ◌==◌, Bool, true, false, nat_lt, List, [], ◌∷◌, ◌++◌, filter, length, map, take, Option, Some, None, refl, sym, ap, ◌∙◌, arith, eq-eqb}
use Rattle.std.specs.Prelude.{is_some, unwrap_or}
use Rattle.std.specs.List.{slice_get}
use Rattle.std.proofs.lemmas.Bool.{eqb-true, ltb-false, ltb-true}
use Rattle.std.proofs.lemmas.List.{length-map}
use Rattle.std.proofs.lemmas.Option.{get_or_from_slice_get}
use Rattle.host_block.proofs.Places.{from_take, in_map, within}
use Rattle.host_record.specs.{Drain, Opcode, Read, Write, Flush, Trim, Close, is_close, opcode, request_of}
use Rattle.host_record.specs.declared.request.Request.{Request}
use Rattle.host_model.specs.{Event, Drained, MemEntry, MemEvent, Attach, Fill, Show, Pin, Lift, Land, Done, Release, Accepted, Refused, given_before, request_at, requests, sent, owner, index_of, is_end, close_in, close_of, closes, verdict_after, verdicts_on}
use Rattle.host_model.specs.declared.memory.MemEvent.TheVariants as mem
use Rattle.host_model.specs.declared.verdict.Verdict.{Verdict}
use Rattle.host_model.specs.Session.{Session}
use Rattle.host_memory.specs.{closer_of, is_numbered, events}
use Rattle.host_log.specs.{entries_of}
use Rattle.host_intake.specs.{Taking, place_of, request_in, requests_of, left_by, made, made_for, made_under, under}
use Rattle.host_intake.proofs.Readiness.{all_at}
use Rattle.host_session.specs.{SessionHand, Act, before_drained, fronts_after, log_of, ClientState, ends_logged, is_drained, is_by_client, is_release}
use Rattle.session_law.specs.{EndsDrained, IsSessionGathered, ReleaseClosed}
use Rattle.session_law.proofs.Closers.{IsClosing, close_found, close_is, closes_by, closing_from, closing_says, verdict_there}
use Rattle.session_law.proofs.Drained.{before_drain}
use Rattle.session_law.proofs.Gathered.{closed, course, index_is, requests_are, taken_few, taken_whole, ts_of}
use Rattle.session_law.proofs.Own.{IsOwn, own_place}
use Rattle.host_log.proofs.Places.{in_filter}
use Rattle.session_law.proofs.Released.{close_place, event_at, left_at, none_there, one_release, released_closed}
use Rattle.session_law.proofs.Taken.{row_count, sent_verdicts, taken_verdicts}

-- ---- one entry

pub owner_cases : (s : Session) (w : MemEvent) (r : ℕ) → owner s w ≡ Some r → (index_of w ≡ Some r) ⊎ ((v : ℕ) × (w ≡ Release v) × (close_of s.log s.range v ≡ Some r))
owner_cases s (Release v) r e = inr (v, refl, e)
owner_cases s (Attach id pages from) r e = inl e
owner_cases s (Fill id block count byte) r e = inl e
owner_cases s (Show id block count) r e = inl e
owner_cases s (Pin index id by) r e = inl e
owner_cases s (Lift index k id block bytes) r e = inl e
owner_cases s (Land index k id block bytes) r e = inl e
owner_cases s (Done index id) r e = inl e
owner_cases s (mem.Close index id) r e = inl e

client_unnamed : (w : MemEvent) (i : ℕ) → is_by_client w ≡ true → index_of w ≡ Some i → ⊥
client_unnamed (Release v) i e f = cc
client_unnamed (Attach id pages from) i e f = cc
client_unnamed (Fill id block count byte) i e f = cc
client_unnamed (Show id block count) i e f = cc
client_unnamed (Pin index id by) i e f = cc
client_unnamed (Lift index k id block bytes) i e f = cc
client_unnamed (Land index k id block bytes) i e f = cc
client_unnamed (Done index id) i e f = cc
client_unnamed (mem.Close index id) i e f = cc

-- a close that a taking left is that of an accepted close
close_left : (number : ℕ) (vd : Verdict) (o : Option Opcode) (k id hand : ℕ) (waits : Bool) (i v : ℕ) (e : MemEntry) → slice_get (under number (made_under vd (made_for o k id hand waits))) 0 ≡ Some e → e.what ≡ mem.Close i v
    → (vd ≡ Accepted) × (is_close o ≡ true) × (id ≡ v)
close_left number (Refused s) o k id hand waits i v e at is = absurd (cc)
close_left number Accepted None k id hand waits i v e at is = absurd (cc)
close_left number Accepted (Some Flush) k id hand waits i v e at is = absurd (cc)
close_left number Accepted (Some Trim) k id hand waits i v e at is = absurd (cc)
close_left number Accepted (Some Read) k id hand waits i v e at is =
    let same : record { hand = number; what = Pin k id hand } ≡ e = ap (λ (x : Option MemEntry). unwrap_or x e) at in
    absurd (let z : Pin k id hand ≡ mem.Close i v = ap (λ (x : MemEntry). x.what) same ∙ is in cc)
close_left number Accepted (Some Write) k id hand waits i v e at is =
    let same : record { hand = number; what = Pin k id hand } ≡ e = ap (λ (x : Option MemEntry). unwrap_or x e) at in
    absurd (let z : Pin k id hand ≡ mem.Close i v = ap (λ (x : MemEntry). x.what) same ∙ is in cc)
close_left number Accepted (Some Close) k id hand true i v e at is =
    let same : record { hand = number; what = mem.Close k id } ≡ e = ap (λ (x : Option MemEntry). unwrap_or x e) at in
    let z : mem.Close k id ≡ mem.Close i v = ap (λ (x : MemEntry). x.what) same ∙ is in (refl, refl, cc)
close_left number Accepted (Some Close) k id hand false i v e at is =
    let same : record { hand = number; what = mem.Close k id } ≡ e = ap (λ (x : Option MemEntry). unwrap_or x e) at in
    let z : mem.Close k id ≡ mem.Close i v = ap (λ (x : MemEntry). x.what) same ∙ is in (refl, refl, cc)

-- what an accepted close left, where it didn't wait
close_made : (t : Taking) (v : ℕ) → IsClosing v (request_in t) t.verdict → t.waits ≡ false → made t ≡ mem.Close (place_of t) v ∷ Release v ∷ []
close_made t v c w = step t.verdict (opcode (request_in t)) t.waits c.accepted c.close w
  where
    step : (d : Verdict) (o : Option Opcode) (b : Bool) → d ≡ Accepted → is_close o ≡ true → b ≡ false → made_under d (made_for o (place_of t) (request_in t).vmoid t.hand b) ≡ mem.Close (place_of t) v ∷ Release v ∷ []
    step (Refused s) o b e f k = absurd (cc)
    step Accepted None b e f k = absurd (cc)
    step Accepted (Some Read) b e f k = absurd (cc)
    step Accepted (Some Write) b e f k = absurd (cc)
    step Accepted (Some Flush) b e f k = absurd (cc)
    step Accepted (Some Trim) b e f k = absurd (cc)
    step Accepted (Some Close) true e f k = absurd (cc)
    step Accepted (Some Close) false e f k = ap (λ n. mem.Close (place_of t) n ∷ Release n ∷ []) c.buffer

module _ (client : ClientState) (hands : List SessionHand) (h : List MemEntry) (s : Session) (g : IsSessionGathered client hands h s) (drained : EndsDrained client) (due : ReleaseClosed client.plan.hands h) where
  -- ---- verdicts and closes

  requests_many : length (requests s.log) ≡ length (sent s.log)
  requests_many = length-map (sent s.log) request_of

  verdict_is : (i : ℕ) (t : Taking) → slice_get (ts_of client hands h s g) i ≡ Some t → verdict_after (requests s.log) (given_before s.log) s.range (verdicts_on (requests s.log) (given_before s.log) s.range i) i ≡ t.verdict
  verdict_is i t at =
      let all : map verdict_of (ts_of client hands h s g) ≡ verdicts_on (requests s.log) (given_before s.log) s.range (length s.rows) = taken_verdicts client hands h s g drained due ∙ sent_verdicts client hands h s g drained due in
      let lt : i < length s.rows = let w = within (ts_of client hands h s g) i t at in let k = row_count client hands h s g drained due in omega (arith, w, k) in
      let a : slice_get (verdicts_on (requests s.log) (given_before s.log) s.range (length s.rows)) i ≡ Some t.verdict = ap (λ l. slice_get l i) (sym all) ∙ in_map (λ (x : Taking). x.verdict) (ts_of client hands h s g) i t at in
      ap (λ (o : Option Verdict). unwrap_or o t.verdict) (sym (verdict_there (requests s.log) (given_before s.log) s.range (length s.rows) i lt) ∙ a)
    where
      verdict_of : Taking → Verdict
      verdict_of x = x.verdict

  pub request_is : (i : ℕ) (t : Taking) → slice_get (ts_of client hands h s g) i ≡ Some t → request_at (requests s.log) i ≡ request_in t
  request_is i t at =
      let r = requests_are client hands h s g in
      let ts : List Taking = ts_of client hands h s g in
      ap (λ q. request_at q i) r.1
      ∙ get_or_from_slice_get (requests_of ts ++ r.0) i (request_in t) (request_of []) (front (requests_of ts) r.0 i (request_in t) (in_map request_in ts i t at))
    where
      front : (xs ys : List Request) (n : ℕ) (x : Request) → slice_get xs n ≡ Some x → slice_get (xs ++ ys) n ≡ Some x
      front [] ys zero x f = absurd (cc)
      front [] ys (suc n) x f = absurd (cc)
      front (y ∷ xs) ys zero x f = f
      front (y ∷ xs) ys (suc n) x f = front xs ys n x f

  taken_sent : (i : ℕ) (t : Taking) → slice_get (ts_of client hands h s g) i ≡ Some t → i < length (requests s.log)
  taken_sent i t at = let w = within (ts_of client hands h s g) i t at in let f = taken_few client hands h s g in let m = requests_many in omega (arith, w, f, m)

  closes_same : (i v : ℕ) (t : Taking) → slice_get (ts_of client hands h s g) i ≡ Some t → closes_by (requests s.log) (given_before s.log) s.range v i ≡ closes v (request_in t) t.verdict
  closes_same i v t at =
      ap (λ r. closes v r (verdict_after (requests s.log) (given_before s.log) s.range (verdicts_on (requests s.log) (given_before s.log) s.range i) i)) (request_is i t at)
      ∙ ap (closes v (request_in t)) (verdict_is i t at)

  close_same : (v : ℕ) → close_of s.log s.range v ≡ close_in v (requests s.log) (verdicts_on (requests s.log) (given_before s.log) s.range (length (requests s.log)))
  close_same v = ap (λ n. close_in v (requests s.log) (verdicts_on (requests s.log) (given_before s.log) s.range n)) (sym requests_many)

  -- the close that was taken is the one that the log tells
  pub close_taken : (i v : ℕ) (t : Taking) → slice_get (ts_of client hands h s g) i ≡ Some t → IsClosing v (request_in t) t.verdict → close_of s.log s.range v ≡ Some i
  close_taken i v t at c =
      close_same v ∙ close_is (requests s.log) (given_before s.log) s.range v i (taken_sent i t at) (closes_same i v t at ∙ closing_from v (request_in t) t.verdict c)

  pub close_says : (i v : ℕ) (t : Taking) → close_of s.log s.range v ≡ Some i → slice_get (ts_of client hands h s g) i ≡ Some t → IsClosing v (request_in t) t.verdict
  close_says i v t e at =
      let f = close_found (requests s.log) (given_before s.log) s.range v i (sym (close_same v) ∙ e) in
      closing_says v (request_in t) t.verdict (sym (closes_same i v t at) ∙ f.1)

  -- ---- who made an entry

  pub hand_is : (n : ℕ) (e : MemEntry) → slice_get h n ≡ Some e → (e.hand < client.plan.hands) ⊎ ((e.hand ≡ client.plan.hands) ⊎ (e.hand ≡ client.plan.hands + 1))
  hand_is n e at = step (nat_lt e.hand client.plan.hands) (nat_lt client.plan.hands e.hand) (nat_lt (client.plan.hands + 1) e.hand) refl refl refl
    where
      step : (a b c : Bool) → nat_lt e.hand client.plan.hands ≡ a → nat_lt client.plan.hands e.hand ≡ b → nat_lt (client.plan.hands + 1) e.hand ≡ c → (e.hand < client.plan.hands) ⊎ ((e.hand ≡ client.plan.hands) ⊎ (e.hand ≡ client.plan.hands + 1))
      step true b c x y z = inl (ltb-true e.hand client.plan.hands x)
      step false false c x y z = inr (inl (let p = ltb-false e.hand client.plan.hands x in let q = ltb-false client.plan.hands e.hand y in omega arith))
      step false true false x y z = inr (inr (let p = ltb-true client.plan.hands e.hand y in let q = ltb-false (client.plan.hands + 1) e.hand z in omega arith))
      step false true true x y z =
          let r = in_filter (λ (w : MemEntry). w.hand == e.hand) h n e at (eq-eqb e.hand e.hand refl) in
          absurd (none_there (entries_of (λ (w : MemEntry). w.hand) e.hand h) r.0 e (g.whole.memory_history.others e.hand (ltb-true (client.plan.hands + 1) e.hand z)) r.1)

  pub client_none : (n i : ℕ) (e : MemEntry) → slice_get h n ≡ Some e → e.hand ≡ client.plan.hands → index_of e.what ≡ Some i → ⊥
  client_none n i e at own is =
      let l : List MemEntry = entries_of (λ (w : MemEntry). w.hand) client.plan.hands h in
      let r = in_filter (λ (w : MemEntry). w.hand == client.plan.hands) h n e at (eq-eqb e.hand client.plan.hands own) in
      client_unnamed e.what i (all_at is_by_client (events l) g.whole.client_of.told.own r.0 e.what (event_at l r.0 e r.1)) is

  -- a close at the buffers is that of a record that was taken
  pub record IsCloseEntry (c i v : ℕ) : Type 0 where
    pub taking : Taking
    pub stands : slice_get (ts_of client hands h s g) i ≡ Some taking
    pub place : taking.seen ≡ c
    pub closing : IsClosing v (request_in taking) taking.verdict

  number_of_close : (n i v : ℕ) (w : MemEvent) → is_numbered client.plan.hands (client.plan.hands + 1) (record { hand = n; what = w }) ≡ true → w ≡ mem.Close i v → n ≡ client.plan.hands + 1
  number_of_close n i v w e is = eqb-true n (client.plan.hands + 1) (ap (λ x. is_numbered client.plan.hands (client.plan.hands + 1) (record { hand = n; what = x })) (sym is) ∙ e)

  own_index : (i n : ℕ) (e : MemEntry) (o : IsOwn client.plan.spec.part (client.plan.hands + 1) h (ts_of client hands h s g) (taken_whole client hands h s g) i n e) → slice_get (ts_of client hands h s g) i ≡ Some o.taking
  own_index i n e o = ap (slice_get (ts_of client hands h s g)) (sym (sym (index_is client hands h s g o.k o.taking o.stands) ∙ o.index)) ∙ o.stands

  pub close_entry : (c i v : ℕ) (e : MemEntry) → slice_get h c ≡ Some e → e.what ≡ mem.Close i v → IsCloseEntry c i v
  close_entry c i v e at what =
      let own : e.hand ≡ client.plan.hands + 1 = number_of_close e.hand i v e.what (all_at (is_numbered client.plan.hands (client.plan.hands + 1)) h g.whole.memory_history.numbers c e at) what in
      let o = own_place client.plan.spec.part (client.plan.hands + 1) h (ts_of client hands h s g) (taken_whole client hands h s g) c i e at own (ap index_of what) in
      let t : Taking = o.taking in
      let l = close_left (client.plan.hands + 1) t.verdict (opcode (request_in t)) (place_of t) (request_in t).vmoid t.hand t.waits i v e o.left what in
      record {
        taking = t;
        stands = own_index i c e o;
        place = sym o.place;
        closing = record { accepted = l.0; close = l.1; buffer = l.2 };
      }

  pub own_entry : (n i : ℕ) (e : MemEntry) → slice_get h n ≡ Some e → e.hand ≡ client.plan.hands + 1 → index_of e.what ≡ Some i → (t : Taking) × (slice_get (ts_of client hands h s g) i ≡ Some t) × (n ≡ t.seen) × (0 < length (made t))
  own_entry n i e at own is =
      let o = own_place client.plan.spec.part (client.plan.hands + 1) h (ts_of client hands h s g) (taken_whole client hands h s g) n i e at own is in
      (o.taking, own_index i n e o, o.place, o.some)

  -- a buffer that was released by another than the client had been closed by a record that was taken
  pub released_by_taken : (q v : ℕ) (e : MemEntry) → slice_get h q ≡ Some e → e.what ≡ Release v → (e.hand ≡ client.plan.hands) ⊎ ((c : ℕ) × (i : ℕ) × (c < q) × IsCloseEntry c i v)
  released_by_taken q v e at what = step (released_closed client.plan.spec.part (client.plan.hands + 1) h (ts_of client hands h s g) (taken_whole client hands h s g) client.plan.hands refl g.whole.memory_history.others due g.whole.memory_history.last q v e at what)
    where
      step : (e.hand ≡ client.plan.hands) ⊎ (is_some (closer_of v (events (take q h))) ≡ true) → (e.hand ≡ client.plan.hands) ⊎ ((c : ℕ) × (i : ℕ) × (c < q) × IsCloseEntry c i v)
      step (inl o) = inl o
      step (inr closed_first) =
          let c = close_place v (take q h) closed_first in
          let p = from_take h q c.1 c.2 c.3 in
          inr (c.1, c.0, p.1, close_entry c.1 c.0 v c.2 p.0 c.4)

  -- where the close of a record that was taken didn't wait, the buffer is released right behind it
  pub release_place : (p i v : ℕ) (e : MemEntry) (t : Taking) → slice_get h p ≡ Some e → e.what ≡ Release v → slice_get (ts_of client hands h s g) i ≡ Some t → IsClosing v (request_in t) t.verdict → t.waits ≡ false → (p ≡ t.seen + 1) × (1 < length (made t))
  release_place p i v e t at what stands c w =
      let m : made t ≡ mem.Close (place_of t) v ∷ Release v ∷ [] = close_made t v c w in
      let x : MemEntry = record { hand = client.plan.hands + 1; what = Release v } in
      let second : slice_get (left_by (client.plan.hands + 1) t) 1 ≡ Some (record { hand = client.plan.hands + 1; what = Release v }) = ap (λ l. slice_get (under (client.plan.hands + 1) l) 1) m in
      let there : slice_get h (t.seen + 1) ≡ Some (record { hand = client.plan.hands + 1; what = Release v }) = left_at client.plan.spec.part (client.plan.hands + 1) h (ts_of client hands h s g) (taken_whole client hands h s g) i t 1 (record { hand = client.plan.hands + 1; what = Release v }) stands second in
      (one_release h v p (t.seen + 1) e (record { hand = client.plan.hands + 1; what = Release v }) g.whole.memory_history.last at there what refl, (let n = ap length m in omega arith))

  -- ---- the client's own releases

  log_acts : client.log ≡ log_of g.whole.client_of.acts
  log_acts = sym (course client hands h s g).events_are

  logged : filter is_end (log_of g.whole.client_of.acts) ≡ ends_logged (Some s.finish) true
  logged = ap (filter is_end) (sym log_acts) ∙ (g.whole.client_of.kept.ended.logged ∙ (ap (λ o. ends_logged o client.closed) g.finish ∙ ap (ends_logged (Some s.finish)) (closed client hands h s g)))

  ends_so : s.finish ≡ Drain → (before : List Event) × (log_of g.whole.client_of.acts ≡ before ++ Drained ∷ [])
  ends_so e = let d = drained (ap is_drained (g.finish ∙ ap Some e)) in (d.0, sym log_acts ∙ d.1)

  -- stand past what any act knew that doesn't end the log
  pub late_release : (q v k : ℕ) (e : MemEntry) (a : Act) → slice_get h q ≡ Some e → e.hand ≡ client.plan.hands → e.what ≡ Release v → slice_get g.whole.client_of.acts k ≡ Some a → is_end a.event ≡ false → a.fronts.memory ≤ q
  late_release q v k e a at own what there no_end =
      let late = g.whole.client_of.late q e at own (ap is_release what) in
      let b = before_drain h g.whole.client_of.acts (course client hands h s g).each s.finish logged ends_so k a there no_end in
      let m : a.fronts.memory ≤ (fronts_after (before_drained g.whole.client_of.acts)).memory = b.memory in
      let l : (fronts_after (before_drained g.whole.client_of.acts)).memory ≤ q = late.0 in
      omega (arith, m, l)
