-- What is true of a client end stays true as it closes its session.
use Rattle.std.proofs.Common.{◌≡◌, ◌⊎◌, inl, inr, ⊎_elim, ℕ, zero, suc, ◌+◌, ◌-◌, ◌≤◌, ◌<◌, max, Bool, true, false, not, ◌||◌, cond, IsTrue, MatchBool, nat_lt, List, [], ◌∷◌, ◌++◌, length, filter, map, Some, refl, sym, ap, ap₂, subst, ◌∙◌, arith, append-nil}
use Rattle.std.specs.List.{list_all, list_any, slice_get}
use Rattle.std.proofs.lemmas.Bool.{eq-eqb, lt-ltb}
use Rattle.std.proofs.lemmas.List.{map-append}
use Rattle.std.proofs.lemmas.List.Folds.{list_all-append}
use Rattle.host_intake.specs.{IntakeEntry, Turned, Phase, landing_of, maker_of, taking_of, takings, IntakeState, MemorySeat, flights_in, is_ending, kept_slips, memory_front_in, seen_of, turns}
use Rattle.host_intake.specs.declared.entry.Phase.TheVariants as phase
use Rattle.host_group.specs.{greatest}
use Rattle.host_memory.specs.{is_numbered, pins_left, events}
use Rattle.host_frames.specs.{PoolSeat}
use Rattle.host_model.specs.{Event, MemEntry, Release, is_client, all_with_before, last, map_with_before, found_by}
use Rattle.host_record.specs.{Finish, Drain, Abort}
use Rattle.host_log.specs.{Continues, entries_of}
use Rattle.host_log.proofs.Histories.{prefix_refl}
use Rattle.host_turn.specs.{IsOutside, IsSameSeat, number, seen_by}
use Rattle.host_session.specs.{Act, AreLate, before_drained, fronts_after, is_drain_act, IntakeSeat, phase_for, FoundPin, HasClosedSession, HasNotClosed, HasReleasedIds, IsClosedInTurn, IsOpenInTurn, is_landed, is_unfinished, releases_by, IsClientTold, finds_blocks, is_by_client, is_release, IsVisit, entry_by}
use Rattle.host_session.proofs.Blocks.{found_rest}
use Rattle.host_model.proofs.ListTests.{and-from}
use Rattle.host_session.proofs.Keeping.{own_stands}
use Rattle.host_session.proofs.Snoc.{filter_rest, found_none, told_rest}
use Rattle.host_session.proofs.Turning.{same_seat, turned_more}
use Rattle.host_session.proofs.Visiting.{finds_none, own_append}

-- ---- the intake, once it was shut

module _ (es : List IntakeEntry) (c : ℕ) where
  pub flights_still : flights_in (es ++ Turned c phase.Closed ∷ []) ≡ flights_in es
  flights_still = ap₂ (λ a b. length a - length b) (found_none taking_of es (Turned c phase.Closed) refl) (found_none landing_of es (Turned c phase.Closed) refl)

  pub takings_still : takings (es ++ Turned c phase.Closed ∷ []) ≡ takings es
  takings_still = found_none taking_of es (Turned c phase.Closed) refl

  pub front_still : memory_front_in (es ++ Turned c phase.Closed ∷ []) ≡ memory_front_in es
  front_still = ap (λ ts. greatest (map seen_of ts)) takings_still

-- ---- the buffers, once they were released

pub none_client : (c : ℕ) (ids : List ℕ) → filter is_client (events (releases_by c ids)) ≡ []
none_client c [] = refl
none_client c (v ∷ ids) = none_client c ids

all_own : (c : ℕ) (ids : List ℕ) → entries_of (λ e. e.hand) c (releases_by c ids) ≡ releases_by c ids
all_own c [] = refl
all_own c (v ∷ ids) = ap (λ b. cond b (entry_by c (Release v) ∷ entries_of (λ e. e.hand) c (releases_by c ids)) (entries_of (λ e. e.hand) c (releases_by c ids))) (eq-eqb c c refl) ∙ ap (λ l. entry_by c (Release v) ∷ l) (all_own c ids)

all_by_client : (c : ℕ) (ids : List ℕ) → list_all is_by_client (events (releases_by c ids)) ≡ true
all_by_client c [] = refl
all_by_client c (v ∷ ids) = all_by_client c ids

-- what the history tells of the log stays
pub told_released : (c size : ℕ) (log : List Event) (h : List MemEntry) (ids : List ℕ) → IsClientTold c size log h → IsClientTold c size log (h ++ releases_by c ids)
told_released c size log h ids t = record {
  entries = ap (filter is_client) (map-append (λ (e : MemEntry). e.what) h (releases_by c ids)) ∙ (filter_rest is_client (events h) (events (releases_by c ids)) (none_client c ids) ∙ t.entries);
  ids = t.ids;
  shows = t.shows ∙ sym (ap (map_with_before (found_by size)) (map-append (λ (e : MemEntry). e.what) h (releases_by c ids)) ∙ told_rest (found_by size) is_client (finds_none size) (events h) (events (releases_by c ids)) (none_client c ids));
  found = ap (all_with_before finds_blocks) (map-append (λ (e : MemEntry). e.what) h (releases_by c ids)) ∙ found_rest (events h) (events (releases_by c ids)) (none_client c ids) t.found;
  own = ap (λ l. list_all is_by_client (events l)) (own_append c h (releases_by c ids) ∙ ap (λ l. entries_of (λ e. e.hand) c h ++ l) (all_own c ids))
      ∙ (ap (list_all is_by_client) (map-append (λ (e : MemEntry). e.what) (entries_of (λ e. e.hand) c h) (releases_by c ids))
      ∙ (list_all-append is_by_client (events (entries_of (λ e. e.hand) c h)) (events (releases_by c ids))
      ∙ and-from (list_all is_by_client (events (entries_of (λ e. e.hand) c h))) (list_all is_by_client (events (releases_by c ids))) t.own (all_by_client c ids)));
}

-- ---- late releases

-- an element of two lists, one after the other
slice_get_split : {A : Type 0} (xs ys : List A) (n : ℕ) (x : A) → slice_get (xs ++ ys) n ≡ Some x → (slice_get xs n ≡ Some x) ⊎ (length xs ≤ n)
slice_get_split [] ys n x e = inr (omega arith)
slice_get_split (y ∷ xs) ys zero x e = inl e
slice_get_split (y ∷ xs) ys (suc n) x e = ⊎_elim (λ t. inl t) (λ t. inr (omega (arith, t))) (slice_get_split xs ys n x e)

-- before the session was closed
pub all_before_drained : (acts : List Act) → list_any is_drain_act acts ≡ false → before_drained acts ≡ acts
all_before_drained [] e = refl
all_before_drained (a ∷ acts) e = at (is_drain_act a) e (all_before_drained acts)
  where
    at : (b : Bool) → (b || list_any is_drain_act acts) ≡ false → (list_any is_drain_act acts ≡ false → before_drained acts ≡ acts) → cond b [] (a ∷ before_drained acts) ≡ a ∷ acts
    at true f ih = absurd (cc f)
    at false f ih = ap (λ l. a ∷ l) (ih f)

pub before_this_drain : (acts : List Act) (a : Act) → list_any is_drain_act acts ≡ false → is_drain_act a ≡ true → before_drained (acts ++ a ∷ []) ≡ acts
before_this_drain [] a e d = ap (λ b. cond b [] (a ∷ [])) d
before_this_drain (x ∷ acts) a e d = at (is_drain_act x) e (λ f. before_this_drain acts a f d)
  where
    at : (b : Bool) → (b || list_any is_drain_act acts) ≡ false → (list_any is_drain_act acts ≡ false → before_drained (acts ++ a ∷ []) ≡ acts) → cond b [] (x ∷ before_drained (acts ++ a ∷ [])) ≡ x ∷ acts
    at true f ih = absurd (cc f)
    at false f ih = ap (λ l. x ∷ l) (ih f)

-- releases that were all made past a front are late
pub late_released : (c : ℕ) (es : List IntakeEntry) (h : List MemEntry) (ids : List ℕ) (acts : List Act) (front : ℕ) → list_any is_release (events (entries_of (λ e. e.hand) c h)) ≡ false → front ≤ length h
    → (fronts_after (before_drained acts)).memory ≤ front → memory_front_in es ≤ front → AreLate c es (h ++ releases_by c ids) acts
late_released c es h ids acts front none past known seen n e at by is = ⊎_elim
    (λ t. absurd (cc (sym none ∙ own_stands c n h e t by is)))
    (λ t. (omega (arith, t, past, known), omega (arith, t, past, seen)))
    (slice_get_split h (releases_by c ids) n e at)

-- ---- within the turn

pub when_true : (A B : Type 0) (b : Bool) → b ≡ true → MatchBool b A B → A
when_true A B true e m = m
when_true A B false e m = absurd (cc e)

pub when_false : (A B : Type 0) (b : Bool) → b ≡ false → MatchBool b A B → B
when_false A B true e m = absurd (cc e)
when_false A B false e m = m

-- where a record isn't taken or landed, or an answer is kept, something is left to do
landed_bits : (a b p t : Bool) → not (a || b || t) ≡ true → (a || b || p || t) ≡ p
landed_bits true b p t e = absurd (cc e)
landed_bits false true p t e = absurd (cc e)
landed_bits false false p true e = absurd (cc e)
landed_bits false false true false e = refl
landed_bits false false false false e = refl

pub pins_decide : (wanted : ℕ) (es : List IntakeEntry) (h : List MemEntry) → is_landed wanted es ≡ true → is_unfinished wanted es h ≡ nat_lt 0 (length (pins_left (events h)))
pins_decide wanted es h e = landed_bits (nat_lt 0 (flights_in es)) (nat_lt 0 (length (kept_slips es))) (nat_lt 0 (length (pins_left (events h)))) (nat_lt (length (takings es)) wanted) e

module _ (client wanted front f : ℕ) (s s' : IntakeState) (m m' : MemorySeat) (p p' : PoolSeat) (known : ℕ) (landed : is_landed wanted s.entries ≡ true) (f_is : f ≡ max front (memory_front_in s.entries)) (known_is : known ≡ length (seen_by m')) where
  pub closed_in_turn : s' ≡ record s { entries = s.entries ++ Turned client phase.Closed ∷ [] } → HasReleasedIds client f m m' p p' → IsClosedInTurn client wanted front s s' m m' p p' known
  closed_in_turn left r = record {
    left = left;
    released = record {
      found = r.found;
      numbered = r.numbered;
      ids = r.ids;
      visit = subst (λ (n : ℕ). IsVisit n m m' r.found (releases_by client r.ids)) f_is r.visit;
      no_pins = r.no_pins;
      none_left = r.none_left;
      home = r.home;
    };
    done = pins_decide wanted s.entries r.found landed ∙ ap (λ (n : ℕ). nat_lt 0 n) r.no_pins;
    known_is = known_is;
  }

  pub open_in_turn : FoundPin client f m m' p p' → IsOpenInTurn client wanted front s s m m' p p' known
  open_in_turn r =
      let seen : seen_by m' ≡ r.found = r.visit.left ∙ append-nil r.found in
      record {
        left = refl;
        same = r.visit.seat;
        later = subst (λ l. Continues (λ (e : MemEntry). e.hand) (number m) (seen_by m) l) (sym seen) r.visit.later;
        numbered = inr (subst (λ l. IsTrue (list_all (is_numbered client (client + 1)) l)) (sym seen) r.numbered);
        unfinished = pins_decide wanted s.entries (seen_by m') landed ∙ lt-ltb 0 (length (pins_left (events (seen_by m')))) (subst (λ l. 0 < length (pins_left (events l))) (sym seen) r.pin);
        known_is = omega (arith, f_is, r.visit.past, ap length seen, known_is);
        pool = r.pool;
      }

unlanded_bits : (a b p t : Bool) → not (a || b || t) ≡ false → (a || b || p || t) ≡ true
unlanded_bits true b p t e = refl
unlanded_bits false true p t e = refl
unlanded_bits false false true t e = refl
unlanded_bits false false false true e = refl
unlanded_bits false false false false e = absurd (cc e)

-- a record isn't taken or landed, or an answer is kept: nothing is looked at
pub unlanded_in_turn : (client wanted front : ℕ) (s : IntakeState) (m : MemorySeat) (p : PoolSeat) → is_landed wanted s.entries ≡ false → IsOutside m → length (seen_by m) ≤ front → IsOpenInTurn client wanted front s s m m p p front
unlanded_in_turn client wanted front s m p landed outside within = record {
  left = refl;
  same = ((refl, refl, refl, refl), outside);
  later = (prefix_refl (seen_by m), refl);
  numbered = inl refl;
  unfinished = unlanded_bits (nat_lt 0 (flights_in s.entries)) (nat_lt 0 (length (kept_slips s.entries))) (nat_lt 0 (length (pins_left (events (seen_by m))))) (nat_lt (length (takings s.entries)) wanted) landed;
  known_is = omega (arith, within);
  pool = refl;
}

-- ---- the turn from outside

pub ending_phase : (how : Finish) (ps : List Phase) → ps ≡ phase_for how ∷ [] → IsTrue (is_ending (last phase.Running ps))
ending_phase Drain ps e = ap (λ l. is_ending (last phase.Running l)) e
ending_phase Abort ps e = ap (λ l. is_ending (last phase.Running l)) e

pub attempt_answer : (client wanted front : ℕ) (i mid i' : IntakeSeat) (s n : IntakeState) (m m' : MemorySeat) (p p' : PoolSeat) (closed : Bool) (known : ℕ) → IsSameSeat i mid → s.entries ≡ seen_by mid
    → Continues maker_of (number i) (seen_by i) (seen_by mid) → turns s.entries ≡ turns (seen_by i) → IsSameSeat mid i' × IsOutside i' → seen_by i' ≡ n.entries
    → MatchBool closed (IsClosedInTurn client wanted front s n m m' p p' known) (IsOpenInTurn client wanted front s n m m' p p' known)
    → MatchBool closed (HasClosedSession client wanted front i i' m m' p p' known) (HasNotClosed client wanted front i i' m m' p p' known)
attempt_answer client wanted front i mid i' s n m m' p p' true known same story later phases out left t = record {
  intake_found = s.entries;
  turned = ap turns (left ∙ ap (λ (x : IntakeState). x.entries) t.left) ∙ (turned_more client s.entries phase.Closed ∙ ap (λ l. l ++ phase.Closed ∷ []) phases);
  turn = record { seat = (same_seat i mid i' same out.0, out.1); later = subst (λ l. Continues maker_of (number i) (seen_by i) l) (sym story) later; left = left ∙ ap (λ (x : IntakeState). x.entries) t.left };
  released = t.released;
  done = t.done;
  known_is = t.known_is;
}
attempt_answer client wanted front i mid i' s n m m' p p' false known same story later phases out left t = record {
  intake_found = s.entries;
  turned = ap turns (left ∙ ap (λ (x : IntakeState). x.entries) t.left) ∙ phases;
  turn = record { seat = (same_seat i mid i' same out.0, out.1); later = subst (λ l. Continues maker_of (number i) (seen_by i) l) (sym story) later; left = left ∙ (ap (λ (x : IntakeState). x.entries) t.left ∙ sym (append-nil s.entries)) };
  same = t.same;
  later = t.later;
  numbered = t.numbered;
  unfinished = t.unfinished;
  known_is = t.known_is;
  pool = t.pool;
}
