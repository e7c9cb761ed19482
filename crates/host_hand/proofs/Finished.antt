-- A record has ended: what the hand keeps then.
use Rattle.std.proofs.Common.{◌≡◌, ℕ, suc, ◌+◌, ◌≤◌, ◌<◌, Bool, true, false, ◌&&◌, ◌||◌, ◌==◌, cond, List, [], ◌∷◌, ◌++◌, length, map, filter, filter_map, Option, Some, None, refl, sym, ap, ap₂, subst, ◌∙◌, ◌⊎◌, inl, inr, ⊎_elim, arith, append-nil, append_assoc, length-append, eq-eqb, ne_eqb}
use Rattle.std.proofs.Math.Bool.{or-true}
use Rattle.std.specs.Prelude.{MatchOption, sum}
use Rattle.std.specs.List.{All, cons_option, list_all, list_any, slice_get}
use Rattle.std.proofs.lemmas.Bool.{eqb-true, le-leb}
use Rattle.std.proofs.lemmas.List.Elements.{All-nil, All-cons, All-append, All-head, All-tail, filter-append, filter_map-append}
use Rattle.std.proofs.lemmas.List.Folds.{list_all-append, list_any-append}
use Rattle.std.proofs.lemmas.Option.{slice_get_within}
use mathlib.Core.List.{IsPrefix}
use Rattle.atomic_table.specs.Seated.{TableId}
use Rattle.host_frames.specs.{SeenPages}
use Rattle.host_model.specs.{MemEntry, MemEvent, Release, Step, Accepted, Refused, asked, carries_out, outcome_of, count, record_entry, index_of}
use Rattle.host_model.specs.declared.verdict.Verdict.{Verdict}
use Rattle.host_memory.specs.{events}
use Rattle.host_record.specs.{opcode}
use Rattle.host_rings.specs.{Slip, SlipSenderState}
use Rattle.host_intake.specs.{IntakeEntry, Landed, RecordEnd, taking_entry, Landing, Taking, is_landing_of, landing_of, landings, maker_of, place_of, request_in, taking_of, takings, made, under}
use Rattle.host_session.specs.{SessionSpec, moves_for, moves_owed, handed_by}
use Rattle.host_hand.specs.{Carried, Errand, Work, pages_freed, release_of, LandsFreed, slips_pushed, sender_with_slips, IsStepFor, errand_of, is_closer, pages_named, taken_out, begun_by, is_begun, HasTakenNext, IsAtSession, is_judged_within, is_settled, own_landings, own_takings, HasEnded, IsEndingRecord, IsMoveTaken, IsPastTaking, IsStepTaken, IsTakenBy, steps_for, HasCarried, IsFor, IsMoveFor, IsOutcome, work_verdict}
use Rattle.host_log.specs.{HasAdded}
use Rattle.host_hand.proofs.Endings.{IsOf, all_map, entry_other, is_step_of, moves_added, steps_added, steps_of_this}
use Rattle.host_hand.proofs.Entered.{handed_added, is_no_pass, own_takings_added, slip_now, taken_longer}
use Rattle.host_hand.proofs.Framing.{closed_added, closed_longer}
use Rattle.host_log.proofs.Growing.{added_after, own_grown, own_place}
use Rattle.host_log.proofs.Places.{longer_length, get_last}
use Rattle.host_hand.proofs.Keeping.{Growth, begun_added, kept_more, taken_added}
use Rattle.host_hand.proofs.FreedCloses.{FreedClose, freed_close, slip_now_pushed}
use Rattle.host_hand.proofs.LeftBehind.{judged_room, taking_below}

-- ---- lists

-- no element of the one kind is of the other
none_twice : {A : Type 0} (p q : A → Bool) (xs : List A) → ((k : ℕ) (x : A) → slice_get xs k ≡ Some x → q x ≡ true → p x ≡ false) → filter p (filter q xs) ≡ []
none_twice p q [] never = refl
none_twice p q (x ∷ xs) never = at (q x) refl (none_twice p q xs (λ k y at is. never (suc k) y at is))
  where
    at : (b : Bool) → q x ≡ b → filter p (filter q xs) ≡ [] → filter p (cond b (x ∷ filter q xs) (filter q xs)) ≡ []
    at true is rest = ap (λ c. cond c (x ∷ filter p (filter q xs)) (filter p (filter q xs))) (never 0 x refl is) ∙ rest
    at false is rest = rest

none_of : {A B C : Type 0} (f : B → Option C) (g : A → B) (q : A → Bool) (xs : List A) → ((k : ℕ) (x : A) → slice_get xs k ≡ Some x → q x ≡ true → f (g x) ≡ None) → filter_map f (map g (filter q xs)) ≡ []
none_of f g q [] never = refl
none_of f g q (x ∷ xs) never = at (q x) refl (none_of f g q xs (λ k y at is. never (suc k) y at is))
  where
    at : (b : Bool) → q x ≡ b → filter_map f (map g (filter q xs)) ≡ [] → filter_map f (map g (cond b (x ∷ filter q xs) (filter q xs))) ≡ []
    at true is rest = ap (λ o. cons_option o (filter_map f (map g (filter q xs)))) (never 0 x refl is) ∙ rest
    at false is rest = rest

pub events_under : (n : ℕ) (ms : List MemEvent) → events (under n ms) ≡ ms
events_under n [] = refl
events_under n (m ∷ ms) = ap (λ l. m ∷ l) (events_under n ms)

each_named : (i : ℕ) (ms : List MemEvent) → All (IsMoveFor i) ms → filter_map (record_entry i) ms ≡ ms
each_named i [] all = refl
each_named i (m ∷ ms) all = ap (λ o. cons_option o (filter_map (record_entry i) ms)) (All-head (IsMoveFor i) m ms all).entry_is ∙ ap (λ l. m ∷ l) (each_named i ms (All-tail (IsMoveFor i) m ms all))

release_none : (i v : ℕ) (freed : Option (ℕ × SeenPages)) → filter_map (record_entry i) (release_of v freed) ≡ []
release_none i v None = refl
release_none i v (Some f) = refl

-- the entries of a list of events, with what they say
under_all : (P : MemEntry → Type 0) (n : ℕ) (ms : List MemEvent) → All (λ m. P (record { hand = n; what = m })) ms → All P (under n ms)
under_all P n [] all = All-nil P
under_all P n (m ∷ ms) all = All-cons P (record { hand = n; what = m }) (under n ms) (All-head (λ m. P (record { hand = n; what = m })) m ms all) (under_all P n ms (All-tail (λ m. P (record { hand = n; what = m })) m ms all))

-- ---- the record that was carried out

pub record Finish (spec : SessionSpec) (n : ℕ) (pool : TableId × ℕ) (before es1 es2 es3 : List IntakeEntry) (h h' : List MemEntry) (old_s new_s : List Step) (s s' s'' : SlipSenderState) (t : Taking) (w : Work) (c : Carried) (answer : Option Slip) (kept : Bool) : Type 0 where
  pub keeps : IsAtSession spec n before h old_s s.pushed
  pub taken : HasTakenNext n spec.part before es1 h t
  pub verdict : t.verdict ≡ work_verdict w
  pub waits : t.waits ≡ false
  pub is_for : IsFor (opcode (request_in t)) w
  pub carried : HasCarried (errand_of n spec t.envelope) w pool c h h' old_s new_s
  pub freed : LandsFreed n c.end.memory_front c.freed es1 es2 s s'
  pub landed : HasAdded maker_of n (Landed n (place_of t) c.end answer kept ∷ []) es2 es3
  pub sender : s'' ≡ sender_with_slips s' (slips_pushed kept answer)

-- the steps are for the record, which was accepted where there are some
steps_meant : (e : Errand) (v : Verdict) (steps : List Step) → All (IsStepFor e) steps → carries_out (asked v e.part e.request) steps ≡ true → All (λ step. IsStepFor e step × (v ≡ Accepted)) steps
steps_meant e Accepted steps all c = all_map (IsStepFor e) (λ step. IsStepFor e step × (Accepted ≡ Accepted)) steps (λ step k. (k, refl)) all
steps_meant e (Refused status) [] all c = All-nil (λ step. IsStepFor e step × (Refused status ≡ Accepted))
steps_meant e (Refused status) (step ∷ steps) all c = absurd (cc c)

-- an entry for the record, which was accepted then, or for none
abbrev IsMeant : Verdict → ℕ → MemEntry → Type 0
IsMeant v i x = ((index_of x.what ≡ Some i) × (v ≡ Accepted)) ⊎ (index_of x.what ≡ None)

release_meant : (v : Verdict) (n i b : ℕ) (freed : Option (ℕ × SeenPages)) → All (λ m. IsMeant v i (record { hand = n; what = m })) (release_of b freed)
release_meant v n i b None = All-nil (λ m. IsMeant v i (record { hand = n; what = m }))
release_meant v n i b (Some f) = All-cons (λ m. IsMeant v i (record { hand = n; what = m })) (Release b) [] (inr refl) (All-nil (λ m. IsMeant v i (record { hand = n; what = m })))

moves_meant : (e : Errand) (v : Verdict) (n : ℕ) (end : RecordEnd) (steps : List Step) (moves : List MemEvent) → IsOutcome e v end steps moves → All (λ m. IsMeant v e.index (record { hand = n; what = m })) moves
moves_meant e Accepted n end steps moves o = all_map (IsMoveFor e.index) (λ m. IsMeant Accepted e.index (record { hand = n; what = m })) moves (λ m k. inl (k.index_is, refl)) o.named
moves_meant e (Refused status) n end steps moves o = subst (λ ms. All (λ m. IsMeant (Refused status) e.index (record { hand = n; what = m })) ms) (sym o.moved) (All-nil (λ m. IsMeant (Refused status) e.index (record { hand = n; what = m })))

entries_meant : (e : Errand) (v : Verdict) (n b : ℕ) (end : RecordEnd) (steps : List Step) (moves : List MemEvent) (freed : Option (ℕ × SeenPages)) → IsOutcome e v end steps moves → All (IsMeant v e.index) (under n (moves ++ release_of b freed))
entries_meant e v n b end steps moves freed o = under_all (IsMeant v e.index) n (moves ++ release_of b freed) (All-append (λ m. IsMeant v e.index (record { hand = n; what = m })) moves (release_of b freed) (moves_meant e v n end steps moves o) (release_meant v n e.index b freed))

module _ (spec : SessionSpec) (n : ℕ) (pool : TableId × ℕ) (before es1 es2 es3 : List IntakeEntry) (h h' : List MemEntry) (old_s new_s : List Step) (s s' s'' : SlipSenderState) (t : Taking) (w : Work) (c : Carried) (answer : Option Slip) (kept : Bool)
    (f : Finish spec n pool before es1 es2 es3 h h' old_s new_s s s' s'' t w c answer kept) where
  abbrev errand : Errand
  errand = errand_of n spec t.envelope

  outcome : IsOutcome errand t.verdict c.end f.carried.steps f.carried.moves
  outcome = subst (λ v. IsOutcome errand v c.end f.carried.steps f.carried.moves) (sym f.verdict) f.carried.outcome_is

  closes : FreedClose spec n es1 es2 es3 h' new_s s.pushed s'.pushed
  closes = freed_close spec n errand pool c.end.memory_front c.freed es1 es2 es3 h' new_s s s' refl f.landed.begins f.carried.is_freed f.carried.memory_reached f.freed

  taken_one : HasAdded maker_of n (taking_entry t ∷ []) before es1
  taken_one = taken_added n before es1 t f.taken.by f.taken.entries

  own_landed : List IntakeEntry
  own_landed = Landed n (place_of t) c.end answer kept ∷ []

  after : HasAdded maker_of n (closes.added ++ own_landed) es1 es3
  unfolding own_landed
  after = added_after maker_of n closes.added own_landed es1 es2 es3 closes.has_added f.landed

  all_added : HasAdded maker_of n (taking_entry t ∷ (closes.added ++ own_landed)) before es3
  all_added = added_after maker_of n (taking_entry t ∷ []) (closes.added ++ own_landed) before es1 es3 taken_one after

  stands : slice_get (takings es3) (place_of t) ≡ Some t
  stands = taken_longer es1 es3 (place_of t) t after.begins
      (ap (λ es. slice_get (takings es) (place_of t)) f.taken.entries
      ∙ (ap (λ l. slice_get l (place_of t)) (filter_map-append taking_of before (taking_entry t ∷ []))
      ∙ (ap (λ k. slice_get (takings before ++ t ∷ []) k) f.taken.index ∙ get_last (takings before) t)))

  taken_by : t.verdict ≡ Accepted → IsTakenBy es3 n (place_of t) t
  taken_by v = record { stands = stands; by = f.taken.by; accepted = v; waits = f.waits }

  steps_taken : (p : ℕ) (step : Step) → length old_s ≤ p → slice_get new_s p ≡ Some step → step.hand ≡ n → step.session ≡ spec.number → IsStepTaken es3 n p step
  steps_taken p step from at by session =
      sorted (own_place (λ step. step.hand) n (λ step. IsStepFor errand step × (t.verdict ≡ Accepted)) f.carried.steps old_s new_s p step f.carried.device.begins f.carried.device.own (steps_meant errand t.verdict f.carried.steps outcome.made outcome.carried) at by)
    where
      sorted : (slice_get old_s p ≡ Some step) ⊎ ((length old_s ≤ p) × (IsStepFor errand step × (t.verdict ≡ Accepted))) → IsStepTaken es3 n p step
      sorted (inl o) = absurd (let v = slice_get_within old_s p step o in omega arith)
      sorted (inr q) = (t, subst (λ k. IsTakenBy es3 n k t) (sym q.1.0.index) (taken_by q.1.1), f.carried.device.past p step at by from)

  room : t.seen + length (made t) ≤ length h
  room = judged_room spec.part f.taken.admissions h t f.taken.judged

  moves_taken : (p : ℕ) (x : MemEntry) → length h ≤ p → slice_get h' p ≡ Some x → x.hand ≡ n → IsMoveTaken es3 n p x
  moves_taken p x from at by =
      sorted (own_place (λ x. x.hand) n (IsMeant t.verdict (place_of t)) (under n (f.carried.moves ++ release_of errand.request.vmoid c.freed)) h h' p x f.carried.buffers.begins f.carried.buffers.own
      (entries_meant errand t.verdict n errand.request.vmoid c.end f.carried.steps f.carried.moves c.freed outcome) at by)
    where
      sorted : (slice_get h p ≡ Some x) ⊎ ((length h ≤ p) × IsMeant t.verdict (place_of t) x) → IsMoveTaken es3 n p x
      sorted (inl o) = absurd (let v = slice_get_within h p x o in omega arith)
      sorted (inr (le, inl (is, v))) = subst (λ (o : Option ℕ). MatchOption o (Unit {0}) (λ i. (u : Taking) × IsTakenBy es3 n i u × IsPastTaking p u)) (sym is)
          (t, taken_by v, record { front = f.carried.buffers.past p x at by from; taking = let r = room in omega arith })
      sorted (inr (le, inr is)) = subst (λ (o : Option ℕ). MatchOption o (Unit {0}) (λ i. (u : Taking) × IsTakenBy es3 n i u × IsPastTaking p u)) (sym is) tt

  -- ---- before, there was nothing of this record

  old_steps : steps_for n spec.number (place_of t) old_s ≡ []
  old_steps = none_twice (is_step_of spec.number (place_of t)) (λ step. step.hand == n) old_s (λ k step at mine. other k step at (eqb-true step.hand n mine))
    where
      other : (k : ℕ) (step : Step) → slice_get old_s k ≡ Some step → step.hand ≡ n → is_step_of spec.number (place_of t) step ≡ false
      other k step at by = sorted (step.session == spec.number) refl
        where
          sorted : (b : Bool) → (step.session == spec.number) ≡ b → (b && (step.index == place_of t)) ≡ false
          sorted false is = refl
          sorted true is = ne_eqb step.index (place_of t) (λ same.
              let k = f.keeps.steps k step at by (eqb-true step.session spec.number is) in
              let less = slice_get_within (takings before) step.index k.0 k.1.stands in let index = f.taken.index in omega arith)

  old_moves : moves_for n (place_of t) h ≡ []
  old_moves = none_of (record_entry (place_of t)) (λ (x : MemEntry). x.what) (λ x. x.hand == n) h
      (λ k x at mine. entry_other (place_of t) x.what (λ same. clash k x same (f.keeps.moves k x at (eqb-true x.hand n mine))))
    where
      clash : (k : ℕ) (x : MemEntry) → index_of x.what ≡ Some (place_of t) → IsMoveTaken before n k x → ⊥
      clash k x same m =
          let q = subst (λ (o : Option ℕ). MatchOption o (Unit {0}) (λ i. (u : Taking) × IsTakenBy before n i u × IsPastTaking k u)) same m in
          let less = slice_get_within (takings before) (place_of t) q.0 q.1.stands in let index = f.taken.index in omega arith

  old_step : (p : ℕ) (step : Step) → slice_get old_s p ≡ Some step → step.hand ≡ n → step.session ≡ spec.number → step.index ≡ place_of t → ⊥
  old_step p step at by session same =
      let k = f.keeps.steps p step at by session in
      let less = slice_get_within (takings before) step.index k.0 k.1.stands in let index = f.taken.index in omega arith

  old_move : (p : ℕ) (x : MemEntry) → index_of x.what ≡ Some (place_of t) → IsMoveTaken before n p x → ⊥
  old_move p x same m =
      let q = subst (λ (o : Option ℕ). MatchOption o (Unit {0}) (λ i. (u : Taking) × IsTakenBy before n i u × IsPastTaking p u)) same m in
      let less = slice_get_within (takings before) (place_of t) q.0 q.1.stands in let index = f.taken.index in omega arith

  new_steps : steps_for n spec.number (place_of t) new_s ≡ f.carried.steps
  new_steps = steps_added n spec.number (place_of t) errand.device_front c.end.device_front f.carried.steps old_s new_s f.carried.device
      ∙ ap₂ (λ a b. a ++ b) old_steps (steps_of_this spec.number (place_of t) f.carried.steps (all_map (IsStepFor errand) (λ step. (step.session ≡ spec.number) × (step.index ≡ place_of t)) f.carried.steps (λ step k. (k.session, k.index)) outcome.made))

  new_moves : moves_for n (place_of t) h' ≡ f.carried.moves
  new_moves = moves_added n (place_of t) errand.memory_front c.end.memory_front (under n (f.carried.moves ++ release_of errand.request.vmoid c.freed)) h h' f.carried.buffers
      ∙ ap₂ (λ a b. a ++ b) old_moves
      (ap (filter_map (record_entry (place_of t))) (events_under n (f.carried.moves ++ release_of errand.request.vmoid c.freed))
      ∙ (filter_map-append (record_entry (place_of t)) f.carried.moves (release_of errand.request.vmoid c.freed)
      ∙ (ap₂ (λ a b. a ++ b) (each_named (place_of t) f.carried.moves outcome.named) (release_none (place_of t) errand.request.vmoid c.freed) ∙ append-nil f.carried.moves)))

  -- ---- how it ended

  landing : Landing
  landing = record { hand = n; index = place_of t; end = c.end; answer = answer; kept = kept }

  ended : HasEnded spec.part spec.number n es3 h' new_s landing t
  unfolding landing
  ended = record {
    stands = stands;
    by = f.taken.by;
    waits = f.waits;
    carried = ap (carries_out (asked t.verdict spec.part (request_in t))) new_steps ∙ outcome.carried;
    outcome = outcome.outcome ∙ ap (outcome_of t.verdict (asked t.verdict spec.part (request_in t))) (sym new_steps);
    moved = new_moves ∙ (outcome.moved ∙ ap₂ (λ a m. moves_owed t.verdict c.end.outcome (place_of t) (request_in t) a m) (sym new_steps) (sym new_moves));
    device_front = own_grown (λ step. step.hand) n (λ p step. step.session ≡ spec.number → step.index ≡ place_of t → p < c.end.device_front) (λ step. Unit {0}) errand.device_front c.end.device_front f.carried.steps old_s new_s
        (λ p step at by session index. absurd (old_step p step at by session index)) f.carried.device (all_map (IsStepFor errand) (λ step. Unit {0}) f.carried.steps (λ step k. tt) outcome.made) (λ p step from past below u session index. below);
    memory_front = own_grown (λ x. x.hand) n (λ p x. index_of x.what ≡ Some (place_of t) → p < c.end.memory_front) (IsMeant t.verdict (place_of t)) errand.memory_front c.end.memory_front (under n (f.carried.moves ++ release_of errand.request.vmoid c.freed)) h h'
        (λ p x at by same. absurd (old_move p x same (f.keeps.moves p x at by))) f.carried.buffers
        (entries_meant errand t.verdict n errand.request.vmoid c.end f.carried.steps f.carried.moves c.freed outcome) (λ p x from past below u same. below);
    taking_front = taking_below spec f.taken.admissions h h' t w c.end f.carried.buffers.begins f.taken.judged f.verdict f.is_for f.carried.past_buffers;
    device_reached = f.carried.device_reached;
    memory_reached = f.carried.memory_reached;
  }

  all_takings : takings (taking_entry t ∷ (closes.added ++ own_landed)) ≡ t ∷ []
  unfolding own_landed
  all_takings = ap (λ l. t ∷ l) (filter_map-append taking_of closes.added own_landed ∙ ap (λ l. l ++ []) closes.takes)

  all_landings : landings (taking_entry t ∷ (closes.added ++ own_landed)) ≡ landings closes.added ++ landing ∷ []
  unfolding own_landed landing
  all_landings = filter_map-append landing_of closes.added own_landed

  settled_now : list_all (is_settled (own_landings n before ++ landings (taking_entry t ∷ (closes.added ++ own_landed)))) (takings (taking_entry t ∷ (closes.added ++ own_landed))) ≡ true
  unfolding landing
  settled_now = ap₂ (λ ls ts. list_all (is_settled (own_landings n before ++ ls)) ts) all_landings all_takings ∙ settled_here
    where
      here : list_any (is_landing_of (place_of t)) (own_landings n before ++ (landings closes.added ++ landing ∷ [])) ≡ true
      here = list_any-append (is_landing_of (place_of t)) (own_landings n before) (landings closes.added ++ landing ∷ [])
          ∙ (ap (λ b. list_any (is_landing_of (place_of t)) (own_landings n before) || b) (list_any-append (is_landing_of (place_of t)) (landings closes.added) (landing ∷ [])
          ∙ (ap (λ b. list_any (is_landing_of (place_of t)) (landings closes.added) || (b || false)) (eq-eqb (place_of t) (place_of t) refl) ∙ or-true (list_any (is_landing_of (place_of t)) (landings closes.added))))
          ∙ or-true (list_any (is_landing_of (place_of t)) (own_landings n before)))

      settled_here : list_all (is_settled (own_landings n before ++ (landings closes.added ++ landing ∷ []))) (t ∷ []) ≡ true
      settled_here = ap₂ (λ w b. (w || b) && true) f.waits here

  growth : Growth spec n before es3 h h' old_s new_s s''.pushed
  unfolding own_landed
  growth = record {
    added = taking_entry t ∷ (closes.added ++ own_landed);
    has_added = all_added;
    index = place_of t;
    fresh = let e = f.taken.index in omega arith;
    steps = f.carried.steps;
    step_front = errand.device_front;
    step_stop = c.end.device_front;
    stepped = f.carried.device;
    stepped_for = all_map (IsStepFor errand) (λ step. step.index ≡ place_of t) f.carried.steps (λ step k. k.index) outcome.made;
    steps_taken = steps_taken;
    entries = under n (f.carried.moves ++ release_of errand.request.vmoid c.freed);
    move_front = errand.memory_front;
    move_stop = c.end.memory_front;
    moved = f.carried.buffers;
    moved_for = all_map (IsMeant t.verdict (place_of t)) (IsOf (place_of t)) (under n (f.carried.moves ++ release_of errand.request.vmoid c.freed)) (λ x k. ⊎_elim (λ q. inl q.0) (λ q. inr q) k)
        (entries_meant errand t.verdict n errand.request.vmoid c.end f.carried.steps f.carried.moves c.freed outcome);
    moves_taken = moves_taken;
    closers = f.carried.closers;
    settled = settled_now;
    endings = subst (λ ls. All (IsEndingRecord spec.part spec.number n es3 h' new_s) ls) (sym all_landings)
        (All-append (IsEndingRecord spec.part spec.number n es3 h' new_s) (landings closes.added) (landing ∷ []) closes.endings
        (All-cons (IsEndingRecord spec.part spec.number n es3 h' new_s) landing [] (inl (t, ended)) (All-nil (IsEndingRecord spec.part spec.number n es3 h' new_s))));
    slips = slips_now;
    seen = ap (list_all (is_judged_within (length h'))) all_takings ∙ ap (λ b. b && true) (le-leb t.seen (length h') (let r = room in let longer = longer_length h h' f.carried.buffers.begins in omega arith));
  }
    where
      pushed_all : filter_map slip_now (taking_entry t ∷ (closes.added ++ own_landed)) ≡ filter_map slip_now closes.added ++ slips_pushed kept answer
      pushed_all = filter_map-append slip_now closes.added own_landed ∙ ap (λ l. filter_map slip_now closes.added ++ l) (slip_now_pushed n (place_of t) c.end answer kept)

      no_pass : list_all is_no_pass (taking_entry t ∷ (closes.added ++ own_landed)) ≡ true
      no_pass = list_all-append is_no_pass closes.added own_landed ∙ ap (λ b. b && true) closes.passes

      slips_now : s''.pushed ≡ handed_by n es3
      slips_now = ap (λ (x : SlipSenderState). x.pushed) f.sender
          ∙ (ap (λ l. l ++ slips_pushed kept answer) (closes.slips ∙ ap (λ l. l ++ filter_map slip_now closes.added) f.keeps.slips)
          ∙ (append_assoc (handed_by n before) (filter_map slip_now closes.added) (slips_pushed kept answer)
          ∙ (ap (λ l. handed_by n before ++ l) (sym pushed_all) ∙ sym (handed_added n (taking_entry t ∷ (closes.added ++ own_landed)) before es3 all_added no_pass))))

  -- the hand keeps the session
  pub kept_ended : IsAtSession spec n es3 h' new_s s''.pushed
  kept_ended = kept_more spec n before es3 h h' old_s new_s s.pushed s''.pushed f.keeps growth

  own_seen : list_all (is_judged_within (length h)) (own_takings n es1) ≡ true
  own_seen = ap (list_all (is_judged_within (length h))) (own_takings_added n (taking_entry t ∷ []) before es1 taken_one)
      ∙ (list_all-append (is_judged_within (length h)) (own_takings n before) (t ∷ [])
      ∙ ap₂ (λ a b. a && (b && true)) f.keeps.seen (le-leb t.seen (length h) (let r = room in omega arith)))

  no_takings : takings (closes.added ++ own_landed) ≡ []
  unfolding own_landed
  no_takings = filter_map-append taking_of closes.added own_landed ∙ ap (λ l. l ++ []) closes.takes

  -- the pages that came out while it was carried out
  pub out_ended : taken_out n es3 h' ≡ taken_out n es1 h + pages_freed c.freed
  out_ended =
      let longer = closed_longer n es1 h h' f.carried.buffers.begins own_seen in
      let added = closed_added n (closes.added ++ own_landed) es1 es3 h' after in
      let none : sum (map (pages_named h') (filter is_closer (takings (closes.added ++ own_landed)))) ≡ 0 = ap (λ l. sum (map (pages_named h') (filter is_closer l))) no_takings in
      omega (arith, f.carried.frames)

  -- nothing was begun meanwhile
  pub begun_ended : begun_by n es3 ≡ begun_by n es1
  unfolding own_landed
  begun_ended =
      let more = begun_added n (closes.added ++ own_landed) es1 es3 after in
      let split : count is_begun (closes.added ++ own_landed) ≡ count is_begun closes.added + 0 = ap length (filter-append is_begun closes.added own_landed) ∙ length-append (filter is_begun closes.added) [] in
      omega (arith, closes.begins)

  pub longer_ended : IsPrefix es1 es3
  longer_ended = after.begins

  pub stepped_ended : All (λ (step : Step). step.session ≡ spec.number) f.carried.steps
  stepped_ended = all_map (IsStepFor errand) (λ step. step.session ≡ spec.number) f.carried.steps (λ step k. k.session) outcome.made
