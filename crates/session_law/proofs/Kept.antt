-- What each hand keeps over what its own seats have seen holds of the whole histories.
use Rattle.std.proofs.Common.{◌≡◌, inl, inr, ℕ, zero, suc, ◌<◌, ◌==◌, Bool, true, false, ◌&&◌, ◌||◌, nat_lt, MatchOption, List, [], ◌∷◌, filter, filter_map, get_or, length, take, Option, Some, None, refl, sym, ap, subst, ◌∙◌, arith, eq-eqb}
use Rattle.std.specs.Prelude.{is_some}
use Rattle.std.specs.List.{list_all, slice_get}
use Rattle.std.specs.Option.{option_map_or}
use Rattle.std.proofs.lemmas.Bool.{eqb-true, ltb-false, ltb-true}
use Rattle.std.proofs.lemmas.List.{take-append-le}
use Rattle.host_block.proofs.Places.{from_filter, from_take, within}
use Rattle.host_model.specs.{MemEntry, Release, Step, asked, carries_out, outcome_of, steps_of, record_entry, index_of}
use Rattle.host_model.specs.Session.{Session}
use Rattle.host_memory.specs.{closer_of, events}
use Rattle.host_log.specs.{Continues, entries_of}
use Rattle.host_turn.specs.{seen_by}
use Rattle.host_intake.specs.{IntakeEntry, Took, Landed, Passed, Turned, Landing, Taking, landing_of, landings, maker_of, request_in, taking_of, takings, is_by_taker}
use Rattle.host_intake.proofs.Readiness.{all_at}
use Rattle.host_session.specs.{SessionHand, ClientState, moves_for, moves_owed, is_turn}
use Rattle.host_hand.specs.{HasClosedBuffer, HasEnded, IsEndingRecord, IsPastTaking, IsTakenBy, steps_for}
use Rattle.session_law.specs.{IsLandingCarried, EndsDrained, IsSessionGathered, ReleaseClosed, PushedAsTold, IsEndPast, IsMoveDone, IsStepDone, steps_in, AreKept, HandsKeepSessions, HasKept, HaveKept}
use Rattle.session_law.proofs.Closers.{IsClosing}
use Rattle.session_law.proofs.Entries.{none_made}
use Rattle.session_law.proofs.Owners.{close_entry}
use Rattle.session_law.proofs.Places.{found_at, only_at}
use Rattle.host_log.proofs.Places.{some_at, in_filter}
use Rattle.session_law.proofs.Draining.{drains_come_last}
use Rattle.session_law.proofs.Waiting.{asks_nothing, closer_place, none_of, owes_nothing, waits_made}
use Rattle.session_law.proofs.Whole.{all_one, handed_whole, landing_own, own_seen, seen_whole, steps_same, taking_whole}

module _ (client : ClientState) (hands : List SessionHand) (h : List MemEntry) (steps : List Step) (s : Session) (g : IsSessionGathered client hands h s) (k : HaveKept client hands steps) where
  abbrev es : List IntakeEntry
  es = g.whole.intake.entries

  abbrev ts : List Taking
  ts = takings g.whole.intake.entries

  abbrev ls : List Landing
  ls = landings g.whole.intake.entries

  -- ---- the hands

  -- hand n, with what its seats have seen of the whole
  pub record IsHandOf (n : ℕ) (hand : SessionHand) : Type 0 where
    pub intake : Continues maker_of n (seen_by hand.intake) es
    pub memory : Continues (λ (e : MemEntry). e.hand) n (seen_by hand.memory) h
    pub kept : HasKept client.plan.spec steps n hand

  pub hand_at : (n : ℕ) (d : SessionHand) → n < length hands → IsHandOf n (get_or hands n d)
  hand_at n d lt =
      let is = k.dealt.1 n d lt in
      record {
        intake = subst (λ (m : ℕ). Continues maker_of m (seen_by (get_or hands n d).intake) es) is.intake.number_is (g.whole.intake_history.of_hands n d lt);
        memory = subst (λ (m : ℕ). Continues (λ (e : MemEntry). e.hand) m (seen_by (get_or hands n d).memory) h) is.memory.number_is (g.whole.memory_history.of_hands n d lt);
        kept = k.each n d lt;
      }

  one_hand : (n : ℕ) → n < client.plan.hands → (hand : SessionHand) × IsHandOf n hand
  one_hand n lt =
      let long : n < length hands = let e = k.dealt.0 in omega arith in
      let d = (some_at hands n long).0 in
      (get_or hands n d, hand_at n d long)

  -- what the client did at the intake was to turn it
  pub turned : list_all is_turn (entries_of maker_of client.plan.hands es) ≡ true
  turned =
      let kept = g.whole.client_of.kept in
      ap (list_all is_turn) (subst (λ (n : ℕ). entries_of maker_of n es ≡ entries_of maker_of n (seen_by client.intake_seat)) kept.intake_seat.number_is g.whole.intake_history.of_client.1) ∙ kept.ended.own

  -- who takes and lands is a hand
  maker_few : (p : ℕ) (e : IntakeEntry) → slice_get es p ≡ Some e → is_turn e ≡ false → maker_of e < client.plan.hands
  maker_few p e at none = step (nat_lt (maker_of e) client.plan.hands) (nat_lt client.plan.hands (maker_of e)) refl refl
    where
      own : List IntakeEntry
      own = entries_of maker_of client.plan.hands es

      nothing : (xs : List IntakeEntry) (j : ℕ) (x : IntakeEntry) → xs ≡ [] → slice_get xs j ≡ Some x → ⊥
      nothing [] zero x n y = cc
      nothing [] (suc j) x n y = cc
      nothing (z ∷ xs) j x n y = cc n

      step : (a b : Bool) → nat_lt (maker_of e) client.plan.hands ≡ a → nat_lt client.plan.hands (maker_of e) ≡ b → maker_of e < client.plan.hands
      step true b x y = ltb-true (maker_of e) client.plan.hands x
      step false true x y =
          let f = in_filter (λ (w : IntakeEntry). maker_of w == maker_of e) es p e at (eq-eqb (maker_of e) (maker_of e) refl) in
          absurd (nothing (entries_of maker_of (maker_of e) es) f.0 e (g.whole.intake_history.others (maker_of e) (ltb-true client.plan.hands (maker_of e) y)) f.1)
      step false false x y =
          let same : maker_of e ≡ client.plan.hands = let a = ltb-false (maker_of e) client.plan.hands x in let b = ltb-false client.plan.hands (maker_of e) y in omega arith in
          let f = in_filter (λ (w : IntakeEntry). maker_of w == client.plan.hands) es p e at (eq-eqb (maker_of e) client.plan.hands same) in
          absurd (let t : is_turn e ≡ true = all_at is_turn (entries_of maker_of client.plan.hands es) turned f.0 e f.1 in let z : true ≡ false = sym t ∙ none in cc)

  landing_hand : (n : ℕ) (l : Landing) → slice_get ls n ≡ Some l → l.hand < client.plan.hands
  landing_hand n l at = let r = found_at landing_of es n l at in step r.1 r.3 (maker_few r.0 r.1 r.2)
    where
      step : (e : IntakeEntry) → landing_of e ≡ Some l → (is_turn e ≡ false → maker_of e < client.plan.hands) → l.hand < client.plan.hands
      step (Took hand envelope verdict waits seen) f few = absurd (cc)
      step (Passed hand) f few = absurd (cc)
      step (Turned hand phase) f few = absurd (cc)
      step (Landed hand index end answer kept) f few =
          let same : hand ≡ l.hand = ap (λ (o : Option Landing). option_map_or (λ (x : Landing). x.hand) o hand) f in
          let lt = few refl in omega (arith, same, lt)

  taking_hand : (i : ℕ) (t : Taking) → slice_get ts i ≡ Some t → t.hand < client.plan.hands
  taking_hand i t at = let r = found_at taking_of es i t at in step r.1 r.3 (maker_few r.0 r.1 r.2)
    where
      step : (e : IntakeEntry) → taking_of e ≡ Some t → (is_turn e ≡ false → maker_of e < client.plan.hands) → t.hand < client.plan.hands
      step (Landed hand index end answer kept) f few = absurd (cc)
      step (Passed hand) f few = absurd (cc)
      step (Turned hand phase) f few = absurd (cc)
      step (Took hand envelope verdict waits seen) f few =
          let same : hand ≡ t.hand = ap (λ (o : Option Taking). option_map_or (λ (x : Taking). x.hand) o hand) f in
          let lt = few refl in omega (arith, same, lt)

  -- ---- releases

  due : ReleaseClosed client.plan.hands h
  due q v e at lt what =
      let o = one_hand e.hand lt in
      let seen : List MemEntry = seen_by o.0.memory in
      let there : slice_get seen q ≡ Some e = own_seen (λ (x : MemEntry). x.hand) e.hand seen h o.1.memory q e at refl in
      let closed = o.1.kept.keeps.releases q e there refl v what in
      let first : take q h ≡ take q seen = ap (take q) (sym o.1.memory.0.1) ∙ take-append-le q seen o.1.memory.0.0 (let w = within seen q e there in omega arith) in
      ap (λ l. is_some (closer_of v (events l))) first ∙ closed

  -- ---- ends

  ending : (n : ℕ) (l : Landing) (o : (hand : SessionHand) × IsHandOf l.hand hand) → slice_get ls n ≡ Some l
      → IsEndingRecord client.plan.spec.part client.plan.spec.number l.hand (seen_by o.0.intake) (seen_by o.0.memory) o.1.kept.seen l
  ending n l o at =
      let m = landing_own l.hand (seen_by o.0.intake) es o.1.intake n l at refl in
      all_one (IsEndingRecord client.plan.spec.part client.plan.spec.number l.hand (seen_by o.0.intake) (seen_by o.0.memory) o.1.kept.seen) (landings (entries_of maker_of l.hand (seen_by o.0.intake))) o.1.kept.keeps.endings m.0 l m.1

  -- a record that doesn't wait is ended by the hand that took it
  landed_by : (n : ℕ) (l : Landing) (t : Taking) → slice_get ls n ≡ Some l → slice_get ts l.index ≡ Some t → t.waits ≡ false → l.hand ≡ t.hand
  landed_by n l t at stands w =
      let e : is_by_taker ts l ≡ true = all_at (is_by_taker ts) ls g.whole.intake_history.intake.landed.by_taker n l at in
      let f : (t.hand == l.hand || t.waits) ≡ true = sym (ap (λ o. option_map_or (λ (x : Taking). x.hand == l.hand || x.waits) o false) stands) ∙ e in
      sym (eqb-true t.hand l.hand (left (t.hand == l.hand) t.waits w f))
    where
      left : (a b : Bool) → b ≡ false → (a || b) ≡ true → a ≡ true
      left true b e f = refl
      left false b e f = absurd (cc)

  closed_waits : (n : ℕ) (seen_es : List IntakeEntry) (seen_h : List MemEntry) (l : Landing) (t : Taking) → Continues maker_of n seen_es es → HasClosedBuffer n seen_es seen_h l → slice_get ts l.index ≡ Some t → t.waits ≡ true
  closed_waits n seen_es seen_h l t later c stands = step (slice_get (takings seen_es) l.index) refl c.waits
    where
      step : (o : Option Taking) → slice_get (takings seen_es) l.index ≡ o → MatchOption o ⊥ (λ x. x.waits ≡ true) → t.waits ≡ true
      step None e m = absurd m
      step (Some x) e m =
          let same : x ≡ t = only_at ts l.index x t (taking_whole n seen_es es later l.index x e) stands in
          ap (λ (y : Taking). y.waits) (sym same) ∙ m

  -- how a record ended that doesn't wait
  ended_so : (n : ℕ) (l : Landing) (t : Taking) (o : (hand : SessionHand) × IsHandOf l.hand hand) → slice_get ls n ≡ Some l → slice_get ts l.index ≡ Some t → t.waits ≡ false
      → HasEnded client.plan.spec.part client.plan.spec.number l.hand (seen_by o.0.intake) (seen_by o.0.memory) o.1.kept.seen l t
  ended_so n l t o at stands w = step (ending n l o at)
    where
      step : IsEndingRecord client.plan.spec.part client.plan.spec.number l.hand (seen_by o.0.intake) (seen_by o.0.memory) o.1.kept.seen l → HasEnded client.plan.spec.part client.plan.spec.number l.hand (seen_by o.0.intake) (seen_by o.0.memory) o.1.kept.seen l t
      step (inl x) =
          let same : x.0 ≡ t = only_at ts l.index x.0 t (taking_whole l.hand (seen_by o.0.intake) es o.1.intake l.index x.0 x.1.stands) stands in
          subst (λ (y : Taking). HasEnded client.plan.spec.part client.plan.spec.number l.hand (seen_by o.0.intake) (seen_by o.0.memory) o.1.kept.seen l y) same x.1
      step (inr c) = absurd (let z : true ≡ false = sym (closed_waits l.hand (seen_by o.0.intake) (seen_by o.0.memory) l t o.1.intake c stands) ∙ w in cc)

  closed_so : (n : ℕ) (l : Landing) (t : Taking) (o : (hand : SessionHand) × IsHandOf l.hand hand) → slice_get ls n ≡ Some l → slice_get ts l.index ≡ Some t → t.waits ≡ true → HasClosedBuffer l.hand (seen_by o.0.intake) (seen_by o.0.memory) l
  closed_so n l t o at stands w = step (ending n l o at)
    where
      step : IsEndingRecord client.plan.spec.part client.plan.spec.number l.hand (seen_by o.0.intake) (seen_by o.0.memory) o.1.kept.seen l → HasClosedBuffer l.hand (seen_by o.0.intake) (seen_by o.0.memory) l
      step (inr c) = c
      step (inl x) =
          let same : x.0 ≡ t = only_at ts l.index x.0 t (taking_whole l.hand (seen_by o.0.intake) es o.1.intake l.index x.0 x.1.stands) stands in
          absurd (let z : true ≡ false = sym w ∙ (ap (λ (y : Taking). y.waits) (sym same) ∙ x.1.waits) in cc)

  -- ---- steps and entries

  step_done : (p : ℕ) (step : Step) → slice_get steps p ≡ Some step → step.session ≡ client.plan.spec.number → IsStepDone ts ls p step
  step_done p step at session =
      let o = one_hand step.hand (k.made p step at session) in
      let t = o.1.kept.keeps.steps p step (own_seen (λ (x : Step). x.hand) step.hand o.1.kept.seen steps o.1.kept.later p step at refl) refl session in
      let stands : slice_get ts step.index ≡ Some t.0 = taking_whole step.hand (seen_by o.0.intake) es o.1.intake step.index t.0 t.1.stands in
      record {
        taking = t.0;
        stands = stands;
        accepted = t.1.accepted;
        front = t.2;
        ended = λ l e.
            let here : slice_get ts l.index ≡ Some t.0 = ap (slice_get ts) e.2 ∙ stands in
            let by : l.hand ≡ step.hand = landed_by e.0 l t.0 e.1 here t.1.waits ∙ t.1.by in
            let q = one_hand l.hand (landing_hand e.0 l e.1) in
            (ended_so e.0 l t.0 q e.1 here t.1.waits).device_front p step (own_seen (λ (x : Step). x.hand) l.hand q.1.kept.seen steps q.1.kept.later p step at (sym by)) (sym by) session (sym e.2);
      }

  -- the hand that made a step took its record
  step_hand : (p : ℕ) (step : Step) (t : Taking) → slice_get steps p ≡ Some step → step.session ≡ client.plan.spec.number → slice_get ts step.index ≡ Some t → (step.hand ≡ t.hand) × (t.waits ≡ false)
  step_hand p step t at session stands =
      let o = one_hand step.hand (k.made p step at session) in
      let u = o.1.kept.keeps.steps p step (own_seen (λ (x : Step). x.hand) step.hand o.1.kept.seen steps o.1.kept.later p step at refl) refl session in
      let same : u.0 ≡ t = only_at ts step.index u.0 t (taking_whole step.hand (seen_by o.0.intake) es o.1.intake step.index u.0 u.1.stands) stands in
      (sym u.1.by ∙ ap (λ (x : Taking). x.hand) same, ap (λ (x : Taking). x.waits) (sym same) ∙ u.1.waits)

  move_done : (p i : ℕ) (e : MemEntry) → slice_get h p ≡ Some e → e.hand < client.plan.hands → index_of e.what ≡ Some i → IsMoveDone ts ls e.hand p i
  move_done p i e at lt is =
      let o = one_hand e.hand lt in
      let there : slice_get (seen_by o.0.memory) p ≡ Some e = own_seen (λ (x : MemEntry). x.hand) e.hand (seen_by o.0.memory) h o.1.memory p e at refl in
      let m = subst (λ (x : Option ℕ). MatchOption x (Unit {0}) (λ j. (t : Taking) × IsTakenBy (seen_by o.0.intake) e.hand j t × IsPastTaking p t)) is (o.1.kept.keeps.moves p e there refl) in
      let stands : slice_get ts i ≡ Some m.0 = taking_whole e.hand (seen_by o.0.intake) es o.1.intake i m.0 m.1.stands in
      record {
        taking = m.0;
        stands = stands;
        by = m.1.by;
        waits = m.1.waits;
        accepted = m.1.accepted;
        behind = m.2.taking;
        ended = λ l f.
            let here : slice_get ts l.index ≡ Some m.0 = ap (slice_get ts) f.2 ∙ stands in
            let by : l.hand ≡ e.hand = landed_by f.0 l m.0 f.1 here m.1.waits ∙ m.1.by in
            let q = one_hand l.hand (landing_hand f.0 l f.1) in
            (ended_so f.0 l m.0 q f.1 here m.1.waits).memory_front p e (own_seen (λ (x : MemEntry). x.hand) l.hand (seen_by q.0.memory) h q.1.memory p e at (sym by)) (sym by) (is ∙ ap Some (sym f.2));
      }

  pushed : PushedAsTold hands es
  pushed n d lt =
      let o = hand_at n d lt in
      o.kept.keeps.slips ∙ sym (handed_whole n (seen_by (get_or hands n d).intake) es o.intake)

  drained : EndsDrained client
  drained = drains_come_last client hands h s g pushed

  module _ (steps_are : s.steps ≡ steps_in client.plan.spec.number steps) where
    -- a close that waited, and its release
    pub record IsFreed (l : Landing) (t : Taking) : Type 0 where
      pub buffer : ℕ
      pub closing : IsClosing buffer (request_in t) t.verdict
      pub place : ℕ
      pub entry : MemEntry
      pub released : slice_get h place ≡ Some entry
      pub what : entry.what ≡ Release buffer
      pub below : place < l.end.memory_front
      pub behind : t.seen < place

    freed : (n : ℕ) (l : Landing) (t : Taking) → slice_get ls n ≡ Some l → slice_get ts l.index ≡ Some t → t.waits ≡ true → IsFreed l t
    freed n l t at stands w =
        let o = one_hand l.hand (landing_hand n l at) in
        let seen : List MemEntry = seen_by o.0.memory in
        let c = closed_so n l t o at stands w in
        let x = closer_place c.buffer l.index (take c.released.place seen) c.released.closed in
        let p = from_take seen c.released.place x.0 x.1 x.2 in
        let there : slice_get h x.0 ≡ Some x.1 = seen_whole (λ (y : MemEntry). y.hand) l.hand seen h o.1.memory x.0 x.1 p.0 in
        let z = close_entry client hands h s g drained due x.0 l.index c.buffer x.1 there x.3 in
        let same : z.taking ≡ t = only_at ts l.index z.taking t z.stands stands in
        let place : t.seen ≡ x.0 = ap (λ (y : Taking). y.seen) (sym same) ∙ z.place in
        record {
          buffer = c.buffer;
          closing = subst (λ (y : Taking). IsClosing c.buffer (request_in y) y.verdict) same z.closing;
          place = c.released.place;
          entry = record { hand = l.hand; what = Release c.buffer };
          released = seen_whole (λ (y : MemEntry). y.hand) l.hand seen h o.1.memory c.released.place (record { hand = l.hand; what = Release c.buffer }) c.released.released;
          what = refl;
          below = c.released.below;
          behind = let lt = p.1 in omega (arith, place, lt);
        }

    end_past : (n : ℕ) (l : Landing) (t : Taking) → slice_get ls n ≡ Some l → slice_get ts l.index ≡ Some t → IsEndPast h l t
    end_past n l t at stands = step t.waits refl
      where
        step : (b : Bool) → t.waits ≡ b → IsEndPast h l t
        step false w =
            let e = ended_so n l t (one_hand l.hand (landing_hand n l at)) at stands w in
            record { left = e.taking_front; released = λ v. absurd (let z : true ≡ false = sym v ∙ w in cc) }
        step true w =
            let f = freed n l t at stands w in
            let one = waits_made t f.buffer f.closing w in
            let a = f.below in let b = f.behind in
            record {
              left = λ m lt. omega (arith, lt, one, a, b);
              released = λ _. (f.place, f.entry, f.released, f.what ∙ ap Release (sym f.closing.buffer), f.below);
            }

    -- ---- carried out

    carried_so : (n : ℕ) (l : Landing) (t : Taking) → slice_get ls n ≡ Some l → slice_get ts l.index ≡ Some t → IsLandingCarried client.plan.spec.part h s.steps l t
    carried_so n l t at stands = step t.waits refl
      where
        by_hand : t.waits ≡ false → (o : (hand : SessionHand) × IsHandOf l.hand hand) → steps_for l.hand client.plan.spec.number l.index o.1.kept.seen ≡ steps_of l.index s.steps
        by_hand w o =
            let hand : l.hand ≡ t.hand = landed_by n l t at stands w in
            ap (filter (λ (x : Step). x.session == client.plan.spec.number && x.index == l.index)) (sym o.1.kept.later.1)
            ∙ (sym (steps_same client.plan.spec.number l.hand l.index steps (λ p x xt session index. (step_hand p x t xt session (ap (slice_get ts) index ∙ stands)).0 ∙ sym hand))
            ∙ ap (steps_of l.index) (sym steps_are))

        own_moves : t.waits ≡ false → (o : (hand : SessionHand) × IsHandOf l.hand hand) → filter_map (record_entry l.index) (events (entries_of (λ (e : MemEntry). e.hand) l.hand (seen_by o.0.memory))) ≡ moves_for t.hand l.index h
        own_moves w o =
            ap (λ x. filter_map (record_entry l.index) (events x)) (sym o.1.memory.1)
            ∙ ap (λ j. moves_for j l.index h) (landed_by n l t at stands w)

        step : (b : Bool) → t.waits ≡ b → IsLandingCarried client.plan.spec.part h s.steps l t
        step false w =
            let o = one_hand l.hand (landing_hand n l at) in
            let e = ended_so n l t o at stands w in
            let same = by_hand w o in
            let moves = own_moves w o in
            record {
              carried = ap (carries_out (asked t.verdict client.plan.spec.part (request_in t))) (sym same) ∙ e.carried;
              outcome = e.outcome ∙ ap (outcome_of t.verdict (asked t.verdict client.plan.spec.part (request_in t))) same;
              moved = sym moves ∙ (e.moved ∙ (ap (λ x. moves_owed t.verdict l.end.outcome l.index (request_in t) x (moves_for l.hand l.index (seen_by o.0.memory))) same
                  ∙ ap (moves_owed t.verdict l.end.outcome l.index (request_in t) (steps_of l.index s.steps)) moves));
            }
        step true w =
            let f = freed n l t at stands w in
            let c = closed_so n l t (one_hand l.hand (landing_hand n l at)) at stands w in
            let none : steps_of l.index s.steps ≡ [] = ap (steps_of l.index) steps_are ∙ none_of (λ (x : Step). x.index == l.index) (steps_in client.plan.spec.number steps) (λ p x xt is.
            let q = from_filter (λ (y : Step). y.session == client.plan.spec.number) steps p x xt in
            let index : x.index ≡ l.index = eqb-true x.index l.index is in
            let u = step_hand q.0 x t q.1 (eqb-true x.session client.plan.spec.number q.2) (ap (slice_get ts) index ∙ stands) in
            let z : true ≡ false = sym w ∙ u.1 in cc) in
            let asks = asks_nothing t client.plan.spec.part f.buffer f.closing in
            let moves : moves_for t.hand l.index h ≡ [] = none_made l.index (entries_of (λ (x : MemEntry). x.hand) t.hand h) (λ p e et is.
            let q = from_filter (λ (x : MemEntry). x.hand == t.hand) h p e et in
            let hand : e.hand ≡ t.hand = eqb-true e.hand t.hand q.2 in
            let few = taking_hand l.index t stands in
            let m = move_done q.0 l.index e q.1 (omega (arith, hand, few)) is in
            let same : m.taking ≡ t = only_at ts l.index m.taking t m.stands stands in
            let z : true ≡ false = sym w ∙ (ap (λ (x : Taking). x.waits) (sym same) ∙ m.waits) in cc) in
            record {
              carried = ap (carries_out (asked t.verdict client.plan.spec.part (request_in t))) none;
              outcome = c.outcome ∙ sym (ap (outcome_of t.verdict (asked t.verdict client.plan.spec.part (request_in t))) none
                  ∙ (ap (λ a. outcome_of t.verdict a []) asks ∙ ap (λ v. outcome_of v [] []) f.closing.accepted));
              moved = moves ∙ sym (owes_nothing t f.buffer l.end.outcome l.index (steps_of l.index s.steps) (moves_for t.hand l.index h) f.closing);
            }

    pub kept_so : AreKept client hands h steps s g
    kept_so = record {
      pushed = pushed;
      fronts = record { steps_done = step_done; moves_done = move_done; ends_past = end_past; releases = due };
      steps_are = steps_are;
      carried = carried_so;
    }

pub hands_keep_sessions : HandsKeepSessions
hands_keep_sessions client hands h steps s g k steps_are = kept_so client hands h steps s g k steps_are
