-- A session is lawful, where its hands kept what they keep.
use Rattle.std.proofs.Common.{◌≡◌, ◌⊎◌, inl, inr, ℕ, zero, suc, ◌+◌, ◌<◌, ◌≤◌, ◌==◌, Bool, true, ◌&&◌, nat_lt, List, [], ◌∷◌, ◌++◌, filter, filter_map, length, map, Option, Some, None, refl, sym, ap, subst, ◌∙◌, arith, eq-eqb}
use Rattle.std.specs.List.{list_all, slice_get}
use Rattle.std.specs.Option.{option_map_or}
use Rattle.std.proofs.lemmas.Bool.{eqb-true, lt-ltb}
use Rattle.std.proofs.lemmas.Option.{get_or_from_slice_get}
use Rattle.host_block.proofs.Places.{from_filter, in_map, within}
use Rattle.host_record.specs.declared.status.Status.TheVariants as status
use Rattle.host_record.specs.{opcode}
use Rattle.host_model.specs.{MemEntry, MemEvent, TakenRow, Step, Refused, IsBufferHistory, AreCarriedOut, IsCarriedOut, asked, asked_in, carries_out, outcome_of, steps_of, IsLawfulSession, request_at, requests, HasEntries, HaveEntries, entries_of, entries_owed, record_entry, index_of, names_taken, row_at}
use Rattle.host_model.specs.Session.{Session}
use Rattle.host_memory.specs.{events}
use Rattle.host_intake.specs.{IntakeEntry, Took, Landed, Passed, Turned, Landing, Taking, landings, maker_of, place_of, request_in, taking_of, takings, made, made_for, made_under, row_in}
use Rattle.host_session.specs.{SessionHand, ClientState, moves_for, moves_owed}
use Rattle.session_law.specs.{IsLandingCarried, IsSessionGathered, Ended, AreKept, SessionsAreLawful}
use Rattle.session_law.proofs.Buffers.{told_so}
use Rattle.session_law.proofs.Draining.{drains_come_last}
use Rattle.session_law.proofs.Due.{all_landed, due_so}
use Rattle.session_law.proofs.Entries.{entries_are, owed}
use Rattle.session_law.proofs.Gathered.{index_is, taken_whole}
use Rattle.session_law.proofs.Ordered.{order_kept}
use Rattle.session_law.proofs.Owners.{client_none, hand_is, own_entry, request_is}
use Rattle.session_law.proofs.Places.{found_at, only_at}
use Rattle.host_log.proofs.Places.{some_at, in_filter}
use Rattle.session_law.proofs.Released.{entry_at}
use Rattle.session_law.proofs.Returned.{landing_at, outcome_at}
use Rattle.session_law.proofs.Taken.{in_order, row_count}
use Rattle.session_law.proofs.Used.{used_so}

all_from : {A : Type 0} (p : A → Bool) (xs : List A) → ((n : ℕ) (x : A) → slice_get xs n ≡ Some x → p x ≡ true) → list_all p xs ≡ true
all_from p [] h = refl
all_from p (x ∷ xs) h = ap (λ b. b && list_all p xs) (h 0 x refl) ∙ all_from p xs (λ n y at. h (suc n) y at)

module _ (client : ClientState) (hands : List SessionHand) (h : List MemEntry) (steps : List Step) (s : Session) (g : IsSessionGathered client hands h s) (k : AreKept client hands h steps s g) where
  abbrev ts : List Taking
  ts = takings g.whole.intake.entries

  abbrev ls : List Landing
  ls = landings g.whole.intake.entries

  -- a record that was taken, with its end
  pub record IsTaken (i : ℕ) : Type 0 where
    pub taking : Taking
    pub stands : slice_get ts i ≡ Some taking
    pub landing : Landing
    pub ended : Ended ls i landing
    pub row : row_at s.rows i ≡ row_in ls taking
    pub outcome : (row_at s.rows i).outcome ≡ landing.end.outcome
    pub place : place_of taking ≡ i
    pub carried : IsLandingCarried client.plan.spec.part h s.steps landing taking

  taken_at : (i : ℕ) → i < length s.rows → IsTaken i
  taken_at i lt =
      let n = row_count client hands h s g (drains_come_last client hands h s g k.pushed) k.fronts.releases in
      let t = some_at ts i (omega (arith, n, lt)) in
      let l = landing_at ts ls g.whole.intake.cell_seat (all_landed client hands h s g k.pushed) i (omega (arith, n, lt)) in
      let there : slice_get s.rows i ≡ Some (row_in ls t.0) = ap (λ r. slice_get r i) g.whole.rows_are ∙ in_map (row_in ls) ts i t.0 t.1 in
      let out : (row_at s.rows i).outcome ≡ l.1.end.outcome =
      ap (λ r. (row_at r i).outcome) g.whole.rows_are ∙ (ap (λ j. (row_at (map (row_in ls) ts) j).outcome) (sym l.3) ∙ outcome_at ts ls g.whole.intake.cell_seat (all_landed client hands h s g k.pushed) l.0 l.1 l.2) in
      record {
        taking = t.0;
        stands = t.1;
        landing = l.1;
        ended = (l.0, l.2, l.3);
        row = get_or_from_slice_get s.rows i (row_in ls t.0) (record { verdict = Refused status.Io; outcome = status.Io }) there;
        outcome = out;
        place = index_is client hands h s g i t.0 t.1;
        carried = k.carried l.0 l.1 t.0 l.2 (ap (slice_get ts) l.3 ∙ t.1);
      }

  -- ---- who took it

  -- the hands that took records are none of the admissions
  hand_few : (i : ℕ) (t : Taking) → slice_get ts i ≡ Some t → t.hand ≡ client.plan.hands + 1 → ⊥
  hand_few i t at own =
      let r = found_at taking_of g.whole.intake.entries i t at in
      let made_by : maker_of r.1 ≡ t.hand = maker_is r.1 t r.3 in
      let f = in_filter (λ (e : IntakeEntry). maker_of e == t.hand) g.whole.intake.entries r.0 r.1 r.2 (eq-eqb (maker_of r.1) t.hand made_by) in
      none_here (turn_entries t.hand) f.0 r.1 (g.whole.intake_history.others t.hand (omega arith)) f.1
    where
      turn_entries : ℕ → List IntakeEntry
      turn_entries n = filter (λ (e : IntakeEntry). maker_of e == n) g.whole.intake.entries

      maker_is : (e : IntakeEntry) (t : Taking) → taking_of e ≡ Some t → maker_of e ≡ t.hand
      maker_is (Took hand envelope verdict waits seen) t e = ap (λ (o : Option Taking). option_map_or (λ (x : Taking). x.hand) o 0) e
      maker_is (Landed hand index end answer kept) t e = absurd (cc)
      maker_is (Passed hand) t e = absurd (cc)
      maker_is (Turned hand phase) t e = absurd (cc)

      none_here : (xs : List IntakeEntry) (j : ℕ) (e : IntakeEntry) → xs ≡ [] → slice_get xs j ≡ Some e → ⊥
      none_here [] zero e n x = cc
      none_here [] (suc j) e n x = cc
      none_here (y ∷ ys) j e n x = cc n

  -- ---- the record of an entry

  pub record IsEntryOf (p i : ℕ) (e : MemEntry) : Type 0 where
    pub taking : Taking
    pub stands : slice_get ts i ≡ Some taking
    pub where_is : ((e.hand ≡ taking.hand) × (taking.seen + length (made taking) ≤ p)) ⊎ ((e.hand ≡ client.plan.hands + 1) × (p ≡ taking.seen) × (0 < length (made taking)))

  entry_taken : (p i : ℕ) (e : MemEntry) → slice_get h p ≡ Some e → index_of e.what ≡ Some i → IsEntryOf p i e
  entry_taken p i e at is = step (hand_is client hands h s g (drains_come_last client hands h s g k.pushed) k.fronts.releases p e at)
    where
      step : (e.hand < client.plan.hands) ⊎ ((e.hand ≡ client.plan.hands) ⊎ (e.hand ≡ client.plan.hands + 1)) → IsEntryOf p i e
      step (inl hand) = let m = k.fronts.moves_done p i e at hand is in record { taking = m.taking; stands = m.stands; where_is = inl (sym m.by, m.behind) }
      step (inr (inl hand)) = absurd (client_none client hands h s g (drains_come_last client hands h s g k.pushed) k.fronts.releases p i e at hand is)
      step (inr (inr hand)) = let o = own_entry client hands h s g (drains_come_last client hands h s g k.pushed) k.fronts.releases p i e at hand is in record { taking = o.0; stands = o.1; where_is = inr (hand, o.2, o.3) }

  module _ (i : ℕ) (t : Taking) (stands : slice_get ts i ≡ Some t) where
    split_at : (p : ℕ) (e : MemEntry) → slice_get h p ≡ Some e → index_of e.what ≡ Some i → ((e.hand ≡ t.hand) × (t.seen + length (made t) ≤ p)) ⊎ ((e.hand ≡ client.plan.hands + 1) × (p ≡ t.seen) × (0 < length (made t)))
    split_at p e at is =
        let x = entry_taken p i e at is in
        let same : x.taking ≡ t = only_at ts i x.taking t x.stands stands in
        subst (λ (w : Taking). ((e.hand ≡ w.hand) × (w.seen + length (made w) ≤ p)) ⊎ ((e.hand ≡ client.plan.hands + 1) × (p ≡ w.seen) × (0 < length (made w)))) same x.where_is

    own_are : filter_map (record_entry i) (events h) ≡ filter_map (record_entry i) (made t) ++ moves_for t.hand i h
    own_are = entries_are i t.hand h t.seen (length (made t)) (client.plan.hands + 1) (made t) ((taken_whole client hands h s g).judged i t stands).left
        (λ p e at is. first e p (split_at p e at is))
        (λ p e at is le. second p e le (split_at p e at is))
        (λ p e at is lt own. third p e lt own (split_at p e at is))
      where
        first : (e : MemEntry) (p : ℕ) → ((e.hand ≡ t.hand) × (t.seen + length (made t) ≤ p)) ⊎ ((e.hand ≡ client.plan.hands + 1) × (p ≡ t.seen) × (0 < length (made t))) → t.seen ≤ p
        first e p (inl x) = let l = x.1 in omega arith
        first e p (inr x) = let q = x.1 in omega arith

        second : (p : ℕ) (e : MemEntry) → t.seen + length (made t) ≤ p → ((e.hand ≡ t.hand) × (t.seen + length (made t) ≤ p)) ⊎ ((e.hand ≡ client.plan.hands + 1) × (p ≡ t.seen) × (0 < length (made t))) → e.hand ≡ t.hand
        second p e le (inl x) = x.0
        second p e le (inr x) = absurd (let q = x.1 in let z = x.2 in omega arith)

        third : (p : ℕ) (e : MemEntry) → p < t.seen + length (made t) → e.hand ≡ t.hand → ((e.hand ≡ t.hand) × (t.seen + length (made t) ≤ p)) ⊎ ((e.hand ≡ client.plan.hands + 1) × (p ≡ t.seen) × (0 < length (made t))) → ⊥
        third p e lt own (inl x) = let l = x.1 in omega arith
        third p e lt own (inr x) = hand_few i t stands (sym own ∙ x.0)

  -- ---- each record

  has_entries : (i : ℕ) → i < length s.rows → HasEntries s i
  has_entries i lt =
      let x = taken_at i lt in
      let t : Taking = x.taking in
      let l : Landing = x.landing in
      let own : List MemEvent = entries_of i s.memory in
      let moved : moves_for t.hand i h ≡ moves_owed t.verdict l.end.outcome i (request_in t) (steps_of i s.steps) (moves_for t.hand i h) =
      subst (λ j. moves_for t.hand j h ≡ moves_owed t.verdict l.end.outcome j (request_in t) (steps_of j s.steps) (moves_for t.hand j h)) x.ended.2 x.carried.moved in
      let all : entries_of i s.memory ≡ filter_map (record_entry i) (made_under t.verdict (made_for (opcode (request_in t)) i (request_in t).vmoid t.hand t.waits)) ++ moves_for t.hand i h =
      ap (filter_map (record_entry i)) g.memory ∙ (own_are i t x.stands
      ∙ ap (λ j. filter_map (record_entry i) (made_under t.verdict (made_for (opcode (request_in t)) j (request_in t).vmoid t.hand t.waits)) ++ moves_for t.hand i h) x.place) in
      let owes : entries_of i s.memory ≡ entries_owed t.verdict l.end.outcome i (request_in t) (steps_of i s.steps) (entries_of i s.memory) =
      owed l.end.outcome i (request_in t) t.hand (steps_of i s.steps) (entries_of i s.memory) (moves_for t.hand i h) t.verdict t.waits all moved in
      let verdict : t.verdict ≡ (row_at s.rows i).verdict = ap (λ (r : TakenRow). r.verdict) (sym x.row) in
      let asks : request_in t ≡ request_at (requests s.log) i = sym (request_is client hands h s g (drains_come_last client hands h s g k.pushed) k.fronts.releases i t x.stands) in
      owes
      ∙ (ap (λ v. entries_owed v l.end.outcome i (request_in t) (steps_of i s.steps) (entries_of i s.memory)) verdict
      ∙ (ap (λ o. entries_owed (row_at s.rows i).verdict o i (request_in t) (steps_of i s.steps) (entries_of i s.memory)) (sym x.outcome)
      ∙ ap (λ r. entries_owed (row_at s.rows i).verdict (row_at s.rows i).outcome i r (steps_of i s.steps) (entries_of i s.memory)) asks))

  names_few : (p : ℕ) (w : MemEvent) → slice_get s.memory p ≡ Some w → names_taken (length s.rows) w ≡ true
  names_few p w at = step (index_of w) refl
    where
      step : (o : Option ℕ) → index_of w ≡ o → option_map_or (λ i. nat_lt i (length s.rows)) o true ≡ true
      step None e = refl
      step (Some i) e =
          let x = entry_at h p w (ap (λ l. slice_get l p) (sym g.memory) ∙ at) in
          let r = entry_taken p i x.0 x.1 (ap index_of x.2 ∙ e) in
          let a = within ts i r.taking r.stands in
          let n = row_count client hands h s g (drains_come_last client hands h s g k.pushed) k.fronts.releases in
          lt-ltb i (length s.rows) (omega (arith, a, n))

  pub have_entries : HaveEntries s
  have_entries = record { each = has_entries; others = all_from (names_taken (length s.rows)) s.memory names_few }

  is_carried : (i : ℕ) → i < length s.rows → IsCarriedOut s i
  is_carried i lt =
      let x = taken_at i lt in
      let t : Taking = x.taking in
      let l : Landing = x.landing in
      let verdict : t.verdict ≡ (row_at s.rows i).verdict = ap (λ (r : TakenRow). r.verdict) (sym x.row) in
      let asks : request_in t ≡ request_at (requests s.log) i = sym (request_is client hands h s g (drains_come_last client hands h s g k.pushed) k.fronts.releases i t x.stands) in
      let same : asked t.verdict client.plan.spec.part (request_in t) ≡ asked_in s i =
      ap (λ v. asked v client.plan.spec.part (request_in t)) verdict ∙ (ap (λ p. asked (row_at s.rows i).verdict p (request_in t)) (sym g.range) ∙ ap (asked (row_at s.rows i).verdict s.range) asks) in
      let done : carries_out (asked t.verdict client.plan.spec.part (request_in t)) (steps_of i s.steps) ≡ true = subst (λ j. carries_out (asked t.verdict client.plan.spec.part (request_in t)) (steps_of j s.steps) ≡ true) x.ended.2 x.carried.carried in
      let out : l.end.outcome ≡ outcome_of t.verdict (asked t.verdict client.plan.spec.part (request_in t)) (steps_of i s.steps) =
      subst (λ j. l.end.outcome ≡ outcome_of t.verdict (asked t.verdict client.plan.spec.part (request_in t)) (steps_of j s.steps)) x.ended.2 x.carried.outcome in
      record {
        steps = ap (λ a. carries_out a (steps_of i s.steps)) (sym same) ∙ done;
        outcome = x.outcome ∙ (out ∙ (ap (λ v. outcome_of v (asked t.verdict client.plan.spec.part (request_in t)) (steps_of i s.steps)) verdict ∙ ap (λ a. outcome_of (row_at s.rows i).verdict a (steps_of i s.steps)) same));
      }

  pub carried_out : AreCarriedOut s
  carried_out = record {
    each = is_carried;
    others = all_from (λ (step : Step). nat_lt step.index (length s.rows)) s.steps (λ n x at.
        let f = from_filter (λ (step : Step). step.session == client.plan.spec.number) steps n x (ap (λ l. slice_get l n) (sym k.steps_are) ∙ at) in
        let d = k.fronts.steps_done f.0 x f.1 (eqb-true x.session client.plan.spec.number f.2) in
        let a = within ts x.index d.taking d.stands in
        let m = row_count client hands h s g (drains_come_last client hands h s g k.pushed) k.fronts.releases in
        lt-ltb x.index (length s.rows) (omega (arith, a, m)));
  }

  pub buffers_are : IsBufferHistory s
  buffers_are =
      let b = told_so client hands h s g in
      record {
        client = b.client;
        pages = b.pages;
        records = have_entries;
        releases = b.releases;
        used = used_so client hands h s g (drains_come_last client hands h s g k.pushed) k.fronts.releases g.whole.client_of.told.found;
      }

  pub lawful : IsLawfulSession s
  lawful = record {
    taken = in_order client hands h s g (drains_come_last client hands h s g k.pushed) k.fronts.releases;
    carried = carried_out;
    answered = due_so client hands h s g k.pushed;
    buffers = buffers_are;
    ordered = order_kept client hands h steps s g k.pushed k.fronts k.steps_are;
  }

pub sessions_are_lawful : SessionsAreLawful
sessions_are_lawful client hands h steps s g k = lawful client hands h steps s g k
