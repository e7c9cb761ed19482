-- What a visit leaves, put together.
use Rattle.std.proofs.Common.{◌≡◌, ℕ, suc, ◌==◌, Option, Some, ◌+◌, Bool, true, false, not, ◌&&◌, ◌||◌, List, [], ◌∷◌, length, filter, cond, refl, sym, ap, subst, ◌∙◌, arith}
use Rattle.std.proofs.Math.Bool.{and-false}
use Rattle.std.specs.Prelude.{MatchOption}
use Rattle.std.specs.List.{list_any, slice_get}
use Rattle.std.proofs.lemmas.Bool.{eqb-true}
use Rattle.std.proofs.lemmas.Option.{slice_get_within}
use Rattle.std.proofs.lemmas.List.Elements.{All-nil, All-cons}
use Rattle.atomic_table.specs.Seated.{TableId}
use Rattle.host_device.specs.{DeviceFixed}
use Rattle.host_frames.specs.{PoolSeat, given_back}
use Rattle.host_intake.specs.{IntakeEntry, Passed, Phase, Running, Draining, Aborted, Closed, taking_entry, Taking, maker_of, request_in, takings, is_shut, phase_in}
use Rattle.host_model.specs.{MemEntry, MemEvent, Attach, Fill, Show, Pin, Lift, Land, Done, Release, Step, index_of, count, is_accepted}
use Rattle.host_memory.specs.{is_done_for, events}
use Rattle.host_model.specs.declared.memory.MemEvent.TheVariants as mem
use Rattle.host_record.specs.{opcode, is_close}
use Rattle.host_rings.specs.{Slip, SlipSenderState}
use Rattle.host_turn.specs.{BookSeat, IsOutside, seen_by}
use Rattle.host_log.specs.{Continues, entries_of, HasAdded}
use Rattle.host_log.proofs.Histories.{prefix_refl, prefix_trans}
use Rattle.host_session.specs.{SessionHand, SessionSpec}
use Rattle.host_session.proofs.Turning.{same_seat}
use Rattle.host_hand.specs.{Job, Visit, frames_out, is_closer, HasDoneBelow, HasJob, HasPassed, HasTakenNext, IsJobOf, IsAtSession, KeepsSession, IsSameHand, KeepsClaims, IsMoveTaken, IsPastTaking, IsTakenBy, HasServed, HasStepped, CannotTake, HasSeenMore, IsVisitTold, begun_by, done_at, is_begun, is_closed_visit, pages_with}
use Rattle.host_hand.specs.declared.visit.Visit.TheVariants as visit
use Rattle.host_hand.proofs.Framing.{closed_added, one_closer, out_still}
use Rattle.host_log.proofs.Growing.{added_nothing, added_refl, added_turn}
use Rattle.host_hand.proofs.Keeping.{begun_added, kept_later, kept_passed, kept_waiting, taken_added}

-- ---- the hand and its seats

pub same_hand : (a b c : SessionHand) → IsSameHand a b → IsSameHand b c → IsSameHand a c
same_hand a b c p q = record {
  intake = (same_seat a.intake b.intake c.intake p.intake.0 q.intake.0, q.intake.1);
  memory = (same_seat a.memory b.memory c.memory p.memory.0 q.memory.0, q.memory.1);
  sender = (q.sender.0 ∙ p.sender.0, q.sender.1 ∙ p.sender.1);
}

pub seen_more : (a b c : SessionHand) → HasSeenMore a b → HasSeenMore b c → HasSeenMore a c
seen_more a b c p q = record {
  intake = prefix_trans (seen_by a.intake) (seen_by b.intake) (seen_by c.intake) p.intake q.intake;
  buffers = prefix_trans (seen_by a.memory) (seen_by b.memory) (seen_by c.memory) p.buffers q.buffers;
}

pub stepped_nothing : {S D : Type 0} (session n : ℕ) (seat : BookSeat S Step (DeviceFixed D)) → IsOutside seat → HasStepped session n seat seat
stepped_nothing session n seat out = record {
  seat = ((refl, refl, refl, refl), out);
  steps = [];
  added = added_refl (λ step. step.hand) n (seen_by seat);
  named = All-nil (λ (step : Step). step.session ≡ session);
}

claims_still : (pool : PoolSeat) → KeepsClaims pool pool
claims_still pool = record { pool_is = refl; claims_are = refl; granted_is = refl }

shut_closed : (p : Phase) → is_shut p ≡ true → p ≡ Closed
shut_closed Running e = absurd (cc e)
shut_closed Draining e = absurd (cc e)
shut_closed Aborted e = absurd (cc e)
shut_closed Closed e = refl

-- ---- a visit that took nothing to carry out

module _ {S D : Type 0} (spec : SessionSpec) (told n : ℕ) (old new : SessionHand) (seat : BookSeat S Step (DeviceFixed D)) (pool : PoolSeat) (before : List IntakeEntry)
    (same : IsSameHand old new) (out : IsOutside seat) (keeps : KeepsSession spec n old (seen_by seat))
    (later : Continues maker_of n (seen_by old.intake) before) (buffers : Continues (λ e. e.hand) n (seen_by old.memory) (seen_by new.memory)) where
  -- what it kept goes on to what it found
  pub found_kept : IsAtSession spec n before (seen_by new.memory) (seen_by seat) old.sender.pushed
  found_kept = kept_later spec n (seen_by old.intake) before (seen_by old.memory) (seen_by new.memory) (seen_by seat) old.sender.pushed later buffers keeps

  -- its own entries are these more
  visited : (added : List IntakeEntry) (answer : Visit) → HasAdded maker_of n added (seen_by old.intake) (seen_by new.intake) → filter is_closer (takings added) ≡ [] → count is_begun added ≡ done_at answer
      → is_closed_visit answer ≡ is_shut (phase_in (seen_by new.intake)) → IsVisitTold told answer (seen_by new.intake) → KeepsSession spec n new (seen_by seat) → HasServed spec n old new seat seat pool pool told answer
  visited added answer a none begun closed tells k = record {
    hand = same;
    more = record { intake = a.begins; buffers = buffers.0 };
    stepped = stepped_nothing spec.number n seat out;
    keeps = k;
    claims = claims_still pool;
    frames = ap (λ x. given_back pool + x) (sym (out_still n (seen_by old.intake) (seen_by new.intake) (seen_by old.memory) (seen_by new.memory) added a none buffers keeps.seen));
    begun = begun_added n added (seen_by old.intake) (seen_by new.intake) a ∙ ap (λ x. begun_by n (seen_by old.intake) + x) begun;
    closed = closed;
    told = tells;
  }

  nothing_more : seen_by new.intake ≡ before → HasAdded maker_of n [] (seen_by old.intake) (seen_by new.intake)
  nothing_more is = subst (λ l. HasAdded maker_of n [] (seen_by old.intake) l) (sym is) (added_nothing maker_of n (seen_by old.intake) before later)

  still_kept : seen_by new.intake ≡ before → new.sender ≡ old.sender → KeepsSession spec n new (seen_by seat)
  still_kept is sender = subst (λ (s : SlipSenderState). IsAtSession spec n (seen_by new.intake) (seen_by new.memory) (seen_by seat) s.pushed) (sym sender)
      (subst (λ l. IsAtSession spec n l (seen_by new.memory) (seen_by seat) old.sender.pushed) (sym is) found_kept)

  pub closed_served : new.sender ≡ old.sender → seen_by new.intake ≡ before → is_shut (phase_in (seen_by new.intake)) ≡ true → HasServed spec n old new seat seat pool pool told visit.Closed
  closed_served sender is shut = visited [] visit.Closed (nothing_more is) refl refl (sym shut) (shut_closed (phase_in (seen_by new.intake)) shut) (still_kept is sender)

  pub idle_served : new.sender ≡ old.sender → seen_by new.intake ≡ before → is_shut (phase_in (seen_by new.intake)) ≡ false → CannotTake told (seen_by new.intake) → HasServed spec n old new seat seat pool pool told visit.Idle
  idle_served sender is shut take = visited [] visit.Idle (nothing_more is) refl refl (sym shut) take (still_kept is sender)

  pub passed_served : HasPassed n before (seen_by new.intake) old.sender new.sender → is_shut (phase_in (seen_by new.intake)) ≡ false → HasServed spec n old new seat seat pool pool told visit.Did
  passed_served p shut =
      visited (Passed n ∷ []) visit.Did (added_turn maker_of n (Passed n ∷ []) (seen_by old.intake) before (seen_by new.intake) later p.entries (All-cons (λ e. maker_of e ≡ n) (Passed n) [] refl (All-nil (λ e. maker_of e ≡ n)))) refl refl (sym shut) tt
      (subst (λ (s : SlipSenderState). IsAtSession spec n (seen_by new.intake) (seen_by new.memory) (seen_by seat) s.pushed) (sym p.sender)
      (kept_passed spec n before (seen_by new.intake) (seen_by new.memory) (seen_by new.memory) (seen_by seat) old.sender.pushed p.slip p.oldest p.entries (prefix_refl (seen_by new.memory), refl) found_kept))

  -- the taking of a record
  taken_entry : (t : Taking) → HasTakenNext n spec.part before (seen_by new.intake) (seen_by new.memory) t → HasAdded maker_of n (taking_entry t ∷ []) (seen_by old.intake) (seen_by new.intake)
  taken_entry t k = added_turn maker_of n (taking_entry t ∷ []) (seen_by old.intake) before (seen_by new.intake) later k.entries (All-cons (λ e. maker_of e ≡ n) (taking_entry t) [] k.by (All-nil (λ e. maker_of e ≡ n)))

  pub waits_served : (t : Taking) → new.sender ≡ old.sender → is_shut (phase_in (seen_by new.intake)) ≡ false → HasTakenNext n spec.part before (seen_by new.intake) (seen_by new.memory) t → t.waits ≡ true → HasServed spec n old new seat seat pool pool told visit.Did
  waits_served t sender shut k waits =
      visited (taking_entry t ∷ []) visit.Did (taken_entry t k) (no_closer t waits) refl (sym shut) tt
      (subst (λ (s : SlipSenderState). IsAtSession spec n (seen_by new.intake) (seen_by new.memory) (seen_by seat) s.pushed) (sym sender)
      (kept_waiting spec n before (seen_by new.intake) (seen_by new.memory) (seen_by new.memory) (seen_by seat) old.sender.pushed t k.by waits k.judged.seen k.entries (prefix_refl (seen_by new.memory), refl) found_kept))
    where
      no_closer : (t : Taking) → t.waits ≡ true → filter is_closer (t ∷ []) ≡ []
      no_closer t w = ap (λ b. cond (is_accepted t.verdict && is_close (opcode (request_in t)) && not b) (t ∷ []) []) w ∙ ap (λ b. cond b (t ∷ []) []) (and-false (is_accepted t.verdict && is_close (opcode (request_in t))))

  -- ---- a visit that took a job

  module _ (cells : TableId) (pages : TableId × ℕ) (job : Job) (t : Taking) (sender : new.sender ≡ old.sender) (k : HasTakenNext n spec.part before (seen_by new.intake) (seen_by new.memory) t)
      (j : IsJobOf cells spec pages (seen_by new.intake) (seen_by new.memory) t job) where
    pub job_taken : HasJob cells spec pages n (seen_by new.intake) (seen_by new.memory) (seen_by seat) new.sender.pushed job
    job_taken = record {
      before = before;
      taking = t;
      kept = subst (λ (s : SlipSenderState). IsAtSession spec n before (seen_by new.memory) (seen_by seat) s.pushed) (sym sender) found_kept;
      taken = k;
      job_is = j;
    }

    -- the pages that come with the job
    pages_came : frames_out n new ≡ frames_out n old + pages_with job.work
    pages_came =
        let still = out_still n (seen_by old.intake) before (seen_by old.memory) (seen_by new.memory) [] (added_nothing maker_of n (seen_by old.intake) before later) refl buffers keeps.seen in
        let more = closed_added n (taking_entry t ∷ []) before (seen_by new.intake) (seen_by new.memory) (taken_added n before (seen_by new.intake) t k.by k.entries) in
        let one = one_closer (seen_by new.memory) t in
        omega (arith, j.pages)

    pub job_served : (last : SessionHand) (seat' : BookSeat S Step (DeviceFixed D)) (pool' : PoolSeat) → IsSameHand new last → HasStepped spec.number n seat seat' → KeepsClaims pool pool' → KeepsSession spec n last (seen_by seat') → HasSeenMore new last
        → given_back pool' + frames_out n new ≡ given_back pool + pages_with job.work + frames_out n last → begun_by n (seen_by last.intake) ≡ begun_by n (seen_by new.intake) → is_shut (phase_in (seen_by last.intake)) ≡ false → HasServed spec n old last seat seat' pool pool' told visit.Did
    job_served last seat' pool' hand stepped claims kept more frames begun shut = record {
      hand = same_hand old new last same hand;
      more = seen_more old new last (record { intake = (taken_entry t k).begins; buffers = buffers.0 }) more;
      stepped = stepped;
      keeps = kept;
      claims = claims;
      frames = let came = pages_came in omega arith;
      begun = begun ∙ begun_added n (taking_entry t ∷ []) (seen_by old.intake) (seen_by new.intake) (taken_entry t k);
      closed = sym shut;
      told = tt;
    }

-- ---- the hand has let go of no buffer for a record that is still to be taken

done_names : (i : ℕ) (m : MemEvent) → is_done_for i m ≡ true → index_of m ≡ Some i
done_names i (Done index id) e = ap Some (eqb-true index i e)
done_names i (Attach id pages from) e = absurd (cc e)
done_names i (Fill id block count byte) e = absurd (cc e)
done_names i (Show id block count) e = absurd (cc e)
done_names i (Pin index id by) e = absurd (cc e)
done_names i (Lift index k id block bytes) e = absurd (cc e)
done_names i (Land index k id block bytes) e = absurd (cc e)
done_names i (mem.Close index id) e = absurd (cc e)
done_names i (Release id) e = absurd (cc e)

-- nothing of the kind among the maker's entries
none_own : (p : MemEvent → Bool) (n : ℕ) (h : List MemEntry) → ((k : ℕ) (x : MemEntry) → slice_get h k ≡ Some x → x.hand ≡ n → p x.what ≡ false) → list_any p (events (entries_of (λ x. x.hand) n h)) ≡ false
none_own p n [] never = refl
none_own p n (x ∷ h) never = at (x.hand == n) refl (none_own p n h (λ k y at by. never (suc k) y at by))
  where
    at : (b : Bool) → (x.hand == n) ≡ b → list_any p (events (entries_of (λ x. x.hand) n h)) ≡ false → list_any p (events (cond b (x ∷ entries_of (λ x. x.hand) n h) (entries_of (λ x. x.hand) n h))) ≡ false
    at true is rest = ap (λ b. b || list_any p (events (entries_of (λ x. x.hand) n h))) (never 0 x refl (eqb-true x.hand n is)) ∙ rest
    at false is rest = rest

pub done_below : (spec : SessionSpec) (n : ℕ) (es : List IntakeEntry) (h : List MemEntry) (made : List Step) (pushed : List Slip) → IsAtSession spec n es h made pushed → HasDoneBelow n (length (takings es)) h
done_below spec n es h made pushed k i le = none_own (is_done_for i) n h (λ p x at by. other (is_done_for i x.what) (is_done_for i x.what) refl (λ done. clash p x (done_names i x.what done) (k.moves p x at by)))
  where
    clash : (p : ℕ) (x : MemEntry) → index_of x.what ≡ Some i → IsMoveTaken es n p x → ⊥
    clash p x same m =
        let q = subst (λ (o : Option ℕ). MatchOption o (Unit {0}) (λ i. (u : Taking) × IsTakenBy es n i u × IsPastTaking p u)) same m in
        let less = slice_get_within (takings es) i q.0 q.1.stands in omega arith

    other : (b c : Bool) → c ≡ b → (c ≡ true → ⊥) → c ≡ false
    other true c is f = absurd (f is)
    other false c is f = is
