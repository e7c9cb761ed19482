-- A job is done: what the calls that did it come to.
use Rattle.std.proofs.Common.{◌≡◌, ℕ, ◌+◌, ◌≤◌, Bool, true, false, ◌||◌, List, [], ◌∷◌, ◌++◌, length, Option, Some, None, refl, sym, ap, ap₂, subst, ◌∙◌, arith, ne_eqb}
use Rattle.std.specs.Prelude.{MatchOption, slice_get}
use Rattle.std.specs.List.{All, list_any}
use Rattle.std.proofs.lemmas.List.Elements.{All-head, All-tail, filter_map-append}
use Rattle.std.proofs.lemmas.List.Folds.{list_any-append}
use mathlib.Core.List.{IsPrefix}
use Rattle.atomic_table.specs.Seated.{TableId}
use Rattle.host_block.specs.declared.range.Range.{Range}
use Rattle.host_frames.specs.{SeenPages, pages_pool}
use Rattle.host_group.specs.{CellSeat}
use Rattle.host_intake.specs.{IntakeEntry, Landed, RecordEnd, taking_entry, answer_owed, Landing, Taking, is_landing_of, maker_of, place_of, request_in, taking_of, takings}
use Rattle.host_log.proofs.Places.{get_last}
use Rattle.host_model.specs.{MemEntry, Step}
use Rattle.host_rings.specs.{Slip, SlipSenderState}
use Rattle.host_log.proofs.Histories.{prefix_refl}
use Rattle.host_session.specs.{SessionSpec}
use Rattle.host_hand.specs.{Carried, Errand, Job, IsBufferFreed, pages_freed, HasRightTo, IsRecordEndOf, IsInFlightBy, LandsFreed, WasUsed, slips_pushed, sender_with_slips, errand_of, taken_out, HasJob, IsAtSession, own_landings, IsEndingRecord, begun_by, HasCarried}
use Rattle.host_log.specs.{HasAdded}
use Rattle.host_hand.proofs.Endings.{index_within}
use Rattle.host_hand.proofs.Entered.{own_landings_added, taken_longer}
use Rattle.host_hand.proofs.Finished.{Finish, begun_ended, kept_ended, longer_ended, out_ended, stepped_ended}
use Rattle.host_log.proofs.Growing.{grown_added}
use Rattle.host_hand.proofs.Keeping.{taken_added}
use Rattle.host_hand.proofs.Landed.{right_settled, right_to, settled_longer}

-- what ending the close that waited leaves as it was
pub lands_longer : (n front : ℕ) (freed : Option (ℕ × SeenPages)) (es more : List IntakeEntry) (s s' : SlipSenderState) → LandsFreed n front freed es more s s' → IsPrefix es more
lands_longer n front None es more s s' k = subst (λ l. IsPrefix es l) (sym k.0) (prefix_refl es)
lands_longer n front (Some freed) es more s s' k = k.added.begins

pub lands_sender : (n front : ℕ) (freed : Option (ℕ × SeenPages)) (es more : List IntakeEntry) (s s' : SlipSenderState) → LandsFreed n front freed es more s s' → (s'.ring ≡ s.ring) × (s'.number ≡ s.number)
lands_sender n front None es more s s' k = (ap (λ (x : SlipSenderState). x.ring) k.1, ap (λ (x : SlipSenderState). x.number) k.1)
lands_sender n front (Some freed) es more s s' k = (ap (λ (x : SlipSenderState). x.ring) k.sender, ap (λ (x : SlipSenderState). x.number) k.sender)

pub freed_pages : (e : Errand) (pool : TableId × ℕ) (front : ℕ) (h : List MemEntry) (freed : Option (ℕ × SeenPages)) → IsBufferFreed e pool front h freed → MatchOption freed (Unit {0}) (λ f. pages_pool f.1 ≡ pool)
freed_pages e pool front h None k = tt
freed_pages e pool front h (Some f) k = k.0

-- none of these is the end of a record that was taken later
none_ended : (part : Range) (s n i : ℕ) (es : List IntakeEntry) (h : List MemEntry) (made : List Step) (ls : List Landing) → length (takings es) ≤ i → All (IsEndingRecord part s n es h made) ls → list_any (is_landing_of i) ls ≡ false
none_ended part s n i es h made [] le all = refl
none_ended part s n i es h made (l ∷ ls) le all =
    let less = index_within part s n es h made l (All-head (IsEndingRecord part s n es h made) l ls all) in
    ap₂ (λ a b. a || b) (ne_eqb l.index i (λ e. omega arith)) (none_ended part s n i es h made ls le (All-tail (IsEndingRecord part s n es h made) l ls all))

-- the close that waited is another record than one that didn't
close_other : (n i front : ℕ) (freed : Option (ℕ × SeenPages)) (es more : List IntakeEntry) (s s' : SlipSenderState) (t : Taking) → slice_get (takings more) i ≡ Some t → t.waits ≡ false
    → LandsFreed n front freed es more s s' → list_any (is_landing_of i) (own_landings n es) ≡ false → list_any (is_landing_of i) (own_landings n more) ≡ false
close_other n i front None es more s s' t at still k open_before = ap (λ l. list_any (is_landing_of i) (own_landings n l)) k.0 ∙ open_before
close_other n i front (Some freed) es more s s' t at still k open_before =
    ap (list_any (is_landing_of i)) (own_landings_added n _ es more k.added)
    ∙ (list_any-append (is_landing_of i) (own_landings n es) _
    ∙ ap₂ (λ a b. a || (b || false)) open_before (ne_eqb freed.0 i (λ e.
    let w : t.waits ≡ true = subst (λ (o : Option Taking). MatchOption o ⊥ (λ u. u.waits ≡ true)) (ap (slice_get (takings more)) e ∙ at) k.waits in cc (w, still))))

module _ (cells : TableId) (spec : SessionSpec) (pool : TableId × ℕ) (n : ℕ) (es1 : List IntakeEntry) (h : List MemEntry) (old_s : List Step) (s : SlipSenderState) (job : Job) (e : Errand)
    (is : e ≡ errand_of n spec job.envelope) (j : HasJob cells spec pool n es1 h old_s s.pushed job) where
  errand_is : e ≡ errand_of n spec j.taking.envelope
  errand_is = is ∙ ap (errand_of n spec) (sym j.job_is.envelope)

  pub index_is : e.index ≡ place_of j.taking
  index_is = ap (λ (x : Errand). x.index) errand_is

  request_is : e.request ≡ request_in j.taking
  request_is = ap (λ (x : Errand). x.request) errand_is

  stands : slice_get (takings es1) (place_of j.taking) ≡ Some j.taking
  stands = ap (λ es. slice_get (takings es) (place_of j.taking)) j.taken.entries
      ∙ (ap (λ l. slice_get l (place_of j.taking)) (filter_map-append taking_of j.before (taking_entry j.taking ∷ []))
      ∙ (ap (λ k. slice_get (takings j.before ++ j.taking ∷ []) k) j.taken.index ∙ get_last (takings j.before) j.taking))

  -- its right settles it
  pub job_right : HasRightTo cells e.request e.index job.right
  job_right = subst (λ r. HasRightTo cells r e.index job.right) (sym request_is) (subst (λ i. HasRightTo cells (request_in j.taking) i job.right) (sym index_is) (right_to cells (takings es1) j.taking job.right j.job_is.right))

  open_before : list_any (is_landing_of (place_of j.taking)) (own_landings n es1) ≡ false
  open_before =
      ap (list_any (is_landing_of (place_of j.taking))) (own_landings_added n (taking_entry j.taking ∷ []) j.before es1 (taken_added n j.before es1 j.taking j.taken.by j.taken.entries))
      ∙ (list_any-append (is_landing_of (place_of j.taking)) (own_landings n j.before) []
      ∙ ap (λ b. b || false) (none_ended spec.part spec.number n (place_of j.taking) j.before h old_s (own_landings n j.before) (let i = j.taken.index in omega arith) j.kept.endings))

  module _ (es2 : List IntakeEntry) (s' : SlipSenderState) (front : ℕ) (freed : Option (ℕ × SeenPages)) (b : IsPrefix es1 es2) (ends_freed : LandsFreed e.hand front freed es1 es2 s s') where
    lands : LandsFreed n front freed es1 es2 s s'
    lands = subst (λ (x : Errand). LandsFreed x.hand front freed es1 es2 s s') is ends_freed

    -- it is in flight still
    pub job_flies : IsInFlightBy n e.index es2 j.taking
    job_flies = subst (λ i. IsInFlightBy n i es2 j.taking) (sym index_is) (record {
      stands = taken_longer es1 es2 (place_of j.taking) j.taking b stands;
      by = j.taken.by;
      waits = j.job_is.waits;
      unended = close_other n (place_of j.taking) front freed es1 es2 s s' j.taking (taken_longer es1 es2 (place_of j.taking) j.taking b stands) j.job_is.waits lands open_before;
    })

    -- and its end is the one that its right was used with
    pub job_ends : (end : RecordEnd) (answer : Option Slip) (right : Option CellSeat) → WasUsed cells e.request end job.right right → answer ≡ answer_owed e.request e.index end right → IsRecordEndOf cells es2 j.taking end answer right
    job_ends end answer right used owed = record {
      settled = settled_longer cells es1 es2 (place_of j.taking) j.taking end right b stands (right_settled cells (takings es1) j.taking end job.right right stands j.job_is.right (subst (λ r. WasUsed cells r end job.right right) request_is used));
      answer_is = owed ∙ ap₂ (λ r i. answer_owed r i end right) request_is index_is;
    }

  module _ (es2 es3 : List IntakeEntry) (h' : List MemEntry) (new_s : List Step) (s' s'' : SlipSenderState) (c : Carried) (answer : Option Slip) (kept : Bool)
      (carried : HasCarried e job.work pool c h h' old_s new_s) (ends_freed : LandsFreed e.hand c.end.memory_front c.freed es1 es2 s s') (landed : HasAdded maker_of n (Landed n e.index c.end answer kept ∷ []) es2 es3) (sender : s'' ≡ sender_with_slips s' (slips_pushed kept answer)) where
    fin : Finish spec n pool j.before es1 es2 es3 h h' old_s new_s s s' s'' j.taking job.work c answer kept
    fin = record {
      keeps = j.kept;
      taken = j.taken;
      verdict = j.job_is.verdict;
      waits = j.job_is.waits;
      is_for = j.job_is.work_is.is_for;
      carried = subst (λ x. HasCarried x job.work pool c h h' old_s new_s) errand_is carried;
      freed = subst (λ (x : Errand). LandsFreed x.hand c.end.memory_front c.freed es1 es2 s s') is ends_freed;
      landed = subst (λ i. HasAdded maker_of n (Landed n i c.end answer kept ∷ []) es2 es3) index_is landed;
      sender = sender;
    }

    pub worked_kept : IsAtSession spec n es3 h' new_s s''.pushed
    worked_kept = kept_ended spec n pool j.before es1 es2 es3 h h' old_s new_s s s' s'' j.taking job.work c answer kept fin

    pub worked_out : taken_out n es3 h' ≡ taken_out n es1 h + pages_freed c.freed
    worked_out = out_ended spec n pool j.before es1 es2 es3 h h' old_s new_s s s' s'' j.taking job.work c answer kept fin

    pub worked_begun : begun_by n es3 ≡ begun_by n es1
    worked_begun = begun_ended spec n pool j.before es1 es2 es3 h h' old_s new_s s s' s'' j.taking job.work c answer kept fin

    pub worked_longer : IsPrefix es1 es3
    worked_longer = longer_ended spec n pool j.before es1 es2 es3 h h' old_s new_s s s' s'' j.taking job.work c answer kept fin

    pub worked_steps : (steps : List Step) × HasAdded (λ step. step.hand) n steps old_s new_s × All (λ (step : Step). step.session ≡ spec.number) steps
    worked_steps = (fin.carried.steps, grown_added (λ step. step.hand) n _ _ fin.carried.steps old_s new_s fin.carried.device, stepped_ended spec n pool j.before es1 es2 es3 h h' old_s new_s s s' s'' j.taking job.work c answer kept fin)
