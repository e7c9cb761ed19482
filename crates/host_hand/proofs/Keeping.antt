-- What a hand keeps at a session, as it goes on.
use Rattle.std.proofs.Common.{◌≡◌, ℕ, ◌+◌, ◌≤◌, Bool, true, false, ◌&&◌, ◌||◌, List, [], ◌∷◌, ◌++◌, length, filter, Some, refl, sym, ap, ap₂, subst, ◌∙◌, ◌⊎◌, inl, inr, arith, append-nil, length-append}
use Rattle.std.specs.List.{All, list_all, list_any, slice_get}
use Rattle.std.proofs.lemmas.Bool.{le-leb, leb-true}
use Rattle.std.proofs.lemmas.List.Elements.{All-nil, All-cons, All-append, filter-append}
use Rattle.std.proofs.lemmas.List.Folds.{list_all-append, list_any-append}
use Rattle.std.proofs.lemmas.Option.{slice_get_within}
use Rattle.host_model.specs.{MemEntry, Step, count}
use Rattle.host_rings.specs.{Slip}
use Rattle.host_log.specs.{Continues, entries_of, EachOwn, HasAdded, HasGrown}
use Rattle.host_log.proofs.Histories.{prefix_refl}
use Rattle.host_intake.specs.{IntakeEntry, Passed, taking_entry, Landing, Taking, is_landing_of, landings, maker_of, place_of, takings, kept_slips}
use Rattle.host_log.proofs.Bools.{and_left, and_right}
use Rattle.host_session.specs.{SessionSpec, handed_by}
use Rattle.host_hand.specs.{IsAtSession, is_judged_within, is_settled, own_landings, own_takings, IsClosedBefore, IsEndingRecord, IsMoveTaken, IsStepTaken, begun_by, is_begun}
use Rattle.host_hand.proofs.Endings.{IsOf, all_map, closed_before_longer, ending_kept}
use Rattle.host_hand.proofs.Entered.{handed_added, handed_passed, move_taken_longer, own_landings_added, own_takings_added, step_taken_longer}
use Rattle.host_log.proofs.Growing.{added_nothing, added_turn, grown_nothing, grown_refl, not_between}
use Rattle.host_log.proofs.Places.{longer_length, get_append}

-- What the hand and others did since: the hand's own entries are these, its steps and its entries at the buffers are of one
-- record, which it took since, and past what is asked of them.
pub record Growth (spec : SessionSpec) (n : ℕ) (es more : List IntakeEntry) (h h' : List MemEntry) (made made' : List Step) (pushed : List Slip) : Type 0 where
  pub added : List IntakeEntry
  pub has_added : HasAdded maker_of n added es more
  pub index : ℕ
  pub fresh : length (takings es) ≤ index
  pub steps : List Step
  pub step_front : ℕ
  pub step_stop : ℕ
  pub stepped : HasGrown (λ step. step.hand) n step_front step_stop steps made made'
  pub stepped_for : All (λ (step : Step). step.index ≡ index) steps
  pub steps_taken : (p : ℕ) (step : Step) → length made ≤ p → slice_get made' p ≡ Some step → step.hand ≡ n → step.session ≡ spec.number → IsStepTaken more n p step
  pub entries : List MemEntry
  pub move_front : ℕ
  pub move_stop : ℕ
  pub moved : HasGrown (λ e. e.hand) n move_front move_stop entries h h'
  pub moved_for : All (IsOf index) entries
  pub moves_taken : (p : ℕ) (e : MemEntry) → length h ≤ p → slice_get h' p ≡ Some e → e.hand ≡ n → IsMoveTaken more n p e
  pub closers : EachOwn (λ e. e.hand) n (λ p e. length h ≤ p → IsClosedBefore h' p e) h'
  pub settled : list_all (is_settled (own_landings n es ++ landings added)) (takings added) ≡ true
  pub endings : All (IsEndingRecord spec.part spec.number n more h' made') (landings added)
  pub slips : pushed ≡ handed_by n more
  pub seen : list_all (is_judged_within (length h')) (takings added) ≡ true

-- a record that has ended stays so
settled_more : (ls more : List Landing) (t : Taking) → is_settled ls t ≡ true → is_settled (ls ++ more) t ≡ true
settled_more ls more t = at t.waits (list_any (is_landing_of (place_of t)) ls) (list_any (is_landing_of (place_of t)) more) (list_any (is_landing_of (place_of t)) (ls ++ more)) (list_any-append (is_landing_of (place_of t)) ls more)
  where
    at : (w a b c : Bool) → c ≡ (a || b) → (w || a) ≡ true → (w || c) ≡ true
    at true a b c is h = refl
    at false true b c is h = is
    at false false b c is h = absurd (cc h)

all_settled_more : (ls more : List Landing) (ts : List Taking) → list_all (is_settled ls) ts ≡ true → list_all (is_settled (ls ++ more)) ts ≡ true
all_settled_more ls more [] h = refl
all_settled_more ls more (t ∷ ts) h = ap₂ (λ a b. a && b) (settled_more ls more t (and_left (is_settled ls t) (list_all (is_settled ls) ts) h)) (all_settled_more ls more ts (and_right (is_settled ls t) (list_all (is_settled ls) ts) h))

seen_more : (a b : ℕ) (ts : List Taking) → a ≤ b → list_all (is_judged_within a) ts ≡ true → list_all (is_judged_within b) ts ≡ true
seen_more a b [] le h = refl
seen_more a b (t ∷ ts) le h =
    let here = leb-true t.seen a (and_left (is_judged_within a t) (list_all (is_judged_within a) ts) h) in
    ap₂ (λ x y. x && y) (le-leb t.seen b (omega arith)) (seen_more a b ts le (and_right (is_judged_within a t) (list_all (is_judged_within a) ts) h))

module _ (spec : SessionSpec) (n : ℕ) (es more : List IntakeEntry) (h h' : List MemEntry) (made made' : List Step) (was pushed : List Slip) where
  pub kept_more : IsAtSession spec n es h made was → Growth spec n es more h h' made made' pushed → IsAtSession spec n more h' made' pushed
  kept_more k g = record {
    steps = λ p step at by session. old_step p step by session (get_append made g.stepped.begins.0 p step (ap (λ l. slice_get l p) g.stepped.begins.1 ∙ at)) at;
    moves = λ p e at by. old_move p e by (get_append h g.moved.begins.0 p e (ap (λ l. slice_get l p) g.moved.begins.1 ∙ at)) at;
    releases = λ p e at by. old_release p e by (get_append h g.moved.begins.0 p e (ap (λ l. slice_get l p) g.moved.begins.1 ∙ at)) at;
    settled =
        ap₂ (λ ls ts. list_all (is_settled ls) ts) (own_landings_added n g.added es more g.has_added) (own_takings_added n g.added es more g.has_added)
        ∙ (list_all-append (is_settled (own_landings n es ++ landings g.added)) (own_takings n es) (takings g.added)
        ∙ ap₂ (λ a b. a && b) (all_settled_more (own_landings n es) (landings g.added) (own_takings n es) k.settled) g.settled);
    endings = subst (λ ls. All (IsEndingRecord spec.part spec.number n more h' made') ls) (sym (own_landings_added n g.added es more g.has_added))
        (All-append (IsEndingRecord spec.part spec.number n more h' made') (own_landings n es) (landings g.added)
        (all_map (IsEndingRecord spec.part spec.number n es h made) (IsEndingRecord spec.part spec.number n more h' made') (own_landings n es)
        (λ l e. ending_kept spec.part spec.number n g.index es more h h' made made' g.step_front g.step_stop g.move_front g.move_stop g.steps g.entries g.has_added.begins g.stepped g.moved g.stepped_for g.moved_for l g.fresh e) k.endings) g.endings);
    slips = g.slips;
    seen =
        ap (list_all (is_judged_within (length h'))) (own_takings_added n g.added es more g.has_added)
        ∙ (list_all-append (is_judged_within (length h')) (own_takings n es) (takings g.added)
        ∙ ap₂ (λ a b. a && b) (seen_more (length h) (length h') (own_takings n es) (longer_length h h' g.moved.begins) k.seen) g.seen);
  }
    where
      old_step : (p : ℕ) (step : Step) → step.hand ≡ n → step.session ≡ spec.number → (slice_get made p ≡ Some step) ⊎ ((m : ℕ) × (p ≡ length made + m) × (slice_get g.stepped.begins.0 m ≡ Some step)) → slice_get made' p ≡ Some step → IsStepTaken more n p step
      old_step p step by session (inl there) at = step_taken_longer es more n p step g.has_added.begins (k.steps p step there by session)
      old_step p step by session (inr (m, is, there)) at = g.steps_taken p step (omega arith) at by session

      old_move : (p : ℕ) (e : MemEntry) → e.hand ≡ n → (slice_get h p ≡ Some e) ⊎ ((m : ℕ) × (p ≡ length h + m) × (slice_get g.moved.begins.0 m ≡ Some e)) → slice_get h' p ≡ Some e → IsMoveTaken more n p e
      old_move p e by (inl there) at = move_taken_longer es more n p e g.has_added.begins (k.moves p e there by)
      old_move p e by (inr (m, is, there)) at = g.moves_taken p e (omega arith) at by

      old_release : (p : ℕ) (e : MemEntry) → e.hand ≡ n → (slice_get h p ≡ Some e) ⊎ ((m : ℕ) × (p ≡ length h + m) × (slice_get g.moved.begins.0 m ≡ Some e)) → slice_get h' p ≡ Some e → IsClosedBefore h' p e
      old_release p e by (inl there) at = closed_before_longer h h' p e g.moved.begins (let w = slice_get_within h p e there in omega arith) (k.releases p e there by)
      old_release p e by (inr (m, is, there)) at = g.closers p e at by (omega arith)

-- ---- others went on, and the hand did this much

-- the hand took this record
pub taken_added : (n : ℕ) (es more : List IntakeEntry) (t : Taking) → t.hand ≡ n → more ≡ es ++ taking_entry t ∷ [] → HasAdded maker_of n (taking_entry t ∷ []) es more
taken_added n es more t by is = added_turn maker_of n (taking_entry t ∷ []) es es more (prefix_refl es, refl) is (All-cons (λ e. maker_of e ≡ n) (taking_entry t) [] by (All-nil (λ e. maker_of e ≡ n)))

module _ (spec : SessionSpec) (n : ℕ) (es more : List IntakeEntry) (h h' : List MemEntry) (made : List Step) where
  -- the hand's own entries are these; it made no step, and did nothing to the buffers
  quiet : (pushed : List Slip) (added : List IntakeEntry) → HasAdded maker_of n added es more → Continues (λ e. e.hand) n h h' → pushed ≡ handed_by n more
      → list_all (is_settled (own_landings n es ++ landings added)) (takings added) ≡ true → landings added ≡ [] → list_all (is_judged_within (length h')) (takings added) ≡ true → Growth spec n es more h h' made made pushed
  quiet pushed added a c slips settled none seen = record {
    added = added;
    has_added = a;
    index = length (takings es);
    fresh = omega arith;
    steps = [];
    step_front = 0;
    step_stop = 0;
    stepped = grown_refl (λ step. step.hand) n 0 0 made;
    stepped_for = All-nil (λ (step : Step). step.index ≡ length (takings es));
    steps_taken = λ p step from at by session. absurd (let w = slice_get_within made p step at in omega arith);
    entries = [];
    move_front = 0;
    move_stop = 0;
    moved = grown_nothing (λ e. e.hand) n 0 0 h h' c;
    moved_for = All-nil (IsOf (length (takings es)));
    moves_taken = λ p e from at by. absurd (not_between (λ e. e.hand) n h h' p e c at by from);
    closers = λ p e at by from. absurd (not_between (λ e. e.hand) n h h' p e c at by from);
    settled = settled;
    endings = subst (λ ls. All (IsEndingRecord spec.part spec.number n more h' made) ls) (sym none) (All-nil (IsEndingRecord spec.part spec.number n more h' made));
    slips = slips;
    seen = seen;
  }

  pub kept_later : (pushed : List Slip) → Continues maker_of n es more → Continues (λ e. e.hand) n h h' → IsAtSession spec n es h made pushed → IsAtSession spec n more h' made pushed
  kept_later pushed c d k =
      let a = added_nothing maker_of n es more c in
      kept_more spec n es more h h' made made pushed pushed k (quiet pushed [] a d (k.slips ∙ sym (handed_added n [] es more a refl ∙ append-nil (handed_by n es))) refl refl refl)

  -- a close was taken that waits
  pub kept_waiting : (pushed : List Slip) (t : Taking) → t.hand ≡ n → t.waits ≡ true → t.seen ≤ length h' → more ≡ es ++ taking_entry t ∷ [] → Continues (λ e. e.hand) n h h' → IsAtSession spec n es h made pushed → IsAtSession spec n more h' made pushed
  kept_waiting pushed t by waits seen is d k =
      let a = taken_added n es more t by is in
      kept_more spec n es more h h' made made pushed pushed k
      (quiet pushed (taking_entry t ∷ []) a d (k.slips ∙ sym (handed_added n (taking_entry t ∷ []) es more a refl ∙ append-nil (handed_by n es))) (ap (λ w. (w || list_any (is_landing_of (place_of t)) (own_landings n es ++ [])) && true) waits) refl (ap (λ b. b && true) (le-leb t.seen (length h') seen)))

  -- the oldest kept answer was handed on
  pub kept_passed : (pushed : List Slip) (slip : Slip) → slice_get (kept_slips es) 0 ≡ Some slip → more ≡ es ++ Passed n ∷ [] → Continues (λ e. e.hand) n h h' → IsAtSession spec n es h made pushed → IsAtSession spec n more h' made (pushed ++ slip ∷ [])
  kept_passed pushed slip oldest is d k =
      let a = added_turn maker_of n (Passed n ∷ []) es es more (prefix_refl es, refl) is (All-cons (λ e. maker_of e ≡ n) (Passed n) [] refl (All-nil (λ e. maker_of e ≡ n))) in
      kept_more spec n es more h h' made made pushed (pushed ++ slip ∷ []) k
      (quiet (pushed ++ slip ∷ []) (Passed n ∷ []) a d (ap (λ l. l ++ slip ∷ []) k.slips ∙ sym (ap (handed_by n) is ∙ handed_passed n es slip oldest)) refl refl refl)

-- ---- what was begun

pub begun_added : (n : ℕ) (added old new : List IntakeEntry) → HasAdded maker_of n added old new → begun_by n new ≡ begun_by n old + count is_begun added
begun_added n added old new a = ap (λ l. length (filter is_begun l)) a.own ∙ (ap length (filter-append is_begun (entries_of maker_of n old) added) ∙ length-append (filter is_begun (entries_of maker_of n old)) (filter is_begun added))
