-- What is true of a client end, once an event without an entry was added to its log.
use Rattle.std.proofs.Common.{◌≡◌, ℕ, zero, suc, ◌+◌, ◌-◌, ◌≤◌, ◌<◌, Bool, true, false, not, ◌==◌, ◌||◌, cond, List, [], ◌∷◌, ◌++◌, length, filter, Option, Some, None, refl, sym, ap, subst, ◌∙◌, arith, length-append}
use Rattle.std.proofs.Math.Bool.{or-true}
use Rattle.std.specs.List.{list_any, slice_get, range_with_len}
use Rattle.std.proofs.lemmas.Bool.{eq-eqb}
use Rattle.host_intake.specs.{IntakeEntry}
use Rattle.host_memory.specs.{events}
use Rattle.host_model.specs.{Event, MemEntry, entry_after, all_with_before, below, count, given, given_id, sent, sent_bytes, sent_index, shown_bytes, is_end, runs_out_rightly}
use Rattle.host_model.proofs.Growth.{all_with_before-push}
use Rattle.host_model.proofs.ListTests.{and-from}
use Rattle.host_record.specs.{Finish}
use Rattle.host_log.specs.{entries_of}
use Rattle.host_session.specs.{SessionSpec, Act, AreLate, before_drained, fronts_after, is_drain_act, is_aborted, is_drained as is_drained_end, IsEndedSoFar, IsSessionOver, is_receipt, IsLog, id_limit, IsClientTold, is_release}
use Rattle.host_session.proofs.Blocks.{drained_more}
use Rattle.host_session.proofs.Snoc.{found_none, found_one, told_none}
use Rattle.host_intake.proofs.Counting.{below_more}
use Rattle.host_memory.proofs.Pushed.{filter_add, filter_skip}

-- ---- the log

-- there is room for one event more
pub one_more_fits : (events n : ℕ) → 1 ≤ events - n → n + 1 ≤ events
one_more_fits events n h = omega (arith, h)

module _ (spec : SessionSpec) (log : List Event) (l : IsLog spec log) (e : Event) where
  counted_more : is_end e ≡ false → count (λ x. not (is_end x)) (log ++ e ∷ []) ≡ count (λ x. not (is_end x)) log + 1
  counted_more inner = ap length (filter_add (λ x. not (is_end x)) log e (ap not inner)) ∙ length-append (filter (λ x. not (is_end x)) log) (e ∷ [])

  -- an event that sends nothing and gives nothing
  pub log_quiet : is_end e ≡ false → sent_bytes e ≡ None → sent_index e ≡ None → given_id e ≡ None → runs_out_rightly log e ≡ true → count (λ x. not (is_end x)) log + 1 ≤ spec.events → IsLog spec (log ++ e ∷ [])
  log_quiet inner none none' gives rightly fits =
      let s : sent (log ++ e ∷ []) ≡ sent log = found_none sent_bytes log e none in
      let g : given (log ++ e ∷ []) ≡ given log = found_none given_id log e gives in
      record {
        numbered = found_none sent_index log e none' ∙ (l.numbered ∙ ap (λ x. below (length x)) (sym s));
        ids = all_with_before-push runs_out_rightly log e ∙ and-from (all_with_before runs_out_rightly log) (runs_out_rightly log e) l.ids rightly;
        records = omega (arith, ap length s, l.records);
        given = omega (arith, ap length g, l.given);
        room = omega (arith, counted_more inner, fits);
      }

  -- an event that may give a buffer
  pub log_given : is_end e ≡ false → sent_bytes e ≡ None → sent_index e ≡ None → length (given (log ++ e ∷ [])) ≤ id_limit spec → runs_out_rightly log e ≡ true → count (λ x. not (is_end x)) log + 1 ≤ spec.events → IsLog spec (log ++ e ∷ [])
  log_given inner none none' few rightly fits =
      let s : sent (log ++ e ∷ []) ≡ sent log = found_none sent_bytes log e none in
      record {
        numbered = found_none sent_index log e none' ∙ (l.numbered ∙ ap (λ x. below (length x)) (sym s));
        ids = all_with_before-push runs_out_rightly log e ∙ and-from (all_with_before runs_out_rightly log) (runs_out_rightly log e) l.ids rightly;
        records = omega (arith, ap length s, l.records);
        given = few;
        room = omega (arith, counted_more inner, fits);
      }

  -- the next record was sent
  pub log_sent : (bytes : List ℕ) → is_end e ≡ false → sent_bytes e ≡ Some bytes → sent_index e ≡ Some (length (sent log)) → given_id e ≡ None → runs_out_rightly log e ≡ true
      → length (sent log) < spec.records → count (λ x. not (is_end x)) log + 1 ≤ spec.events → IsLog spec (log ++ e ∷ [])
  log_sent bytes inner some some' gives rightly few fits =
      let s : sent (log ++ e ∷ []) ≡ sent log ++ bytes ∷ [] = found_one sent_bytes log e bytes some in
      let n : length (sent (log ++ e ∷ [])) ≡ length (sent log) + 1 = ap length s ∙ length-append (sent log) (bytes ∷ []) in
      let g : given (log ++ e ∷ []) ≡ given log = found_none given_id log e gives in
      record {
        numbered = found_one sent_index log e (length (sent log)) some' ∙ (ap (λ x. x ++ length (sent log) ∷ []) l.numbered ∙ (sym (below_more (length (sent log))) ∙ ap below (sym n)));
        ids = all_with_before-push runs_out_rightly log e ∙ and-from (all_with_before runs_out_rightly log) (runs_out_rightly log e) l.ids rightly;
        records = omega (arith, n, few);
        given = omega (arith, ap length g, l.given);
        room = omega (arith, counted_more inner, fits);
      }

-- an event without an entry, an id or shown bytes
pub told_quiet : (c size : ℕ) (log : List Event) (h : List MemEntry) (e : Event) → entry_after log e ≡ None → given_id e ≡ None → shown_bytes e ≡ None → IsClientTold c size log h → IsClientTold c size (log ++ e ∷ []) h
told_quiet c size log h e none gives shows t = record {
  entries = t.entries ∙ sym (told_none entry_after log e none);
  ids = let g : given (log ++ e ∷ []) ≡ given log = found_none given_id log e gives in g ∙ (t.ids ∙ ap (λ x. range_with_len 1 (length x)) (sym g));
  shows = found_none shown_bytes log e shows ∙ t.shows;
  found = t.found;
  own = t.own;
}

-- ---- how far the session is ended

-- an event while the session isn't closed, and wasn't aborted
pub ended_quiet : (c : ℕ) (finish : Option Finish) (closed : Bool) (log : List Event) (es : List IntakeEntry) (h : List MemEntry) (e : Event) → is_end e ≡ false → is_aborted finish ≡ false
    → (closed ≡ true → IsSessionOver finish (log ++ e ∷ []) es h) → (is_drained_end finish ≡ true → closed ≡ true → is_receipt e ≡ true) → IsEndedSoFar c finish closed log es h → IsEndedSoFar c finish closed (log ++ e ∷ []) es h
ended_quiet c finish closed log es h e inner not_aborted over follows t = record {
  first = t.first;
  turned = t.turned;
  logged = filter_skip is_end log e inner ∙ t.logged;
  last = λ a. absurd (cc (sym a ∙ not_aborted));
  drained = λ d b. drained_more log e (follows d b) (t.drained d b);
  own = t.own;
  running = t.running;
  over = over;
}

-- ---- late releases

-- an own entry stands among the own ones
pub own_stands : (c n : ℕ) (h : List MemEntry) (e : MemEntry) → slice_get h n ≡ Some e → e.hand ≡ c → is_release e.what ≡ true → list_any is_release (events (entries_of (λ x. x.hand) c h)) ≡ true
own_stands c n [] e at by is = absurd (cc at)
own_stands c zero (x ∷ h) e at by is =
    let same : x ≡ e = cc at in
    let mine : (x.hand == c) ≡ true = ap (λ (y : MemEntry). y.hand == c) same ∙ eq-eqb e.hand c by in
    ap (λ b. list_any is_release (events (cond b (x ∷ entries_of (λ y. y.hand) c h) (entries_of (λ y. y.hand) c h)))) mine
    ∙ ap (λ b. b || list_any is_release (events (entries_of (λ y. y.hand) c h))) (ap (λ (y : MemEntry). is_release y.what) same ∙ is)
own_stands c (suc n) (x ∷ h) e at by is = later (x.hand == c) (own_stands c n h e at by is)
  where
    later : (b : Bool) → list_any is_release (events (entries_of (λ y. y.hand) c h)) ≡ true → list_any is_release (events (cond b (x ∷ entries_of (λ y. y.hand) c h) (entries_of (λ y. y.hand) c h))) ≡ true
    later true t = ap (λ b. is_release x.what || b) t ∙ or-true (is_release x.what)
    later false t = t

-- where the client released nothing, nothing is early
pub none_late : (c : ℕ) (es : List IntakeEntry) (h : List MemEntry) (acts : List Act) → list_any is_release (events (entries_of (λ e. e.hand) c h)) ≡ false → AreLate c es h acts
none_late c es h acts none n e at by is = absurd (cc (sym none ∙ own_stands c n h e at by is))

pub drained_before : (acts more : List Act) → list_any is_drain_act acts ≡ true → before_drained (acts ++ more) ≡ before_drained acts
drained_before [] more d = absurd (cc d)
drained_before (a ∷ acts) more d = at (is_drain_act a) d (drained_before acts more)
  where
    at : (b : Bool) → (b || list_any is_drain_act acts) ≡ true → (list_any is_drain_act acts ≡ true → before_drained (acts ++ more) ≡ before_drained acts)
        → cond b [] (a ∷ before_drained (acts ++ more)) ≡ cond b [] (a ∷ before_drained acts)
    at true e ih = refl
    at false e ih = ap (λ l. a ∷ l) (ih e)

-- acts after a drain change nothing of what comes before it
pub late_still : (c : ℕ) (es : List IntakeEntry) (h : List MemEntry) (acts more : List Act) → list_any is_drain_act acts ≡ true → AreLate c es h acts → AreLate c es h (acts ++ more)
late_still c es h acts more d late n e at by is =
    let t = late n e at by is in (subst (λ l. (fronts_after l).memory ≤ n) (sym (drained_before acts more d)) t.0, t.1)
