-- What an intake keeps beside its history is what the history tells, once an entry was added.
use Rattle.std.proofs.Common.{◌≡◌, ℕ, ◌+◌, ◌*◌, ◌≤◌, ◌<◌, ◌==◌, Bool, true, false, not, ◌&&◌, ◌||◌, cond, List, [], ◌∷◌, ◌++◌, length, filter_map, find, map, max, drop, Option, Some, None, refl, sym, ap, subst, ◌∙◌, arith, length-append}
use Rattle.std.specs.List.{list_any, list_all}
use Rattle.std.specs.Option.{option_map_or}
use Rattle.std.proofs.lemmas.Bool.{ltb-true, lt-ltb, ne_eqb}
use Rattle.std.proofs.lemmas.List.{map-append}
use Rattle.host_block.specs.{WithRoom}
use Rattle.host_record.specs.declared.status.Status.TheVariants as status
use Rattle.host_group.specs.{greatest}
use Rattle.host_model.specs.declared.verdict.Verdict.{Verdict}
use Rattle.host_model.specs.{all_with_before, below, count, last}
use Rattle.host_model.proofs.Growth.{all_with_before-push}
use Rattle.host_model.proofs.ListTests.{and-from}
use Rattle.host_rings.specs.{Envelope, Slip}
use Rattle.host_memory.proofs.Pushed.{filter_map_skip, filter_map_add, count_skip}
use Rattle.host_intake.specs.{IntakeEntry, Took, Phase, Running, Draining, Aborted, Closed, Taking, Landing, taking_of, landing_of, takings, landings, is_landing_of, place_of, IsLedger, is_before, is_course, is_last_turn, is_shut, is_taken_open, is_open, flights_in, turn_of, turns, kept_by, is_passed, kept_slips, phase_in, was_aborted, is_aborted_phase, seen_of, row_in, rows_in, is_ending}
use Rattle.host_intake.proofs.Counting.{count_more, below_more}
use Rattle.host_intake.proofs.Pushing.{parts_of, kept_few}
use Rattle.host_log.proofs.Bools.{and_left, and_right}

-- ---- words

before_is : (n : ℕ) (l : Landing) → is_before n l ≡ true → (l.index == n) ≡ false
before_is n l e = let h = ltb-true l.index n e in ne_eqb l.index n (λ z. absurd (omega arith))

-- none of the records that ended is the next one
pub none_ended : (n : ℕ) (ls : List Landing) → list_all (is_before n) ls ≡ true → list_any (is_landing_of n) ls ≡ false
none_ended n [] h = refl
none_ended n (l ∷ ls) h =
    ap (λ b. b || list_any (is_landing_of n) ls) (before_is n l (and_left (is_before n l) (list_all (is_before n) ls) h))
    ∙ none_ended n ls (and_right (is_before n l) (list_all (is_before n) ls) h)

-- where each is one of the first n, each is one of the first n + 1
pub before_more : (n : ℕ) (ls : List Landing) → list_all (is_before n) ls ≡ true → list_all (is_before (n + 1)) ls ≡ true
before_more n [] h = refl
before_more n (l ∷ ls) h =
    let here = ltb-true l.index n (and_left (is_before n l) (list_all (is_before n) ls) h) in
    ap (λ b. b && list_all (is_before (n + 1)) ls) (lt-ltb l.index (n + 1) (omega arith))
    ∙ before_more n ls (and_right (is_before n l) (list_all (is_before n) ls) h)

find_step : (b : Bool) (l : Landing) (o : Option Landing) (rest : Bool) → (b || rest) ≡ false → (rest ≡ false → o ≡ None) → cond b (Some l) o ≡ None
find_step true l o rest e more = absurd (cc)
find_step false l o rest e more = more e

-- a record that has not ended has no outcome yet
pub find_none : (p : Landing → Bool) (ls : List Landing) → list_any p ls ≡ false → find p ls ≡ None
find_none p [] h = refl
find_none p (l ∷ ls) h = find_step (p l) l (find p ls) (list_any p ls) h (λ e. find_none p ls e)

greatest_snoc : (ns : List ℕ) (n : ℕ) → greatest (ns ++ n ∷ []) ≡ max (greatest ns) n
greatest_snoc [] n = omega arith
greatest_snoc (m ∷ ns) n = let h = greatest_snoc ns n in omega arith

-- the turns of a course are two at most, and one where the last didn't close
pub course_few : (ps : List Phase) → is_course ps ≡ true → length ps ≤ 2
course_few [] h = omega arith
course_few (p ∷ []) h = omega arith
course_few (p ∷ q ∷ []) h = omega arith
course_few (p ∷ q ∷ r ∷ ps) h = absurd (let a = and_right (is_ending p) (is_last_turn (q ∷ r ∷ ps)) h in let b = and_right (is_shut q) false a in cc)

unclosed : (p : Phase) → (p ≡ Closed → ⊥) → not (is_shut p) ≡ true
unclosed Running h = refl
unclosed Draining h = refl
unclosed Aborted h = refl
unclosed Closed h = absurd (h refl)

-- what is kept depends on these three alone
pub kept_from : (es fs : List IntakeEntry) → turns fs ≡ turns es → count is_passed fs ≡ count is_passed es → filter_map kept_by fs ≡ filter_map kept_by es → kept_slips fs ≡ kept_slips es
kept_from es fs t p k =
    ap (λ a. cond (list_any is_aborted_phase a) [] (drop (count is_passed fs) (filter_map kept_by fs))) t
    ∙ (ap (λ n. cond (was_aborted es) [] (drop n (filter_map kept_by fs))) p ∙ ap (λ l. cond (was_aborted es) [] (drop (count is_passed es) l)) k)

pub phase_from : (es fs : List IntakeEntry) → turns fs ≡ turns es → phase_in fs ≡ phase_in es
phase_from es fs t = ap (λ a. last Running a) t

-- what is kept, under other names
pub kept_as : (room : ℕ) (l m : WithRoom IntakeEntry) (phase : Phase) (flights : ℕ) (kept slips : List Slip) (front top : ℕ) → m ≡ l → slips ≡ kept → top ≡ front
    → IsLedger room l phase flights kept front → IsLedger room m phase flights slips top
kept_as room l m phase flights kept slips front top el ek ef k =
    subst (λ (z : WithRoom IntakeEntry). IsLedger room z phase flights slips top) (sym el)
    (subst (λ (z : List Slip). IsLedger room l phase flights z top) (sym ek)
    (subst (λ (z : ℕ). IsLedger room l phase flights kept z) (sym ef) k))

module _ (room : ℕ) (l : WithRoom IntakeEntry) (phase : Phase) (flights : ℕ) (kept : List Slip) (front : ℕ) (k : IsLedger room l phase flights kept front) where
  -- as long as what is still to come may come, there is room for one entry
  pub room_for : length (takings l.items) + length (landings l.items) + count is_passed l.items + length (turns l.items) < 3 * room + 2 → length l.items < l.room
  room_for h = let p = parts_of l.items in let r = k.has_room in omega arith

  pub ended_few : length (landings l.items) ≤ length (takings l.items)
  ended_few = let o = k.once in omega arith

  -- what is in flight and kept is what the history tells
  pub load_is : flights_in l.items + length (kept_slips l.items) ≡ flights + length kept
  load_is = let f = k.flights_are in let e = ap length k.kept_are in omega arith

  pub room_took : length (takings l.items) < room → length l.items < l.room
  room_took few = let e = ended_few in let p = k.passed in let q = kept_few l.items in let t = course_few (turns l.items) k.course in room_for (omega arith)

  took_once : (ls : List Landing) (n : ℕ) → length ls + count (is_open ls) (below n) ≡ n → list_any (is_landing_of n) ls ≡ false → length ls + count (is_open ls) (below (n + 1)) ≡ n + 1
  took_once ls n o f = let c = count_more (is_open ls) n (ap not f) in omega arith

  took_rows : (ls : List Landing) (ts : List Taking) (t : Taking) → list_any (is_landing_of (place_of t)) ls ≡ false → map (row_in ls) (ts ++ t ∷ []) ≡ map (row_in ls) ts ++ record { verdict = t.verdict; outcome = status.Ok } ∷ []
  took_rows ls ts t f =
      map-append (row_in ls) ts (t ∷ [])
      ∙ ap (λ (o : Option Landing). map (row_in ls) ts ++ record { verdict = t.verdict; outcome = option_map_or (λ (m : Landing). m.end.outcome) o status.Ok } ∷ []) (find_none (is_landing_of (place_of t)) ls f)

  -- the next record was taken
  pub ledger_took : (hand : ℕ) (e : Envelope) (v : Verdict) (waits : Bool) (seen : ℕ) → e.index ≡ length (takings l.items) → length (takings l.items) < room → flights + length kept < 64 → (phase_in l.items ≡ Closed → ⊥)
      → IsLedger room (record l { items = l.items ++ Took hand e v waits seen ∷ [] }) phase (flights + 1) kept (max front seen)
  ledger_took hand e v waits seen next few limit unshut =
      let es = l.items in let x = Took hand e v waits seen in
      let t : Taking = record { hand = hand; envelope = e; verdict = v; waits = waits; seen = seen } in
      let ts : takings (es ++ x ∷ []) ≡ takings es ++ t ∷ [] = filter_map_add taking_of es x t refl in
      let ls : landings (es ++ x ∷ []) ≡ landings es = filter_map_skip landing_of es x refl in
      let n : length (takings (es ++ x ∷ [])) ≡ length (takings es) + 1 = ap length ts ∙ length-append (takings es) (t ∷ []) in
      let ps : turns (es ++ x ∷ []) ≡ turns es = filter_map_skip turn_of es x refl in
      let passed : count is_passed (es ++ x ∷ []) ≡ count is_passed es = count_skip is_passed es x refl in
      let slips : filter_map kept_by (es ++ x ∷ []) ≡ filter_map kept_by es = filter_map_skip kept_by es x refl in
      let unended : list_any (is_landing_of (length (takings es))) (landings es) ≡ false = none_ended (length (takings es)) (landings es) k.within in
      let ph : phase_in (es ++ x ∷ []) ≡ phase_in es = phase_from es (es ++ x ∷ []) ps in
      let is_few = k.few in let p = k.passed in let f = k.flights_are in let lm = k.limit in
      record {
        has_room = k.has_room;
        few = subst (λ (z : ℕ). z ≤ room) (sym n) (omega arith);
        indexes = ap (λ (z : List Taking). map place_of z) ts ∙ (map-append place_of (takings es) (t ∷ []) ∙ (ap (λ z. z ++ e.index ∷ []) k.indexes ∙ (ap (λ z. below (length (takings es)) ++ z ∷ []) next ∙ (sym (below_more (length (takings es))) ∙ ap below (sym n)))));
        once = subst (λ (z : List Landing). length z + count (is_open z) (below (length (takings (es ++ x ∷ [])))) ≡ length (takings (es ++ x ∷ []))) (sym ls)
            (subst (λ (m : ℕ). length (landings es) + count (is_open (landings es)) (below m) ≡ m) (sym n) (took_once (landings es) (length (takings es)) k.once unended));
        within = subst (λ (z : List Landing). list_all (is_before (length (takings (es ++ x ∷ [])))) z ≡ true) (sym ls)
            (subst (λ (m : ℕ). list_all (is_before m) (landings es) ≡ true) (sym n) (before_more (length (takings es)) (landings es) k.within));
        course = subst (λ (z : List Phase). is_course z ≡ true) (sym ps) k.course;
        passed = subst (λ (z : ℕ). z ≤ length (filter_map kept_by (es ++ x ∷ []))) (sym passed) (subst (λ (z : List Slip). count is_passed es ≤ length z) (sym slips) p);
        phase_is = k.phase_is ∙ sym ph;
        over = λ c. absurd (unshut (sym ph ∙ c));
        before_close = all_with_before-push is_taken_open es x ∙ and-from (all_with_before is_taken_open es) (is_taken_open es x) k.before_close (unclosed (phase_in es) unshut);
        flights_are = subst (λ (z : List Landing). flights + 1 + length z ≡ length (takings (es ++ x ∷ []))) (sym ls) (subst (λ (m : ℕ). flights + 1 + length (landings es) ≡ m) (sym n) (omega arith));
        kept_are = k.kept_are ∙ sym (kept_from es (es ++ x ∷ []) ps passed slips);
        limit = omega arith;
        front_is = ap (λ z. max z seen) k.front_is ∙ (sym (greatest_snoc (map seen_of (takings es)) seen) ∙ (ap greatest (sym (map-append seen_of (takings es) (t ∷ []))) ∙ ap (λ (z : List Taking). greatest (map seen_of z)) (sym ts)));
      }

  -- its row is added
  pub rows_took : (hand : ℕ) (e : Envelope) (v : Verdict) (waits : Bool) (seen : ℕ) → e.index ≡ length (takings l.items)
      → rows_in (l.items ++ Took hand e v waits seen ∷ []) ≡ rows_in l.items ++ record { verdict = v; outcome = status.Ok } ∷ []
  rows_took hand e v waits seen next =
      let es = l.items in let x = Took hand e v waits seen in
      let t : Taking = record { hand = hand; envelope = e; verdict = v; waits = waits; seen = seen } in
      let ts : takings (es ++ x ∷ []) ≡ takings es ++ t ∷ [] = filter_map_add taking_of es x t refl in
      let ls : landings (es ++ x ∷ []) ≡ landings es = filter_map_skip landing_of es x refl in
      let unended : list_any (is_landing_of (length (takings es))) (landings es) ≡ false = none_ended (length (takings es)) (landings es) k.within in
      ap (λ (z : List Landing). map (row_in z) (takings (es ++ x ∷ []))) ls
      ∙ (ap (λ (z : List Taking). map (row_in (landings es)) z) ts
      ∙ took_rows (landings es) (takings es) t (subst (λ (i : ℕ). list_any (is_landing_of i) (landings es) ≡ false) (sym next) unended))
