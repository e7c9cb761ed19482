-- What an intake keeps beside its history, once a record ended.
use Rattle.std.proofs.Common.{◌≡◌, ℕ, zero, suc, ◌+◌, ◌-◌, ◌≤◌, ◌<◌, ◌==◌, Bool, true, false, not, ◌&&◌, nat_lt, cond, List, [], ◌∷◌, ◌++◌, length, filter_map, find, map, set, get_or, drop, Option, Some, None, refl, sym, ap, subst, ◌∙◌, arith, length-append, append-nil, eq-eqb}
use Rattle.std.specs.Prelude.{option_to_list}
use Rattle.std.specs.List.{list_any, list_all, range_with_len}
use Rattle.std.specs.Option.{option_map_or, option_or}
use Rattle.std.proofs.lemmas.Bool.{ltb-true, lt-ltb, ne_eqb}
use Rattle.std.proofs.lemmas.List.{drop-append-le}
use Rattle.std.proofs.lemmas.List.Folds.{list_all-append, find-append}
use Rattle.host_block.specs.{WithRoom}
use Rattle.host_record.specs.declared.status.Status.TheVariants as status
use Rattle.host_group.specs.{greatest}
use Rattle.host_model.specs.{TakenRow, all_with_before, below, count, last}
use Rattle.host_model.proofs.Growth.{all_with_before-push}
use Rattle.host_model.proofs.ListTests.{and-from}
use Rattle.host_rings.specs.{Slip}
use Rattle.host_memory.proofs.Pushed.{filter_map_skip, filter_map_add, count_skip}
use Rattle.host_intake.specs.{IntakeEntry, Landed, Phase, Running, Draining, Aborted, Closed, RecordEnd, Taking, Landing, taking_of, landing_of, takings, landings, is_landing_of, place_of, IsLedger, is_before, is_course, is_last_turn, is_shut, slips_to_keep, is_taken_open, is_open, turn_of, turns, kept_by, is_passed, is_flying, kept_slips, phase_in, was_aborted, is_aborted_phase, is_ending, row_in, rows_in, outcome_in, seen_of}
use Rattle.host_intake.proofs.Counting.{but_for, count_cut, count_agree}
use Rattle.host_intake.proofs.Pushing.{kept_few, open_landed}
use Rattle.host_intake.proofs.Ledgering.{course_few, find_none, phase_from, room_for}
use Rattle.host_log.proofs.Bools.{or_none, and_left, and_right}

sym_zero : (n : ℕ) → n ≡ 0 + n
sym_zero n = omega arith

-- ---- rows

option_or_none : (o : Option Landing) → option_or o None ≡ o
option_or_none None = refl
option_or_none (Some x) = refl

module _ (ls : List Landing) (l : Landing) (unended : list_any (is_landing_of l.index) ls ≡ false) where
  -- the outcome of the record that ended, and of another one
  outcome_here : outcome_in (ls ++ l ∷ []) l.index ≡ l.end.outcome
  outcome_here =
      ap (λ (o : Option Landing). option_map_or (λ (m : Landing). m.end.outcome) o status.Ok)
      (find-append (is_landing_of l.index) ls (l ∷ []) ∙ (ap (λ (o : Option Landing). option_or o (find (is_landing_of l.index) (l ∷ []))) (find_none (is_landing_of l.index) ls unended)
      ∙ ap (λ b. cond b (Some l) None) (eq-eqb l.index l.index refl)))

  outcome_there : (j : ℕ) → (l.index == j) ≡ false → outcome_in (ls ++ l ∷ []) j ≡ outcome_in ls j
  outcome_there j e =
      ap (λ (o : Option Landing). option_map_or (λ (m : Landing). m.end.outcome) o status.Ok)
      (find-append (is_landing_of j) ls (l ∷ []) ∙ (ap (λ b. option_or (find (is_landing_of j) ls) (cond b (Some l) None)) e ∙ option_or_none (find (is_landing_of j) ls)))

  rows_past : (ts : List Taking) (a : ℕ) → map place_of ts ≡ range_with_len a (length ts) → l.index < a → map (row_in (ls ++ l ∷ [])) ts ≡ map (row_in ls) ts
  rows_past [] a e h = refl
  rows_past (t ∷ ts) a e h =
      let here : place_of t ≡ a = ap (λ (z : List ℕ). get_or z 0 0) e in
      let ne : (l.index == place_of t) ≡ false = ne_eqb l.index (place_of t) (λ z. absurd (omega arith)) in
      ap (λ o. record { verdict = t.verdict; outcome = o } ∷ map (row_in (ls ++ l ∷ [])) ts) (outcome_there (place_of t) ne)
      ∙ ap (λ (z : List TakenRow). row_in ls t ∷ z) (rows_past ts (a + 1) (ap (λ (z : List ℕ). drop 1 z) e) (omega arith))

  -- the row of the record that ended has its outcome
  pub rows_set : (ts : List Taking) (a k : ℕ) → map place_of ts ≡ range_with_len a (length ts) → k < length ts → l.index ≡ a + k → (x : TakenRow) → x ≡ get_or (map (row_in ls) ts) k x
      → map (row_in (ls ++ l ∷ [])) ts ≡ set (map (row_in ls) ts) k (record x { outcome = l.end.outcome })
  rows_set [] a k e h at x is = absurd (omega arith)
  rows_set (t ∷ ts) a zero e h at x is =
      let here : place_of t ≡ a = ap (λ (z : List ℕ). get_or z 0 0) e in
      let i : l.index ≡ place_of t = omega arith in
      let o : outcome_in (ls ++ l ∷ []) (place_of t) ≡ l.end.outcome = subst (λ (z : ℕ). outcome_in (ls ++ l ∷ []) z ≡ l.end.outcome) i outcome_here in
      let v : x.verdict ≡ t.verdict = ap (λ (z : TakenRow). z.verdict) is in
      ap (λ o. record { verdict = t.verdict; outcome = o } ∷ map (row_in (ls ++ l ∷ [])) ts) o
      ∙ (ap (λ (z : List TakenRow). record { verdict = t.verdict; outcome = l.end.outcome } ∷ z) (rows_past ts (a + 1) (ap (λ (z : List ℕ). drop 1 z) e) (omega arith))
      ∙ ap (λ w. record { verdict = w; outcome = l.end.outcome } ∷ map (row_in ls) ts) (sym v))
  rows_set (t ∷ ts) a (suc k) e h at x is =
      let here : place_of t ≡ a = ap (λ (z : List ℕ). get_or z 0 0) e in
      let ne : (l.index == place_of t) ≡ false = ne_eqb l.index (place_of t) (λ z. absurd (omega arith)) in
      ap (λ o. record { verdict = t.verdict; outcome = o } ∷ map (row_in (ls ++ l ∷ [])) ts) (outcome_there (place_of t) ne)
      ∙ ap (λ (z : List TakenRow). row_in ls t ∷ z) (rows_set ts (a + 1) k (ap (λ (z : List ℕ). drop 1 z) e) (omega arith) (omega arith) x is)

-- ---- what is kept

-- while a session isn't closed, it was aborted where that is its phase
pub aborted_is : (ps : List Phase) → is_course ps ≡ true → (last Running ps ≡ Closed → ⊥) → list_any is_aborted_phase ps ≡ is_aborted_phase (last Running ps)
aborted_is [] h n = refl
aborted_is (p ∷ []) h n = or_none (is_aborted_phase p)
aborted_is (p ∷ Closed ∷ []) h n = absurd (n refl)
aborted_is (p ∷ Running ∷ []) h n = absurd (let b = and_right (is_ending p) (is_last_turn (Running ∷ [])) h in cc)
aborted_is (p ∷ Draining ∷ []) h n = absurd (let b = and_right (is_ending p) (is_last_turn (Draining ∷ [])) h in cc)
aborted_is (p ∷ Aborted ∷ []) h n = absurd (let b = and_right (is_ending p) (is_last_turn (Aborted ∷ [])) h in cc)
aborted_is (p ∷ q ∷ r ∷ ps) h n = absurd (let b = and_right (is_shut q) false (and_right (is_ending p) (is_last_turn (q ∷ r ∷ ps)) h) in cc)

kept_step : (aborted flag : Bool) (answer : Option Slip) (p : ℕ) (ks more : List Slip) → more ≡ (cond flag (option_to_list answer) []) → p ≤ length ks
    → cond aborted [] (drop p (ks ++ more)) ≡ cond aborted [] (drop p ks) ++ cond (flag && not aborted) (option_to_list answer) []
kept_step true true answer p ks more e h = refl
kept_step true false answer p ks more e h = refl
kept_step false true answer p ks more e h = drop-append-le p ks more h ∙ ap (λ z. drop p ks ++ z) e
kept_step false false answer p ks more e h = drop-append-le p ks more h ∙ ap (λ z. drop p ks ++ z) e

answers_pushed : (es : List IntakeEntry) (hand i : ℕ) (end : RecordEnd) (answer : Option Slip) (flag : Bool) → filter_map kept_by (es ++ Landed hand i end answer flag ∷ []) ≡ filter_map kept_by es ++ cond flag (option_to_list answer) []
answers_pushed es hand i end None true = filter_map_skip kept_by es (Landed hand i end None true) refl ∙ sym (append-nil (filter_map kept_by es))
answers_pushed es hand i end (Some x) true = filter_map_add kept_by es (Landed hand i end (Some x) true) x refl
answers_pushed es hand i end answer false = filter_map_skip kept_by es (Landed hand i end answer false) refl ∙ sym (append-nil (filter_map kept_by es))

-- what is kept once a record ended
pub kept_landed : (es : List IntakeEntry) (hand i : ℕ) (end : RecordEnd) (answer : Option Slip) (flag : Bool) → count is_passed es ≤ length (filter_map kept_by es) → is_course (turns es) ≡ true → (phase_in es ≡ Closed → ⊥)
    → kept_slips (es ++ Landed hand i end answer flag ∷ []) ≡ kept_slips es ++ slips_to_keep (phase_in es) flag answer
kept_landed es hand i end answer flag few course unshut =
    let x = Landed hand i end answer flag in
    let ks = filter_map kept_by es in let more = cond flag (option_to_list answer) [] in
    ap (λ a. cond (list_any is_aborted_phase a) [] (drop (count is_passed (es ++ x ∷ [])) (filter_map kept_by (es ++ x ∷ [])))) (filter_map_skip turn_of es x refl)
    ∙ (ap (λ n. cond (was_aborted es) [] (drop n (filter_map kept_by (es ++ x ∷ [])))) (count_skip is_passed es x refl)
    ∙ (ap (λ l. cond (was_aborted es) [] (drop (count is_passed es) l)) (answers_pushed es hand i end answer flag)
    ∙ (kept_step (was_aborted es) flag answer (count is_passed es) ks more refl few
    ∙ ap (λ b. kept_slips es ++ cond (flag && not b) (option_to_list answer) []) (aborted_is (turns es) course unshut))))

kept_more : (phase : Phase) (flag : Bool) (answer : Option Slip) → length (slips_to_keep phase flag answer) ≤ 1
kept_more phase flag answer = one (flag && not (is_aborted_phase phase)) answer
  where
    one : (b : Bool) (o : Option Slip) → length (cond b (option_to_list o) []) ≤ 1
    one true None = omega arith
    one true (Some x) = omega arith
    one false o = omega arith

module _ (room : ℕ) (l : WithRoom IntakeEntry) (phase : Phase) (flights : ℕ) (kept : List Slip) (front : ℕ) (k : IsLedger room l phase flights kept front) where
  module _ (i : ℕ) (flying : is_flying i l.items ≡ true) where
    pub is_taken : i < length (takings l.items)
    is_taken = ltb-true i (length (takings l.items)) (and_left (nat_lt i (length (takings l.items))) (is_open (landings l.items) i) flying)

    pub is_open_still : is_open (landings l.items) i ≡ true
    is_open_still = and_right (nat_lt i (length (takings l.items))) (is_open (landings l.items) i) flying

    not_ended : list_any (is_landing_of i) (landings l.items) ≡ false
    not_ended = off (list_any (is_landing_of i) (landings l.items)) is_open_still
      where
        off : (b : Bool) → not b ≡ true → b ≡ false
        off true e = absurd (cc)
        off false e = refl

    open_cut : count (is_open (landings l.items)) (below (length (takings l.items))) ≡ count (but_for i (is_open (landings l.items))) (below (length (takings l.items))) + 1
    open_cut = count_cut (is_open (landings l.items)) i (length (takings l.items)) is_taken is_open_still

    -- there is a flight
    pub some_flight : 1 ≤ flights
    some_flight = let o = k.once in let c = open_cut in let f = k.flights_are in omega arith

    pub not_shut : phase_in l.items ≡ Closed → ⊥
    not_shut c = let z = k.over c in let s = some_flight in omega arith

    pub room_landed : length l.items < l.room
    room_landed =
        let few = k.few in let o = k.once in let c = open_cut in let p = k.passed in let q = kept_few l.items in let t = course_few (turns l.items) k.course in
        room_for room l phase flights kept front k (omega arith)

    -- there is room for one answer more
    pub kept_room : length kept < 64
    kept_room = let s = some_flight in let m = k.limit in omega arith

    -- record i ended
    pub ledger_landed : (hand : ℕ) (end : RecordEnd) (answer : Option Slip) (flag : Bool)
        → IsLedger room (record l { items = l.items ++ Landed hand i end answer flag ∷ [] }) phase (flights - 1) (kept ++ slips_to_keep phase flag answer) front
    ledger_landed hand end answer flag =
        let es = l.items in let e = Landed hand i end answer flag in
        let m : Landing = record { hand = hand; index = i; end = end; answer = answer; kept = flag } in
        let ts : takings (es ++ e ∷ []) ≡ takings es = filter_map_skip taking_of es e refl in
        let ls : landings (es ++ e ∷ []) ≡ landings es ++ m ∷ [] = filter_map_add landing_of es e m refl in
        let ps : turns (es ++ e ∷ []) ≡ turns es = filter_map_skip turn_of es e refl in
        let ph : phase_in (es ++ e ∷ []) ≡ phase_in es = phase_from es (es ++ e ∷ []) ps in
        let passed : count is_passed (es ++ e ∷ []) ≡ count is_passed es = count_skip is_passed es e refl in
        let n : length (landings es ++ m ∷ []) ≡ length (landings es) + 1 = length-append (landings es) (m ∷ []) in
        let cut : count (is_open (landings es ++ m ∷ [])) (below (length (takings es))) ≡ count (but_for i (is_open (landings es))) (below (length (takings es))) =
        count_agree (is_open (landings es ++ m ∷ [])) (but_for i (is_open (landings es))) 0 (length (takings es)) (λ j lo hi. open_landed (landings es) m j) in
        let slips : kept ++ slips_to_keep phase flag answer ≡ kept_slips (es ++ e ∷ []) =
        ap (λ (z : List Slip). z ++ slips_to_keep phase flag answer) k.kept_are ∙ (ap (λ (z : Phase). kept_slips es ++ slips_to_keep z flag answer) k.phase_is ∙ sym (kept_landed es hand i end answer flag k.passed k.course not_shut)) in
        let few = k.few in let once = k.once in let c = open_cut in let f = k.flights_are in let lm = k.limit in let more = kept_more phase flag answer in let s = some_flight in
        let long : length (kept ++ slips_to_keep phase flag answer) ≡ length kept + length (slips_to_keep phase flag answer) = length-append kept (slips_to_keep phase flag answer) in
        let answers : length (filter_map kept_by es) ≤ length (filter_map kept_by (es ++ e ∷ [])) =
        let a = ap length (answers_pushed es hand i end answer flag) ∙ length-append (filter_map kept_by es) (cond flag (option_to_list answer) []) in omega arith in
        let p = k.passed in
        record {
          has_room = k.has_room;
          few = subst (λ (z : List Taking). length z ≤ room) (sym ts) k.few;
          indexes = subst (λ (z : List Taking). map place_of z ≡ below (length z)) (sym ts) k.indexes;
          once = subst (λ (z : List Landing). length z + count (is_open z) (below (length (takings (es ++ e ∷ [])))) ≡ length (takings (es ++ e ∷ []))) (sym ls)
              (subst (λ (z : List Taking). length (landings es ++ m ∷ []) + count (is_open (landings es ++ m ∷ [])) (below (length z)) ≡ length z) (sym ts) (omega arith));
          within = subst (λ (z : List Landing). list_all (is_before (length (takings (es ++ e ∷ [])))) z ≡ true) (sym ls)
              (subst (λ (z : List Taking). list_all (is_before (length z)) (landings es ++ m ∷ []) ≡ true) (sym ts)
              (list_all-append (is_before (length (takings es))) (landings es) (m ∷ []) ∙ (ap (λ b. b && (is_before (length (takings es)) m && true)) k.within ∙ ap (λ b. b && true) (lt-ltb i (length (takings es)) is_taken))));
          course = subst (λ (z : List Phase). is_course z ≡ true) (sym ps) k.course;
          passed = subst (λ (z : ℕ). z ≤ length (filter_map kept_by (es ++ e ∷ []))) (sym passed) (omega arith);
          phase_is = k.phase_is ∙ sym ph;
          over = λ c. absurd (not_shut (sym ph ∙ c));
          before_close = all_with_before-push is_taken_open es e ∙ and-from (all_with_before is_taken_open es) (is_taken_open es e) k.before_close refl;
          flights_are = subst (λ (z : List Landing). flights - 1 + length z ≡ length (takings (es ++ e ∷ []))) (sym ls) (subst (λ (z : List Taking). flights - 1 + length (landings es ++ m ∷ []) ≡ length z) (sym ts) (omega arith));
          kept_are = slips;
          limit = omega arith;
          front_is = subst (λ (z : List Taking). front ≡ greatest (map seen_of z)) (sym ts) k.front_is;
        }

    -- its row has its outcome
    pub rows_landed : (hand : ℕ) (end : RecordEnd) (answer : Option Slip) (flag : Bool) (x : TakenRow) → x ≡ get_or (rows_in l.items) i x
        → rows_in (l.items ++ Landed hand i end answer flag ∷ []) ≡ set (rows_in l.items) i (record x { outcome = end.outcome })
    rows_landed hand end answer flag x at =
        let es = l.items in let e = Landed hand i end answer flag in
        let m : Landing = record { hand = hand; index = i; end = end; answer = answer; kept = flag } in
        let ts : takings (es ++ e ∷ []) ≡ takings es = filter_map_skip taking_of es e refl in
        let ls : landings (es ++ e ∷ []) ≡ landings es ++ m ∷ [] = filter_map_add landing_of es e m refl in
        ap (λ (z : List Taking). map (row_in (landings (es ++ e ∷ []))) z) ts
        ∙ (ap (λ (z : List Landing). map (row_in z) (takings es)) ls
        ∙ rows_set (landings es) m not_ended (takings es) 0 i k.indexes is_taken (sym_zero i) x at)
