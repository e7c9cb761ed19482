-- A session's client received the answers that it is due.
use Rattle.std.proofs.Common.{◌≡◌, ℕ, suc, ◌<◌, ◌≤◌, Bool, true, false, not, nat_eq, nat_lt, cond, List, [], ◌∷◌, ◌++◌, length, filter, map, take, Some, refl, sym, ap, subst, ◌∙◌, arith}
use Rattle.std.specs.List.{slice_get}
use Rattle.std.proofs.lemmas.Bool.{eqb-true, lt-ltb}
use Rattle.std.proofs.lemmas.List.{length-map, take-map}
use Rattle.host_record.specs.{Finish, Drain, Abort}
use Rattle.host_record.specs.declared.request.Request.{Request}
use Rattle.host_model.specs.{MemEntry, AreDueAnswers, answer_bytes, is_owing, owed, below, count, received, request_at, requests, sent, is_drain}
use Rattle.host_model.specs.Session.{Session}
use Rattle.host_rings.specs.{Slip}
use Rattle.host_intake.specs.{Landing, landings, request_in, requests_of, row_in}
use Rattle.host_session.specs.{SessionHand, Act, log_of, slips_of, ClientState, is_drained, AreAnswered, AreSentBefore, answered_in, due_records, times}
use Rattle.host_session.proofs.Counting.{count-map, counting_tells}
use Rattle.host_session.proofs.Requests.{answer_before, counting_holds_before, request_before}
use Rattle.host_session.proofs.Times.{range_has, times-filter}
use Rattle.session_law.specs.{DueAnswers, IsSessionGathered, PushedAsTold}
use Rattle.session_law.proofs.Finding.{from_map}
use Rattle.session_law.proofs.Gathered.{course, index_is, log_same, requests_are, ts_of}
use Rattle.session_law.proofs.Handing.{answers_of, taken_due}
use Rattle.session_law.proofs.Once.{answers_once, names}
use Rattle.session_law.proofs.Received.{IsReceivedBy, first_slips, received_by}
use Rattle.session_law.proofs.Returned.{AreAllLanded}
use Rattle.session_law.proofs.Right.{IsRight, all_right, right_from, right_test, test_from}
use Rattle.session_law.proofs.Sending.{more_sent, sent_until}
use Rattle.session_law.proofs.Sums.{counted_none, none_counted, part_few, somewhere}
use Rattle.host_log.proofs.Bools.{not_false}

pub filter_few : {A : Type 0} (p : A → Bool) (xs : List A) → length (filter p xs) ≤ length xs
filter_few p [] = omega arith
filter_few p (x ∷ xs) = step (p x) (filter_few p xs)
  where
    step : (b : Bool) → length (filter p xs) ≤ length xs → length (cond b (x ∷ filter p xs) (filter p xs)) ≤ suc (length xs)
    step true h = omega (arith, h)
    step false h = omega (arith, h)

same_bytes : (f : ℕ → List ℕ) (xs : List Slip) → ((n : ℕ) (x : Slip) → slice_get xs n ≡ Some x → x.bytes ≡ f x.index) → map (λ (x : Slip). x.bytes) xs ≡ map f (map (λ (x : Slip). x.index) xs)
same_bytes f [] h = refl
same_bytes f (x ∷ xs) h = ap (λ b. b ∷ map (λ (y : Slip). y.bytes) xs) (h 0 x refl) ∙ ap (λ l. f x.index ∷ l) (same_bytes f xs (λ n y at. h (suc n) y at))

module _ (client : ClientState) (hands : List SessionHand) (h : List MemEntry) (s : Session) (g : IsSessionGathered client hands h s) (told : PushedAsTold hands g.whole.intake.entries) where
  abbrev pub ls_of : List Landing
  ls_of = landings g.whole.intake.entries

  abbrev pub acts_of : List Act
  acts_of = g.whole.client_of.acts

  pub all_landed : AreAllLanded (ts_of client hands h s g) ls_of g.whole.intake.cell_seat
  all_landed =
      let i = g.whole.intake_history.intake in
      record {
        places = λ k t at. index_is client hands h s g k t at;
        landed = i.landed;
        all = i.turned.over g.whole.intake_history.closed;
        cells = i.cells;
        rows = g.whole.joined.rows;
        those = g.whole.joined.those;
        ends = g.whole.joined.ends;
      }

  -- what the slips received are counted as, the answers made due are at least
  few : (p : Slip → Bool) → count p (slips_of acts_of) ≤ count p (answers_of ls_of)
  few p =
      let a = part_few p (slips_of acts_of) client.taker.taken (course client hands h s g).slips in
      let b = taken_due p hands g.whole.intake.entries client.taker.taken g.whole.joined.answers told in
      omega (arith, a, b)

  wrong : Slip → Bool
  wrong x = not (right_test (ts_of client hands h s g) ls_of g.whole.intake.cell_seat all_landed x)

  -- each slip received is right
  pub received_right : (j : ℕ) (x : Slip) → slice_get (slips_of acts_of) j ≡ Some x → IsRight (ts_of client hands h s g) ls_of g.whole.intake.cell_seat all_landed x
  unfolding wrong
  received_right j x at =
      let none : count wrong (answers_of ls_of) ≡ 0 = none_counted wrong (answers_of ls_of) (λ k y there. ap not (test_from (ts_of client hands h s g) ls_of g.whole.intake.cell_seat all_landed y (all_right (ts_of client hands h s g) ls_of g.whole.intake.cell_seat all_landed k y there))) in
      let zero_all : count wrong (slips_of acts_of) ≡ 0 = let f = few wrong in omega (arith, none, f) in
      right_from (ts_of client hands h s g) ls_of g.whole.intake.cell_seat all_landed x (not_false (right_test (ts_of client hands h s g) ls_of g.whole.intake.cell_seat all_landed x) (counted_none wrong (slips_of acts_of) j x zero_all at))

  abbrev pub answered : List ℕ
  answered = map (λ (x : Slip). x.index) (slips_of acts_of)

  rows_same : s.rows ≡ map (row_in ls_of) (ts_of client hands h s g)
  rows_same = g.whole.rows_are

  pub asked_count : length (requests_of (ts_of client hands h s g)) ≡ length (ts_of client hands h s g)
  asked_count = length-map (ts_of client hands h s g) request_in

  -- the answer that a record is owed, by all that was sent
  pub answer_same : (i : ℕ) → i < length (ts_of client hands h s g) → answer_bytes (requests_of (ts_of client hands h s g)) (map (row_in ls_of) (ts_of client hands h s g)) i ≡ answer_bytes (requests s.log) s.rows i
  answer_same i lt =
      let r = requests_are client hands h s g in
      let rs : List Request = requests_of (ts_of client hands h s g) in
      sym (answer_before rs r.0 (map (row_in ls_of) (ts_of client hands h s g)) i (omega (arith, lt, asked_count)))
      ∙ (ap (λ q. answer_bytes q (map (row_in ls_of) (ts_of client hands h s g)) i) (sym r.1) ∙ ap (λ w. answer_bytes (requests s.log) w i) (sym rows_same))

  pub request_same : (i : ℕ) → i < length (ts_of client hands h s g) → request_at (requests s.log) i ≡ request_at (requests_of (ts_of client hands h s g)) i
  request_same i lt =
      let r = requests_are client hands h s g in
      ap (λ q. request_at q i) r.1 ∙ request_before (requests_of (ts_of client hands h s g)) r.0 i (omega (arith, lt, asked_count))

  pub row_many : length s.rows ≡ length (ts_of client hands h s g)
  row_many = ap length rows_same ∙ length-map (ts_of client hands h s g) (row_in ls_of)

  is_due : (i : ℕ) → i < length (ts_of client hands h s g) → is_owing (request_at (requests_of (ts_of client hands h s g)) i) ≡ true → 0 < times i (due_records s.log s.rows)
  is_due i lt owing =
      let r = requests_are client hands h s g in
      let within : i < length (requests s.log) = more (requests_of (ts_of client hands h s g)) r.0 (requests s.log) r.1 (omega (arith, lt, asked_count)) in
      let there : 0 < times i (below (length (requests s.log))) = range_has i 0 (length (requests s.log)) (omega arith) (omega (arith, within)) in
      let o : is_owing (request_at (requests s.log) i) ≡ true = ap is_owing (request_same i lt) ∙ owing in
      let a : times i (owed (requests s.log)) ≡ cond (is_owing (request_at (requests s.log) i)) (times i (below (length (requests s.log)))) 0 = times-filter (λ k. is_owing (request_at (requests s.log) k)) i (below (length (requests s.log))) in
      let b : times i (owed (requests s.log)) ≡ times i (below (length (requests s.log))) = a ∙ ap (λ c. cond c (times i (below (length (requests s.log)))) 0) o in
      let t : nat_lt i (length s.rows) ≡ true = lt-ltb i (length s.rows) (omega (arith, lt, row_many)) in
      let c : times i (due_records s.log s.rows) ≡ cond (nat_lt i (length s.rows)) (times i (owed (requests s.log))) 0 = times-filter (λ k. nat_lt k (length s.rows)) i (owed (requests s.log)) in
      let d : times i (due_records s.log s.rows) ≡ times i (owed (requests s.log)) = c ∙ ap (λ e. cond e (times i (owed (requests s.log))) 0) t in
      omega (arith, there, b, d)
    where
      more : (rs rest all : List Request) → all ≡ rs ++ rest → i < length rs → i < length all
      more rs rest all e lt = let n = ap length e in let m = long rs rest in omega (arith, n, m, lt)
        where
          long : (rs rest : List Request) → length rs ≤ length (rs ++ rest)
          long [] rest = omega arith
          long (x ∷ rs) rest = let k = long rs rest in omega (arith, k)

  pub are_answered : AreAnswered s.log s.rows answered
  are_answered = record {
    bytes = ap received (sym (log_same client hands h s g))
        ∙ (sym (course client hands h s g).received
        ∙ same_bytes (answer_bytes (requests s.log) s.rows) (slips_of acts_of) (λ n x at. let r = received_right n x at in r.bytes ∙ answer_same x.index r.taken));
    due = λ i some.
        let r = somewhere (nat_eq i) answered some in
        let x = from_map (λ (y : Slip). y.index) (slips_of acts_of) r.0 r.1 r.2 in
        let right = received_right r.0 x.0 x.1 in
        let index : x.0.index ≡ i = x.2 ∙ sym (eqb-true i r.1 r.3) in
        is_due i (let t = right.taken in omega (arith, t, index)) (ap (λ k. is_owing (request_at (requests_of (ts_of client hands h s g)) k)) (sym index) ∙ right.owing);
    once = λ i.
        let a : times i answered ≡ count (names i) (slips_of acts_of) = count-map (nat_eq i) (λ (y : Slip). y.index) (slips_of acts_of) in
        let b = few (names i) in
        let c = answers_once (ts_of client hands h s g) ls_of g.whole.intake.cell_seat all_landed i in
        omega (arith, a, b, c);
  }

  pub log_acts : s.log ≡ log_of acts_of
  log_acts = sym (log_same client hands h s g) ∙ sym (course client hands h s g).events_are

  pub first_answered : (n : ℕ) → answered_in s.log answered n ≡ map (λ (x : Slip). x.index) (slips_of (take n acts_of))
  first_answered n =
      ap (λ l. take (length (received (take n l))) answered) log_acts
      ∙ (take-map (λ (x : Slip). x.index) (length (received (take n (log_of acts_of)))) (slips_of acts_of)
      ∙ ap (map (λ (x : Slip). x.index)) (first_slips h acts_of (course client hands h s g).each n))

  pub sent_same : (n : ℕ) → length (sent (take n s.log)) ≡ sent_until acts_of n
  sent_same n = ap (λ l. length (sent (take n l))) log_acts ∙ ap (λ l. length (sent l)) (take-map (λ (a : Act). a.event) n acts_of)

  -- the act that received the answer to a record, within the first n
  pub answered_by_act : (n i : ℕ) → 0 < times i (answered_in s.log answered n) → (x : Slip) × (m : ℕ) × (a : Act) × (IsReceivedBy h acts_of (course client hands h s g).each x n m a) × (x.index ≡ i)
  answered_by_act n i some =
      let l : List ℕ = map (λ (x : Slip). x.index) (slips_of (take n acts_of)) in
      let e : times i (answered_in s.log answered n) ≡ times i (map (λ (x : Slip). x.index) (slips_of (take n acts_of))) = ap (times i) (first_answered n) in
      let r = somewhere (nat_eq i) (map (λ (x : Slip). x.index) (slips_of (take n acts_of))) (omega (arith, some, e)) in
      let x = from_map (λ (y : Slip). y.index) (slips_of (take n acts_of)) r.0 r.1 r.2 in
      let b = received_by h acts_of (course client hands h s g).each n r.0 x.0 x.1 in
      (x.0, b.0, b.1, b.2, x.2 ∙ sym (eqb-true i r.1 r.3))

  pub sent_before : AreSentBefore s.log answered
  sent_before n i some =
      let r = answered_by_act n i some in
      let lt : r.0.index < sent_until acts_of r.1 = r.3.sent in
      let more : sent_until acts_of r.1 ≤ sent_until acts_of n = more_sent acts_of r.1 n (let l = r.3.early in omega arith) in
      let same = sent_same n in
      let index = r.4 in
      omega (arith, lt, more, same, index)

  drain_same : (f : Finish) → is_drain f ≡ true → is_drained (Some f) ≡ true
  drain_same Drain e = refl
  drain_same Abort e = absurd (cc)

  pub due_so : AreDueAnswers s
  due_so = record {
    at_most = λ n _. (counting_tells (take n s.log) s.rows (answered_in s.log answered n) (counting_holds_before s.log s.rows answered are_answered sent_before n)).at_most;
    exactly = λ d.
        let t = g.whole.client_of.over.answered (ap is_drained g.finish ∙ drain_same s.finish d) in
        let o : length (owed (requests s.log)) ≤ length (received s.log) = subst (λ l. length (owed (requests l)) ≤ length (received l)) (log_same client hands h s g) t in
        let b : length (received s.log) ≡ length answered = ap length are_answered.bytes ∙ length-map answered (answer_bytes (requests s.log) s.rows) in
        let f : length (due_records s.log s.rows) ≤ length (owed (requests s.log)) = filter_few (λ i. nat_lt i (length s.rows)) (owed (requests s.log)) in
        (counting_tells s.log s.rows answered are_answered).exactly (omega (arith, o, b, f));
  }

pub due_answers : DueAnswers
due_answers client hands h s g told = due_so client hands h s g told
