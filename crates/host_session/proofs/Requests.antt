-- Requests as more are sent: what is said of those sent before stays.
use Rattle.std.proofs.Common.{◌≡◌, ℕ, zero, suc, ◌+◌, ◌≤◌, ◌<◌, Bool, true, false, ◌==◌, ◌&&◌, cond, nat_lt, List, [], ◌∷◌, ◌++◌, length, take, drop, filter, map, Some, None, refl, sym, ap, ap₂, subst, ◌∙◌, arith, length-append}
use Rattle.std.specs.List.{range_with_len}
use Rattle.std.proofs.lemmas.List.{length-map, map-append, take-append-drop, take-append-le, take-map, take_at}
use Rattle.std.proofs.lemmas.List.Elements.{filter-append, filter_map-append}
use Rattle.std.proofs.lemmas.List.FromFn.{length-range_with_len}
use Rattle.std.proofs.Math.ListN.{get_or-append}
use Rattle.std.proofs.Math.Seq.{get_or-append_seam}
use Rattle.host_record.specs.declared.request.Request.{Request}
use Rattle.host_record.specs.{request_of, response_bytes, status_number}
use Rattle.host_model.specs.{Event, Sent, TakenRow, answer_bytes, first_failure, answered_by, answers_for, closings, instance_of, is_closing, is_member, is_owing, owed, same_instance, below, received, received_bytes, request_at, requests, sent, sent_bytes, row_at}
use Rattle.host_session.specs.{CountingHoldsBefore, due_records, times}
use Rattle.host_session.proofs.Snoc.{found_none, found_one}
use Rattle.host_intake.proofs.Counting.{below_more}
use Rattle.host_session.proofs.Times.{range_has, times-filter, times-take, times_one, times_self, count_split}

-- tests that agree below a bound keep the same numbers
pub filter_range_same : (p q : ℕ → Bool) (a n : ℕ) → ((i : ℕ) → i < a + n → p i ≡ q i) → filter p (range_with_len a n) ≡ filter q (range_with_len a n)
filter_range_same p q a zero h = refl
filter_range_same p q a (suc n) h =
    let rest : filter p (range_with_len (a + 1) n) ≡ filter q (range_with_len (a + 1) n) = filter_range_same p q (a + 1) n (λ i l. h i (omega (arith, l))) in
    ap (λ b. cond b (a ∷ filter p (range_with_len (a + 1) n)) (filter p (range_with_len (a + 1) n))) (h a (omega arith)) ∙ ap (λ l. cond (q a) (a ∷ l) l) rest

module _ (rs more : List Request) where
  pub request_before : (i : ℕ) → i < length rs → request_at (rs ++ more) i ≡ request_at rs i
  request_before i h = get_or-append rs more (request_of []) i h

  pub instance_before : (k : ℕ) → k < length rs → instance_of (rs ++ more) k ≡ instance_of rs k
  instance_before k h =
      ap (λ (r : Request). cond (is_member r) (Some (r.group, closings r.group (take k (rs ++ more)))) None) (request_before k h)
      ∙ ap (λ (l : List Request). cond (is_member (request_at rs k)) (Some ((request_at rs k).group, closings (request_at rs k).group l)) None) (take-append-le k rs more (omega (arith, h)))

  pub answers_before : (i k : ℕ) → i < length rs → k < length rs → answers_for (rs ++ more) i k ≡ answers_for rs i k
  answers_before i k hi hk =
      ap (λ (r : Request). cond (is_member r) (is_closing r && same_instance (instance_of (rs ++ more) i) (instance_of (rs ++ more) k)) (i == k)) (request_before i hi)
      ∙ ap₂ (λ a b. cond (is_member (request_at rs i)) (is_closing (request_at rs i) && same_instance a b) (i == k)) (instance_before i hi) (instance_before k hk)

  answered_before : (i : ℕ) → i < length rs → answered_by (rs ++ more) i ≡ answered_by rs i
  answered_before i h = filter_range_same (answers_for (rs ++ more) i) (answers_for rs i) 0 (i + 1) (λ k l. answers_before i k h (omega (arith, h, l)))

  -- the answer to a record sent before
  pub answer_before : (rows : List TakenRow) (i : ℕ) → i < length rs → answer_bytes (rs ++ more) rows i ≡ answer_bytes rs rows i
  answer_before rows i h =
      let f : Request → List ℕ → List ℕ = λ r answered. response_bytes (record {
        status = status_number (first_failure (map (λ k. (row_at rows k).outcome) answered));
        reqid = r.reqid;
        group = cond (is_member r) r.group 0;
        count = length answered;
      }) in
      ap₂ f (request_before i h) (answered_before i h)

-- one request more: it is owed an answer of its own, or none
pub owed_more : (rs : List Request) (r : Request) → length (owed (rs ++ r ∷ [])) ≡ length (owed rs) + cond (is_owing r) 1 0
owed_more rs r =
    let p : ℕ → Bool = λ i. is_owing (request_at (rs ++ r ∷ []) i) in
    let last : request_at (rs ++ r ∷ []) (length rs) ≡ r = get_or-append_seam rs r [] (request_of []) in
    let split : owed (rs ++ r ∷ []) ≡ owed rs ++ cond (is_owing r) (length rs ∷ []) [] =
    ap (λ n. filter p (below n)) (length-append rs (r ∷ []))
    ∙ (ap (filter p) (below_more (length rs))
    ∙ (filter-append p (below (length rs)) (length rs ∷ [])
    ∙ (ap (λ l. l ++ filter p (length rs ∷ [])) (filter_range_same p (λ i. is_owing (request_at rs i)) 0 (length rs) (λ i l. ap is_owing (request_before rs (r ∷ []) i (omega (arith, l)))))
    ∙ ap (λ x. owed rs ++ cond (is_owing x) (length rs ∷ []) []) last))) in
    ap length split ∙ (length-append (owed rs) (cond (is_owing r) (length rs ∷ []) []) ∙ ap (λ n. length (owed rs) + n) (elim (is_owing r) as (λ b. length (cond b (length rs ∷ []) []) ≡ cond b 1 0) [ true ↦ refl | false ↦ refl ]))

-- no more are owed than there are
pub owed_few : (rs : List Request) → length (owed rs) ≤ length rs
owed_few rs = omega (arith, count_split (λ i. is_owing (request_at rs i)) (below (length rs)), length-range_with_len 0 (length rs))

pub requests_sent : (log : List Event) (index : ℕ) (bytes : List ℕ) → requests (log ++ Sent index bytes ∷ []) ≡ requests log ++ request_of bytes ∷ []
requests_sent log index bytes = ap (map request_of) (found_one sent_bytes log (Sent index bytes) bytes refl) ∙ map-append request_of (sent log) (bytes ∷ [])

pub requests_quiet : (log : List Event) (e : Event) → sent_bytes e ≡ None → requests (log ++ e ∷ []) ≡ requests log
requests_quiet log e none = ap (map request_of) (found_none sent_bytes log e none)

-- ---- counting holds before

map_same : (f g : ℕ → List ℕ) (xs : List ℕ) → ((i : ℕ) → 0 < times i xs → f i ≡ g i) → map f xs ≡ map g xs
map_same f g [] h = refl
map_same f g (x ∷ xs) h = ap₂ (λ y ys. y ∷ ys) (h x (times_self x xs)) (map_same f g xs (λ i l. h i (omega (arith, l, times_one i x xs))))

passes : (b : Bool) (n : ℕ) → 0 < cond b n 0 → (b ≡ true) × (0 < n)
passes true n h = (refl, h)
passes false n h = absurd (omega (arith, h))

stands : (b : Bool) (n : ℕ) → b ≡ true → 0 < n → 0 < cond b n 0
stands b n e h = subst (λ c. 0 < cond c n 0) (sym e) h

pub counting_holds_before : CountingHoldsBefore
counting_holds_before log rows answered h t n =
    let first : List Event = take n log in
    let later : List Event = drop n log in
    let whole : log ≡ first ++ later = sym (take-append-drop n log) in
    let rs : requests log ≡ requests first ++ requests later = ap requests whole ∙ (ap (map request_of) (filter_map-append sent_bytes first later) ∙ map-append request_of (sent first) (sent later)) in
    let got : received log ≡ received first ++ received later = ap received whole ∙ filter_map-append received_bytes first later in
    let k : ℕ = length (received first) in
    let early : (i : ℕ) → 0 < times i (take k answered) → i < length (requests first) = λ i l. omega (arith, t n i l, length-map (sent first) request_of) in
    let same : (i : ℕ) → 0 < times i (take k answered) → answer_bytes (requests log) rows i ≡ answer_bytes (requests first) rows i =
    λ i l. ap (λ x. answer_bytes x rows i) rs ∙ answer_before (requests first) (requests later) rows i (early i l) in
    record {
      bytes = sym (take_at (received first) (received later) k refl)
          ∙ (ap (take k) (sym got)
          ∙ (ap (take k) h.bytes
          ∙ (take-map (answer_bytes (requests log) rows) k answered
          ∙ map_same (answer_bytes (requests log) rows) (answer_bytes (requests first) rows) (take k answered) same)));
      due = λ i l.
          let there : 0 < times i (due_records log rows) = h.due i (omega (arith, l, times-take i k answered)) in
          let a = passes (nat_lt i (length rows)) (times i (owed (requests log))) (subst (λ m. 0 < m) (times-filter (λ j. nat_lt j (length rows)) i (owed (requests log))) there) in
          let b = passes (is_owing (request_at (requests log) i)) (times i (below (length (requests log)))) (subst (λ m. 0 < m) (times-filter (λ j. is_owing (request_at (requests log) j)) i (below (length (requests log)))) a.1) in
          let owing : is_owing (request_at (requests first) i) ≡ true = ap is_owing (sym (ap (λ x. request_at x i) rs ∙ request_before (requests first) (requests later) i (early i l))) ∙ b.0 in
          let in_owed : 0 < times i (owed (requests first)) =
          subst (λ m. 0 < m) (sym (times-filter (λ j. is_owing (request_at (requests first) j)) i (below (length (requests first)))))
          (stands (is_owing (request_at (requests first) i)) (times i (below (length (requests first)))) owing (range_has i 0 (length (requests first)) (omega arith) (omega (arith, early i l)))) in
          subst (λ m. 0 < m) (sym (times-filter (λ j. nat_lt j (length rows)) i (owed (requests first)))) (stands (nat_lt i (length rows)) (times i (owed (requests first))) a.0 in_owed);
      once = λ i. omega (arith, h.once i, times-take i k answered);
    }
