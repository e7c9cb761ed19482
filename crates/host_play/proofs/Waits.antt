-- What was waited for stays so as a log grows.
use Rattle.std.proofs.Common.{◌≡◌, ◌⊎◌, ℕ, ◌≤◌, ◌<◌, Bool, true, false, not, List, [], ◌∷◌, ◌++◌, length, map, refl, sym, ap, subst, ◌∙◌, inl, inr, arith, append-nil, append_assoc, length-append, eq-eqb}
use Rattle.std.specs.Prelude.{◌==◌, nat_le}
use Rattle.std.proofs.lemmas.List.Elements.{filter-append, filter_map-append}
use Rattle.std.proofs.lemmas.Bool.Decides.{Decides-eqb, leb_tells}
use Rattle.script_model.proofs.PrintedValues.{and_true, le_from, le_true}
use Rattle.script_model.proofs.Said.{and_both}
use Rattle.host_model.specs.{Event, owed, all_after, all_with_before, received, received_bytes, requests, sent, sent_bytes}
use Rattle.host_record.specs.{request_of}
use Rattle.host_report.specs.{LineAsk, attach, before_call, calls_asked, calls_in, fill, is_received, is_waited_for, send, show, wait_all, wait_for}
use Rattle.host_session.specs.{owed_count}
use Rattle.host_worker.specs.{received_events}
use Rattle.host_play.proofs.CallLists.{asked_within, before_all, before_less, before_stop}

-- ---- tests that go over

-- where one test holds of each element with those before it, and the other then holds too
pub all_after-go : (p q : List LineAsk → LineAsk → Bool) (before xs : List LineAsk) → ((front : List LineAsk) (a : LineAsk) (back : List LineAsk) → before ++ xs ≡ front ++ a ∷ back → p front a ≡ true → q front a ≡ true) → all_after p before xs ≡ true → all_after q before xs ≡ true
all_after-go p q before [] go h = refl
all_after-go p q before (x ∷ xs) go h =
    let parts = and_true (p before x) (all_after p (before ++ x ∷ []) xs) h in
    and_both (q before x) _ (go before x xs refl parts.0)
    (all_after-go p q (before ++ x ∷ []) xs (λ front a back e. go front a back (sym (append_assoc before (x ∷ []) xs) ∙ e)) parts.1)

-- one element more
all_after-snoc : (p : List LineAsk → LineAsk → Bool) (before xs : List LineAsk) (a : LineAsk) → all_after p before xs ≡ true → p (before ++ xs) a ≡ true → all_after p before (xs ++ a ∷ []) ≡ true
all_after-snoc p before [] a h c = and_both (p before a) true (ap (λ l. p l a) (sym (append-nil before)) ∙ c) refl
all_after-snoc p before (x ∷ xs) a h c =
    let parts = and_true (p before x) (all_after p (before ++ x ∷ []) xs) h in
    and_both (p before x) _ parts.0 (all_after-snoc p (before ++ x ∷ []) xs a parts.1 (ap (λ l. p l a) (append_assoc before (x ∷ []) xs) ∙ c))

pub waits_snoc : (log : List Event) (asks : List LineAsk) (a : LineAsk) → all_with_before (is_waited_for log) asks ≡ true → is_waited_for log asks a ≡ true → all_with_before (is_waited_for log) (asks ++ a ∷ []) ≡ true
waits_snoc log asks a h c = all_after-snoc (is_waited_for log) [] asks a h c

-- ---- one event more, which isn't an answer

wait_stop : (log : List Event) (e : Event) (front : List LineAsk) (a : LineAsk) → is_received e ≡ false → length (calls_asked front) ≤ length (calls_in log) → is_waited_for log front a ≡ true → is_waited_for (log ++ e ∷ []) front a ≡ true
wait_stop log e front wait_all c h w = subst (λ (past : List Event). (length (received past) == length (owed (requests past))) ≡ true) (sym (before_stop (length (calls_asked front)) log e c h)) w
wait_stop log e front (wait_for total) c h w = subst (λ (past : List Event). nat_le total (length (received past)) ≡ true) (sym (before_stop (length (calls_asked front)) log e c h)) w
wait_stop log e front (attach pages) c h w = refl
wait_stop log e front (fill id block count byte) c h w = refl
wait_stop log e front (show id block count) c h w = refl
wait_stop log e front (send bytes) c h w = refl

pub waits_stop : (log : List Event) (e : Event) (asks : List LineAsk) → is_received e ≡ false → length (calls_asked asks) ≡ length (calls_in log) → all_with_before (is_waited_for log) asks ≡ true → all_with_before (is_waited_for (log ++ e ∷ [])) asks ≡ true
waits_stop log e asks c n w = all_after-go (is_waited_for log) (is_waited_for (log ++ e ∷ [])) [] asks
    (λ front a back is. wait_stop log e front a c (let le = asked_within front (a ∷ back) asks is in omega (arith, le, n))) w

-- ---- answers more

pub received-events : (answers : List (List ℕ)) → received (received_events answers) ≡ answers
received-events [] = refl
received-events (b ∷ answers) = ap (λ l. b ∷ l) (received-events answers)

sent-events : (answers : List (List ℕ)) → sent (received_events answers) ≡ []
sent-events [] = refl
sent-events (b ∷ answers) = sent-events answers

calls-events : (answers : List (List ℕ)) → calls_in (received_events answers) ≡ []
calls-events [] = refl
calls-events (b ∷ answers) = calls-events answers

pub received_more : (log : List Event) (answers : List (List ℕ)) → received (log ++ received_events answers) ≡ received log ++ answers
received_more log answers = filter_map-append received_bytes log (received_events answers) ∙ ap (λ l. received log ++ l) (received-events answers)

pub sent_more : (log : List Event) (answers : List (List ℕ)) → sent (log ++ received_events answers) ≡ sent log
sent_more log answers = filter_map-append sent_bytes log (received_events answers) ∙ ap (λ l. sent log ++ l) (sent-events answers) ∙ append-nil (sent log)

pub calls_more : (log : List Event) (answers : List (List ℕ)) → calls_in (log ++ received_events answers) ≡ calls_in log
calls_more log answers = filter-append (λ e. not (is_received e)) log (received_events answers) ∙ ap (λ l. calls_in log ++ l) (calls-events answers) ∙ append-nil (calls_in log)

pub owed_more : (log : List Event) (answers : List (List ℕ)) → owed_count (log ++ received_events answers) ≡ owed_count log
owed_more log answers = ap (λ (l : List (List ℕ)). length (owed (map request_of l))) (sent_more log answers)

module _ (log : List Event) (answers : List (List ℕ)) (few : length (received (log ++ received_events answers)) ≤ owed_count (log ++ received_events answers)) where
  more_all : (length (received log) == owed_count log) ≡ true → (length (received (log ++ received_events answers)) == owed_count (log ++ received_events answers)) ≡ true
  more_all w =
      let same : length (received log) ≡ owed_count log = (Decides-eqb (length (received log)) (owed_count log)).0 w in
      let grown : length (received (log ++ received_events answers)) ≡ length (received log ++ answers) = ap (λ (l : List (List ℕ)). length l) (received_more log answers) in
      eq-eqb (length (received (log ++ received_events answers))) (owed_count (log ++ received_events answers)) (omega (arith, same, grown, few, length-append (received log) answers, owed_more log answers))

  more_for : (total : ℕ) → nat_le total (length (received log)) ≡ true → nat_le total (length (received (log ++ received_events answers))) ≡ true
  more_for total w =
      let grown : length (received (log ++ received_events answers)) ≡ length (received log ++ answers) = ap (λ (l : List (List ℕ)). length l) (received_more log answers) in
      le_true total (length (received (log ++ received_events answers))) (omega (arith, le_from total (length (received log)) w, grown, length-append (received log) answers))

  wait_more : (front : List LineAsk) (a : LineAsk) → (length (calls_asked front) < length (calls_in log)) ⊎ (length (calls_in log) ≤ length (calls_asked front)) → is_waited_for log front a ≡ true → is_waited_for (log ++ received_events answers) front a ≡ true
  wait_more front wait_all (inl less) w = subst (λ (past : List Event). (length (received past) == length (owed (requests past))) ≡ true) (sym (before_less (length (calls_asked front)) log (received_events answers) less)) w
  wait_more front (wait_for total) (inl less) w = subst (λ (past : List Event). nat_le total (length (received past)) ≡ true) (sym (before_less (length (calls_asked front)) log (received_events answers) less)) w
  wait_more front wait_all (inr rest) w =
      let n = length (calls_asked front) in
      let whole : before_call n (log ++ received_events answers) ≡ log ++ received_events answers = before_all n (log ++ received_events answers) (omega (arith, rest, ap (λ (l : List Event). length l) (calls_more log answers))) in
      subst (λ (past : List Event). (length (received past) == length (owed (requests past))) ≡ true) (sym whole)
      (more_all (subst (λ (past : List Event). (length (received past) == length (owed (requests past))) ≡ true) (before_all n log rest) w))
  wait_more front (wait_for total) (inr rest) w =
      let n = length (calls_asked front) in
      let whole : before_call n (log ++ received_events answers) ≡ log ++ received_events answers = before_all n (log ++ received_events answers) (omega (arith, rest, ap (λ (l : List Event). length l) (calls_more log answers))) in
      subst (λ (past : List Event). nat_le total (length (received past)) ≡ true) (sym whole)
      (more_for total (subst (λ (past : List Event). nat_le total (length (received past)) ≡ true) (before_all n log rest) w))
  wait_more front (attach pages) at w = refl
  wait_more front (fill id block count byte) at w = refl
  wait_more front (show id block count) at w = refl
  wait_more front (send bytes) at w = refl

less_or_not : (a b : ℕ) → (a < b) ⊎ (b ≤ a)
less_or_not a b = by (leb_tells b a)
  where
    by : ((nat_le b a ≡ true) × (b ≤ a)) ⊎ ((nat_le b a ≡ false) × (a < b)) → (a < b) ⊎ (b ≤ a)
    by (inl t) = inr t.1
    by (inr f) = inl f.1

pub waits_more : (log : List Event) (answers : List (List ℕ)) (asks : List LineAsk) → length (received (log ++ received_events answers)) ≤ owed_count (log ++ received_events answers) → all_with_before (is_waited_for log) asks ≡ true → all_with_before (is_waited_for (log ++ received_events answers)) asks ≡ true
waits_more log answers asks few w = all_after-go (is_waited_for log) (is_waited_for (log ++ received_events answers)) [] asks
    (λ front a back is. wait_more log answers few front a (less_or_not (length (calls_asked front)) (length (calls_in log)))) w
