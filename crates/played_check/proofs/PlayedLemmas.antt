-- Calls and waits of a client, one after the other.
use Rattle.std.proofs.Common.{◌≡◌, ◌↔◌, ◌+◌, Bool, true, false, not, ◌==◌, ◌&&◌, cond, IsTrue, List, [], ◌∷◌, ◌++◌, length, map, filter, refl, sym, ap, ◌∙◌, length-append}
use Rattle.std.proofs.Math.Bool.{and-true, and-false}
use Rattle.std.proofs.lemmas.Bool.{eq-eqb, eqb-true}
use Rattle.std.proofs.lemmas.List.Elements.{filter-append}
use Rattle.std.specs.List.{AllZip}
use Rattle.host_record.specs.{Finish}
use Rattle.host_model.specs.{Event, all_after, all_with_before, is_nil}
use Rattle.host_model.proofs.ListTests.{and-from, both}
use Rattle.host_report.specs.Played as played
use Rattle.host_report.specs.{IsPlayedBy, are_calls_for, calls_asked, calls_in, is_end_of, is_received, is_wait, is_waited_for, SessionReport}
use Rattle.played_check.specs.{are_waited_from, played_ask, calls_by, is_waited_at, Ask}

-- ---- what is asked but for the waits

pub asked_calls : (asks : List Ask) → calls_asked (map played_ask asks) ≡ map played_ask (filter (λ a. not (is_wait (played_ask a))) asks)
asked_calls [] = refl
asked_calls (a ∷ asks) = at (not (is_wait (played_ask a))) (calls_asked (map played_ask asks)) (filter (λ b. not (is_wait (played_ask b))) asks) (asked_calls asks)
  where
    at : (b : Bool) (ys : List played.LineAsk) (zs : List Ask) → ys ≡ map played_ask zs → cond b (played_ask a ∷ ys) ys ≡ map played_ask (cond b (a ∷ zs) zs)
    at true ys zs e = ap (λ l. played_ask a ∷ l) e
    at false ys zs e = e

-- ---- calls beside a log

pub skip_answer : (e : Event) (log : List Event) → is_received e ≡ true → calls_in (e ∷ log) ≡ calls_in log
skip_answer e log h = ap (λ b. cond (not b) (e ∷ calls_in log) (calls_in log)) h

pub keep_call : (e : Event) (log : List Event) → is_received e ≡ false → calls_in (e ∷ log) ≡ e ∷ calls_in log
keep_call e log h = ap (λ b. cond (not b) (e ∷ calls_in log) (calls_in log)) h

pub no_calls : (e : Event) (log : List Event) → is_nil (calls_in (e ∷ log)) ≡ (is_received e && is_nil (calls_in log))
no_calls e log = at (is_received e)
  where
    at : (b : Bool) → is_nil (cond (not b) (e ∷ calls_in log) (calls_in log)) ≡ (b && is_nil (calls_in log))
    at true = refl
    at false = refl

pub none_played : (finish : Finish) (asks : List played.LineAsk) → are_calls_for finish asks [] ≡ false
none_played finish [] = refl
none_played finish (a ∷ asks) = refl

pub last_call : (finish : Finish) (e : Event) (log : List Event) → are_calls_for finish [] (e ∷ log) ≡ (is_end_of finish e && is_nil log)
last_call finish e [] = sym (and-true (is_end_of finish e))
last_call finish e (x ∷ log) = sym (and-false (is_end_of finish e))

pub answer_more : (finish : Finish) (asks : List played.LineAsk) (e : Event) (log : List Event) (b : Bool) → is_received e ≡ true → b ≡ are_calls_for finish asks (calls_in log) → b ≡ are_calls_for finish asks (calls_in (e ∷ log))
answer_more finish asks e log b h t = t ∙ ap (are_calls_for finish asks) (sym (skip_answer e log h))

pub end_more : (finish : Finish) (e : Event) (log : List Event) (a b : Bool) → is_received e ≡ false → a ≡ is_end_of finish e → b ≡ is_nil (calls_in log) → (a && b) ≡ are_calls_for finish [] (calls_in (e ∷ log))
end_more finish e log a b h ha hb =
    ap (λ x. x && b) ha ∙ ap (λ x. is_end_of finish e && x) hb ∙ sym (last_call finish e (calls_in log)) ∙ ap (are_calls_for finish []) (sym (keep_call e log h))

pub call_more : (finish : Finish) (ask : played.LineAsk) (asks : List played.LineAsk) (e : Event) (log : List Event) (a b : Bool) → is_received e ≡ false → a ≡ played.is_call_for ask e → b ≡ are_calls_for finish asks (calls_in log)
    → (a && b) ≡ are_calls_for finish (ask ∷ asks) (calls_in (e ∷ log))
call_more finish ask asks e log a b h ha hb =
    ap (λ x. x && b) ha ∙ ap (λ x. played.is_call_for ask e && x) hb ∙ ap (are_calls_for finish (ask ∷ asks)) (sym (keep_call e log h))

-- ---- waits

one_call : (a : played.LineAsk) → length (calls_asked (a ∷ [])) ≡ calls_by a
one_call (played.attach pages) = refl
one_call (played.fill id block count byte) = refl
one_call (played.show id block count) = refl
one_call (played.send bytes) = refl
one_call played.wait_all = refl
one_call (played.wait_for total) = refl

calls-push : (before : List played.LineAsk) (a : played.LineAsk) → length (calls_asked (before ++ a ∷ [])) ≡ length (calls_asked before) + calls_by a
calls-push before a =
    ap length (filter-append (λ b. not (is_wait b)) before (a ∷ []))
    ∙ length-append (calls_asked before) (calls_asked (a ∷ []))
    ∙ ap (λ n. length (calls_asked before) + n) (one_call a)

waited_at : (log : List Event) (before : List played.LineAsk) (a : played.LineAsk) → is_waited_for log before a ≡ is_waited_at (length (calls_asked before)) log a
waited_at log before (played.attach pages) = refl
waited_at log before (played.fill id block count byte) = refl
waited_at log before (played.show id block count) = refl
waited_at log before (played.send bytes) = refl
waited_at log before played.wait_all = refl
waited_at log before (played.wait_for total) = refl

waited_after : (log : List Event) (before asks : List played.LineAsk) → all_after (is_waited_for log) before asks ≡ are_waited_from (length (calls_asked before)) log asks
waited_after log before [] = refl
waited_after log before (a ∷ asks) =
    ap (λ b. b && all_after (is_waited_for log) (before ++ a ∷ []) asks) (waited_at log before a)
    ∙ ap (λ b. is_waited_at (length (calls_asked before)) log a && b) (waited_after log (before ++ a ∷ []) asks ∙ ap (λ n. are_waited_from n log asks) (calls-push before a))

pub all_waited_is : (log : List Event) (asks : List played.LineAsk) → all_with_before (is_waited_for log) asks ≡ are_waited_from 0 log asks
all_waited_is log asks = waited_after log [] asks

-- ---- the session

pub played_is : (plan : played.Plan) (s : SessionReport) (a b c d : Bool) → a ≡ (s.part == plan.part) → (IsTrue b ↔ (s.finish ≡ plan.finish))
    → c ≡ are_calls_for plan.finish (calls_asked plan.asks) (calls_in s.log.items) → d ≡ all_with_before (is_waited_for s.log.items) plan.asks
    → IsTrue (a && b && c && d) ↔ IsPlayedBy plan s
played_is plan s a b c d ha hb hc hd = (
  λ t.
      let t3 : IsTrue (a && b && c) × IsTrue d = both _ _ t in
      let t2 : IsTrue (a && b) × IsTrue c = both _ _ t3.0 in
      let t1 : IsTrue a × IsTrue b = both _ _ t2.0 in
      record { part = eqb-true s.part plan.part (sym ha ∙ t1.0); finish = hb.0 t1.1; calls = sym hc ∙ t2.1; waits = sym hd ∙ t3.1 },
  λ h. and-from _ _ (and-from _ _ (and-from _ _ (ha ∙ eq-eqb s.part plan.part h.part) (hb.1 h.finish)) (hc ∙ h.calls)) (hd ∙ h.waits),
)

pub no_plans : (sessions : List SessionReport) → IsTrue (is_nil sessions) ↔ AllZip IsPlayedBy [] sessions
no_plans [] = (λ t. tt, λ t. refl)
no_plans (s ∷ sessions) = (λ t. absurd (cc t), λ z. absurd z)
