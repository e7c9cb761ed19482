-- A log after one line more.
use Rattle.std.proofs.Common.{◌≡◌, ℕ, ◌+◌, ◌≤◌, true, false, not, cond, List, [], ◌∷◌, ◌++◌, length, None, refl, sym, ap, subst, ◌∙◌, arith, eq-eqb}
use Rattle.std.specs.Prelude.{◌==◌, nat_le}
use Rattle.std.proofs.lemmas.List.{map-append}
use Rattle.script_model.proofs.PrintedValues.{le_true}
use Rattle.host_record.specs.{Finish, Drain, Abort, request_of}
use Rattle.host_record.specs.declared.request.Request.{Request}
use Rattle.host_model.specs.{Event, Attached, NotAttached, Filled, Sent, Received, Shown, Drained, Aborted, is_owing, owed, all_with_before, received, received_bytes, requests}
use Rattle.host_report.specs.{LineAsk, are_calls_for, attach, before_call, calls_asked, calls_in, fill, is_call_for, is_end_of, is_received, is_wait, is_waited_for, send, show, wait_all, wait_for}
use Rattle.host_session.specs.{owed_count}
use Rattle.host_session.proofs.Requests.{owed_more, requests_quiet, requests_sent}
use Rattle.host_session.proofs.Snoc.{found_none}
use Rattle.host_memory.proofs.Pushed.{filter_add, filter_skip}
use Rattle.host_worker.specs.{received_events}
use Rattle.script_model.specs.{ScriptLine, WaitAll, WaitFor}
use Rattle.script_played.specs.{ask_of}
use Rattle.host_play.specs.{HasPlayed, HasPlayedOut, are_calls, asks_of}
use Rattle.host_play.proofs.CallLists.{before_all, calls_end, calls_length, calls_snoc}
use Rattle.host_play.proofs.Waits.{calls_more, waits_more, waits_snoc, waits_stop}

-- ---- what a call isn't

-- the event of a call is no answer
pub no_answer : (a : LineAsk) (e : Event) → is_call_for a e ≡ true → is_received e ≡ false
no_answer (attach pages) (Received bytes) h = cc
no_answer (fill id block count byte) (Received bytes) h = cc
no_answer (show id block count) (Received bytes) h = cc
no_answer (send bytes') (Received bytes) h = cc
no_answer wait_all (Received bytes) h = cc
no_answer (wait_for total) (Received bytes) h = cc
no_answer a (Attached pages id) h = refl
no_answer a (NotAttached pages cause) h = refl
no_answer a (Filled id block count byte done) h = refl
no_answer a (Sent index bytes) h = refl
no_answer a (Shown id block count done bytes) h = refl
no_answer a Drained h = refl
no_answer a Aborted h = refl

-- nor is an end
pub no_end_answer : (finish : Finish) (e : Event) → is_end_of finish e ≡ true → is_received e ≡ false
no_end_answer Drain (Received bytes) h = cc
no_end_answer Abort (Received bytes) h = cc
no_end_answer finish (Attached pages id) h = refl
no_end_answer finish (NotAttached pages cause) h = refl
no_end_answer finish (Filled id block count byte done) h = refl
no_end_answer finish (Sent index bytes) h = refl
no_end_answer finish (Shown id block count done bytes) h = refl
no_end_answer finish Drained h = refl
no_end_answer finish Aborted h = refl

nothing_received : (e : Event) → is_received e ≡ false → received_bytes e ≡ None
nothing_received (Received bytes) h = cc
nothing_received (Attached pages id) h = refl
nothing_received (NotAttached pages cause) h = refl
nothing_received (Filled id block count byte done) h = refl
nothing_received (Sent index bytes) h = refl
nothing_received (Shown id block count done bytes) h = refl
nothing_received Drained h = refl
nothing_received Aborted h = refl

-- no less is owed after one event more
pub owes_no_less : (log : List Event) (e : Event) → owed_count log ≤ owed_count (log ++ e ∷ [])
owes_no_less log (Sent index bytes) =
    let grown : owed_count (log ++ Sent index bytes ∷ []) ≡ owed_count log + cond (is_owing (request_of bytes)) 1 0 =
    ap (λ (rs : List Request). length (owed rs)) (requests_sent log index bytes) ∙ owed_more (requests log) (request_of bytes) in
    omega (arith, grown)
owes_no_less log (Attached pages id) = let same = ap (λ (rs : List Request). length (owed rs)) (requests_quiet log (Attached pages id) refl) in omega (arith, same)
owes_no_less log (NotAttached pages cause) = let same = ap (λ (rs : List Request). length (owed rs)) (requests_quiet log (NotAttached pages cause) refl) in omega (arith, same)
owes_no_less log (Filled id block count byte done) = let same = ap (λ (rs : List Request). length (owed rs)) (requests_quiet log (Filled id block count byte done) refl) in omega (arith, same)
owes_no_less log (Received bytes) = let same = ap (λ (rs : List Request). length (owed rs)) (requests_quiet log (Received bytes) refl) in omega (arith, same)
owes_no_less log (Shown id block count done bytes) = let same = ap (λ (rs : List Request). length (owed rs)) (requests_quiet log (Shown id block count done bytes) refl) in omega (arith, same)
owes_no_less log Drained = let same = ap (λ (rs : List Request). length (owed rs)) (requests_quiet log Drained refl) in omega (arith, same)
owes_no_less log Aborted = let same = ap (λ (rs : List Request). length (owed rs)) (requests_quiet log Aborted refl) in omega (arith, same)

-- ---- one line more

asks_snoc : (lines : List ScriptLine) (line : ScriptLine) → asks_of (lines ++ line ∷ []) ≡ asks_of lines ++ ask_of line ∷ []
asks_snoc lines line = map-append ask_of lines (line ∷ [])

-- the calls so far are as many as were asked for
pub as_many : (lines : List ScriptLine) (log : List Event) → HasPlayed lines log → length (calls_asked (asks_of lines)) ≡ length (calls_in log)
as_many lines log p = calls_length (calls_asked (asks_of lines)) (calls_in log) p.calls

-- answers were received
pub receives : (lines : List ScriptLine) (log : List Event) (answers : List (List ℕ)) → HasPlayed lines log → length (received (log ++ received_events answers)) ≤ owed_count (log ++ received_events answers) → HasPlayed lines (log ++ received_events answers)
receives lines log answers p few = record {
  calls = ap (λ l. are_calls (calls_asked (asks_of lines)) l) (calls_more log answers) ∙ p.calls;
  waits = waits_more log answers (asks_of lines) few p.waits;
  few = few;
}

module _ (lines : List ScriptLine) (line : ScriptLine) (log : List Event) (p : HasPlayed lines log) where
  -- a call was made
  pub calls_on : (e : Event) → is_wait (ask_of line) ≡ false → is_call_for (ask_of line) e ≡ true → HasPlayed (lines ++ line ∷ []) (log ++ e ∷ [])
  calls_on e call made =
      let quiet : is_received e ≡ false = no_answer (ask_of line) e made in
      let asked : calls_asked (asks_of (lines ++ line ∷ [])) ≡ calls_asked (asks_of lines) ++ ask_of line ∷ [] =
      ap calls_asked (asks_snoc lines line) ∙ filter_add (λ a. not (is_wait a)) (asks_of lines) (ask_of line) (ap not call) in
      let logged : calls_in (log ++ e ∷ []) ≡ calls_in log ++ e ∷ [] = filter_add (λ x. not (is_received x)) log e (ap not quiet) in
      let got : received (log ++ e ∷ []) ≡ received log = found_none received_bytes log e (nothing_received e quiet) in
      record {
        calls = ap (λ (l : List LineAsk). are_calls l (calls_in (log ++ e ∷ []))) asked ∙ ap (λ es. are_calls (calls_asked (asks_of lines) ++ ask_of line ∷ []) es) logged
            ∙ calls_snoc (calls_asked (asks_of lines)) (calls_in log) (ask_of line) e p.calls made;
        waits = ap (λ (l : List LineAsk). all_with_before (is_waited_for (log ++ e ∷ [])) l) (asks_snoc lines line)
            ∙ waits_snoc (log ++ e ∷ []) (asks_of lines) (ask_of line) (waits_stop log e (asks_of lines) quiet (as_many lines log p) p.waits) (no_wait (ask_of line) call);
        few = let same = ap (λ (l : List (List ℕ)). length l) got in omega (arith, same, p.few, owes_no_less log e);
      }
    where
      no_wait : (a : LineAsk) → is_wait a ≡ false → is_waited_for (log ++ e ∷ []) (asks_of lines) a ≡ true
      no_wait (attach pages) h = refl
      no_wait (fill id block count byte) h = refl
      no_wait (show id block count) h = refl
      no_wait (send bytes) h = refl
      no_wait wait_all h = cc
      no_wait (wait_for total) h = cc

  -- the wait is over
  pub waits_on : is_wait (ask_of line) ≡ true → is_waited_for log (asks_of lines) (ask_of line) ≡ true → HasPlayed (lines ++ line ∷ []) log
  waits_on wait over =
      let asked : calls_asked (asks_of (lines ++ line ∷ [])) ≡ calls_asked (asks_of lines) =
      ap calls_asked (asks_snoc lines line) ∙ filter_skip (λ a. not (is_wait a)) (asks_of lines) (ask_of line) (ap not wait) in
      record {
        calls = ap (λ (l : List LineAsk). are_calls l (calls_in log)) asked ∙ p.calls;
        waits = ap (λ (l : List LineAsk). all_with_before (is_waited_for log) l) (asks_snoc lines line) ∙ waits_snoc log (asks_of lines) (ask_of line) p.waits over;
        few = p.few;
      }

-- all that is owed was received, and no more can be
pub waited_all : (lines : List ScriptLine) (log : List Event) → HasPlayed lines log → owed_count log ≤ length (received log) → HasPlayed (lines ++ WaitAll ∷ []) log
waited_all lines log p enough =
    let n : ℕ = length (calls_asked (asks_of lines)) in
    let whole : before_call n log ≡ log = before_all n log (let m = as_many lines log p in omega (arith, m)) in
    waits_on lines WaitAll log p refl
    (subst (λ (past : List Event). (length (received past) == length (owed (requests past))) ≡ true) (sym whole) (eq-eqb (length (received log)) (owed_count log) (omega (arith, enough, p.few))))

pub waited_for : (lines : List ScriptLine) (total : ℕ) (log : List Event) → HasPlayed lines log → total ≤ length (received log) → HasPlayed (lines ++ WaitFor total ∷ []) log
waited_for lines total log p enough =
    let n : ℕ = length (calls_asked (asks_of lines)) in
    let whole : before_call n log ≡ log = before_all n log (let m = as_many lines log p in omega (arith, m)) in
    waits_on lines (WaitFor total) log p refl
    (subst (λ (past : List Event). nat_le total (length (received past)) ≡ true) (sym whole) (le_true total (length (received log)) enough))

-- the session ended
pub ends_on : (finish : Finish) (lines : List ScriptLine) (log : List Event) (e : Event) → HasPlayed lines log → is_end_of finish e ≡ true → HasPlayedOut finish lines (log ++ e ∷ [])
ends_on finish lines log e p end =
    let quiet : is_received e ≡ false = no_end_answer finish e end in
    let logged : calls_in (log ++ e ∷ []) ≡ calls_in log ++ e ∷ [] = filter_add (λ x. not (is_received x)) log e (ap not quiet) in
    record {
      calls = ap (λ es. are_calls_for finish (calls_asked (asks_of lines)) es) logged ∙ calls_end finish (calls_asked (asks_of lines)) (calls_in log) e p.calls end;
      waits = waits_stop log e (asks_of lines) quiet (as_many lines log p) p.waits;
    }

-- nothing was played yet
pub played_none : HasPlayed [] []
played_none = record { calls = refl; waits = refl; few = omega arith }
