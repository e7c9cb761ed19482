-- A client has room for each of its lines.
use Rattle.std.proofs.Common.{◌≡◌, ◌⊎◌, ℕ, suc, ◌+◌, ◌≤◌, ◌<◌, min, Bool, true, false, not, cond, List, [], ◌∷◌, ◌++◌, length, None, refl, sym, ap, subst, ◌∙◌, inl, inr, arith}
use Rattle.std.specs.Prelude.{filter, nat_le}
use Rattle.std.specs.List.{count_by}
use Rattle.std.proofs.lemmas.List.{length-map}
use Rattle.std.proofs.lemmas.List.Sums.{length-filter, sum_by-append, sum_by-cons}
use Rattle.std.proofs.lemmas.Bool.Decides.{leb_tells}
use Rattle.script_model.proofs.PrintedValues.{and_true}
use Rattle.host_record.specs.{request_of}
use Rattle.host_model.specs.{Event, Attached, NotAttached, Filled, Sent, Received, Shown, Drained, Aborted, count, given, received, requests, sent, is_end}
use Rattle.host_report.specs.{LineAsk, attach, calls_asked, calls_in, fill, is_call_for, is_received, send, show}
use Rattle.host_session.specs.{ClientState, IsClient}
use Rattle.host_session.proofs.Requests.{owed_few}
use Rattle.host_session.proofs.Times.{count_split}
use Rattle.host_worker.specs.{MayWait}
use Rattle.script_model.specs.{is_record, ScriptLine, Attach, Fill, Show, Send, WaitAll, WaitFor}
use Rattle.host_play.specs.{MayPlay, attach_count, call_count, is_attach_line, is_call, record_count, HasPlayed, are_calls, asks_of, HasRoomForLines}
use Rattle.host_play.proofs.SoFar.{as_many}

-- ---- what was asked for, by kind

abbrev sends : LineAsk → Bool
sends (send bytes) = true
sends _ = false

abbrev attaches : LineAsk → Bool
attaches (attach pages) = true
attaches _ = false

records-asked : (lines : List ScriptLine) → length (filter sends (calls_asked (asks_of lines))) ≡ length (filter is_record lines)
records-asked [] = refl
records-asked (Attach pages ∷ lines) = records-asked lines
records-asked (Fill id block n byte ∷ lines) = records-asked lines
records-asked (Show id block n ∷ lines) = records-asked lines
records-asked (Send bytes ∷ lines) = ap suc (records-asked lines)
records-asked (WaitAll ∷ lines) = records-asked lines
records-asked (WaitFor total ∷ lines) = records-asked lines

attaches-asked : (lines : List ScriptLine) → length (filter attaches (calls_asked (asks_of lines))) ≡ length (filter is_attach_line lines)
attaches-asked [] = refl
attaches-asked (Attach pages ∷ lines) = ap suc (attaches-asked lines)
attaches-asked (Fill id block n byte ∷ lines) = attaches-asked lines
attaches-asked (Show id block n ∷ lines) = attaches-asked lines
attaches-asked (Send bytes ∷ lines) = attaches-asked lines
attaches-asked (WaitAll ∷ lines) = attaches-asked lines
attaches-asked (WaitFor total ∷ lines) = attaches-asked lines

calls-asked : (lines : List ScriptLine) → length (calls_asked (asks_of lines)) ≡ length (filter is_call lines)
calls-asked [] = refl
calls-asked (Attach pages ∷ lines) = ap suc (calls-asked lines)
calls-asked (Fill id block n byte ∷ lines) = ap suc (calls-asked lines)
calls-asked (Show id block n ∷ lines) = ap suc (calls-asked lines)
calls-asked (Send bytes ∷ lines) = ap suc (calls-asked lines)
calls-asked (WaitAll ∷ lines) = calls-asked lines
calls-asked (WaitFor total ∷ lines) = calls-asked lines

-- ---- what a log has of each kind

sent_calls : (log : List Event) → sent (calls_in log) ≡ sent log
sent_calls [] = refl
sent_calls (Received bytes ∷ log) = sent_calls log
sent_calls (Attached pages id ∷ log) = sent_calls log
sent_calls (NotAttached pages cause ∷ log) = sent_calls log
sent_calls (Filled id block n byte done ∷ log) = sent_calls log
sent_calls (Sent index bytes ∷ log) = ap (λ l. bytes ∷ l) (sent_calls log)
sent_calls (Shown id block n done bytes ∷ log) = sent_calls log
sent_calls (Drained ∷ log) = sent_calls log
sent_calls (Aborted ∷ log) = sent_calls log

given_calls : (log : List Event) → given (calls_in log) ≡ given log
given_calls [] = refl
given_calls (Received bytes ∷ log) = given_calls log
given_calls (Attached pages id ∷ log) = ap (λ l. id ∷ l) (given_calls log)
given_calls (NotAttached pages cause ∷ log) = given_calls log
given_calls (Filled id block n byte done ∷ log) = given_calls log
given_calls (Sent index bytes ∷ log) = given_calls log
given_calls (Shown id block n done bytes ∷ log) = given_calls log
given_calls (Drained ∷ log) = given_calls log
given_calls (Aborted ∷ log) = given_calls log

received_count : (log : List Event) → length (filter is_received log) ≡ length (received log)
received_count [] = refl
received_count (Received bytes ∷ log) = ap suc (received_count log)
received_count (Attached pages id ∷ log) = received_count log
received_count (NotAttached pages cause ∷ log) = received_count log
received_count (Filled id block n byte done ∷ log) = received_count log
received_count (Sent index bytes ∷ log) = received_count log
received_count (Shown id block n done bytes ∷ log) = received_count log
received_count (Drained ∷ log) = received_count log
received_count (Aborted ∷ log) = received_count log

-- ---- as many as were asked for

sent_count : (asks : List LineAsk) (log : List Event) → are_calls asks log ≡ true → length (sent log) ≡ length (filter sends asks)
sent_count [] [] h = refl
sent_count (send bytes ∷ asks) (Sent index bytes' ∷ log) h = ap suc (sent_count asks log (and_true (is_call_for (send bytes) (Sent index bytes')) (are_calls asks log) h).1)
sent_count (attach pages ∷ asks) (Attached pages' id ∷ log) h = sent_count asks log (and_true (is_call_for (attach pages) (Attached pages' id)) (are_calls asks log) h).1
sent_count (attach pages ∷ asks) (NotAttached pages' cause ∷ log) h = sent_count asks log (and_true (is_call_for (attach pages) (NotAttached pages' cause)) (are_calls asks log) h).1
sent_count (fill id block n byte ∷ asks) (Filled i b c y done ∷ log) h = sent_count asks log (and_true (is_call_for (fill id block n byte) (Filled i b c y done)) (are_calls asks log) h).1
sent_count (show id block n ∷ asks) (Shown i b c done bytes ∷ log) h = sent_count asks log (and_true (is_call_for (show id block n) (Shown i b c done bytes)) (are_calls asks log) h).1
sent_count [] (e ∷ log) h = cc
sent_count (a ∷ asks) [] h = cc
sent_count (a ∷ asks) (e ∷ log) h = cc

given_count : (asks : List LineAsk) (log : List Event) → are_calls asks log ≡ true → length (given log) ≤ length (filter attaches asks)
given_count [] [] h = omega arith
given_count (attach pages ∷ asks) (Attached pages' id ∷ log) h = let t = given_count asks log (and_true (is_call_for (attach pages) (Attached pages' id)) (are_calls asks log) h).1 in omega (arith, t)
given_count (attach pages ∷ asks) (NotAttached pages' cause ∷ log) h = let t = given_count asks log (and_true (is_call_for (attach pages) (NotAttached pages' cause)) (are_calls asks log) h).1 in omega (arith, t)
given_count (send bytes ∷ asks) (Sent index bytes' ∷ log) h = given_count asks log (and_true (is_call_for (send bytes) (Sent index bytes')) (are_calls asks log) h).1
given_count (fill id block n byte ∷ asks) (Filled i b c y done ∷ log) h = given_count asks log (and_true (is_call_for (fill id block n byte) (Filled i b c y done)) (are_calls asks log) h).1
given_count (show id block n ∷ asks) (Shown i b c done bytes ∷ log) h = given_count asks log (and_true (is_call_for (show id block n) (Shown i b c done bytes)) (are_calls asks log) h).1
given_count [] (e ∷ log) h = absurd (cc h)
given_count (a ∷ asks) [] h = absurd (cc h)
given_count (a ∷ asks) (e ∷ log) h = absurd (cc h)

-- ---- counts of lines

count_parts : (p : ScriptLine → Bool) (before rest : List ScriptLine) (line : ScriptLine) → count_by p (before ++ line ∷ rest) ≡ count_by p before + (cond (p line) 1 0 + count_by p rest)
count_parts p before rest line =
    let f : ScriptLine → ℕ = λ x. cond (p x) 1 0 in
    sum_by-append f before (line ∷ rest) ∙ ap (λ n. count_by p before + n) (sum_by-cons f line rest)

-- ---- a client that has played some lines

module _ (client : ClientState) (before : List ScriptLine) (is : IsClient client) (p : HasPlayed before client.log) where
  sent_lines : length (sent client.log) ≡ record_count before
  sent_lines =
      ap (λ (l : List (List ℕ)). length l) (sym (sent_calls client.log)) ∙ sent_count (calls_asked (asks_of before)) (calls_in client.log) p.calls
      ∙ records-asked before ∙ length-filter is_record before

  given_lines : length (given client.log) ≤ attach_count before
  given_lines =
      let few = given_count (calls_asked (asks_of before)) (calls_in client.log) p.calls in
      let same : length (given (calls_in client.log)) ≡ length (given client.log) = ap (λ (l : List ℕ). length l) (given_calls client.log) in
      let asked = attaches-asked before ∙ length-filter is_attach_line before in
      omega (arith, few, same, asked)

  call_lines : length (calls_in client.log) ≡ call_count before
  call_lines = sym (as_many before client.log p) ∙ calls-asked before ∙ length-filter is_call before

  pub received_few : length (received client.log) ≤ length (sent client.log)
  received_few = omega (arith, p.few, owed_few (requests client.log), length-map (sent client.log) request_of)

  -- the events but an end are calls and answers
  events_few : count (λ e. not (is_end e)) client.log ≤ call_count before + length (received client.log)
  events_few =
      let ends = count_split is_end client.log in
      let kinds = count_split is_received client.log in
      let answers = received_count client.log in
      omega (arith, ends, kinds, answers, call_lines)

pub may_end : (client : ClientState) (lines : List ScriptLine) → IsClient client → HasPlayed lines client.log → HasRoomForLines lines client.plan.spec → client.finish ≡ None → MayWait 0 client
may_end client lines is p room still = record {
  open_still = still;
  room =
      let events = events_few client lines is p in
      let sent = sent_lines client lines is p in
      let few = received_few client lines is p in
      omega (arith, events, sent, few, is.log.room, room.events);
}

one_if : (b : Bool) → b ≡ true → ◌≡◌ {A = ℕ} (cond b 1 0) 1
one_if b is = ap (λ c. cond {A = ℕ} c 1 0) is

given_or_full : (n a : ℕ) → n < a → n ≤ 65535 → (n < min a 65535) ⊎ (n ≡ 65535)
given_or_full n a below most = by (leb_tells 65535 n)
  where
    by : ((nat_le 65535 n ≡ true) × (65535 ≤ n)) ⊎ ((nat_le 65535 n ≡ false) × (n < 65535)) → (n < min a 65535) ⊎ (n ≡ 65535)
    by (inl t) = inr (omega (arith, t.1, most))
    by (inr f) = inl (omega (arith, f.1, below))

pub may_play : (client : ClientState) (all before rest : List ScriptLine) (line : ScriptLine) → all ≡ before ++ line ∷ rest → IsClient client → HasPlayed before client.log → HasRoomForLines all client.plan.spec → client.finish ≡ None → MayPlay line client
may_play client all before rest line whole is p room still =
    let events = events_few client before is p in
    let sent = sent_lines client before is p in
    let ids = given_lines client before is p in
    let few = received_few client before is p in
    let calls : call_count all ≡ call_count before + (cond (is_call line) 1 0 + call_count rest) = ap call_count whole ∙ count_parts is_call before rest line in
    let records : record_count all ≡ record_count before + (cond (is_record line) 1 0 + record_count rest) = ap record_count whole ∙ count_parts is_record before rest line in
    let attached : attach_count all ≡ attach_count before + (cond (is_attach_line line) 1 0 + attach_count rest) = ap attach_count whole ∙ count_parts is_attach_line before rest line in
    record {
      waits = record {
        open_still = still;
        room = omega (arith, events, sent, few, is.log.room, room.events, calls, records);
      };
      room = λ call.
          let one = one_if (is_call line) call in
          omega (arith, events, sent, few, is.log.room, room.events, calls, records, one);
      records = λ one_sent.
          let one = one_if (is_record line) one_sent in
          omega (arith, sent, room.records, records, one);
      ids = λ one_given.
          let one = one_if (is_attach_line line) one_given in
          let fits = given_or_full (length (given client.log)) (attach_count all) (omega (arith, ids, attached, one)) (omega (arith, is.log.given)) in
          subst (λ n. (length (given client.log) < n) ⊎ (length (given client.log) ≡ 65535)) (sym room.attaches) fits;
    }
