-- Answers are received one after another.
use Rattle.std.proofs.Common.{filter, filter_map, append-nil, ◌≡◌, inl, inr, ℕ, ◌+◌, ◌-◌, max, ◌<◌, ◌≤◌, not, List, [], ◌∷◌, ◌++◌, length, map, Option, Some, None, Ok, refl, sym, ap, subst, ◌∙◌, arith, append_assoc, length-append}
use Rattle.std.proofs.lemmas.List.{length-map, map-append}
use Rattle.std.proofs.lemmas.List.Elements.{filter_map-append}
use Rattle.host_model.specs.{Event, Received, Sent, owed, count, received, received_bytes, requests, sent, sent_bytes, is_end}
use Rattle.host_record.specs.declared.response.Response.{Response}
use Rattle.host_record.specs.{request_of}
use Rattle.host_rings.specs.{SlipTakerState}
use Rattle.host_session.specs.{Fronts, IsReceived, IsRecvAnswer, IsSendAnswer, ClientState, room_left, owed_count}
use Rattle.host_session.proofs.Requests.{owed_few}
use Rattle.host_session.proofs.Snoc.{found_none, found_one}
use Rattle.host_memory.proofs.Pushed.{filter_add}
use Rattle.host_worker.specs.{HasReceived, HasAnswerRoom, KeepsRoom, KeepsRoomBut, ReceivesOwed, received_events}

-- ---- what is owed

pub owed_within : (log : List Event) → owed_count log ≤ length (sent log)
owed_within log = omega (arith, owed_few (requests log), length-map (sent log) request_of)

none_sent : (answers : List (List ℕ)) → filter_map sent_bytes (received_events answers) ≡ []
none_sent [] = refl
none_sent (bytes ∷ answers) = none_sent answers

-- answers received are no records sent
sent_still : (log : List Event) (answers : List (List ℕ)) → sent (log ++ received_events answers) ≡ sent log
sent_still log answers = filter_map-append sent_bytes log (received_events answers) ∙ (ap (λ (l : List (List ℕ)). sent log ++ l) (none_sent answers) ∙ append-nil (sent log))

pub owed_still : (log : List Event) (answers : List (List ℕ)) → owed_count (log ++ received_events answers) ≡ owed_count log
owed_still log answers = ap (λ (l : List (List ℕ)). length (owed (map request_of l))) (sent_still log answers)

pub owed_then : (old new : ClientState) → HasReceived old new → owed_count new.log ≡ owed_count old.log
owed_then old new r = ap (λ (s : ClientState). owed_count s.log) r.left ∙ owed_still old.log r.answers

pub owed_nothing : (log : List Event) → ReceivesOwed log log
owed_nothing log = omega arith

-- received no more than owed, twice
pub owed_twice : (a b c owed owed' : ℕ) → owed' ≡ owed → b ≤ max a owed → c ≤ max b owed' → c ≤ max a owed
owed_twice a b c owed owed' same x y = omega arith

one_more : (log : List Event) (bytes : List ℕ) → length (received (log ++ Received bytes ∷ [])) ≡ length (received log) + 1
one_more log bytes = ap length (found_one received_bytes log (Received bytes) bytes refl) ∙ length-append (received log) (bytes ∷ [])

-- ---- answers

-- a client that received these events, and knows these fronts
abbrev pub then_with : ClientState → List Event → Fronts → SlipTakerState → ClientState
then_with s log f t = record s { log = log; fronts = f; taker = t }

pub received_nothing : (s : ClientState) → HasReceived s s
received_nothing s = record {
  answers = [];
  left = ap (λ (l : List Event). then_with s l s.fronts s.taker) (sym (append-nil s.log));
  few = owed_nothing s.log;
}

pub received_then : (a b c : ClientState) → HasReceived a b → HasReceived b c → HasReceived a c
received_then a b c x y = record {
  answers = x.answers ++ y.answers;
  left =
      let logs : b.log ++ received_events y.answers ≡ a.log ++ received_events (x.answers ++ y.answers) =
      ap (λ (s : ClientState). s.log ++ received_events y.answers) x.left
      ∙ (append_assoc a.log (received_events x.answers) (received_events y.answers)
      ∙ ap (λ (l : List Event). a.log ++ l) (sym (map-append Received x.answers y.answers))) in
      y.left
      ∙ (ap (λ (s : ClientState). then_with s (b.log ++ received_events y.answers) c.fronts c.taker) x.left
      ∙ ap (λ (l : List Event). then_with a l c.fronts c.taker) logs);
  few = owed_twice (length (received a.log)) (length (received b.log)) (length (received c.log)) (owed_count a.log) (owed_count b.log) (owed_then a b x) x.few y.few;
}

-- one answer, which was owed
pub received_one : (old new : ClientState) (response : Response) → length (received old.log) < owed_count old.log → IsReceived old new response → HasReceived old new
received_one old new response due r = record {
  answers = r.slip.bytes ∷ [];
  left = r.left ∙ ap (λ (f : Fronts). then_with old (old.log ++ Received r.slip.bytes ∷ []) f new.taker) (sym (ap (λ (s : ClientState). s.fronts) r.left));
  few = at_most _ _ _ (ap (λ (s : ClientState). length (received s.log)) r.left ∙ one_more old.log r.slip.bytes) due;
}
  where
    at_most : (a b owed : ℕ) → b ≡ a + 1 → a < owed → b ≤ max a owed
    at_most a b owed e less = omega arith

pub received_none : (old new : ClientState) → IsRecvAnswer old new None → HasReceived old new
received_none old new r = elim r [
  | inl a ↦ subst (λ (s : ClientState). HasReceived old s) (sym a.1) (received_nothing old)
  | inr b ↦ record {
    answers = [];
    left = b.1.left
        ∙ (ap (λ (l : List Event). then_with old l old.fronts new.taker) (sym (append-nil old.log))
        ∙ ap (λ (f : Fronts). then_with old (old.log ++ []) f new.taker) (sym (ap (λ (s : ClientState). s.fronts) b.1.left)));
    few = subst (λ (l : List Event). ReceivesOwed old.log l) (sym (ap (λ (s : ClientState). s.log) b.1.left)) (owed_nothing old.log);
  }
]

-- ---- room

room_none : (old new : ClientState) → IsRecvAnswer old new None → KeepsRoom old new
room_none old new r = elim r [
  | inl a ↦ λ more h. subst (λ (s : ClientState). HasAnswerRoom more s) (sym a.1) h
  | inr b ↦ λ more h. subst (λ (s : ClientState). HasAnswerRoom more s) (sym b.1.left) h
]

one_less : (log : List Event) (bytes : List ℕ) → count (λ e. not (is_end e)) (log ++ Received bytes ∷ []) ≡ count (λ e. not (is_end e)) log + 1
one_less log bytes = ap length (filter_add (λ e. not (is_end e)) log (Received bytes) refl) ∙ length-append (filter (λ e. not (is_end e)) log) (Received bytes ∷ [])

pub room_one : (old new : ClientState) (response : Response) → length (received old.log) < length (sent old.log) → IsReceived old new response → KeepsRoom old new
room_one old new response due r more h =
    let log = old.log ++ Received r.slip.bytes ∷ [] in
    let still : length (sent log) ≡ length (sent old.log) = ap length (found_none sent_bytes old.log (Received r.slip.bytes) refl) in
    subst (λ (s : ClientState). HasAnswerRoom more s) (sym r.left)
    (room_after (length (sent old.log)) (length (received old.log)) old.plan.spec.events (count (λ e. not (is_end e)) old.log) more _ _ _ still (one_more old.log r.slip.bytes) (one_less old.log r.slip.bytes) due h)
  where
    room_after : (a b e n more a' b' n' : ℕ) → a' ≡ a → b' ≡ b + 1 → n' ≡ n + 1 → b < a → (a - b) + more ≤ e - n → (a' - b') + more ≤ e - n'
    room_after a b e n more a' b' n' p q r due h = omega arith

-- what a recv answered, where an answer was owed
pub recv_received : (old new : ClientState) (answer : Option Response) → length (received old.log) < owed_count old.log → IsRecvAnswer old new answer → HasReceived old new
recv_received old new (Some response) due r = received_one old new response due r.1
recv_received old new None due r = received_none old new r

pub recv_room : (old new : ClientState) (answer : Option Response) → length (received old.log) < owed_count old.log → IsRecvAnswer old new answer → KeepsRoom old new
recv_room old new (Some response) due r = room_one old new response (omega (arith, due, owed_within old.log)) r.1
recv_room old new None due r = room_none old new r

-- room for a record and its answer
pub room_sent : (old mid new : ClientState) (bytes : List ℕ) (index : ℕ) → KeepsRoom old mid → IsSendAnswer bytes mid new (Ok index) → KeepsRoomBut 2 old new
room_sent old mid new bytes index keeps s more h =
    let m = keeps (more + 2) h in
    let log = mid.log ++ Sent index bytes ∷ [] in
    let more_sent : length (sent log) ≡ length (sent mid.log) + 1 = ap length (found_one sent_bytes mid.log (Sent index bytes) bytes refl) ∙ length-append (sent mid.log) (bytes ∷ []) in
    let same : length (received log) ≡ length (received mid.log) = ap length (found_none received_bytes mid.log (Sent index bytes) refl) in
    let used : count (λ e. not (is_end e)) log ≡ count (λ e. not (is_end e)) mid.log + 1 = ap length (filter_add (λ e. not (is_end e)) mid.log (Sent index bytes) refl) ∙ length-append (filter (λ e. not (is_end e)) mid.log) (Sent index bytes ∷ []) in
    subst (λ (s' : ClientState). HasAnswerRoom more s') (sym s.2) (room_after (length (sent mid.log)) (length (received mid.log)) mid.plan.spec.events (count (λ e. not (is_end e)) mid.log) more _ _ _ more_sent same used m)
  where
    room_after : (a b e n more a' b' n' : ℕ) → a' ≡ a + 1 → b' ≡ b → n' ≡ n + 1 → (a - b) + (more + 2) ≤ e - n → (a' - b') + more ≤ e - n'
    room_after a b e n more a' b' n' p q r h = omega arith

-- ---- a send through a full ring

-- a client that only received has as many records sent, and may still wait
pub may_send : (old mid : ClientState) → KeepsRoom old mid → HasAnswerRoom 1 old → 1 ≤ room_left mid
may_send old mid keeps h = let m = keeps 1 h in omega (arith, m)

pub records_still : (old mid : ClientState) → HasReceived old mid → length (sent mid.log) ≡ length (sent old.log)
records_still old mid r = ap length (ap (λ (s : ClientState). sent s.log) r.left ∙ sent_still old.log r.answers)

pub plan_still : (old mid : ClientState) → HasReceived old mid → mid.plan ≡ old.plan
plan_still old mid r = ap (λ (s : ClientState). s.plan) r.left

-- there is room for an answer that is owed
pub may_receive : (s : ClientState) → length (received s.log) < owed_count s.log → HasAnswerRoom 0 s → 1 ≤ room_left s
may_receive s due h = omega (arith, due, h, owed_within s.log)
