-- The fields of a client end, once a call that doesn't visit the buffers changed them.
use Rattle.std.proofs.Common.{◌≡◌, ℕ, ◌+◌, ◌≤◌, ◌<◌, Bool, true, false, cond, IsTrue, List, [], ◌∷◌, ◌++◌, length, Option, Some, None, is_some, refl, sym, ap, subst, ◌∙◌, arith, length-append}
use Rattle.std.proofs.lemmas.List.{length-map}
use Rattle.host_log.specs.{SwitchedLog}
use Rattle.host_record.specs.{Finish, Drain, Abort, request_of}
use Rattle.host_model.specs.{AttachError, Event, NotAttached, Sent, Received, is_owing, owed, given, given_id, received, received_bytes, requests, sent, sent_bytes, is_end, runs_out_rightly}
use Rattle.host_rings.specs.{Slip, SlipTakerState, SenderState, with_pushed}
use Rattle.host_session.specs.declared.client.ClientEnd.TheInside.{Inside}
use Rattle.host_session.specs.{Fronts, is_answer, next_envelope, with_slips, ends_logged, greater, is_aborted, room_left, slip_fronts, IsClientKept, client_state, owed_count, IsClient}
use Rattle.host_session.proofs.Clients.{kept_received, kept_refused, kept_sent, kept_thrown}
use Rattle.host_session.proofs.Requests.{owed_few, owed_more, requests_quiet, requests_sent}
use Rattle.host_session.proofs.Snoc.{found_none, found_one}
use Rattle.host_session.proofs.Times.{count_split}

pub none_there : {A : Type 0} (o : Option A) → is_some o ≡ false → o ≡ None
none_there None e = refl
none_there (Some x) e = absurd (cc e)

one_end : (finish : Option Finish) (closed : Bool) → length (ends_logged finish closed) ≤ 1
one_end None closed = omega arith
one_end (Some Abort) closed = omega arith
one_end (Some Drain) false = omega arith
one_end (Some Drain) true = omega arith

module _ (a : Inside) (k : IsClientKept a) where
  -- an event more fits into the log
  pub log_fits : 1 ≤ room_left (client_state a) → length a.log.items < a.log.room
  log_fits room = omega (arith, room, k.counted.room, count_split is_end a.log.items, ap length k.client.ended.logged, one_end a.finish a.closed)

  -- and so does the event that ends it
  pub end_fits : length (ends_logged a.finish a.closed) ≡ 0 → length a.log.items < a.log.room
  end_fits none = omega (arith, k.client.log.room, k.counted.room, count_split is_end a.log.items, ap length k.client.ended.logged, none)

  pub owed_fits : length (sent a.log.items) < a.spec.records → a.owed < a.spec.records
  owed_fits few = omega (arith, few, k.counted.owed, owed_few (requests a.log.items), length-map (sent a.log.items) request_of)

  -- a record was sent
  pub sent_kept : (bytes : List ℕ) (l : SwitchedLog Event) (q : SenderState) (owed' : ℕ) → a.finish ≡ None → length (sent a.log.items) < a.spec.records → 1 ≤ room_left (client_state a)
      → l ≡ record a.log { items = a.log.items ++ Sent a.sent bytes ∷ [] }
      → q ≡ with_pushed a.sender (record { bytes = bytes; index = a.sent; device_front = a.fronts.device; memory_front = a.fronts.memory })
      → owed' ≡ a.owed + cond (is_owing (request_of bytes)) 1 0
      → IsClientKept (record a { log = l; sent = a.sent + 1; owed = owed'; sender = q })
  sent_kept bytes l q owed' running few room log_is sender_is owed_is =
      let n : ℕ = length (sent a.log.items) in
      let e : Event = Sent a.sent bytes in
      let log' : List Event = a.log.items ++ e ∷ [] in
      let items : l.items ≡ log' = ap (λ (x : SwitchedLog Event). x.items) log_is in
      let base : IsClient (record (client_state a) { log = a.log.items ++ Sent n bytes ∷ []; sender = with_pushed a.sender (next_envelope a.log.items bytes a.fronts) }) = kept_sent (client_state a) k.client bytes running few room in
      let named : IsClient (record (client_state a) { log = log'; sender = with_pushed a.sender (record { bytes = bytes; index = a.sent; device_front = a.fronts.device; memory_front = a.fronts.memory }) }) =
      subst (λ (i : ℕ). IsClient (record (client_state a) { log = a.log.items ++ Sent i bytes ∷ []; sender = with_pushed a.sender (record { bytes = bytes; index = i; device_front = a.fronts.device; memory_front = a.fronts.memory }) })) (sym k.counted.sent) base in
      record {
        client = subst (λ (x : SenderState). IsClient (client_state (record a { log = l; sent = a.sent + 1; owed = owed'; sender = x }))) (sym sender_is)
            (subst (λ (x : SwitchedLog Event). IsClient (client_state (record a { log = x; sent = a.sent + 1; owed = owed'; sender = with_pushed a.sender (record { bytes = bytes; index = a.sent; device_front = a.fronts.device; memory_front = a.fronts.memory }) }))) (sym log_is) named);
        counted = record {
          sent = omega (arith, k.counted.sent, ap (λ x. length (sent x)) items, ap length (found_one sent_bytes a.log.items e bytes refl), length-append (sent a.log.items) (bytes ∷ []));
          received = k.counted.received ∙ sym (ap (λ x. length (received x)) items ∙ ap length (found_none received_bytes a.log.items e refl));
          given = k.counted.given ∙ sym (ap (λ x. length (given x)) items ∙ ap length (found_none given_id a.log.items e refl));
          owed = owed_is ∙ (ap (λ m. m + cond (is_owing (request_of bytes)) 1 0) k.counted.owed
              ∙ sym (ap owed_count items ∙ (ap (λ rs. length (owed rs)) (requests_sent a.log.items a.sent bytes) ∙ owed_more (requests a.log.items) (request_of bytes))));
          room = ap (λ (x : SwitchedLog Event). x.room) log_is ∙ k.counted.room;
          keeps = ap (λ (x : SwitchedLog Event). x.kept) log_is ∙ k.counted.keeps;
        };
        closing = k.closing;
      }

  -- an answer was received
  pub received_kept : (thrown : List Slip) (slip : Slip) (l : SwitchedLog Event) (f : Fronts) (t : SlipTakerState) → is_aborted a.finish ≡ false → IsTrue (is_answer a.sent slip) → 1 ≤ room_left (client_state a)
      → l ≡ record a.log { items = a.log.items ++ Received slip.bytes ∷ [] } → f ≡ greater a.fronts (slip_fronts slip) → t ≡ with_slips a.taker (thrown ++ slip ∷ [])
      → IsClientKept (record a { log = l; received = a.received + 1; fronts = f; taker = t })
  received_kept thrown slip l f t not_aborted answers room log_is fronts_are taker_is =
      let e : Event = Received slip.bytes in
      let items : l.items ≡ a.log.items ++ e ∷ [] = ap (λ (x : SwitchedLog Event). x.items) log_is in
      let base : IsClient (record (client_state a) { log = a.log.items ++ e ∷ []; fronts = greater a.fronts (slip_fronts slip); taker = with_slips a.taker (thrown ++ slip ∷ []) }) =
      kept_received (client_state a) k.client thrown slip not_aborted (subst (λ n. IsTrue (is_answer n slip)) k.counted.sent answers) room in
      record {
        client = subst (λ (x : SlipTakerState). IsClient (client_state (record a { log = l; received = a.received + 1; fronts = f; taker = x }))) (sym taker_is)
            (subst (λ (x : Fronts). IsClient (client_state (record a { log = l; received = a.received + 1; fronts = x; taker = with_slips a.taker (thrown ++ slip ∷ []) }))) (sym fronts_are)
            (subst (λ (x : SwitchedLog Event). IsClient (client_state (record a { log = x; received = a.received + 1; fronts = greater a.fronts (slip_fronts slip); taker = with_slips a.taker (thrown ++ slip ∷ []) }))) (sym log_is) base));
        counted = record {
          sent = k.counted.sent ∙ sym (ap (λ x. length (sent x)) items ∙ ap length (found_none sent_bytes a.log.items e refl));
          received = omega (arith, k.counted.received, ap (λ x. length (received x)) items, ap length (found_one received_bytes a.log.items e slip.bytes refl), length-append (received a.log.items) (slip.bytes ∷ []));
          given = k.counted.given ∙ sym (ap (λ x. length (given x)) items ∙ ap length (found_none given_id a.log.items e refl));
          owed = k.counted.owed ∙ sym (ap owed_count items ∙ ap (λ rs. length (owed rs)) (requests_quiet a.log.items e refl));
          room = ap (λ (x : SwitchedLog Event). x.room) log_is ∙ k.counted.room;
          keeps = ap (λ (x : SwitchedLog Event). x.kept) log_is ∙ k.counted.keeps;
        };
        closing = k.closing;
      }

  -- slips were thrown away
  pub thrown_kept : (thrown : List Slip) (t : SlipTakerState) → t ≡ with_slips a.taker thrown → IsClientKept (record a { taker = t })
  thrown_kept thrown t taker_is = record {
    client = subst (λ (x : SlipTakerState). IsClient (client_state (record a { taker = x }))) (sym taker_is) (kept_thrown (client_state a) k.client thrown);
    counted = record { sent = k.counted.sent; received = k.counted.received; given = k.counted.given; owed = k.counted.owed; room = k.counted.room; keeps = k.counted.keeps };
    closing = k.closing;
  }

  -- an attach was refused
  pub refused_kept : (pages : ℕ) (cause : AttachError) (l : SwitchedLog Event) → a.finish ≡ None → runs_out_rightly a.log.items (NotAttached pages cause) ≡ true → 1 ≤ room_left (client_state a)
      → l ≡ record a.log { items = a.log.items ++ NotAttached pages cause ∷ [] } → IsClientKept (record a { log = l })
  refused_kept pages cause l running rightly room log_is =
      let e : Event = NotAttached pages cause in
      let items : l.items ≡ a.log.items ++ e ∷ [] = ap (λ (x : SwitchedLog Event). x.items) log_is in
      record {
        client = subst (λ (x : SwitchedLog Event). IsClient (client_state (record a { log = x }))) (sym log_is) (kept_refused (client_state a) k.client pages cause running rightly room);
        counted = record {
          sent = k.counted.sent ∙ sym (ap (λ x. length (sent x)) items ∙ ap length (found_none sent_bytes a.log.items e refl));
          received = k.counted.received ∙ sym (ap (λ x. length (received x)) items ∙ ap length (found_none received_bytes a.log.items e refl));
          given = k.counted.given ∙ sym (ap (λ x. length (given x)) items ∙ ap length (found_none given_id a.log.items e refl));
          owed = k.counted.owed ∙ sym (ap owed_count items ∙ ap (λ rs. length (owed rs)) (requests_quiet a.log.items e refl));
          room = ap (λ (x : SwitchedLog Event). x.room) log_is ∙ k.counted.room;
          keeps = ap (λ (x : SwitchedLog Event). x.kept) log_is ∙ k.counted.keeps;
        };
        closing = k.closing;
      }
