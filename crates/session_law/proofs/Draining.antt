-- A drained log ends with its drain, where only answers may follow it.
use Rattle.std.proofs.Common.{◌≡◌, suc, ◌+◌, ◌≤◌, true, nat_lt, List, [], ◌∷◌, ◌++◌, length, map, take, Some, refl, sym, ap, subst, ◌∙◌, arith, append-nil, length-append}
use Rattle.std.specs.List.{list_all, slice_get}
use Rattle.std.proofs.lemmas.List.{length-map, take-map, take_at}
use Rattle.std.proofs.lemmas.List.Elements.{filter_map-append}
use Rattle.host_record.specs.{request_of}
use Rattle.host_model.specs.{Event, Attached, NotAttached, Filled, Shown, Sent, Received, Drained, Aborted, MemEntry, answer_bytes, owed, received, received_bytes, requests, sent, sent_bytes}
use Rattle.host_model.specs.Session.{Session}
use Rattle.host_session.specs.{SessionHand, Act, IsEventAfter, log_of, ClientState, due_records, IsDrainedLog, is_receipt}
use Rattle.host_session.proofs.Counting.{counting_tells}
use Rattle.session_law.specs.{DrainsComeLast, IsSessionGathered, PushedAsTold}
use Rattle.session_law.proofs.Due.{acts_of, answered, are_answered, filter_few}
use Rattle.session_law.proofs.Finding.{from_map}
use Rattle.session_law.proofs.Gathered.{closed, course, log_same}

-- answers send nothing, and each is received
answers_only : (rest : List Event) → list_all is_receipt rest ≡ true → (sent rest ≡ []) × (length (received rest) ≡ length rest)
answers_only [] e = (refl, refl)
answers_only (Received bytes ∷ rest) e = let r = answers_only rest e in (r.0, ap suc r.1)
answers_only (Attached pages id ∷ rest) e = absurd (cc)
answers_only (NotAttached pages cause ∷ rest) e = absurd (cc)
answers_only (Filled id block count byte done ∷ rest) e = absurd (cc)
answers_only (Shown id block count done bytes ∷ rest) e = absurd (cc)
answers_only (Sent index bytes ∷ rest) e = absurd (cc)
answers_only (Drained ∷ rest) e = absurd (cc)
answers_only (Aborted ∷ rest) e = absurd (cc)

here : (before rest : List Event) → slice_get (before ++ Drained ∷ rest) (length before) ≡ Some Drained
here [] rest = refl
here (x ∷ before) rest = here before rest

nothing : (rest : List Event) → length rest ≡ 0 → rest ≡ []
nothing [] e = refl
nothing (x ∷ rest) e = absurd (omega arith)

module _ (client : ClientState) (hands : List SessionHand) (h : List MemEntry) (s : Session) (g : IsSessionGathered client hands h s) (told : PushedAsTold hands g.whole.intake.entries) (d : IsDrainedLog client.log) where
  same_log : client.log ≡ log_of (acts_of client hands h s g told)
  same_log = sym (course client hands h s g).events_are

  drain_act : (a : Act) × (slice_get (acts_of client hands h s g told) (length d.before) ≡ Some a) × (a.event ≡ Drained)
  drain_act = from_map (λ (x : Act). x.event) (acts_of client hands h s g told) (length d.before) Drained (ap (λ l. slice_get l (length d.before)) (sym same_log ∙ d.split) ∙ here d.before d.rest)

  before_it : log_of (take (length d.before) (acts_of client hands h s g told)) ≡ d.before
  before_it =
      sym (take-map (λ (x : Act). x.event) (length d.before) (acts_of client hands h s g told))
      ∙ (ap (take (length d.before)) (sym same_log ∙ d.split) ∙ take_at d.before (Drained ∷ d.rest) (length d.before) refl)

  enough : length (owed (requests d.before)) ≤ length (received d.before)
  enough =
      let is : IsEventAfter h (take (length d.before) (acts_of client hands h s g told)) drain_act.0 Drained = subst (λ e. IsEventAfter h (take (length d.before) (acts_of client hands h s g told)) drain_act.0 e) drain_act.2 ((course client hands h s g).each (length d.before) drain_act.0 drain_act.1) in
      subst (λ l. length (owed (requests l)) ≤ length (received l)) before_it is.answered

  rest_none : length d.rest ≡ 0
  rest_none =
      let only = answers_only d.rest d.answers in
      let log_is : s.log ≡ d.before ++ Drained ∷ d.rest = sym (log_same client hands h s g) ∙ d.split in
      let sent_same : sent s.log ≡ sent d.before = ap sent log_is ∙ (filter_map-append sent_bytes d.before (Drained ∷ d.rest) ∙ (ap (λ l. sent d.before ++ l) only.0 ∙ append-nil (sent d.before))) in
      let owed_same : length (owed (requests s.log)) ≡ length (owed (requests d.before)) = ap (λ l. length (owed (map request_of l))) sent_same in
      let split : length (received s.log) ≡ length (received d.before) + length (received d.rest) = ap (λ l. length (received l)) log_is ∙ (ap length (filter_map-append received_bytes d.before (Drained ∷ d.rest)) ∙ length-append (received d.before) (received d.rest)) in
      let many : length (received s.log) ≡ length (answered client hands h s g told) = ap length (are_answered client hands h s g told).bytes ∙ length-map (answered client hands h s g told) (answer_bytes (requests s.log) s.rows) in
      let few = (counting_tells s.log s.rows (answered client hands h s g told) (are_answered client hands h s g told)).few in
      let due : length (due_records s.log s.rows) ≤ length (owed (requests s.log)) = filter_few (λ i. nat_lt i (length s.rows)) (owed (requests s.log)) in
      let one = only.1 in let en = enough in
      omega (arith, split, many, few, due, owed_same, one, en)

  pub ends_so : (before : List Event) × (client.log ≡ before ++ Drained ∷ [])
  ends_so = (d.before, d.split ∙ ap (λ l. d.before ++ Drained ∷ l) (nothing d.rest rest_none))

pub drains_come_last : DrainsComeLast
drains_come_last client hands h s g told e = ends_so client hands h s g told (g.whole.client_of.kept.ended.drained e (closed client hands h s g))
