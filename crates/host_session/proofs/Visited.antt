-- What is true of a client end stays true by a fill, a show and an attach.
use Rattle.std.proofs.Common.{◌≡◌, ℕ, ◌+◌, ◌≤◌, ◌<◌, ◌==◌, Bool, true, false, not, IsTrue, List, [], ◌∷◌, ◌++◌, length, Some, None, refl, sym, ap, ap₂, subst, ◌∙◌, arith, length-append, append-nil}
use Rattle.std.specs.List.{list_all, range_with_len}
use Rattle.std.proofs.lemmas.Bool.{ne_eqb}
use Rattle.host_log.specs.{SwitchedLog, Continues}
use Rattle.host_intake.specs.{MemorySeat}
use Rattle.host_memory.specs.{MemoryPlan, given_count, has_blocks, is_numbered, MemoryState, admissions_of, client_of, history, block_size_of}
use Rattle.host_model.specs.{Event, Attached, Filled, Shown, MemEntry, MemEvent, Attach, Fill, Show, given, given_id, sent, found_by}
use Rattle.host_turn.specs.{IsOutside, IsSameSeat, fixed_part, number, seen_by}
use Rattle.host_session.specs.declared.client.ClientEnd.TheInside.{Inside}
use Rattle.host_session.specs.{HasAttachedBuffer, IsShown, room_left, IsClientKept, client_state, id_limit, IsVisit, entry_by, entry_where}
use Rattle.host_session.proofs.Entered.{given_so_far, numbered, plan_is, visit, visit_kept, visit_left}
use Rattle.host_session.proofs.Snoc.{found_none, found_one, ids_more}
use Rattle.host_session.proofs.Visiting.{kept_entry, kept_looked}

module _ (a : Inside) (k : IsClientKept a) (mid : MemorySeat) (m : MemoryState) (same : IsSameSeat a.memory_seat mid) (story : m.entries ≡ seen_by mid)
    (later : Continues (λ (e : MemEntry). e.hand) (number a.memory_seat) (seen_by a.memory_seat) (seen_by mid)) (fixed : fixed_part mid ≡ Some m.plan) (past : a.fronts.memory ≤ length m.entries)
    (numbers : IsTrue (list_all (is_numbered (client_of m) (admissions_of m)) m.entries)) (running : a.finish ≡ None) (room : 1 ≤ room_left (client_state a)) where
  -- the entry stands under the client's number
  left_with : (w : MemEvent) (n : MemoryState) (q : MemorySeat) → n ≡ record m { entries = m.entries ++ record { hand = client_of m; what = w } ∷ [] } → seen_by q ≡ n.entries → seen_by q ≡ m.entries ++ entry_by a.hands w ∷ []
  left_with w n q is seen = seen ∙ (ap (λ (x : MemoryState). x.entries) is ∙ ap (λ (p : MemoryPlan). m.entries ++ entry_by p.limits.hands w ∷ []) (plan_is a k mid m same story later fixed past numbers))

  -- an event that gives nothing
  quiet_ids : (ev : Event) → given_id ev ≡ None → given (a.log.items ++ ev ∷ []) ≡ range_with_len 1 (length (given (a.log.items ++ ev ∷ [])))
  quiet_ids ev gives = let g : given (a.log.items ++ ev ∷ []) ≡ given a.log.items = found_none given_id a.log.items ev gives in g ∙ (k.client.told.ids ∙ ap (λ x. range_with_len 1 (length x)) (sym g))

  quiet_few : (ev : Event) → given_id ev ≡ None → length (given (a.log.items ++ ev ∷ [])) ≤ id_limit a.spec
  quiet_few ev gives = omega (arith, ap length (found_none given_id a.log.items ev gives), k.client.log.given)

  quiet_given : (ev : Event) → given_id ev ≡ None → a.given ≡ length (given (a.log.items ++ ev ∷ []))
  quiet_given ev gives = k.counted.given ∙ sym (ap length (found_none given_id a.log.items ev gives))

  pub filled_kept : (id block cnt byte : ℕ) (done : Bool) (n : MemoryState) (q : MemorySeat) (l : SwitchedLog Event) (front : ℕ)
      → done ≡ has_blocks id (history m) block cnt
      → (IsTrue done → n ≡ record m { entries = m.entries ++ record { hand = client_of m; what = Fill id block cnt byte } ∷ [] })
      → (done ≡ false → n ≡ m)
      → front ≡ length n.entries → IsSameSeat mid q × IsOutside q → seen_by q ≡ n.entries → l ≡ record a.log { items = a.log.items ++ Filled id block cnt byte done ∷ [] }
      → IsClientKept (record a { log = l; fronts = record { device = a.fronts.device; memory = front }; memory_seat = q })
  filled_kept id block cnt byte true n q l front answer done not_done front_is out seen log_is =
      let w : MemEvent = Fill id block cnt byte in
      let ev : Event = Filled id block cnt byte true in
      let v : IsVisit a.fronts.memory a.memory_seat q m.entries (entry_by a.hands w ∷ []) = visit a k mid m same story later fixed past numbers q (entry_by a.hands w ∷ []) out (left_with w n q (done refl) seen) in
      visit_kept a k q ev
      (kept_entry (client_state a) k.client q m.entries (numbered a k mid m same story later fixed past numbers) w ev v running room refl refl refl refl refl refl refl refl (quiet_ids ev refl) (quiet_few ev refl) refl (sym answer) (λ x p. p))
      v.seat.0.0 l front a.given log_is (front_is ∙ ap length (sym seen)) refl refl (quiet_given ev refl)
  filled_kept id block cnt byte false n q l front answer done not_done front_is out seen log_is =
      let ev : Event = Filled id block cnt byte false in
      let v : IsVisit a.fronts.memory a.memory_seat q m.entries [] = visit a k mid m same story later fixed past numbers q [] out (seen ∙ (ap (λ (x : MemoryState). x.entries) (not_done refl) ∙ sym (append-nil m.entries))) in
      visit_kept a k q ev
      (kept_looked (client_state a) k.client q m.entries (numbered a k mid m same story later fixed past numbers) ev id block cnt v running room (sym answer) refl refl refl refl refl refl refl refl refl (λ x p. p))
      v.seat.0.0 l front a.given log_is (front_is ∙ ap length (sym seen)) refl refl (quiet_given ev refl)

  pub shown_kept : (id block cnt : ℕ) (bytes : List ℕ) (done : Bool) (n : MemoryState) (q : MemorySeat) (l : SwitchedLog Event) (front : ℕ)
      → done ≡ has_blocks id (history m) block cnt
      → (IsTrue done → found_by (block_size_of m) (history m) (Show id block cnt) ≡ Some bytes)
      → (IsTrue done → n ≡ record m { entries = m.entries ++ record { hand = client_of m; what = Show id block cnt } ∷ [] })
      → (done ≡ false → n ≡ m)
      → front ≡ length n.entries → IsSameSeat mid q × IsOutside q → seen_by q ≡ n.entries → l ≡ record a.log { items = a.log.items ++ Shown id block cnt done bytes ∷ [] }
      → IsClientKept (record a { log = l; fronts = record { device = a.fronts.device; memory = front }; memory_seat = q })
  shown_kept id block cnt bytes true n q l front answer found done not_done front_is out seen log_is =
      let w : MemEvent = Show id block cnt in
      let ev : Event = Shown id block cnt true bytes in
      let v : IsVisit a.fronts.memory a.memory_seat q m.entries (entry_by a.hands w ∷ []) = visit a k mid m same story later fixed past numbers q (entry_by a.hands w ∷ []) out (left_with w n q (done refl) seen) in
      let shown : Some bytes ≡ found_by a.spec.size (history m) w = sym (found refl) ∙ ap (λ (p : MemoryPlan). found_by p.limits.size (history m) w) (plan_is a k mid m same story later fixed past numbers) in
      visit_kept a k q ev
      (kept_entry (client_state a) k.client q m.entries (numbered a k mid m same story later fixed past numbers) w ev v running room refl refl refl refl refl refl refl refl (quiet_ids ev refl) (quiet_few ev refl) shown (sym answer) (λ x p. p))
      v.seat.0.0 l front a.given log_is (front_is ∙ ap length (sym seen)) refl refl (quiet_given ev refl)
  shown_kept id block cnt bytes false n q l front answer found done not_done front_is out seen log_is =
      let ev : Event = Shown id block cnt false bytes in
      let v : IsVisit a.fronts.memory a.memory_seat q m.entries [] = visit a k mid m same story later fixed past numbers q [] out (seen ∙ (ap (λ (x : MemoryState). x.entries) (not_done refl) ∙ sym (append-nil m.entries))) in
      visit_kept a k q ev
      (kept_looked (client_state a) k.client q m.entries (numbered a k mid m same story later fixed past numbers) ev id block cnt v running room (sym answer) refl refl refl refl refl refl refl refl refl (λ x p. p))
      v.seat.0.0 l front a.given log_is (front_is ∙ ap length (sym seen)) refl refl (quiet_given ev refl)

  -- what was tried, done or not
  tried : (w : MemEvent) (id block cnt : ℕ) (done : Bool) (n : MemoryState) (q : MemorySeat)
      → done ≡ has_blocks id (history m) block cnt
      → (IsTrue done → n ≡ record m { entries = m.entries ++ record { hand = client_of m; what = w } ∷ [] })
      → (done ≡ false → n ≡ m)
      → IsSameSeat mid q × IsOutside q → seen_by q ≡ n.entries → IsVisit a.fronts.memory a.memory_seat q m.entries (entry_where done a.hands w)
  tried w id block cnt true n q answer is is_not out seen = visit a k mid m same story later fixed past numbers q (entry_by a.hands w ∷ []) out (left_with w n q (is refl) seen)
  tried w id block cnt false n q answer is is_not out seen = visit a k mid m same story later fixed past numbers q [] out (seen ∙ (ap (λ (x : MemoryState). x.entries) (is_not refl) ∙ sym (append-nil m.entries)))

  pub shown_answer : (id block cnt : ℕ) (bytes : List ℕ) (done : Bool) (n : MemoryState) (q : MemorySeat) (l : SwitchedLog Event) (front : ℕ)
      → done ≡ has_blocks id (history m) block cnt
      → (IsTrue done → found_by (block_size_of m) (history m) (Show id block cnt) ≡ Some bytes)
      → (done ≡ false → bytes ≡ [])
      → (IsTrue done → n ≡ record m { entries = m.entries ++ record { hand = client_of m; what = Show id block cnt } ∷ [] })
      → (done ≡ false → n ≡ m)
      → front ≡ length n.entries → IsSameSeat mid q × IsOutside q → seen_by q ≡ n.entries → l ≡ record a.log { items = a.log.items ++ Shown id block cnt done bytes ∷ [] }
      → IsShown id block cnt (client_state a) (client_state (record a { log = l; fronts = record { device = a.fronts.device; memory = front }; memory_seat = q })) done
  shown_answer id block cnt bytes done n q l front answer found none is is_not front_is out seen log_is =
      let v : IsVisit a.fronts.memory a.memory_seat q m.entries (entry_where done a.hands (Show id block cnt)) = tried (Show id block cnt) id block cnt done n q answer is is_not out seen in
      record {
        tried = record { found = m.entries; visit = v; answer = answer };
        bytes = bytes;
        found = λ t. ap (λ (p : MemoryPlan). found_by p.limits.size (history m) (Show id block cnt)) (sym (plan_is a k mid m same story later fixed past numbers)) ∙ found t;
        none = none;
        left = visit_left a q (Shown id block cnt done bytes) v.seat.0.0 l front a.given log_is (front_is ∙ ap length (sym seen));
      }

  pub attached_kept : (id pages : ℕ) (n : MemoryState) (q : MemorySeat) (l : SwitchedLog Event) (front : ℕ) → length (given a.log.items) < id_limit a.spec
      → id ≡ given_count (history m) + 1
      → n ≡ record m { entries = m.entries ++ record { hand = client_of m; what = Attach id pages a.sent } ∷ [] }
      → front ≡ length n.entries → IsSameSeat mid q × IsOutside q → seen_by q ≡ n.entries → l ≡ record a.log { items = a.log.items ++ Attached pages id ∷ [] }
      → IsClientKept (record a { log = l; given = a.given + 1; fronts = record { device = a.fronts.device; memory = front }; memory_seat = q })
  attached_kept id pages n q l front few id_is is front_is out seen log_is =
      let w : MemEvent = Attach id pages a.sent in
      let ev : Event = Attached pages id in
      let v : IsVisit a.fronts.memory a.memory_seat q m.entries (entry_by a.hands w ∷ []) = visit a k mid m same story later fixed past numbers q (entry_by a.hands w ∷ []) out (left_with w n q is seen) in
      let g : given (a.log.items ++ ev ∷ []) ≡ given a.log.items ++ id ∷ [] = found_one given_id a.log.items ev id refl in
      let len : length (given (a.log.items ++ ev ∷ [])) ≡ length (given a.log.items) + 1 = ap length g ∙ length-append (given a.log.items) (id ∷ []) in
      let id' : id ≡ length (given a.log.items) + 1 = id_is ∙ ap (λ x. x + 1) (given_so_far a k mid m same story later fixed past numbers) in
      let ids : given (a.log.items ++ ev ∷ []) ≡ range_with_len 1 (length (given (a.log.items ++ ev ∷ []))) =
      g ∙ (ap₂ (λ x y. x ++ y ∷ []) k.client.told.ids id' ∙ (sym (ids_more (length (given a.log.items))) ∙ ap (range_with_len 1) (sym len))) in
      let rightly : not (length (given a.log.items) == 65535) ≡ true = ap not (ne_eqb (length (given a.log.items)) 65535 (λ e. omega (arith, few, e))) in
      let entry : Some (Attach id pages (length (sent a.log.items))) ≡ Some w = ap (λ x. Some (Attach id pages x)) (sym k.counted.sent) in
      visit_kept a k q ev
      (kept_entry (client_state a) k.client q m.entries (numbered a k mid m same story later fixed past numbers) w ev v running room refl entry refl refl refl refl refl rightly ids (omega (arith, len, few)) refl refl (λ x p. p))
      v.seat.0.0 l front (a.given + 1) log_is (front_is ∙ ap length (sym seen)) refl refl (ap (λ x. x + 1) k.counted.given ∙ sym len)

  pub attached_answer : (id pages : ℕ) (n : MemoryState) (q : MemorySeat) (l : SwitchedLog Event) (front : ℕ)
      → id ≡ given_count (history m) + 1
      → n ≡ record m { entries = m.entries ++ record { hand = client_of m; what = Attach id pages a.sent } ∷ [] }
      → front ≡ length n.entries → IsSameSeat mid q × IsOutside q → seen_by q ≡ n.entries → l ≡ record a.log { items = a.log.items ++ Attached pages id ∷ [] }
      → HasAttachedBuffer pages id (client_state a) (client_state (record a { log = l; given = a.given + 1; fronts = record { device = a.fronts.device; memory = front }; memory_seat = q }))
  attached_answer id pages n q l front id_is is front_is out seen log_is =
      let v : IsVisit a.fronts.memory a.memory_seat q m.entries (entry_by a.hands (Attach id pages a.sent) ∷ []) = visit a k mid m same story later fixed past numbers q (entry_by a.hands (Attach id pages a.sent) ∷ []) out (left_with (Attach id pages a.sent) n q is seen) in
      record {
        next = id_is ∙ ap (λ x. x + 1) (given_so_far a k mid m same story later fixed past numbers);
        visit = (m.entries, subst (λ (x : ℕ). IsVisit a.fronts.memory a.memory_seat q m.entries (entry_by a.hands (Attach id pages x) ∷ [])) k.counted.sent v);
        left = visit_left a q (Attached pages id) v.seat.0.0 l front (a.given + 1) log_is (front_is ∙ ap length (sym seen));
      }
