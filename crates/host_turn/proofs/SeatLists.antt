-- Lists of seats.
use Rattle.std.proofs.Common.{◌≡◌, ◌⊎◌, ℕ, suc, ◌+◌, ◌-◌, ◌<◌, ◌≢◌, List, [], ◌∷◌, ◌++◌, length, map, sym, refl, ap, ap₂, subst, ◌∙◌, inl, inr, ⊎_elim, length-append, arith}
use Rattle.std.proofs.lemmas.List.{map-append, length-map}
use Rattle.std.specs.Prelude.{Option, Some, None}
use Rattle.std.specs.Option.{unwrap_or, IsSome, option_to_list}
use Rattle.std.specs.List.{slice_get, All}
use Rattle.std.proofs.lemmas.List.Elements.{All-nil, All-cons, All-head, All-tail}
use Rattle.host_turn.specs.{Opening, Book, BookSeat, View, Stage, view_after_making, new_seat_view, gathered_view, is_at_rest, members_at, members_of, AreMembers, OneHistory, IsNewSeat, AreNewSeats, AreSeatsAt, IsOutside, seat_book, number, seen_by, IsSeenBySome, member_of, IsMaker, IsSeatOutside, HasGathered, book_id, opening_of, seat_count}
use Rattle.host_log.specs.{entries_of, Continues, HasNumber, AnyHasSeen, Holder, AllHaveSeen}
use Rattle.atomic_table.specs.Seated.{TableId}
use mathlib.Core.Option.{some, some-injective}
use lib.ListN.{get_elem?}
use Rattle.atomic_table.specs.Table.{Final, Seen}
use Rattle.atomic_table.specs.declared.shared.Seat.{Seat}
use Rattle.host_turn.proofs.Seating.{ends}
use Rattle.host_log.proofs.Places.{get_snoc, get_last, stands_append}

module _ {A : Type 0} where
  pub some_same : (a b : A) → Some a ≡ Some b → a ≡ b
  some_same a b e = ap (λ o. unwrap_or o a) e

  pub is_some : (o : Option A) (a : A) → o ≡ Some a → IsSome o
  is_some o a e = subst IsSome (sym e) refl

  abbrev count : Option A → ℕ
  count None = 0
  count (Some _) = 1

  none_some : (b : A) → None ≡ Some b → ⊥
  none_some b e = let g : ◌≡◌ {A = ℕ} (count None) (count (Some b)) = ap count e in let h : ◌≡◌ {A = ℕ} 0 1 = g in omega arith

module _ {S E F : Type 0} (story : S → List E) (fixed : S → F) (b : TableId) (x : S) where
  -- a seat that is popped, and those that are left
  pub seats_pop : (all qs : List (BookSeat S E F)) (o : Option (BookSeat S E F)) (q : BookSeat S E F) → all ≡ qs ++ option_to_list o → o ≡ Some q → AreNewSeats story fixed b x all
      → AreNewSeats story fixed b x qs × IsNewSeat story fixed b x (length qs) q × (length all ≡ length qs + 1)
  seats_pop all qs o q items is new = let whole = subst (AreNewSeats story fixed b x) (items ∙ ap (λ z. qs ++ option_to_list z) is) new in
      ((λ n p e. whole n p (stands_append qs (q ∷ []) n p e)), whole (length qs) q (get_last qs q), ap length (items ∙ ap (λ z. qs ++ option_to_list z) is) ∙ length-append qs (q ∷ []))

  pub one_seat_more : (n : ℕ) (qs : List (BookSeat S E F)) (q : BookSeat S E F) → length qs ≡ n → AreNewSeats story fixed b x qs → IsNewSeat story fixed b x n q → AreNewSeats story fixed b x (qs ++ q ∷ [])
  one_seat_more n qs q len all new j p e = ⊎_elim (λ t. all j p t) (λ t. subst (λ (z : ℕ × BookSeat S E F). IsNewSeat story fixed b x z.0 z.1) (λ i. (sym (t.0 ∙ len) i, t.1 i)) new) (get_snoc qs q p j e)

-- one more of the things that have a book each, with the seat at its book
pub are_seats_with_more : {X S E F : Type 0} (id_of : X → TableId) (n : ℕ) (xs : List X) (x : X) (qs : List (BookSeat S E F)) (q : BookSeat S E F) → AreSeatsAt (map id_of xs) n qs → length qs ≡ length xs
    → seat_book q ≡ id_of x → IsOutside q → number q ≡ n → AreSeatsAt (map id_of (xs ++ x ∷ [])) n (qs ++ q ∷ [])
are_seats_with_more id_of n xs x qs q are len book out is j z e = ⊎_elim
    (λ t. let old = are j z t in (ap (λ l. slice_get l j) (map-append id_of xs (x ∷ [])) ∙ stands_append (map id_of xs) (id_of x ∷ []) j (seat_book z) old.0, old.1, old.2))
    (λ t. let place : j ≡ length (map id_of xs) = t.0 ∙ (len ∙ sym (length-map xs id_of)) in
    let found : slice_get (map id_of (xs ++ x ∷ [])) j ≡ Some (id_of x) = ap (λ l. slice_get l j) (map-append id_of xs (x ∷ [])) ∙ (ap (slice_get (map id_of xs ++ id_of x ∷ [])) place ∙ get_last (map id_of xs) (id_of x)) in
    subst (λ (y : BookSeat _ _ _). (slice_get (map id_of (xs ++ x ∷ [])) j ≡ Some (seat_book y)) × IsOutside y × (number y ≡ n)) t.1 (found ∙ ap Some (sym book), out, is))
    (get_snoc qs q z j e)

module _ {S E F : Type 0} (story : S → List E) (fixed : S → F) (b : Book S E F) where
  -- the maker makes a seat
  pub seat_made : (left n : ℕ) (old new made : Seat (Option S) (View E F)) → IsMaker story fixed b left n old → new.table_id ≡ old.table_id → new.me ≡ (view_after_making old.me.0, old.me.1)
      → made.table_id ≡ old.table_id → made.me ≡ (new_seat_view old.me.0, []) → IsMaker story fixed b (left - 1) (n + 1) new × IsNewSeat story fixed (book_id b) (opening_of b) n record { seat = made }
  seat_made left n old new made is a c d e = (
    (
      a ∙ is.0,
      ap (λ t. t.0.stage) c ∙ is.1,
      ap (λ t. t.0.share) c ∙ ap (λ (z : ℕ). z - 1) is.2,
      ap (λ t. t.0.number) c ∙ ap (λ (z : ℕ). z + 1) is.3,
      ap (λ t. t.0.seen) c ∙ is.4,
      ap (λ t. t.0.fixed) c ∙ is.5,
    ),
    (
      d ∙ is.0,
      (ap (λ t. t.0.stage) e, ap (λ t. t.1) e, ap (λ t. t.0.share) e),
      ap (λ t. t.0.number) e ∙ is.3,
      ap (λ t. t.0.seen) e ∙ is.4,
      ap (λ t. t.0.fixed) e ∙ is.5,
    ),
  )

module _ {S E F : Type 0} (b : Book S E F) where
  -- a seat takes in another
  pub one_more_gathered : (n : ℕ) (ms : List (Holder E)) (base new q : BookSeat S E F) → HasGathered b base n ms → IsSeatOutside b q → new.seat.table_id ≡ base.seat.table_id
      → new.seat.me ≡ (gathered_view base.seat.me.0 q.seat.me.0, base.seat.me.1) → HasGathered b new (n + 1) (member_of q ∷ ms)
  one_more_gathered n ms base new q is out t m = (
    t ∙ is.0,
    ap (λ z. is_at_rest z.0.stage) m,
    ap (λ z. z.1) m ∙ is.2,
    ap (λ z. z.0.share) m ∙ ap₂ (λ (i j : ℕ). i + j) is.3 out.1.2,
    ap (λ z. members_of z.0) m ∙ ap₂ (λ i j. i ++ j) (ap (λ (st : Stage). members_at st q.seat.me.0) out.1.0) is.4,
  )

module _ {S E F : Type 0} (story : S → List E) (maker : E → ℕ) (fixed : S → F) (k : Opening S) where
  -- what the members know, the seats know
  pub whole_of_members : (xs : List E) (qs : List (BookSeat S E F)) → AllHaveSeen maker xs (map member_of qs) → All (λ q. Continues maker (number q) (seen_by q) xs) qs
  whole_of_members xs [] h = All-nil (λ q. Continues maker (number q) (seen_by q) xs)
  whole_of_members xs (q ∷ qs) h = All-cons (λ q. Continues maker (number q) (seen_by q) xs) q qs h.0 (whole_of_members xs qs h.1)

  pub numbers_below : (made : ℕ) (qs : List (BookSeat S E F)) → ((n : ℕ) → HasNumber (map member_of qs) n → n < made) → All (λ q. number q < made) qs
  numbers_below made [] h = All-nil (λ q. number q < made)
  numbers_below made (q ∷ qs) h = All-cons (λ q. number q < made) q qs (h (number q) (inl refl)) (numbers_below made qs (λ n p. h n (inr p)))

not_among : {S E F : Type 0} (n : ℕ) (qs : List (BookSeat S E F)) → All (λ q. number q ≢ n) qs → HasNumber (map member_of qs) n → ⊥
not_among n [] free p = absurd p
not_among n (q ∷ qs) free p = ⊎_elim (λ e. All-head (λ q. number q ≢ n) q qs free e) (λ t. not_among n qs (All-tail (λ q. number q ≢ n) q qs free) t) p

some_seat_saw : {S E F : Type 0} (qs : List (BookSeat S E F)) (xs : List E) → AnyHasSeen (map member_of qs) xs → IsSeenBySome qs xs
some_seat_saw [] xs p = absurd p
some_seat_saw (q ∷ qs) xs p = ⊎_elim (λ e. (0, q, refl, e)) (λ t. let r = some_seat_saw qs xs t in (suc r.0, r.1, r.2, r.3)) p

module _ {S E F : Type 0} (story : S → List E) (maker : E → ℕ) (fixed : S → F) (b : Book S E F) where
  -- what the last seat tells, once it has taken in all others
  pub closing : (base q : BookSeat S E F) (qs all : List (BookSeat S E F)) (ws : List ℕ) (xs : List (Option S)) (slot : Option S) → all ≡ qs ++ q ∷ [] → HasGathered b base (seat_count b) (map member_of qs ++ member_of q ∷ [])
      → Final (Seen (OneHistory story maker fixed b.table.shared.key) base.seat.id base.seat.me.0) ws xs → get_elem? xs 0 ≡ some slot
      → (x : S) × (slot ≡ Some x) × All (λ q. Continues maker (number q) (seen_by q) (story x)) all × ((n : ℕ) → All (λ q. number q ≢ n) all → entries_of maker n (story x) ≡ entries_of maker n (story (opening_of b))) × (fixed x ≡ fixed (opening_of b))
      × All (λ q. number q < seat_count b) all × ((story x ≡ story (opening_of b)) ⊎ IsSeenBySome all (story x))
  closing base q qs all ws xs slot is has f at = let k = b.table.shared.key in let e = ends story maker fixed k base.seat.id base.seat.me.0 ws xs has.1 has.3 f in let x : S = e.0 in
      let names = has.4 ∙ (sym (map-append member_of qs (q ∷ [])) ∙ ap (map member_of) (sym is)) in (
        x,
        some-injective slot (Some x) (sym at ∙ e.1),
        whole_of_members story maker fixed k (story x) all (subst (λ (z : List (Holder E)). AreMembers maker k.seats (story x) z) names e.3).0,
        (λ n free. e.4 n (λ p. not_among n all free (subst (λ (z : List (Holder E)). HasNumber z n) names p))),
        e.2,
        numbers_below story maker fixed k k.seats all (subst (λ (z : List (Holder E)). AreMembers maker k.seats (story x) z) names e.3).1,
        ⊎_elim (λ t. inl t) (λ t. inr (some_seat_saw all (story x) (subst (λ (z : List (Holder E)). AnyHasSeen z (story x)) names t))) e.5,
      )
