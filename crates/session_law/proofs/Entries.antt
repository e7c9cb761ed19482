-- Each record has just the entries in the buffers' history that it has to have, and was carried out.
use Rattle.std.proofs.Common.{◌≡◌, ℕ, zero, suc, ◌+◌, ◌<◌, ◌≤◌, ◌==◌, Bool, true, false, cond, nat_lt, List, [], ◌∷◌, ◌++◌, filter_map, length, map, take, drop, Option, Some, None, refl, sym, ap, ◌∙◌, arith, append_assoc, eq-eqb, length-append}
use Rattle.std.specs.Bool.{then_some}
use Rattle.std.specs.List.{cons_option, slice_get}
use Rattle.std.proofs.lemmas.Bool.{eqb-true}
use Rattle.std.proofs.lemmas.List.{map-append, take-append-drop}
use Rattle.std.proofs.lemmas.List.Elements.{filter-append, filter_map-append}
use Rattle.host_block.proofs.Places.{from_filter, from_take, within}
use Rattle.host_record.specs.{Opcode, Read, Write, Flush, Trim, Close, opcode}
use Rattle.host_record.specs.declared.request.Request.{Request}
use Rattle.host_record.specs.declared.status.Status.{Status}
use Rattle.host_record.specs.declared.status.Status.TheVariants as status
use Rattle.host_model.specs.{MemEntry, MemEvent, Attach, Fill, Show, Pin, Lift, Land, Done, Release, Step, Accepted, Refused, entries_for, entries_owed, record_entry, index_of, lift_at, lift_for, spare, writes_of}
use Rattle.host_model.specs.declared.memory.MemEvent.TheVariants as mem
use Rattle.host_model.specs.declared.verdict.Verdict.{Verdict}
use Rattle.host_memory.specs.{events}
use Rattle.host_log.specs.{entries_of}
use Rattle.host_intake.specs.{made_for, made_under, under}
use Rattle.host_session.specs.{moves_by, moves_owed}
use Rattle.session_law.proofs.Places.{from_drop}
use Rattle.host_log.proofs.Places.{stands_append}

-- ---- entries of one record

other_none : (b : Bool) (w : MemEvent) → b ≡ false → then_some b w ≡ None
other_none true w e = absurd (cc)
other_none false w e = refl

differ : (index i : ℕ) → (Some index ≡ Some i → ⊥) → (index == i) ≡ false
differ index i no_one = at (index == i) refl
  where
    at : (b : Bool) → (index == i) ≡ b → b ≡ false
    at true e = absurd (no_one (ap Some (eqb-true index i e)))
    at false e = refl

-- an entry that was made for another record is none of this one's
pub entry_none : (i : ℕ) (w : MemEvent) → (index_of w ≡ Some i → ⊥) → record_entry i w ≡ None
entry_none i (Attach id pages from) h = refl
entry_none i (Fill id block count byte) h = refl
entry_none i (Show id block count) h = refl
entry_none i (Pin index id by) h = other_none (index == i) (Pin index id 0) (differ index i h)
entry_none i (Lift index k id block bytes) h = other_none (index == i) (Lift index k id block bytes) (differ index i h)
entry_none i (Land index k id block bytes) h = other_none (index == i) (Land index k id block bytes) (differ index i h)
entry_none i (Done index id) h = other_none (index == i) (Done index id) (differ index i h)
entry_none i (mem.Close index id) h = other_none (index == i) (mem.Close index id) (differ index i h)
entry_none i (Release id) h = refl

pub none_made : (i : ℕ) (xs : List MemEntry) → ((n : ℕ) (e : MemEntry) → slice_get xs n ≡ Some e → index_of e.what ≡ Some i → ⊥) → filter_map (record_entry i) (events xs) ≡ []
none_made i [] h = refl
none_made i (x ∷ xs) h = ap (λ o. cons_option o (filter_map (record_entry i) (events xs))) (entry_none i x.what (h 0 x refl)) ∙ none_made i xs (λ n e at. h (suc n) e at)

-- where all of a record's entries are of one hand
pub by_one : (i k : ℕ) (xs : List MemEntry) → ((n : ℕ) (e : MemEntry) → slice_get xs n ≡ Some e → index_of e.what ≡ Some i → e.hand ≡ k) → filter_map (record_entry i) (events xs) ≡ filter_map (record_entry i) (events (entries_of (λ (e : MemEntry). e.hand) k xs))
by_one i k [] h = refl
by_one i k (x ∷ xs) h = step (x.hand == k) refl (by_one i k xs (λ n e at. h (suc n) e at))
  where
    step : (b : Bool) → (x.hand == k) ≡ b → filter_map (record_entry i) (events xs) ≡ filter_map (record_entry i) (events (entries_of (λ (e : MemEntry). e.hand) k xs))
        → filter_map (record_entry i) (events (x ∷ xs)) ≡ filter_map (record_entry i) (events (cond b (x ∷ entries_of (λ (e : MemEntry). e.hand) k xs) (entries_of (λ (e : MemEntry). e.hand) k xs)))
    step true e r = ap (cons_option (record_entry i x.what)) r
    step false e r =
        ap (λ o. cons_option o (filter_map (record_entry i) (events xs))) (entry_none i x.what (λ is. let own : x.hand ≡ k = h 0 x refl is in let z : true ≡ false = sym (eq-eqb x.hand k own) ∙ e in cc)) ∙ r

events_under : (number : ℕ) (l : List MemEvent) → events (under number l) ≡ l
events_under number [] = refl
events_under number (x ∷ l) = ap (λ r. x ∷ r) (events_under number l)

-- ---- what the entries have to be

-- a pin lifts nothing
spare_same : (st : Status) (n i : ℕ) (r : Request) (p : MemEvent) (moves : List MemEvent) → lift_at n i r p ≡ None → spare st n i r (p ∷ moves) ≡ spare st n i r moves
spare_same status.NoMemory n i r p moves e = ap (λ o. cond (nat_lt n r.length) (take 1 (cons_option o (filter_map (lift_at n i r) moves))) []) e
spare_same _ n i r p moves e = refl

pin_only : (i id hand : ℕ) → filter_map (record_entry i) (Pin i id hand ∷ []) ≡ Pin i id 0 ∷ []
pin_only i id hand = ap (λ b. cons_option (then_some b (Pin i id 0)) []) (eq-eqb i i refl)

close_only : (i id : ℕ) → filter_map (record_entry i) (mem.Close i id ∷ []) ≡ mem.Close i id ∷ []
close_only i id = ap (λ b. cons_option (then_some b (mem.Close i id)) []) (eq-eqb i i refl)

close_freed : (i id : ℕ) → filter_map (record_entry i) (mem.Close i id ∷ Release id ∷ []) ≡ mem.Close i id ∷ []
close_freed i id = ap (λ b. cons_option (then_some b (mem.Close i id)) []) (eq-eqb i i refl)

module _ (st : Status) (i : ℕ) (r : Request) (hand : ℕ) (steps : List Step) (own moves : List MemEvent) where
  owed_by : (o : Option Opcode) (waits : Bool) → own ≡ filter_map (record_entry i) (made_for o i r.vmoid hand waits) ++ moves → moves ≡ moves_by o st i r steps moves → own ≡ entries_for o st i r steps own
  owed_by None waits all moved = all ∙ moved
  owed_by (Some Flush) waits all moved = all ∙ moved
  owed_by (Some Trim) waits all moved = all ∙ moved
  owed_by (Some Read) waits all moved = all ∙ (ap (λ l. l ++ moves) (pin_only i r.vmoid hand) ∙ ap (λ m. Pin i r.vmoid 0 ∷ m) moved)
  owed_by (Some Write) waits all moved =
      let first : own ≡ Pin i r.vmoid 0 ∷ moves = all ∙ ap (λ l. l ++ moves) (pin_only i r.vmoid hand) in
      let same : spare st (length steps) i r moves ≡ spare st (length steps) i r own = sym (spare_same st (length steps) i r (Pin i r.vmoid 0) moves refl) ∙ ap (spare st (length steps) i r) (sym first) in
      first ∙ (ap (λ m. Pin i r.vmoid 0 ∷ m) moved
      ∙ ap (λ sp. Pin i r.vmoid 0 ∷ map (λ (step : Step). lift_for i r step.k step.bytes) (writes_of steps) ++ sp ++ Done i r.vmoid ∷ []) same)
  owed_by (Some Close) true all moved = all ∙ (ap (λ l. l ++ moves) (close_only i r.vmoid) ∙ ap (λ m. mem.Close i r.vmoid ∷ m) moved)
  owed_by (Some Close) false all moved = all ∙ (ap (λ l. l ++ moves) (close_freed i r.vmoid) ∙ ap (λ m. mem.Close i r.vmoid ∷ m) moved)

  -- what taking the record left, and what its hand did, are the entries that it has to have
  pub owed : (vd : Verdict) (waits : Bool) → own ≡ filter_map (record_entry i) (made_under vd (made_for (opcode r) i r.vmoid hand waits)) ++ moves → moves ≡ moves_owed vd st i r steps moves → own ≡ entries_owed vd st i r steps own
  owed Accepted waits all moved = owed_by (opcode r) waits all moved
  owed (Refused s) waits all moved = all ∙ moved

-- ---- a history around what a taking left

module _ (i k : ℕ) (h : List MemEntry) (at n : ℕ) (number : ℕ) (left : List MemEvent) (there : take n (drop at h) ≡ under number left)
    (before : (p : ℕ) (e : MemEntry) → slice_get h p ≡ Some e → index_of e.what ≡ Some i → at ≤ p)
    (behind : (p : ℕ) (e : MemEntry) → slice_get h p ≡ Some e → index_of e.what ≡ Some i → at + n ≤ p → e.hand ≡ k)
    (others : (p : ℕ) (e : MemEntry) → slice_get h p ≡ Some e → index_of e.what ≡ Some i → p < at + n → e.hand ≡ k → ⊥) where
  whole : h ≡ (take at h ++ take n (drop at h)) ++ drop n (drop at h)
  whole = sym (take-append-drop at h) ∙ (ap (λ l. take at h ++ l) (sym (take-append-drop n (drop at h))) ∙ sym (append_assoc (take at h) (take n (drop at h)) (drop n (drop at h))))

  both_events : (xs ys : List MemEntry) → filter_map (record_entry i) (events (xs ++ ys)) ≡ filter_map (record_entry i) (events xs) ++ filter_map (record_entry i) (events ys)
  both_events xs ys = ap (filter_map (record_entry i)) (map-append (λ (e : MemEntry). e.what) xs ys) ∙ filter_map-append (record_entry i) (events xs) (events ys)

  first_none : filter_map (record_entry i) (events (take at h)) ≡ []
  first_none = none_made i (take at h) (λ p e bt is. let q = from_take h at p e bt in let l = before p e q.0 is in let m = q.1 in omega arith)

  mid : filter_map (record_entry i) (events (take n (drop at h))) ≡ filter_map (record_entry i) left
  mid = ap (λ l. filter_map (record_entry i) (events l)) there ∙ ap (filter_map (record_entry i)) (events_under number left)

  rest_at : (p : ℕ) (e : MemEntry) → slice_get (drop n (drop at h)) p ≡ Some e → slice_get h (at + (n + p)) ≡ Some e
  rest_at p e bt = from_drop h at (n + p) e (from_drop (drop at h) n p e bt)

  rest_by : filter_map (record_entry i) (events (drop n (drop at h))) ≡ filter_map (record_entry i) (events (entries_of (λ (e : MemEntry). e.hand) k (drop n (drop at h))))
  rest_by = by_one i k (drop n (drop at h)) (λ p e bt is. behind (at + (n + p)) e (rest_at p e bt) is (omega arith))

  -- the hand has no entry for the record before
  own_none : filter_map (record_entry i) (events (entries_of (λ (e : MemEntry). e.hand) k (take at h ++ take n (drop at h)))) ≡ []
  own_none = none_made i (entries_of (λ (e : MemEntry). e.hand) k (take at h ++ take n (drop at h))) (λ p e bt is.
      let f = from_filter (λ (x : MemEntry). x.hand == k) (take at h ++ take n (drop at h)) p e bt in
      let up : slice_get ((take at h ++ take n (drop at h)) ++ drop n (drop at h)) f.0 ≡ Some e = stands_append (take at h ++ take n (drop at h)) (drop n (drop at h)) f.0 e f.1 in
      let place : slice_get h f.0 ≡ Some e = ap (λ l. slice_get l f.0) whole ∙ up in
      let short : f.0 < length (take at h ++ take n (drop at h)) = within (take at h ++ take n (drop at h)) f.0 e f.1 in
      let long = length-append (take at h) (take n (drop at h)) in
      let a = take_short at h in let b = take_short n (drop at h) in
      others f.0 e place is (omega (arith, short, long, a, b)) (eqb-true e.hand k f.2))
    where
      take_short : (m : ℕ) (xs : List MemEntry) → length (take m xs) ≤ m
      take_short zero xs = omega arith
      take_short (suc m) [] = omega arith
      take_short (suc m) (x ∷ xs) = let r = take_short m xs in omega arith

  own_rest : filter_map (record_entry i) (events (entries_of (λ (e : MemEntry). e.hand) k h)) ≡ filter_map (record_entry i) (events (entries_of (λ (e : MemEntry). e.hand) k (drop n (drop at h))))
  own_rest =
      ap (λ l. filter_map (record_entry i) (events (entries_of (λ (e : MemEntry). e.hand) k l))) whole
      ∙ (ap (λ l. filter_map (record_entry i) (events l)) (filter-append (λ (e : MemEntry). e.hand == k) (take at h ++ take n (drop at h)) (drop n (drop at h)))
      ∙ (both_events (entries_of (λ (e : MemEntry). e.hand) k (take at h ++ take n (drop at h))) (entries_of (λ (e : MemEntry). e.hand) k (drop n (drop at h)))
      ∙ ap (λ l. l ++ filter_map (record_entry i) (events (entries_of (λ (e : MemEntry). e.hand) k (drop n (drop at h))))) own_none))

  -- the entries of a record: what its taking left, and then what its hand did
  pub entries_are : filter_map (record_entry i) (events h) ≡ filter_map (record_entry i) left ++ filter_map (record_entry i) (events (entries_of (λ (e : MemEntry). e.hand) k h))
  entries_are =
      ap (λ l. filter_map (record_entry i) (events l)) whole
      ∙ (both_events (take at h ++ take n (drop at h)) (drop n (drop at h))
      ∙ (ap (λ l. l ++ filter_map (record_entry i) (events (drop n (drop at h)))) (both_events (take at h) (take n (drop at h)))
      ∙ (ap (λ l. (l ++ filter_map (record_entry i) (events (take n (drop at h)))) ++ filter_map (record_entry i) (events (drop n (drop at h)))) first_none
      ∙ (ap (λ l. l ++ filter_map (record_entry i) (events (drop n (drop at h)))) mid
      ∙ ap (λ l. filter_map (record_entry i) left ++ l) (rest_by ∙ sym own_rest)))))
