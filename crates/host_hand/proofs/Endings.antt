-- How the records of a hand ended stays so, while the hand works on another record.
use Rattle.std.proofs.Common.{◌≡◌, ◌≢◌, ℕ, ◌≤◌, ◌<◌, Bool, true, false, ◌&&◌, ◌==◌, cond, List, [], ◌∷◌, ◌++◌, length, filter, filter_map, take, Option, Some, None, refl, sym, ap, ap₂, ◌∙◌, ◌⊎◌, inl, inr, arith, append-nil, eq-eqb, ne_eqb}
use Rattle.std.proofs.Math.Bool.{and-false}
use Rattle.std.specs.Prelude.{MatchOption, is_some}
use Rattle.std.specs.Bool.{then_some}
use Rattle.std.specs.List.{All, cons_option, slice_get}
use Rattle.std.proofs.lemmas.List.{map-append, take-append-le}
use Rattle.std.proofs.lemmas.List.Elements.{All-nil, All-cons, All-head, All-tail, filter-append, filter_map-append}
use Rattle.std.proofs.lemmas.Option.{slice_get_within}
use mathlib.Core.List.{IsPrefix}
use Rattle.host_block.specs.declared.range.Range.{Range}
use Rattle.host_model.specs.{MemEntry, MemEvent, Attach, Fill, Show, Pin, Lift, Land, Done, Release, Step, carries_out, outcome_of, record_entry, index_of}
use Rattle.host_model.specs.declared.memory.MemEvent.TheVariants as mem
use Rattle.host_memory.specs.{closer_of, events}
use Rattle.host_log.specs.{entries_of, HasGrown}
use Rattle.host_intake.specs.{IntakeEntry, Landing, Taking, request_in, takings}
use Rattle.host_session.specs.{moves_for, moves_owed}
use Rattle.host_hand.specs.{HasClosedBuffer, HasEnded, HasReleasedBuffer, IsClosedBefore, IsEndingRecord, asks_in, steps_for}
use Rattle.host_hand.proofs.Entered.{taken_longer, taking_longer}
use Rattle.host_log.proofs.Growing.{own_grown}
use Rattle.host_log.proofs.Places.{longer_length, stands_longer}

pub all_map : {A : Type 0} (P Q : A → Type 0) (xs : List A) → ((x : A) → P x → Q x) → All P xs → All Q xs
all_map P Q [] f h = All-nil Q
all_map P Q (x ∷ xs) f h = All-cons Q x xs (f x (All-head P x xs h)) (all_map P Q xs f (All-tail P x xs h))

-- ---- the steps for one record

abbrev pub is_step_of : ℕ → ℕ → Step → Bool
is_step_of s i step = step.session == s && step.index == i

pub steps_added : (n s i front stop : ℕ) (added old new : List Step) → HasGrown (λ step. step.hand) n front stop added old new → steps_for n s i new ≡ steps_for n s i old ++ filter (is_step_of s i) added
steps_added n s i front stop added old new g = ap (filter (is_step_of s i)) g.own ∙ filter-append (is_step_of s i) (entries_of (λ step. step.hand) n old) added

-- steps of another record are none of this one
pub steps_of_other : (s i j : ℕ) (steps : List Step) → i ≢ j → All (λ (step : Step). step.index ≡ j) steps → filter (is_step_of s i) steps ≡ []
steps_of_other s i j [] ne all = refl
steps_of_other s i j (step ∷ steps) ne all =
    let other : (step.session == s && step.index == i) ≡ false = ap (λ b. step.session == s && b) (ne_eqb step.index i (λ e. ne (sym e ∙ All-head (λ (x : Step). x.index ≡ j) step steps all))) ∙ and-false (step.session == s) in
    ap (λ b. cond b (step ∷ filter (is_step_of s i) steps) (filter (is_step_of s i) steps)) other ∙ steps_of_other s i j steps ne (All-tail (λ (x : Step). x.index ≡ j) step steps all)

pub steps_of_this : (s i : ℕ) (steps : List Step) → All (λ (step : Step). (step.session ≡ s) × (step.index ≡ i)) steps → filter (is_step_of s i) steps ≡ steps
steps_of_this s i [] all = refl
steps_of_this s i (step ∷ steps) all =
    let here = All-head (λ (x : Step). (x.session ≡ s) × (x.index ≡ i)) step steps all in
    let mine : (step.session == s && step.index == i) ≡ true = ap₂ (λ a b. a && b) (eq-eqb step.session s here.0) (eq-eqb step.index i here.1) in
    ap (λ b. cond b (step ∷ filter (is_step_of s i) steps) (filter (is_step_of s i) steps)) mine ∙ ap (λ l. step ∷ l) (steps_of_this s i steps (All-tail (λ (x : Step). (x.session ≡ s) × (x.index ≡ i)) step steps all))

-- ---- the entries for one record

-- an entry for record i, or for none
abbrev pub IsOf : ℕ → MemEntry → Type 0
IsOf i x = (index_of x.what ≡ Some i) ⊎ (index_of x.what ≡ None)

pub moves_added : (n i front stop : ℕ) (added old new : List MemEntry) → HasGrown (λ e. e.hand) n front stop added old new → moves_for n i new ≡ moves_for n i old ++ filter_map (record_entry i) (events added)
moves_added n i front stop added old new g =
    ap (λ l. filter_map (record_entry i) (events l)) g.own ∙ (ap (filter_map (record_entry i)) (map-append (λ (e : MemEntry). e.what) (entries_of (λ e. e.hand) n old) added) ∙ filter_map-append (record_entry i) (events (entries_of (λ e. e.hand) n old)) (events added))

-- an entry for another record is none of this one
pub entry_other : (i : ℕ) (m : MemEvent) → (index_of m ≡ Some i → ⊥) → record_entry i m ≡ None
entry_other i (Attach id pages from) but = refl
entry_other i (Fill id block count byte) but = refl
entry_other i (Show id block count) but = refl
entry_other i (Pin index id by) but = ap (λ b. then_some b (Pin index id 0)) (ne_eqb index i (λ e. but (ap Some e)))
entry_other i (Lift index k id block bytes) but = ap (λ b. then_some b (Lift index k id block bytes)) (ne_eqb index i (λ e. but (ap Some e)))
entry_other i (Land index k id block bytes) but = ap (λ b. then_some b (Land index k id block bytes)) (ne_eqb index i (λ e. but (ap Some e)))
entry_other i (Done index id) but = ap (λ b. then_some b (Done index id)) (ne_eqb index i (λ e. but (ap Some e)))
entry_other i (mem.Close index id) but = ap (λ b. then_some b (mem.Close index id)) (ne_eqb index i (λ e. but (ap Some e)))
entry_other i (Release id) but = refl

is_of_other : (i j : ℕ) (o : Option ℕ) → i ≢ j → (o ≡ Some j) ⊎ (o ≡ None) → o ≡ Some i → ⊥
is_of_other i j o ne (inl e) same = ne (cc (e, same))
is_of_other i j o ne (inr e) same = cc (e, same)

pub moves_of_other : (i j : ℕ) (entries : List MemEntry) → i ≢ j → All (IsOf j) entries → filter_map (record_entry i) (events entries) ≡ []
moves_of_other i j [] ne all = refl
moves_of_other i j (x ∷ entries) ne all =
    ap (λ o. cons_option o (filter_map (record_entry i) (events entries))) (entry_other i x.what (is_of_other i j (index_of x.what) ne (All-head (IsOf j) x entries all))) ∙ moves_of_other i j entries ne (All-tail (IsOf j) x entries all)

-- ---- what was closed and released

take_longer : {A : Type 0} (p : ℕ) (xs ys : List A) → IsPrefix xs ys → p ≤ length xs → take p ys ≡ take p xs
take_longer p xs ys b le = ap (take p) (sym b.1) ∙ take-append-le p xs b.0 le

pub closed_before_longer : (h h' : List MemEntry) (p : ℕ) (e : MemEntry) → IsPrefix h h' → p ≤ length h → IsClosedBefore h p e → IsClosedBefore h' p e
closed_before_longer h h' p e b le k v is = ap (λ l. is_some (closer_of v (events l))) (take_longer p h h' b le) ∙ k v is

pub released_longer : (n i v front : ℕ) (h h' : List MemEntry) → IsPrefix h h' → HasReleasedBuffer n i v front h → HasReleasedBuffer n i v front h'
released_longer n i v front h h' b k = record {
  place = k.place;
  released = stands_longer h h' k.place (record { hand = n; what = Release v }) b k.released;
  below = k.below;
  closed = ap (λ l. closer_of v (events l)) (take_longer k.place h h' b (let w = slice_get_within h k.place (record { hand = n; what = Release v }) k.released in omega arith)) ∙ k.closed;
}

-- ---- the ends

-- a record that ended is one of those taken
pub index_within : (part : Range) (s n : ℕ) (es : List IntakeEntry) (h : List MemEntry) (made : List Step) (l : Landing) → IsEndingRecord part s n es h made l → l.index < length (takings es)
index_within part s n es h made l (inl (t, k)) = slice_get_within (takings es) l.index t k.stands
index_within part s n es h made l (inr k) = at (slice_get (takings es) l.index) refl k.waits
  where
    at : (o : Option Taking) → slice_get (takings es) l.index ≡ o → MatchOption o ⊥ (λ (t : Taking). t.waits ≡ true) → l.index < length (takings es)
    at None is m = absurd m
    at (Some t) is m = slice_get_within (takings es) l.index t is

module _ (part : Range) (s n i : ℕ) (es more : List IntakeEntry) (h h' : List MemEntry) (made made' : List Step) (fs ts fh th : ℕ) (steps : List Step) (entries : List MemEntry)
    (b : IsPrefix es more) (gs : HasGrown (λ step. step.hand) n fs ts steps made made') (gh : HasGrown (λ e. e.hand) n fh th entries h h')
    (sa : All (λ (step : Step). step.index ≡ i) steps) (ah : All (IsOf i) entries) where
  same_steps : (k : ℕ) → k ≢ i → steps_for n s k made' ≡ steps_for n s k made
  same_steps k ne = steps_added n s k fs ts steps made made' gs ∙ (ap (λ l. steps_for n s k made ++ l) (steps_of_other s k i steps ne sa) ∙ append-nil (steps_for n s k made))

  same_moves : (k : ℕ) → k ≢ i → moves_for n k h' ≡ moves_for n k h
  same_moves k ne = moves_added n k fh th entries h h' gh ∙ (ap (λ l. moves_for n k h ++ l) (moves_of_other k i entries ne ah) ∙ append-nil (moves_for n k h))

  ended_kept : (l : Landing) (t : Taking) → l.index ≢ i → HasEnded part s n es h made l t → HasEnded part s n more h' made' l t
  ended_kept l t ne k = record {
    stands = taken_longer es more l.index t b k.stands;
    by = k.by;
    waits = k.waits;
    carried = ap (carries_out (asks_in part t)) (same_steps l.index ne) ∙ k.carried;
    outcome = k.outcome ∙ ap (outcome_of t.verdict (asks_in part t)) (sym (same_steps l.index ne));
    moved = same_moves l.index ne ∙ (k.moved ∙ ap₂ (λ a m. moves_owed t.verdict l.end.outcome l.index (request_in t) a m) (sym (same_steps l.index ne)) (sym (same_moves l.index ne)));
    device_front = own_grown (λ step. step.hand) n (λ p step. step.session ≡ s → step.index ≡ l.index → p < l.end.device_front) (λ step. step.index ≡ i) fs ts steps made made' k.device_front gs sa
        (λ p step from past below is session index. absurd (ne (sym index ∙ is)));
    memory_front = own_grown (λ e. e.hand) n (λ p e. index_of e.what ≡ Some l.index → p < l.end.memory_front) (IsOf i) fh th entries h h' k.memory_front gh ah
        (λ p e from past below is index. absurd (is_of_other l.index i (index_of e.what) ne is index));
    taking_front = k.taking_front;
    device_reached = omega (arith, k.device_reached, longer_length made made' gs.begins);
    memory_reached = omega (arith, k.memory_reached, longer_length h h' gh.begins);
  }

  closed_kept : (l : Landing) → HasClosedBuffer n es h l → HasClosedBuffer n more h' l
  closed_kept l k = record {
    waits = taking_longer (λ t. t.waits ≡ true) es more l.index b k.waits;
    outcome = k.outcome;
    buffer = k.buffer;
    released = released_longer n l.index k.buffer l.end.memory_front h h' gh.begins k.released;
    device_front = k.device_front;
    memory_reached = omega (arith, k.memory_reached, longer_length h h' gh.begins);
  }

  pub ending_kept : (l : Landing) → length (takings es) ≤ i → IsEndingRecord part s n es h made l → IsEndingRecord part s n more h' made' l
  ending_kept l le k = at (λ e. let w = index_within part s n es h made l k in omega arith) k
    where
      at : l.index ≢ i → IsEndingRecord part s n es h made l → IsEndingRecord part s n more h' made' l
      at ne (inl (t, e)) = inl (t, ended_kept l t ne e)
      at ne (inr e) = inr (closed_kept l e)
