-- Fills and shows that were done found their blocks, as the history grows; and the client's own turns.
use Rattle.std.proofs.Common.{◌≡◌, ℕ, ◌==◌, Bool, true, false, ◌&&◌, cond, IsTrue, List, [], ◌∷◌, ◌++◌, filter, refl, sym, ap, subst, ◌∙◌, append-nil, append_assoc}
use Rattle.std.specs.List.{list_all}
use Rattle.std.proofs.lemmas.List.Elements.{filter-append}
use Rattle.std.proofs.lemmas.List.Folds.{list_all-append}
use Rattle.host_intake.specs.{IntakeEntry, maker_of}
use Rattle.host_model.specs.{Event, Drained, MemEvent, Attach, Fill, Show, Pin, Lift, Land, Done, Release, is_client, all_after, all_with_before}
use Rattle.host_model.specs.declared.memory.MemEvent.TheVariants as mem
use Rattle.host_model.proofs.ListTests.{and-from, both}
use Rattle.host_log.specs.{entries_of}
use Rattle.host_turn.specs.{number, seen_by}
use Rattle.host_session.specs.{IsTurn, IntakeSeat, IsDrainedLog, is_receipt, is_turn, finds_blocks}

-- ---- what was found

all_both : {A : Type 0} (test : List A → A → Bool) (before xs ys : List A) → all_after test before xs ≡ true → all_after test (before ++ xs) ys ≡ true → all_after test before (xs ++ ys) ≡ true
all_both test before [] ys e f = ap (λ l. all_after test l ys) (sym (append-nil before)) ∙ f
all_both test before (x ∷ xs) ys e f =
    let t = both (test before x) (all_after test (before ++ x ∷ []) xs) e in
    and-from (test before x) (all_after test (before ++ x ∷ []) (xs ++ ys)) t.0 (all_both test (before ++ x ∷ []) xs ys t.1 (ap (λ l. all_after test l ys) (append_assoc before (x ∷ []) xs) ∙ f))

others_find : (before : List MemEvent) (w : MemEvent) → is_client w ≡ false → finds_blocks before w ≡ true
others_find before (Attach id pages from) e = refl
others_find before (Fill id block cnt byte) e = absurd (cc e)
others_find before (Show id block cnt) e = absurd (cc e)
others_find before (Pin index id by) e = refl
others_find before (Lift index k id block bytes) e = refl
others_find before (Land index k id block bytes) e = refl
others_find before (Done index id) e = refl
others_find before (mem.Close index id) e = refl
others_find before (Release id) e = refl

none_tried : (before ys : List MemEvent) → filter is_client ys ≡ [] → all_after finds_blocks before ys ≡ true
none_tried before [] e = refl
none_tried before (y ∷ ys) e = at (is_client y) refl e (λ f. none_tried (before ++ y ∷ []) ys f)
  where
    at : (b : Bool) → is_client y ≡ b → cond b (y ∷ filter is_client ys) (filter is_client ys) ≡ [] → (filter is_client ys ≡ [] → all_after finds_blocks (before ++ y ∷ []) ys ≡ true) → (finds_blocks before y && all_after finds_blocks (before ++ y ∷ []) ys) ≡ true
    at true q f more = absurd (cc f)
    at false q f more = and-from (finds_blocks before y) (all_after finds_blocks (before ++ y ∷ []) ys) (others_find before y q) (more f)

-- entries of others
pub found_rest : (xs ys : List MemEvent) → filter is_client ys ≡ [] → all_with_before finds_blocks xs ≡ true → all_with_before finds_blocks (xs ++ ys) ≡ true
found_rest xs ys none e = all_both finds_blocks [] xs ys e (none_tried xs ys none)

-- one entry more
pub found_more : (xs : List MemEvent) (w : MemEvent) → finds_blocks xs w ≡ true → all_with_before finds_blocks xs ≡ true → all_with_before finds_blocks (xs ++ w ∷ []) ≡ true
found_more xs w finds e = all_both finds_blocks [] xs (w ∷ []) e (and-from (finds_blocks xs w) true finds refl)

-- ---- a drained log

pub drained_more : (log : List Event) (e : Event) → is_receipt e ≡ true → IsDrainedLog log → IsDrainedLog (log ++ e ∷ [])
drained_more log e is d = record {
  before = d.before;
  rest = d.rest ++ e ∷ [];
  split = ap (λ l. l ++ e ∷ []) d.split ∙ append_assoc d.before (Drained ∷ d.rest) (e ∷ []);
  answers = list_all-append is_receipt d.rest (e ∷ []) ∙ and-from (list_all is_receipt d.rest) (is_receipt e && true) d.answers (and-from (is_receipt e) true is refl);
}

-- ---- the client's turns

all_filter : {A : Type 0} (p q : A → Bool) (xs : List A) → list_all q xs ≡ true → list_all q (filter p xs) ≡ true
all_filter p q [] e = refl
all_filter p q (x ∷ xs) e = let t = both (q x) (list_all q xs) e in at (p x) t.0 (all_filter p q xs t.1)
  where
    at : (b : Bool) → IsTrue (q x) → list_all q (filter p xs) ≡ true → list_all q (cond b (x ∷ filter p xs) (filter p xs)) ≡ true
    at true f g = and-from (q x) (list_all q (filter p xs)) f g
    at false f g = g

pub turned_own : (c : ℕ) (old new : IntakeSeat) (es more : List IntakeEntry) → IsTurn old new es more → number old ≡ c → list_all is_turn more ≡ true → list_all is_turn (entries_of maker_of c (seen_by old)) ≡ true → list_all is_turn (entries_of maker_of c (seen_by new)) ≡ true
turned_own c old new es more t is turns own =
    let same : entries_of maker_of c es ≡ entries_of maker_of c (seen_by old) = subst (λ (n : ℕ). entries_of maker_of n es ≡ entries_of maker_of n (seen_by old)) is t.later.1 in
    ap (λ l. list_all is_turn (entries_of maker_of c l)) t.left
    ∙ (ap (list_all is_turn) (filter-append (λ e. maker_of e == c) es more)
    ∙ (list_all-append is_turn (entries_of maker_of c es) (entries_of maker_of c more)
    ∙ and-from (list_all is_turn (entries_of maker_of c es)) (list_all is_turn (entries_of maker_of c more)) (ap (list_all is_turn) same ∙ own) (all_filter (λ e. maker_of e == c) is_turn more turns)))
