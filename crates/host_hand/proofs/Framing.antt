-- The pages that a hand took out of buffers, as histories grow.
use Rattle.std.proofs.Common.{◌≡◌, ℕ, ◌+◌, ◌≤◌, Bool, true, false, ◌==◌, cond, List, [], ◌∷◌, ◌++◌, length, map, filter, take, None, refl, sym, ap, ap₂, ◌∙◌, arith, append-nil}
use Rattle.std.specs.Prelude.{sum}
use Rattle.std.specs.List.{cons_option, list_all}
use Rattle.std.proofs.lemmas.List.{map-append, take-append-le}
use Rattle.std.proofs.lemmas.List.Elements.{filter-append}
use Rattle.std.proofs.lemmas.List.Sums.{sum_by-append}
use Rattle.std.proofs.lemmas.Bool.{leb-true}
use mathlib.Core.List.{IsPrefix}
use Rattle.host_model.specs.{MemEntry, map_after, map_with_before}
use Rattle.host_memory.specs.{page_count_of, events}
use Rattle.host_log.specs.{Continues, entries_of, HasAdded}
use Rattle.host_intake.specs.{IntakeEntry, Taking, maker_of, request_in, takings}
use Rattle.host_log.proofs.Bools.{and_left, and_right}
use Rattle.host_hand.specs.{closed_by, is_closer, pages_by, pages_released_in, pages_named, released_by, taken_out, is_judged_within, own_takings}
use Rattle.host_hand.proofs.Entered.{map_with_before_append, own_takings_added}
use Rattle.host_log.proofs.Growing.{own_rest}

-- others release nothing of the hand's
released_rest : (n : ℕ) (before rest : List MemEntry) → entries_of (λ e. e.hand) n rest ≡ [] → map_after (pages_by n) before rest ≡ []
released_rest n before [] none = refl
released_rest n before (e ∷ rest) none = at (e.hand == n) none (released_rest n (before ++ e ∷ []) rest)
  where
    at : (m : Bool) → cond m (e ∷ entries_of (λ x. x.hand) n rest) (entries_of (λ x. x.hand) n rest) ≡ [] → (entries_of (λ x. x.hand) n rest ≡ [] → map_after (pages_by n) (before ++ e ∷ []) rest ≡ [])
        → cons_option (cond m (pages_released_in before e.what) None) (map_after (pages_by n) (before ++ e ∷ []) rest) ≡ []
    at true is ih = absurd (cc is)
    at false is ih = ih is

pub released_still : (n : ℕ) (old new : List MemEntry) → Continues (λ e. e.hand) n old new → released_by n new ≡ released_by n old
released_still n old new c =
    let none : entries_of (λ e. e.hand) n c.0.0 ≡ [] = own_rest (λ e. e.hand) n [] old new c.0 (c.1 ∙ sym (append-nil (entries_of (λ e. e.hand) n old))) in
    ap (released_by n) (sym c.0.1) ∙ (ap sum (map_with_before_append (pages_by n) old c.0.0 ∙ (ap (λ l. map_with_before (pages_by n) old ++ l) (released_rest n old c.0.0 none) ∙ append-nil (map_with_before (pages_by n) old))))

-- the pages of a buffer that was closed are those that it had when its record was judged
pages_longer : (old new : List MemEntry) (t : Taking) → IsPrefix old new → t.seen ≤ length old → pages_named new t ≡ pages_named old t
pages_longer old new t b le = ap (λ l. page_count_of (request_in t).vmoid (events l)) (ap (take t.seen) (sym b.1) ∙ take-append-le t.seen old b.0 le)

all_pages : (old new : List MemEntry) (ts : List Taking) → IsPrefix old new → list_all (is_judged_within (length old)) ts ≡ true → map (pages_named new) (filter is_closer ts) ≡ map (pages_named old) (filter is_closer ts)
all_pages old new [] b all = refl
all_pages old new (t ∷ ts) b all = at (is_closer t) (all_pages old new ts b (and_right (is_judged_within (length old) t) (list_all (is_judged_within (length old)) ts) all))
  where
    first : t.seen ≤ length old
    first = leb-true t.seen (length old) (and_left (is_judged_within (length old) t) (list_all (is_judged_within (length old)) ts) all)

    at : (c : Bool) → map (pages_named new) (filter is_closer ts) ≡ map (pages_named old) (filter is_closer ts) → map (pages_named new) (cond c (t ∷ filter is_closer ts) (filter is_closer ts)) ≡ map (pages_named old) (cond c (t ∷ filter is_closer ts) (filter is_closer ts))
    at true rest = ap₂ (λ x l. x ∷ l) (pages_longer old new t b first) rest
    at false rest = rest

pub closed_longer : (n : ℕ) (es : List IntakeEntry) (old new : List MemEntry) → IsPrefix old new → list_all (is_judged_within (length old)) (own_takings n es) ≡ true → closed_by n es new ≡ closed_by n es old
closed_longer n es old new b all = ap sum (all_pages old new (own_takings n es) b all)

-- what the hand took in addition
sum-append : (xs ys : List ℕ) → sum (xs ++ ys) ≡ sum xs + sum ys
sum-append xs ys = sum_by-append (λ x. x) xs ys

pub closed_added : (n : ℕ) (added old new : List IntakeEntry) (h : List MemEntry) → HasAdded maker_of n added old new → closed_by n new h ≡ closed_by n old h + sum (map (pages_named h) (filter is_closer (takings added)))
closed_added n added old new h a =
    ap (λ l. sum (map (pages_named h) (filter is_closer l))) (own_takings_added n added old new a)
    ∙ (ap (λ l. sum (map (pages_named h) l)) (filter-append is_closer (own_takings n old) (takings added))
    ∙ (ap sum (map-append (pages_named h) (filter is_closer (own_takings n old)) (filter is_closer (takings added)))
    ∙ sum-append (map (pages_named h) (filter is_closer (own_takings n old))) (map (pages_named h) (filter is_closer (takings added)))))

-- the pages that come with one record
pub one_closer : (h : List MemEntry) (t : Taking) → sum (map (pages_named h) (filter is_closer (t ∷ []))) ≡ cond (is_closer t) (pages_named h t) 0
one_closer h t = at (is_closer t)
  where
    at : (c : Bool) → sum (map (pages_named h) (cond c (t ∷ []) [])) ≡ cond c (pages_named h t) 0
    at true = omega arith
    at false = refl

-- ---- all pages

pub out_still : (n : ℕ) (es more : List IntakeEntry) (old new : List MemEntry) (added : List IntakeEntry) → HasAdded maker_of n added es more → filter is_closer (takings added) ≡ [] → Continues (λ e. e.hand) n old new
    → list_all (is_judged_within (length old)) (own_takings n es) ≡ true → taken_out n more new ≡ taken_out n es old
out_still n es more old new added a none c all =
    let closed = closed_added n added es more new a in let left = ap (λ l. sum (map (pages_named new) l)) none in let still = closed_longer n es old new c.0 all in let released = released_still n old new c in
    ap₂ ◌+◌ released (omega arith)
