-- The pages that a client takes out of buffers as its session is closed.
use Rattle.std.proofs.Common.{◌≡◌, ℕ, ◌+◌, Bool, cond, List, [], ◌∷◌, ◌++◌, Some, None, refl, sym, ap, ap₂, ◌∙◌, arith, append-nil, append_assoc}
use Rattle.std.specs.Prelude.{sum}
use Rattle.std.proofs.lemmas.Bool.{eq-eqb}
use Rattle.std.proofs.lemmas.List.{map-append}
use Rattle.std.proofs.lemmas.List.Sums.{sum_by-cons, sum_by_push}
use Rattle.host_hand.specs.{pages_by, released_by}
use Rattle.host_memory.specs.{page_count_of, events}
use Rattle.host_model.specs.{MemEntry, Release, map_with_before}
use Rattle.host_session.specs.{pages_of_ids, releases_by, entry_by}
use Rattle.host_session.proofs.Dropping.{page_count_still}
use Rattle.host_session.proofs.Snoc.{told_one}

released_one : (n v : ℕ) (h : List MemEntry) → released_by n (h ++ entry_by n (Release v) ∷ []) ≡ released_by n h + page_count_of v (events h)
released_one n v h =
    ap sum (told_one (pages_by n) h (entry_by n (Release v)) (page_count_of v (events h)) (ap (λ (w : Bool). cond w (Some (page_count_of v (events h))) None) (eq-eqb n n refl)))
    ∙ sum_by_push (λ (x : ℕ). x) (map_with_before (pages_by n) h) (page_count_of v (events h))

pages_after : (n v : ℕ) (h : List MemEntry) (ids : List ℕ) → pages_of_ids (h ++ entry_by n (Release v) ∷ []) ids ≡ pages_of_ids h ids
pages_after n v h [] = refl
pages_after n v h (w ∷ ids) =
    let one : page_count_of w (events (h ++ entry_by n (Release v) ∷ [])) ≡ page_count_of w (events h) =
    ap (page_count_of w) (map-append (λ (e : MemEntry). e.what) h (entry_by n (Release v) ∷ [])) ∙ page_count_still (events h) v w in
    sum_by-cons (λ (x : ℕ). page_count_of x (events (h ++ entry_by n (Release v) ∷ []))) w ids
    ∙ (ap₂ (λ (a b : ℕ). a + b) one (pages_after n v h ids)
    ∙ sym (sum_by-cons (λ (x : ℕ). page_count_of x (events h)) w ids))

-- the client's own releases
pub released_all : (n : ℕ) (h : List MemEntry) (ids : List ℕ) → released_by n (h ++ releases_by n ids) ≡ released_by n h + pages_of_ids h ids
released_all n h [] = ap (λ (l : List MemEntry). released_by n l) (append-nil h) ∙ plus_zero (released_by n h)
  where
    plus_zero : (a : ℕ) → a ≡ a + 0
    plus_zero a = omega arith
released_all n h (v ∷ ids) =
    let e = entry_by n (Release v) in
    let split : h ++ e ∷ releases_by n ids ≡ (h ++ e ∷ []) ++ releases_by n ids = sym (append_assoc h (e ∷ []) (releases_by n ids)) in
    let rest = released_all n (h ++ e ∷ []) ids in
    let head : pages_of_ids h (v ∷ ids) ≡ page_count_of v (events h) + pages_of_ids h ids = sum_by-cons (λ (x : ℕ). page_count_of x (events h)) v ids in
    ap (λ (l : List MemEntry). released_by n l) split ∙ add_up _ _ _ _ _ _ _ rest (released_one n v h) (pages_after n v h ids) head
  where
    add_up : (a b c d p q r : ℕ) → a ≡ b + c → b ≡ d + p → c ≡ q → r ≡ p + q → a ≡ d + r
    add_up a b c d p q r e1 e2 e3 e4 = omega arith
