-- Numbers that count, and logs that end, as facts of lists.
use Rattle.std.proofs.Common.{◌≡◌, ◌↔◌, ℕ, suc, ◌+◌, Bool, true, false, not, ◌==◌, ◌&&◌, cond, IsTrue, List, [], ◌∷◌, ◌++◌, length, filter, filter_map, refl, sym, ap, ◌∙◌, arith}
use Rattle.std.proofs.lemmas.Bool.{eq-eqb, eqb-true}
use Rattle.std.specs.List.{range_with_len}
use Rattle.host_record.specs.{Finish, Drain, Abort}
use Rattle.host_model.specs.{Event, Attached, NotAttached, Filled, Sent, Received, Shown, Drained, Aborted, below, is_nil, sent, sent_index, end_event, is_end}
use Rattle.host_model.proofs.ListTests.{and-from, both}
use Rattle.record_check.specs.{counts_from, ends_as, is_end_for}

pub counted-from : (n : ℕ) (xs : List ℕ) → counts_from n xs ≡ true → xs ≡ range_with_len n (length xs)
counted-from n [] e = refl
counted-from n (x ∷ xs) e =
    let t : IsTrue (x == n) × IsTrue (counts_from (n + 1) xs) = both _ _ e in
    ap (λ y. y ∷ xs) (eqb-true x n t.0) ∙ ap (λ ys. n ∷ ys) (counted-from (n + 1) xs t.1)

head_of : List ℕ → ℕ
head_of [] = 0
head_of (x ∷ xs) = x

rest_of : List ℕ → List ℕ
rest_of [] = []
rest_of (x ∷ xs) = xs

same_head : (x y : ℕ) (xs ys : List ℕ) → x ∷ xs ≡ y ∷ ys → x ≡ y
unfolding head_of
same_head x y xs ys e = ap head_of e

same_rest : (x y : ℕ) (xs ys : List ℕ) → x ∷ xs ≡ y ∷ ys → xs ≡ ys
unfolding rest_of
same_rest x y xs ys e = ap rest_of e

pub counts-from : (n : ℕ) (xs : List ℕ) → xs ≡ range_with_len n (length xs) → counts_from n xs ≡ true
counts-from n [] e = refl
counts-from n (x ∷ xs) e =
    and-from (x == n) (counts_from (n + 1) xs) (eq-eqb x n (same_head x n xs _ e)) (counts-from (n + 1) xs (same_rest x n xs _ e))

as_many : (log : List Event) → length (filter_map sent_index log) ≡ length (sent log)
as_many [] = refl
as_many (Attached pages id ∷ log) = as_many log
as_many (NotAttached pages cause ∷ log) = as_many log
as_many (Filled id block count byte done ∷ log) = as_many log
as_many (Sent index bytes ∷ log) = ap suc (as_many log)
as_many (Received bytes ∷ log) = as_many log
as_many (Shown id block count done bytes ∷ log) = as_many log
as_many (Drained ∷ log) = as_many log
as_many (Aborted ∷ log) = as_many log

pub numbered_is : (log : List Event) → IsTrue (counts_from 0 (filter_map sent_index log)) ↔ (filter_map sent_index log ≡ below (length (sent log)))
numbered_is log = (
  λ e. counted-from 0 (filter_map sent_index log) e ∙ ap below (as_many log),
  λ e. counts-from 0 (filter_map sent_index log) (e ∙ ap below (sym (as_many log))),
)

pub counts_is : (n : ℕ) (xs : List ℕ) → IsTrue (counts_from n xs) ↔ (xs ≡ range_with_len n (length xs))
counts_is n xs = (counted-from n xs, counts-from n xs)

-- ---- the end of a log

ends_here : (finish : Finish) (e : Event) → is_end e ≡ true → is_end_for finish e ≡ true → e ≡ end_event finish
ends_here finish (Attached pages id) h e = absurd (cc h)
ends_here finish (NotAttached pages cause) h e = absurd (cc h)
ends_here finish (Filled id block count byte done) h e = absurd (cc h)
ends_here finish (Sent index bytes) h e = absurd (cc h)
ends_here finish (Received bytes) h e = absurd (cc h)
ends_here finish (Shown id block count done bytes) h e = absurd (cc h)
ends_here Drain Drained h e = refl
ends_here Abort Drained h e = absurd (cc e)
ends_here Drain Aborted h e = absurd (cc e)
ends_here Abort Aborted h e = refl

end_is : (finish : Finish) → is_end_for finish (end_event finish) ≡ true
end_is Drain = refl
end_is Abort = refl

first_of : Event → List Event → Event
first_of d [] = d
first_of d (e ∷ log) = e

others : List Event → List Event
others [] = []
others (e ∷ log) = log

same_first : (a b : Event) (xs ys : List Event) → a ∷ xs ≡ b ∷ ys → a ≡ b
unfolding first_of
same_first a b xs ys e = ap (first_of a) e

same_others : (a b : Event) (xs ys : List Event) → a ∷ xs ≡ b ∷ ys → xs ≡ ys
unfolding others
same_others a b xs ys e = ap others e

kept : List Event → List Event
kept log = filter (λ e. not (is_end e)) log

-- what is kept of a log begins with no end
begins : (e : Event) (log xs : List Event) → is_end e ≡ true → kept log ≡ e ∷ xs → ⊥
unfolding kept
begins e [] xs h k = absurd (cc k)
begins e (f ∷ log) xs h k = at (is_end f) refl k (begins e log xs h)
  where
    at : (b : Bool) → is_end f ≡ b → cond (not b) (f ∷ filter (λ e. not (is_end e)) log) (filter (λ e. not (is_end e)) log) ≡ e ∷ xs → (filter (λ e. not (is_end e)) log ≡ e ∷ xs → ⊥) → ⊥
    at true g k ih = ih k
    at false g k ih = let same : f ≡ e = same_first f e _ xs k in absurd (cc (g, ap is_end same, h))

to_end : (finish : Finish) (e : Event) (log : List Event) (b : Bool) → is_end e ≡ b → cond b (is_nil log && is_end_for finish e) (ends_as finish log) ≡ true
    → (ends_as finish log ≡ true → log ≡ kept log ++ end_event finish ∷ []) → e ∷ log ≡ cond (not b) (e ∷ kept log) (kept log) ++ end_event finish ∷ []
unfolding kept
to_end finish e [] true h t ih = ap (λ x. x ∷ []) (ends_here finish e h (both true (is_end_for finish e) t).1)
to_end finish e (f ∷ log) true h t ih = absurd (cc (both false (is_end_for finish e) t).0)
to_end finish e log false h t ih = ap (λ xs. e ∷ xs) (ih t)

ends-to : (finish : Finish) (log : List Event) → ends_as finish log ≡ true → log ≡ kept log ++ end_event finish ∷ []
unfolding kept
ends-to finish [] t = absurd (cc t)
ends-to finish (e ∷ log) t = to_end finish e log (is_end e) refl t (λ u. ends-to finish log u)

-- a log that begins with an end has nothing else
alone : (finish : Finish) (e : Event) (log k : List Event) → is_end e ≡ true → kept log ≡ k → e ∷ log ≡ k ++ end_event finish ∷ [] → is_nil log && is_end_for finish e ≡ true
alone finish e log [] h g t =
    and-from (is_nil log) (is_end_for finish e) (ap is_nil (same_others e (end_event finish) log [] t)) (ap (is_end_for finish) (same_first e (end_event finish) log [] t) ∙ end_is finish)
alone finish e log (y ∷ ys) h g t = absurd (begins y log ys (ap is_end (sym (same_first e y log (ys ++ end_event finish ∷ []) t)) ∙ h) g)

from_end : (finish : Finish) (e : Event) (log : List Event) (b : Bool) → is_end e ≡ b → e ∷ log ≡ cond (not b) (e ∷ kept log) (kept log) ++ end_event finish ∷ []
    → (log ≡ kept log ++ end_event finish ∷ [] → ends_as finish log ≡ true) → cond b (is_nil log && is_end_for finish e) (ends_as finish log) ≡ true
from_end finish e log true h t ih = alone finish e log (kept log) h refl t
from_end finish e log false h t ih = ih (same_others e e log _ t)

ends-from : (finish : Finish) (log : List Event) → log ≡ kept log ++ end_event finish ∷ [] → ends_as finish log ≡ true
unfolding kept
ends-from finish [] t = let q : 0 ≡ 1 = ap length t in absurd (omega (arith, q))
ends-from finish (e ∷ log) t = from_end finish e log (is_end e) refl t (λ u. ends-from finish log u)

pub ends_is : (finish : Finish) (log : List Event) → IsTrue (ends_as finish log) ↔ (log ≡ filter (λ e. not (is_end e)) log ++ end_event finish ∷ [])
unfolding kept
ends_is finish log = (ends-to finish log, ends-from finish log)
