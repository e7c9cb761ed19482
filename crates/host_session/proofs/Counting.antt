-- What counting tells of the answers received.
use Rattle.std.proofs.Common.{◌≡◌, ℕ, suc, ◌≤◌, Bool, true, false, cond, nat_le, List, [], ◌∷◌, length, filter, map, refl, sym, ap, ◌∙◌, arith}
use Rattle.std.proofs.lemmas.Bool.{le-leb}
use Rattle.std.proofs.lemmas.Slice.Eq.{bytes_eq-Decides}
use Rattle.std.specs.Str.{bytes_eq}
use Rattle.host_model.specs.{Event, TakenRow, answer_bytes, due, count, within_counts, received, requests}
use Rattle.host_model.proofs.ListTests.{all_pass, and-from}
use Rattle.host_session.specs.{AreAnswered, AreCounted, CountingTells, due_records}
use Rattle.host_session.proofs.Times.{StandsOnce, as_many_pass, fewer_pass, found_again, no_more}

same_bytes : (x : List ℕ) → bytes_eq x x ≡ true
same_bytes x = (bytes_eq-Decides x x).1 refl

pub count-map : {A B : Type 0} (test : B → Bool) (f : A → B) (xs : List A) → count test (map f xs) ≡ count (λ x. test (f x)) xs
count-map test f [] = refl
count-map test f (x ∷ xs) = elim (test (f x)) as (λ b. length (cond b (f x ∷ filter test (map f xs)) (filter test (map f xs))) ≡ length (cond b (x ∷ filter (λ y. test (f y)) xs) (filter (λ y. test (f y)) xs))) [
  | true ↦ ap suc (count-map test f xs)
  | false ↦ count-map test f xs
]

within : (xs ys : List (List ℕ)) → ((bytes : List ℕ) → count (bytes_eq bytes) xs ≤ count (bytes_eq bytes) ys) → within_counts bytes_eq xs ys ≡ true
within xs ys h = all_pass (λ x. nat_le (count (bytes_eq x) xs) (count (bytes_eq x) ys)) xs (λ x _. le-leb (count (bytes_eq x) xs) (count (bytes_eq x) ys) (h x))

module _ (log : List Event) (rows : List TakenRow) (answered : List ℕ) (h : AreAnswered log rows answered) where
  once : StandsOnce answered (due_records log rows)
  once = record { once = h.once; among = h.due }

  got_count : (bytes : List ℕ) → count (bytes_eq bytes) (received log) ≡ count (λ i. bytes_eq bytes (answer_bytes (requests log) rows i)) answered
  got_count bytes = ap (count (bytes_eq bytes)) h.bytes ∙ count-map (bytes_eq bytes) (answer_bytes (requests log) rows) answered

  due_count : (bytes : List ℕ) → count (bytes_eq bytes) (due log rows) ≡ count (λ i. bytes_eq bytes (answer_bytes (requests log) rows i)) (due_records log rows)
  due_count bytes = count-map (bytes_eq bytes) (answer_bytes (requests log) rows) (due_records log rows)

  at_most : (bytes : List ℕ) → count (bytes_eq bytes) (received log) ≤ count (bytes_eq bytes) (due log rows)
  at_most bytes = omega (arith, got_count bytes, due_count bytes, fewer_pass (λ i. bytes_eq bytes (answer_bytes (requests log) rows i)) answered (due_records log rows) once)

  as_often : length (due_records log rows) ≤ length answered → (bytes : List ℕ) → count (bytes_eq bytes) (received log) ≡ count (bytes_eq bytes) (due log rows)
  as_often enough bytes = got_count bytes ∙ (as_many_pass (λ i. bytes_eq bytes (answer_bytes (requests log) rows i)) answered (due_records log rows) once enough ∙ sym (due_count bytes))

  pub counted : AreCounted log rows answered
  counted = record {
    at_most = within (received log) (due log rows) at_most;
    each = λ i there often. found_again (λ j. bytes_eq (answer_bytes (requests log) rows i) (answer_bytes (requests log) rows j)) answered (due_records log rows) once
        (sym (got_count (answer_bytes (requests log) rows i)) ∙ (often ∙ due_count (answer_bytes (requests log) rows i))) i there (same_bytes (answer_bytes (requests log) rows i));
    few = no_more answered (due_records log rows) once;
    exactly = λ enough. and-from (within_counts bytes_eq (received log) (due log rows)) (within_counts bytes_eq (due log rows) (received log))
        (within (received log) (due log rows) at_most)
        (within (due log rows) (received log) (λ bytes. omega (arith, as_often enough bytes)));
  }

pub counting_tells : CountingTells
counting_tells log rows answered h = counted log rows answered h
