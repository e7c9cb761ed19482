-- After a drain each answer was received as often as it is due.
use Rattle.std.proofs.Common.{◌≡◌, ℕ, zero, suc, ◌+◌, ◌≤◌, Bool, true, false, cond, nat_lt, List, ◌∷◌, length, filter, map, refl, ap, ◌∙◌, arith, IsTrue}
use Rattle.std.proofs.lemmas.List.{length-map}
use Rattle.std.proofs.lemmas.Bool.{lt-ltb}
use Rattle.std.proofs.lemmas.Slice.Eq.{bytes_eq-Decides}
use Rattle.std.specs.List.{range_with_len}
use Rattle.std.specs.Str.{bytes_eq}
use Rattle.host_record.specs.{Drain, request_of}
use Rattle.host_model.specs.{answer_bytes, due, is_owing, owed, IsLawfulSession, AnswersComeOnce, count, within_counts, is_drain, request_at, requests, received, sent}
use Rattle.host_model.specs.Session.{Session}
use Rattle.host_model.proofs.ListTests.{both}
use Rattle.host_model.proofs.Counts.{counted, length-within_counts}

-- each number of a range lies below its end
keep : (q : ℕ → Bool) (m a n : ℕ) → a + n ≤ m → filter (λ i. nat_lt i m) (filter q (range_with_len a n)) ≡ filter q (range_with_len a n)
keep q m a zero h = refl
keep q m a (suc n) h =
    let rest : filter (λ i. nat_lt i m) (filter q (range_with_len (a + 1) n)) ≡ filter q (range_with_len (a + 1) n) = keep q m (a + 1) n (omega (arith, h)) in
    let here : nat_lt a m ≡ true = lt-ltb a m (omega (arith, h)) in
    elim (q a) as (λ b. filter (λ i. nat_lt i m) (cond b (a ∷ filter q (range_with_len (a + 1) n)) (filter q (range_with_len (a + 1) n))) ≡ cond b (a ∷ filter q (range_with_len (a + 1) n)) (filter q (range_with_len (a + 1) n))) [
      | true ↦ ap (λ b. cond b (a ∷ filter (λ i. nat_lt i m) (filter q (range_with_len (a + 1) n))) (filter (λ i. nat_lt i m) (filter q (range_with_len (a + 1) n)))) here ∙ ap (λ xs. a ∷ xs) rest
      | false ↦ rest
    ]

same_bytes : (x : List ℕ) → bytes_eq x x ≡ true
same_bytes x = (bytes_eq-Decides x x).1 refl

sound_bytes : (x y : List ℕ) → bytes_eq x y ≡ true → x ≡ y
sound_bytes x y = (bytes_eq-Decides x y).0

-- after a drain the answers due are those of all owing records
pub due-drained : (s : Session) → IsLawfulSession s → s.finish ≡ Drain → due s.log s.rows ≡ map (answer_bytes (requests s.log) s.rows) (owed (requests s.log))
due-drained s h drained =
    let taken : length (requests s.log) ≤ length s.rows = omega (arith, h.taken.all_taken (ap is_drain drained), length-map (sent s.log) request_of) in
    ap (map (answer_bytes (requests s.log) s.rows)) (keep (λ i. is_owing (request_at (requests s.log) i)) (length s.rows) 0 (length (requests s.log)) (omega (arith, taken)))

pub answers_come_once : AnswersComeOnce
answers_come_once s h drained =
    let got : List (List ℕ) = received s.log in
    let owing : List (List ℕ) = due s.log s.rows in
    let t : IsTrue (within_counts bytes_eq got owing) × IsTrue (within_counts bytes_eq owing got) = both _ _ (h.answered.exactly (ap is_drain drained)) in
    let most : length got ≤ length owing = length-within_counts bytes_eq same_bytes sound_bytes got owing t.0 in
    let least : length owing ≤ length got = length-within_counts bytes_eq same_bytes sound_bytes owing got t.1 in
    let all : due s.log s.rows ≡ map (answer_bytes (requests s.log) s.rows) (owed (requests s.log)) = due-drained s h drained in
    record {
      as_many = omega (arith, most, least) ∙ ap length all ∙ length-map (owed (requests s.log)) (answer_bytes (requests s.log) s.rows);
      as_often = λ bytes. omega (arith, counted bytes_eq same_bytes sound_bytes got owing t.0 bytes, counted bytes_eq same_bytes sound_bytes owing got t.1 bytes) ∙ ap (count (bytes_eq bytes)) all;
    }
