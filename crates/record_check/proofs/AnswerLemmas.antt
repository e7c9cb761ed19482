-- An answer from its parts, and the answers due to one record more.
use Rattle.std.proofs.Common.{◌≡◌, ℕ, ◌+◌, ◌/◌, ◌%◌, Bool, true, false, ◌&&◌, cond, nat_lt, List, [], ◌∷◌, ◌++◌, length, map, filter, refl, ap, ◌∙◌, arith}
use Rattle.std.proofs.lemmas.List.{map-append}
use Rattle.std.proofs.lemmas.List.Elements.{filter-append}
use Rattle.host_record.specs.declared.request.Request.{Request}
use Rattle.host_record.specs.declared.response.Response.{Response}
use Rattle.host_record.specs.declared.status.Status.{Status}
use Rattle.byteorder.specs.Endian.{little_bytes}
use Rattle.host_record.specs.{response_bytes, status_number}
use Rattle.host_model.specs.{TakenRow, answer_bytes, first_failure, answered_by, is_member, is_owing, below, request_at, row_at}
use Rattle.record_check.specs.{due_below}
use Rattle.record_check.proofs.GroupLemmas.{below_more}

digit_0 : (n : ℕ) → n % 4294967296 % 256 ≡ n % 256
digit_0 n = omega arith

digit_1 : (n : ℕ) → n % 4294967296 / 256 % 256 ≡ n / 256 % 256
digit_1 n = omega arith

digit_2 : (n : ℕ) → n % 4294967296 / 65536 % 256 ≡ n / 65536 % 256
digit_2 n = omega arith

digit_3 : (n : ℕ) → n % 4294967296 / 16777216 % 256 ≡ n / 16777216 % 256
digit_3 n = omega arith

-- the low four bytes of a number are those of its low 32 bits
pub low_count : (n : ℕ) → little_bytes 4 (n % 4294967296) ≡ little_bytes 4 n
low_count n =
    ap (λ b. b ∷ n % 4294967296 / 256 % 256 ∷ n % 4294967296 / 65536 % 256 ∷ n % 4294967296 / 16777216 % 256 ∷ []) (digit_0 n)
    ∙ ap (λ b. n % 256 ∷ b ∷ n % 4294967296 / 65536 % 256 ∷ n % 4294967296 / 16777216 % 256 ∷ []) (digit_1 n)
    ∙ ap (λ b. n % 256 ∷ n / 256 % 256 ∷ b ∷ n % 4294967296 / 16777216 % 256 ∷ []) (digit_2 n)
    ∙ ap (λ b. n % 256 ∷ n / 256 % 256 ∷ n / 65536 % 256 ∷ b ∷ []) (digit_3 n)

abbrev made : Status → Request → ℕ → ℕ → Response
made status r g n = record { status = status_number status; reqid = r.reqid; group = g; count = n }

pub answer_is : (rs : List Request) (rows : List TakenRow) (i : ℕ) (r : Request) (records : List ℕ) (status : Status) (g n : ℕ)
    → r ≡ request_at rs i → records ≡ answered_by rs i → status ≡ first_failure (map (λ k. (row_at rows k).outcome) records) → g ≡ cond (is_member r) r.group 0 → n ≡ length records
    → response_bytes (record { status = status_number status; reqid = r.reqid; group = g; count = n }) ≡ answer_bytes rs rows i
answer_is rs rows i r records status g n er ea es eg en =
    ap response_bytes
    (ap (λ m. made status r g m) (en ∙ ap length ea)
    ∙ ap (λ h. made status r h (length (answered_by rs i))) eg
    ∙ ap (λ q. made status q (cond (is_member q) q.group 0) (length (answered_by rs i))) er
    ∙ ap (λ st. made st (request_at rs i) (cond (is_member (request_at rs i)) (request_at rs i).group 0) (length (answered_by rs i))) (es ∙ ap (λ ks. first_failure (map (λ k. (row_at rows k).outcome) ks)) ea))

one_more : (rs : List Request) (rows : List TakenRow) (p q : ℕ → Bool) (n : ℕ) (b : Bool) → q n ≡ b
    → map (answer_bytes rs rows) (filter p (cond b (n ∷ []) [])) ≡ cond (b && p n) (answer_bytes rs rows n ∷ []) []
one_more rs rows p q n true e = elim (p n) as (λ c. map (answer_bytes rs rows) (cond c (n ∷ []) []) ≡ cond c (answer_bytes rs rows n ∷ []) []) [ true ↦ refl | false ↦ refl ]
one_more rs rows p q n false e = refl

pub due_more : (rs : List Request) (rows : List TakenRow) (n : ℕ)
    → due_below rs rows (n + 1) ≡ due_below rs rows n ++ cond (is_owing (request_at rs n) && nat_lt n (length rows)) (answer_bytes rs rows n ∷ []) []
due_more rs rows n =
    let p : ℕ → Bool = λ i. nat_lt i (length rows) in
    let q : ℕ → Bool = λ i. is_owing (request_at rs i) in
    ap (λ ks. map (answer_bytes rs rows) (filter p (filter q ks))) (below_more n)
    ∙ ap (λ ks. map (answer_bytes rs rows) (filter p ks)) (filter-append q (below n) (n ∷ []))
    ∙ ap (map (answer_bytes rs rows)) (filter-append p (filter q (below n)) (filter q (n ∷ [])))
    ∙ map-append (answer_bytes rs rows) (filter p (filter q (below n))) (filter p (filter q (n ∷ [])))
    ∙ ap (λ xs. due_below rs rows n ++ xs) (one_more rs rows p q n (q n) refl)
