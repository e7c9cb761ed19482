-- The end of a lone record is the answer that it is owed.
use Rattle.std.proofs.Common.{◌≡◌, ℕ, zero, suc, ◌+◌, ◌≤◌, ◌==◌, false, ◌&&◌, cond, if◌then◌else◌, List, [], ◌∷◌, ◌++◌, length, filter, map, refl, sym, ap, ◌∙◌, arith}
use Rattle.std.specs.List.{range_with_len}
use Rattle.std.proofs.lemmas.Bool.{eq-eqb, ne_eqb}
use Rattle.std.proofs.lemmas.List.Elements.{filter-append, filter_agree}
use Rattle.host_record.specs.declared.request.Request.{Request}
use Rattle.host_record.specs.declared.status.Status.{Status}
use Rattle.host_record.specs.declared.status.Status.TheVariants as status
use Rattle.host_record.specs.{response_bytes, status_number}
use Rattle.host_model.specs.{TakenRow, answer_bytes, first_failure, answered_by, answers_for, instance_of, is_closing, is_member, same_instance, below, request_at, row_at}
use Rattle.host_intake.specs.{RecordEnd, lone_slip}
use Rattle.host_intake.proofs.Counting.{below_more}

none_below : (i a n : ℕ) → a + n ≤ i → filter (λ k. i == k) (range_with_len a n) ≡ []
none_below i a zero h = refl
none_below i a (suc n) h =
    ap (λ b. cond b (a ∷ filter (λ k. i == k) (range_with_len (a + 1) n)) (filter (λ k. i == k) (range_with_len (a + 1) n))) (ne_eqb i a (λ e. omega arith))
    ∙ none_below i (a + 1) n (omega arith)

-- it answers itself
alone : (rs : List Request) (i : ℕ) → is_member (request_at rs i) ≡ false → answered_by rs i ≡ i ∷ []
alone rs i lone =
    filter_agree (answers_for rs i) (λ k. i == k) (λ k. ap (λ b. if b then is_closing (request_at rs i) && same_instance (instance_of rs i) (instance_of rs k) else i == k) lone) (below (i + 1))
    ∙ (ap (filter (λ k. i == k)) (below_more i)
    ∙ (filter-append (λ k. i == k) (below i) (i ∷ [])
    ∙ (ap (λ l. l ++ filter (λ k. i == k) (i ∷ [])) (none_below i 0 i (omega arith)) ∙ ap (λ b. cond b (i ∷ []) []) (eq-eqb i i refl))))

only_failure : (s : Status) → first_failure (s ∷ []) ≡ s
only_failure status.Ok = refl
only_failure _ = refl

pub lone_is : (rs : List Request) (rows : List TakenRow) (i : ℕ) (end : RecordEnd) → is_member (request_at rs i) ≡ false → end.outcome ≡ (row_at rows i).outcome
    → (lone_slip (request_at rs i) i end).bytes ≡ answer_bytes rs rows i
lone_is rs rows i end lone same =
    let r = request_at rs i in let none = alone rs i lone in
    let status_is : status_number end.outcome ≡ status_number (first_failure (map (λ k. (row_at rows k).outcome) (answered_by rs i))) =
    ap status_number (same ∙ (sym (only_failure (row_at rows i).outcome) ∙ ap (λ l. first_failure (map (λ k. (row_at rows k).outcome) l)) (sym none))) in
    ap (λ s. response_bytes (record { status = s; reqid = r.reqid; group = 0; count = 1 })) status_is
    ∙ (ap (λ b. response_bytes (record { status = status_number (first_failure (map (λ k. (row_at rows k).outcome) (answered_by rs i))); reqid = r.reqid; group = if b then r.group else 0; count = 1 })) (sym lone)
    ∙ ap (λ l. response_bytes (record { status = status_number (first_failure (map (λ k. (row_at rows k).outcome) (answered_by rs i))); reqid = r.reqid; group = if is_member r then r.group else 0; count = length l })) (sym none))
