-- What the rows of one instance come to is its end.
use Rattle.std.proofs.Common.{◌≡◌, ◌⊎◌, ℕ, ◌+◌, ◌*◌, ◌/◌, ◌%◌, ◌^◌, ◌≤◌, ◌<◌, List, [], ◌∷◌, length, map, sym, refl, ap, ap₂, ◌∙◌, inl, inr, ⊎_elim, arith, cond}
use Rattle.std.specs.Prelude.{Bool, true, false, filter, find, max, unwrap_or, Option, Some, None}
use Rattle.std.specs.List.{cons_option}
use Rattle.host_model.specs.{is_failure, first_failure}
use Rattle.host_record.specs.declared.status.Status.{Status}
use Rattle.host_record.specs.{Ok, NotSupported, NoMemory, InvalidArgs, OutOfRange, TooSmall, NotFound, Io}
use Rattle.host_group.specs.{Row, Progress, Unsettled, Last, TookError, TookDeviceFront, TookMemoryFront, TookClosing, Ended, Passed, GroupEnd, no_failure, failure_word, status_of, bit, name_of, Tally, tally_of, ending_of, ended_of, told_number, if_last, IsInstanceOver, whole, greatest, closers_of, IsEnd, end_in_row, end_at, ends_of, HasOneEnd}
use Rattle.host_group.proofs.Tallies.{Sound, sound_nothing, sound_both, sound_tally}
use Rattle.host_group.proofs.FailureLemmas.{status_of_word}

pub sound_whole : (rows : List Row) → Sound (whole rows)
sound_whole [] = sound_nothing
sound_whole (r ∷ rs) = sound_both (tally_of r) (whole rs) (sound_tally r) (sound_whole rs)

-- the rows' indexes rise
abbrev pub AreRising : List Row → ℕ → Type 0
AreRising [] from = Unit {0}
AreRising (r ∷ rs) from = (from ≤ r.member.index) × (r.member.index < 2 ^ 32) × AreRising rs (r.member.index + 1)

pub count_rows : (rows : List Row) → (whole rows).rows ≡ length rows
count_rows [] = refl
count_rows (r ∷ rs) = let more = count_rows rs in omega arith

pub greatest_device : (rows : List Row) → (whole rows).device_front ≡ greatest (map (λ r. r.device_front) rows)
greatest_device [] = refl
greatest_device (r ∷ rs) = ap (max r.device_front) (greatest_device rs)

pub greatest_memory : (rows : List Row) → (whole rows).memory_front ≡ greatest (map (λ r. r.memory_front) rows)
greatest_memory [] = refl
greatest_memory (r ∷ rs) = ap (max r.memory_front) (greatest_memory rs)

-- ---- the closing member
-- a row before others, by whether it closes
next_closers : (b : Bool) (r : Row) (rs : List Row) → r.member.last ≡ b → closers_of (r ∷ rs) ≡ cond b ((r.member.index, r.member.reqid) ∷ closers_of rs) (closers_of rs)
next_closers true r rs e = ap (λ b. map (λ (x : Row). (x.member.index, x.member.reqid)) (cond b (r ∷ filter (λ (x : Row). x.member.last) rs) (filter (λ (x : Row). x.member.last) rs))) e
next_closers false r rs e = ap (λ b. map (λ (x : Row). (x.member.index, x.member.reqid)) (cond b (r ∷ filter (λ (x : Row). x.member.last) rs) (filter (λ (x : Row). x.member.last) rs))) e

pub no_closer : (rows : List Row) → (whole rows).closers ≡ 0 → closers_of rows ≡ []
no_closer [] z = refl
no_closer (r ∷ rs) z = by r.member.last refl (no_closer rs)
  where
    by : (b : Bool) → r.member.last ≡ b → ((whole rs).closers ≡ 0 → closers_of rs ≡ []) → closers_of (r ∷ rs) ≡ []
    by true e more = let one : bit r.member.last ≡ 1 = ap bit e in absurd (omega arith)
    by false e more = next_closers false r rs e ∙ more (omega arith)

-- the one closing member is told by its name
pub one_closer : (rows : List Row) (from : ℕ) → AreRising rows from → (whole rows).closers ≡ 1 → closers_of rows ≡ ((whole rows).closing % 2 ^ 32, (whole rows).closing / 2 ^ 32) ∷ []
one_closer [] from rise one = absurd (omega arith)
one_closer (r ∷ rs) from rise one = by r.member.last refl (one_closer rs (r.member.index + 1) rise.2)
  where
    by : (b : Bool) → r.member.last ≡ b → ((whole rs).closers ≡ 1 → closers_of rs ≡ ((whole rs).closing % 2 ^ 32, (whole rs).closing / 2 ^ 32) ∷ []) → closers_of (r ∷ rs) ≡ ((whole (r ∷ rs)).closing % 2 ^ 32, (whole (r ∷ rs)).closing / 2 ^ 32) ∷ []
    by true e more = let mark : bit r.member.last ≡ 1 = ap bit e in let none : (whole rs).closers ≡ 0 = omega arith in let zero' = (sound_whole rs).unnamed none in
        let name : if_last r.member.last (name_of r.member) ≡ name_of r.member = ap (λ b. if_last b (name_of r.member)) e in let low = rise.1 in
        let index : r.member.index ≡ (whole (r ∷ rs)).closing % 2 ^ 32 = omega arith in let reqid : r.member.reqid ≡ (whole (r ∷ rs)).closing / 2 ^ 32 = omega arith in
        next_closers true r rs e ∙ ap₂ (λ (p : ℕ × ℕ) ps. p ∷ ps) (λ i. (index i, reqid i)) (no_closer rs none)
    by false e more = let mark : bit r.member.last ≡ 0 = ap bit e in let name : if_last r.member.last (name_of r.member) ≡ 0 = ap (λ b. if_last b (name_of r.member)) e in
        let same : (whole (r ∷ rs)).closing ≡ (whole rs).closing = omega arith in
        next_closers false r rs e ∙ (more (omega arith) ∙ ap (λ (n : ℕ). (n % 2 ^ 32, n / 2 ^ 32) ∷ []) (sym same))

-- ---- the first failure
failed : (i : ℕ) (s : Status) → (s ≡ Ok) ⊎ ((is_failure s ≡ true) × (8 * i < failure_word i s) × (failure_word i s < 8 * i + 8))
failed i Ok = inl refl
failed i NotSupported = inr (refl, omega arith, omega arith)
failed i NoMemory = inr (refl, omega arith, omega arith)
failed i InvalidArgs = inr (refl, omega arith, omega arith)
failed i OutOfRange = inr (refl, omega arith, omega arith)
failed i TooSmall = inr (refl, omega arith, omega arith)
failed i NotFound = inr (refl, omega arith, omega arith)
failed i Io = inr (refl, omega arith, omega arith)

abbrev statuses : List Row → List Status
statuses rows = map (λ r. r.status) rows

-- the least word is that of the first failure, and is past each lesser index
pub first_failed : (rows : List Row) (from : ℕ) → AreRising rows from → ((whole rows).error ≤ no_failure) × (status_of (whole rows).error ≡ first_failure (statuses rows)) × (((whole rows).error ≡ no_failure) ⊎ (8 * from < (whole rows).error))
first_failed [] from rise = (omega arith, refl, inl refl)
first_failed (r ∷ rs) from rise = let more = first_failed rs (r.member.index + 1) rise.2 in let top = more.0 in let least = rise.0 in let low = rise.1 in
    let word : ℕ = failure_word r.member.index r.status in ⊎_elim
    (λ ok. let w : word ≡ no_failure = ap (failure_word r.member.index) ok in let same : (whole (r ∷ rs)).error ≡ (whole rs).error = omega arith in
    let pass : first_failure (statuses (r ∷ rs)) ≡ first_failure (statuses rs) = ap (λ b. unwrap_or (cond b (Some r.status) (find is_failure (statuses rs))) Ok) (ap is_failure ok) in
    (omega arith, ap status_of same ∙ (more.1 ∙ sym pass), ⊎_elim (λ e. inl (same ∙ e)) (λ lt. inr (omega arith)) more.2))
    (λ bad. let above = bad.1 in let below = bad.2 in let mine : (whole (r ∷ rs)).error ≡ word = ⊎_elim (λ e. omega arith) (λ lt. omega arith) more.2 in
    let take : first_failure (statuses (r ∷ rs)) ≡ r.status = ap (λ b. unwrap_or (cond b (Some r.status) (find is_failure (statuses rs))) Ok) bad.0 in
    (omega arith, ap status_of mine ∙ (status_of_word r.member.index r.status (omega arith) ∙ sym take), inr (omega arith)))
    (failed r.member.index r.status)

-- ---- who was told
pub no_end : (rows : List Row) → (whole rows).ended ≡ 0 → ends_of rows ≡ []
no_end [] z = refl
no_end (r ∷ rs) z = ap₂ (λ (e : Option GroupEnd) es. cons_option e es) (none r.progress (omega arith)) (no_end rs (omega arith))
  where
    none : (p : Progress) → ended_of p ≡ 0 → end_at p r ≡ None
    none Unsettled n = refl
    none Last n = refl
    none TookError n = refl
    none TookDeviceFront n = refl
    none TookMemoryFront n = refl
    none TookClosing n = refl
    none Ended n = absurd (omega arith)
    none Passed n = refl

-- the end in what the rows come to
abbrev end_from : Tally → GroupEnd
end_from t = record { status = status_of t.end_error; count = t.end_count; reqid = t.end_closing / 2 ^ 32; index = t.end_closing % 2 ^ 32; device_front = t.end_device_front; memory_front = t.end_memory_front }

same_end : (t : Tally) (r : Row) → t.end_error ≡ r.end_error → t.end_count ≡ r.found / 256 → t.end_closing ≡ r.end_closing → t.end_device_front ≡ r.end_device_front → t.end_memory_front ≡ r.end_memory_front → end_in_row r ≡ end_from t
same_end t r a b c d e = λ i. record { status = status_of (sym a i); count = sym b i; reqid = sym c i / 2 ^ 32; index = sym c i % 2 ^ 32; device_front = sym d i; memory_front = sym e i }

later_end : (t u : Tally) → t.end_error ≡ u.end_error → t.end_count ≡ u.end_count → t.end_closing ≡ u.end_closing → t.end_device_front ≡ u.end_device_front → t.end_memory_front ≡ u.end_memory_front → end_from u ≡ end_from t
later_end t u a b c d e = λ i. record { status = status_of (sym a i); count = sym b i; reqid = sym c i / 2 ^ 32; index = sym c i % 2 ^ 32; device_front = sym d i; memory_front = sym e i }

pub one_end : (rows : List Row) → (whole rows).ending ≡ 0 → (whole rows).ended ≡ 1 → ends_of rows ≡ end_from (whole rows) ∷ []
one_end [] quiet one = absurd (omega arith)
one_end (r ∷ rs) quiet one = by r.progress refl (one_end rs)
  where
    pass : (p : Progress) → r.progress ≡ p → ended_of p ≡ 0 → ((n : ℕ) → told_number p n ≡ 0) → end_at p r ≡ None → ((whole rs).ending ≡ 0 → (whole rs).ended ≡ 1 → ends_of rs ≡ end_from (whole rs) ∷ []) → ends_of (r ∷ rs) ≡ end_from (whole (r ∷ rs)) ∷ []
    pass p e z told none more = let none' : ended_of r.progress ≡ 0 = ap ended_of e ∙ z in let un : (n : ℕ) → told_number r.progress n ≡ 0 = λ n. ap (λ q. told_number q n) e ∙ told n in
        let a = un r.end_error in let b = un (r.found / 256) in let c = un r.end_closing in let d = un r.end_device_front in let f = un r.end_memory_front in
        ap₂ (λ (x : Option GroupEnd) es. cons_option x es) (ap (λ q. end_at q r) e ∙ none) (more (omega arith) (omega arith)) ∙ ap (λ x. x ∷ []) (later_end (whole (r ∷ rs)) (whole rs) (omega arith) (omega arith) (omega arith) (omega arith) (omega arith))

    busy : (p : Progress) → r.progress ≡ p → ending_of p ≡ 1 → ends_of (r ∷ rs) ≡ end_from (whole (r ∷ rs)) ∷ []
    busy p e z = let z' : ending_of r.progress ≡ 1 = ap ending_of e ∙ z in absurd (omega arith)

    by : (p : Progress) → r.progress ≡ p → ((whole rs).ending ≡ 0 → (whole rs).ended ≡ 1 → ends_of rs ≡ end_from (whole rs) ∷ []) → ends_of (r ∷ rs) ≡ end_from (whole (r ∷ rs)) ∷ []
    by Unsettled e more = pass Unsettled e refl (λ n. refl) refl more
    by Last e more = busy Last e refl
    by TookError e more = busy TookError e refl
    by TookDeviceFront e more = busy TookDeviceFront e refl
    by TookMemoryFront e more = busy TookMemoryFront e refl
    by TookClosing e more = busy TookClosing e refl
    by Ended e more = let told : (n : ℕ) → told_number r.progress n ≡ n = λ n. ap (λ q. told_number q n) e in let z' : ended_of r.progress ≡ 1 = ap ended_of e in let none : (whole rs).ended ≡ 0 = omega arith in
        let still = (sound_whole rs).quiet (omega arith) none in let s0 = still.0 in let s1 = still.1 in let s2 = still.2 in let s3 = still.3 in let s4 = still.4 in
        let a = told r.end_error in let b = told (r.found / 256) in let c = told r.end_closing in let d = told r.end_device_front in let f = told r.end_memory_front in
        ap₂ (λ (x : Option GroupEnd) es. cons_option x es) (ap (λ q. end_at q r) e) (no_end rs none) ∙ ap (λ x. x ∷ []) (same_end (whole (r ∷ rs)) r (omega arith) (omega arith) (omega arith) (omega arith) (omega arith))
    by Passed e more = pass Passed e refl (λ n. refl) refl more

-- the end of a closed instance is in what its rows come to
pub is_end : (rows : List Row) (from : ℕ) → AreRising rows from → (whole rows).closers ≡ 1 → (e : GroupEnd) → e.status ≡ status_of (whole rows).error → e.count ≡ (whole rows).rows
    → e.index + 2 ^ 32 * e.reqid ≡ (whole rows).closing → e.index < 2 ^ 32 → e.device_front ≡ (whole rows).device_front → e.memory_front ≡ (whole rows).memory_front → IsEnd rows e
is_end rows from rise one e status count closing low device memory = let index : (whole rows).closing % 2 ^ 32 ≡ e.index = omega arith in let reqid : (whole rows).closing / 2 ^ 32 ≡ e.reqid = omega arith in record {
  status = status ∙ (first_failed rows from rise).1;
  count = count ∙ count_rows rows;
  closed_by = one_closer rows from rise one ∙ ap (λ (p : ℕ × ℕ). p ∷ []) (λ i. (index i, reqid i));
  device_front = device ∙ greatest_device rows;
  memory_front = memory ∙ greatest_memory rows;
}

-- an instance that is over has its end
pub has_end : (rows : List Row) (from : ℕ) → AreRising rows from → IsInstanceOver (whole rows) → HasOneEnd rows
has_end rows from rise over = let t : Tally = whole rows in let closing = over.closing in
    (end_from t, one_end rows over.ending over.ended, is_end rows from rise over.closers (end_from t) (ap status_of over.error) over.count (omega arith) (omega arith) over.device_front over.memory_front)
