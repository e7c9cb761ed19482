-- What holds of a record that was accepted.
use Rattle.std.proofs.Common.{◌≡◌, ℕ, zero, suc, ◌<◌, Bool, true, false, not, ◌&&◌, cond, List, [], ◌∷◌, length, get_or, lit<, Option, Some, None, refl, sym, ap, ◌∙◌, arith}
use Rattle.std.specs.Option.{is_some, is_none}
use Rattle.std.specs.Prelude.{unwrap_or}
use Rattle.host_block.specs.declared.range.Range.{Range}
use Rattle.host_record.specs.declared.request.Request.{Request}
use Rattle.host_record.specs.declared.status.Status.{Status}
use Rattle.host_record.specs.{NotFound, opcode, names_buffer, is_transfer}
use Rattle.host_model.specs.declared.verdict.Verdict.{Verdict}
use Rattle.host_model.specs.{Accepted, Refused, checks, first_check, is_within, judged}

-- no check failed
first_passes : (check : Bool × Status) (cs : List (Bool × Status)) → first_check (check ∷ cs) ≡ Accepted → (check.0 ≡ false) × (first_check cs ≡ Accepted)
first_passes check cs e = step check.0 check.1 (first_check cs) e
  where
    step : (b : Bool) (s : Status) (v : Verdict) → cond b (Refused s) v ≡ Accepted → (b ≡ false) × (v ≡ Accepted)
    step true s v e = absurd (cc)
    step false s v e = (refl, e)

pub all_passed : (cs : List (Bool × Status)) → first_check cs ≡ Accepted → (n : ℕ) (d : Bool × Status) → n < length cs → (get_or cs n d).0 ≡ false
all_passed [] e n d h = absurd (omega arith)
all_passed (check ∷ cs) e zero d h = (first_passes check cs e).0
all_passed (check ∷ cs) e (suc n) d h = all_passed cs ((first_passes check cs e).1) n d (omega arith)

some_where : (b : Bool) (o : Option ℕ) → (b && is_none o) ≡ false → b ≡ true → is_some o ≡ true
some_where b None e y = absurd (let z : true ≡ false = sym (ap (λ c. c && true) y) ∙ e in cc)
some_where b (Some n) e y = refl

not_false : (b c : Bool) → (b && not c) ≡ false → b ≡ true → c ≡ true
not_false b true e y = refl
not_false b false e y = absurd (let z : true ≡ false = sym (ap (λ c. c && true) y) ∙ e in cc)

module _ (range : Range) (pages : Option ℕ) (r : Request) (accepted : judged range pages r ≡ Accepted) where
  none_failed : first_check (checks range pages r) ≡ Accepted
  unfolding judged
  none_failed = accepted

  -- the buffer that it names is attached
  pub accepted_attached : names_buffer (opcode r) ≡ true → is_some pages ≡ true
  accepted_attached y = some_where (names_buffer (opcode r)) pages (all_passed (checks range pages r) none_failed 5 (true, NotFound) (lit< tt)) y

  -- and has the blocks that it names
  pub accepted_within : is_transfer (opcode r) ≡ true → is_within r.vmo_offset r.length (unwrap_or pages 0) ≡ true
  accepted_within y = not_false (is_transfer (opcode r)) (is_within r.vmo_offset r.length (unwrap_or pages 0)) (all_passed (checks range pages r) none_failed 6 (true, NotFound) (lit< tt)) y
