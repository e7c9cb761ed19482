-- A close that waited asks for nothing and does nothing to its buffer but close it.
use Rattle.std.proofs.Common.{◌≡◌, ℕ, suc, Bool, true, false, cond, List, [], ◌∷◌, filter, length, Option, Some, None, refl, ap, ◌∙◌}
use Rattle.std.specs.List.{slice_get}
use Rattle.host_block.specs.declared.range.Range.{Range}
use Rattle.host_record.specs.{Opcode, Read, Write, Flush, Trim, Close, is_close, opcode}
use Rattle.host_record.specs.declared.status.Status.{Status}
use Rattle.host_model.specs.{MemEntry, MemEvent, Step, Accepted, Refused, asked, asked_by}
use Rattle.host_model.specs.declared.memory.MemEvent.TheVariants as mem
use Rattle.host_model.specs.declared.verdict.Verdict.{Verdict}
use Rattle.host_memory.specs.{closer_by, closer_of, events}
use Rattle.host_intake.specs.{Taking, place_of, request_in, made, made_for, made_under}
use Rattle.host_session.specs.{moves_by, moves_owed}
use Rattle.session_law.proofs.Closers.{IsClosing}
use Rattle.session_law.proofs.Places.{found_at}
use Rattle.session_law.proofs.Released.{closer_is, entry_at}

close_asks : (v : Verdict) (o : Option Opcode) → v ≡ Accepted → is_close o ≡ true → o ≡ Some Close
close_asks v None a e = absurd (cc)
close_asks v (Some Read) a e = absurd (cc)
close_asks v (Some Write) a e = absurd (cc)
close_asks v (Some Flush) a e = absurd (cc)
close_asks v (Some Trim) a e = absurd (cc)
close_asks v (Some Close) a e = refl

pub waits_made : (t : Taking) (v : ℕ) → IsClosing v (request_in t) t.verdict → t.waits ≡ true → length (made t) ≡ 1
waits_made t v c w = step t.verdict (opcode (request_in t)) t.waits c.accepted c.close w
  where
    step : (d : Verdict) (o : Option Opcode) (b : Bool) → d ≡ Accepted → is_close o ≡ true → b ≡ true → length (made_under d (made_for o (place_of t) (request_in t).vmoid t.hand b)) ≡ 1
    step (Refused s) o b e f k = absurd (cc)
    step Accepted None b e f k = absurd (cc)
    step Accepted (Some Read) b e f k = absurd (cc)
    step Accepted (Some Write) b e f k = absurd (cc)
    step Accepted (Some Flush) b e f k = absurd (cc)
    step Accepted (Some Trim) b e f k = absurd (cc)
    step Accepted (Some Close) false e f k = absurd (cc)
    step Accepted (Some Close) true e f k = refl

pub asks_nothing : (t : Taking) (part : Range) (v : ℕ) → IsClosing v (request_in t) t.verdict → asked t.verdict part (request_in t) ≡ []
asks_nothing t part v c =
    ap (λ d. asked d part (request_in t)) c.accepted
    ∙ ap (λ o. asked_by o part (request_in t)) (close_asks t.verdict (opcode (request_in t)) c.accepted c.close)

pub owes_nothing : (t : Taking) (v : ℕ) (st : Status) (i : ℕ) (steps : List Step) (own : List MemEvent) → IsClosing v (request_in t) t.verdict → moves_owed t.verdict st i (request_in t) steps own ≡ []
owes_nothing t v st i steps own c =
    ap (λ d. moves_owed d st i (request_in t) steps own) c.accepted
    ∙ ap (λ o. moves_by o st i (request_in t) steps own) (close_asks t.verdict (opcode (request_in t)) c.accepted c.close)

-- the close that a buffer's closer names
pub closer_place : (v i : ℕ) (w : List MemEntry) → closer_of v (events w) ≡ Some i → (n : ℕ) × (e : MemEntry) × (slice_get w n ≡ Some e) × (e.what ≡ mem.Close i v)
closer_place v i w closed =
    let r = found_at (closer_by v) (events w) 0 i closed in
    let e = entry_at w r.0 r.1 r.2 in
    (r.0, e.0, e.1, e.2 ∙ closer_is v i r.1 r.3)

pub none_of : (p : Step → Bool) (xs : List Step) → ((n : ℕ) (x : Step) → slice_get xs n ≡ Some x → p x ≡ true → ⊥) → filter p xs ≡ []
none_of p [] h = refl
none_of p (x ∷ xs) h = step (p x) refl (none_of p xs (λ n y at is. h (suc n) y at is))
  where
    step : (b : Bool) → p x ≡ b → filter p xs ≡ [] → cond b (x ∷ filter p xs) (filter p xs) ≡ []
    step true e r = absurd (h 0 x refl e)
    step false e r = r
