-- What taking a record left stands below the front of the record's end.
use Rattle.std.proofs.Common.{◌≡◌, ℕ, zero, suc, ◌+◌, ◌≤◌, ◌<◌, List, [], ◌∷◌, length, take, drop, Option, Some, ap, ap₂, arith, length-drop}
use mathlib.Core.List.{IsPrefix}
use Rattle.host_block.specs.declared.range.Range.{Range}
use Rattle.host_model.specs.{MemEntry, Accepted, Refused}
use Rattle.host_record.specs.{Opcode, opcode}
use Rattle.host_record.specs.declared.opcode.Opcode.TheVariants as opcode
use Rattle.host_record.specs.declared.status.Status.{Status}
use Rattle.host_intake.specs.{RecordEnd, Taking, place_of, request_in, IsJudged, made, made_for, made_under}
use Rattle.host_session.specs.{SessionSpec}
use Rattle.host_hand.specs.{Work, IsFor, IsPastBuffers, work_verdict}
use Rattle.host_hand.specs.declared.work.Work.TheVariants as work
use Rattle.host_log.proofs.Places.{longer_length}
use Rattle.host_intake.proofs.Judging.{length_left}

take_within : {A : Type 0} (m : ℕ) (xs : List A) → length (take m xs) ≤ length xs
take_within zero xs = omega arith
take_within (suc m) [] = omega arith
take_within (suc m) (x ∷ xs) = let ih = take_within m xs in omega arith

pub judged_room : (part : Range) (number : ℕ) (h : List MemEntry) (t : Taking) → IsJudged part number h t → t.seen + length (made t) ≤ length h
judged_room part number h t j = omega (arith, ap length j.left, length_left number t, take_within (length (made t)) (drop t.seen h), length-drop t.seen h, j.seen)

none_made : (t : Taking) (status : Status) → t.verdict ≡ Refused status → made t ≡ []
none_made t status is = ap (λ v. made_under v (made_for (opcode (request_in t)) (place_of t) (request_in t).vmoid t.hand t.waits)) is

pub made_as : (t : Taking) (o : Option Opcode) → opcode (request_in t) ≡ o → t.verdict ≡ Accepted → made t ≡ made_for o (place_of t) (request_in t).vmoid t.hand t.waits
made_as t o is v = ap₂ (λ a b. made_under a (made_for b (place_of t) (request_in t).vmoid t.hand t.waits)) v is

pub taking_below : (spec : SessionSpec) (number : ℕ) (h h' : List MemEntry) (t : Taking) (w : Work) (end : RecordEnd) → IsPrefix h h' → IsJudged spec.part number h t → t.verdict ≡ work_verdict w → IsFor (opcode (request_in t)) w → IsPastBuffers w end h'
    → (k : ℕ) → k < length (made t) → t.seen + k < end.memory_front
taking_below spec number h h' t (work.Refuse status) end b j v is past k less = absurd (let none = ap length (none_made t status v) in omega arith)
taking_below spec number h h' t (work.Close pages) end b j v is past k less = let room = judged_room spec.part number h t j in let longer = longer_length h h' b in omega (arith, past)
taking_below spec number h h' t work.Read end b j v is past k less = let room = judged_room spec.part number h t j in let longer = longer_length h h' b in omega (arith, past)
taking_below spec number h h' t work.Write end b j v is past k less = let room = judged_room spec.part number h t j in let longer = longer_length h h' b in omega (arith, past)
taking_below spec number h h' t work.Trim end b j v is past k less = absurd (let none = ap length (made_as t (Some opcode.Trim) is v) in omega arith)
taking_below spec number h h' t work.Flush end b j v is past k less = absurd (let none = ap length (made_as t (Some opcode.Flush) is v) in omega arith)
