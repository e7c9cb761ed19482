-- Seats that a hand has used, and the steps on one block after another.
use Rattle.std.proofs.Common.{◌≡◌, ℕ, ◌+◌, ◌≤◌, ◌<◌, true, false, Result, Ok, Err, List, [], ◌∷◌, drop, Option, refl, sym, subst, ◌∙◌, arith}
use Rattle.std.specs.Prelude.{is_err}
use Rattle.atomic_table.specs.Seated.{TableId}
use Rattle.host_block.specs.{Op, Read, Write, Trim, Flush}
use Rattle.host_device.specs.{StepError}
use Rattle.host_intake.specs.{MemorySeat}
use Rattle.host_model.specs.{MemEntry, Step}
use Rattle.host_record.specs.{Opcode}
use Rattle.host_turn.specs.{BookSeat, IsOutside, IsSameSeat}
use Rattle.host_hand.specs.{Errand, Run, HoldsFor, IsAtBuffers, IsHeld, IsOfPool, ask_at, asks_upto, HasRun, IsTransferBy}
use Rattle.host_hand.proofs.BlockAfter.{has_after, has_stopped, upto_length, upto_more, upto_rest}

module _ {S E F : Type 0} where
  pub same_refl : (a : BookSeat S E F) → IsSameSeat a a
  same_refl a = (refl, refl, refl, refl)

  pub same_trans : (a b c : BookSeat S E F) → IsSameSeat a b → IsSameSeat b c → IsSameSeat a c
  same_trans a b c p q = (q.0 ∙ p.0, q.1 ∙ p.1, q.2 ∙ p.2, q.3 ∙ p.3)

pub at_buffers : (book : TableId) (n size : ℕ) (old new : MemorySeat) → IsAtBuffers book n size old → IsSameSeat old new → IsOutside new → IsAtBuffers book n size new
at_buffers book n size old new a same out = record { book_is = same.0 ∙ a.book_is; outside = out; number_is = same.2 ∙ a.number_is; size_is = λ plan is. a.size_is plan (sym same.3 ∙ is) }

pub of_pool_still : (pool : TableId × ℕ) (old new : MemorySeat) → IsOfPool pool old → IsSameSeat old new → IsOfPool pool new
of_pool_still pool old new a same = λ plan is. a plan (sym same.3 ∙ is)

-- ---- all blocks

pub ok_is : (a : Result Unit StepError) → is_err a ≡ false → a ≡ Ok tt
ok_is (Ok x) e = refl
ok_is (Err x) e = absurd (cc e)

module _ (e : Errand) (op : Op) (k front : ℕ) (run : Run) (h mid new : List MemEntry) (s t u : List Step) (le : front ≤ run.front)
    (before : HasRun e op 0 (asks_upto e op k) (record { answer = Ok tt; front = front }) h mid s t) (now : HasRun e op k (ask_at e op k ∷ []) run mid new t u) where
  blocks_next : HasRun e op 0 (asks_upto e op (k + 1)) run h new s u
  blocks_next = subst (λ asks. HasRun e op 0 asks run h new s u) (sym (upto_more e op k))
      (has_after e op k (asks_upto e op k) (ask_at e op k ∷ []) (record { answer = Ok tt; front = front }) run tt h mid new s t u (sym (upto_length e op k)) refl le before now)

  pub blocks_more : is_err run.answer ≡ false → HasRun e op 0 (asks_upto e op (k + 1)) (record { answer = Ok tt; front = run.front }) h new s u
  blocks_more ok = subst (λ a. HasRun e op 0 (asks_upto e op (k + 1)) (record { answer = a; front = run.front }) h new s u) (ok_is run.answer ok) blocks_next

  pub blocks_stopped : (n : ℕ) → k < n → is_err run.answer ≡ true → HasRun e op 0 (asks_upto e op n) run h new s u
  blocks_stopped n lt err = at run.answer refl err
    where
      at : (a : Result Unit StepError) → run.answer ≡ a → is_err a ≡ true → HasRun e op 0 (asks_upto e op n) run h new s u
      at (Ok x) is f = absurd (cc f)
      at (Err x) is f = subst (λ asks. HasRun e op 0 asks run h new s u) (sym (upto_rest e op (k + 1) n (omega arith)))
          (has_stopped e op (asks_upto e op (k + 1)) (drop (k + 1) (asks_upto e op n)) run x h new s u is blocks_next)

-- ---- a transfer holds its buffer

pub holds_for : (e : Errand) (o : Option Opcode) (op : Op) (h : List MemEntry) → IsTransferBy o op → IsHeld e h → HoldsFor op e h
holds_for e o Read h kind held = held
holds_for e o Write h kind held = held
holds_for e o Trim h kind held = absurd kind
holds_for e o Flush h kind held = absurd kind

pub held_for : (e : Errand) (o : Option Opcode) (op : Op) (h : List MemEntry) → IsTransferBy o op → HoldsFor op e h → IsHeld e h
held_for e o Read h kind held = held
held_for e o Write h kind held = held
held_for e o Trim h kind held = absurd kind
held_for e o Flush h kind held = absurd kind
