-- The rule of the answer ring: what all senders pushed is what was taken and then what the ring
-- holds.
use Rattle.std.specs.Prelude.{◌≡◌, ℕ, ◌<◌, ◌≤◌, true, List, ◌++◌, length}
use mathlib.Core.Option.{some}
use lib.ListN.{get_elem?}
use Rattle.host_rings.specs.declared.slip.Slip.{Slip}
use Rattle.host_rings.specs.declared.answer_view.AnswerView.{AnswerView}
use Rattle.host_rings.specs.Slips.{Marked, slips, slips_sent_by, AllBelow, IsAmong}

-- a sender's pass is the only one with its number, and knows what it pushed. It isn't closed
pub record SenderKnows (seat : ℕ → ℕ) (senders closed : ℕ) (marked : List Marked) (pass : ℕ)
    (v : AnswerView) : Type 0 where
  pub has_seat : seat v.number ≡ pass
  pub was_made : v.number < senders
  pub is_open : closed ≤ v.number
  pub has_pushed : v.pushed ≡ slips_sent_by v.number marked

-- the taker's pass is the only one that pops. It knows how many senders were made, what the closed
-- ones pushed and what was taken, and what it heard to be pushed was pushed
pub record TakerKnows (reader senders : ℕ) (closed : List (List Slip)) (left marked : List Marked)
    (pass : ℕ) (v : AnswerView) : Type 0 where
  pub is_reader : pass ≡ reader
  pub has_senders : v.senders ≡ senders
  pub has_closed : v.closed ≡ closed
  pub has_taken : v.taken ≡ slips left
  pub heard_pushed : IsAmong v.heard (slips marked)

-- what a pass knows, by what it may do
pub record FitsAnswers (reader : ℕ) (seat : ℕ → ℕ) (senders : ℕ) (closed : List (List Slip))
    (left marked : List Marked) (pass : ℕ) (v : AnswerView) : Type 0 where
  pub sends : v.pushes ≡ true → SenderKnows seat senders (length closed) marked pass v
  pub takes : v.pops ≡ true → TakerKnows reader senders closed left marked pass v

-- what was pushed, each slip with its sender, is what left the ring and then what it holds. The
-- senders that are closed are the first ones, and pushed no more
pub record InTurn (items : List Slip) (views : List AnswerView) : Type 0 where
  pub reader : ℕ
  pub seat : ℕ → ℕ
  pub senders : ℕ
  pub closed : List (List Slip)
  pub left : List Marked
  pub held : List Marked
  pub held_is : slips held ≡ items
  pub of_senders : AllBelow senders (left ++ held)
  pub few_closed : length closed ≤ senders
  pub closed_pushed : (k : ℕ) (pushed : List Slip) → get_elem? closed k ≡ some pushed
      → pushed ≡ slips_sent_by k (left ++ held)
  pub fitting : (pass : ℕ) (v : AnswerView) → get_elem? views pass ≡ some v
      → FitsAnswers reader seat senders closed left (left ++ held) pass v

-- the slips of the sender k among what left the ring and what it holds are what it pushed
abbrev pub HoldsAfter : ℕ → List Slip → List Slip → Type 0
HoldsAfter k pushed items =
    (left : List Marked) × (held : List Marked) × (slips held ≡ items)
    × (pushed ≡ slips_sent_by k (left ++ held))

-- what was heard to be pushed stands in what was taken and what the ring holds
abbrev pub AllThere : List Slip → List Slip → List Slip → Type 0
AllThere taken heard items = IsAmong heard (taken ++ items)
