-- The rule of the cells: each closed instance ends once, with what its members come to. The number
-- g has the words 5g to 5g+4: left, error, device front, memory front, closing. Left is the number
-- of unsettled members, 128 where the instance is closed, and 256 for each member.
use Rattle.std.specs.Prelude.{◌≡◌, ℕ, ◌+◌, ◌*◌, ◌^◌, ◌<◌, ◌≤◌, List, length, get_or}
use mathlib.Core.Option.{some}
use lib.ListN.{get_elem?}
use Rattle.atomic_table.specs.Table.{State}
use Rattle.host_group.specs.declared.view.View.{View}
use Rattle.host_group.specs.declared.view.Member.{Member}
use Rattle.host_group.specs.declared.view.Stage.{Stage}
use Rattle.host_group.specs.declared.view.Stage.TheVariants.{Looked, Placed, Right, Spent}
use Rattle.host_group.specs.Failures.{no_failure}
use Rattle.host_group.specs.Views.{where_in, members_closing, is_beyond, name_of, IsRising}
use Rattle.host_log.specs.Sums.{total}
use Rattle.host_group.specs.Tallies.{Tally, nothing, rows_tally, tally, weight}

-- the words of one number
pub record Cell : Type 0 where
  pub left : ℕ
  pub error : ℕ
  pub device_front : ℕ
  pub memory_front : ℕ
  pub closing : ℕ

abbrev pub cell : List ℕ → ℕ → Cell
cell ws g =
    record {
      left = get_or ws (5 * g) 0;
      error = get_or ws (5 * g + 1) 0;
      device_front = get_or ws (5 * g + 2) 0;
      memory_front = get_or ws (5 * g + 3) 0;
      closing = get_or ws (5 * g + 4) 0;
    }

-- a word that folds numbers is what they come to, until it is taken out
abbrev pub Folds : ℕ → ℕ → ℕ → ℕ → ℕ → Type 0
Folds empty out word whole taken =
    (out ≡ 0 → word ≡ whole) × (out ≡ 1 → (word ≡ empty) × (taken ≡ whole))

-- the instance that members are admitted to and settle in the claim is 1 where the admitting seat
-- has looked, and 2 where it put the name of its member into the closing word
pub record IsCellCurrent (c : Cell) (claim name : ℕ) (t : Tally) : Type 0 where
  pub left : c.left ≡ t.unsettled + 128 * t.closers + 256 * t.rows
  pub few : t.unsettled < 128
  pub many : t.rows < 2 ^ 32
  pub single : t.closers ≤ 1
  pub error : Folds no_failure t.error_out c.error t.error t.end_error
  pub device_front : Folds 0 t.device_front_out c.device_front t.device_front t.end_device_front
  pub memory_front : Folds 0 t.memory_front_out c.memory_front t.memory_front t.end_memory_front
  pub closing : t.closers ≡ 1 → Folds 0 t.closing_out c.closing t.closing t.end_closing
  -- once all members of a closed instance have settled, one row is ending
  pub due : t.closers ≡ 1 → t.unsettled ≡ 0 → t.ending ≡ 1
  pub idle : 0 < t.unsettled → t.ending ≡ 0
  pub early : t.closers ≡ 0 → t.ending ≡ 0
  pub ended : t.ended ≡ 0
  pub count : t.ending ≡ 1 → t.end_count ≡ t.rows
  pub claimed : 0 < claim → t.closers ≡ 0
  pub named : claim ≡ 2 → c.closing ≡ name

-- an instance that has ended
pub record IsInstanceOver (t : Tally) : Type 0 where
  pub unsettled : t.unsettled ≡ 0
  pub ending : t.ending ≡ 0
  pub closers : t.closers ≡ 1
  pub ended : t.ended ≡ 1
  pub count : t.end_count ≡ t.rows
  pub error : t.end_error ≡ t.error
  pub device_front : t.end_device_front ≡ t.device_front
  pub memory_front : t.end_memory_front ≡ t.memory_front
  pub closing : t.end_closing ≡ t.closing

-- of the instances of a number the first ones are over, and the one after these is the current one
pub record IsInstance (c : Cell) (now j claim name : ℕ) (t : Tally) : Type 0 where
  pub over : j < now → IsInstanceOver t
  pub current : j ≡ now → IsCellCurrent c claim name t
  pub later : now < j → (t ≡ nothing) × (claim ≡ 0)

-- 1 where the stage is one of the admitting seat
abbrev pub is_admitting : Stage → ℕ
is_admitting Right = 0
is_admitting Spent = 0
is_admitting _ = 1

abbrev pub claim_of : Stage → ℕ
claim_of Looked = 1
claim_of Placed = 2
claim_of _ = 0

abbrev pub claim : ℕ → ℕ → View → ℕ
claim g j v = where_in g j v.row.member (claim_of v.stage) 0

-- the rule
pub record OneEnd (s : State (Unit {0}) View) : Type 0 where
  -- the admitting seat is the first, and for each number so many instances are over
  pub admitting : View
  pub now : ℕ → ℕ
  pub here : get_elem? s.views 0 ≡ some admitting
  pub admits : is_admitting admitting.stage ≡ 1
  pub size : length s.words ≡ 40
  pub each : (g j : ℕ) → g < 8
      → IsInstance (cell s.words g) (now g) j (claim g j admitting) (name_of admitting.row.member)
      (tally g j s.views)
  -- the rows in the views are the members that were admitted
  pub counted : (φ : Member → ℕ) → total φ admitting.admitted ≡ total (weight φ) s.views
  pub order : (g : ℕ) → g < 8
      → members_closing g admitting.admitted ≡ now g + (tally g (now g) s.views).closers
  -- a right comes back once it was used
  pub back : (g j : ℕ)
      → ((rows_tally g j admitting.back).unsettled ≡ 0)
      × ((rows_tally g j admitting.back).ending ≡ 0)
  pub rising : IsRising admitting.admitted 0 admitting.next
  pub bound : admitting.next < 2 ^ 32
  pub room : length admitting.admitted ≤ length admitting.back + 64
  pub small : total is_beyond admitting.admitted ≡ 0
