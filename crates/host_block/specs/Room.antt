-- A list that takes its memory ahead.
use Rattle.std.specs.Prelude.{ℕ, ◌-◌, List, length}

-- a list, and how many elements it has room for in all
pub record WithRoom (A : Type 0) : Type 0 where
  pub items : List A
  pub room : ℕ

-- how many more elements fit
abbrev pub spare_of : {A : Type 0} → WithRoom A → ℕ
spare_of {A} l = l.room - length l.items
