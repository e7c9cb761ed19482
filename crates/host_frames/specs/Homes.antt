-- Pages and slots while a page is at home.
use Rattle.std.specs.Prelude.{◌≡◌, ℕ, ◌+◌, List, [], ◌∷◌, replicate, Option, Some, None, Vec}
use Rattle.std.specs.declared.alloc.Global.{Global}

-- a page of n bytes that are all zero
abbrev pub IsBlankPage : ℕ → Vec ℕ Global → Type 0
IsBlankPage n p = p.items ≡ replicate n 0

-- a slot with such a page
abbrev pub IsBlankSlot : ℕ → Option (Vec ℕ Global) → Type 0
IsBlankSlot n o = (p : Vec ℕ Global) × (o ≡ Some p) × IsBlankPage n p

-- how many of the slots have their page
abbrev pub pages_at_home : {P : Type 0} → List (Option P) → ℕ
pages_at_home [] = 0
pages_at_home (Some p ∷ xs) = 1 + pages_at_home xs
pages_at_home (None ∷ xs) = pages_at_home xs
