-- Lists of slips, and the senders that they come from.
use Rattle.std.specs.Prelude.{◌≡◌, ℕ, ◌<◌, ◌≤◌, Bool, cond, eqb, List, [], ◌∷◌, length, map, ⊤}
use Rattle.std.specs.List.{count_by}
use Rattle.host_block.specs.Lists.{IsPrefix}
use Rattle.host_rings.specs.declared.slip.Slip.{Slip}
use Rattle.host_rings.specs.Places.{EachPlace}

-- a slip with the number of the sender that pushed it
abbrev pub Marked : Type 0
Marked = ℕ × Slip

abbrev pub slips : List Marked → List Slip
slips ms = map (λ m. m.1) ms

-- the slips of the sender k, in order
abbrev pub slips_sent_by : ℕ → List Marked → List Slip
slips_sent_by k [] = []
slips_sent_by k (m ∷ ms) = cond (eqb m.0 k) (m.1 ∷ slips_sent_by k ms) (slips_sent_by k ms)

-- each slip is of one of the first n senders
abbrev pub AllBelow : ℕ → List Marked → Type 0
AllBelow n [] = ⊤
AllBelow n (m ∷ ms) = (m.0 < n) × AllBelow n ms

-- each of these slips is of a sender, and what each sender pushed begins with those of its slips
-- that are here
abbrev pub ComeFrom : List (List Slip) → List Slip → Type 0
ComeFrom lists taken =
    (marked : List Marked) × (slips marked ≡ taken) × AllBelow (length lists) marked
    × EachPlace (λ k pushed. IsPrefix (slips_sent_by k marked) pushed) lists

-- each slip stands in the second list at least as often as in the first, by every test
abbrev pub IsAmong : List Slip → List Slip → Type 0
IsAmong few many = (test : Slip → Bool) → count_by test few ≤ count_by test many
