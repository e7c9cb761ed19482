-- Claims: what each asked for, won and found taken.
use Rattle.std.specs.Prelude.{◌⊎◌, ℕ, ◌+◌, ◌<◌, ◌≤◌, List, [], ◌∷◌, length}
use Rattle.host_frames.specs.declared.view.Claim.{Claim}
use Rattle.host_log.specs.Sums.{total, occurrences}

-- how often a frame was won by the claims
abbrev pub won_by : ℕ → List Claim → ℕ
won_by f cs = total (λ c. occurrences f c.won) cs

-- how often they found it taken
abbrev pub taken_by : ℕ → List Claim → ℕ
taken_by f cs = total (λ c. occurrences f c.taken) cs

-- how many frames they asked for
abbrev pub frames_in_claims : List Claim → ℕ
frames_in_claims cs = total (λ c. c.asked) cs

-- how often the claim has won a frame or found it taken
abbrev pub times_met : ℕ → Claim → ℕ
times_met f c = occurrences f c.won + occurrences f c.taken

-- the claim has won each frame below a number, or found it taken
abbrev pub Covers : ℕ → Claim → Type 0
Covers n c = (f : ℕ) → f < n → 1 ≤ times_met f c

-- it won no more than it asked for
abbrev pub IsFair : Claim → Type 0
IsFair c = length c.won ≤ c.asked

abbrev pub AreFair : List Claim → Type 0
AreFair [] = Unit {0}
AreFair (c ∷ cs) = IsFair c × AreFair cs

-- the claim went over all frames of the pool, and got too few
abbrev pub IsClaimRefused : ℕ → Claim → Type 0
IsClaimRefused frames c = Covers frames c × (length c.won < c.asked)

abbrev pub SomeIsRefused : ℕ → List Claim → Type 0
SomeIsRefused frames [] = ⊥
SomeIsRefused frames (c ∷ cs) = IsClaimRefused frames c ⊎ SomeIsRefused frames cs
