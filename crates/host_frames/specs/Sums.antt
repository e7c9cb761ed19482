-- Claim bits, and the frames that they stand for.
use Rattle.std.specs.Prelude.{ℕ, zero, suc, ◌+◌, ◌*◌, ◌/◌, ◌%◌, List, [], ◌∷◌, get_or}
use Rattle.std.specs.Int.{bit_at}

-- the claim bit of a frame: the bit j of word i is that of frame 64 i + j
abbrev pub claim_bit : List ℕ → ℕ → ℕ
claim_bit words f = bit_at (get_or words (f / 64) 0) (f % 64)

-- x before xs, unless the bit is 0
abbrev pub put_where : ℕ → ℕ → List ℕ → List ℕ
put_where zero x xs = xs
put_where (suc b) x xs = x ∷ xs

-- the frames of word i whose bits in n are set, of k bits from the bit j on
abbrev pub set_frames : ℕ → ℕ → ℕ → ℕ → List ℕ
set_frames i n j zero = []
set_frames i n j (suc k) = put_where (bit_at n j) (64 * i + j) (set_frames i n (j + 1) k)

-- the frames of word i whose bits in n are set
unfoldable pub frames_in : ℕ → ℕ → List ℕ
frames_in i n = set_frames i n 0 64
