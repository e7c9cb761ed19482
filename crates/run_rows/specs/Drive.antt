-- A small disk: five blocks of 512 bytes, of which the last two are its only partition.
use Rattle.std.specs.Prelude.{ℕ, List, [], ◌∷◌, ◌++◌, codes, replicate}

-- a block with the same byte all over
abbrev pub cells : ℕ → List ℕ
cells byte = replicate 512 byte

-- a number below 256 in four bytes and in eight, the lowest first
abbrev pub four : ℕ → List ℕ
four n = n ∷ replicate 3 0

abbrev pub eight : ℕ → List ℕ
eight n = n ∷ replicate 7 0

-- The header in block 1: signature, revision, size and CRC; where it stands, and that there is no
-- other; the usable blocks are 3 and 4; the id of the disk; an array of one entry in block 2, with
-- its CRC.
abbrev pub header : List ℕ
header =
    codes "EFI PART" ++ (0 ∷ 0 ∷ 1 ∷ 0 ∷ []) ++ four 92 ++ (191 ∷ 226 ∷ 24 ∷ 50 ∷ []) ++ four 0
    ++ eight 1 ++ eight 0 ++ eight 3 ++ eight 4 ++ replicate 16 9 ++ eight 2 ++ four 1 ++ four 128
    ++ (38 ∷ 232 ∷ 234 ∷ 135 ∷ []) ++ replicate 420 0

-- The entry: its type and its id, blocks 3 to 4, no attributes, the name a.
abbrev pub array : List ℕ
array =
    replicate 16 1 ++ replicate 16 2 ++ eight 3 ++ eight 4 ++ eight 0 ++ eight 97 ++ replicate 448 0

-- with these bytes in the two blocks of the partition
abbrev pub image_of : List ℕ → List ℕ → List (List ℕ)
image_of first second = cells 0 ∷ header ∷ array ∷ first ∷ second ∷ []

abbrev pub image : List (List ℕ)
image = image_of (cells 0) (cells 0)
