-- The bytes of the sample images.
use Rattle.std.specs.Prelude.{ℕ, ◌-◌, ◌*◌, ◌%◌, List, [], ◌∷◌, ◌++◌, length, replicate}
use Rattle.std.specs.List.{flat_map, range_with_len}
use Rattle.byteorder.specs.Endian.{little_bytes}
use Rattle.host_gpt.specs.Crc.{crc_of}
use Rattle.host_gpt.specs.declared.sample.Place.{Place}
use Rattle.host_gpt.specs.declared.sample.Fill.{Fill}
use Rattle.host_gpt.specs.declared.sample.Fill.TheVariants.{Zero, Number}
use Rattle.host_gpt.specs.declared.sample.TheConstants.{DISK_ID, TYPE_ID}

-- n times the same byte
unfoldable pub filled : ℕ → ℕ → List ℕ
filled n byte = replicate n byte

-- ASCII as units of UTF-16
abbrev pub wide : List ℕ → List ℕ
wide text = flat_map (λ c. c ∷ 0 ∷ []) text

-- an entry of 128 bytes, whose GUID has the same byte 16 times
unfoldable pub sample_entry : ℕ → ℕ → ℕ → List ℕ → List ℕ
sample_entry id first last name =
    TYPE_ID ++ filled 16 id ++ little_bytes 8 first ++ little_bytes 8 last ++ filled 8 0
    ++ wide name ++ filled (72 - 2 * length name) 0

-- the parts of a header: signature, revision, size, CRC and reserved bytes; then where it and the
-- other header stand, and the usable blocks; then the id of the disk, and where the array stands,
-- its entries and its CRC
unfoldable pub header_start : ℕ → List ℕ
header_start crc =
    (69 ∷ 70 ∷ 73 ∷ 32 ∷ 80 ∷ 65 ∷ 82 ∷ 84 ∷ []) ++ little_bytes 4 0x10000 ++ little_bytes 4 92
    ++ little_bytes 4 crc ++ little_bytes 4 0

unfoldable pub header_blocks : Place → List ℕ
header_blocks h =
    little_bytes 8 h.header ++ little_bytes 8 h.other ++ little_bytes 8 34
    ++ little_bytes 8 h.last_usable

unfoldable pub header_array : Place → List ℕ
header_array h =
    DISK_ID ++ little_bytes 8 h.array ++ little_bytes 4 128 ++ little_bytes 4 128
    ++ little_bytes 4 h.array_crc

-- the 92 bytes of a header with this CRC
unfoldable pub header_with : ℕ → Place → List ℕ
header_with crc h = header_start crc ++ header_blocks h ++ header_array h

-- the block of a header: its CRC is taken with zero in its own place
abbrev pub header_block : Place → List ℕ
header_block h = header_with (crc_of (header_with 0 h)) h ++ filled 420 0

-- where the two headers of an image stand whose last block is this one
abbrev pub primary_place : ℕ → ℕ → Place
primary_place last crc =
    record { header = 1; other = last; array = 2; last_usable = last - 33; array_crc = crc }

abbrev pub backup_place : ℕ → ℕ → Place
backup_place last crc =
    record { header = last; other = 1; array = last - 32; last_usable = last - 33; array_crc = crc }

-- the byte that a usable block is filled with
abbrev pub byte_of : Fill → ℕ → ℕ
byte_of Zero b = 0
byte_of Number b = b % 256

-- n blocks from this one on
abbrev pub usable_blocks : Fill → ℕ → ℕ → List ℕ
usable_blocks fill b n = flat_map (λ k. filled 512 (byte_of fill k)) (range_with_len b n)

-- an image of 512-byte blocks up to this last one, with this entry array at both ends
unfoldable pub image_with : ℕ → Fill → List ℕ → List ℕ
image_with last fill array =
    filled 512 0 ++ header_block (primary_place last (crc_of array)) ++ array
    ++ usable_blocks fill 34 (last - 66) ++ array ++ header_block (backup_place last (crc_of array))

-- The base image: 128 blocks, and two partitions. Each usable block (34 to 94) is filled with its
-- own number.
abbrev pub base_bytes : List ℕ
base_bytes =
    image_with 127 Number (sample_entry 0x11 34 63 (97 ∷ 108 ∷ 112 ∷ 104 ∷ 97 ∷ [])
    ++ sample_entry 0x22 64 94 (98 ∷ 101 ∷ 116 ∷ 97 ∷ []) ++ filled 16128 0)

-- The large image: 131,072 blocks, and one partition.
abbrev pub large_bytes : List ℕ
large_bytes =
    image_with 131071 Zero
    (sample_entry 0x11 2048 131038 (114 ∷ 111 ∷ 111 ∷ 116 ∷ []) ++ filled 16256 0)
