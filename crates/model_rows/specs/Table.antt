-- Check sums, and the table of a small image: four blocks, one entry of 128 bytes, and a primary
-- header alone.
use Rattle.std.specs.Prelude.{◌≡◌, [], ◌∷◌, ℕ, List, replicate}
use Rattle.host_gpt.specs.Crc.{crc_of}
use Rattle.host_gpt.specs.Entries.{entries_from}
use Rattle.host_gpt.specs.Header.{Agrees, header_of}
use Rattle.host_gpt.specs.Table.{IsTable, IsValid, array_of}
use Rattle.host_gpt.specs.declared.which.Which.TheVariants.{Primary}

abbrev pub header_block : List ℕ
header_block = 69 ∷ 70 ∷ 73 ∷ 32 ∷ 80 ∷ 65 ∷ 82 ∷ 84 ∷ 0 ∷ 0 ∷ 1 ∷ 0 ∷ 92 ∷ 0 ∷ 0 ∷ 0 ∷ 21 ∷ 22
    ∷ 226 ∷ 54 ∷ 0 ∷ 0 ∷ 0 ∷ 0 ∷ 1 ∷ 0 ∷ 0 ∷ 0 ∷ 0 ∷ 0 ∷ 0 ∷ 0 ∷ 3 ∷ 0 ∷ 0 ∷ 0 ∷ 0 ∷ 0 ∷ 0 ∷ 0 ∷ 2
    ∷ 0 ∷ 0 ∷ 0 ∷ 0 ∷ 0 ∷ 0 ∷ 0 ∷ 2 ∷ 0 ∷ 0 ∷ 0 ∷ 0 ∷ 0 ∷ 0 ∷ 0 ∷ 9 ∷ 9 ∷ 9 ∷ 9 ∷ 9 ∷ 9 ∷ 9 ∷ 9 ∷ 9
    ∷ 9 ∷ 9 ∷ 9 ∷ 9 ∷ 9 ∷ 9 ∷ 9 ∷ 2 ∷ 0 ∷ 0 ∷ 0 ∷ 0 ∷ 0 ∷ 0 ∷ 0 ∷ 1 ∷ 0 ∷ 0 ∷ 0 ∷ 128 ∷ 0 ∷ 0 ∷ 0
    ∷ 243 ∷ 211 ∷ 2 ∷ 115 ∷ replicate 420 0

abbrev pub array_block : List ℕ
array_block = 1 ∷ 1 ∷ 1 ∷ 1 ∷ 1 ∷ 1 ∷ 1 ∷ 1 ∷ 1 ∷ 1 ∷ 1 ∷ 1 ∷ 1 ∷ 1 ∷ 1 ∷ 1 ∷ 2 ∷ 2 ∷ 2 ∷ 2 ∷ 2 ∷ 2
    ∷ 2 ∷ 2 ∷ 2 ∷ 2 ∷ 2 ∷ 2 ∷ 2 ∷ 2 ∷ 2 ∷ 2 ∷ 2 ∷ 0 ∷ 0 ∷ 0 ∷ 0 ∷ 0 ∷ 0 ∷ 0 ∷ 2 ∷ 0 ∷ 0 ∷ 0 ∷ 0 ∷ 0
    ∷ 0 ∷ 0 ∷ 0 ∷ 0 ∷ 0 ∷ 0 ∷ 0 ∷ 0 ∷ 0 ∷ 0 ∷ 97 ∷ replicate 455 0

abbrev pub image : List (List ℕ)
image = replicate 512 0 ∷ header_block ∷ array_block ∷ replicate 512 0 ∷ []

pub record TableIsRead : Type 0 where
  pub none : crc_of [] ≡ 0
  pub letter : crc_of (97 ∷ []) ≡ 0xe8b7be43
  pub digits : crc_of (49 ∷ 50 ∷ 51 ∷ 52 ∷ 53 ∷ 54 ∷ 55 ∷ 56 ∷ 57 ∷ []) ≡ 0xcbf43926
  pub zeros : crc_of (0 ∷ 0 ∷ 0 ∷ 0 ∷ []) ≡ 0x2144df1c
  pub agrees : Agrees 1 header_block
  pub array_crc_holds : (header_of header_block).array_crc
      ≡ crc_of (array_of image (header_of header_block))
  pub one_entry : entries_from 1 128 1 array_block ≡ record {
    number = 1;
    type_id = replicate 16 1;
    id = replicate 16 2;
    first = 2;
    last = 2;
    attributes = 0;
    name = 97 ∷ replicate 35 0;
  } ∷ []
  pub is_valid : IsValid image 1
  pub is_table : IsTable image Primary (replicate 16 9) 2 2 (entries_from 1 128 1 array_block)
