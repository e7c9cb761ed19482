-- Bytes and blocks as a text has them.
use Rattle.std.specs.Prelude.{◌≡◌, [], ◌∷◌, codes, replicate}
use Rattle.host_text.specs.Words.{block_word, hex, hex_byte, line}

pub record BytesArePrinted : Type 0 where
  pub low_digits : hex_byte 0xa1 ≡ codes "a1"
  pub not_upper : ¬ (hex_byte 0xa1 ≡ codes "A1")
  pub not_exchanged : ¬ (hex_byte 0xa1 ≡ codes "1a")
  pub two_digits : hex (7 ∷ 255 ∷ []) ≡ codes "07ff"
  -- a block of one byte is printed by it, another one whole
  pub same : block_word (replicate 4 7) ≡ codes "all 07"
  pub zeros : block_word (replicate 4 0) ≡ codes "all 00"
  pub differs : block_word (7 ∷ 7 ∷ 8 ∷ []) ≡ codes "070708"
  pub differs_first : block_word (8 ∷ 7 ∷ 7 ∷ []) ≡ codes "080707"
  pub words : line (codes "steps" ∷ codes "10" ∷ []) ≡ codes "steps 10\n"
