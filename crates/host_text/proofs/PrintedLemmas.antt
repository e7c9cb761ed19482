-- Words of a line, and the words that a block is printed as.
use Rattle.std.proofs.Common.{◌≡◌, ◌==◌, ℕ, Bool, true, List, [], ◌∷◌, ◌++◌, flat_map, get_or, codes, sym, refl, ◌∙◌, ap, append_assoc, append-nil}
use Rattle.std.specs.List.{list_all}
use Rattle.host_text.specs.{Word, printed, all_printed, after_space, spaced, block_word, hex_byte, line}

-- words with a space between them and a line feed are a line
pub spaced_line : (words : List Word) → spaced words ++ 10 ∷ [] ≡ line (all_printed words)
spaced_line [] = refl
spaced_line (w ∷ []) = ap (λ (l : List ℕ). l ++ 10 ∷ []) (append-nil (printed w))
spaced_line (w ∷ v ∷ words) =
    append_assoc (printed w) (32 ∷ (printed v ++ flat_map after_space words)) (10 ∷ [])
    ∙ ap (λ (l : List ℕ). printed w ++ 32 ∷ l) (spaced_line (v ∷ words))

pub block_word_same : (bytes : List ℕ) (b : ℕ) (t : Bool) → b ≡ get_or bytes 0 0 → t ≡ list_all (λ c. c == b) bytes → t ≡ true
    → block_word bytes ≡ codes "all " ++ hex_byte b
block_word_same bytes b t first all same =
    let e : list_all (λ c. c == get_or bytes 0 0) bytes ≡ true = ap (λ (d : ℕ). list_all (λ c. c == d) bytes) (sym first) ∙ (sym all ∙ same) in
    rw (e, first) refl
