-- The pieces of shows, as they are taken.
use Rattle.std.proofs.Common.{◌≡◌, ℕ, List, [], ◌∷◌, ◌++◌, length, map, reverse, Option, Some, None, refl, sym, ap, ◌∙◌, arith, length-append}
use Rattle.std.specs.List.{cons_option}
use Rattle.std.proofs.lemmas.List.{map-append}
use Rattle.script_model.specs.{ScriptLine}
use Rattle.host_play.specs.{ArePieces, IsNextPiece, WasTaken, piece_length, piece_lengths}
use Rattle.host_play.proofs.Reversed.{ends_with, reverse_cons}

-- the last piece is the next line's
next_for : (size : ℕ) (rest : List ScriptLine) (pieces : List (List ℕ)) (o : Option ℕ) → map (λ (piece : List ℕ). length piece) pieces ≡ reverse (cons_option o (piece_lengths size rest)) → IsNextPiece o pieces
next_for size rest pieces None h = tt
next_for size rest pieces (Some n) h =
    let e = ends_with (λ (piece : List ℕ). length piece) pieces (reverse (piece_lengths size rest)) n (h ∙ reverse_cons n (piece_lengths size rest)) in
    (e.rest, e.last, e.is, e.last_is)

pub next_piece : (size : ℕ) (line : ScriptLine) (rest : List ScriptLine) (pieces : List (List ℕ)) → ArePieces size (line ∷ rest) pieces → IsNextPiece (piece_length size line) pieces
next_piece size line rest pieces h = next_for size rest pieces (piece_length size line) h

-- two lists that are the same with one element more each
front_same : (xs ys : List ℕ) (x y : ℕ) → xs ++ x ∷ [] ≡ ys ++ y ∷ [] → xs ≡ ys
front_same [] [] x y h = refl
front_same [] (b ∷ ys) x y h = absurd (let n = ap (λ (l : List ℕ). length l) h in omega (arith, n, length-append ys (y ∷ [])))
front_same (a ∷ xs) [] x y h = absurd (let n = ap (λ (l : List ℕ). length l) h in omega (arith, n, length-append xs (x ∷ [])))
front_same (a ∷ xs) (b ∷ ys) x y h =
    let first : a ≡ b = cc h in
    ap (λ (n : ℕ). n ∷ xs) first ∙ ap (λ l. b ∷ l) (front_same xs ys x y (cc h))

-- the others are those of the other lines
left_for : (size : ℕ) (rest : List ScriptLine) (old new : List (List ℕ)) (o : Option ℕ) → map (λ (piece : List ℕ). length piece) old ≡ reverse (cons_option o (piece_lengths size rest)) → WasTaken o old new → ArePieces size rest new
left_for size rest old new None h same = ap (map (λ (piece : List ℕ). length piece)) same ∙ h
left_for size rest old new (Some n) h taken =
    let f : List ℕ → ℕ = λ piece. length piece in
    let lengths : map f new ++ length taken.0 ∷ [] ≡ reverse (piece_lengths size rest) ++ n ∷ [] =
    sym (map-append f new (taken.0 ∷ [])) ∙ ap (map f) (sym taken.1) ∙ h ∙ reverse_cons n (piece_lengths size rest) in
    front_same (map f new) (reverse (piece_lengths size rest)) (length taken.0) n lengths

pub left_pieces : (size : ℕ) (line : ScriptLine) (rest : List ScriptLine) (old new : List (List ℕ)) → ArePieces size (line ∷ rest) old → WasTaken (piece_length size line) old new → ArePieces size rest new
left_pieces size line rest old new h taken = left_for size rest old new (piece_length size line) h taken
