-- The length of a name's text.
use Rattle.std.proofs.Common.{◌≡◌, ◌∙◌, ◌<◌, take, get_or, ap, append-nil, ◌≤◌, ◌+◌, ◌*◌, ◌/◌, ◌%◌, ℕ, Bool, true, false, cond, List, [], ◌∷◌, ◌++◌, length, length-append, flat_map, codes, arith}
use Rattle.std.proofs.lemmas.Grind.{flat_map-append}
use Rattle.std.proofs.lemmas.List.{length-take-le, take_more}
use Rattle.host_text.specs.{hex_byte}
use Rattle.host_list.specs.{is_plain, unit_text}

short_unit : (u : ℕ) → length (unit_text u) ≤ 6
short_unit u = go (is_plain u)
  where
    go : (b : Bool) → length (cond b (u ∷ []) (codes "\\u" ++ hex_byte (u / 256) ++ hex_byte (u % 256))) ≤ 6
    go true = omega arith
    go false = omega arith

pub short_units : (us : List ℕ) → length (flat_map unit_text us) ≤ 6 * length us
short_units [] = omega arith
short_units (u ∷ us) = omega (arith, short_unit u, short_units us, length-append (unit_text u) (flat_map unit_text us))

-- one unit more
pub next_unit : (us : List ℕ) (i : ℕ) → i < length us → flat_map unit_text (take (i + 1) us) ≡ flat_map unit_text (take i us) ++ unit_text (get_or us i 0)
next_unit us i lt = ap (flat_map unit_text) (take_more us i 0 lt) ∙ flat_map-append unit_text (take i us) (get_or us i 0 ∷ []) ∙ ap (λ (t : List ℕ). flat_map unit_text (take i us) ++ t) (append-nil (unit_text (get_or us i 0)))

-- so far there is room for one unit more
pub has_room : (before : List ℕ) (us : List ℕ) (i : ℕ) → i < length us → length before + 6 * length us ≤ 218 → length (before ++ flat_map unit_text (take i us)) + 6 ≤ 218
has_room before us i lt room = omega (arith, short_units (take i us), length-append before (flat_map unit_text (take i us)), length-take-le i us (omega arith))
