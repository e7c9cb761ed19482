-- Whether a history is legal, by a test at each of its places.
use Rattle.std.proofs.Common.{◌≡◌, ℕ, ◌<◌, Bool, true, not, ◌&&◌, IsTrue, List, length, Option, slice_get, subst}
use Rattle.std.proofs.lemmas.Option.{slice_get_within}
use Rattle.std.proofs.lemmas.Slice.Eq.{bytes_eq-Decides}
use Rattle.std.specs.List.{list_all}
use Rattle.std.specs.Option.{option_map_or}
use Rattle.std.specs.Str.{bytes_eq}
use Rattle.host_block.specs.{Change, IsLegal, content, is_read}
use Rattle.host_model.specs.{below, implies}
use Rattle.host_model.proofs.ListTests.{implied, tested_below}

-- whether the entry at this place is no good read, or has the content of its block
abbrev pub reads_content : List (List ℕ) → List Change → ℕ → Bool
reads_content image history p =
    option_map_or (λ c.
    implies (is_read c.op && not c.faulted) (bytes_eq c.bytes (content image history p c.block)))
    (slice_get history p) true

pub legal-from : (image : List (List ℕ)) (history : List Change)
    → list_all (reads_content image history) (below (length history)) ≡ true → IsLegal image history
legal-from image history e p c at good =
    let within : p < length history = slice_get_within history p c at in
    let here : IsTrue (reads_content image history p) =
    tested_below (reads_content image history) (length history) e p within in
    let test : Option Change → Bool =
    λ found. option_map_or (λ c.
    implies (is_read c.op && not c.faulted)
    (bytes_eq c.bytes (content image history p c.block))) found true in
    let same : IsTrue (bytes_eq c.bytes (content image history p c.block)) =
    implied (is_read c.op && not c.faulted) _ (subst (λ found.
    IsTrue (test found)) at here) good in
    (bytes_eq-Decides c.bytes (content image history p c.block)).0 same
