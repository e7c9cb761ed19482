-- The blocks of an image, one after the other.
use Rattle.std.proofs.Common.{◌≡◌, ◌↔◌, ℕ, suc, ◌+◌, ◌/◌, ◌<◌, ◌≤◌, false, IsTrue, List, [], ◌∷◌, ◌++◌, length, take, drop, sym, ap, ◌∙◌, arith, length-drop, append-nil, append_assoc}
use Rattle.std.proofs.Math.Nat.{add-div_right, div-eq_of_lt}
use Rattle.host_io.specs.{cut, image_of}
use Rattle.host_report.specs.{IsLawful, Report}
use Rattle.host_check.specs.{HasNoTable}

image_of-first : (size : ℕ) (bytes : List ℕ) → 0 < size → size ≤ length bytes → image_of size bytes ≡ take size bytes ∷ image_of size (drop size bytes)
image_of-first size bytes some enough =
    let left : length (drop size bytes) + size ≡ length bytes = omega (arith, enough, length-drop size bytes) in
    let count : length bytes / size ≡ length (drop size bytes) / size + 1 = ap (λ n. n / size) (sym left) ∙ add-div_right (length (drop size bytes)) some in
    let more : length (drop size bytes) / size + 1 ≡ suc (length (drop size bytes) / size) = omega arith in
    ap (λ n. cut size n bytes) (count ∙ more)

-- one block more, as a loop makes it
pub blocks_step : (size : ℕ) (bytes rest block after : List ℕ) (list longer : List (List ℕ)) → 0 < size → size ≤ length rest → list ++ image_of size rest ≡ image_of size bytes
    → block ≡ take size rest → longer ≡ list ++ block ∷ [] → after ≡ drop size rest → longer ++ image_of size after ≡ image_of size bytes
blocks_step size bytes rest block after list longer some enough e b l a =
    ap (λ xs. longer ++ image_of size xs) a
    ∙ ap (λ xs. xs ++ image_of size (drop size rest)) (l ∙ ap (λ x. list ++ x ∷ []) b)
    ∙ append_assoc list (take size rest ∷ []) (image_of size (drop size rest))
    ∙ ap (λ xs. list ++ xs) (sym (image_of-first size rest some enough))
    ∙ e

pub blocks_end : (size : ℕ) (bytes rest : List ℕ) (list : List (List ℕ)) → length rest < size → list ++ image_of size rest ≡ image_of size bytes → list ≡ image_of size bytes
blocks_end size bytes rest list few e =
    sym (append-nil list) ∙ ap (λ xs. list ++ xs) (sym (ap (λ n. cut size n rest) (div-eq_of_lt few))) ∙ e

pub not_lawful : (image : List (List ℕ)) (report : Report) → HasNoTable image → IsTrue false ↔ IsLawful image report
not_lawful image report none = (
  λ t. absurd (cc t),
  λ h. absurd (none report.which h.on_table.disk_id h.on_table.first_usable h.on_table.last_usable h.on_table.entries h.on_table.table),
)
