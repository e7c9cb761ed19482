-- What is found at one header.
use Rattle.std.proofs.Common.{◌≡◌, ℕ, List, length, sym, ◌∙◌, ap, subst, Option, Some, None, MatchOption}
use Rattle.host_block.specs.{block_at}
use Rattle.host_gpt.specs.{crc_of, entries_from, Agrees, IsLarge, header_of, FindsTable, IsHeaderAt, HeaderAt, IsArrayInside, IsReadAt, IsValid, array_of, header_at, Large, Neither, Entry, Which}
use Rattle.host_gpt.specs.declared.header.Header.{Header}

pub header_parsed : (image : List (List ℕ)) (p : ℕ) (block : List ℕ) (found : Option Header) → block ≡ block_at image p → MatchOption found (¬ Agrees p block) (λ header. Agrees p block × (header ≡ header_of block)) → HeaderAt image p found
header_parsed image p block None is says = subst (λ (b : List ℕ). ¬ Agrees p b) is says
header_parsed image p block (Some header) is says = record {
  agrees = subst (λ (b : List ℕ). Agrees p b) is says.0;
  fields = says.1 ∙ ap (λ (b : List ℕ). header_of b) is;
}

pub finds_none : (image : List (List ℕ)) (p : ℕ) (which : Which) → (¬ Agrees p (block_at image p)) → FindsTable image p which Neither
finds_none image p which none = (λ v. none v.agrees, λ v. none v.agrees)

pub finds_large : (image : List (List ℕ)) (p : ℕ) (which : Which) (header : Header) → IsHeaderAt image p header → IsLarge header → FindsTable image p which Large
finds_large image p which header at large = record { agrees = at.agrees; large = subst (λ (h : Header). IsLarge h) at.fields large }

-- where the array lies, of an image of so many blocks of this size
inside_at : (image : List (List ℕ)) (p blocks size : ℕ) (header : Header) → IsHeaderAt image p header → length image ≡ blocks → length (block_at image p) ≡ size → IsArrayInside (length image) (length (block_at image p)) (header_at image p) ≡ IsArrayInside blocks size header
inside_at image p blocks size header at count long = λ i. IsArrayInside (count i) (long i) (sym at.fields i)

pub finds_outside : (image : List (List ℕ)) (p blocks size : ℕ) (which : Which) (header : Header) → IsHeaderAt image p header → length image ≡ blocks → length (block_at image p) ≡ size → (¬ IsLarge header) → (¬ IsArrayInside blocks size header) → FindsTable image p which Neither
finds_outside image p blocks size which header at count long small outside =
    let small1 : ¬ IsLarge (header_at image p) = subst (λ (h : Header). ¬ IsLarge h) at.fields small in
    let out : ¬ IsArrayInside (length image) (length (block_at image p)) (header_at image p) =
    subst (λ (P : Type 0). ¬ P) (sym (inside_at image p blocks size header at count long)) outside in
    (λ v. out v.inside, λ v. small1 v.large)

pub finds_wrong : (image : List (List ℕ)) (p : ℕ) (which : Which) (header : Header) (array : List ℕ) → IsHeaderAt image p header → array ≡ array_of image header → (¬ IsLarge header) → (¬ (crc_of array ≡ header.array_crc)) → FindsTable image p which Neither
finds_wrong image p which header array at is small wrong =
    let small1 : ¬ IsLarge (header_at image p) = subst (λ (h : Header). ¬ IsLarge h) at.fields small in
    (λ v. wrong (ap crc_of (is ∙ ap (λ (h : Header). array_of image h) at.fields) ∙ sym v.crc ∙ ap (λ (h : Header). h.array_crc) (sym at.fields)), λ v. small1 v.large)

pub finds_valid : (image : List (List ℕ)) (p blocks size : ℕ) (header : Header) (array : List ℕ) (entries : List Entry) → IsHeaderAt image p header → length image ≡ blocks → length (block_at image p) ≡ size → array ≡ array_of image header → (¬ IsLarge header) → IsArrayInside blocks size header → crc_of array ≡ header.array_crc
    → entries ≡ entries_from 1 header.entry_size header.entry_count array → IsValid image p × IsReadAt image p header.disk_id header.first_usable header.last_usable entries
finds_valid image p blocks size header array entries at count long is small inside crc used =
    let same : array ≡ array_of image (header_at image p) = is ∙ ap (λ (h : Header). array_of image h) at.fields in (
      record {
        agrees = at.agrees;
        small = subst (λ (h : Header). ¬ IsLarge h) at.fields small;
        inside = subst (λ (P : Type 0). P) (sym (inside_at image p blocks size header at count long)) inside;
        crc = ap (λ (h : Header). h.array_crc) (sym at.fields) ∙ sym crc ∙ ap crc_of same;
      },
      record {
        disk_id = ap (λ (h : Header). h.disk_id) at.fields;
        first_usable = ap (λ (h : Header). h.first_usable) at.fields;
        last_usable = ap (λ (h : Header). h.last_usable) at.fields;
        used = used ∙ (λ i. entries_from 1 (at.fields i).entry_size (at.fields i).entry_count (same i));
      },
    )
