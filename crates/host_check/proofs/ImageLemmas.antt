-- A report is of an image and on its table where the tests hold.
use Rattle.std.proofs.Common.{◌≡◌, ◌↔◌, ℕ, Bool, ◌==◌, ◌&&◌, IsTrue, nat_eq, List, length, slice_index_or, sym, subst}
use Rattle.std.proofs.lemmas.Bool.{eq-eqb, eqb-true}
use Rattle.std.proofs.lemmas.List.Sums.{AllPass-from_list_all, list_all-from_AllPass}
use Rattle.std.specs.List.{AllByRecursion, list_all}
use Rattle.host_block.specs.{IsImage}
use Rattle.host_gpt.specs.{IsTable, Entry, Which}
use Rattle.host_gpt.proofs.LawLemmas.{one_table}
use Rattle.host_part.specs.{IsRangeOf, Layout}
use Rattle.host_model.proofs.ListTests.{and-from, both}
use Rattle.host_report.specs.{IsOfImage, IsOnTable, Report}

size_is : (image : List (List ℕ)) (size : ℕ) → IsTrue (list_all (λ block. length block == size) image) ↔ IsImage size image
size_is image size = (
  λ t k d p. eqb-true (length (slice_index_or image k d)) size (AllPass-from_list_all (λ block. length block == size) image t k d p),
  λ h. list_all-from_AllPass (λ block. length block == size) image (λ k d p. eq-eqb (length (slice_index_or image k d)) size (h k d p)),
)

pub image_is : (image : List (List ℕ)) (report : Report) → IsTrue (nat_eq report.blocks (length image) && list_all (λ block. length block == report.size) image) ↔ IsOfImage image report
image_is image report = (
  λ t. let u : IsTrue (nat_eq report.blocks (length image)) × IsTrue (list_all (λ block. length block == report.size) image) = both _ _ t in
      record { blocks = eqb-true report.blocks (length image) u.0; size = (size_is image report.size).0 u.1 },
  λ h. and-from _ _ (eq-eqb report.blocks (length image) h.blocks) ((size_is image report.size).1 h.size),
)

-- the layout of a table on an image
abbrev pub layout : List (List ℕ) → ℕ → ℕ → List Entry → Layout
layout image first last entries = record { first_usable = first; last_usable = last; blocks = length image; entries = entries }

pub table_is : (image : List (List ℕ)) (report : Report) (which : Which) (id : List ℕ) (first last : ℕ) (entries : List Entry) (a b : Bool)
    → IsTable image which id first last entries → (IsTrue a ↔ (report.which ≡ which))
    → (IsTrue b ↔ AllByRecursion (λ s. IsRangeOf (layout image first last entries) s.part s.range) report.sessions.items) → IsTrue (a && b) ↔ IsOnTable image report
table_is image report which id first last entries a b table ha hb = (
  λ t. let u : IsTrue a × IsTrue b = both a b t in
      record {
        disk_id = id;
        first_usable = first;
        last_usable = last;
        entries = entries;
        table = subst (λ w. IsTable image w id first last entries) (sym (ha.0 u.0)) table;
        ranges = hb.0 u.1;
      },
  λ h.
      let same : _ = one_table image report.which which h.disk_id id h.first_usable first h.last_usable last h.entries entries h.table table in
      and-from a b (ha.1 same.same_which)
      (hb.1 (subst (λ f. AllByRecursion (λ s. IsRangeOf (layout image f last entries) s.part s.range) report.sessions.items) same.same_first
      (subst (λ l. AllByRecursion (λ s. IsRangeOf (layout image h.first_usable l entries) s.part s.range) report.sessions.items) same.same_last
      (subst (λ es. AllByRecursion (λ s. IsRangeOf (layout image h.first_usable h.last_usable es) s.part s.range) report.sessions.items) same.same_entries h.ranges)))),
)
