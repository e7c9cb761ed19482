-- Which table an image has.
use Rattle.std.proofs.Common.{◌≡◌, ℕ, ◌-◌, ◌≤◌, ◌<◌, List, length, sym, subst, inl, inr, arith}
use Rattle.host_gpt.specs.{FindsTable, IsTableOf, IsValid, IsTooLarge, IsReadAt, IsChosen, TableIsAbsent, TableIsTooLarge, table_place, Valid, Large, Neither, Which, Backup}
use Rattle.host_gpt.specs.declared.table.Table.{Table}

pub no_headers : (image : List (List ℕ)) → length image < 2 → TableIsAbsent image
no_headers image few = record {
  none = record { primary = λ v. few_blocks v.0; backup = λ v. few_blocks v.0 };
  primary = λ l. few_blocks l.0;
  backup = λ l. few_blocks l.0;
}
  where
    few_blocks : 2 ≤ length image → ⊥
    few_blocks two = omega arith

-- the image has two blocks or more, and no valid primary header
pub record WantsBackup (image : List (List ℕ)) (blocks : ℕ) : Type 0 where
  pub count : length image ≡ blocks
  pub two : 2 ≤ blocks
  pub none : ¬ IsValid image 1

enough : (image : List (List ℕ)) (blocks : ℕ) → WantsBackup image blocks → 2 ≤ length image
enough image blocks wants = omega (arith, wants.count, wants.two)

-- what the table says is read from the header in block p
abbrev ReadAt : List (List ℕ) → ℕ → Table → Type 0
ReadAt image p table = IsReadAt image p table.disk_id table.first_usable table.last_usable table.entries.items

pub backup_valid : (image : List (List ℕ)) (blocks : ℕ) (table : Table) → WantsBackup image blocks → FindsTable image (blocks - 1) Backup (Valid table) → IsTableOf image table
backup_valid image blocks table wants found =
    let valid : IsValid image (length image - 1) = subst (λ (n : ℕ). IsValid image (n - 1)) (sym wants.count) found.0 in
    let read : ReadAt image (length image - 1) table = subst (λ (n : ℕ). ReadAt image (n - 1) table) (sym wants.count) found.2 in
    let nope = wants.none in
    let chosen : IsChosen image Backup = (λ v. nope v.1, (enough image blocks wants, valid)) in
    record {
      chosen = subst (λ (w : Which). IsChosen image w) (sym found.1) chosen;
      read = subst (λ (w : Which). ReadAt image (table_place image w) table) (sym found.1) read;
    }

pub backup_large : (image : List (List ℕ)) (blocks : ℕ) → WantsBackup image blocks → FindsTable image (blocks - 1) Backup Large → TableIsTooLarge image
backup_large image blocks wants found =
    let large : IsTooLarge image (length image - 1) = subst (λ (n : ℕ). IsTooLarge image (n - 1)) (sym wants.count) found in
    let nope = wants.none in
    record {
      none = record { primary = λ v. nope v.1; backup = λ v. v.1.small large.large };
      large = inr (enough image blocks wants, large);
    }

pub primary_large : (image : List (List ℕ)) (blocks : ℕ) → WantsBackup image blocks → IsTooLarge image 1 → FindsTable image (blocks - 1) Backup Neither → TableIsTooLarge image
primary_large image blocks wants large found =
    let not_valid : ¬ IsValid image (length image - 1) = subst (λ (n : ℕ). ¬ IsValid image (n - 1)) (sym wants.count) found.0 in
    let nope = wants.none in
    record {
      none = record { primary = λ v. nope v.1; backup = λ v. not_valid v.1 };
      large = inl (enough image blocks wants, large);
    }

pub neither_large : (image : List (List ℕ)) (blocks : ℕ) → WantsBackup image blocks → (¬ IsTooLarge image 1) → FindsTable image (blocks - 1) Backup Neither → TableIsAbsent image
neither_large image blocks wants small found =
    let not_valid : ¬ IsValid image (length image - 1) = subst (λ (n : ℕ). ¬ IsValid image (n - 1)) (sym wants.count) found.0 in
    let not_large : ¬ IsTooLarge image (length image - 1) = subst (λ (n : ℕ). ¬ IsTooLarge image (n - 1)) (sym wants.count) found.1 in
    let nope = wants.none in
    record {
      none = record { primary = λ v. nope v.1; backup = λ v. not_valid v.1 };
      primary = λ l. small l.1;
      backup = λ l. not_large l.1;
    }
