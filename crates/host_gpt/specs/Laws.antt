-- Laws over the table of an image.
use Rattle.std.specs.Prelude.{◌≡◌, ℕ, List}
use Rattle.host_gpt.specs.Table.{IsTable, TableIsAbsent, TableIsTooLarge}
use Rattle.host_gpt.specs.declared.entry.Entry.{Entry}
use Rattle.host_gpt.specs.declared.which.Which.{Which}

-- two tables say the same
pub record SameTable (which which' : Which) (id id' : List ℕ) (first first' last last' : ℕ)
    (entries entries' : List Entry) : Type 0 where
  pub same_which : which ≡ which'
  pub same_id : id ≡ id'
  pub same_first : first ≡ first'
  pub same_last : last ≡ last'
  pub same_entries : entries ≡ entries'

-- an image has one table at most
abbrev pub OneTable : Type 0
OneTable =
    (image : List (List ℕ)) (which which' : Which) (id id' : List ℕ) (first first' last last' : ℕ)
    (entries entries' : List Entry) → IsTable image which id first last entries
    → IsTable image which' id' first' last' entries'
    → SameTable which which' id id' first first' last last' entries entries'

-- an image that has a table has neither an absent one nor one that is too large
abbrev pub TableExcludes : Type 0
TableExcludes =
    (image : List (List ℕ)) (which : Which) (id : List ℕ) (first last : ℕ) (entries : List Entry)
    → IsTable image which id first last entries
    → (¬ TableIsAbsent image) × (¬ TableIsTooLarge image)

-- a table that is too large isn't absent
abbrev pub LargeExcludes : Type 0
LargeExcludes = (image : List (List ℕ)) → TableIsTooLarge image → ¬ TableIsAbsent image
