-- What is left where a text is put into a sink by way of bytes that are held back.
use Rattle.std.specs.Prelude.{◌≡◌, ℕ, ◌≤◌, Bool, IsTrue, List, ◌++◌, Result, MatchResult, OnOk}
use Rattle.std.specs.Prelude.{OnErr}
use Rattle.host_block.specs.Lists.{IsPrefix}
use Rattle.host_io.specs.Causes.{Rose}

-- all of the text was put or is held
pub record AppendsText {S : Type 0} (tells : S → Bool) (faults : S → ℕ) (appended : S → List ℕ)
    (old : S) (held : List ℕ) (new : S) (new_held text : List ℕ) : Type 0 where
  pub told : tells new ≡ tells old
  pub later : faults old ≤ faults new
  pub kept : IsTrue (tells old) → IsPrefix (appended old) (appended new)
  pub all : IsTrue (tells old) → appended new ++ new_held ≡ (appended old ++ held) ++ text

-- the sink failed, and what was put is a front of what it was to get
pub record Stops {S : Type 0} (tells : S → Bool) (faults : S → ℕ) (appended : S → List ℕ) (old : S)
    (held : List ℕ) (new : S) (text : List ℕ) : Type 0 where
  pub told : tells new ≡ tells old
  pub rose : Rose (faults old) (faults new)
  pub kept : IsTrue (tells old) → IsPrefix (appended old) (appended new)
  pub front : IsTrue (tells old) → IsPrefix (appended new) ((appended old ++ held) ++ text)

-- the text was put, up to a failure of the sink
abbrev pub PutsHeldText : {S T E : Type 0} → (S → Bool) → (S → ℕ) → (S → List ℕ) → S → List ℕ → S
    → List ℕ → List ℕ → Result T E → Type 0
PutsHeldText tells faults appended old held new new_held text result =
    MatchResult result (λ _. AppendsText tells faults appended old held new new_held text)
    (λ _. Stops tells faults appended old held new text)

-- where the sink tells, the text was appended, and at a failure a front of it
pub record Writes {T E : Type 0} (tells : Bool) (old new text : List ℕ) (result : Result T E)
    : Type 0 where
  pub ok : IsTrue tells → OnOk result (new ≡ old ++ text)
  pub err : IsTrue tells
      → OnErr result ((front : List ℕ) × IsPrefix front text × (new ≡ old ++ front))
