-- The rule of the request ring: what was pushed is what was taken and then what the ring holds.
use Rattle.std.specs.Prelude.{◌≡◌, ℕ, ◌≤◌, true, false, List, ◌++◌, length}
use mathlib.Core.Option.{some}
use lib.ListN.{get_elem?}
use Rattle.host_block.specs.Lists.{IsPrefix}
use Rattle.host_rings.specs.declared.envelope.Envelope.{Envelope}
use Rattle.host_rings.specs.declared.request_view.RequestView.{RequestView}

-- the k-th envelope has the index k
abbrev pub IsNumbered : List Envelope → Type 0
IsNumbered es = (k : ℕ) (e : Envelope) → get_elem? es k ≡ some e → e.index ≡ k

-- the one pass that may push knows all that was pushed, and what it heard to be taken was taken
-- first
pub record WriterKnows (writer records : ℕ) (pushed taken : List Envelope) (pass : ℕ)
    (v : RequestView) : Type 0 where
  pub is_writer : pass ≡ writer
  pub has_records : v.records ≡ records
  pub has_pushed : v.pushed ≡ pushed
  pub heard_taken : IsPrefix v.heard taken

-- the one pass that may pop knows all that was taken
pub record ReaderKnows (reader records : ℕ) (taken : List Envelope) (pass : ℕ) (v : RequestView)
    : Type 0 where
  pub is_reader : pass ≡ reader
  pub has_records : v.records ≡ records
  pub has_taken : v.taken ≡ taken

-- what a pass knows, by what it may do. What one that may not push heard to be pushed was pushed
-- first
pub record FitsRequests (writer reader records : ℕ) (pushed taken : List Envelope) (pass : ℕ)
    (v : RequestView) : Type 0 where
  pub writes : v.pushes ≡ true → WriterKnows writer records pushed taken pass v
  pub reads : v.pops ≡ true → ReaderKnows reader records taken pass v
  pub heard_pushed : v.pushes ≡ false → IsPrefix v.heard pushed

-- what was pushed is what was taken and then the items of the ring. It has its indexes in order,
-- and is no longer than the ring was made for
pub record InOrder (items : List Envelope) (views : List RequestView) : Type 0 where
  pub writer : ℕ
  pub reader : ℕ
  pub records : ℕ
  pub pushed : List Envelope
  pub taken : List Envelope
  pub pushed_is : pushed ≡ taken ++ items
  pub numbered : IsNumbered pushed
  pub few : length pushed ≤ records
  pub fitting : (pass : ℕ) (v : RequestView) → get_elem? views pass ≡ some v
      → FitsRequests writer reader records pushed taken pass v

-- the ring holds what was pushed but for those taken, and what was heard to be taken is among those
abbrev pub LeftBehind : List Envelope → List Envelope → List Envelope → Type 0
LeftBehind pushed heard items =
    (taken : List Envelope) × (pushed ≡ taken ++ items) × IsPrefix heard taken

-- what was taken, and then what the ring holds, begins with all that was heard to be pushed
abbrev pub StillAhead : List Envelope → List Envelope → List Envelope → Type 0
StillAhead taken heard items = IsPrefix heard (taken ++ items)
