-- Which buffers hold pages, and for which records they stand.
use Rattle.std.specs.Prelude.{ℕ, Bool, true, false, ◌==◌, nat_le, nat_lt, if◌then◌else◌, List}
use Rattle.std.specs.Prelude.{filter, filter_map, slice_get, Option, Some, None}
use Rattle.std.specs.Bool.{then_some}
use Rattle.std.specs.List.{list_any, range_with_len}
use Rattle.std.specs.Option.{option_map_or}
use Rattle.host_model.specs.declared.memory.MemEvent.{MemEvent}
use Rattle.host_model.specs.declared.memory.MemEvent.TheVariants.{Attach}
use Rattle.host_model.specs.declared.memory.MemEvent.TheVariants as mem
use Rattle.host_model.specs.Releases.{is_release_of}
use Rattle.host_model.specs.Verdict.{is_within}
use Rattle.host_memory.specs.Entries.{given_count}

-- with how many pages a buffer was attached, and how many records had been sent then
pub record Attachment : Type 0 where
  pub pages : ℕ
  pub from : ℕ

-- how buffer v was attached, where the entry tells it
abbrev pub attachment_by : ℕ → MemEvent → Option Attachment
attachment_by v (Attach id pages from) = then_some (id == v) (record { pages = pages; from = from })
attachment_by v _ = None

abbrev pub attachment_of : ℕ → List MemEvent → Option Attachment
attachment_of v h = slice_get (filter_map (attachment_by v) h) 0

-- the record that closed buffer v, where the entry tells it
abbrev pub closer_by : ℕ → MemEvent → Option ℕ
closer_by v (mem.Close index id) = then_some (id == v) index
closer_by v _ = None

abbrev pub closer_of : ℕ → List MemEvent → Option ℕ
closer_of v h = slice_get (filter_map (closer_by v) h) 0

abbrev pub is_released : ℕ → List MemEvent → Bool
is_released v h = list_any (is_release_of v) h

-- the pages of buffer v, which was given and isn't released
abbrev pub pages_held : ℕ → List MemEvent → Option ℕ
pages_held v h =
    if is_released v h then None else option_map_or (λ a. Some a.pages) (attachment_of v h) None

-- buffer v holds pages, and these blocks are within them
abbrev pub has_blocks : ℕ → List MemEvent → ℕ → ℕ → Bool
has_blocks v h block count = option_map_or (is_within block count) (pages_held v h) false

-- whether a buffer that was closed by this record, or by none, is still there for record i
abbrev pub is_before_close : ℕ → Option ℕ → Bool
is_before_close i c = option_map_or (λ j. nat_le i j) c true

abbrev pub pages_for : ℕ → Attachment → Option ℕ
pages_for i a = then_some (nat_le a.from i) a.pages

-- The pages of buffer v, where it stands for record i: it was attached before that record was sent,
-- no record before it closed it, and it isn't released.
abbrev pub standing_in : ℕ → ℕ → List MemEvent → Option ℕ
standing_in v i h =
    if is_released v h then None
    else (if is_before_close i (closer_of v h)
    then option_map_or (pages_for i) (attachment_of v h) None else None)

abbrev pub holds_pages : ℕ → List MemEvent → Bool
holds_pages v h = option_map_or (λ n. true) (pages_held v h) false

-- the lowest buffer that holds pages
abbrev pub first_held : List MemEvent → Option ℕ
first_held h = slice_get (filter (λ v. holds_pages v h) (range_with_len 1 (given_count h))) 0

-- buffer v was attached with this block, whether its pages are still here or not
abbrev pub is_block_of : ℕ → List MemEvent → ℕ → Bool
is_block_of v h block = option_map_or (λ a. nat_lt block a.pages) (attachment_of v h) false

-- how many pages buffer v was attached with
abbrev pub page_count_of : ℕ → List MemEvent → ℕ
page_count_of v h = option_map_or (λ a. a.pages) (attachment_of v h) 0

-- the entry gives buffer v
abbrev pub is_given_by : ℕ → MemEvent → Bool
is_given_by v (Attach id pages from) = id == v
is_given_by v _ = false
