-- Pages with the content that a history gives them.
use Rattle.std.specs.Prelude.{◌≡◌, ℕ, ◌+◌, ◌<◌, Bool, false, ◌&&◌, nat_le, nat_lt, if◌then◌else◌}
use Rattle.std.specs.Prelude.{List, [], length, replicate, get_or, Option, Some, None}
use Rattle.atomic_table.specs.Seated.{TableId}
use Rattle.host_frames.specs.Seats.{SeenPages, contents, pages_pool}
use Rattle.host_model.specs.declared.memory.MemEvent.{MemEvent}
use Rattle.host_model.specs.Pages.{page_at}
use Rattle.host_model.specs.Verdict.{is_within}
use Rattle.host_memory.specs.Held.{is_before_close, pages_for}

-- n pages of this pool, with what the history put into buffer v
pub record ArePagesOf (pool : TableId × ℕ) (size : ℕ) (h : List MemEvent) (v n : ℕ) (p : SeenPages)
    : Type 0 where
  pub of_pool : pages_pool p ≡ pool
  pub number : length (contents p) ≡ n
  pub bytes : (k : ℕ) → k < n → get_or (contents p) k [] ≡ page_at size h v k

-- the bytes of each page, where there are pages
abbrev pub contents_held : Option SeenPages → List (List ℕ)
contents_held None = []
contents_held (Some p) = contents p

-- page k, where there are pages
abbrev pub page_held : Option SeenPages → ℕ → List ℕ
page_held p k = get_or (contents_held p) k []

-- which pool pages are of, and how many they are
abbrev pub outline : Option SeenPages → Option ((TableId × ℕ) × ℕ)
outline None = None
outline (Some p) = Some (pages_pool p, length (contents p))

-- whether block k is one of these
abbrev pub is_among : ℕ → ℕ → ℕ → Bool
is_among block count k = nat_le block k && nat_lt k (block + count)

-- page k once the blocks from one on, below the other, were filled
abbrev pub page_filled_upto : ℕ → ℕ → ℕ → Option SeenPages → ℕ → List ℕ
page_filled_upto block stop byte p k =
    if nat_le block k && nat_lt k stop then replicate (length (page_held p k)) byte
    else page_held p k

-- page k once these blocks were filled
abbrev pub page_filled : ℕ → ℕ → ℕ → Option SeenPages → ℕ → List ℕ
page_filled block count byte p k = page_filled_upto block (block + count) byte p k

-- whether there are pages, and these blocks are within them
abbrev pub has_pages_at : Option SeenPages → ℕ → ℕ → Bool
has_pages_at None block count = false
has_pages_at (Some p) block count = is_within block count (length (contents p))

-- the pages of a buffer for record i, by what is kept of it
abbrev pub pages_standing : Option SeenPages → Option ℕ → ℕ → ℕ → ℕ → Option ℕ
pages_standing None closer from n i = None
pages_standing (Some p) closer from n i =
    if is_before_close i closer then pages_for i (record { pages = n; from = from }) else None
