-- The rule of the page pool: each frame is in one place. The bit j of word i is the claim bit of
-- frame 64 i + j. The slot of a frame has its page while the page is at home, and is empty while
-- the page is out.
use Rattle.std.specs.Prelude.{◌≡◌, ◌≢◌, ℕ, ◌+◌, ◌*◌, ◌<◌, ◌≤◌, length, Option, Some, None}
use mathlib.Core.Option.{some}
use lib.ListN.{get_elem?}
use Rattle.host_frames.specs.declared.rule.Opening.{Opening}
use Rattle.host_frames.specs.declared.view.View.{View}
use Rattle.host_frames.specs.Sums.{claim_bit}
use Rattle.host_log.specs.Sums.{total}
use Rattle.host_frames.specs.Claims.{AreFair}
use Rattle.host_frames.specs.Views.{times_to_fetch, times_out, times_held, named_count, share_of}
use Rattle.host_frames.specs.Views.{granted_of, given_back_of, times_won, times_taken, IsViewQuiet}
use Rattle.atomic_table.specs.Table.{State}

module _ {P : Type 0} (IsBlank : ℕ → P → Type 0) where
  -- the rule, over any type of page
  pub record OnePlace (k : Opening) (s : State (Option P) View) : Type 0 where
    pub words_suffice : k.frames ≤ length s.words * 64
    -- a clear bit is named by no view, and a set one by just one view, once
    pub one_place : (f : ℕ)
        → total (times_to_fetch f) s.views + total (times_out f) s.views
        + total (times_held f) s.views ≡ claim_bit s.words f
    pub none_beyond : (f : ℕ) → k.frames ≤ f → claim_bit s.words f ≡ 0
    -- a frame has its page at home where its bit is clear, or it was won and not fetched yet
    pub page_at_home : (f : ℕ) → f < k.frames
        → claim_bit s.words f ≤ total (times_to_fetch f) s.views
        → (p : P) × (get_elem? s.homes f ≡ some (some (Some p))) × IsBlank k.page_size p
    -- a frame whose page is out has an empty slot
    pub slot_empty : (f : ℕ) → 1 ≤ total (times_out f) s.views
        → get_elem? s.homes f ≡ some (some None)
    pub granted_or_back : total named_count s.views + total given_back_of s.views
        ≡ total granted_of s.views
    -- what was found taken, and what is taken, was won by a claim in some view
    pub taken_is_won : (f : ℕ) → 1 ≤ claim_bit s.words f + total (times_taken f) s.views
        → 1 ≤ total (times_won f) s.views
    pub shares : total share_of s.views ≡ k.seats
    pub each : (j : ℕ) (v : View) → get_elem? s.views j ≡ some v
        → AreFair v.claims × IsViewQuiet v × (v.share ≢ 0 → v.page_size ≡ k.page_size)
