-- A pool of 70 frames, so of two words.
use Rattle.std.specs.Prelude.{◌≡◌, ℕ, List, [], ◌∷◌, Some, None}
use Rattle.host_frames.specs.Claims.{won_by, taken_by, frames_in_claims, Covers, SomeIsRefused}
use Rattle.host_frames.specs.Homes.{pages_at_home}
use Rattle.host_frames.specs.Sums.{claim_bit, frames_in}
use Rattle.host_log.specs.Sums.{total, occurrences}
use Rattle.host_frames.specs.Views.{times_to_fetch, times_out, times_held, named_count, share_of}
use Rattle.host_frames.specs.Views.{granted_of, won_in, idle_view, view_after_making, new_seat_view}
use Rattle.host_frames.specs.Views.{asking_view, looking_view, winning_view, fetching_view}
use Rattle.host_frames.specs.Views.{settled_view, packed_view, emptied_view, unpacked_view}
use Rattle.host_frames.specs.Views.{reached_view, returned_view, gathered_view}
use Rattle.host_frames.specs.declared.view.Claim.{Claim}
use Rattle.host_frames.specs.declared.view.View.{View}

-- the frames 0, 2 and 65 are taken
abbrev pub words : List ℕ
words = 5 ∷ 2 ∷ []

-- a seat that asks for two frames
abbrev pub seat : View
seat = new_seat_view (idle_view 2 512)

abbrev pub won : View
won = winning_view 0 2 5 (looking_view 0 5 (asking_view 2 seat))

abbrev pub at_work : View
at_work = settled_view (fetching_view won)

-- a claim in a pool of three frames that got one of two
abbrev pub refused : Claim
refused = record { asked = 2; won = 1 ∷ []; taken = 0 ∷ 2 ∷ [] }

pub record FramesAreAsWritten : Type 0 where
  pub three_taken : total (claim_bit words) (0 ∷ 1 ∷ 2 ∷ 64 ∷ 65 ∷ []) ≡ 3
  pub first_word : frames_in 0 5 ≡ 0 ∷ 2 ∷ []
  pub second_word : frames_in 1 2 ≡ 65 ∷ []
  -- a mask of the bits 0 and 1 wins the frame 1 alone
  pub wins_one : won_in 0 3 5 ≡ 1 ∷ []
  pub twice : occurrences 2 (2 ∷ 3 ∷ 2 ∷ []) ≡ 2
  pub won_and_taken : (won_by 1 won.claims ≡ 1) × (taken_by 0 won.claims ≡ 1)
      × (taken_by 2 won.claims ≡ 1) × (frames_in_claims won.claims ≡ 2)
  pub to_fetch : (times_to_fetch 1 won ≡ 1) × (granted_of won ≡ 1) × (named_count won ≡ 1)
  pub held : times_held 1 (fetching_view won) ≡ 1
  pub out : times_out 1 (settled_view (fetching_view won)) ≡ 1
  -- its pages get a view of their own, and come back
  pub packed : (packed_view at_work).frames_out ≡ 1 ∷ []
  pub back : unpacked_view (emptied_view at_work) (packed_view at_work) ≡ at_work
  pub given_back : (returned_view (reached_view at_work)).given_back ≡ 1
  pub two_seats : share_of (gathered_view (view_after_making (idle_view 2 512)) seat) ≡ 2
  pub covers : Covers 3 refused
  pub is_refused : SomeIsRefused 3 (refused ∷ [])
  pub not_among_four : ¬ Covers 4 refused
  pub one_at_home : pages_at_home {P = ℕ} (Some 7 ∷ None ∷ []) ≡ 1
