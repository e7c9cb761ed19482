-- What a seat's view says, and how it changes.
use Rattle.std.specs.Prelude.{◌≡◌, ℕ, ◌+◌, ◌-◌, List, [], ◌∷◌, ◌++◌, length, bit_and}
use Rattle.std.specs.Int.{bit_not, w64}
use Rattle.host_frames.specs.declared.rule.Opening.{Opening}
use Rattle.host_frames.specs.declared.view.View.{View}
use Rattle.host_frames.specs.declared.view.Claim.{Claim}
use Rattle.host_frames.specs.Sums.{frames_in}
use Rattle.host_log.specs.Sums.{occurrences}
use Rattle.host_frames.specs.Claims.{won_by, taken_by}

-- ---- what the rule counts
-- how often the view names a frame whose page is out
abbrev pub times_out : ℕ → View → ℕ
times_out f v = occurrences f v.frames_out

-- how often it names a frame that it has won, and whose page is in its slot
abbrev pub times_to_fetch : ℕ → View → ℕ
times_to_fetch f v = occurrences f v.to_fetch

-- how often it names a frame whose slot is out with the seat
abbrev pub times_held : ℕ → View → ℕ
times_held f v = occurrences f v.slots_held

-- how many frames it names
abbrev pub named_count : View → ℕ
named_count v = length v.to_fetch + length v.frames_out + length v.slots_held

abbrev pub share_of : View → ℕ
share_of v = v.share

abbrev pub granted_of : View → ℕ
granted_of v = v.granted

abbrev pub given_back_of : View → ℕ
given_back_of v = v.given_back

abbrev pub times_won : ℕ → View → ℕ
times_won f v = won_by f v.claims

abbrev pub times_taken : ℕ → View → ℕ
times_taken f v = taken_by f v.claims

-- a view that stands for no seat has no claim and no number
abbrev pub IsViewQuiet : View → Type 0
IsViewQuiet v =
    v.share ≡ 0
    → (v.granted ≡ 0) × (v.given_back ≡ 0) × (v.claims ≡ []) × (v.slots_held ≡ [])
    × (v.to_fetch ≡ [])

-- ---- views of seats
-- a seat that has claimed nothing yet, and stands for n seats
abbrev pub idle_view : ℕ → ℕ → View
idle_view n b =
    record {
      share = n;
      page_size = b;
      granted = 0;
      given_back = 0;
      claims = [];
      to_fetch = [];
      frames_out = [];
      slots_held = [];
    }

-- the view that the pool is made with: it makes the seats
abbrev pub first_view : Opening → View
first_view k = idle_view k.seats k.page_size

-- the maker, after it has made the next seat
abbrev pub view_after_making : View → View
view_after_making v = record v { share = v.share - 1 }

-- the seat that the maker makes
abbrev pub new_seat_view : View → View
new_seat_view v = idle_view 1 v.page_size

-- it has taken in another seat for good
abbrev pub gathered_view : View → View → View
gathered_view v w =
    record {
      share = v.share + w.share;
      page_size = v.page_size;
      granted = v.granted + w.granted;
      given_back = v.given_back + w.given_back;
      claims = w.claims ++ v.claims;
      to_fetch = w.to_fetch ++ v.to_fetch;
      frames_out = w.frames_out ++ v.frames_out;
      slots_held = w.slots_held ++ v.slots_held;
    }

-- it was taken in
abbrev pub spent_view : View
spent_view = idle_view 0 0

-- ---- views of pages that are out
-- the view of pages with these frames
abbrev pub out_view : ℕ → List ℕ → View
out_view b fs =
    record {
      share = 0;
      page_size = b;
      granted = 0;
      given_back = 0;
      claims = [];
      to_fetch = [];
      frames_out = fs;
      slots_held = [];
    }

-- the frames of one claim, under a view of their own
abbrev pub packed_view : View → View
packed_view v = out_view v.page_size v.frames_out

-- the seat without them
abbrev pub emptied_view : View → View
emptied_view v = record v { frames_out = [] }

-- the seat with the frames of pages that come back
abbrev pub unpacked_view : View → View → View
unpacked_view v w = record v { frames_out = w.frames_out ++ v.frames_out }

-- ---- what a step makes of a view
abbrev pub new_claim : ℕ → Claim
new_claim n = record { asked = n; won = []; taken = [] }

-- a claim of n frames begins
abbrev pub asking_view : ℕ → View → View
asking_view n v = record v { claims = new_claim n ∷ v.claims }

-- the claim finds taken those frames of word i whose bits in n are set
abbrev pub looks : ℕ → ℕ → Claim → Claim
looks i n c = record c { taken = frames_in i n ++ c.taken }

-- the frames of word i that a mask wins where it finds n
abbrev pub won_in : ℕ → ℕ → ℕ → List ℕ
won_in i mask n = frames_in i (bit_and mask (bit_not w64 n))

-- the claim wins them, and finds the others of the mask taken
abbrev pub wins : ℕ → ℕ → ℕ → Claim → Claim
wins i mask n c =
    record c { won = won_in i mask n ++ c.won; taken = frames_in i (bit_and mask n) ++ c.taken }

-- the last claim changes
abbrev pub on_first : (Claim → Claim) → List Claim → List Claim
on_first g [] = []
on_first g (c ∷ cs) = g c ∷ cs

-- the last claim looks at word i, and finds n
abbrev pub looking_view : ℕ → ℕ → View → View
looking_view i n v = record v { claims = on_first (looks i n) v.claims }

-- the last claim sets the bits of a mask in word i, and finds n
abbrev pub winning_view : ℕ → ℕ → ℕ → View → View
winning_view i mask n v =
    record v {
      claims = on_first (wins i mask n) v.claims;
      to_fetch = won_in i mask n ++ v.to_fetch;
      granted = v.granted + length (won_in i mask n);
    }

abbrev pub first_of : List ℕ → ℕ
first_of [] = 0
first_of (f ∷ fs) = f

abbrev pub others : List ℕ → List ℕ
others [] = []
others (f ∷ fs) = fs

-- the slot of a frame that was won is taken
abbrev pub fetching_view : View → View
fetching_view v =
    record v { to_fetch = others v.to_fetch; slots_held = first_of v.to_fetch ∷ v.slots_held }

-- the slot goes home, and its page is out
abbrev pub settled_view : View → View
settled_view v =
    record v { frames_out = first_of v.slots_held ∷ v.frames_out; slots_held = others v.slots_held }

-- the slot of a page that is out is taken
abbrev pub reached_view : View → View
reached_view v =
    record v { frames_out = others v.frames_out; slots_held = first_of v.frames_out ∷ v.slots_held }

-- a frame is given back
abbrev pub returned_view : View → View
returned_view v = record v { slots_held = others v.slots_held; given_back = v.given_back + 1 }

-- a refused claim gives up a frame
abbrev pub yielded_view : View → View
yielded_view v = record v { slots_held = others v.slots_held; granted = v.granted - 1 }
