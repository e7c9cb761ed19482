-- What a clause says of a pool, its seats and its pages.
use Rattle.std.specs.Prelude.{◌≡◌, ◌⊎◌, ℕ, ◌+◌, List, [], ◌∷◌, ◌++◌, map, length}
use Rattle.atomic_table.specs.Table.{Me}
use Rattle.host_log.specs.Sums.{total}
use Rattle.atomic_table.specs.Seated.{TableId}
use Rattle.host_frames.specs.declared.view.View.{View}
use Rattle.host_frames.specs.declared.view.Claim.{Claim}
use Rattle.host_frames.specs.declared.pool.Pool.{Pool}
use Rattle.host_frames.specs.declared.seat.PoolSeat.{PoolSeat}
use Rattle.host_frames.specs.Claims.{frames_in_claims, SomeIsRefused}

-- pages as contracts see them: which pool it is, how many pages fit, and the frame and the bytes of
-- each
abbrev pub SeenPages : Type 0
SeenPages = (TableId × ℕ) × (ℕ × List (ℕ × List ℕ))

-- the bytes of each page
abbrev pub contents : SeenPages → List (List ℕ)
contents ps = map (λ q. q.1) ps.1.1

-- how many pages fit
abbrev pub room : SeenPages → ℕ
room ps = ps.1.0

-- which pool it is: its table, and how long a page is
abbrev pub pool_id : Pool → TableId × ℕ
pool_id b = (b.table.shared.table_id, b.table.shared.key.page_size)

-- which pool a seat is of
abbrev pub seat_pool : PoolSeat → TableId × ℕ
seat_pool q = (q.seat.table_id, q.seat.me.0.page_size)

-- which pool claimed pages are of
abbrev pub pages_pool : SeenPages → TableId × ℕ
pages_pool ps = ps.0

-- how long a page is
abbrev pub page_size : Pool → ℕ
page_size b = b.table.shared.key.page_size

-- how many frames the pool was made with
abbrev pub frame_count : Pool → ℕ
frame_count b = b.frames

-- how many seats it was made with
abbrev pub seat_count : Pool → ℕ
seat_count b = b.table.shared.key.seats

-- the claims of a seat, the last first
abbrev pub claims : PoolSeat → List Claim
claims q = q.seat.me.0.claims

-- how many frames its claims asked for
abbrev pub frames_asked : PoolSeat → ℕ
frames_asked q = frames_in_claims (claims q)

-- how many frames its claims got, a refused one none
abbrev pub granted : PoolSeat → ℕ
granted q = q.seat.me.0.granted

-- how many frames were given back with it
abbrev pub given_back : PoolSeat → ℕ
given_back q = q.seat.me.0.given_back

-- a seat of this pool that has claimed nothing yet
abbrev pub IsNewSeat : TableId × ℕ → PoolSeat → Type 0
IsNewSeat pool q = (seat_pool q ≡ pool) × (claims q ≡ []) × (granted q ≡ 0) × (given_back q ≡ 0)

-- a claim of some seat was refused
abbrev pub SomeSeatRefused : ℕ → List PoolSeat → Type 0
SomeSeatRefused frames [] = ⊥
SomeSeatRefused frames (q ∷ qs) = SomeIsRefused frames (claims q) ⊎ SomeSeatRefused frames qs

-- the claims of all seats
abbrev pub all_claims : List PoolSeat → List Claim
all_claims [] = []
all_claims (q ∷ qs) = claims q ++ all_claims qs

-- a seat stands for all these, with their claims and numbers
abbrev pub StandsForAll : {S : Type 0} → List PoolSeat → Me S View → Type 0
StandsForAll qs m =
    (m.0.share ≡ length qs) × (m.0.granted ≡ total granted qs)
    × (m.0.given_back ≡ total given_back qs) × (frames_in_claims m.0.claims ≡ total frames_asked qs)
    × ((n : ℕ) → SomeSeatRefused n qs → SomeIsRefused n m.0.claims) × (m.0.to_fetch ≡ [])
    × (m.0.slots_held ≡ []) × (m.1 ≡ [])

-- a seat with the view v has taken in all these
abbrev pub HasGathered : {S : Type 0} → View → List PoolSeat → Me S View → Type 0
HasGathered v qs m =
    m
    ≡ (
      record {
        share = length qs + 1;
        page_size = v.page_size;
        granted = total granted qs + v.granted;
        given_back = total given_back qs + v.given_back;
        claims = all_claims qs ++ v.claims;
        to_fetch = [];
        frames_out = [];
        slots_held = [];
      },
      [],
    )
