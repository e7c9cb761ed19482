-- Plain arithmetic on places and counts, so that no search has to read sessions and hands.
use Rattle.std.proofs.Common.{◌≡◌, ℕ, suc, ◌+◌, ◌<◌, ◌≤◌, arith}

pub unlike_above : (j k : ℕ) → k + 1 ≤ j → j ≡ k → ⊥
unlike_above j k above e = omega arith

pub unlike_below : (j k : ℕ) → j < k → j ≡ k → ⊥
unlike_below j k below e = omega arith

pub from_above : (j k : ℕ) → k + 1 ≤ j → k ≤ j
from_above j k above = omega arith

pub reflexive : (k : ℕ) → k ≤ k
reflexive k = omega arith

pub last_below : (j k : ℕ) → j < k + 1 → k ≤ j → j ≡ k
last_below j k below above = omega arith

pub within_equal : (k m n : ℕ) → k < m → n ≡ m → k < n
within_equal k m n within e = omega arith

pub unlike_numbers : (j k m n : ℕ) → m ≡ j + 1 → n ≡ k + 1 → (j ≡ k → ⊥) → m ≡ n → ⊥
unlike_numbers j k m n e f other same = other (omega arith)

pub from_one : (k n : ℕ) → n ≡ k + 1 → 1 ≤ n
from_one k n e = omega arith

pub up_to_count : (k n count : ℕ) → n ≡ k + 1 → k < count → n ≤ count
up_to_count k n count e within = omega arith

-- one element less of a list that one was pushed to
pub one_less : (short long left : ℕ) → long ≡ left + 1 → long ≡ short + 1 → short ≡ left
one_less short long left full pushed = omega arith

pub one_more_taken : (taken all k : ℕ) → taken ≡ k → all ≡ taken + 1 → all ≡ k + 1
one_more_taken taken all k e f = omega arith

pub positive : (left n : ℕ) → 0 < left → n ≡ left → 0 < n
positive left n some e = omega arith

pub plus_none : (n : ℕ) → n + 0 ≡ n
plus_none n = omega arith

pub none_plus : (n : ℕ) → 0 + n ≡ n
none_plus n = omega arith

pub shift : (m n : ℕ) → (m + 1) + n ≡ m + suc n
shift m n = omega arith

pub wider : (m n : ℕ) → m ≤ n → m ≤ suc n
wider m n le = omega arith

pub both_longer : (m n : ℕ) → m ≤ n → suc m ≤ suc n
both_longer m n le = omega arith

pub both_one_less : (less_c less_s left_c left_s : ℕ) → left_c ≡ left_s → left_s ≡ less_s + 1 → left_c ≡ less_c + 1 → less_c ≡ less_s
both_one_less less_c less_s left_c left_s even s c = omega arith

pub not_last : (k m n : ℕ) → k < n → k ≡ m → m ≡ n → ⊥
not_last k m n within e even = omega arith

-- what came back was room left before
pub room_left : (new old parts hands all new_room old_room : ℕ) → new ≡ old + parts → parts ≤ hands → hands < all → new_room ≡ old_room → old + all ≤ old_room → new < new_room
room_left new old parts hands all new_room old_room are few less same room = omega arith

-- what was given back went out of buffers
pub same_change : (new old new_frames old_frames before after : ℕ) → new_frames + before ≡ old_frames + after → new + before ≡ old + after → new + old_frames ≡ old + new_frames
same_change new old new_frames old_frames before after frames given = omega arith
