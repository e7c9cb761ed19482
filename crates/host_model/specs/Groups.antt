-- Groups: which records are answered together.
use Rattle.std.specs.Prelude.{ℕ, ◌+◌, Bool, false, not, ◌==◌, ◌&&◌, ◌||◌, nat_le, if◌then◌else◌}
use Rattle.std.specs.Prelude.{List, length, take, filter, find, Option, Some, None}
use Rattle.host_record.specs.declared.request.Request.{Request}
use Rattle.host_record.specs.Command.{is_grouped, is_last}
use Rattle.host_model.specs.Lists.{count, below}
use Rattle.host_model.specs.Log.{request_at}

-- a member of a group; every other record is lone
abbrev pub is_member : Request → Bool
is_member r = is_grouped r && nat_le r.group 7

-- a member that closes its group
abbrev pub is_closing : Request → Bool
is_closing r = is_member r && is_last r

-- a lone record, or a member that closes its group: each of these is owed one answer
abbrev pub is_owing : Request → Bool
is_owing r = not (is_member r) || is_closing r

-- how many of these requests closed group g
abbrev pub closings : ℕ → List Request → ℕ
closings g rs = count (λ r. is_closing r && r.group == g) rs

-- a member's instance: its group, and how often that group was closed before it
abbrev pub instance_of : List Request → ℕ → Option (ℕ × ℕ)
instance_of rs i =
    let r = request_at rs i in
    if is_member r then Some (r.group, closings r.group (take i rs)) else None

-- whether both are members of one instance
abbrev pub same_instance : Option (ℕ × ℕ) → Option (ℕ × ℕ) → Bool
same_instance (Some a) (Some b) = a.0 == b.0 && a.1 == b.1
same_instance _ _ = false

-- whether the answer to record i is the answer to record k: i is k, lone, or the member that closes
-- k's instance
abbrev pub answers_for : List Request → ℕ → ℕ → Bool
answers_for rs i k =
    let r = request_at rs i in
    if is_member r then is_closing r && same_instance (instance_of rs i) (instance_of rs k)
    else i == k

-- the records that the answer to record i answers, in order
abbrev pub answered_by : List Request → ℕ → List ℕ
answered_by rs i = filter (answers_for rs i) (below (i + 1))

-- the records that are owed an answer
abbrev pub owed : List Request → List ℕ
owed rs = filter (λ i. is_owing (request_at rs i)) (below (length rs))

-- the record whose answer is that to record k: k itself, or the member that closes its instance
abbrev pub owing_record : List Request → ℕ → Option ℕ
owing_record rs k = find (λ i. answers_for rs i k) (below (length rs))
