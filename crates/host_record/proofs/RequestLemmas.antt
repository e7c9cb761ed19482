-- The codec of a request, both ways round.
use Rattle.std.proofs.Common.{◌≡◌, ℕ, ◌+◌, ◌^◌, ◌<◌, List, ◌++◌, [], length, drop, take, slice_index, refl, sym, ap, ◌∙◌, arith}
use Rattle.std.proofs.lemmas.List.{append-nil, drop_all, length-drop, take_all}
use Rattle.byteorder.specs.Endian.{little_bytes}
use Rattle.byteorder.specs.Numbers.{little_number-reads_back}
use Rattle.host_record.specs.declared.request.Request.{Request}
use Rattle.host_record.specs.{request_bytes, request_of}
use Rattle.host_record.proofs.ByteLemmas.{little_bytes-at}

-- the bytes of the request that has 32 bytes are these bytes
pub bytes_of_request : (b : List ℕ) → length b ≡ 32 → ((k : ℕ) → slice_index b k < 256) → request_bytes (request_of b) ≡ b
bytes_of_request b len fits =
    let r : Request = request_of b in
    let none : drop 32 b ≡ [] = drop_all 32 b (omega arith) in
    let last : little_bytes 8 r.dev_offset ≡ drop 24 b =
    sym (append-nil (little_bytes 8 r.dev_offset)) ∙ ap (λ (bs : List ℕ). little_bytes 8 r.dev_offset ++ bs) (sym none)
    ∙ little_bytes-at 24 8 32 b fits refl (omega arith) in
    let at16 : little_bytes 8 r.vmo_offset ++ little_bytes 8 r.dev_offset ≡ drop 16 b =
    ap (λ (bs : List ℕ). little_bytes 8 r.vmo_offset ++ bs) last ∙ little_bytes-at 16 8 24 b fits refl (omega arith) in
    let at12 = ap (λ (bs : List ℕ). little_bytes 4 r.length ++ bs) at16 ∙ little_bytes-at 12 4 16 b fits refl (omega arith) in
    let at10 = ap (λ (bs : List ℕ). little_bytes 2 r.vmoid ++ bs) at12 ∙ little_bytes-at 10 2 12 b fits refl (omega arith) in
    let at8 = ap (λ (bs : List ℕ). little_bytes 2 r.group ++ bs) at10 ∙ little_bytes-at 8 2 10 b fits refl (omega arith) in
    let at4 = ap (λ (bs : List ℕ). little_bytes 4 r.reqid ++ bs) at8 ∙ little_bytes-at 4 4 8 b fits refl (omega arith) in
    ap (λ (bs : List ℕ). little_bytes 4 r.command ++ bs) at4 ∙ little_bytes-at 0 4 4 b fits refl (omega arith)

-- all that stands behind the first i bytes, as a range up to the end
pub up_to_end : (i n : ℕ) (b : List ℕ) → length b ≡ i + n → take n (drop i b) ≡ drop i b
up_to_end i n b len = take_all n (drop i b) (omega (arith, length-drop i b))

-- two requests with the same fields
pub same_request : (a b : Request) → a.command ≡ b.command → a.reqid ≡ b.reqid → a.group ≡ b.group → a.vmoid ≡ b.vmoid → a.length ≡ b.length
    → a.vmo_offset ≡ b.vmo_offset → a.dev_offset ≡ b.dev_offset → a ≡ b
same_request a b e0 e1 e2 e3 e4 e5 e6 = grind arith

-- the request that has the bytes of a request is that request
pub request_of_bytes : (r : Request) → r.command < 2 ^ 32 → r.reqid < 2 ^ 32 → r.group < 2 ^ 16 → r.vmoid < 2 ^ 16 → r.length < 2 ^ 32
    → r.vmo_offset < 2 ^ 64 → r.dev_offset < 2 ^ 64 → request_of (request_bytes r) ≡ r
request_of_bytes r command reqid group vmoid length vmo_offset dev_offset =
    let at16 : List ℕ = little_bytes 8 r.vmo_offset ++ little_bytes 8 r.dev_offset in
    let at10 : List ℕ = little_bytes 2 r.vmoid ++ little_bytes 4 r.length ++ at16 in
    let at4 : List ℕ = little_bytes 4 r.reqid ++ little_bytes 2 r.group ++ at10 in
    same_request (request_of (request_bytes r)) r
    (little_number-reads_back 4 r.command at4 command)
    (little_number-reads_back 4 r.reqid (little_bytes 2 r.group ++ at10) reqid)
    (little_number-reads_back 2 r.group at10 group)
    (little_number-reads_back 2 r.vmoid (little_bytes 4 r.length ++ at16) vmoid)
    (little_number-reads_back 4 r.length at16 length)
    (little_number-reads_back 8 r.vmo_offset (little_bytes 8 r.dev_offset) vmo_offset)
    (little_number-reads_back 8 r.dev_offset ([]) dev_offset)
