use Rattle.std.proofs.Common.{◌≡◌, ◌∙◌, List, ℕ, ap, length, rules}
use Rattle.byteorder.specs.Endian.{little_number}
use Rattle.host_record.specs.{request_bytes, request_of}
use Rattle.host_record.proofs.RequestLemmas.{bytes_of_request, same_request, up_to_end}
use Rattle.host_record.proofs.request.Request.from_bytes.Goals as goal

pub returns-clause-fields : goal.returns-clause-fields
returns-clause-fields c =
    let b = c.args.b.now in
    let long : length b ≡ 32 = search rules in
    same_request _ (request_of b)
    c.read_u32.ensures
    (c.read_u32-2.ensures ∙ ap (λ (l : List ℕ). little_number 4 l) (up_to_end 4 28 b long))
    (c.read_u16.ensures ∙ ap (λ (l : List ℕ). little_number 2 l) (up_to_end 8 24 b long))
    (c.read_u16-2.ensures ∙ ap (λ (l : List ℕ). little_number 2 l) (up_to_end 10 22 b long))
    (c.read_u32-3.ensures ∙ ap (λ (l : List ℕ). little_number 4 l) (up_to_end 12 20 b long))
    (c.read_u64.ensures ∙ ap (λ (l : List ℕ). little_number 8 l) (up_to_end 16 16 b long))
    (c.read_u64-2.ensures ∙ ap (λ (l : List ℕ). little_number 8 l) (up_to_end 24 8 b long))

pub returns-clause-again : goal.returns-clause-again
returns-clause-again c = ap request_bytes (returns-clause-fields c) ∙ bytes_of_request c.args.b.now (search rules) (search rules)
