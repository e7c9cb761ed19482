use Rattle.std.proofs.Common.{◌≤◌, ℕ, length, take, ◌∙◌, ap, arith}
use Rattle.host_gpt.proofs.BlockLemmas.{front_of_blocks}
use Rattle.host_gpt.specs.{array_length, current_image}
use Rattle.host_gpt.proofs.found.read_array.Goals as goal

pub returns-clause-bytes : goal.returns-clause-bytes
returns-clause-bytes g c told =
    let header = c.args.header.now in
    let items = c.read_blocks.new.all.items in
    let within : array_length header ≤ length items = omega (arith, c.in_ok-read_blocks.ensures.len, c.requires.reaches, c.read_blocks.new.all.ok) in
    c.truncate.ensures.items
    ∙ ap (λ (n : ℕ). take n items) c.array_len-len.ensures
    ∙ front_of_blocks (current_image (g.D.Disk.state c.args.disk.now)) header.array_lba c.args.count (array_length header) items (c.in_ok-read_blocks.ensures.bytes told) within
