use Rattle.std.proofs.Common.{◌≡◌, ◌<◌, length, ◌∙◌, arith}
use Rattle.host_block.specs.{block_at}
use Rattle.host_gpt.proofs.BlockLemmas.{read_of-image}
use Rattle.host_gpt.proofs.FoundLemmas.{header_parsed}
use Rattle.host_gpt.specs.{current_image}
use Rattle.host_gpt.proofs.found.read_header.Goals as goal

pub returns-clause-header : goal.returns-clause-header
returns-clause-header g c told =
    let s = g.D.Disk.state c.args.disk.now in
    let within : c.args.place < length s.durable = omega (arith, c.requires.place, c.requires.blocks, (g.met.D.Disk.of_size c.args.disk.now told).count) in
    let got : c.read_block.new.into ≡ block_at (current_image s) c.args.place = c.in_ok-read_block.ensures.bytes told ∙ read_of-image s c.args.place within in
    header_parsed (current_image s) c.args.place c.read_block.new.into c.parse.result got c.parse.ensures
