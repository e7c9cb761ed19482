use Rattle.host_check.proofs.ImageBytesLemmas.{blocks_end, blocks_step}
use Rattle.host_check.proofs.image_bytes.cut_blocks.Goals as goal

pub loop-rest-preserved : goal.loop-rest-preserved
loop-rest-preserved c =
    blocks_step c.args.width c.args.bytes.now c.loop-rest.rest.now _ _ _ _ c.requires c.loop-rest-test.true c.loop-rest.invariant c.first_block.ensures c.in_ok-push_block.ensures c.after_block-rest.ensures

pub returns : goal.returns
returns c = blocks_end c.args.width c.args.bytes.now c.loop-rest.rest.now _ c.loop-rest-test.false c.loop-rest.invariant
