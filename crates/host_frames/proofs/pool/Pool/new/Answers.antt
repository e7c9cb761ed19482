use Rattle.std.proofs.Common.{◌∙◌, sym, vec_len}
use Rattle.host_frames.specs.{Opening}
use Rattle.host_frames.proofs.Closing.{opened}
use Rattle.host_frames.proofs.pool.Pool.new.Goals as goal

pub new-requires : goal.new-requires
new-requires c = let k : Opening = record { frames = c.args.frames; page_size = c.bytes-page_size.result; seats = c.args.seats } in let bits = c.in-Ok-clear_words.ensures in let slots = c.in-Ok-blank_slots.ensures in let ok = c.in-Ok-blank_slots.slots.ok.0 in
    opened k (vec_len c.in-Ok-clear_words.words) c.as_slice.result.now c.in-Ok-blank_slots.slots.items (c.as_slice.ensures.value ∙ bits.1) bits.0 (sym ok ∙ slots.0) slots.1
