use Rattle.std.proofs.Common.{◌∙◌, length, set, ap}
use Rattle.host_frames.specs.{contents}
use Rattle.host_frames.proofs.LentPages.{contents_written}
use Rattle.host_memory.proofs.buffer.put_page.Goals as goal

pub returns-clause-pages : goal.returns-clause-pages
returns-clause-pages c = let is = c.copy_from_slice.ensures.after in
    contents_written c.args.pages.now.1.1 c.args.block c.copy_from_slice.new.self (ap length is ∙ c.requires.long) ∙ ap (λ w. set (contents c.args.pages.now) c.args.block w) is
