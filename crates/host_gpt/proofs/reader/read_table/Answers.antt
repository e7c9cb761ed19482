use Rattle.std.proofs.Common.{◌↔◌, false, sym, subst, arith, IsTrue}
use Rattle.host_block.specs.{DiskState}
use Rattle.host_io.specs.{Shape}
use Rattle.host_gpt.proofs.BlockLemmas.{image_length}
use Rattle.host_gpt.proofs.TableLemmas.{no_headers}
use Rattle.host_gpt.specs.{current_image, FindsTable, Tells, IsValid, IsTooLarge, Found, Primary}
use Rattle.host_gpt.proofs.reader.read_table.Goals as goal

pub returns-then-blocks-lt2-clause-table : goal.returns-then-blocks-lt2-clause-table
returns-then-blocks-lt2-clause-table g c told =
    let s = g.D.Disk.state c.args.disk.now in
    let shape = g.D.Disk.shape c.args.disk.now in
    no_headers (current_image s) (omega (arith, image_length shape.blocks shape.size s (g.met.D.Disk.of_size c.args.disk.now told), c.requires.blocks, c.if-blocks-lt2.true))

pub returns-in-Neither-clause-table : goal.returns-in-Neither-clause-table
returns-in-Neither-clause-table g c told =
    let s = g.D.Disk.state c.args.disk.now in
    let same = c.in_ok-table.ensures.state in
    let told1 : IsTrue (g.D.Disk.shape c.find_at.new.disk).tells = subst (λ (sh : Shape). IsTrue sh.tells) (sym c.in_ok-table.ensures.shape) told in
    let found = subst (λ (f : Found). FindsTable (current_image s) 1 Primary f) c.in-Neither.is (c.in_ok-table.ensures.found told) in
    let not_large : IsTrue false ↔ IsTooLarge (current_image s) 1 = (λ yes. absurd (cc), λ l. absurd (found.1 l)) in
    subst (λ (st : DiskState). Tells (current_image st) c.read_backup-in-Neither.result) same
    (c.read_backup-in-Neither.ensures.table told1
    (subst (λ (st : DiskState). ¬ IsValid (current_image st) 1) (sym same) found.0)
    (subst (λ (st : DiskState). IsTrue false ↔ IsTooLarge (current_image st) 1) (sym same) not_large))
