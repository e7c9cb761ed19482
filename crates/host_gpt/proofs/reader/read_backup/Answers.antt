use Rattle.std.proofs.Common.{◌-◌, sym, ◌∙◌, subst}
use Rattle.host_gpt.proofs.BlockLemmas.{image_length}
use Rattle.host_gpt.proofs.TableLemmas.{WantsBackup, backup_valid, backup_large, primary_large, neither_large}
use Rattle.host_gpt.specs.{current_image, FindsTable, Found, Backup}
use Rattle.host_gpt.proofs.reader.read_backup.Goals as goal

pub returns-in-Valid-clause-table : goal.returns-in-Valid-clause-table
returns-in-Valid-clause-table g c told none large =
    let s = g.D.Disk.state c.args.disk.now in
    let shape = g.D.Disk.shape c.args.disk.now in
    let wants : WantsBackup (current_image s) c.args.blocks = record { count = image_length shape.blocks shape.size s (g.met.D.Disk.of_size c.args.disk.now told) ∙ sym c.requires.blocks; two = c.requires.two; none = none } in
    backup_valid (current_image s) c.args.blocks c.in-Valid.table wants (subst (λ (f : Found). FindsTable (current_image s) (c.args.blocks - 1) Backup f) c.in-Valid.is (c.in_ok-table.ensures.found told))

pub returns-in-Large-clause-table : goal.returns-in-Large-clause-table
returns-in-Large-clause-table g c told none large =
    let s = g.D.Disk.state c.args.disk.now in
    let shape = g.D.Disk.shape c.args.disk.now in
    let wants : WantsBackup (current_image s) c.args.blocks = record { count = image_length shape.blocks shape.size s (g.met.D.Disk.of_size c.args.disk.now told) ∙ sym c.requires.blocks; two = c.requires.two; none = none } in
    backup_large (current_image s) c.args.blocks wants (subst (λ (f : Found). FindsTable (current_image s) (c.args.blocks - 1) Backup f) c.in-Large.is (c.in_ok-table.ensures.found told))

pub returns-then-primary_is_large-clause-table : goal.returns-then-primary_is_large-clause-table
returns-then-primary_is_large-clause-table g c told none large =
    let s = g.D.Disk.state c.args.disk.now in
    let shape = g.D.Disk.shape c.args.disk.now in
    let wants : WantsBackup (current_image s) c.args.blocks = record { count = image_length shape.blocks shape.size s (g.met.D.Disk.of_size c.args.disk.now told) ∙ sym c.requires.blocks; two = c.requires.two; none = none } in
    primary_large (current_image s) c.args.blocks wants (large.0 c.if-primary_is_large.true) (subst (λ (f : Found). FindsTable (current_image s) (c.args.blocks - 1) Backup f) c.in-Neither.is (c.in_ok-table.ensures.found told))

pub returns-else-primary_is_large-clause-table : goal.returns-else-primary_is_large-clause-table
returns-else-primary_is_large-clause-table g c told none large =
    let s = g.D.Disk.state c.args.disk.now in
    let shape = g.D.Disk.shape c.args.disk.now in
    let wants : WantsBackup (current_image s) c.args.blocks = record { count = image_length shape.blocks shape.size s (g.met.D.Disk.of_size c.args.disk.now told) ∙ sym c.requires.blocks; two = c.requires.two; none = none } in
    neither_large (current_image s) c.args.blocks wants (λ l. let yes = large.1 l in let not = c.if-primary_is_large.false in cc) (subst (λ (f : Found). FindsTable (current_image s) (c.args.blocks - 1) Backup f) c.in-Neither.is (c.in_ok-table.ensures.found told))
