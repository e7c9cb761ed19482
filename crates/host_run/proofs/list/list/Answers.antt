use Rattle.host_run.proofs.list.list.Goals as goal

pub returns-in-Err-TableTooLarge-clause-leaves : goal.returns-in-Err-TableTooLarge-clause-leaves
returns-in-Err-TableTooLarge-clause-leaves g c =
    let of = rw c.in-Err-TableTooLarge.field-0-is at c.in-Err-TableTooLarge.ensures in
    let error = c.too_large-in-Err-TableTooLarge.ensures in
    let left = c.no_list-in-Err-TableTooLarge.ensures in
    rw (left.disk, left.status, error)
    (record {
      line = rw (of.untouched tt, error) at left.line;
      told = of.answer;
      blocks = of.blocks;
      attached = record { attached = of.is_attached tt; not_writable = of.read_alone tt; of_size = of.of_size tt };
    })
