use Rattle.host_check.proofs.session.parts_of_lists.Goals as goal

pub returns : goal.returns
returns c = record {
  taken = c.in-Ok.ensures;
  carried = c.in_ok-carried.ensures;
  answered = c.in-Ok-is_answered.ensures;
  buffers = c.in_ok-buffers.ensures;
  ordered = c.in_ok-ordered.ensures;
}
