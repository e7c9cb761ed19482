use Rattle.std.proofs.Common.{◌≡◌, sym, subst}
use Rattle.std.specs.Prelude.{IfOk}
use Rattle.host_block.specs.{Op}
use Rattle.host_cache.specs.{shape_of}
use Rattle.host_device.specs.{step_answer, CallsCache, IsCacheCall, entry_bytes}
use Rattle.host_device.proofs.cache_calls.call_cache.Goals as goal

pub returns-in-Trim-clause-calls : goal.returns-in-Trim-clause-calls
returns-in-Trim-clause-calls g c =
    let shape = shape_of c.args.cache.now in
    subst (λ (op : Op). CallsCache (IsCacheCall op shape.blocks shape.size c.args.b c.args.bytes) c.args.cache.now (step_answer c.trim.result) c.trim.new.cache) (sym c.in-Trim.is) (c.trim.ensures.calls c.args.bytes)

pub returns-in-Trim-clause-bytes : goal.returns-in-Trim-clause-bytes
returns-in-Trim-clause-bytes g c =
    subst (λ (op : Op). IfOk c.trim.result (λ stored. stored.bytes ≡ entry_bytes op c.args.bytes stored.faulted)) (sym c.in-Trim.is) (c.trim.ensures.bytes c.args.bytes)

pub returns-in-Flush-clause-calls : goal.returns-in-Flush-clause-calls
returns-in-Flush-clause-calls g c =
    let shape = shape_of c.args.cache.now in
    subst (λ (op : Op). CallsCache (IsCacheCall op shape.blocks shape.size c.args.b c.args.bytes) c.args.cache.now (step_answer c.flush.result) c.flush.new.cache) (sym c.in-Flush.is) (c.flush.ensures.calls c.args.b c.args.bytes)

pub returns-in-Flush-clause-bytes : goal.returns-in-Flush-clause-bytes
returns-in-Flush-clause-bytes g c =
    subst (λ (op : Op). IfOk c.flush.result (λ stored. stored.bytes ≡ entry_bytes op c.args.bytes stored.faulted)) (sym c.in-Flush.is) (c.flush.ensures.bytes c.args.bytes)
