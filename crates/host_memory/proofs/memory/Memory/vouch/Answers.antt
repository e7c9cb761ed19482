use Rattle.std.proofs.Common.{◌≡◌, ◌≤◌, filter_map, length, true, subst}
use Rattle.std.specs.List.{list_all}
use Rattle.host_frames.specs.{pool_id}
use Rattle.host_model.specs.{count}
use Rattle.host_memory.specs.{attachment_by, page_count_of, is_by_its_hand, is_numbered, is_pin_for, MemoryState, admissions_of, client_of, events, history}
use Rattle.host_memory.proofs.Present.{attached_once, few_pages}
use Rattle.host_memory.proofs.memory.Memory.vouch.Goals as goal

pub returns-clause-numbers : goal.returns-clause-numbers
returns-clause-numbers c = subst (λ (s : MemoryState). list_all (is_numbered (client_of s) (admissions_of s)) s.entries ≡ true) c.self.view_is c.self.invariant.0.numbered.numbers

pub returns-clause-attached : goal.returns-clause-attached
returns-clause-attached c = let m = c.self.inside in
    (λ v. subst (λ (s : MemoryState). length (filter_map (attachment_by v) (history s)) ≤ 1) c.self.view_is (attached_once (pool_id m.pool.value) m.limits.size (events m.entries.items) m.buffers.items c.self.invariant.0.told v))

pub returns-clause-one_pin : goal.returns-clause-one_pin
returns-clause-one_pin c = (λ i. subst (λ (s : MemoryState). count (is_pin_for i) (history s) ≤ 1) c.self.view_is (c.self.invariant.0.sound.one_pin i))

pub returns-clause-done : goal.returns-clause-done
returns-clause-done c = subst (λ (s : MemoryState). list_all (is_by_its_hand (history s)) s.entries ≡ true) c.self.view_is c.self.invariant.0.numbered.hands

pub returns-clause-pages : goal.returns-clause-pages
returns-clause-pages c = let m = c.self.inside in
    (λ v. subst (λ (s : MemoryState). page_count_of v (history s) ≤ 4294967295) c.self.view_is (few_pages (pool_id m.pool.value) m.limits.size (events m.entries.items) m.buffers.items c.self.invariant.0.told v))
