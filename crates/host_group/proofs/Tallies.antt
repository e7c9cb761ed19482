-- Tallies are put together in any order, and what holds of each.
use Rattle.std.proofs.Common.{◌≡◌, ℕ, ◌+◌, ◌/◌, ◌≤◌, refl, ap₂, arith}
use Rattle.std.specs.Prelude.{min, max, Bool, true, false}
use Rattle.std.proofs.Math.Nat.{min_comm}
use Rattle.host_group.specs.{Row, Progress, Unsettled, Last, TookError, TookDeviceFront, TookMemoryFront, TookClosing, Ended, Passed, Tally, nothing, both, unsettled_of, ending_of, ended_of, error_out_of, device_front_out_of, memory_front_out_of, closing_out_of, told_number, if_last, tally_of, bit, name_of}

min_assoc : (a b c : ℕ) → min (min a b) c ≡ min a (min b c)
min_assoc a b c = omega arith

max_assoc : (a b c : ℕ) → max (max a b) c ≡ max a (max b c)
max_assoc a b c = omega arith

max_comm : (a b : ℕ) → max a b ≡ max b a
max_comm a b = omega arith

plus_assoc : (a b c : ℕ) → (a + b) + c ≡ a + (b + c)
plus_assoc a b c = omega arith

plus_comm : (a b : ℕ) → a + b ≡ b + a
plus_comm a b = omega arith

pub both_assoc : (a b c : Tally) → both (both a b) c ≡ both a (both b c)
both_assoc a b c = λ i. record {
  rows = plus_assoc a.rows b.rows c.rows i;
  unsettled = plus_assoc a.unsettled b.unsettled c.unsettled i;
  ending = plus_assoc a.ending b.ending c.ending i;
  ended = plus_assoc a.ended b.ended c.ended i;
  closers = plus_assoc a.closers b.closers c.closers i;
  closing = plus_assoc a.closing b.closing c.closing i;
  error = min_assoc a.error b.error c.error i;
  device_front = max_assoc a.device_front b.device_front c.device_front i;
  memory_front = max_assoc a.memory_front b.memory_front c.memory_front i;
  error_out = plus_assoc a.error_out b.error_out c.error_out i;
  device_front_out = plus_assoc a.device_front_out b.device_front_out c.device_front_out i;
  memory_front_out = plus_assoc a.memory_front_out b.memory_front_out c.memory_front_out i;
  closing_out = plus_assoc a.closing_out b.closing_out c.closing_out i;
  end_error = plus_assoc a.end_error b.end_error c.end_error i;
  end_device_front = plus_assoc a.end_device_front b.end_device_front c.end_device_front i;
  end_memory_front = plus_assoc a.end_memory_front b.end_memory_front c.end_memory_front i;
  end_closing = plus_assoc a.end_closing b.end_closing c.end_closing i;
  end_count = plus_assoc a.end_count b.end_count c.end_count i;
}

pub both_comm : (a b : Tally) → both a b ≡ both b a
both_comm a b = λ i. record {
  rows = plus_comm a.rows b.rows i;
  unsettled = plus_comm a.unsettled b.unsettled i;
  ending = plus_comm a.ending b.ending i;
  ended = plus_comm a.ended b.ended i;
  closers = plus_comm a.closers b.closers i;
  closing = plus_comm a.closing b.closing i;
  error = min_comm a.error b.error i;
  device_front = max_comm a.device_front b.device_front i;
  memory_front = max_comm a.memory_front b.memory_front i;
  error_out = plus_comm a.error_out b.error_out i;
  device_front_out = plus_comm a.device_front_out b.device_front_out i;
  memory_front_out = plus_comm a.memory_front_out b.memory_front_out i;
  closing_out = plus_comm a.closing_out b.closing_out i;
  end_error = plus_comm a.end_error b.end_error i;
  end_device_front = plus_comm a.end_device_front b.end_device_front i;
  end_memory_front = plus_comm a.end_memory_front b.end_memory_front i;
  end_closing = plus_comm a.end_closing b.end_closing i;
  end_count = plus_comm a.end_count b.end_count i;
}

pub both_nothing : both nothing nothing ≡ nothing
both_nothing = refl

-- what holds of each tally of rows
pub record Sound (t : Tally) : Type 0 where
  pub some : t.unsettled + t.ending ≤ t.rows
  pub error : t.error_out ≤ t.ending
  pub device_front : t.device_front_out ≤ t.ending
  pub memory_front : t.memory_front_out ≤ t.ending
  pub closing : t.closing_out ≤ t.ending
  pub quiet : t.ending ≡ 0 → t.ended ≡ 0 → (t.end_error ≡ 0) × (t.end_device_front ≡ 0) × (t.end_memory_front ≡ 0) × (t.end_closing ≡ 0) × (t.end_count ≡ 0)
  pub unnamed : t.closers ≡ 0 → t.closing ≡ 0

pub sound_nothing : Sound nothing
sound_nothing = record { some = omega arith; error = omega arith; device_front = omega arith; memory_front = omega arith; closing = omega arith; quiet = λ _ _. (refl, refl, refl, refl, refl); unnamed = λ _. refl }

pub sound_both : (a b : Tally) → Sound a → Sound b → Sound (both a b)
sound_both a b p q = let ps = p.some in let qs = q.some in let pl = p.error in let ql = q.error in let pd = p.device_front in let qd = q.device_front in let pm = p.memory_front in let qm = q.memory_front in let pc = p.closing in let qc = q.closing in record {
  some = omega arith;
  error = omega arith;
  device_front = omega arith;
  memory_front = omega arith;
  closing = omega arith;
  quiet = λ x y. let h = p.quiet (omega arith) (omega arith) in let k = q.quiet (omega arith) (omega arith) in (ap₂ (λ (i j : ℕ). i + j) h.0 k.0, ap₂ (λ (i j : ℕ). i + j) h.1 k.1, ap₂ (λ (i j : ℕ). i + j) h.2 k.2, ap₂ (λ (i j : ℕ). i + j) h.3 k.3, ap₂ (λ (i j : ℕ). i + j) h.4 k.4);
  unnamed = λ x. ap₂ (λ (i j : ℕ). i + j) (p.unnamed (omega arith)) (q.unnamed (omega arith));
}

some_of : (p : Progress) → unsettled_of p + ending_of p ≤ 1
some_of Unsettled = omega arith
some_of Last = omega arith
some_of TookError = omega arith
some_of TookDeviceFront = omega arith
some_of TookMemoryFront = omega arith
some_of TookClosing = omega arith
some_of Ended = omega arith
some_of Passed = omega arith

least_of : (p : Progress) → error_out_of p ≤ ending_of p
least_of Unsettled = omega arith
least_of Last = omega arith
least_of TookError = omega arith
least_of TookDeviceFront = omega arith
least_of TookMemoryFront = omega arith
least_of TookClosing = omega arith
least_of Ended = omega arith
least_of Passed = omega arith

device_of : (p : Progress) → device_front_out_of p ≤ ending_of p
device_of Unsettled = omega arith
device_of Last = omega arith
device_of TookError = omega arith
device_of TookDeviceFront = omega arith
device_of TookMemoryFront = omega arith
device_of TookClosing = omega arith
device_of Ended = omega arith
device_of Passed = omega arith

memory_of : (p : Progress) → memory_front_out_of p ≤ ending_of p
memory_of Unsettled = omega arith
memory_of Last = omega arith
memory_of TookError = omega arith
memory_of TookDeviceFront = omega arith
memory_of TookMemoryFront = omega arith
memory_of TookClosing = omega arith
memory_of Ended = omega arith
memory_of Passed = omega arith

closing_of : (p : Progress) → closing_out_of p ≤ ending_of p
closing_of Unsettled = omega arith
closing_of Last = omega arith
closing_of TookError = omega arith
closing_of TookDeviceFront = omega arith
closing_of TookMemoryFront = omega arith
closing_of TookClosing = omega arith
closing_of Ended = omega arith
closing_of Passed = omega arith

quiet_of : (p : Progress) (n : ℕ) → ending_of p ≡ 0 → ended_of p ≡ 0 → told_number p n ≡ 0
quiet_of Unsettled n x y = refl
quiet_of Last n x y = absurd (omega arith)
quiet_of TookError n x y = absurd (omega arith)
quiet_of TookDeviceFront n x y = absurd (omega arith)
quiet_of TookMemoryFront n x y = absurd (omega arith)
quiet_of TookClosing n x y = absurd (omega arith)
quiet_of Ended n x y = absurd (omega arith)
quiet_of Passed n x y = refl

unnamed_of : (b : Bool) (n : ℕ) → bit b ≡ 0 → if_last b n ≡ 0
unnamed_of true n x = absurd (omega arith)
unnamed_of false n x = refl

pub sound_tally : (r : Row) → Sound (tally_of r)
sound_tally r = record {
  some = some_of r.progress;
  error = least_of r.progress;
  device_front = device_of r.progress;
  memory_front = memory_of r.progress;
  closing = closing_of r.progress;
  quiet = λ x y. (quiet_of r.progress r.end_error x y, quiet_of r.progress r.end_device_front x y, quiet_of r.progress r.end_memory_front x y, quiet_of r.progress r.end_closing x y, quiet_of r.progress (r.found / 256) x y);
  unnamed = λ x. unnamed_of r.member.last (name_of r.member) x;
}
