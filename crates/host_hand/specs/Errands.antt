-- A record that a hand is to carry out.
use Rattle.std.specs.Prelude.{◌≡◌, ℕ, ◌+◌, Bool, false, if◌then◌else◌, List, [], ◌∷◌, ◌++◌, map}
use Rattle.host_block.specs.declared.op.Op.{Op}
use Rattle.host_block.specs.declared.op.Op.TheVariants.{Write}
use Rattle.host_model.specs.declared.step.Step.{Step}
use Rattle.host_model.specs.Carrying.{Ask, flush_ask}
use Rattle.host_model.specs.Lists.{below}
use Rattle.host_record.specs.Command.{is_forced}
use Rattle.host_record.specs.Request.{request_of}
use Rattle.host_rings.specs.declared.envelope.Envelope.{Envelope}
use Rattle.host_session.specs.declared.spec.SessionSpec.{SessionSpec}
use Rattle.host_hand.specs.declared.errand.Errand.{Errand}

-- the record in this envelope, for a hand at a session
abbrev pub errand_of : ℕ → SessionSpec → Envelope → Errand
errand_of hand spec envelope = record {
  hand = hand;
  session = spec.number;
  part = spec.part;
  size = spec.size;
  index = envelope.index;
  device_front = envelope.device_front;
  memory_front = envelope.memory_front;
  request = request_of envelope.bytes;
}

-- the step on its block k
abbrev pub ask_at : Errand → Op → ℕ → Ask
ask_at e op k = record { k = k; op = op; block = e.part.first + e.request.dev_offset + k }

-- the steps on its first n blocks
abbrev pub asks_upto : Errand → Op → ℕ → List Ask
asks_upto e op n = map (ask_at e op) (below n)

-- whether a flush comes after its blocks, as after those of a forced write
abbrev pub flushes_after : Errand → Op → Bool
flushes_after e Write = is_forced e.request
flushes_after e _ = false

-- all steps of a transfer: one on each block, and that flush
abbrev pub errand_asks : Errand → Op → List Ask
errand_asks e op =
    asks_upto e op e.request.length
    ++ (if flushes_after e op then flush_ask e.request.length ∷ [] else [])

-- a step that was made for it
pub record IsStepFor (e : Errand) (step : Step) : Type 0 where
  pub hand : step.hand ≡ e.hand
  pub session : step.session ≡ e.session
  pub index : step.index ≡ e.index
