-- The facts of a device, and what a step makes of them.
use Rattle.std.proofs.Common.{◌≡◌, ℕ, ◌<◌, false, IsTrue, Result, Ok, Err, List, [], ◌++◌, length, sym, ◌∙◌, ap, subst, arith}
use Rattle.std.proofs.lemmas.List.{map-append}
use Rattle.std.proofs.lemmas.List.Elements.{All-from_get_or}
use Rattle.std.specs.Prelude.{OnOk}
use Rattle.host_block.specs.{Op, Flush, Change, is_flush, IsCrashImage, IsCurrent, Keeps, DiskState, block_at, IsCrashOf, IsImage, IsOfSize}
use Rattle.host_log.specs.{SwitchedLog}
use Rattle.host_io.specs.{Shape}
use Rattle.host_io.specs.declared.disk.Disk as disk
use Rattle.host_cache.specs.{shape_of, Cache}
use Rattle.host_model.specs.{Step, change_of, changes_of}
use Rattle.host_device.specs.{Device, StepError, Owner, step_entry, CallsCache, HasContentBy, AreGiven, IsCacheCall, CrashesLeave, IsOnDisk, entries_added, cache_of, image_of, history_of}
use Rattle.host_device.proofs.CrashLemmas.{keeps_there, crash_kept, crashes_along}
use Rattle.host_device.proofs.HistoryLemmas.{crash_after_flush_proof}
use Rattle.host_device.proofs.StepLemmas.{Told, step_told, along}

module _ {D : Type 0} {g : disk.Ghosts D} (of_size : (d : D) → IsTrue (g.shape d).tells → IsOfSize (g.shape d).blocks (g.shape d).size (g.state d)) where
  module _ (device : Device D g) (told : IsTrue (shape_of (cache_of device)).tells) where
    opening_is : IsOfSize (shape_of (cache_of device)).blocks (shape_of (cache_of device)).size (g.state device.opening.value)
    opening_is =
        subst (λ (sh : Shape). IsOfSize sh.blocks sh.size (g.state device.opening.value)) (sym device.same_shape)
        (of_size device.opening.value (subst (λ (sh : Shape). IsTrue sh.tells) device.same_shape told))

    pub blocks_are : length (image_of device) ≡ (shape_of (cache_of device)).blocks
    blocks_are = opening_is.count

    pub sized : (k : ℕ) → k < length (image_of device) → length (block_at (image_of device) k) ≡ (shape_of (cache_of device)).size
    sized k below = opening_is.each k (omega (arith, below, blocks_are))

    pub told_of : Told (image_of device) (history_of device) (cache_of device)
    told_of = record { legal = device.legal told; current = device.current told; keeps = keeps_there (image_of device) (history_of device) (g.state (cache_of device).disk) (device.kept told) }

    pub image_is : IsImage (shape_of (cache_of device)).size (image_of device)
    image_is = All-from_get_or (λ (block : List ℕ). length block ≡ (shape_of (cache_of device)).size) (image_of device) [] sized

    pub crash_of : (left : List (List ℕ)) → IsCrashOf (g.state (cache_of device).disk) left → IsCrashImage (image_of device) (history_of device) left
    crash_of left crash = crash_kept (image_of device) (history_of device) (g.state (cache_of device).disk) left told_of.keeps crash

    module _ (op : Op) (b : ℕ) (given : List ℕ) (new : Cache D g) (owner : Owner) (answer : Result Unit StepError) (on : IsOnDisk op b (shape_of (cache_of device)).blocks)
        (ran : CallsCache (IsCacheCall op (shape_of (cache_of device)).blocks (shape_of (cache_of device)).size b given) (cache_of device) answer new) where
      pub crashes : CrashesLeave (IsCrashImage (image_of device) (history_of device)) ran.runs.calls (g.state (cache_of device).disk) (g.state new.disk)
      crashes =
          crashes_along (image_of device) (history_of device) ran.runs.calls (g.state (cache_of device).disk) (g.state new.disk)
          (along (image_of device) (history_of device) op b given (cache_of device) new told blocks_are sized on told_of answer ran)

      pub stepped : (steps : SwitchedLog Step) → steps ≡ record { items = device.steps.items ++ entries_added answer (step_entry owner op b given); room = device.steps.room; kept = device.steps.kept }
          → AreGiven (changes_of (entries_added answer (step_entry owner op b given))) (cache_of device) → HasContentBy (changes_of (entries_added answer (step_entry owner op b given))) (cache_of device) new
          → Told (image_of device) (changes_of steps.items) new
      stepped steps entry gives content =
          let added = entries_added answer (step_entry owner op b given) in
          let longer : changes_of steps.items ≡ history_of device ++ changes_of added = ap (λ (s : SwitchedLog Step). changes_of s.items) entry ∙ map-append change_of device.steps.items added in
          subst (λ (h : List Change). Told (image_of device) h new) (sym longer)
          (step_told (image_of device) (history_of device) op b given (cache_of device) new told blocks_are sized on told_of owner.hand owner.session owner.index owner.k answer ran gives content)

-- after a flush that didn't fail a crash leaves the content
pub flushed : (image : List (List ℕ)) (history after : List Change) (s : DiskState) (told : Type 0) (op : Op) (b : ℕ) (given : List ℕ) (owner : Owner) (answer : Result Unit StepError)
    → after ≡ history ++ changes_of (entries_added answer (step_entry owner op b given)) → (told → Keeps image after s)
    → OnOk answer (op ≡ Flush → told → (left : List (List ℕ)) → IsCrashOf s left → IsCurrent image after (block_at left))
flushed image history after s told op b given owner (Err e) longer keeps = tt
flushed image history after s told op b given owner (Ok x) longer keeps = λ is t left crash.
    let flush = change_of (step_entry owner op b given false) in
    subst (λ (h : List Change). IsCurrent image h (block_at left)) (sym longer)
    (crash_after_flush_proof image history flush left (ap is_flush is) (subst (λ (h : List Change). IsCrashImage image h left) longer (crash_kept image after s left (keeps t) crash)))
