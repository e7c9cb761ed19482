-- What a served client and a finished server leave.
use Rattle.std.proofs.Common.{◌≡◌, ℕ, zero, suc, ◌+◌, ◌<◌, Bool, true, false, ◌&&◌, List, [], ◌∷◌, length, All, Option, Some, refl, sym, ap, ap₂, subst, ◌∙◌, arith}
use Rattle.std.specs.Prelude.{slice_get, is_some, IfSome, IsTrue}
use Rattle.std.proofs.lemmas.Option.{slice_get_within}
use Rattle.host_block.specs.{Change, DiskState, IsImage}
use Rattle.host_device.specs.{Device, DeviceFixed, RoseBy, faulted_count, KeepsHistory, disk_of, fixed_of, image_of, opening_of, shape_of, steps_of}
use Rattle.host_io.specs.{Shape}
use Rattle.host_io.specs.declared.disk.Disk as disk
use Rattle.host_model.specs.{Event, Step, changes_of, sent}
use Rattle.host_play.specs.{KeepsImage}
use Rattle.host_report.specs.{SessionReport}
use Rattle.host_session.specs.{ClientState}
use Rattle.host_worker.specs.{EndsState}
use Rattle.host_worker.proofs.Lists.{each_place}
use Rattle.serve_client.specs.{HasAttended}

pub and_same : (b : Bool) → (b && b) ≡ b
and_same true = refl
and_same false = refl

-- so many records were sent in each of its sessions, which is one
pub all_sent : (ends : EndsState) (count : ℕ) → HasAttended ends count → All (λ (s : SessionReport). length (sent s.log.items) ≡ count) ends.sessions
all_sent ends count h = each_place (λ (s : SessionReport). length (sent s.log.items) ≡ count) ends.sessions (λ k s at. one k s at)
  where
    one : (k : ℕ) (s : SessionReport) → slice_get ends.sessions k ≡ Some s → length (sent s.log.items) ≡ count
    one zero s at = ap (λ (l : List Event). length (sent l)) (h.ended.each zero h.client s refl at).whole.log_is ∙ h.sent_are
    one (suc k) s at = absurd (let n : length ends.sessions ≡ 1 = h.ended.count in omega (arith, slice_get_within ends.sessions (suc k) s at, n))

module _ {D : Type 0} {g : disk.Ghosts D} (device left : Device D g) (fixed : fixed_of left ≡ fixed_of device) (shape : shape_of left ≡ g.shape (opening_of left)) where
  opening_same : opening_of left ≡ opening_of device
  opening_same = ap (λ (f : DeviceFixed D). f.opening.value) fixed

  pub shape_same : shape_of left ≡ shape_of device
  shape_same = shape ∙ (ap g.shape opening_same ∙ sym device.same_shape)

  image_same : image_of left ≡ image_of device
  image_same = ap (λ (d : D). (g.state d).durable) opening_same

  -- the disk's image, and what a crash leaves of it
  pub keeps_image : (blocks size : ℕ) (story : List Step) (end : D) → (shape_of device).blocks ≡ blocks → (shape_of device).size ≡ size → story ≡ (steps_of left).items → end ≡ disk_of left
      → (IsTrue (shape_of left).tells → KeepsHistory left) → IsTrue (shape_of device).tells → KeepsImage (image_of device) blocks size (changes_of story) (g.state end)
  keeps_image blocks size story end blocks_are size_is story_is end_is told tells =
      let k = told (subst (λ (s : Shape). IsTrue s.tells) (sym shape_same) tells) in
      let own : KeepsImage (image_of left) (shape_of left).blocks (shape_of left).size (changes_of (steps_of left).items) (g.state (disk_of left)) = record { blocks_are = k.blocks; size_is = k.size; legal = k.legal; crashes = k.crashes } in
      subst (λ (i : List (List ℕ)). KeepsImage i blocks size (changes_of story) (g.state end)) image_same
      (subst (λ (n : ℕ). KeepsImage (image_of left) n size (changes_of story) (g.state end)) (ap (λ (s : Shape). s.blocks) shape_same ∙ blocks_are)
      (subst (λ (n : ℕ). KeepsImage (image_of left) (shape_of left).blocks n (changes_of story) (g.state end)) (ap (λ (s : Shape). s.size) shape_same ∙ size_is)
      (subst (λ (l : List Step). KeepsImage (image_of left) (shape_of left).blocks (shape_of left).size (changes_of l) (g.state end)) (sym story_is)
      (subst (λ (d : D). KeepsImage (image_of left) (shape_of left).blocks (shape_of left).size (changes_of (steps_of left).items) (g.state d)) (sym end_is) own))))

  -- faults show in its count
  pub faults_shown : (story : List Step) (end : D) → story ≡ (steps_of left).items → end ≡ disk_of left → RoseBy (faulted_count (steps_of left).items) (g.counts (opening_of left)).faults (g.counts (disk_of left)).faults
      → RoseBy (faulted_count story) (g.counts (opening_of device)).faults (g.counts end).faults
  faults_shown story end story_is end_is rose =
      subst (λ (l : List Step). RoseBy (faulted_count l) (g.counts (opening_of device)).faults (g.counts end).faults) (sym story_is)
      (subst (λ (d : D). RoseBy (faulted_count (steps_of left).items) (g.counts d).faults (g.counts end).faults) opening_same
      (subst (λ (d : D). RoseBy (faulted_count (steps_of left).items) (g.counts (opening_of left)).faults (g.counts d).faults) (sym end_is) rose))
