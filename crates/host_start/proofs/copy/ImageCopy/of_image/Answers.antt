use Rattle.std.proofs.Common.{◌≡◌, ◌∙◌, ℕ, ◌<◌, List, length, arith, ap, sym, subst}
use Rattle.host_block.specs.{IsOfSize}
use Rattle.host_io.specs.{Shape}
use Rattle.host_start.proofs.CopyLemmas.{copied_image, length-image_in, length-image_of, some_bytes}
use Rattle.host_start.proofs.copy.ImageCopy.of_image.Goals as goal

pub returns-clause-copied : goal.returns-clause-copied
returns-clause-copied g c told =
    let image = g.D.Disk.image_named c.args.disk.now c.args.image.now c.args.size in
    let shape = g.D.Disk.shape c.attach.new.disk in
    let state = g.D.Disk.state c.attach.new.disk in
    let attached = c.in_ok-blocks.ensures.attaches in
    let still_told = attached.tells ∙ told in
    let count : c.in_ok-blocks.blocks ≡ length image = attached.count ∙ attached.blocks told in
    let sized = subst (λ (n : ℕ). IsOfSize shape.blocks n state) attached.of_size (g.met.D.Disk.of_size c.attach.new.disk still_told) in (
      c.of_bytes.ensures.image
          ∙ copied_image c.args.size shape.blocks c.in_ok-blocks.blocks image c.in_ok-bytes.bytes.items state (some_bytes c.args.size c.bytes-bytes.result c.bytes-bytes.ensures.value c.bytes-bytes.ensures.allowed) (attached.content told) sized count (c.in_ok-bytes.ensures.bytes still_told),
      omega (arith, c.in_ok-blocks.ensures.few, count),
    )

pub returns-clause-few : goal.returns-clause-few
returns-clause-few g c =
    let some : 0 < c.args.size = some_bytes c.args.size c.bytes-bytes.result c.bytes-bytes.ensures.value c.bytes-bytes.ensures.allowed in
    let cut = length-image_of c.args.size c.in_ok-blocks.blocks c.in_ok-bytes.bytes.items some c.in_ok-bytes.ensures.length in
    let same = sym (length-image_in c.of_bytes.result) ∙ ap (λ (l : List (List ℕ)). length l) c.of_bytes.ensures.image ∙ cut in
    omega (arith, same, c.in_ok-blocks.ensures.few)

pub returns-clause-counted : goal.returns-clause-counted
returns-clause-counted g c =
    let some : 0 < c.args.size = some_bytes c.args.size c.bytes-bytes.result c.bytes-bytes.ensures.value c.bytes-bytes.ensures.allowed in
    let cut = length-image_of c.args.size c.in_ok-blocks.blocks c.in_ok-bytes.bytes.items some c.in_ok-bytes.ensures.length in
    let same = sym (length-image_in c.of_bytes.result) ∙ ap (λ (l : List (List ℕ)). length l) c.of_bytes.ensures.image ∙ cut in
    same ∙ c.in_ok-blocks.ensures.attaches.count ∙ sym (ap (λ (s : Shape). s.blocks) c.in_ok-bytes.ensures.shape)
