use Rattle.host_device.proofs.DeviceLemmas.{blocks_are, image_is, crash_of}
use Rattle.host_device.proofs.device.Device.keeps_history.Goals as goal

pub returns-clause-told : goal.returns-clause-told
returns-clause-told g c told =
    let device = c.args.self.now in
    let of_size = g.met.D.Disk.of_size in
    record {
      blocks = blocks_are of_size device told;
      size = image_is of_size device told;
      legal = device.legal told;
      current = device.current told;
      crashes = crash_of of_size device told;
    }
