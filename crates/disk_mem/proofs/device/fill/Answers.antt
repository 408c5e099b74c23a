use Rattle.std.proofs.Common.{◌≡◌, length, ℕ, sym, ap, ◌∙◌, arith}
use Rattle.disk_trait.specs.World.{window}
use Rattle.disk_trait.proofs.Images.{window_is}
use Rattle.disk_mem.specs.Bytes.{image_of}
use Rattle.disk_mem.proofs.device.fill.Goals as goal

pub returns : goal.returns
returns c =
    let size : length c.loop-i.into ≡ length c.args.into.now = c.loop-i.auto.into in
    let shown = window_is (image_of c.args.bytes.now) c.args.at c.loop-i.into (λ k lt. sym (c.loop-i.invariant k (omega (arith, size, lt)))) in
    sym shown ∙ ap (λ (n : ℕ). window (image_of c.args.bytes.now) c.args.at n) size
