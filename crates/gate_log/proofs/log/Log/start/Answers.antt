use Rattle.std.proofs.Common.{◌≡◌, [], ◌∷◌, ◌∙◌, ap, sym, arith}
use Rattle.disk_trait.specs.Image.{Image, overwritten}
use Rattle.disk_trait.proofs.Images.{overwritten_at}
use Rattle.log_model.proofs.Appended.{empty}
use Rattle.gate_log.proofs.log.Log.start.Goals as goal

pub returns-clause-stands : goal.returns-clause-stands
returns-clause-stands g c tells image left =
    let at = c.area_start.result in
    let held = (g.D.Disk.world c.args.disk.now).seen.held in
    let same : image ≡ overwritten held at (0 ∷ []) = c.in_ok-write_through.ensures.durable image left ∙ c.in_ok-write_through.ensures.written tells in
    let byte : image at ≡ 0 = ap (λ (h : Image). h at) same ∙ overwritten_at held at (0 ∷ []) at 0 (omega arith) (omega arith) in
    empty c.args.area image (ap image (sym c.area_start.ensures) ∙ byte)
