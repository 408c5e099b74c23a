use Rattle.std.proofs.Common.{◌≡◌, ◌∙◌, sym, ap, length, drop}
use Rattle.std.proofs.lemmas.List.{take_at}
use Rattle.disk_trait.specs.Image.{window}
use Rattle.disk_trait.proofs.Images.{window_size}
use Rattle.log_model.specs.Area.{start_of, area_size, area_in}
use Rattle.log_model.proofs.Logs.{size_is}
use Rattle.gate_log.proofs.log.read_area.Goals as goal

pub returns-clause-bytes : goal.returns-clause-bytes
returns-clause-bytes g c tells =
    let held = (g.D.Disk.world c.args.disk.now).seen.held in
    let into = c.read.new.into in
    let size : length c.deref_mut.result.now ≡ area_size = c.deref_mut.ensures.len ∙ c.in_ok-bytes.ensures.len ∙ sym size_is in
    let read : into ≡ area_in c.args.area held = c.in_ok-read.ensures.bytes tells ∙ (λ i. window held (c.area_start.ensures i) (size i)) in
    let long : length into ≡ c.in_ok-bytes.bytes.len = ap length read ∙ window_size held (start_of c.args.area) area_size ∙ size_is ∙ sym c.in_ok-bytes.ensures.len in
    take_at into (drop (length into) c.in_ok-bytes.bytes.items) c.in_ok-bytes.bytes.len long ∙ read
