use Rattle.std.proofs.Common.{◌≡◌, ◌+◌, ◌-◌, ◌++◌, length, take, drop, sym, ap, ◌∙◌}
use Rattle.std.proofs.lemmas.List.{length-drop, take_rest, length-take-le}
use Rattle.disk_trait.specs.Image.{window}
use Rattle.disk_trait.proofs.Calls.{on_ok_one}
use Rattle.manifest.proofs.Loads.{filled_head, filled_rest, filled_size}
use Rattle.manifest.proofs.loading.fill.Goals as goal

pub copy_from_slice-requires : goal.copy_from_slice-requires
copy_from_slice-requires g c = length-take-le 64 c.args.body.now c.requires.long ∙ sym c.requires.head

pub returns-clause-head : goal.returns-clause-head
returns-clause-head g c = filled_head c.args.head.now c.copy_from_slice.new.self c.args.body.now _ c.copy_from_slice.ensures.after c.requires.head

pub returns-clause-rest : goal.returns-clause-rest
returns-clause-rest g c tells =
    let head = c.args.head.now in
    let part = c.copy_from_slice.new.self in
    let old = c.args.body.now in
    let now = part ++ drop 64 old in
    let held = (g.D.Disk.world c.args.disk.now).seen.held in
    let whole = filled_size head part old c.copy_from_slice.ensures.after c.requires.head c.requires.long in
    let size : length (take (length now - 64) (drop 64 now)) ≡ length old - 64 = ap length (take_rest now 64) ∙ length-drop 64 now ∙ ap (λ n. n - 64) whole in
    on_ok_one _ _ c.read.result
    (λ read. filled_rest head part old c.read.new.into c.copy_from_slice.ensures.after c.requires.head c.requires.long ∙ read ∙ ap (window held (c.args.at + 64)) size)
    (c.read.ensures.bytes tells)
