use Rattle.std.proofs.Common.{◌≡◌, ◌∙◌, rules}
use Rattle.std.specs.Prelude.{Some}
use Rattle.manifest_model.specs.Slots.{slots_damage}
use Rattle.store_check.proofs.Started.{damaged_left, fresh_left, fresh_of}
use Rattle.store_check.proofs.Parts.{sound_start}
use Rattle.store_check.proofs.check.Check.start.Goals as goal

pub at-requires : goal.at-requires
at-requires g c = record { sound = λ m same. sound_start c.in-Ok.version m c.in-Ok.ensures.sound c.in-Ok.ensures.slot same }

pub returns-in-Ok-clause-of : goal.returns-in-Ok-clause-of
returns-in-Ok-clause-of g c tells =
    let e = c.at.ensures in
    fresh_of (g.D.Disk.world c.args.disk.now).seen.held c.at.result c.in-Ok.version e.version e.stage e.order (c.in-Ok.ensures.answer tells)

pub returns-in-Ok-clause-all : goal.returns-in-Ok-clause-all
returns-in-Ok-clause-all g c spelling first findings tells left =
    let e = c.at.ensures in
    fresh_left (g.D.Disk.world c.args.disk.now).seen.held c.at.result spelling first findings c.in-Ok.version e.version e.stage e.order (e.waiting ∙ c.new.ensures.items) (c.in-Ok.ensures.answer tells) left

pub returns-in_ok-found-in-Err-Damaged-clause-all : goal.returns-in_ok-found-in-Err-Damaged-clause-all
returns-in_ok-found-in-Err-Damaged-clause-all g c spelling first findings tells left =
    let held = (g.D.Disk.world c.args.disk.now).seen.held in
    let e = c.at-in-Err-Damaged.ensures in
    let is : slots_damage held ≡ Some c.in-Err-Damaged.damage = search rules in
    damaged_left held c.at-in-Err-Damaged.result spelling first findings c.in-Err-Damaged.damage e.version (e.waiting ∙ c.in_ok-found-in-Err-Damaged.ensures) is left
