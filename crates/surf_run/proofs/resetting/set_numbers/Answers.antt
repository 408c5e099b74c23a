use Rattle.std.proofs.Common.{◌∙◌, ap, subst, sym}
use Rattle.store_core.proofs.InstallRefusals.{moves_within}
use Rattle.store_core.specs.Resetting.{Resets}
use Rattle.surf_run.specs.Kind.{filter_kind}
use Rattle.surf_run.specs.Resetting.{AreInRange, bad_number, renumbered}
use Rattle.surf_run.specs.declared.new_numbers.NewNumbers.{NewNumbers}
use Rattle.surf_run.proofs.NewNumbersSet.{none_bad, refused_as}
use Rattle.surf_run.proofs.resetting.set_numbers.Goals as goal

pub returns-in-Settings-clause-resets : goal.returns-in-Settings-clause-resets
returns-in-Settings-clause-resets g c s tells tied =
    let kind = filter_kind g.F.RangeFilter.spelling g.F.RangeFilter.built_cutoff in
    subst
    (λ (n : NewNumbers). Resets kind.spelling kind.filter_bytes s (renumbered n s) c.set_settings.result c.set_settings.new.self (g.W.Disk.world c.args.out.now) (g.W.Disk.world c.set_settings.new.disk))
    (sym c.in-Settings.is) (c.set_settings.ensures.resets s tells c.requires.running tied)

pub returns-in-Settings-clause-refused : goal.returns-in-Settings-clause-refused
returns-in-Settings-clause-refused g c =
    let m = c.args.store.now.manifest in
    refused_as c.set_settings.result c.args.store.now.stopped _ (bad_number c.args.numbers m.version.pages) m.version.epoch (g.W.Disk.world c.args.out.now) (g.W.Disk.world c.set_settings.new.disk) c.requires.running
    (none_bad c.in-Settings.settings (subst AreInRange c.in-Settings.is c.requires.in_range) ∙ sym (ap (λ (n : NewNumbers). bad_number n m.version.pages) c.in-Settings.is)) c.set_settings.ensures.refused

pub returns-in-Settings-clause-moves : goal.returns-in-Settings-clause-moves
returns-in-Settings-clause-moves g c =
    moves_within c.args.store.now.manifest (g.W.Disk.world c.args.out.now) (g.W.Disk.world c.set_settings.new.disk) c.consistency_law.ensures.slot c.consistency_law.ensures.version c.set_settings.ensures.moves

pub returns-in-Pages-clause-resets : goal.returns-in-Pages-clause-resets
returns-in-Pages-clause-resets g c s tells tied =
    let kind = filter_kind g.F.RangeFilter.spelling g.F.RangeFilter.built_cutoff in
    subst (λ (n : NewNumbers). Resets kind.spelling kind.filter_bytes s (renumbered n s) c.grow.result c.grow.new.self (g.W.Disk.world c.args.out.now) (g.W.Disk.world c.grow.new.disk)) (sym c.in-Pages.is)
    (c.grow.ensures.resets s tells c.requires.running tied)

pub returns-in-Pages-clause-refused : goal.returns-in-Pages-clause-refused
returns-in-Pages-clause-refused g c =
    let m = c.args.store.now.manifest in
    refused_as c.grow.result c.args.store.now.stopped _ (bad_number c.args.numbers m.version.pages) m.version.epoch (g.W.Disk.world c.args.out.now) (g.W.Disk.world c.grow.new.disk) c.requires.running
    (sym (ap (λ (n : NewNumbers). bad_number n m.version.pages) c.in-Pages.is)) c.grow.ensures.refused

pub returns-in-Pages-clause-moves : goal.returns-in-Pages-clause-moves
returns-in-Pages-clause-moves g c =
    moves_within c.args.store.now.manifest (g.W.Disk.world c.args.out.now) (g.W.Disk.world c.grow.new.disk) c.consistency_law.ensures.slot c.consistency_law.ensures.version c.grow.ensures.moves
