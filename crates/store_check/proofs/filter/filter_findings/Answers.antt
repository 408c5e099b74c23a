use Rattle.std.proofs.Common.{subst}
use Rattle.table_file.specs.Faults.{IsFilterAnswer}
use Rattle.store_check.proofs.Filters.{of_damage, of_sound}
use Rattle.store_check.proofs.filter.filter_findings.Goals as goal

pub returns-in-Err-clause-found : goal.returns-in-Err-clause-found
returns-in-Err-clause-found g c tells =
    let f = g.F.RangeFilter in
    let row = c.args.row.now in
    let held = (g.D.Disk.world c.args.disk.now).seen.held in
    let damage = c.in_ok-damage-in-Err.damage in
    let is = subst (IsFilterAnswer f.spelling f.first_fault row held) c.in_ok-damage-in-Err.ensures.damage (c.in-Err.ensures.answer tells) in
    of_damage f.spelling f.first_fault row held c.args.found.now.items c.add.new.found.items c.args.keys damage c.found_by.result is c.found_by.ensures c.in_ok-add-in-Err.ensures.added

pub returns-clause-found : goal.returns-clause-found
returns-clause-found g c tells =
    let f = g.F.RangeFilter in
    let row = c.args.row.now in
    let held = (g.D.Disk.world c.args.disk.now).seen.held in
    of_sound f.spelling f.first_fault row held c.args.found.now.items c.add-2.new.found.items c.args.keys _ _ (c.in-Ok.ensures.answer tells) c.in_ok-finding.ensures c.in_ok-add.ensures.added
