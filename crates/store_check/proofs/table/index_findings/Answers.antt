use Rattle.std.proofs.Common.{List, sym, ◌∙◌, subst}
use Rattle.image_model.specs.Findings.{Finding, index_findings}
use Rattle.table_file.specs.Faults.{IsIndexAnswer}
use Rattle.store_check.specs.Lists.{IsBegun}
use Rattle.store_check.proofs.Causes.{at_err, cause_given, later_cause, then_more}
use Rattle.store_check.proofs.Counted.{begun_none, index_is_damaged}
use Rattle.store_check.proofs.Joined.{damage_added, findings_there, keys_there, read_there}
use Rattle.store_check.proofs.table.index_findings.Goals as goal

-- the index is damaged

pub returns-in_err-damage-in-Err-clause-begun : goal.returns-in_err-damage-in-Err-clause-begun
returns-in_err-damage-in-Err-clause-begun g c tells = at_err c.from_residual.result _ (begun_none c.args.found.now.items (index_findings c.args.row.now (g.D.Disk.world c.args.disk.now).seen.held) c.requires.none)

pub returns-in_err-add-in-Err-clause-begun : goal.returns-in_err-add-in-Err-clause-begun
returns-in_err-add-in-Err-clause-begun g c tells =
    at_err c.from_residual-in_err-add-in-Err.result _ (begun_none c.add.new.found.items (index_findings c.args.row.now (g.D.Disk.world c.args.disk.now).seen.held) (c.in_err-add-in-Err.ensures.same ∙ c.requires.none))

pub returns-in-Err-clause-found : goal.returns-in-Err-clause-found
returns-in-Err-clause-found g c tells =
    let row = c.args.row.now in
    let held = (g.D.Disk.world c.args.disk.now).seen.held in
    let damage = c.in_ok-damage-in-Err.damage in
    let is = subst (IsIndexAnswer row held) c.in_ok-damage-in-Err.ensures.damage (c.in-Err.ensures.answer tells) in
    damage_added row held damage c.found_by.result c.args.found.now.items c.add.new.found.items c.found_by.ensures c.requires.none c.in_ok-add-in-Err.ensures.added (index_is_damaged row held damage is).0

pub returns-in-Err-clause-index : goal.returns-in-Err-clause-index
returns-in-Err-clause-index g c tells =
    (c.in_ok-damage-in-Err.damage, subst (IsIndexAnswer c.args.row.now (g.D.Disk.world c.args.disk.now).seen.held) c.in_ok-damage-in-Err.ensures.damage (c.in-Err.ensures.answer tells))

pub returns-in-Err-clause-known : goal.returns-in-Err-clause-known
returns-in-Err-clause-known g c tells =
    let row = c.args.row.now in
    let held = (g.D.Disk.world c.args.disk.now).seen.held in
    let is = subst (IsIndexAnswer row held) c.in_ok-damage-in-Err.ensures.damage (c.in-Err.ensures.answer tells) in
    sym (index_is_damaged row held c.in_ok-damage-in-Err.damage is).1

-- the index is read

pub returns-in_err-keys-clause-begun : goal.returns-in_err-keys-clause-begun
returns-in_err-keys-clause-begun g c tells =
    let row = c.args.row.now in
    let held = (g.D.Disk.world c.args.disk.now).seen.held in
    let after = (g.D.Disk.world c.read_index.new.disk).seen.held in
    let x = c.in-Ok.index in
    let same = c.read_index.ensures.moves.held in
    let is = read_there row held after x c.in-Ok.ensures.row same (c.in-Ok.ensures.answer tells) in
    at_err c.from_residual-in_err-keys.result _ (subst (λ (fs : List Finding). IsBegun c.known_findings.new.found.items fs) (findings_there row held after x c.in-Ok.ensures.row same is) (c.in_err-keys.ensures.begun tells is))

pub returns-in_err-keys-clause-cause : goal.returns-in_err-keys-clause-cause
returns-in_err-keys-clause-cause g c =
    cause_given c.from_residual-in_err-keys.result (g.D.Disk.world c.args.disk.now) (g.D.Disk.world c.known_findings.new.disk) c.in_err-keys.field-0.0 c.from_residual-in_err-keys.ensures.1
    (later_cause (g.D.Disk.world c.args.disk.now) (g.D.Disk.world c.read_index.new.disk) (g.D.Disk.world c.known_findings.new.disk) c.in_err-keys.field-0.0 c.read_index.ensures.moves.read_faults c.in_err-keys.ensures.cause)

pub returns-in_err-keys-clause-moves : goal.returns-in_err-keys-clause-moves
returns-in_err-keys-clause-moves g c =
    then_more 1 (g.D.Disk.world c.args.disk.now) (g.D.Disk.world c.read_index.new.disk) (g.D.Disk.world c.known_findings.new.disk) c.read_index.ensures.moves c.known_findings.ensures.moves

pub returns-clause-found : goal.returns-clause-found
returns-clause-found g c tells =
    let row = c.args.row.now in
    let held = (g.D.Disk.world c.args.disk.now).seen.held in
    let after = (g.D.Disk.world c.read_index.new.disk).seen.held in
    let x = c.in-Ok.index in
    let same = c.read_index.ensures.moves.held in
    let is = read_there row held after x c.in-Ok.ensures.row same (c.in-Ok.ensures.answer tells) in
    c.in_ok-keys.ensures.found tells is ∙ findings_there row held after x c.in-Ok.ensures.row same is

pub returns-clause-index : goal.returns-clause-index
returns-clause-index g c tells = (c.in-Ok.ensures.row, c.in-Ok.ensures.answer tells)

pub returns-clause-known : goal.returns-clause-known
returns-clause-known g c tells =
    let row = c.args.row.now in
    let held = (g.D.Disk.world c.args.disk.now).seen.held in
    let after = (g.D.Disk.world c.read_index.new.disk).seen.held in
    let x = c.in-Ok.index in
    let same = c.read_index.ensures.moves.held in
    c.in_ok-keys.ensures.known tells (read_there row held after x c.in-Ok.ensures.row same (c.in-Ok.ensures.answer tells)) ∙ keys_there row held after x c.in-Ok.ensures.row same

pub returns-clause-moves : goal.returns-clause-moves
returns-clause-moves g c =
    then_more 1 (g.D.Disk.world c.args.disk.now) (g.D.Disk.world c.read_index.new.disk) (g.D.Disk.world c.known_findings.new.disk) c.read_index.ensures.moves c.known_findings.ensures.moves
