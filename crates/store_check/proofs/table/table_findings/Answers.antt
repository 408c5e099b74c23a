use Rattle.std.proofs.Common.{◌∙◌}
use Rattle.image_model.specs.Findings.{index_findings, known_keys}
use Rattle.store_check.proofs.Causes.{at_err, cause_given, later_cause, one_more}
use Rattle.store_check.proofs.Counted.{begun_whole}
use Rattle.store_check.proofs.Joined.{adds_there}
use Rattle.store_check.proofs.table.table_findings.Goals as goal

pub returns-clause-found : goal.returns-clause-found
returns-clause-found g c tells =
    let f = g.F.RangeFilter in
    let row = c.args.row.now in
    let held = (g.D.Disk.world c.args.disk.now).seen.held in
    let after = (g.D.Disk.world c.index_findings.new.disk).seen.held in
    adds_there f.spelling f.first_fault row _ (known_keys row held) held after (index_findings row held) c.index_findings.new.found.items c.filter_findings.new.found.items
    (c.in_ok-index.ensures.known tells) c.index_findings.ensures.moves.1.held (c.in_ok-index.ensures.found tells) (c.in_ok-filter_findings.ensures.found tells)

pub returns-in_err-filter_findings-clause-begun : goal.returns-in_err-filter_findings-clause-begun
returns-in_err-filter_findings-clause-begun g c tells =
    at_err c.from_residual-in_err-filter_findings.result _
    (begun_whole c.filter_findings.new.found.items (index_findings c.args.row.now (g.D.Disk.world c.args.disk.now).seen.held) (c.in_err-filter_findings.ensures.same ∙ c.in_ok-index.ensures.found tells))

pub returns-in_err-filter_findings-clause-cause : goal.returns-in_err-filter_findings-clause-cause
returns-in_err-filter_findings-clause-cause g c =
    cause_given c.from_residual-in_err-filter_findings.result (g.D.Disk.world c.args.disk.now) (g.D.Disk.world c.filter_findings.new.disk) c.in_err-filter_findings.field-0.0 c.from_residual-in_err-filter_findings.ensures.1
    (later_cause (g.D.Disk.world c.args.disk.now) (g.D.Disk.world c.index_findings.new.disk) (g.D.Disk.world c.filter_findings.new.disk) c.in_err-filter_findings.field-0.0 c.index_findings.ensures.moves.1.read_faults c.in_err-filter_findings.ensures.cause)

pub returns-in_err-filter_findings-clause-moves : goal.returns-in_err-filter_findings-clause-moves
returns-in_err-filter_findings-clause-moves g c =
    one_more 1 (g.D.Disk.world c.args.disk.now) (g.D.Disk.world c.index_findings.new.disk) (g.D.Disk.world c.filter_findings.new.disk) c.index_findings.ensures.moves c.filter_findings.ensures.moves

pub returns-clause-moves : goal.returns-clause-moves
returns-clause-moves g c =
    one_more 1 (g.D.Disk.world c.args.disk.now) (g.D.Disk.world c.index_findings.new.disk) (g.D.Disk.world c.filter_findings.new.disk) c.index_findings.ensures.moves c.filter_findings.ensures.moves
