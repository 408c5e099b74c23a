use Rattle.std.proofs.Common.{◌∙◌, sym}
use Rattle.table_file.proofs.Walks.{both_same, one_read}
use Rattle.table_file.proofs.cursor.TableCursor.fill.Goals as goal

pub returns-then-due-clause-same : goal.returns-then-due-clause-same
returns-then-due-clause-same g c tells =
    both_same c.args.table.now (g.D.Disk.world c.args.disk.now).seen.held c.args.self.now c.load.new.self (sym c.due.ensures.due ∙ c.if-due.true) c.load.result
    c.load.ensures.bound c.load.ensures.same_block c.load.ensures.emptied c.load.ensures.begun c.load.ensures.next_block (c.load.ensures.entries tells)

pub returns-then-due-clause-one : goal.returns-then-due-clause-one
returns-then-due-clause-one g c tells due well =
    one_read c.args.table.now (g.D.Disk.world c.args.disk.now).seen.held c.args.self.now c.load.new.self due c.load.result c.load.ensures.next_block (c.load.ensures.entries tells) well
