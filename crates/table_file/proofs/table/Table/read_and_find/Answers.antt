use Rattle.std.proofs.Common.{rules}
use Rattle.table_file.proofs.Stands.{not_damaged}
use Rattle.table_file.proofs.table.Table.read_and_find.Goals as goal

pub returns-in_err-found-clause-undamaged : goal.returns-in_err-found-clause-undamaged
returns-in_err-found-clause-undamaged g c blocks tells some s =
    let here = not_damaged g.F.RangeFilter.spelling c.args.self.now blocks _ s c.args.key.now c.args.n some _ (c.in_ok-size.ensures.bytes tells) c.in_err-found.field-0.0 c.in_err-found.ensures.damaged in
    search rules
