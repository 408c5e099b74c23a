use Rattle.std.proofs.Common.{◌≡◌, ◌<◌, ◌-◌, length, sym, subst, arith}
use Rattle.level_merge.specs.Outlines.{outline, outline_of}
use Rattle.level_merge.proofs.Outlines.{outline_at}
use Rattle.level_merge.proofs.bounds.table_of.Goals as goal

pub returns : goal.returns
returns g c =
    let tables = c.args.tables.now in
    let number = c.args.number in
    let place = length tables - 1 - number in
    let less : number < length tables = c.requires in
    let here : length tables - 1 - place ≡ number = omega arith in
    let within : place < length tables = omega arith in
    sym (subst (λ n. outline_of tables number ≡ outline n c.index-tables-tables.result) here (outline_at tables place c.index-tables-tables.result within c.index-tables-tables.is))
