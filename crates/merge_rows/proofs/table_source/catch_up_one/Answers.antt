use Rattle.std.proofs.Common.{get_or, refl}
use Rattle.std.proofs.lemmas.Option.{slice_get-get_or}
use Rattle.merge_rows.proofs.FirstFills.{number_here}
use Rattle.merge_rows.proofs.table_source.catch_up_one.Goals as goal

pub catch_up-requires : goal.catch_up-requires
catch_up-requires g c =
    let here = number_here c.args.tables.now.tables c.args.walks.now c.args.at c.index-walks-at.result c.requires.there c.requires.known in
    record { there = here.0; room = here.1 }

pub returns : goal.returns
returns g c = record {
  from = get_or c.args.walks.now c.args.at c.index-walks-at.result;
  to = c.catch_up.new.self;
  there = slice_get-get_or c.args.walks.now c.args.at c.index-walks-at.result c.requires.there;
  set = refl;
  one = c.catch_up.ensures;
}
