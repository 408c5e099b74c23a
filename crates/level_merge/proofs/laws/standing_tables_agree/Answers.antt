use Rattle.std.proofs.Common.{refl, sym, ap, ◌∙◌, subst}
use Rattle.level_merge.specs.Plans.{Agrees}
use Rattle.table_model.specs.Tables.{Table}
use Rattle.level_merge.proofs.laws.standing_tables_agree.Goals as goal

pub returns : goal.returns
returns c spelling opened t image held none =
    let read = c.standing_tables_are_read.ensures.blocks spelling opened held.blocks image held.stands in
    let keys = c.standing_tables_are_read.ensures.keys spelling opened held.blocks image held.stands in
    subst (Agrees opened) (sym held.table_is) (record {
      level = refl;
      first_page = refl;
      pages = refl;
      blocks = read.many;
      least = keys.least;
      greatest = keys.greatest;
      no_range = sym (ap (λ (u : Table). u.ranges) held.table_is) ∙ none;
    })
