use Rattle.std.proofs.Common.{[], refl, ◌∙◌, sym}
use Rattle.entry_model.specs.Newest.{newest_entries}
use Rattle.entry_model.proofs.Newest.{newest_more, rises_after, lookup_newest, one_list}
use Rattle.entry_model.proofs.laws.newest_laws.Goals as goal

pub returns : goal.returns
returns c = record {
  none = refl;
  more = newest_more;
  rises = λ entries. rises_after [] entries tt;
  says = lookup_newest;
  alone = λ entries others rises says. one_list others (newest_entries entries) rises (rises_after [] entries tt) (λ key. says key ∙ sym (lookup_newest entries key));
}
