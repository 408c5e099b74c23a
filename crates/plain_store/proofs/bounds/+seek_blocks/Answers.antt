use Rattle.std.proofs.Common.{◌∙◌, ap}
use Rattle.std.specs.Option.{option_map_or}
use Rattle.filter_model.specs.Strings.{is_before}
use Rattle.state_model.proofs.Looks.{looks_from}
use Rattle.state_model.specs.View.{state_map}
use Rattle.plain_store.proofs.bounds.+seek_blocks.Goals as goal

pub admits_range-requires : goal.admits_range-requires
admits_range-requires g t c =
    ap (λ k. is_before k c.args.lo.now) (c.looks_to.ensures ∙ ap (λ o. option_map_or (λ pair. pair.0) o c.args.hi.now) c.requires.answer)
    ∙ looks_from (state_map c.args.state.now) c.args.lo.now c.args.hi.now c.requires.order
