use Rattle.std.proofs.Common.{◌∙◌, ap, sym, ℕ}
use Rattle.std.specs.Prelude.{Option}
use Rattle.std.specs.Option.{option_or}
use Rattle.filter_codec.proofs.Endings.{in_both}
use Rattle.filter_codec.specs.Ends.{wrong_end}
use Rattle.filter_image_model.specs.Levels.{leaf_count_of}
use Rattle.filter_image_model.specs.Reading.{slot_letters}
use Rattle.filter_codec.proofs.ends.wrong_slot.Goals as goal

pub returns-in-Some : goal.returns-in-Some
returns-in-Some g c =
    let t = c.args.packed.now in
    let lower = wrong_end c.args.suffixes.now (leaf_count_of t.dense) (slot_letters t.sparse) in
    sym (in_both c.args.suffixes.now t.dense t.sparse ∙ ap (λ (o : Option ℕ). option_or o lower) (sym c.in-Some.ensures))

pub returns-in-None : goal.returns-in-None
returns-in-None g c =
    let t = c.args.packed.now in
    let lower = wrong_end c.args.suffixes.now (leaf_count_of t.dense) (slot_letters t.sparse) in
    c.wrong_sparse_slot.ensures
    ∙ sym (in_both c.args.suffixes.now t.dense t.sparse ∙ ap (λ (o : Option ℕ). option_or o lower) (sym c.in-None.ensures))
