use Rattle.std.proofs.Common.{◌≡◌, sym, ap, ◌∙◌, List}
use Rattle.entry_model.specs.Entries.{Entry}
use Rattle.entry_model.specs.Newest.{lookup}
use Rattle.block_model.specs.Formats.{Old, format_in}
use Rattle.block_model.proofs.EitherFormat.{old_as_before}
use Rattle.block_format.specs.Walking.{format_of}
use Rattle.block_format.proofs.block.find_any.Goals as goal

pub find_old-requires : goal.find_old-requires
find_old-requires c =
    let old : format_in c.args.bytes.now ≡ Old = sym c.requires.format ∙ ap format_of c.in-Old.is in
    sym (old_as_before c.args.bytes.now old).0 ∙ c.requires.whole

pub returns-in-Old : goal.returns-in-Old
returns-in-Old c =
    let old : format_in c.args.bytes.now ≡ Old = sym c.requires.format ∙ ap format_of c.in-Old.is in
    c.find_old.ensures ∙ ap (λ (es : List Entry). lookup es c.args.key.now) (sym (old_as_before c.args.bytes.now old).1)

pub find_prefixed-requires-clause-format : goal.find_prefixed-requires-clause-format
find_prefixed-requires-clause-format c = sym c.requires.format ∙ ap format_of c.in-Prefixed.is
