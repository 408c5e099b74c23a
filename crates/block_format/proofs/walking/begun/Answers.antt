use Rattle.std.proofs.Common.{◌≡◌, sym, ap, ◌∙◌, subst, arith}
use Rattle.block_model.specs.Formats.{Prefixed, format_in}
use Rattle.block_format.specs.Walking.{BeginsFor, format_of}
use Rattle.block_format.specs.declared.walk.EntryWalk.{EntryWalk}
use Rattle.block_format.proofs.Begun.{begins_all, begins_group}
use Rattle.block_format.proofs.walking.begun.Goals as goal

pub returns-in-Old : goal.returns-in-Old
returns-in-Old c =
    subst (λ (w : EntryWalk). BeginsFor c.args.low.now w c.args.bytes.now) (sym c.walk_of.ensures) (begins_all c.args.head c.args.bytes.now c.requires c.args.low.now)

pub group_of-group-requires-clause-format : goal.group_of-group-requires-clause-format
group_of-group-requires-clause-format c = sym c.requires.format ∙ ap format_of c.in-Prefixed.is

pub place_listed-requires-clause-format : goal.place_listed-requires-clause-format
place_listed-requires-clause-format c = sym c.requires.format ∙ ap format_of c.in-Prefixed.is

pub entries_after-requires : goal.entries_after-requires
entries_after-requires c = omega (arith, c.group_of-group.ensures.inside, c.requires.count)

pub returns-in-Prefixed : goal.returns-in-Prefixed
returns-in-Prefixed c =
    let format : format_in c.args.bytes.now ≡ Prefixed = sym c.requires.format ∙ ap format_of c.in-Prefixed.is in
    begins_group c.args.head c.args.bytes.now c.requires format c.args.low.now c.group_of-group.result c.place_listed.result c.entries_after.result
    c.group_of-group.ensures c.place_listed.ensures c.entries_after.ensures
