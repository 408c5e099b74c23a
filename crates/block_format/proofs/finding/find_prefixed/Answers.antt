use Rattle.std.proofs.Common.{ℕ, [], sym, ap, ◌∙◌, subst, arith}
use Rattle.map_model.specs.SortedMap.{Bytes}
use Rattle.entry_model.specs.Newest.{lookup}
use Rattle.block_model.specs.Formats.{Prefixed, entries_by}
use Rattle.block_format.specs.Finding.{IsGroupSize, StandClose}
use Rattle.block_format.proofs.Groups.{group_stands, said_in_group}
use Rattle.block_format.proofs.finding.find_prefixed.Goals as goal

pub find_in_group-requires : goal.find_in_group-requires
find_in_group-requires c =
    let of = c.group_of-group.ensures in
    let size = c.entries_in_group-entries.ensures in
    let is = c.requires.head in
    subst (StandClose c.entries_in_group-entries.result []) (sym c.listed.ensures)
    (group_stands c.args.bytes.now c.requires.format is.whole c.group_of-group.result c.entries_in_group-entries.result of.inside (omega (arith, size.within, is.count)) size.most)

pub returns : goal.returns
returns c =
    let bytes = c.args.bytes.now in
    let key = c.args.key.now in
    let size = c.entries_in_group-entries.result in
    let is = c.requires.head in
    let many = subst (λ (n : ℕ). IsGroupSize n c.group_of-group.result size) is.count c.entries_in_group-entries.ensures in
    c.find_in_group.ensures
    ∙ ap (λ (l : Bytes). lookup (entries_by Prefixed size [] l) key) c.listed.ensures
    ∙ sym (said_in_group bytes c.requires.format is.whole key c.group_of-group.result size c.group_of-group.ensures many)
