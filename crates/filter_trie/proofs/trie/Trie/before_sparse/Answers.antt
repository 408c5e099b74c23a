use Rattle.std.proofs.Common.{◌+◌, ap, arith, length}
use Rattle.filter_model.specs.Nodes.{all}
use Rattle.filter_trie.proofs.LevelStarts.{counts_add, slots_within}
use Rattle.filter_trie.proofs.Numbers.{sparse_slot_is}
use Rattle.filter_trie.proofs.Parts.{has_trie}
use Rattle.filter_trie.specs.Parts.{AreParts, lower, upper}
use Rattle.trie_model.specs.Halves.{Half, first_below}
use Rattle.trie_model.specs.declared.parts.Before.{Before}
use Rattle.filter_trie.proofs.trie.Trie.before_sparse.Goals as goal

pub overflow_add-result : goal.overflow_add-result
overflow_add-result g c =
    let s : AreParts c.args.self.now c.self.inside.cutoff c.self.inside.height c.self.inside.dense c.self.inside.sparse c.self.inside.suffixes = rw c.self.view_is at c.self.invariant.0 in
    let few = s.may_stand.valid.few in
    let ds = upper c.args.self.now.cutoff c.args.self.now.leaves in
    let ss = lower c.args.self.now.cutoff c.args.self.now.leaves in
    omega (
      arith,
      few,
      ap (λ (b : Before). b.slots) c.before-before.ensures,
      ap (λ (b : Before). b.children) c.before-before.ensures,
      ap (λ (h : Half). h.before.slots) s.sparse_is,
      ap (λ (h : Half). h.before.children) s.sparse_is,
      c.first_below-below.ensures,
      ap (λ (h : Half). first_below h c.args.place) s.sparse_is,
      counts_add ss c.args.place c.requires,
      sparse_slot_is s c.args.place,
      slots_within c.args.self.now.leaves (length (all ds) + c.args.place) (has_trie s),
    )

pub returns-clause-slots : goal.returns-clause-slots
returns-clause-slots g c =
    let s : AreParts c.args.self.now c.self.inside.cutoff c.self.inside.height c.self.inside.dense c.self.inside.sparse c.self.inside.suffixes = rw c.self.view_is at c.self.invariant.0 in
    let ss = lower c.args.self.now.cutoff c.args.self.now.leaves in
    omega (
      arith,
      ap (λ (b : Before). b.slots) c.before-before.ensures,
      ap (λ (b : Before). b.children) c.before-before.ensures,
      ap (λ (h : Half). h.before.slots) s.sparse_is,
      ap (λ (h : Half). h.before.children) s.sparse_is,
      c.first_below-below.ensures,
      ap (λ (h : Half). first_below h c.args.place) s.sparse_is,
      counts_add ss c.args.place c.requires,
    )
