use Rattle.std.proofs.Common.{◌≤◌, ◌+◌, length, ap, arith, subst, sym}
use Rattle.std.specs.Prelude.{sum_by}
use Rattle.filter_model.specs.Trie.{nodes_to}
use Rattle.filter_model.specs.Leaves.{base_leaves}
use Rattle.filter_trie.specs.Building.{nodes_behind}
use Rattle.filter_trie.proofs.Levels.{less_room, more_nodes}
use Rattle.trie_model.specs.Halves.{Half}
use Rattle.trie_model.specs.declared.parts.Before.{Before}
use Rattle.filter_trie.proofs.build_level.add_levels.Goals as goal

pub add_level-requires-clause-before : goal.add_level-requires-clause-before
add_level-requires-clause-before g c =
    let ls = base_leaves c.args.keys.now in
    subst (λ (b : Before). b.nodes ≤ length (nodes_to ls c.loop-level.level)) (sym (ap (λ (h : Half). h.before) c.loop-level.invariant.0))
    (omega (arith, c.requires.before, more_nodes ls c.args.from c.loop-level.level c.loop-level.invariant.5))

pub add_level-requires-clause-room : goal.add_level-requires-clause-room
add_level-requires-clause-room g c =
    let keys = c.args.keys.now in
    let ls = base_leaves keys in
    let n = c.loop-level.level in
    let before = (g.H.GrowingHalf.half c.args.half.now).before in
    let within : before.nodes ≤ length (nodes_to ls (n + 1)) = omega (arith, c.requires.before, more_nodes ls c.args.from (n + 1) (omega (arith, c.loop-level.invariant.5))) in
    let less = less_room keys (n + 1) c.args.to before g.H.GrowingHalf.size (omega arith) within in
    subst (λ (b : Before). sum_by g.H.GrowingHalf.size (nodes_behind keys (n + 1) b) ≤ g.H.GrowingHalf.limit c.loop-level.half) (sym (ap (λ (h : Half). h.before) c.loop-level.invariant.0))
    (omega (arith, less, c.requires.room, c.loop-level.invariant.1))
