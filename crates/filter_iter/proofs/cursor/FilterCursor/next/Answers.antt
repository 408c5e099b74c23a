use Rattle.std.proofs.Common.{◌+◌, arith, rules, ◌∙◌}
use Rattle.filter_iter.proofs.Standing.{behind_is, way_to}
use Rattle.filter_iter.proofs.cursor.FilterCursor.next.Goals as goal

pub turn_behind-lead-requires : goal.turn_behind-lead-requires
turn_behind-lead-requires g c = (
  search rules,
  (
    search rules,
    (
      c.self.invariant.stands,
      (
        c.self.invariant.to.nodes,
        (
          c.self.invariant.spots,
          (
            c.self.invariant.marks,
            (
              omega (arith, behind_is c.self.inside.trie.now.hash_bits c.self.inside.trie.now.real_bits c.self.inside.trie.now.leaves c.self.invariant.stands.valid c.self.inside.leaf c.self.inside.slot c.self.inside.way.items c.self.invariant.to, c.self.invariant.to.within, c.if-self-leaves.false, c.leaves.ensures),
              c.self.invariant.room,
            ),
          ),
        ),
      ),
    ),
  ),
)

pub invariant_of-self : goal.invariant_of-self
invariant_of-self g c = record {
  stands = c.self.invariant.stands;
  to = way_to c.self.inside.trie.now.hash_bits c.self.inside.trie.now.real_bits c.self.inside.trie.now.leaves c.self.invariant.stands.valid (c.self.inside.leaf + 1) c.go_first-self-inside.result c.go_first-self-inside.new.way.items c.go_first-self-inside.ensures.way c.go_first-self-inside.ensures.slot (c.go_first-self-inside.ensures.first ∙ c.turn_behind-lead.ensures.first ∙ behind_is c.self.inside.trie.now.hash_bits c.self.inside.trie.now.real_bits c.self.inside.trie.now.leaves c.self.invariant.stands.valid c.self.inside.leaf c.self.inside.slot c.self.inside.way.items c.self.invariant.to);
  spots = c.go_first-self-inside.ensures.spots;
  marks = c.go_first-self-inside.ensures.marks;
  room = omega (arith, c.go_first-self-inside.ensures.capacity, c.turn_behind-lead.ensures.capacity, c.self.invariant.room);
}
