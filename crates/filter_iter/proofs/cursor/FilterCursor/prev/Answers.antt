use Rattle.std.proofs.Common.{◌-◌, arith, rules, subst, sym}
use Rattle.std.specs.List.{All}
use Rattle.std.proofs.lemmas.List.Elements.{All-nil}
use Rattle.filter_iter.specs.LeafPlace.{IsMark}
use Rattle.filter_iter.proofs.Standing.{number_is, way_to_last}
use Rattle.filter_iter.proofs.cursor.FilterCursor.prev.Goals as goal

pub turn_before-lead-requires : goal.turn_before-lead-requires
turn_before-lead-requires g c = (
  search rules,
  (
    c.self.invariant.stands,
    (
      c.self.invariant.to.nodes,
      (
        c.self.invariant.spots,
        (
          omega (arith, number_is c.self.inside.trie.now.hash_bits c.self.inside.trie.now.real_bits c.self.inside.trie.now.leaves c.self.invariant.stands.valid c.self.inside.leaf c.self.inside.slot c.self.inside.way.items c.self.invariant.to, c.if-self-eq0.false),
          c.self.invariant.room,
        ),
      ),
    ),
  ),
)

pub invariant_of-self : goal.invariant_of-self
invariant_of-self g c = record {
  stands = c.self.invariant.stands;
  to = way_to_last c.self.inside.trie.now.hash_bits c.self.inside.trie.now.real_bits c.self.inside.trie.now.leaves c.self.invariant.stands.valid (c.self.inside.leaf - 1) c.go_last-self-inside.result c.go_last-self-inside.new.way.items c.go_last-self-inside.ensures.way c.go_last-self-inside.ensures.slot (omega (arith, c.go_last-self-inside.ensures.last, c.turn_before-lead.ensures.last, number_is c.self.inside.trie.now.hash_bits c.self.inside.trie.now.real_bits c.self.inside.trie.now.leaves c.self.invariant.stands.valid c.self.inside.leaf c.self.inside.slot c.self.inside.way.items c.self.invariant.to, c.if-self-eq0.false));
  spots = c.go_last-self-inside.ensures.spots;
  marks = subst (All (IsMark c.self.inside.trie.now)) (sym c.clear.ensures.items) (All-nil (IsMark c.self.inside.trie.now));
  room = omega (arith, c.go_last-self-inside.ensures.capacity, c.turn_before-lead.ensures.capacity, c.self.invariant.room);
}
