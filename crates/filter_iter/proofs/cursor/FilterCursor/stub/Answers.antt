use Rattle.std.proofs.Common.{List, ap, arith, drop, length, ◌++◌, ◌∙◌}
use Rattle.filter_iter.proofs.LeastStrings.{own_count, own_stub, way_short}
use Rattle.filter_iter.specs.CursorPath.{bytes_of_way}
use Rattle.filter_iter.specs.declared.parts.Pass.{Pass}
use Rattle.filter_iter.proofs.cursor.FilterCursor.stub.Goals as goal

pub write_stub-requires : goal.write_stub-requires
write_stub-requires g c = omega (arith, way_short c.self.inside.trie.now.hash_bits c.self.inside.trie.now.real_bits c.self.inside.trie.now.leaves c.self.invariant.stands.valid c.self.inside.leaf c.self.inside.slot c.self.inside.way.items c.self.invariant.to, c.requires.room, ap (λ (w : List Pass). length w) c.as_slice.ensures)

pub returns-clause-stub : goal.returns-clause-stub
returns-clause-stub g c = rw (← c.self.view_is) (own_stub c.self.inside.trie.now.hash_bits c.self.inside.trie.now.real_bits c.self.inside.trie.now.leaves c.self.invariant.stands.valid c.self.inside.leaf c.self.inside.slot c.self.inside.way.items c.self.invariant.to c.write_stub.new.out (drop c.write_stub.result c.args.out.now) (c.write_stub.ensures.stub ∙ ap (λ (w : List Pass). bytes_of_way w ++ drop c.write_stub.result c.args.out.now) c.as_slice.ensures))

pub returns-clause-count : goal.returns-clause-count
returns-clause-count g c = rw (← c.self.view_is) (own_count c.self.inside.trie.now.hash_bits c.self.inside.trie.now.real_bits c.self.inside.trie.now.leaves c.self.invariant.stands.valid c.self.inside.leaf c.self.inside.slot c.self.inside.way.items c.self.invariant.to c.write_stub.result (c.write_stub.ensures.count ∙ ap (λ (w : List Pass). length (bytes_of_way w)) c.as_slice.ensures))
