use Rattle.filter_iter.proofs.Appended.{least_appended}
use Rattle.filter_iter.proofs.least.least_of.Goals as goal

pub returns-clause-added : goal.returns-clause-added
returns-clause-added g c =
    least_appended c.extend_from_slice.result c.args.trie.now.real_bits _ c.args.out.now.items _ c.extend_from_slice.new.self.items _ c.in_ok-count.ensures.least c.extend_from_slice.ensures.items
