use Rattle.std.proofs.Common.{arith}
use Rattle.filter_api.specs.Seen.{seen}
use Rattle.trie_levels.proofs.Loops.{path-bytes}
use Rattle.trie_levels.proofs.planning.path_len.Goals as goal

pub returns : goal.returns
returns c = omega (arith, c.len.ensures, c.from.ensures, c.args.leaf.now.stub.ok.0, path-bytes (seen c.args.leaf.now))
