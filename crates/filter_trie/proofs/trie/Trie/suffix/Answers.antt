use Rattle.std.proofs.Common.{arith}
use Rattle.filter_trie.proofs.Suffixes.{suffix_is}
use Rattle.filter_trie.specs.Parts.{AreParts}
use Rattle.filter_trie.proofs.trie.Trie.suffix.Goals as goal

pub get-requires : goal.get-requires
get-requires g c =
    let s : AreParts c.args.self.now c.self.inside.cutoff c.self.inside.height c.self.inside.dense c.self.inside.sparse c.self.inside.suffixes = rw c.self.view_is at c.self.invariant.0 in
    omega (arith, s.count_is, c.requires)

pub returns : goal.returns
returns g c =
    let s : AreParts c.args.self.now c.self.inside.cutoff c.self.inside.height c.self.inside.dense c.self.inside.sparse c.self.inside.suffixes = rw c.self.view_is at c.self.invariant.0 in
    suffix_is s c.args.slot c.get.result c.requires c.get.ensures.suffix c.get.ensures.fits
