use Rattle.std.proofs.Common.{◌≡◌, ◌<◌, ◌∙◌, drop, length, arith, ap}
use Rattle.std.proofs.lemmas.List.{drop_all}
use Rattle.filter_api.specs.Seen.{seen}
use Rattle.filter_model.specs.Trie.{height}
use Rattle.trie_levels.proofs.Loops.{height-nil, height-rest, path-short, stub_at}
use Rattle.trie_levels.proofs.planning.longest_path.Goals as goal

pub loop-i-preserved : goal.loop-i-preserved
loop-i-preserved c =
    let leaves = c.args.leaves.now in
    let i = c.loop-i.i in
    let leaf = seen c.get.result.now in
    let within : i < length leaves = omega arith in
    let short = path-short leaf (stub_at leaves i leaf c.requires within c.get.ensures) in
    let rest = height-rest leaves i leaf within c.get.ensures in
    (omega (arith, c.loop-i.invariant.0, rest, c.max-longest.ensures, c.path_len.ensures), omega (arith, c.loop-i.invariant.1, short, c.max-longest.ensures, c.path_len.ensures))

pub returns-clause-height : goal.returns-clause-height
returns-clause-height c =
    let leaves = c.args.leaves.now in
    let none : height (drop c.loop-i.i leaves) ≡ 0 = ap height (drop_all c.loop-i.i leaves (omega arith)) ∙ height-nil in
    omega (arith, c.loop-i.invariant.0, none)
