use Rattle.std.proofs.Common.{◌≡◌, ◌<◌, ◌+◌, ◌-◌, ◌==◌, ◌∙◌, ℕ, List, true, length, drop, get_or, set, arith, ap, subst, sym}
use Rattle.std.proofs.lemmas.Bool.{eq-eqb}
use Rattle.std.proofs.lemmas.Grind.{get_or_default_zero}
use Rattle.std.proofs.lemmas.List.{drop_all, length-set}
use Rattle.std.proofs.lemmas.List.FromFn.{fill_by_all}
use Rattle.filter_api.specs.Seen.{seen}
use Rattle.filter_model.specs.Leaves.{Leaf}
use Rattle.filter_model.specs.Trie.{path}
use Rattle.trie_levels.specs.Neighbours.{endings}
use Rattle.trie_levels.proofs.Loops.{count_fits, count_up, endings-le, endings-rest, height-ge, one_less, path-filled, stub_at}
use Rattle.trie_levels.proofs.planning.count_endings.Goals as goal

pub overflow_sub-path_len : goal.overflow_sub-path_len
overflow_sub-path_len c =
    let leaves = c.args.leaves.now in
    let leaf = seen c.get.result.now in
    let within : c.loop-i.i < length leaves = omega arith in
    let filled = path-filled leaf (stub_at leaves c.loop-i.i leaf c.requires.stubs within c.get.ensures) in
    omega (arith, c.path_len.ensures, filled)

pub index_mut-requires : goal.index_mut-requires
index_mut-requires c =
    let leaves = c.args.leaves.now in
    let leaf = seen c.get.result.now in
    let within : c.loop-i.i < length leaves = omega arith in
    let filled = path-filled leaf (stub_at leaves c.loop-i.i leaf c.requires.stubs within c.get.ensures) in
    let high = height-ge leaves c.loop-i.i leaf within c.get.ensures in
    omega (arith, c.path_len.ensures, filled, high, c.requires.levels, c.loop-i.invariant.0, c.loop-i.counts.ok.0)

pub overflow_add-index_mut : goal.overflow_add-index_mut
overflow_add-index_mut c =
    let leaves = c.args.leaves.now in
    let i = c.loop-i.i in
    let leaf = seen c.get.result.now in
    let within : i < length leaves = omega arith in
    let filled = path-filled leaf (stub_at leaves i leaf c.requires.stubs within c.get.ensures) in
    let high = height-ge leaves i leaf within c.get.ensures in
    let at = c.path_len.result - 1 in
    let inside : at < c.args.levels = omega (arith, c.path_len.ensures, filled, high, c.requires.levels) in
    let value = c.index_mut.ensures.value ∙ get_or_default_zero c.loop-i.counts.items at c.index_mut.result.now (omega (arith, inside, c.loop-i.invariant.0)) in
    let hit : (length (path leaf) == at + 1) ≡ true = eq-eqb (length (path leaf)) (at + 1) (omega (arith, c.path_len.ensures, filled)) in
    let told = ap (λ (r : ℕ). get_or c.loop-i.counts.items at 0 + r) (sym (endings-rest leaves i at leaf within c.get.ensures)) ∙ c.loop-i.invariant.1 at inside in
    let room = count_fits (get_or c.loop-i.counts.items at 0) (endings (drop (i + 1) leaves) at) (endings leaves at) (length (path leaf) == at + 1) told hit in
    let most = endings-le leaves at in
    omega (arith, value, room, most, c.len-i-end.ensures, c.len-i-end.type_inv)

pub loop-i-preserved : goal.loop-i-preserved
loop-i-preserved c =
    let leaves = c.args.leaves.now in
    let i = c.loop-i.i in
    let leaf = seen c.get.result.now in
    let counts = c.loop-i.counts.items in
    let within : i < length leaves = omega arith in
    let filled = path-filled leaf (stub_at leaves i leaf c.requires.stubs within c.get.ensures) in
    let high = height-ge leaves i leaf within c.get.ensures in
    let at = c.path_len.result - 1 in
    let inside : at < length counts = omega (arith, c.path_len.ensures, filled, high, c.requires.levels, c.loop-i.invariant.0) in
    let value = c.index_mut.ensures.value ∙ get_or_default_zero counts at c.index_mut.result.now inside in
    let one : length (path leaf) ≡ at + 1 = omega (arith, c.path_len.ensures, filled) in (
      length-set counts at (c.index_mut.result.now + 1) ∙ c.loop-i.invariant.0,
      λ n below.
          subst (λ (v : ℕ). get_or (set counts at (v + 1)) n 0 + endings (drop (i + 1) leaves) n ≡ endings leaves n) (sym value)
          (count_up counts at c.args.levels (λ n. length (path leaf) == n + 1) (endings (drop (i + 1) leaves)) (endings leaves) inside (λ n. one_less (length (path leaf)) at n one)
          (λ n below. ap (λ (r : ℕ). get_or counts n 0 + r) (sym (endings-rest leaves i n leaf within c.get.ensures)) ∙ c.loop-i.invariant.1 n below) n below),
    )

pub returns : goal.returns
returns c =
    let leaves = c.args.leaves.now in
    fill_by_all (endings leaves) c.loop-i.counts.items c.args.levels 0 c.loop-i.invariant.0
    (λ k below.
    let none : endings (drop c.loop-i.i leaves) k ≡ 0 = ap (λ (r : List Leaf). endings r k) (drop_all c.loop-i.i leaves (omega arith)) in
    omega (arith, none, c.loop-i.invariant.1 k below))
