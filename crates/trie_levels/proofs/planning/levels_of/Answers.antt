use Rattle.std.proofs.Common.{◌≡◌, ◌+◌, ◌∷◌, ◌++◌, [], ◌∙◌, ℕ, suc, length, map, slice_index_or, arith, add-one, ap, sym}
use Rattle.std.specs.List.{range_with_len}
use Rattle.filter_model.specs.Trie.{height, level as level_of}
use Rattle.trie_levels.specs.Counts.{Counts}
use Rattle.trie_levels.specs.Neighbours.{endings, level_branches, partings}
use Rattle.trie_levels.proofs.Loops.{height-short, labels-all, labels-next, made-at, made-long, nodes-all, nodes-next, root-alone}
use Rattle.trie_levels.proofs.Totals.{branches-le, endings_law, in_order, partings_law}
use Rattle.trie_levels.proofs.planning.levels_of.Goals as goal

pub loop-level-init : goal.loop-level-init
loop-level-init c leaves h = (ap (λ (l : Counts). l.nodes) c.new-levels.ensures, ap (λ (l : Counts). l.labels) c.new-levels.ensures, root-alone leaves)

pub bounds-ended-level : goal.bounds-ended-level
bounds-ended-level c =
    let leaves = c.requires.0 in
    let h = c.requires.1 in
    omega (arith, made-long (endings leaves) c.args.ended.now (height leaves) h.ended_are, made-long (partings leaves) c.args.parted.now (height leaves) h.parted_are)

pub overflow_add-labels : goal.overflow_add-labels
overflow_add-labels c =
    let leaves = c.requires.0 in
    let h = c.requires.1 in
    let n = c.loop-level.level in
    let within = made-long (partings leaves) c.args.parted.now (height leaves) h.parted_are in
    let parted = made-at (partings leaves) c.args.parted.now (height leaves) n 0 h.parted_are (omega (arith, within)) in
    let law = partings_law leaves n h.trie in
    let most = branches-le leaves n (in_order leaves h.trie) in
    omega (arith, parted, law, most, (c.loop-level.invariant leaves h).2, h.trie.few)

pub push-requires : goal.push-requires
push-requires c =
    let leaves = c.requires.0 in
    let h = c.requires.1 in
    let long = made-long (λ k. length (level_of leaves k)) c.loop-level.levels.nodes c.loop-level.level (c.loop-level.invariant leaves h).0 in
    omega (arith, long, height-short leaves h.trie.stubs, made-long (partings leaves) c.args.parted.now (height leaves) h.parted_are)

pub overflow_sub-nodes : goal.overflow_sub-nodes
overflow_sub-nodes c =
    let leaves = c.requires.0 in
    let h = c.requires.1 in
    let n = c.loop-level.level in
    let within = made-long (partings leaves) c.args.parted.now (height leaves) h.parted_are in
    let parted = made-at (partings leaves) c.args.parted.now (height leaves) n 0 h.parted_are (omega (arith, within)) in
    let ended = made-at (endings leaves) c.args.ended.now (height leaves) n 0 h.ended_are (omega (arith, within)) in
    omega (arith, parted, ended, partings_law leaves n h.trie, endings_law leaves n h.trie, (c.loop-level.invariant leaves h).2)

pub loop-level-preserved : goal.loop-level-preserved
loop-level-preserved c leaves h =
    let n = c.loop-level.level in
    let within = made-long (partings leaves) c.args.parted.now (height leaves) h.parted_are in
    let parted = made-at (partings leaves) c.args.parted.now (height leaves) n 0 h.parted_are (omega (arith, within)) in
    let ended = made-at (endings leaves) c.args.ended.now (height leaves) n 0 h.ended_are (omega (arith, within)) in
    let known = c.loop-level.invariant leaves h in
    let labels : c.loop-level.nodes + slice_index_or c.args.parted.now n 0 ≡ length (level_branches leaves n) = omega (arith, parted, partings_law leaves n h.trie, known.2) in
    let more : n + 1 ≡ suc n = add-one n in
    let next : length (level_of leaves (n + 1)) ≡ length (level_of leaves (suc n)) = ap (λ (k : ℕ). length (level_of leaves k)) more in (
      ap (λ (l : Counts). l.nodes) c.in_ok-push.ensures.added
          ∙ (λ j. known.0 j ++ known.2 j ∷ []) ∙ sym (nodes-next leaves n),
      ap (λ (l : Counts). l.labels) c.in_ok-push.ensures.added
          ∙ (λ j. known.1 j ++ labels j ∷ []) ∙ sym (labels-next leaves n),
      omega (arith, labels, ended, endings_law leaves n h.trie, next),
    )

pub returns-clause-nodes : goal.returns-clause-nodes
returns-clause-nodes c leaves h =
    let within = made-long (partings leaves) c.args.parted.now (height leaves) h.parted_are in
    let all : c.loop-level.level ≡ height leaves = omega (arith, within) in
    (c.loop-level.invariant leaves h).0 ∙ ap (λ (n : ℕ). map (λ k. length (level_of leaves k)) (range_with_len 0 n)) all ∙ sym (nodes-all leaves)

pub returns-clause-labels : goal.returns-clause-labels
returns-clause-labels c leaves h =
    let within = made-long (partings leaves) c.args.parted.now (height leaves) h.parted_are in
    let all : c.loop-level.level ≡ height leaves = omega (arith, within) in
    (c.loop-level.invariant leaves h).1 ∙ ap (λ (n : ℕ). map (λ k. length (level_branches leaves k)) (range_with_len 0 n)) all ∙ sym (labels-all leaves)
