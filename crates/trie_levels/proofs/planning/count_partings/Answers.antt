use Rattle.std.proofs.Common.{◌≡◌, ◌<◌, ◌+◌, ◌-◌, ◌==◌, ◌∙◌, ℕ, length, drop, get_or, set, arith, ap, subst, sym}
use Rattle.std.proofs.lemmas.Bool.{eq-eqb}
use Rattle.std.proofs.lemmas.Grind.{get_or_default_zero}
use Rattle.std.proofs.lemmas.List.{length-set}
use Rattle.std.proofs.lemmas.List.FromFn.{fill_by_all}
use Rattle.filter_api.specs.Seen.{seen}
use Rattle.filter_model.specs.Strings.{shared}
use Rattle.trie_levels.specs.Neighbours.{partings}
use Rattle.trie_levels.proofs.Loops.{count_fits, count_up, partings-last, partings-le, partings-rest, parting-below}
use Rattle.trie_levels.proofs.planning.count_partings.Goals as goal

pub index_mut-requires : goal.index_mut-requires
index_mut-requires c =
    let leaves = c.args.leaves.now in
    let i = c.loop-i.i in
    let before = seen c.get-in-loop-i.result.now in
    let leaf = seen c.get.result.now in
    let below = parting-below leaves i before leaf c.requires.trie (omega arith) (omega arith) c.get-in-loop-i.ensures c.get.ensures in
    let at : c.shared.result ≡ shared before.stub leaf.stub = c.shared.ensures ∙ (λ j. shared (c.as_slice.ensures.value j) (c.as_slice-stub.ensures.value j)) in
    omega (arith, at, below, c.requires.levels, c.loop-i.invariant.0, c.loop-i.counts.ok.0)

pub overflow_add-index_mut : goal.overflow_add-index_mut
overflow_add-index_mut c =
    let leaves = c.args.leaves.now in
    let i = c.loop-i.i in
    let counts = c.loop-i.counts.items in
    let before = seen c.get-in-loop-i.result.now in
    let leaf = seen c.get.result.now in
    let place = c.shared.result in
    let at : place ≡ shared before.stub leaf.stub = c.shared.ensures ∙ (λ j. shared (c.as_slice.ensures.value j) (c.as_slice-stub.ensures.value j)) in
    let below = parting-below leaves i before leaf c.requires.trie (omega arith) (omega arith) c.get-in-loop-i.ensures c.get.ensures in
    let inside : place < c.args.levels = omega (arith, at, below, c.requires.levels) in
    let value = c.index_mut.ensures.value ∙ get_or_default_zero counts place c.index_mut.result.now (omega (arith, inside, c.loop-i.invariant.0)) in
    let told = ap (λ (r : ℕ). get_or counts place 0 + r) (sym (partings-rest leaves i place before leaf (omega arith) (omega arith) c.get-in-loop-i.ensures c.get.ensures)) ∙ c.loop-i.invariant.1 place inside in
    let room = count_fits (get_or counts place 0) (partings (drop i leaves) place) (partings leaves place) (shared before.stub leaf.stub == place) told (eq-eqb (shared before.stub leaf.stub) place (sym at)) in
    omega (arith, value, room, partings-le leaves place, c.len-i-end.ensures, c.len-i-end.type_inv)

pub loop-i-preserved : goal.loop-i-preserved
loop-i-preserved c =
    let leaves = c.args.leaves.now in
    let i = c.loop-i.i in
    let counts = c.loop-i.counts.items in
    let before = seen c.get-in-loop-i.result.now in
    let leaf = seen c.get.result.now in
    let place = c.shared.result in
    let at : place ≡ shared before.stub leaf.stub = c.shared.ensures ∙ (λ j. shared (c.as_slice.ensures.value j) (c.as_slice-stub.ensures.value j)) in
    let below = parting-below leaves i before leaf c.requires.trie (omega arith) (omega arith) c.get-in-loop-i.ensures c.get.ensures in
    let inside : place < length counts = omega (arith, at, below, c.requires.levels, c.loop-i.invariant.0) in
    let value = c.index_mut.ensures.value ∙ get_or_default_zero counts place c.index_mut.result.now inside in
    let less : i ≡ i + 1 - 1 = omega arith in (
      length-set counts place (c.index_mut.result.now + 1) ∙ c.loop-i.invariant.0,
      λ n under.
          subst (λ (k : ℕ). get_or (set counts place (c.index_mut.result.now + 1)) n 0 + partings (drop k leaves) n ≡ partings leaves n) less
          (subst (λ (v : ℕ). get_or (set counts place (v + 1)) n 0 + partings (drop i leaves) n ≡ partings leaves n) (sym value)
          (count_up counts place c.args.levels (λ n. shared before.stub leaf.stub == n) (partings (drop i leaves)) (partings leaves) inside (λ n. ap (λ (k : ℕ). k == n) (sym at))
          (λ n under. ap (λ (r : ℕ). get_or counts n 0 + r) (sym (partings-rest leaves i n before leaf (omega arith) (omega arith) c.get-in-loop-i.ensures c.get.ensures)) ∙ c.loop-i.invariant.1 n under) n under)),
    )

pub returns : goal.returns
returns c =
    let leaves = c.args.leaves.now in
    fill_by_all (partings leaves) c.loop-i.counts.items c.args.levels 0 c.loop-i.invariant.0
    (λ k below. omega (arith, partings-last leaves c.loop-i.i k (omega arith), c.loop-i.invariant.1 k below))
