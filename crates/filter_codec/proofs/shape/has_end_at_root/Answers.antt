use Rattle.std.proofs.Common.{◌≡◌, ◌++◌, ◌<◌, ◌∙◌, ap, arith, get_or, length, length-append, lt-ltb, le-ltb, rules, subst, sym, Bool, List, [], false, nat_lt, ℕ}
use Rattle.std.specs.Prelude.{◌==◌, ◌&&◌}
use Rattle.filter_codec.proofs.Shapes.{end_at, next_place, root_of_first, root_of_second, some_branch, sparse_root}
use Rattle.filter_codec.proofs.Trees.{ends_count, labels_count}
use Rattle.filter_codec.specs.Tree.{AreSparse, Tree}
use Rattle.filter_model.specs.Image.{has_letter}
use Rattle.filter_model.specs.Nodes.{Node}
use Rattle.filter_model.specs.Trie.{END}
use Rattle.louds_dense.proofs.Ranks.{node_within}
use Rattle.louds_dense.specs.Spelling.{IsSpelled}
use Rattle.filter_codec.proofs.shape.has_end_at_root.Goals as goal

pub get-requires : goal.get-requires
get-requires g c =
    let p = c.packed.inside in
    let d : IsSpelled p.dense_labels p.dense_children p.dense_ends c.args.packed.now.dense = subst (IsSpelled p.dense_labels p.dense_children p.dense_ends) (ap (λ (t : Tree). t.dense) c.packed.view_is) c.packed.invariant.0 in
    omega (arith, ap length c.bits-ends.ensures, ends_count d, c.dense_count.ensures.count)

pub begin-requires : goal.begin-requires
begin-requires g c = omega (arith, c.requires, c.dense_count.ensures.count, length-append c.args.packed.now.dense c.args.packed.now.sparse)

pub returns-then-dense_count-gt0 : goal.returns-then-dense_count-gt0
returns-then-dense_count-gt0 g c =
    let p = c.packed.inside in
    let d : IsSpelled p.dense_labels p.dense_children p.dense_ends c.args.packed.now.dense = subst (IsSpelled p.dense_labels p.dense_children p.dense_ends) (ap (λ (t : Tree). t.dense) c.packed.view_is) c.packed.invariant.0 in
    let ds = c.args.packed.now.dense in
    let some : 0 < length ds = omega (arith, c.dense_count.ensures.count) in
    c.get.ensures ∙ ap (λ (bits : List Bool). get_or bits 0 false) c.bits-ends.ensures ∙ end_at d 0 some
    ∙ ap (λ (n : Node). has_letter n END) (sym (root_of_first ds c.args.packed.now.sparse some))

pub bounds-labels-0 : goal.bounds-labels-0
bounds-labels-0 g c =
    let p = c.packed.inside in
    let s : AreSparse p.labels.items p.children p.louds c.args.packed.now.sparse = subst (AreSparse p.labels.items p.children p.louds) (ap (λ (t : Tree). t.sparse) c.packed.view_is) c.packed.invariant.1 in
    let ds = c.args.packed.now.dense in
    let ss = c.args.packed.now.sparse in
    let none : length ds ≡ 0 = omega (arith, c.dense_count.ensures.count) in
    let some : 0 < length ss = omega (arith, c.requires, c.dense_count.ensures.count, length-append ds ss) in
    let there : 0 < length c.as_slice-labels.result.now = omega (arith, ap length c.as_slice-labels.ensures.value, labels_count s, next_place ss 0 some, some_branch s 0 some, node_within ss 1 (omega (arith, some))) in
    search rules

pub returns-then-begin-gt1 : goal.returns-then-begin-gt1
returns-then-begin-gt1 g c =
    let p = c.packed.inside in
    let s : AreSparse p.labels.items p.children p.louds c.args.packed.now.sparse = subst (AreSparse p.labels.items p.children p.louds) (ap (λ (t : Tree). t.sparse) c.packed.view_is) c.packed.invariant.1 in
    let ds = c.args.packed.now.dense in
    let ss = c.args.packed.now.sparse in
    let none : length ds ≡ 0 = omega (arith, c.dense_count.ensures.count) in
    let some : 0 < length ss = omega (arith, c.requires, c.dense_count.ensures.count, length-append ds ss) in
    let root : (nat_lt 1 c.begin.result && (get_or c.as_slice-labels.result.now 0 0 == 255)) ≡ has_letter (get_or (ds ++ ss) 0 []) END =
    ap (λ (ls : List ℕ). nat_lt 1 c.begin.result && (get_or ls 0 0 == 255)) c.as_slice-labels.ensures.value ∙ sparse_root s c.begin.result c.begin.ensures some
    ∙ ap (λ (ns : List Node). has_letter (get_or ns 0 []) END) (sym (root_of_second ds ss none)) in
    ap (λ (t : Bool). t && (get_or c.as_slice-labels.result.now 0 0 == 255)) (sym (lt-ltb 1 c.begin.result c.if-begin-gt1.true)) ∙ root

pub returns-else-begin-gt1 : goal.returns-else-begin-gt1
returns-else-begin-gt1 g c =
    let p = c.packed.inside in
    let s : AreSparse p.labels.items p.children p.louds c.args.packed.now.sparse = subst (AreSparse p.labels.items p.children p.louds) (ap (λ (t : Tree). t.sparse) c.packed.view_is) c.packed.invariant.1 in
    let ds = c.args.packed.now.dense in
    let ss = c.args.packed.now.sparse in
    let none : length ds ≡ 0 = omega (arith, c.dense_count.ensures.count) in
    let some : 0 < length ss = omega (arith, c.requires, c.dense_count.ensures.count, length-append ds ss) in
    let root : (nat_lt 1 c.begin.result && (get_or c.as_slice-labels.result.now 0 0 == 255)) ≡ has_letter (get_or (ds ++ ss) 0 []) END =
    ap (λ (ls : List ℕ). nat_lt 1 c.begin.result && (get_or ls 0 0 == 255)) c.as_slice-labels.ensures.value ∙ sparse_root s c.begin.result c.begin.ensures some
    ∙ ap (λ (ns : List Node). has_letter (get_or ns 0 []) END) (sym (root_of_second ds ss none)) in
    let few : nat_lt 1 c.begin.result ≡ false = le-ltb 1 c.begin.result (omega arith) in
    few ∙ ap (λ (t : Bool). t && (get_or c.as_slice-labels.result.now 0 0 == 255)) (sym few) ∙ root
