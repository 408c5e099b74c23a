use Rattle.std.proofs.Common.{◌∙◌, sym}
use Rattle.std.proofs.lemmas.Bool.{false≢true}
use Rattle.surf_filter.proofs.Differences.{alike_more, apart_at, both_end, goes_on, of_lists, one_ends}
use Rattle.surf_filter.proofs.difference.first_apart.Goals as goal

pub returns-then-not-alike : goal.returns-then-not-alike
returns-then-not-alike g c =
    let h = c.loop-n.invariant in
    let of = of_lists c.loop-n.cursor c.loop-n.others c.args.trie.now c.args.other.now c.loop-n.n c.leaves.result c.leaves-2.result c.min-both.result c.leaves.ensures c.leaves-2.ensures c.min-both.ensures c.loop-n-test.true h.1 h.2 h.3 h.4 in
    apart_at c.args.trie.now.leaves c.args.other.now.leaves c.loop-n.n c.leaves.result c.leaves-2.result c.min-both.result c.leaves.ensures c.leaves-2.ensures c.min-both.ensures c.loop-n.auto.n-end h.0
    (λ s. false≢true (sym c.if-not-alike.true ∙ c.are_at_one-alike.ensures.1 (of.1 s)))

pub loop-n-preserved : goal.loop-n-preserved
loop-n-preserved g c =
    let h = c.loop-n.invariant in
    let of = of_lists c.loop-n.cursor c.loop-n.others c.args.trie.now c.args.other.now c.loop-n.n c.leaves.result c.leaves-2.result c.min-both.result c.leaves.ensures c.leaves-2.ensures c.min-both.ensures c.loop-n-test.true h.1 h.2 h.3 h.4 in
    let on = goes_on c.loop-n.cursor c.next.new.self c.args.trie.now c.loop-n.n c.next.result h.1 h.2 c.next.ensures.moved c.next.ensures.end in
    let others_on = goes_on c.loop-n.others c.next-in-loop-n.new.self c.args.other.now c.loop-n.n c.next-in-loop-n.result h.3 h.4 c.next-in-loop-n.ensures.moved c.next-in-loop-n.ensures.end in
    let more = alike_more c.args.trie.now.leaves c.args.other.now.leaves c.loop-n.n c.leaves.result c.leaves-2.result c.min-both.result c.leaves.ensures c.leaves-2.ensures c.min-both.ensures c.loop-n.auto.n-end h.0 c.loop-n-test.true (of.0 (c.are_at_one-alike.ensures.0 c.if-not-alike.false)) in
    (more, on.0, on.1, others_on.0, others_on.1)

pub returns-then-leaves : goal.returns-then-leaves
returns-then-leaves g c =
    both_end c.args.trie.now.leaves c.args.other.now.leaves c.loop-n.n c.leaves.result c.leaves-2.result c.min-both.result c.leaves.ensures c.leaves-2.ensures c.min-both.ensures c.loop-n.auto.n-end c.loop-n.invariant.0
    c.loop-n-test.false (sym c.leaves-3.ensures ∙ c.if-leaves.true ∙ c.leaves-4.ensures)

pub returns-else-leaves : goal.returns-else-leaves
returns-else-leaves g c =
    one_ends c.args.trie.now.leaves c.args.other.now.leaves c.loop-n.n c.leaves.result c.leaves-2.result c.min-both.result c.leaves.ensures c.leaves-2.ensures c.min-both.ensures c.loop-n.auto.n-end c.loop-n.invariant.0
    c.loop-n-test.false (λ e. c.if-leaves.false (c.leaves-3.ensures ∙ e ∙ sym c.leaves-4.ensures))
