use Rattle.std.proofs.Common.{◌≡◌, ◌-◌, ◌*◌, ◌^◌, ℕ, List, true, false, ap, arith, sym, ◌∙◌, length, length-drop, drop, take}
use Rattle.std.proofs.lemmas.List.{take_all}
use Rattle.std.specs.Ordering.{is_lt}
use Rattle.filter_model.specs.Strings.{is_before, is_prefix, shortest}
use Rattle.filter_api.specs.Seen.{seen}
use Rattle.plain_filter.proofs.LeafLemmas.{below_after, below_stub, least_end, least_open}
use Rattle.plain_filter.proofs.leaf.below_least.Goals as goal

pub returns-then-leaf : goal.returns-then-leaf
returns-then-leaf c =
    let hi = c.args.hi.now in
    c.is_lt.ensures ∙ ap is_lt c.compare.ensures
    ∙ ap (is_before hi) (c.as_slice-stub.ensures.value ∙ sym (least_end c.args.real_bits (seen c.args.leaf.now) c.if-leaf.true))

pub returns-then-not-begins_with : goal.returns-then-not-begins_with
returns-then-not-begins_with c =
    let hi = c.args.hi.now in
    let l = seen c.args.leaf.now in
    let n = c.args.real_bits in
    let apart : is_prefix l.stub hi ≡ false =
    ap (λ (t : List ℕ). is_prefix t hi) (sym c.as_slice-stub.ensures.value) ∙ sym c.begins_with.ensures.value ∙ c.if-not-begins_with.true in
    c.is_lt-then-not-begins_with.ensures ∙ ap is_lt c.compare-then-not-begins_with.ensures ∙ ap (is_before hi) c.as_slice-stub.ensures.value
    ∙ sym (ap (is_before hi) (least_open n l c.if-leaf.false) ∙ below_stub hi l.stub (shortest 4 (l.real * 2 ^ (32 - n))) apart)

pub returns : goal.returns
returns c =
    let hi = c.args.hi.now in
    let l = seen c.args.leaf.now in
    let n = c.args.real_bits in
    let stub = c.as_slice-stub.ensures.value in
    let begun : is_prefix l.stub hi ≡ true =
    ap (λ (t : List ℕ). is_prefix t hi) (sym stub) ∙ sym c.begins_with.ensures.value ∙ c.if-not-begins_with.false in
    let rest : take (length hi - length c.as_slice-stub.result.now) (drop (length c.as_slice-stub.result.now) hi) ≡ drop (length l.stub) hi =
    take_all (length hi - length c.as_slice-stub.result.now) (drop (length c.as_slice-stub.result.now) hi) (omega (arith, length-drop (length c.as_slice-stub.result.now) hi))
    ∙ ap (λ (t : List ℕ). drop (length t) hi) stub in
    let tail : take c.shortest_bytes-len.result.1 c.shortest_bytes-len.result.0 ≡ shortest 4 (l.real * 2 ^ (32 - n)) =
    c.shortest_bytes-len.ensures.bytes ∙ ap (shortest 4) c.filled.ensures in
    c.is_lt-2.ensures ∙ ap is_lt c.compare-2.ensures ∙ (λ j. is_before (rest j) (tail j))
    ∙ sym (ap (is_before hi) (least_open n l c.if-leaf.false) ∙ below_after hi l.stub (shortest 4 (l.real * 2 ^ (32 - n))) begun)
