-- One level less is dense.
use Rattle.std.proofs.Common.{◌≡◌, ◌<◌, ◌≤◌, ◌+◌, ◌-◌, ◌*◌, ℕ, zero, suc, List, length, take, drop, slice_index, sum, ap, ◌∙◌, arith}
use Rattle.std.proofs.lemmas.Bool.{cond-true, cond-false, le-leb, lt-leb}
use Rattle.std.proofs.lemmas.List.Sums.{sum_by-drop_more, sum_by_more}
use Rattle.filter_model.specs.Trie.{cutoff_from, may_be_dense}

pub cutoff-here : (c ratio : ℕ) (nodes labels : List ℕ) → 0 < c → 513 * sum (take c nodes) * ratio ≤ 10 * sum (drop c labels) → cutoff_from c ratio nodes labels ≡ c
cutoff-here zero ratio nodes labels h k = absurd (omega arith)
cutoff-here (suc c) ratio nodes labels h k =
    cond-true (may_be_dense ratio nodes labels (suc c)) (suc c) (cutoff_from c ratio nodes labels) (le-leb (513 * sum (take (suc c) nodes) * ratio) (10 * sum (drop (suc c) labels)) k)

pub cutoff-below : (c ratio : ℕ) (nodes labels : List ℕ) → 0 < c → 10 * sum (drop c labels) < 513 * sum (take c nodes) * ratio → cutoff_from c ratio nodes labels ≡ cutoff_from (c - 1) ratio nodes labels
cutoff-below zero ratio nodes labels h k = absurd (omega arith)
cutoff-below (suc c) ratio nodes labels h k =
    let less : c ≡ suc c - 1 = omega arith in
    cond-false (may_be_dense ratio nodes labels (suc c)) (suc c) (cutoff_from c ratio nodes labels) (lt-leb (513 * sum (take (suc c) nodes) * ratio) (10 * sum (drop (suc c) labels)) k)
    ∙ ap (λ n. cutoff_from n ratio nodes labels) less

pub sum-take_less : (c : ℕ) (xs : List ℕ) → 0 < c → c ≤ length xs → sum (take c xs) ≡ sum (take (c - 1) xs) + slice_index xs (c - 1)
sum-take_less c xs h k =
    let more : c ≡ c - 1 + 1 = omega arith in
    ap (λ n. sum (take n xs)) more ∙ sum_by_more (λ x. x) xs (c - 1) 0 (omega arith)

pub sum-drop_less : (c : ℕ) (xs : List ℕ) → 0 < c → c ≤ length xs → sum (drop (c - 1) xs) ≡ slice_index xs (c - 1) + sum (drop c xs)
sum-drop_less c xs h k =
    let more : c - 1 + 1 ≡ c = omega arith in
    sum_by-drop_more (λ x. x) xs (c - 1) 0 (omega arith) ∙ ap (λ n. slice_index xs (c - 1) + sum (drop n xs)) more
