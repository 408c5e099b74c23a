-- Two lists of nodes end to end: places of the first stay, and those of the second come behind them.
use Rattle.std.proofs.Common.{◌≡◌, ℕ, ◌+◌, ◌≤◌, Bool, List, ◌++◌, length, get_or, take, ap, sym, ◌∙◌, arith, cond, length-append, Some, None, false}
use Rattle.std.specs.Prelude.{count_by, not}
use Rattle.std.proofs.Math.Seq.{take-append-add}
use Rattle.std.proofs.lemmas.List.{get_or_append_left, get_or-append-add, take-append-le, take_all}
use Rattle.std.proofs.lemmas.List.Concat.{flat_map-append}
use Rattle.std.proofs.lemmas.List.Sums.{sum_by-append}
use Rattle.filter_model.specs.Nodes.{Branch, Node, all, at}
use Rattle.trie_laws.specs.Halves.{HalvesJoin, KeepsFirst, KeepsSecond, SecondHalfCountsOn, second_half}
use Rattle.trie_model.specs.Halves.{first_below}
use Rattle.trie_model.specs.Halves.{whole}

all-append : (ds ss : List Node) → all (ds ++ ss) ≡ all ds ++ all ss
all-append ds ss = flat_map-append (λ (n : Node). n) ds ss

count-first : (test : Branch → Bool) (ds ss : List Node) (p : ℕ) → p ≤ length (all ds) → count_by test (take p (all (ds ++ ss))) ≡ count_by test (take p (all ds))
count-first test ds ss p l = ap (λ (bs : List Branch). count_by test (take p bs)) (all-append ds ss) ∙ ap (count_by test) (take-append-le p (all ds) (all ss) l)

count-second : (test : Branch → Bool) (ds ss : List Node) (p : ℕ)
    → count_by test (take (length (all ds) + p) (all (ds ++ ss))) ≡ count_by test (take (length (all ds)) (all ds)) + count_by test (take p (all ss))
count-second test ds ss p =
    ap (λ (bs : List Branch). count_by test (take (length (all ds) + p) bs)) (all-append ds ss)
    ∙ ap (count_by test) (take-append-add (all ds) (all ss) p)
    ∙ sum_by-append (λ (b : Branch). cond (test b) 1 0) (all ds) (take p (all ss))
    ∙ ap (λ (bs : List Branch). count_by test bs + count_by test (take p (all ss))) (sym (take_all (length (all ds)) (all ds) (omega arith)))

keeps_first : (ds ss : List Node) → KeepsFirst ds ss
keeps_first ds ss = record {
  begins = λ v l. ap (λ (ns : List Node). length (all ns)) (take-append-le v ds ss l);
  branches = λ p l. ap (λ (bs : List Branch). get_or bs p (0, false)) (all-append ds ss) ∙ get_or_append_left (all ds) (all ss) (0, false) p l;
  children = count-first (λ (b : Branch). b.1) ds ss;
  leaves = count-first (λ (b : Branch). not b.1) ds ss;
}

keeps_second : (ds ss : List Node) → KeepsSecond ds ss
keeps_second ds ss = record {
  begins = λ v. ap (λ (ns : List Node). length (all ns)) (take-append-add ds ss v) ∙ ap length (all-append ds (take v ss)) ∙ length-append (all ds) (all (take v ss));
  branches = λ p. ap (λ (bs : List Branch). get_or bs (length (all ds) + p) (0, false)) (all-append ds ss) ∙ get_or-append-add (all ds) (all ss) p (0, false);
  children = count-second (λ (b : Branch). b.1) ds ss;
  leaves = count-second (λ (b : Branch). not b.1) ds ss;
}

pub halves_join : HalvesJoin
halves_join ds ss = (keeps_first ds ss, keeps_second ds ss)

pub second_half_counts_on : SecondHalfCountsOn
second_half_counts_on ds ss p =
    let k = keeps_second ds ss in
    let below : first_below (second_half ds ss) p ≡ first_below (whole (ds ++ ss)) (length (all ds) + p) = omega (arith, k.children p) in
    record {
      child =
          ap (λ (n : ℕ). cond (at ss p).1 (Some n) None) below
          ∙ ap (λ (b : Branch). cond b.1 (Some (first_below (whole (ds ++ ss)) (length (all ds) + p))) None) (sym (k.branches p));
      slot = omega (arith, k.leaves p);
      below = below;
    }
