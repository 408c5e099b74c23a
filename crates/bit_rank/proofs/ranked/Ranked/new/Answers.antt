use Rattle.std.proofs.Common.{◌≡◌, ◌≤◌, ◌+◌, ◌*◌, ◌/◌, ℕ, List, ◌++◌, ◌∷◌, [], map, ap, ◌∙◌, sym, length, arith}
use Rattle.std.specs.List.{range_with_len}
use Rattle.std.proofs.lemmas.List.FromFn.{map-range_with_len_more, length-map-range_with_len}
use Rattle.bit_rank.specs.Blocks.{block_ranks}
use Rattle.bit_words.specs.Counts.{rank_of}
use Rattle.bit_rank.proofs.Ranks.{block_added}
use Rattle.bit_words.proofs.Counting.{words_cover, rank-le-length}
use Rattle.bit_rank.proofs.ranked.Ranked.new.Goals as goal

pub push_reserved-requires : goal.push_reserved-requires
push_reserved-requires g c =
    omega (arith, ap length c.loop-k.invariant.kept, length-map-range_with_len (λ (k : ℕ). rank_of c.args.bits (128 * k)) 0 c.loop-k.k, c.loop-k.counts.ok.0)

pub ones_in_block-count-requires : goal.ones_in_block-count-requires
ones_in_block-count-requires g c =
    let within : 128 * c.loop-k.k ≤ length c.args.bits = omega (arith, c.len.ensures) in
    omega (arith, words_cover c.args.bits c.words.result.now (128 * c.loop-k.k) c.words.ensures.value within)

pub overflow_add-count : goal.overflow_add-count
overflow_add-count g c =
    record {
      fits = omega (
        arith,
        block_added c.args.bits c.words.result.now c.loop-k.k c.loop-k.count c.ones_in_block-count.result c.words.ensures.value c.loop-k.invariant.counted c.ones_in_block-count.ensures,
        rank-le-length c.args.bits (128 * (c.loop-k.k + 1)),
        c.len.ensures,
      );
    }

pub loop-k-preserved : goal.loop-k-preserved
loop-k-preserved g c =
    let kept : ℕ → ℕ = λ k. rank_of c.args.bits (128 * k) in
    record {
      counted = block_added c.args.bits c.words.result.now c.loop-k.k c.loop-k.count c.ones_in_block-count.result c.words.ensures.value c.loop-k.invariant.counted c.ones_in_block-count.ensures;
      kept =
          c.push_reserved.ensures.items ∙ ap (λ (xs : List ℕ). xs ++ c.loop-k.count ∷ []) c.loop-k.invariant.kept
          ∙ ap (λ (n : ℕ). map kept (range_with_len 0 c.loop-k.k) ++ n ∷ []) c.loop-k.invariant.counted
          ∙ sym (map-range_with_len_more kept 0 c.loop-k.k c.loop-k.k (omega arith));
      room = omega arith;
    }

pub invariant_of-result : goal.invariant_of-result
unfolding block_ranks
invariant_of-result g c =
    let all : c.loop-k.k ≡ length c.args.bits / 128 + 1 = omega (arith, c.len.ensures, ap (λ (n : ℕ). n / 128) c.len.ensures) in
    c.loop-k.invariant.kept ∙ ap (λ (n : ℕ). map (λ k. rank_of c.args.bits (128 * k)) (range_with_len 0 n)) all
