use Rattle.std.proofs.Common.{◌≡◌, ◌≤◌, ◌+◌, ◌*◌, ◌/◌, Bool, count_by, ap, ◌∙◌, length, arith, rules}
use Rattle.std.proofs.lemmas.List.Sums.{count_by-le-length}
use Rattle.bit_rank.proofs.Ranks.{ones_behind, length-block_ranks, kept_count}
use Rattle.bit_words.proofs.Counting.{words_cover}
use Rattle.bit_rank.proofs.ranked.Ranked.rank_of_all.Goals as goal

pub index-requires : goal.index-requires
index-requires g c =
    omega (arith, c.len-block.ensures, ap length c.self.invariant, length-block_ranks 128 c.self.inside.bits, c.self.inside.counts.ok.0)

pub slice_bounds-ones-count : goal.slice_bounds-ones-count
slice_bounds-ones-count g c =
    let within : c.len-block.result ≤ length c.self.inside.bits = omega (arith, c.len-block.ensures) in
    omega (arith, words_cover c.self.inside.bits c.words-words.result.now c.len-block.result c.words-words.ensures.value within)

pub slice_bounds-ones-start : goal.slice_bounds-ones-start
slice_bounds-ones-start g c =
    let within : c.len-block.result ≤ length c.self.inside.bits = omega (arith, c.len-block.ensures) in
    let cover = words_cover c.self.inside.bits c.words-words.result.now c.len-block.result c.words-words.ensures.value within in
    search rules

pub overflow_add-result : goal.overflow_add-result
overflow_add-result g c = record {
  fits =
      let bits = c.self.inside.bits in
      let within : c.len-block.result ≤ length c.self.inside.bits = omega (arith, c.len-block.ensures) in
      let ordered : 2 * (c.len-block.result / 128) ≤ length c.words-words.result.now =
      omega (arith, words_cover bits c.words-words.result.now c.len-block.result c.words-words.ensures.value within) in
      omega (
        arith,
        c.from.ensures,
        kept_count bits c.self.inside.counts.items c.len-block.result c.index.result.now c.self.invariant within c.index.ensures,
        ones_behind bits c.words-words.result.now c.len-block.result c.words-words.ensures.value ordered,
        c.ones.ensures,
        count_by-le-length (λ (bit : Bool). bit) bits,
        c.len-block.ensures,
        c.len-block.type_inv,
      );
}

pub returns : goal.returns
returns g c =
    let bits = c.self.inside.bits in
    let within : c.len-block.result ≤ length c.self.inside.bits = omega (arith, c.len-block.ensures) in
    let ordered : 2 * (c.len-block.result / 128) ≤ length c.words-words.result.now =
    omega (arith, words_cover bits c.words-words.result.now c.len-block.result c.words-words.ensures.value within) in
    let sum : c.from.result + c.ones.result ≡ count_by (λ (bit : Bool). bit) c.self.inside.bits =
    omega (
      arith,
      c.from.ensures,
      kept_count bits c.self.inside.counts.items c.len-block.result c.index.result.now c.self.invariant within c.index.ensures,
      ones_behind bits c.words-words.result.now c.len-block.result c.words-words.ensures.value ordered,
      c.ones.ensures,
    ) in
    sum ∙ ap (count_by (λ (bit : Bool). bit)) c.self.view_is
