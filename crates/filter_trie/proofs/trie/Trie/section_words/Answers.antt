use Rattle.std.proofs.Common.{◌≡◌, ◌+◌, ◌*◌, ◌∙◌, sym, arith, length}
use Rattle.std.specs.Int.{div_ceil}
use Rattle.filter_model.specs.Image.{image}
use Rattle.filter_trie.proofs.ImageSizes.{has_sections, image_long}
use Rattle.filter_trie.proofs.trie.Trie.section_words.Goals as goal

pub returns : goal.returns
returns g c =
    let i = c.args.self.now in
    let counts = c.section_counts-counts.result in
    let e = c.section_counts-counts.ensures in
    let long : length (image i.hash_bits i.real_bits i.cutoff i.leaves) ≡ 40 + 64 * counts.dense + div_ceil counts.dense 8 + counts.labels + 2 * div_ceil counts.labels 8 + div_ceil counts.suffixes 8 =
    image_long i (has_sections i e.stands)
    ∙ sym (λ j. 40 + 64 * e.dense j + div_ceil (e.dense j) 8 + e.labels j + 2 * div_ceil (e.labels j) 8 + div_ceil (e.suffixes j) 8) in
    omega (arith, long, c.word_bits.ensures.held, c.word_bits-2.ensures.held, c.word_bits-3.ensures.held)
