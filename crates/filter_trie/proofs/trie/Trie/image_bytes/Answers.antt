use Rattle.std.proofs.Common.{◌+◌, ◌*◌, ◌∙◌, sym}
use Rattle.std.specs.Int.{div_ceil}
use Rattle.filter_trie.proofs.ImageSizes.{has_sections, image_long}
use Rattle.filter_trie.proofs.trie.Trie.image_bytes.Goals as goal

pub returns : goal.returns
returns g c =
    let counts = c.section_counts-counts.result in
    let e = c.section_counts-counts.ensures in
    (λ j. 40 + 64 * counts.dense + c.div_ceil.ensures j + counts.labels + 2 * c.div_ceil-2.ensures j + c.div_ceil-3.ensures j)
    ∙ (λ j. 40 + 64 * e.dense j + div_ceil (e.dense j) 8 + e.labels j + 2 * div_ceil (e.labels j) 8 + div_ceil (e.suffixes j) 8)
    ∙ sym (image_long c.args.self.now (has_sections c.args.self.now e.stands))
