use Rattle.std.proofs.Common.{◌≡◌, ◌≤◌, ◌<◌, ◌+◌, ◌*◌, ◌/◌, ap, ◌∙◌, get_or, length, arith}
use Rattle.bit_model.specs.Packed.{packed}
use Rattle.bit_words.specs.Counts.{rank_of}
use Rattle.bit_rank.proofs.Ranks.{first_word, length-block_ranks, kept_count}
use Rattle.bit_words.proofs.Packing.{word_place-lt}
use Rattle.bit_rank.proofs.ranked.Ranked.word_of.Goals as goal

pub index-requires : goal.index-requires
index-requires g c =
    omega (arith, c.requires, ap length c.self.invariant, length-block_ranks 128 c.self.inside.bits, c.self.inside.counts.ok.0, ap length c.self.view_is)

pub bounds-words-i : goal.bounds-words-i
bounds-words-i g c =
    let within : c.args.i < length c.self.inside.bits = omega (arith, c.requires, ap length c.self.view_is) in
    omega (arith, word_place-lt c.self.inside.bits c.words-words.result.now c.args.i c.words-words.ensures.value within)

pub bounds-words-i-2 : goal.bounds-words-i-2
bounds-words-i-2 g c =
    let within : c.args.i < length c.self.inside.bits = omega (arith, c.requires, ap length c.self.view_is) in
    word_place-lt c.self.inside.bits c.words-words.result.now c.args.i c.words-words.ensures.value within

pub returns-clause-word : goal.returns-clause-word
returns-clause-word g c =
    let bits = c.self.inside.bits in
    let words = c.words-words.result.now in
    let within : c.args.i ≤ length c.self.inside.bits = omega (arith, c.requires, ap length c.self.view_is) in
    let sum : c.from.result + c.ones_before.result ≡ rank_of c.self.inside.bits (64 * (c.args.i / 64)) =
    omega (
      arith,
      c.from.ensures,
      kept_count bits c.self.inside.counts.items c.args.i c.index.result.now c.self.invariant within c.index.ensures,
      first_word bits words c.args.i c.words-words.ensures.value,
      c.ones_before.ensures,
    ) in
    record {
      word = ap (λ (ns : _). get_or ns (c.args.i / 64) 0) (c.words-words.ensures.value ∙ ap (packed 64) c.self.view_is);
      before = sum ∙ ap (λ (bs : _). rank_of bs (64 * (c.args.i / 64))) c.self.view_is;
    }
