use Rattle.std.proofs.Common.{◌<◌, ◌+◌, ◌*◌, ◌/◌, ◌%◌, length, refl, ap, arith}
use Rattle.bit_select.proofs.Selecting.{sampled, start, word_there}
use Rattle.bit_select.proofs.selected.Selected.start.Goals as goal

pub bounds-words-word : goal.bounds-words-word
bounds-words-word g c =
    let bits = c.self.inside.bits in
    let below : c.args.n / 64 < length c.self.inside.samples.items = omega (arith, c.len.ensures, c.self.inside.samples.ok.0, c.if-n-len.false) in
    let sample = c.index.result.now in
    let words = c.words.result.now in
    let place = sampled bits (length bits) c.self.inside.samples.items (c.args.n / 64) sample c.self.invariant below c.index.ensures in
    let begin = start bits words c.args.n sample _ c.words.ensures.value place refl in
    word_there bits words (sample / 64) c.words.ensures.value begin.there

pub returns : goal.returns
returns g c =
    let bits = c.self.inside.bits in
    let below : c.args.n / 64 < length c.self.inside.samples.items = omega (arith, c.len.ensures, c.self.inside.samples.ok.0, c.if-n-len.false) in
    let sample = c.index.result.now in
    let words = c.words.result.now in
    let place = sampled bits (length bits) c.self.inside.samples.items (c.args.n / 64) sample c.self.invariant below c.index.ensures in
    rw (← c.self.view_is) (start bits words c.args.n sample (c.args.n % 64 + c.ones_below.result) c.words.ensures.value place (ap (λ n. c.args.n % 64 + n) c.ones_below.ensures))
