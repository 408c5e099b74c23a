use Rattle.std.proofs.Common.{◌≡◌, ◌<◌, ◌+◌, ◌*◌, length, refl, ap, arith, rules}
use Rattle.std.proofs.lemmas.List.{take_rest}
use Rattle.bit_model.specs.Packed.{packed}
use Rattle.bit_words.specs.Counts.{rank_of}
use Rattle.bit_select.proofs.Selecting.{along_to, found, word_there}
use Rattle.bit_select.proofs.selected.Selected.near.Goals as goal

pub offset_bounds-words-start : goal.offset_bounds-words-start
offset_bounds-words-start g c =
    let within : 64 * c.args.start.word < length c.self.inside.bits = omega (arith, c.requires.there, ap length c.self.view_is) in
    let there = word_there c.self.inside.bits c.words.result.now c.args.start.word c.words.ensures.value within in
    record { fits = omega (arith, there, c.words.type_inv) }

pub slice_bounds-words-count : goal.slice_bounds-words-count
slice_bounds-words-count g c =
    let within : 64 * c.args.start.word < length c.self.inside.bits = omega (arith, c.requires.there, ap length c.self.view_is) in
    let there = word_there c.self.inside.bits c.words.result.now c.args.start.word c.words.ensures.value within in
    omega (arith, there)

pub slice_bounds-words-start : goal.slice_bounds-words-start
slice_bounds-words-start g c =
    let within : 64 * c.args.start.word < length c.self.inside.bits = omega (arith, c.requires.there, ap length c.self.view_is) in
    let there = word_there c.self.inside.bits c.words.result.now c.args.start.word c.words.ensures.value within in
    search rules

pub offset_bounds-along-start : goal.offset_bounds-along-start
offset_bounds-along-start g c =
    let within : 64 * c.args.start.word < length c.self.inside.bits = omega (arith, c.requires.there, ap length c.self.view_is) in
    let there = word_there c.self.inside.bits c.words.result.now c.args.start.word c.words.ensures.value within in
    record { fits = omega (arith, there, c.words.type_inv) }

pub slice_bounds-beside-count : goal.slice_bounds-beside-count
slice_bounds-beside-count g c =
    let within : 64 * c.args.start.word < length c.self.inside.bits = omega (arith, c.requires.there, ap length c.self.view_is) in
    let there = word_there c.self.inside.bits c.words.result.now c.args.start.word c.words.ensures.value within in
    let same : length c.args.along.now ≡ length c.words.result.now = omega (arith, c.requires.along, ap length c.words.ensures.value, ap (λ bs. length (packed 64 bs)) c.self.view_is) in
    omega (arith, there, same)

pub slice_bounds-beside-start : goal.slice_bounds-beside-start
slice_bounds-beside-start g c =
    let within : 64 * c.args.start.word < length c.self.inside.bits = omega (arith, c.requires.there, ap length c.self.view_is) in
    let there = word_there c.self.inside.bits c.words.result.now c.args.start.word c.words.ensures.value within in
    let same : length c.args.along.now ≡ length c.words.result.now = omega (arith, c.requires.along, ap length c.words.ensures.value, ap (λ bs. length (packed 64 bs)) c.self.view_is) in
    let inside : c.args.start.word < length c.args.along.now = omega (arith, there, same) in
    search rules

pub word_near-requires : goal.word_near-requires
word_near-requires g c =
    let same : length c.args.along.now ≡ length c.words.result.now = omega (arith, c.requires.along, ap length c.words.ensures.value, ap (λ bs. length (packed 64 bs)) c.self.view_is) in
    omega (arith, same)

pub returns-clause-place : goal.returns-clause-place
returns-clause-place g c =
    let rest = take_rest c.words.result.now c.args.start.word in
    rw (← c.self.view_is)
    (found c.self.inside.bits c.words.result.now (rank_of c.self.inside.bits (64 * c.args.start.word) + c.args.start.number) c.args.start.word c.args.start.number c.in_ok-found.found.word c.in_ok-found.found.left c.nth_one_in-bit.result c.words.ensures.value refl
    (rw rest at c.in_ok-found.ensures.word) c.nth_one_in-bit.ensures.place (rw rest at c.nth_one_in-bit.ensures.is_set) (rw rest at c.nth_one_in-bit.ensures.before))

pub returns-clause-along : goal.returns-clause-along
returns-clause-along g c =
    let rest = take_rest c.args.along.now c.args.start.word in
    along_to c.args.along.now c.args.start.word c.in_ok-found.found.word c.nth_one_in-bit.result c.in_ok-found.found.beside c.ones_below.result c.nth_one_in-bit.ensures.place
    (rw rest at c.in_ok-found.ensures.beside) (rw rest at c.ones_below.ensures)
