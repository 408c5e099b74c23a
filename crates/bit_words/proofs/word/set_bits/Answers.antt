use Rattle.std.proofs.Common.{◌≢◌, ◌+◌, ◌-◌, ◌*◌, ◌/◌, ◌%◌, ◌^◌, ◌<◌, ◌∙◌, length, set, arith}
use Rattle.std.specs.Int.RustNames.{bit_or}
use Rattle.std.proofs.lemmas.List.{get_or_read, length-set}
use Rattle.bit_words.proofs.Words.{first_before, first_set, both_set, set_elsewhere, words_fit}
use Rattle.bit_words.proofs.word.set_bits.Goals as goal

pub returns-then-shift-count-gt64-clause-fit : goal.returns-then-shift-count-gt64-clause-fit
returns-then-shift-count-gt64-clause-fit g c = words_fit _ c.type_inv.words

pub returns-then-shift-count-gt64-clause-before : goal.returns-then-shift-count-gt64-clause-before
returns-then-shift-count-gt64-clause-before g c = λ j before.
    let ws = c.args.words.now.items in
    let there : c.args.i / 64 < length ws = omega (arith, c.requires.some, c.requires.there) in
    let is = get_or_read ws (c.args.i / 64) c.index_mut.result.now there c.index_mut.ensures.value 0 in
    let first = set ws (c.args.i / 64) (bit_or c.index_mut.result.now (c.args.number * 2 ^ (c.args.i % 64) % 2 ^ 64)) in
    let other : j / 64 ≢ c.args.i / 64 + 1 = omega arith in
    set_elsewhere first (c.args.i / 64 + 1) (bit_or c.index_mut-then-shift-count-gt64.result.now (c.args.number / 2 ^ (64 - c.args.i % 64))) j other
    ∙ first_before ws c.args.i c.index_mut.result.now c.args.number j there is before

pub returns-then-shift-count-gt64-clause-set : goal.returns-then-shift-count-gt64-clause-set
returns-then-shift-count-gt64-clause-set g c = λ j.
    let ws = c.args.words.now.items in
    let there : c.args.i / 64 < length ws = omega (arith, c.requires.some, c.requires.there) in
    let is = get_or_read ws (c.args.i / 64) c.index_mut.result.now there c.index_mut.ensures.value 0 in
    let first = set ws (c.args.i / 64) (bit_or c.index_mut.result.now (c.args.number * 2 ^ (c.args.i % 64) % 2 ^ 64)) in
    let next : c.args.i / 64 + 1 < length ws = omega (arith, c.requires.there, c.if-shift-count-gt64.true) in
    let second : c.args.i / 64 + 1 < length first =
    omega (arith, next, length-set ws (c.args.i / 64) (bit_or c.index_mut.result.now (c.args.number * 2 ^ (c.args.i % 64) % 2 ^ 64))) in
    both_set ws c.args.i c.index_mut.result.now c.index_mut-then-shift-count-gt64.result.now c.args.number j next is
    (get_or_read first (c.args.i / 64 + 1) c.index_mut-then-shift-count-gt64.result.now second c.index_mut-then-shift-count-gt64.ensures.value 0)
    c.ranges.number.fits (omega (arith, c.requires.width, c.if-shift-count-gt64.true))

pub returns-else-shift-count-gt64-clause-fit : goal.returns-else-shift-count-gt64-clause-fit
returns-else-shift-count-gt64-clause-fit g c = words_fit _ c.type_inv.words

pub returns-else-shift-count-gt64-clause-before : goal.returns-else-shift-count-gt64-clause-before
returns-else-shift-count-gt64-clause-before g c = λ j before.
    let ws = c.args.words.now.items in
    let there : c.args.i / 64 < length ws = omega (arith, c.requires.some, c.requires.there) in
    let is = get_or_read ws (c.args.i / 64) c.index_mut.result.now there c.index_mut.ensures.value 0 in
    first_before ws c.args.i c.index_mut.result.now c.args.number j there is before

pub returns-else-shift-count-gt64-clause-set : goal.returns-else-shift-count-gt64-clause-set
returns-else-shift-count-gt64-clause-set g c = λ j.
    let ws = c.args.words.now.items in
    let there : c.args.i / 64 < length ws = omega (arith, c.requires.some, c.requires.there) in
    let is = get_or_read ws (c.args.i / 64) c.index_mut.result.now there c.index_mut.ensures.value 0 in
    first_set ws c.args.i c.index_mut.result.now c.args.number c.args.count j there is c.requires.fits (omega (arith, c.if-shift-count-gt64.false))
