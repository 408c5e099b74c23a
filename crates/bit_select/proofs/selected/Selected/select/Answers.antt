use Rattle.std.proofs.Common.{◌≡◌, ◌<◌, ◌*◌, length, ap, arith, rules}
use Rattle.std.proofs.lemmas.List.{take_rest}
use Rattle.bit_select.specs.Place.{IsStart}
use Rattle.bit_select.proofs.Selecting.{absent, found, word_there}
use Rattle.bit_select.proofs.selected.Selected.select.Goals as goal

pub offset_bounds-words-start : goal.offset_bounds-words-start
offset_bounds-words-start g c =
    let begin : IsStart c.self.inside.bits c.args.n c.in_ok-start.start = rw (← c.self.view_is) at c.in_ok-start.ensures in
    let there = word_there c.self.inside.bits c.words.result.now c.in_ok-start.start.word c.words.ensures.value begin.there in
    record { fits = omega (arith, there, c.words.type_inv) }

pub slice_bounds-words-count : goal.slice_bounds-words-count
slice_bounds-words-count g c =
    let begin : IsStart c.self.inside.bits c.args.n c.in_ok-start.start = rw (← c.self.view_is) at c.in_ok-start.ensures in
    omega (arith, word_there c.self.inside.bits c.words.result.now c.in_ok-start.start.word c.words.ensures.value begin.there)

pub slice_bounds-words-start : goal.slice_bounds-words-start
slice_bounds-words-start g c =
    let begin : IsStart c.self.inside.bits c.args.n c.in_ok-start.start = rw (← c.self.view_is) at c.in_ok-start.ensures in
    let there = word_there c.self.inside.bits c.words.result.now c.in_ok-start.start.word c.words.ensures.value begin.there in
    search rules

pub returns-in_err-word : goal.returns-in_err-word
returns-in_err-word g c =
    let begin : IsStart c.self.inside.bits c.args.n c.in_ok-start.start = rw (← c.self.view_is) at c.in_ok-start.ensures in
    let rest = take_rest c.words.result.now c.in_ok-start.start.word in
    rw (c.from_residual-in_err-word.ensures, ← c.self.view_is)
    (absent c.self.inside.bits c.words.result.now c.args.n c.in_ok-start.start c.words.ensures.value begin (rw rest at c.in_err-word.ensures))

pub returns : goal.returns
returns g c =
    let begin : IsStart c.self.inside.bits c.args.n c.in_ok-start.start = rw (← c.self.view_is) at c.in_ok-start.ensures in
    let rest = take_rest c.words.result.now c.in_ok-start.start.word in
    rw (← c.self.view_is)
    (found c.self.inside.bits c.words.result.now c.args.n c.in_ok-start.start.word c.in_ok-start.start.number c.in_ok-word.word c.in_ok-word.left c.nth_one_in.result c.words.ensures.value begin.rank
    (rw rest at c.in_ok-word.ensures) c.nth_one_in.ensures.place (rw rest at c.nth_one_in.ensures.is_set) (rw rest at c.nth_one_in.ensures.before))
