use Rattle.std.proofs.Common.{◌≡◌, Bool, take, drop, sym, ap, ap₂, ◌∙◌, arith}
use Rattle.std.specs.Prelude.{Option, Some, None, bytes_eq, if◌then◌else◌}
use Rattle.map_model.specs.SortedMap.{Bytes}
use Rattle.block_model.specs.Formats.{Prefixed, rest_length_in}
use Rattle.block_format.specs.Finding.{alike_after}
use Rattle.block_format.proofs.Close.{all_reached, common_fits, here_decides, here_ends, here_fits, none_reached, own_of, reached_next, value_of_it, width_is}
use Rattle.block_format.proofs.finding.find_in_group.Goals as goal

pub loop-i-init : goal.loop-i-init
loop-i-init c = none_reached c.args.count c.args.key.now c.args.rest.now c.requires

pub head_of-head-requires : goal.head_of-head-requires
head_of-head-requires c =
    let l = c.loop-i in
    let all = here_fits c.args.count l.i l.at l.common c.args.key.now c.args.rest.now c.from_place-here.result.now l.invariant c.loop-i-test.true c.from_place-here.ensures.is in
    omega (arith, all)

pub own_part-own-requires : goal.own_part-own-requires
own_part-own-requires c =
    let l = c.loop-i in
    let e = c.head_of-head.ensures in
    let all = here_fits c.args.count l.i l.at l.common c.args.key.now c.args.rest.now c.from_place-here.result.now l.invariant c.loop-i-test.true c.from_place-here.ensures.is in
    omega (arith, all, e.rest, e.bytes)

pub returns-then-head-common : goal.returns-then-head-common
returns-then-head-common c =
    let l = c.loop-i in
    here_ends c.args.count l.i l.at l.common c.args.key.now c.args.rest.now c.from_place-here.result.now l.invariant c.loop-i-test.true c.from_place-here.ensures.is
    c.head_of-head.result.shared c.head_of-head.ensures.shared c.if-head-common.true

pub alike_after-requires : goal.alike_after-requires
alike_after-requires c = common_fits c.args.count c.loop-i.i c.loop-i.at c.loop-i.common c.args.key.now c.args.rest.now c.loop-i.invariant

pub from_place-requires : goal.from_place-requires
from_place-requires c = common_fits c.args.count c.loop-i.i c.loop-i.at c.loop-i.common c.args.key.now c.args.rest.now c.loop-i.invariant

pub said_here-requires : goal.said_here-requires
said_here-requires c =
    let l = c.loop-i in
    let e = c.head_of-head.ensures in
    let all = here_fits c.args.count l.i l.at l.common c.args.key.now c.args.rest.now c.from_place-here.result.now l.invariant c.loop-i-test.true c.from_place-here.ensures.is in
    omega (arith, all, e.rest, e.bytes, e.value)

pub width_of-at-requires : goal.width_of-at-requires
width_of-at-requires c =
    let l = c.loop-i in
    let e = c.head_of-head.ensures in
    let all = here_fits c.args.count l.i l.at l.common c.args.key.now c.args.rest.now c.from_place-here.result.now l.invariant c.loop-i-test.true c.from_place-here.ensures.is in
    omega (arith, all, e.rest, e.bytes, e.value)

pub returns-in-None : goal.returns-in-None
returns-in-None c =
    let l = c.loop-i in
    let head = c.head_of-head.result in
    let e = c.head_of-head.ensures in
    let here = c.from_place-here.result.now in
    let key = c.args.key.now in
    let own = take (rest_length_in Prefixed here) (drop 9 here) in
    let own_is : c.own_part-own.result.now ≡ own = c.own_part-own.ensures ∙ own_of here head.kind head.rest head.value head.bytes e.kind e.rest e.value e.bytes in
    let value = value_of_it here head.kind head.rest head.value head.bytes e.kind e.rest e.value e.bytes in
    let none : alike_after head.shared own key l.common ≡ None = ap (λ (o : Bytes). alike_after head.shared o key l.common) (sym own_is) ∙ sym c.alike_after.ensures ∙ c.in-None.is in
    c.said_here.ensures
    ∙ ap₂ (λ (t : Bool) (v : Option Bytes). if t then Some v else None) (c.is_same-is_it.ensures ∙ ap₂ bytes_eq own_is c.from_place.ensures.is) value
    ∙ sym (here_decides c.args.count l.i l.at l.common key c.args.rest.now here l.invariant c.loop-i-test.true c.from_place-here.ensures.is head.shared e.shared none)

pub loop-i-preserved : goal.loop-i-preserved
loop-i-preserved c =
    let l = c.loop-i in
    let head = c.head_of-head.result in
    let e = c.head_of-head.ensures in
    let here = c.from_place-here.result.now in
    let key = c.args.key.now in
    let own = take (rest_length_in Prefixed here) (drop 9 here) in
    let own_is : c.own_part-own.result.now ≡ own = c.own_part-own.ensures ∙ own_of here head.kind head.rest head.value head.bytes e.kind e.rest e.value e.bytes in
    let some : alike_after head.shared own key l.common ≡ Some c.in-Some.alike = ap (λ (o : Bytes). alike_after head.shared o key l.common) (sym own_is) ∙ sym c.alike_after.ensures ∙ c.in-Some.is in
    reached_next c.args.count l.i l.at l.common key c.args.rest.now here l.invariant c.loop-i-test.true c.from_place-here.ensures.is
    head.shared c.in-Some.alike c.width_of-at.result e.shared (omega (arith, c.if-head-common.false))
    (c.width_of-at.ensures.is ∙ width_is here head.kind head.rest head.value head.bytes e.kind e.rest e.value e.bytes) some

pub returns : goal.returns
returns c = all_reached c.args.count c.loop-i.i c.loop-i.at c.loop-i.common c.args.key.now c.args.rest.now c.loop-i.invariant (omega (arith, c.loop-i-test.false))
