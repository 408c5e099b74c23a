use Rattle.std.proofs.Common.{ℕ, get_or, take, drop, refl, ◌≡◌, ◌<◌, ◌≤◌, ◌+◌, ap, ◌∙◌, sym, subst, arith}
use Rattle.extent_model.specs.Gaps.{largest_gap}
use Rattle.extent_map.specs.declared.extents.NoGap.{NoGap}
use Rattle.extent_map.specs.Taken.{Taken, RiseFrom}
use Rattle.extent_model.specs.Extents.{end_of}
use Rattle.extent_model.proofs.Free.{gap_is_free}
use Rattle.extent_map.proofs.Order.{laid, within}
use Rattle.extent_map.proofs.Search.{Searched, is_next, is_last, largest_is, next, next_on_device, none_less}
use Rattle.extent_map.proofs.extents.Extents.gap.Goals as goal

pub returns-then-room-need-clause-gap : goal.returns-then-room-need-clause-gap
returns-then-room-need-clause-gap c =
    let t = c.args.self.now in
    let xs = c.deref-first-items.result.now in
    let i = c.loop-first.first-index in
    let is : xs ≡ t.extents = c.deref-first-items.ensures.value ∙ ap (λ (t : Taken). t.extents) c.self.view_is in
    let rise = subst (λ (t : Taken). RiseFrom t.pages 192 t.extents) c.self.view_is c.self.invariant.1 in
    let on = next_on_device t xs is rise c.args.need c.loop-first.free c.loop-first.largest i c.from-room.result c.loop-first.invariant (0, 0) c.loop-first-test.true in
    is_next t xs is rise c.args.need c.loop-first.free c.loop-first.largest i c.from-room.result c.loop-first.invariant (0, 0) c.loop-first-test.true (omega (arith, on.0, c.from-room.ensures)) c.if-room-need.true

pub returns-then-room-need-clause-free : goal.returns-then-room-need-clause-free
returns-then-room-need-clause-free c some =
    let t = c.args.self.now in
    let rise = subst (λ (t : Taken). RiseFrom t.pages 192 t.extents) c.self.view_is c.self.invariant.1 in
    gap_is_free t.pages t.extents c.args.need c.loop-first.free some (laid t.pages t.extents rise).on_device (returns-then-room-need-clause-gap c)

pub returns-then-room-need-clause-within : goal.returns-then-room-need-clause-within
returns-then-room-need-clause-within c some =
    let few = subst (λ (t : Taken). t.pages ≤ 16777216) c.self.view_is c.self.invariant.0 in
    let upto = (returns-then-room-need-clause-free c some).0.to in
    omega (arith, few, upto)

pub returns-then-room-need-clause-exact : goal.returns-then-room-need-clause-exact
returns-then-room-need-clause-exact c = (λ never. absurd cc, λ less. absurd (none_less c.args.self.now c.args.need c.loop-first.free (returns-then-room-need-clause-gap c) less))

pub overflow_add-free : goal.overflow_add-free
overflow_add-free c =
    let t = c.args.self.now in
    let xs = c.deref-first-items.result.now in
    let is : xs ≡ t.extents = c.deref-first-items.ensures.value ∙ ap (λ (t : Taken). t.extents) c.self.view_is in
    let rise = subst (λ (t : Taken). RiseFrom t.pages 192 t.extents) c.self.view_is c.self.invariant.1 in
    let few = subst (λ (t : Taken). t.pages ≤ 16777216) c.self.view_is c.self.invariant.0 in
    let on = next_on_device t xs is rise c.args.need c.loop-first.free c.loop-first.largest c.loop-first.first-index 0 c.loop-first.invariant (0, 0) c.loop-first-test.true in
    record { fits = omega (arith, on.1, few) }

pub loop-first-preserved : goal.loop-first-preserved
loop-first-preserved c =
    let t = c.args.self.now in
    let xs = c.deref-first-items.result.now in
    let i = c.loop-first.first-index in
    let is : xs ≡ t.extents = c.deref-first-items.ensures.value ∙ ap (λ (t : Taken). t.extents) c.self.view_is in
    let rise = subst (λ (t : Taken). RiseFrom t.pages 192 t.extents) c.self.view_is c.self.invariant.1 in
    let on = next_on_device t xs is rise c.args.need c.loop-first.free c.loop-first.largest i c.from-room.result c.loop-first.invariant (0, 0) c.loop-first-test.true in
    let done = next t xs is rise c.args.need c.loop-first.free c.loop-first.largest i c.from-room.result c.loop-first.invariant (0, 0) c.loop-first-test.true (omega (arith, on.0, c.from-room.ensures)) c.if-room-need.false in
    subst (λ (n : ℕ). Searched t.pages c.args.need (end_of (get_or xs i (0, 0))) n (take (i + 1) xs) (drop (i + 1) xs)) (sym c.max-largest.ensures) done

pub returns-clause-gap : goal.returns-clause-gap
returns-clause-gap c =
    let t = c.args.self.now in
    let xs = c.deref-first-items.result.now in
    let i = c.loop-first.first-index in
    let is : xs ≡ t.extents = c.deref-first-items.ensures.value ∙ ap (λ (t : Taken). t.extents) c.self.view_is in
    let rise = subst (λ (t : Taken). RiseFrom t.pages 192 t.extents) c.self.view_is c.self.invariant.1 in
    let same = ap (λ (t : Taken). t.pages) c.self.view_is in
    let upto = within t.pages c.loop-first.free (drop i xs) c.loop-first.invariant.rise in
    is_last t xs is rise c.args.need c.loop-first.free c.loop-first.largest i c.from-room-2.result c.loop-first.invariant c.loop-first-test.false (omega (arith, upto, c.from-room-2.ensures, same)) c.if-room-need-2.false

pub returns-clause-free : goal.returns-clause-free
returns-clause-free c some =
    let t = c.args.self.now in
    let rise = subst (λ (t : Taken). RiseFrom t.pages 192 t.extents) c.self.view_is c.self.invariant.1 in
    gap_is_free t.pages t.extents c.args.need c.loop-first.free some (laid t.pages t.extents rise).on_device (returns-clause-gap c)

pub returns-clause-within : goal.returns-clause-within
returns-clause-within c some =
    let few = subst (λ (t : Taken). t.pages ≤ 16777216) c.self.view_is c.self.invariant.0 in
    let upto = (returns-clause-free c some).0.to in
    omega (arith, few, upto)

pub returns-clause-exact : goal.returns-clause-exact
returns-clause-exact c = (λ never. absurd cc, λ less. absurd (none_less c.args.self.now c.args.need c.loop-first.free (returns-clause-gap c) less))

pub returns-then-room-need-2-clause-no_gap : goal.returns-then-room-need-2-clause-no_gap
returns-then-room-need-2-clause-no_gap c =
    let t = c.args.self.now in
    let xs = c.deref-first-items.result.now in
    let i = c.loop-first.first-index in
    let is : xs ≡ t.extents = c.deref-first-items.ensures.value ∙ ap (λ (t : Taken). t.extents) c.self.view_is in
    let rise = subst (λ (t : Taken). RiseFrom t.pages 192 t.extents) c.self.view_is c.self.invariant.1 in
    let same = ap (λ (t : Taken). t.pages) c.self.view_is in
    let upto = within t.pages c.loop-first.free (drop i xs) c.loop-first.invariant.rise in
    let largest : largest_gap t.pages t.extents ≡ c.max-largest-then-room-need-2.result =
    largest_is t xs is rise c.args.need c.loop-first.free c.loop-first.largest i c.from-room-2.result c.loop-first.invariant c.loop-first-test.false (omega (arith, upto, c.from-room-2.ensures, same)) ∙ sym c.max-largest-then-room-need-2.ensures in
    ap (λ (n : ℕ). record { need = c.args.need; largest = n }) (sym largest)

pub returns-then-room-need-2-clause-exact : goal.returns-then-room-need-2-clause-exact
returns-then-room-need-2-clause-exact c =
    let t = c.args.self.now in
    let largest : c.max-largest-then-room-need-2.result ≡ largest_gap t.pages t.extents = ap (λ (gap : NoGap). gap.largest) (returns-then-room-need-2-clause-no_gap c) in
    let small = c.loop-first.invariant.small (omega (arith, c.if-room-need-2.true)) in
    let less : c.max-largest-then-room-need-2.result < c.args.need = omega (arith, c.max-largest-then-room-need-2.ensures, c.if-room-need-2.true, small) in
    (λ _. subst (λ (n : ℕ). n < c.args.need) largest less, λ _. refl)
