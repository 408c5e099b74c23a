use Rattle.std.proofs.Common.{◌≡◌, ◌∙◌, Bor, List, ℕ, inl, refl, sym, ap, subst}
use Rattle.std.specs.Option.{option_map}
use Rattle.std.specs.Prelude.{IfSome, Option, Some, slice_get}
use Rattle.fst_map.specs.Places.{Place, first_key}
use Rattle.fst_run.proofs.Dialogue.{kept, onward}
use Rattle.fst_run.proofs.Found.{seek_none, seek_past, seek_some}
use Rattle.fst_run.proofs.Parts.{both_parts, by_key, pair_short}
use Rattle.line_model.specs.Replies.{At, Missing, found}
use Rattle.line_model.specs.Requests.{Seek}
use Rattle.map_file_model.specs.Maps.{keys_of}
use Rattle.map_model.specs.Slices.{is_up_to, seek}
use Rattle.map_model.specs.SortedMap.{Map}
use Rattle.fst_run.proofs.answers.seek_line.Goals as goal

-- no key is from the bound on
pub returns-in-Ok-None : goal.returns-in-Ok-None
returns-in-Ok-None g c =
    let map = c.args.map.now in
    let lo = c.args.lo.now in
    let hi = option_map (λ (bound : Bor (List ℕ)). bound.now) c.args.hi in
    let none = seek_none map lo hi (subst (λ (o : Option Place). option_map (λ p. p.number) o ≡ first_key (keys_of map) lo) c.in-Ok-None.field-0-is c.in-Ok-None.ensures.number) in
    let say = c.say_reply-in-Ok-None.ensures in
    onward g.W.Outside.tells_output map (Seek lo hi) c.say_reply-in-Ok-None.result (g.W.Disk.world c.args.out.now) (g.W.Disk.world c.say_reply-in-Ok-None.new.out) Missing
    (inl (sym (kept (Seek lo hi) (found (seek map lo hi)) (sym c.in_default.ensures) ∙ ap found none))) refl (λ output. say.says output tt) say.cause say.moves

-- the first one is above the other bound
pub returns-then-not-is_within : goal.returns-then-not-is_within
returns-then-not-is_within g c =
    let map = c.args.map.now in
    let lo = c.args.lo.now in
    let hi = option_map (λ (bound : Bor (List ℕ)). bound.now) c.args.hi in
    let at = c.in-Ok-Some.cursor in
    let same = subst (λ (o : Option Place). IfSome o (λ p. p.map ≡ map)) c.in-Ok-Some.field-0-is c.in-Ok-Some.ensures.map in
    let first = subst (λ (o : Option Place). option_map (λ p. p.number) o ≡ first_key (keys_of map) lo) c.in-Ok-Some.field-0-is c.in-Ok-Some.ensures.number in
    let pair = by_key (slice_get at.map at.number) c.key.result.now (subst (λ (p : Place). option_map (λ q. q.0) (slice_get p.map p.number) ≡ Some c.key.result.now) c.in-Ok-Some.cursor-is c.key.ensures) in
    let here = subst (λ (m : Map). slice_get m at.number ≡ Some pair.0) same pair.1 in
    let none = seek_past map lo hi at.number c.requires.may.rises first pair.0 here (ap (is_up_to hi) pair.2 ∙ sym c.is_within.ensures ∙ c.if-not-is_within.true) in
    let say = c.say_reply-then-not-is_within.ensures in
    onward g.W.Outside.tells_output map (Seek lo hi) c.say_reply-then-not-is_within.result (g.W.Disk.world c.args.out.now) (g.W.Disk.world c.say_reply-then-not-is_within.new.out) Missing
    (inl (sym (kept (Seek lo hi) (found (seek map lo hi)) (sym c.in_default.ensures) ∙ ap found none))) refl (λ output. say.says output tt) say.cause say.moves

-- it is the one that was asked for
pub returns : goal.returns
returns g c =
    let map = c.args.map.now in
    let lo = c.args.lo.now in
    let hi = option_map (λ (bound : Bor (List ℕ)). bound.now) c.args.hi in
    let at = c.in-Ok-Some.cursor in
    let same = subst (λ (o : Option Place). IfSome o (λ p. p.map ≡ map)) c.in-Ok-Some.field-0-is c.in-Ok-Some.ensures.map in
    let first = subst (λ (o : Option Place). option_map (λ p. p.number) o ≡ first_key (keys_of map) lo) c.in-Ok-Some.field-0-is c.in-Ok-Some.ensures.number in
    let key = c.key-2.result.now in
    let value = c.value.result.now in
    let here = subst (λ (m : Map). slice_get m at.number ≡ Some (key, value)) same (subst (λ (p : Place). slice_get p.map p.number ≡ Some (key, value)) c.in-Ok-Some.cursor-is (both_parts _ key value c.key-2.ensures c.value.ensures)) in
    let once : Some c.key.result.now ≡ Some key = sym c.key.ensures ∙ c.key-2.ensures in
    let low = ap (is_up_to hi) (let e : c.key.result.now ≡ key = cc in sym e) ∙ sym c.is_within.ensures ∙ c.if-not-is_within.false in
    let some = seek_some map lo hi at.number c.requires.may.rises first (key, value) here low in
    let say = c.say_reply-2.ensures in
    onward g.W.Outside.tells_output map (Seek lo hi) c.say_reply-2.result (g.W.Disk.world c.args.out.now) (g.W.Disk.world c.say_reply-2.new.out) (At key value)
    (inl (sym (kept (Seek lo hi) (found (seek map lo hi)) (sym c.in_default.ensures) ∙ ap found some))) refl (λ output. say.says output (pair_short map at.number (key, value) c.requires.may.short here)) say.cause say.moves
