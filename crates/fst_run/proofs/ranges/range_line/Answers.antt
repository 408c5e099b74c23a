use Rattle.std.proofs.Common.{◌≡◌, ◌∙◌, ◌++◌, [], inl, inr, length, refl, sym, take, ap, arith, subst}
use Rattle.std.specs.Option.{option_map}
use Rattle.std.specs.Prelude.{IfSome, Option, Some}
use Rattle.fst_map.specs.Places.{Place, first_key}
use Rattle.fst_run.specs.Answering.{from_on, pairs_text}
use Rattle.fst_run.proofs.Dialogue.{kept, onward}
use Rattle.fst_run.proofs.Found.{listed_cut, listed_said, slice_none, slice_on}
use Rattle.line_model.specs.Requests.{Range}
use Rattle.lines_in.proofs.EndCauses.{rose_since}
use Rattle.map_file_model.specs.Maps.{keys_of}
use Rattle.map_model.specs.Slices.{slice}
use Rattle.map_model.specs.SortedMap.{Map}
use Rattle.map_run_model.specs.MapLines.{listed}
use Rattle.outside.proofs.Pieces.{says_then}
use Rattle.outside.specs.Streams.{SaysPrefix}
use Rattle.fst_run.proofs.ranges.range_line.Goals as goal

-- no key is from the bound on
pub returns-in-Ok-None : goal.returns-in-Ok-None
returns-in-Ok-None g c =
    let map = c.args.map.now in
    let lo = c.args.lo.now in
    let hi = c.args.hi.now in
    let most = c.args.most in
    let none = slice_none map lo hi most (subst (λ (o : Option Place). option_map (λ p. p.number) o ≡ first_key (keys_of map) lo) c.in-Ok-None.field-0-is c.in-Ok-None.ensures.number) in
    let say = c.say_reply-in-Ok-None.ensures in
    onward g.W.Outside.tells_output map (Range lo hi most) c.say_reply-in-Ok-None.result (g.W.Disk.world c.args.out.now) (g.W.Disk.world c.say_reply-in-Ok-None.new.out) (listed [])
    (inl (sym (kept (Range lo hi most) (listed (slice map lo (Some hi) most)) (sym c.in_default.ensures) ∙ ap listed none))) refl (λ output. say.says output (omega arith)) say.cause say.moves

-- the pairs were said
pub returns-in-Ok : goal.returns-in-Ok
returns-in-Ok g c =
    let map = c.args.map.now in
    let lo = c.args.lo.now in
    let hi = c.args.hi.now in
    let most = c.args.most in
    let at = c.in-Ok-Some.cursor in
    let a = g.W.Disk.world c.args.out.now in
    let mid = g.W.Disk.world c.say_pairs.new.out in
    let b = g.W.Disk.world c.say_behind.new.out in
    let pairs = slice map lo (Some hi) most in
    let count = c.in-Ok.count in
    let waits = take c.in-Ok.used c.say_pairs.new.buffer in
    let say = c.say_behind.ensures in
    let same = subst (λ (o : Option Place). IfSome o (λ p. p.map ≡ map)) c.in-Ok-Some.field-0-is c.in-Ok-Some.ensures.map in
    let first = subst (λ (o : Option Place). option_map (λ p. p.number) o ≡ first_key (keys_of map) lo) c.in-Ok-Some.field-0-is c.in-Ok-Some.ensures.number in
    let on = slice_on map lo hi most at same c.requires.may.rises first in
    let counted = subst (λ (p : Place). count ≡ length (take most (from_on p (Some hi)))) c.in-Ok-Some.cursor-is c.in-Ok.ensures.count ∙ ap length on in
    onward g.W.Outside.tells_output map (Range lo hi most) c.say_behind.result a b (listed pairs) (inl (sym (kept (Range lo hi most) (listed pairs) (sym c.in_default.ensures)))) refl
    (λ output. listed_said pairs count waits c.say_behind.result a mid b counted
    (subst (λ (p : Place). mid.beside.said ++ waits ≡ a.beside.said ++ pairs_text (take most (from_on p (Some hi)))) c.in-Ok-Some.cursor-is (c.in-Ok.ensures.said output) ∙ ap (λ (l : Map). a.beside.said ++ pairs_text l) on)
    c.say_pairs.ensures.moves say.moves (say.says output))
    (elim say.cause [ inl whole ↦ inl whole | inr six ↦ inr (six.0, rose_since a.beside.say_faults mid.beside.say_faults b.beside.say_faults c.say_pairs.ensures.moves.say_faults six.1) ])
    (says_then a mid b c.say_pairs.ensures.moves say.moves)

-- the output failed
pub returns : goal.returns
returns g c =
    let map = c.args.map.now in
    let lo = c.args.lo.now in
    let hi = c.args.hi.now in
    let most = c.args.most in
    let at = c.in-Ok-Some.cursor in
    let a = g.W.Disk.world c.args.out.now in
    let b = g.W.Disk.world c.say_pairs.new.out in
    let pairs = slice map lo (Some hi) most in
    let same = subst (λ (o : Option Place). IfSome o (λ p. p.map ≡ map)) c.in-Ok-Some.field-0-is c.in-Ok-Some.ensures.map in
    let first = subst (λ (o : Option Place). option_map (λ p. p.number) o ≡ first_key (keys_of map) lo) c.in-Ok-Some.field-0-is c.in-Ok-Some.ensures.number in
    let on = slice_on map lo hi most at same c.requires.may.rises first in
    record {
      answered = λ output. (
        listed pairs,
        inl (sym (kept (Range lo hi most) (listed pairs) (sym c.in_default.ensures))),
        (
          listed_cut pairs a b
              (subst (λ (l : Map). SaysPrefix (pairs_text l) a.beside.said b.beside.said) on
              (subst (λ (p : Place). SaysPrefix (pairs_text (take most (from_on p (Some hi)))) a.beside.said b.beside.said) c.in-Ok-Some.cursor-is (c.in-Err-say_pairs.ensures.prefix output))),
          inr refl,
        ),
      );
      ends = inr (inr (refl, c.in-Err-say_pairs.ensures.cause));
      moves = c.say_pairs.ensures.moves;
    }
