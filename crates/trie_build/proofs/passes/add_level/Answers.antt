use Rattle.std.proofs.Common.{◌≡◌, ◌≤◌, ◌+◌, ◌++◌, ◌∷◌, ◌∙◌, List, [], drop, get_or, ap, arith, refl, subst, sym}
use Rattle.std.specs.Prelude.{sum_by}
use Rattle.filter_model.specs.Leaves.{Leaf}
use Rattle.trie_build.specs.Building.{MayGrow, half_with, nodes_behind}
use Rattle.trie_build.proofs.Levels.{paths_short}
use Rattle.trie_build.proofs.OneSpan.{IsUnderWay, begins, begins_next, goes_on, is_done, letter_of_span, next_is, stands_alone, whole_has_form, whole_has_room, with_path}
use Rattle.trie_build.proofs.Whole.{half_is}
use Rattle.trie_levels.specs.declared.spans.Span.{Span}
use Rattle.trie_model.specs.Halves.{Half}
use Rattle.trie_build.proofs.passes.add_level.Goals.{then-span-level, else-span-level}
use Rattle.trie_build.proofs.passes.add_level.Goals as goal

abbrev no_span : Span
no_span = record { leaf = 0; closes = 0; len = 0 }

pub loop-i-init : goal.loop-i-init
loop-i-init g c = (
  λ ls m. subst (λ n. IsUnderWay ls c.args.level (g.H.GrowingHalf.half c.args.half.now).before (g.H.GrowingHalf.half c.args.half.now).nodes n c.args.spans.now) (sym c.clear.ensures)
      (begins ls c.args.level (g.H.GrowingHalf.half c.args.half.now).before (g.H.GrowingHalf.half c.args.half.now).nodes c.args.spans.now m.cut.trie m.spans_are m.before m.nodes),
  refl,
  refl,
)

pub get-requires : goal.get-requires
get-requires g c = (letter_of_span c.args.keys.now c.requires.0 c.args.level c.args.spans.now c.loop-i.i no_span c.requires.1.cut c.requires.1.spans_are (omega arith)).within

pub add_span-requires-clause-short : goal.add_span-requires-clause-short
add_span-requires-clause-short g c = omega (arith, paths_short c.requires.0 c.requires.1.cut.trie, c.requires.1.within)

pub add_span-requires-clause-alone : goal.add_span-requires-clause-alone
add_span-requires-clause-alone g c =
    let ls = c.requires.0 in
    let n = c.args.level in
    let spans = c.args.spans.now in
    let i = c.loop-i.i in
    stands_alone c.args.keys.now ls n (g.H.GrowingHalf.half c.args.half.now).before (g.H.GrowingHalf.half c.loop-i.half).nodes c.loop-i.node (get_or spans i no_span) (drop (i + 1) spans) c.get.result.now c.requires.1.cut.trie (omega (arith, c.requires.1.within))
    (next_is ls n (g.H.GrowingHalf.half c.args.half.now).before (g.H.GrowingHalf.half c.loop-i.half).nodes c.loop-i.node spans i no_span (omega arith) (c.loop-i.invariant.0 ls c.requires.1))
    (letter_of_span c.args.keys.now ls n spans i no_span c.requires.1.cut c.requires.1.spans_are (omega arith)) c.get.ensures

pub give-requires-clause-form : goal.give-requires-clause-form
give-requires-clause-form g c =
    let ls = c.requires.0 in
    let n = c.args.level in
    let spans = c.args.spans.now in
    let i = c.loop-i.i in
    let before = (g.H.GrowingHalf.half c.args.half.now).before in
    let ns = (g.H.GrowingHalf.half c.loop-i.half).nodes in
    let s = get_or spans i no_span in
    let rest = drop (i + 1) spans in
    let here = next_is ls n before ns c.loop-i.node spans i no_span (omega arith) (c.loop-i.invariant.0 ls c.requires.1) in
    let letter = letter_of_span c.args.keys.now ls n spans i no_span c.requires.1.cut c.requires.1.spans_are (omega arith) in
    let is = with_path c.args.keys.now ls n c.loop-i.node c.add_span.new.self s c.get.result.now letter c.get.ensures c.in_ok-add_span.ensures in
    whole_has_form ls n before ns c.loop-i.node c.add_span.new.self s rest c.requires.1.cut.trie (omega (arith, c.requires.1.within)) is c.if-span-level.true here

pub give-requires-clause-room : goal.give-requires-clause-room
give-requires-clause-room g c =
    let ls = c.requires.0 in
    let n = c.args.level in
    let spans = c.args.spans.now in
    let i = c.loop-i.i in
    let before = (g.H.GrowingHalf.half c.args.half.now).before in
    let ns = (g.H.GrowingHalf.half c.loop-i.half).nodes in
    let s = get_or spans i no_span in
    let rest = drop (i + 1) spans in
    let here = next_is ls n before ns c.loop-i.node spans i no_span (omega arith) (c.loop-i.invariant.0 ls c.requires.1) in
    let letter = letter_of_span c.args.keys.now ls n spans i no_span c.requires.1.cut c.requires.1.spans_are (omega arith) in
    let is = with_path c.args.keys.now ls n c.loop-i.node c.add_span.new.self s c.get.result.now letter c.get.ensures c.in_ok-add_span.ensures in
    subst (λ limit. sum_by g.H.GrowingHalf.size (ns ++ c.add_span.new.self ∷ []) ≤ limit) (sym c.loop-i.invariant.2)
    (whole_has_room ls n before ns c.loop-i.node c.add_span.new.self s rest g.H.GrowingHalf.size (g.H.GrowingHalf.limit c.args.half.now) c.requires.1.room is c.if-span-level.true here)

pub loop-i-preserved : goal.loop-i-preserved
loop-i-preserved g c =
    let n = c.args.level in
    let spans = c.args.spans.now in
    let i = c.loop-i.i in
    let before = (g.H.GrowingHalf.half c.args.half.now).before in
    let ns = (g.H.GrowingHalf.half c.loop-i.half).nodes in
    let s = get_or spans i no_span in
    let rest = drop (i + 1) spans in
    let here = λ (ls : List Leaf) (m : MayGrow c.args.keys.now ls n (n + 1) (g.H.GrowingHalf.half c.args.half.now) g.H.GrowingHalf.size (g.H.GrowingHalf.limit c.args.half.now) spans).
    next_is ls n before ns c.loop-i.node spans i no_span (omega arith) (c.loop-i.invariant.0 ls m) in
    let is = λ (ls : List Leaf) (m : MayGrow c.args.keys.now ls n (n + 1) (g.H.GrowingHalf.half c.args.half.now) g.H.GrowingHalf.size (g.H.GrowingHalf.limit c.args.half.now) spans).
    with_path c.args.keys.now ls n c.loop-i.node c.add_span.new.self s c.get.result.now (letter_of_span c.args.keys.now ls n spans i no_span m.cut m.spans_are (omega arith)) c.get.ensures c.in_ok-add_span.ensures in
    elim c.if-span-level.branch [
      | then-span-level w ↦
          let half : g.H.GrowingHalf.half c.if-span-level.half ≡ half_with c.add_span.new.self (g.H.GrowingHalf.half c.loop-i.half) = ap g.H.GrowingHalf.half w.half-is ∙ w.give.ensures.half in (
            λ ls m. subst (λ ms. IsUnderWay ls n before ms c.if-span-level.node rest) (sym (ap (λ (h : Half). h.nodes) half))
                (subst (λ a. IsUnderWay ls n before (ns ++ c.add_span.new.self ∷ []) a rest) (sym (w.node-is ∙ w.give.ensures.node))
                (begins_next ls n before ns c.loop-i.node c.add_span.new.self s rest (is ls m) w.if-span-level.true (here ls m))),
            ap (λ (h : Half). h.before) half ∙ c.loop-i.invariant.1,
            ap g.H.GrowingHalf.limit w.half-is ∙ w.give.ensures.limit ∙ c.loop-i.invariant.2,
          )
      | else-span-level w ↦ (
        λ ls m. subst (λ h. IsUnderWay ls n before (g.H.GrowingHalf.half h).nodes c.if-span-level.node rest) (sym w.half-is)
            (subst (λ a. IsUnderWay ls n before ns a rest) (sym w.node-is)
            (goes_on ls n before ns c.loop-i.node c.add_span.new.self s rest (is ls m) (omega (arith, w.if-span-level.false)) (here ls m))),
        ap (λ h. (g.H.GrowingHalf.half h).before) w.half-is ∙ c.loop-i.invariant.1,
        ap g.H.GrowingHalf.limit w.half-is ∙ c.loop-i.invariant.2,
      )
    ]

pub returns-clause-half : goal.returns-clause-half
returns-clause-half g c = λ ls m.
    half_is (g.H.GrowingHalf.half c.loop-i.half) (nodes_behind ls (c.args.level + 1) (g.H.GrowingHalf.half c.args.half.now).before) (g.H.GrowingHalf.half c.args.half.now).before c.loop-i.invariant.1
    (is_done ls c.args.level (g.H.GrowingHalf.half c.args.half.now).before (g.H.GrowingHalf.half c.loop-i.half).nodes c.loop-i.node c.args.spans.now c.loop-i.i c.loop-i-test.false (c.loop-i.invariant.0 ls m))
