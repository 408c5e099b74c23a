use Rattle.std.proofs.Common.{◌≡◌, ◌≤◌, ◌+◌, ◌++◌, ◌∷◌, ◌∙◌, [], drop, get_or, ap, arith, refl, subst, sym}
use Rattle.std.specs.Prelude.{sum_by}
use Rattle.filter_trie.specs.Building.{half_with}
use Rattle.filter_trie.proofs.Levels.{keys_short}
use Rattle.filter_trie.proofs.OneSpan.{IsUnderWay, begins, begins_next, goes_on, letter_of_span, next_is, stands_alone, whole_has_form, whole_has_room, with_path}
use Rattle.trie_levels.specs.declared.spans.Span.{Span}
use Rattle.trie_model.specs.Halves.{Half}
use Rattle.filter_trie.proofs.build_level.add_level.Goals.{then-span-level, else-span-level}
use Rattle.filter_trie.proofs.build_level.add_level.Goals as goal

abbrev no_span : Span
no_span = record { leaf = 0; closes = 0; len = 0 }

pub loop-i-init : goal.loop-i-init
loop-i-init g c = (
  subst (λ n. IsUnderWay c.args.keys.now c.args.level (g.H.GrowingHalf.half c.args.half.now).before (g.H.GrowingHalf.half c.args.half.now).nodes n c.args.spans.now) (sym c.clear.ensures)
      (begins c.args.keys.now c.args.level (g.H.GrowingHalf.half c.args.half.now).before (g.H.GrowingHalf.half c.args.half.now).nodes c.args.spans.now c.requires.keys c.requires.spans c.requires.before c.requires.nodes),
  refl,
  refl,
)

pub get-requires : goal.get-requires
get-requires g c = (letter_of_span c.args.keys.now c.args.level c.args.spans.now c.loop-i.i no_span c.requires.spans (omega arith)).within

pub add_span-requires-clause-short : goal.add_span-requires-clause-short
add_span-requires-clause-short g c = omega (arith, keys_short c.args.keys.now c.requires.keys, c.requires.below)

pub add_span-requires-clause-alone : goal.add_span-requires-clause-alone
add_span-requires-clause-alone g c =
    let keys = c.args.keys.now in
    let n = c.args.level in
    let spans = c.args.spans.now in
    let i = c.loop-i.i in
    stands_alone keys n (g.H.GrowingHalf.half c.args.half.now).before (g.H.GrowingHalf.half c.loop-i.half).nodes c.loop-i.node (get_or spans i no_span) (drop (i + 1) spans) c.get.result.now c.requires.keys c.requires.below
    (next_is keys n (g.H.GrowingHalf.half c.args.half.now).before (g.H.GrowingHalf.half c.loop-i.half).nodes c.loop-i.node spans i no_span (omega arith) c.loop-i.invariant.0)
    (letter_of_span keys n spans i no_span c.requires.spans (omega arith)) c.get.ensures

pub give-requires-clause-form : goal.give-requires-clause-form
give-requires-clause-form g c =
    let keys = c.args.keys.now in
    let n = c.args.level in
    let spans = c.args.spans.now in
    let i = c.loop-i.i in
    let before = (g.H.GrowingHalf.half c.args.half.now).before in
    let ns = (g.H.GrowingHalf.half c.loop-i.half).nodes in
    let s = get_or spans i no_span in
    let rest = drop (i + 1) spans in
    let here = next_is keys n before ns c.loop-i.node spans i no_span (omega arith) c.loop-i.invariant.0 in
    let letter = letter_of_span keys n spans i no_span c.requires.spans (omega arith) in
    let is = with_path keys n c.loop-i.node c.add_span.new.self s c.get.result.now letter c.get.ensures c.in_ok-add_span.ensures in
    whole_has_form keys n before ns c.loop-i.node c.add_span.new.self s rest c.requires.keys c.requires.below is c.if-span-level.true here

pub give-requires-clause-room : goal.give-requires-clause-room
give-requires-clause-room g c =
    let keys = c.args.keys.now in
    let n = c.args.level in
    let spans = c.args.spans.now in
    let i = c.loop-i.i in
    let before = (g.H.GrowingHalf.half c.args.half.now).before in
    let ns = (g.H.GrowingHalf.half c.loop-i.half).nodes in
    let s = get_or spans i no_span in
    let rest = drop (i + 1) spans in
    let here = next_is keys n before ns c.loop-i.node spans i no_span (omega arith) c.loop-i.invariant.0 in
    let letter = letter_of_span keys n spans i no_span c.requires.spans (omega arith) in
    let is = with_path keys n c.loop-i.node c.add_span.new.self s c.get.result.now letter c.get.ensures c.in_ok-add_span.ensures in
    subst (λ limit. sum_by g.H.GrowingHalf.size (ns ++ c.add_span.new.self ∷ []) ≤ limit) (sym c.loop-i.invariant.2)
    (whole_has_room keys n before ns c.loop-i.node c.add_span.new.self s rest g.H.GrowingHalf.size (g.H.GrowingHalf.limit c.args.half.now) c.requires.room is c.if-span-level.true here)

pub loop-i-preserved : goal.loop-i-preserved
loop-i-preserved g c =
    let keys = c.args.keys.now in
    let n = c.args.level in
    let spans = c.args.spans.now in
    let i = c.loop-i.i in
    let before = (g.H.GrowingHalf.half c.args.half.now).before in
    let ns = (g.H.GrowingHalf.half c.loop-i.half).nodes in
    let s = get_or spans i no_span in
    let rest = drop (i + 1) spans in
    let here = next_is keys n before ns c.loop-i.node spans i no_span (omega arith) c.loop-i.invariant.0 in
    let letter = letter_of_span keys n spans i no_span c.requires.spans (omega arith) in
    let is = with_path keys n c.loop-i.node c.add_span.new.self s c.get.result.now letter c.get.ensures c.in_ok-add_span.ensures in
    elim c.if-span-level.branch [
      | then-span-level w ↦
          let half : g.H.GrowingHalf.half c.if-span-level.half ≡ half_with c.add_span.new.self (g.H.GrowingHalf.half c.loop-i.half) = ap g.H.GrowingHalf.half w.half-is ∙ w.give.ensures.half in (
            subst (λ ms. IsUnderWay keys n before ms c.if-span-level.node rest) (sym (ap (λ (h : Half). h.nodes) half))
                (subst (λ m. IsUnderWay keys n before (ns ++ c.add_span.new.self ∷ []) m rest) (sym (w.node-is ∙ w.give.ensures.node))
                (begins_next keys n before ns c.loop-i.node c.add_span.new.self s rest is w.if-span-level.true here)),
            ap (λ (h : Half). h.before) half ∙ c.loop-i.invariant.1,
            ap g.H.GrowingHalf.limit w.half-is ∙ w.give.ensures.limit ∙ c.loop-i.invariant.2,
          )
      | else-span-level w ↦ (
        subst (λ h. IsUnderWay keys n before (g.H.GrowingHalf.half h).nodes c.if-span-level.node rest) (sym w.half-is)
            (subst (λ m. IsUnderWay keys n before ns m rest) (sym w.node-is)
            (goes_on keys n before ns c.loop-i.node c.add_span.new.self s rest is (omega (arith, w.if-span-level.false)) here)),
        ap (λ h. (g.H.GrowingHalf.half h).before) w.half-is ∙ c.loop-i.invariant.1,
        ap g.H.GrowingHalf.limit w.half-is ∙ c.loop-i.invariant.2,
      )
    ]
