use Rattle.std.proofs.Common.{◌+◌, ◌++◌, ◌∙◌, drop, get_or, map, ap, arith, subst, sym}
use Rattle.std.specs.List.{All}
use Rattle.filter_model.specs.Leaves.{base_leaves, leaves_of}
use Rattle.filter_model.specs.Trie.{path}
use Rattle.filter_trie.proofs.Levels.{keys_short}
use Rattle.filter_trie.proofs.OneSpan.{letter_of_span}
use Rattle.filter_trie.proofs.Passing.{IsSpan, longer_are}
use Rattle.filter_trie.proofs.PassedSuffixes.{ending_on, has_room, level_passes, span_ends, span_stays, suffix_at, suffix_fits, suffix_is}
use Rattle.suffix_bits.specs.Room.{SuffixesInRoom}
use Rattle.suffix_bits.specs.Slots.{IsOfWidths, leaf_suffix}
use Rattle.trie_levels.specs.declared.spans.Span.{Span}
use Rattle.trie_levels.specs.Spans.{by_length}
use Rattle.filter_trie.proofs.build_pending.add_suffixes.Goals.{then-span-level, else-span-level}
use Rattle.filter_trie.proofs.build_pending.add_suffixes.Goals as goal

abbrev no_span : Span
no_span = record { leaf = 0; closes = 0; len = 0 }

pub loop-i-init : goal.loop-i-init
loop-i-init c = (
  ap (λ (s : SuffixesInRoom). s.array.slots ++ map (suffix_at c.args.hash_bits c.args.real_bits c.args.keys.now) (ending_on c.args.level c.args.spans.now)) c.requires.suffixes
      ∙ level_passes c.args.hash_bits c.args.real_bits c.args.keys.now c.args.level c.args.spans.now c.requires.spans,
  ap (λ (s : SuffixesInRoom). s.array.hash_bits) c.requires.suffixes,
  ap (λ (s : SuffixesInRoom). s.array.real_bits) c.requires.suffixes,
  ap (λ (s : SuffixesInRoom). s.limit) c.requires.suffixes,
)

pub overflow_add-level : goal.overflow_add-level
overflow_add-level c = omega (arith, keys_short c.args.keys.now c.requires.keys, c.requires.below)

pub get-key-requires : goal.get-key-requires
get-key-requires c = (letter_of_span c.args.keys.now c.args.level c.args.spans.now c.loop-i.i no_span c.requires.spans (omega arith)).within

pub push-requires-clause-fits : goal.push-requires-clause-fits
push-requires-clause-fits c =
    let keys = c.args.keys.now in
    let n = c.args.level in
    let s = get_or c.args.spans.now c.loop-i.i no_span in
    let is_span : IsSpan (map path (base_leaves keys)) n s = subst (All (IsSpan (map path (base_leaves keys)) n)) (sym c.requires.spans) (longer_are (base_leaves keys) n) c.loop-i.i no_span (omega arith) in
    let is = suffix_is c.args.hash_bits c.args.real_bits keys n s c.get-key.result.now c.hash_bits_of-hash.result c.real_bits_of-real.result is_span c.get-key.ensures c.hash_bits_of-hash.ensures c.real_bits_of-real.ensures in
    subst (λ h. IsOfWidths h c.loop-i.suffixes.array.real_bits (c.hash_bits_of-hash.result, c.real_bits_of-real.result)) (sym c.loop-i.invariant.1)
    (subst (λ r. IsOfWidths c.args.hash_bits r (c.hash_bits_of-hash.result, c.real_bits_of-real.result)) (sym c.loop-i.invariant.2)
    (subst (IsOfWidths c.args.hash_bits c.args.real_bits) (sym is) (suffix_fits c.args.hash_bits c.args.real_bits keys n s c.requires.keys c.requires.real_width is_span)))

pub push-requires-clause-room : goal.push-requires-clause-room
push-requires-clause-room c =
    let keys = c.args.keys.now in
    let n = c.args.level in
    let spans = c.args.spans.now in
    let i = c.loop-i.i in
    let h = c.args.hash_bits in
    let r = c.args.real_bits in
    let s = get_or spans i no_span in
    let x = suffix_at h r keys s in
    let next = span_ends h r keys n spans i no_span c.loop-i.suffixes.array.slots (map leaf_suffix (by_length (n + 1) (leaves_of h r keys))) x (omega arith) (omega (arith, c.if-span-level.true)) (λ j. x) c.loop-i.invariant.0 in
    omega (arith, c.loop-i.invariant.3, has_room h r keys n spans i no_span c.loop-i.suffixes.array.slots x c.requires.keys c.requires.real_width c.requires.below next)

pub loop-i-preserved : goal.loop-i-preserved
loop-i-preserved c =
    let keys = c.args.keys.now in
    let n = c.args.level in
    let spans = c.args.spans.now in
    let i = c.loop-i.i in
    let h = c.args.hash_bits in
    let r = c.args.real_bits in
    let s = get_or spans i no_span in
    let total = map leaf_suffix (by_length (n + 1) (leaves_of h r keys)) in
    elim c.if-span-level.branch [
      | then-span-level w ↦
          let is_span : IsSpan (map path (base_leaves keys)) n s = subst (All (IsSpan (map path (base_leaves keys)) n)) (sym c.requires.spans) (longer_are (base_leaves keys) n) i no_span (omega arith) in
          let is = suffix_is h r keys n s w.get-key.result.now w.hash_bits_of-hash.result w.real_bits_of-real.result is_span w.get-key.ensures w.hash_bits_of-hash.ensures w.real_bits_of-real.ensures in
          let now = w.suffixes-is ∙ w.push.ensures in (
            ap (λ (x : SuffixesInRoom). x.array.slots ++ map (suffix_at h r keys) (ending_on n (drop (i + 1) spans))) now
                ∙ span_ends h r keys n spans i no_span c.loop-i.suffixes.array.slots total (w.hash_bits_of-hash.result, w.real_bits_of-real.result) (omega arith) (omega (arith, w.if-span-level.true)) is c.loop-i.invariant.0,
            ap (λ (x : SuffixesInRoom). x.array.hash_bits) now ∙ c.loop-i.invariant.1,
            ap (λ (x : SuffixesInRoom). x.array.real_bits) now ∙ c.loop-i.invariant.2,
            ap (λ (x : SuffixesInRoom). x.limit) now ∙ c.loop-i.invariant.3,
          )
      | else-span-level w ↦ (
        ap (λ (x : SuffixesInRoom). x.array.slots ++ map (suffix_at h r keys) (ending_on n (drop (i + 1) spans))) w.suffixes-is
            ∙ span_stays h r keys n spans i no_span c.loop-i.suffixes.array.slots total (omega arith) (λ e. w.if-span-level.false (omega (arith, e))) c.loop-i.invariant.0,
        ap (λ (x : SuffixesInRoom). x.array.hash_bits) w.suffixes-is ∙ c.loop-i.invariant.1,
        ap (λ (x : SuffixesInRoom). x.array.real_bits) w.suffixes-is ∙ c.loop-i.invariant.2,
        ap (λ (x : SuffixesInRoom). x.limit) w.suffixes-is ∙ c.loop-i.invariant.3,
      )
    ]
