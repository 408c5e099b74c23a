use Rattle.std.proofs.Common.{◌≡◌, ℕ, Bool, Some, None, cond, length, ◌+◌, ap, arith, le-ltb, lt-ltb, rules, sym, ◌∙◌}
use Rattle.filter_iter.proofs.Cuts.{first_is}
use Rattle.filter_iter.proofs.Standing.{way_to}
use Rattle.filter_iter.proofs.Steps.{first_leaf_within}
use Rattle.trie_model.specs.Rests.{first_leaf}
use Rattle.filter_iter.proofs.following.go_to.Goals as goal

pub past_at-past-requires-clause-reached : goal.past_at-past-requires-clause-reached
past_at-past-requires-clause-reached g c = c.follow_along-level.ensures.left.reached

pub leaves_before-requires-clause-few : goal.leaves_before-requires-clause-few
leaves_before-requires-clause-few g c = omega (arith, c.follow_along-level.ensures.left.before, first_leaf_within c.args.trie.now.leaves c.args.lo.now)

pub overflow_add-number : goal.overflow_add-number
overflow_add-number g c =
    let few = c.follow_along-level.ensures.stands.valid.few in
    omega (arith, few, c.leaves_before.ensures, c.follow_along-level.ensures.left.before, c.past_at-past.ensures.past.within)

pub returns-then-number-leaves-clause-number : goal.returns-then-number-leaves-clause-number
returns-then-number-leaves-clause-number g c =
    let n = first_leaf c.args.trie.now.leaves c.args.lo.now + c.past_at-past.result in
    sym (first_is c.args.trie.now.real_bits c.args.trie.now.leaves c.args.lo.now n c.past_at-past.ensures.past
    ∙ ap (λ (t : Bool). cond t (Some n) None) (le-ltb n (length c.args.trie.now.leaves) (omega (arith, c.if-number-leaves.true, c.leaves.ensures, c.leaves_before.ensures, c.follow_along-level.ensures.left.before))))

pub turn_from-lead-requires : goal.turn_from-lead-requires
turn_from-lead-requires g c =
    let f = c.follow_along-level.ensures in (
      search rules,
      (
        search rules,
        (
          f.stands,
          (
            f.leaf,
            (
              c.past_at-past.ensures.most,
              (
                c.past_at-past.ensures.none,
                (
                  omega (arith, f.before, c.leaves_before.ensures, f.left.before, c.if-number-leaves.false, c.leaves.ensures),
                  (f.way, (f.spots, (c.requires.marks, omega (arith, c.requires.room, f.capacity)))),
                ),
              ),
            ),
          ),
        ),
      ),
    )

pub returns-clause-number : goal.returns-clause-number
returns-clause-number g c =
    let n = first_leaf c.args.trie.now.leaves c.args.lo.now + c.past_at-past.result in
    let is : c.leaves_before.result + c.past_at-past.result ≡ n = ap (λ (k : ℕ). k + c.past_at-past.result) (c.leaves_before.ensures ∙ c.follow_along-level.ensures.left.before) in
    ap (λ (k : ℕ). Some k) is
    ∙ sym (first_is c.args.trie.now.real_bits c.args.trie.now.leaves c.args.lo.now n c.past_at-past.ensures.past
    ∙ ap (λ (t : Bool). cond t (Some n) None) (lt-ltb n (length c.args.trie.now.leaves) (omega (arith, is, c.if-number-leaves.false, c.leaves.ensures))))

pub returns-clause-way : goal.returns-clause-way
returns-clause-way g c =
    way_to c.args.trie.now.hash_bits c.args.trie.now.real_bits c.args.trie.now.leaves c.follow_along-level.ensures.stands.valid (c.leaves_before.result + c.past_at-past.result) c.go_first.result c.go_first.new.way.items c.go_first.ensures.way c.go_first.ensures.slot
    (omega (arith, c.go_first.ensures.first, c.turn_from-lead.ensures.first, c.follow_along-level.ensures.before, c.leaves_before.ensures, c.follow_along-level.ensures.left.before))
