use Rattle.std.proofs.Common.{◌≡◌, ℕ, None, List, ◌+◌, ◌++◌, ◌∷◌, [], ap, arith, refl, subst, sym, ◌∙◌, take}
use Rattle.std.proofs.lemmas.List.{length-append, take_more}
use Rattle.std.specs.List.{All}
use Rattle.std.proofs.lemmas.List.Elements.{All-nil, All-push}
use Rattle.filter_iter.proofs.Bounds.{at_last, at_root, leads_nowhere, not_so, step_to_root}
use Rattle.filter_iter.proofs.KeptWays.{is_so, node_at}
use Rattle.filter_iter.proofs.WayLists.{no_way, way_low, way_on}
use Rattle.filter_iter.specs.Borders.{HasLeft, IsBorder, IsDescent, IsStepBy}
use Rattle.filter_iter.specs.LeafPlace.{HasSpot}
use Rattle.filter_iter.specs.CursorPath.{IsWay, letters_of}
use Rattle.filter_iter.specs.declared.parts.Pass.{Pass}
use Rattle.filter_model.specs.Trie.{END, height}
use Rattle.filter_iter.proofs.following.follow_along.Goals as goal

pub loop-level-init : goal.loop-level-init
loop-level-init g c =
    let none : [] ≡ letters_of c.args.way.now.items = sym (ap letters_of c.requires.empty) in (
      at_root c.args.trie.now.hash_bits c.args.trie.now.real_bits c.args.trie.now.leaves c.height.ensures.stands.valid c.args.bound.now c.root_descent-descent.result c.root_descent-descent.ensures.node c.root_descent-descent.ensures.sum c.root_descent-descent.ensures.leads,
      subst (λ (q : List ℕ). IsStepBy c.args.trie.now.leaves q 0 c.root_descent-descent.result) none (step_to_root c.args.trie.now.hash_bits c.args.trie.now.real_bits c.args.trie.now.leaves c.height.ensures.stands.valid c.args.bound.now c.root_descent-descent.result c.root_descent-descent.ensures.node c.root_descent-descent.ensures.sum c.root_descent-descent.ensures.leads),
      sym none,
      subst (IsWay c.args.trie.now.leaves) (sym c.requires.empty) (no_way c.args.trie.now.leaves),
      refl,
      subst (All (HasSpot c.args.trie.now)) (sym c.requires.empty) (All-nil (HasSpot c.args.trie.now)),
    )

pub letter_at-requires : goal.letter_at-requires
letter_at-requires g c = (c.loop-level.invariant.0.on (is_so c.loop-level.descent.leads c.if-not-descent.false)).read

pub push_reserved-requires : goal.push_reserved-requires
push_reserved-requires g c = omega (arith, way_low c.args.trie.now.hash_bits c.args.trie.now.real_bits c.args.trie.now.leaves c.loop-level.descent.border.node c.loop-level.way.items c.height.ensures.stands.valid (node_at c.args.trie.now.leaves c.args.bound.now c.loop-level.level c.loop-level.descent.border c.loop-level.way.items (c.loop-level.invariant.0.on (is_so c.loop-level.descent.leads c.if-not-descent.false)) c.loop-level.invariant.2), c.loop-level.invariant.4, c.requires.room)

pub step_on-descent-requires-clause-border : goal.step_on-descent-requires-clause-border
step_on-descent-requires-clause-border g c = c.loop-level.invariant.0.border

pub step_on-descent-requires-clause-leads : goal.step_on-descent-requires-clause-leads
step_on-descent-requires-clause-leads g c = c.loop-level.invariant.0.on (is_so c.loop-level.descent.leads c.if-not-descent.false)

pub loop-level-preserved : goal.loop-level-preserved
loop-level-preserved g c =
    let x = c.args.bound.now ++ END ∷ [] in
    let node = node_at c.args.trie.now.leaves c.args.bound.now c.loop-level.level c.loop-level.descent.border c.loop-level.way.items (c.loop-level.invariant.0.on (is_so c.loop-level.descent.leads c.if-not-descent.false)) c.loop-level.invariant.2 in
    let read = (c.loop-level.invariant.0.on (is_so c.loop-level.descent.leads c.if-not-descent.false)).read in
    let on = way_on c.args.trie.now.leaves c.loop-level.way.items c.push_reserved.new.self.items c.loop-level.descent.border.node c.letter_at.result None c.loop-level.invariant.3 node c.letter_at.ensures.within c.push_reserved.ensures.items in
    let letters : letters_of c.push_reserved.new.self.items ≡ take (c.loop-level.level + 1) x =
    on.1 ∙ (λ j. (node.is ∙ c.loop-level.invariant.2) j ++ c.letter_at.ensures.letter j ∷ []) ∙ sym (take_more x c.loop-level.level 0 (omega (arith, read, length-append c.args.bound.now (END ∷ [])))) in (
      c.step_on-descent.ensures.descent,
      subst (λ (q : List ℕ). IsStepBy c.args.trie.now.leaves q (c.loop-level.level + 1) c.step_on-descent.result) (sym letters) c.step_on-descent.ensures.step,
      letters,
      on.0,
      c.push_reserved.ensures.capacity ∙ c.loop-level.invariant.4,
      (let p : Pass = record { node = c.loop-level.descent.border.node; letter = c.letter_at.result; spot = None } in subst (All (HasSpot c.args.trie.now)) (sym c.push_reserved.ensures.items) (All-push (HasSpot c.args.trie.now) c.loop-level.way.items p c.loop-level.invariant.5 tt)),
    )

pub returns-then-not-descent-clause-border : goal.returns-then-not-descent-clause-border
returns-then-not-descent-clause-border g c = c.loop-level.invariant.0.border

pub returns-then-not-descent-clause-left : goal.returns-then-not-descent-clause-left
returns-then-not-descent-clause-left g c = c.loop-level.invariant.0.left (not_so c.loop-level.descent.leads c.if-not-descent.true)

pub returns-then-not-descent-clause-before : goal.returns-then-not-descent-clause-before
returns-then-not-descent-clause-before g c = sym c.loop-level.invariant.1.before ∙ (c.loop-level.invariant.0.left (not_so c.loop-level.descent.leads c.if-not-descent.true)).before

pub returns-then-not-descent-clause-leaf : goal.returns-then-not-descent-clause-leaf
returns-then-not-descent-clause-leaf g c = c.loop-level.invariant.1.left (not_so c.loop-level.descent.leads c.if-not-descent.true)

pub returns-clause-border : goal.returns-clause-border
returns-clause-border g c =
    let deep : c.loop-level.level ≡ c.from-height.result = omega (arith, c.loop-level-test.false, c.from-height.ensures, c.height.ensures.height, c.loop-level.invariant.0.border.high) in
    subst (λ (n : ℕ). IsBorder c.args.trie.now.leaves n c.loop-level.descent.border) deep c.loop-level.invariant.0.border

pub returns-clause-left : goal.returns-clause-left
returns-clause-left g c =
    let deep : c.loop-level.level ≡ height c.args.trie.now.leaves = omega (arith, c.loop-level-test.false, c.from-height.ensures, c.height.ensures.height, c.loop-level.invariant.0.border.high) in
    let last : height c.args.trie.now.leaves ≡ c.from-height.result = omega (arith, c.from-height.ensures, c.height.ensures.height) in
    let is = subst (λ (n : ℕ). IsDescent c.args.trie.now.leaves c.args.bound.now n c.loop-level.descent) deep c.loop-level.invariant.0 in
    subst (λ (n : ℕ). HasLeft c.args.trie.now.leaves c.args.bound.now n c.loop-level.descent) last (at_last c.args.trie.now.hash_bits c.args.trie.now.real_bits c.args.trie.now.leaves c.height.ensures.stands.valid c.args.bound.now c.loop-level.descent is)

pub returns-clause-before : goal.returns-clause-before
returns-clause-before g c =
    let deep : c.loop-level.level ≡ height c.args.trie.now.leaves = omega (arith, c.loop-level-test.false, c.from-height.ensures, c.height.ensures.height, c.loop-level.invariant.0.border.high) in
    let is = subst (λ (n : ℕ). IsDescent c.args.trie.now.leaves c.args.bound.now n c.loop-level.descent) deep c.loop-level.invariant.0 in
    sym c.loop-level.invariant.1.before ∙ (c.loop-level.invariant.0.left (leads_nowhere c.args.trie.now.hash_bits c.args.trie.now.real_bits c.args.trie.now.leaves c.height.ensures.stands.valid c.args.bound.now c.loop-level.descent is)).before

pub returns-clause-leaf : goal.returns-clause-leaf
returns-clause-leaf g c =
    let deep : c.loop-level.level ≡ height c.args.trie.now.leaves = omega (arith, c.loop-level-test.false, c.from-height.ensures, c.height.ensures.height, c.loop-level.invariant.0.border.high) in
    let is = subst (λ (n : ℕ). IsDescent c.args.trie.now.leaves c.args.bound.now n c.loop-level.descent) deep c.loop-level.invariant.0 in
    c.loop-level.invariant.1.left (leads_nowhere c.args.trie.now.hash_bits c.args.trie.now.real_bits c.args.trie.now.leaves c.height.ensures.stands.valid c.args.bound.now c.loop-level.descent is)
