use Rattle.std.proofs.Common.{◌≡◌, ℕ, None, List, ◌+◌, ◌<◌, ◌++◌, ◌∷◌, [], ap, arith, get_or, length, map, refl, subst, sym, ◌∙◌}
use Rattle.std.proofs.lemmas.List.{length-append}
use Rattle.std.specs.List.{All}
use Rattle.std.proofs.lemmas.List.Elements.{All-nil, All-push}
use Rattle.filter_iter.proofs.Bounds.{root_is}
use Rattle.filter_iter.proofs.Counts.{all_below_root}
use Rattle.filter_iter.proofs.WayLists.{no_way, node_low, way_on}
use Rattle.filter_iter.specs.Borders.{IsBorder, leaves_at}
use Rattle.filter_iter.specs.Numbers.{IsLeafBelow, IsStepTo}
use Rattle.filter_iter.specs.LeafPlace.{HasSpot}
use Rattle.filter_iter.specs.CursorPath.{IsWay, letters_of}
use Rattle.filter_iter.specs.declared.parts.Pass.{Pass}
use Rattle.filter_iter.specs.declared.parts.Step.TheVariants as step
use Rattle.filter_model.specs.Trie.{END, nodes, path}
use Rattle.filter_trie.specs.Walks.{IsNodeAt, IsSlotAt}
use Rattle.trie_model.specs.Rests.{first_leaf}
use Rattle.filter_iter.proofs.numbers.find.Goals as goal

pub loop-level-init : goal.loop-level-init
loop-level-init g c =
    let root = root_is c.args.trie.now.hash_bits c.args.trie.now.real_bits c.args.trie.now.leaves c.height.ensures.stands.valid c.root_border-border.result c.root_border-border.ensures.node c.root_border-border.ensures.sum in
    let none : [] ≡ letters_of c.args.way.now.items = sym (ap letters_of c.requires.empty) in (
      subst (IsNodeAt c.args.trie.now.leaves c.root_border-border.result.node) none root.0,
      ap (λ (p : List ℕ). length p) (sym none),
      root.1,
      root.2 ∙ ap (first_leaf c.args.trie.now.leaves) none,
      subst (λ (p : List ℕ). IsLeafBelow c.args.trie.now.leaves p c.args.n) none (omega arith, omega (arith, c.requires.number, all_below_root c.args.trie.now.leaves)),
      subst (IsWay c.args.trie.now.leaves) (sym c.requires.empty) (no_way c.args.trie.now.leaves),
      refl,
      subst (All (HasSpot c.args.trie.now)) (sym c.requires.empty) (All-nil (HasSpot c.args.trie.now)),
    )

pub step_to-requires-clause-at : goal.step_to-requires-clause-at
step_to-requires-clause-at g c = record {
  stands = c.height.ensures.stands;
  height = c.from-height.ensures ∙ c.height.ensures.height;
  node = c.loop-level.invariant.0.within;
  level = sym (ap (λ (p : List ℕ). length p) c.loop-level.invariant.0.is ∙ c.loop-level.invariant.1);
  border = c.loop-level.invariant.2;
  before = c.loop-level.invariant.3 ∙ ap (first_leaf c.args.trie.now.leaves) (sym c.loop-level.invariant.0.is);
}

pub returns-in-Ends-clause-way : goal.returns-in-Ends-clause-way
returns-in-Ends-clause-way g c =
    let s : IsStepTo c.args.trie.now.leaves (get_or (nodes c.args.trie.now.leaves) c.loop-level.border.node []) c.from.result (step.Ends c.in-Ends.slot) = c.in-Ends.ensures in
    let on = way_on c.args.trie.now.leaves c.loop-level.way.items c.push_reserved.new.self.items c.loop-level.border.node END None c.loop-level.invariant.5 c.loop-level.invariant.0 (omega arith) c.push_reserved.ensures.items in
    record {
      within = c.requires.number;
      nodes = on.0;
      path_is = ap (λ (k : ℕ). get_or (map path c.args.trie.now.leaves) k []) (sym c.from.ensures) ∙ s.1 ∙ sym on.1;
      slot_is = subst (IsSlotAt c.args.trie.now.leaves c.in-Ends.slot) (sym on.1) s.0;
    }

pub returns-in-Leaf-clause-way : goal.returns-in-Leaf-clause-way
returns-in-Leaf-clause-way g c =
    let s : IsStepTo c.args.trie.now.leaves (get_or (nodes c.args.trie.now.leaves) c.loop-level.border.node []) c.from.result (step.Leaf c.in-Leaf.byte c.in-Leaf.slot) = c.in-Leaf.ensures in
    let small : c.from-in-Leaf.result < 256 = omega (arith, c.from-in-Leaf.ensures, s.0) in
    let on = way_on c.args.trie.now.leaves c.loop-level.way.items c.push_reserved-in-Leaf.new.self.items c.loop-level.border.node c.from-in-Leaf.result None c.loop-level.invariant.5 c.loop-level.invariant.0 (omega (arith, small)) c.push_reserved-in-Leaf.ensures.items in
    let letters : letters_of c.push_reserved-in-Leaf.new.self.items ≡ (get_or (nodes c.args.trie.now.leaves) c.loop-level.border.node []) ++ c.in-Leaf.byte ∷ [] = on.1 ∙ ap (λ (x : ℕ). (get_or (nodes c.args.trie.now.leaves) c.loop-level.border.node []) ++ x ∷ []) c.from-in-Leaf.ensures in
    record {
      within = c.requires.number;
      nodes = on.0;
      path_is = ap (λ (k : ℕ). get_or (map path c.args.trie.now.leaves) k []) (sym c.from.ensures) ∙ s.2 ∙ sym letters;
      slot_is = subst (IsSlotAt c.args.trie.now.leaves c.in-Leaf.slot) (sym letters) s.1;
    }

pub loop-level-preserved : goal.loop-level-preserved
loop-level-preserved g c =
    let s : IsStepTo c.args.trie.now.leaves (get_or (nodes c.args.trie.now.leaves) c.loop-level.border.node []) c.from.result (step.Node c.in-Node.byte c.in-Node.next) = c.in-Node.ensures in
    let small : c.from-in-Node.result < 256 = omega (arith, c.from-in-Node.ensures, s.0) in
    let on = way_on c.args.trie.now.leaves c.loop-level.way.items c.push_reserved-in-Node.new.self.items c.loop-level.border.node c.from-in-Node.result None c.loop-level.invariant.5 c.loop-level.invariant.0 (omega (arith, small)) c.push_reserved-in-Node.ensures.items in
    let letters : letters_of c.push_reserved-in-Node.new.self.items ≡ (get_or (nodes c.args.trie.now.leaves) c.loop-level.border.node []) ++ c.in-Node.byte ∷ [] = on.1 ∙ ap (λ (x : ℕ). (get_or (nodes c.args.trie.now.leaves) c.loop-level.border.node []) ++ x ∷ []) c.from-in-Node.ensures in
    let long : length (get_or (nodes c.args.trie.now.leaves) c.loop-level.border.node []) ≡ c.loop-level.level = ap (λ (p : List ℕ). length p) c.loop-level.invariant.0.is ∙ c.loop-level.invariant.1 in (
      subst (IsNodeAt c.args.trie.now.leaves c.in-Node.next.node) (sym letters) s.1,
      omega (arith, ap (λ (p : List ℕ). length p) letters, length-append (get_or (nodes c.args.trie.now.leaves) c.loop-level.border.node []) (c.in-Node.byte ∷ []), long),
      subst (λ (k : ℕ). IsBorder c.args.trie.now.leaves (k + 1) c.in-Node.next) long s.2,
      ap (λ (k : ℕ). leaves_at c.args.trie.now.leaves (k + 1) c.in-Node.next) (sym long) ∙ s.3 ∙ ap (first_leaf c.args.trie.now.leaves) (sym letters),
      subst (λ (p : List ℕ). IsLeafBelow c.args.trie.now.leaves p c.args.n) (sym letters) (subst (IsLeafBelow c.args.trie.now.leaves ((get_or (nodes c.args.trie.now.leaves) c.loop-level.border.node []) ++ c.in-Node.byte ∷ [])) c.from.ensures s.4),
      on.0,
      c.push_reserved-in-Node.ensures.capacity ∙ c.loop-level.invariant.6,
      (let x : Pass = record { node = c.loop-level.border.node; letter = c.from-in-Node.result; spot = None } in subst (All (HasSpot c.args.trie.now)) (sym c.push_reserved-in-Node.ensures.items) (All-push (HasSpot c.args.trie.now) c.loop-level.way.items x c.loop-level.invariant.7 tt)),
    )

pub unreachable-requires : goal.unreachable-requires
unreachable-requires g c =
    let low = node_low c.args.trie.now.hash_bits c.args.trie.now.real_bits c.args.trie.now.leaves c.loop-level.border.node (letters_of c.loop-level.way.items) c.height.ensures.stands.valid c.loop-level.invariant.0 in
    omega (arith, low, c.loop-level.invariant.1, c.loop-level-test.false, c.from-height.ensures, c.height.ensures.height)

pub returns-in-Ends-clause-spots : goal.returns-in-Ends-clause-spots
returns-in-Ends-clause-spots g c =
    let x : Pass = record { node = c.loop-level.border.node; letter = END; spot = None } in
    subst (All (HasSpot c.args.trie.now)) (sym c.push_reserved.ensures.items) (All-push (HasSpot c.args.trie.now) c.loop-level.way.items x c.loop-level.invariant.7 tt)

pub returns-in-Leaf-clause-spots : goal.returns-in-Leaf-clause-spots
returns-in-Leaf-clause-spots g c =
    let x : Pass = record { node = c.loop-level.border.node; letter = c.from-in-Leaf.result; spot = None } in
    subst (All (HasSpot c.args.trie.now)) (sym c.push_reserved-in-Leaf.ensures.items) (All-push (HasSpot c.args.trie.now) c.loop-level.way.items x c.loop-level.invariant.7 tt)
