use Rattle.std.proofs.Common.{◌≡◌, ℕ, ◌+◌, ◌-◌, Bool, true, false, cond, Some, None, List, get_or, ap, sym, ◌∙◌, arith}
use Rattle.std.proofs.lemmas.List.{get_or-map}
use Rattle.filter_model.specs.Nodes.{Branch, all, at}
use Rattle.louds_sparse.proofs.Spelled.{children_counted, counts_add}
use Rattle.louds_sparse.specs.Spelling.{IsSpelled}
use Rattle.trie_model.specs.Halves.{first_below, slot_at}
use Rattle.trie_model.specs.declared.parts.Before.{Before}
use Rattle.louds_sparse.proofs.sparse.Sparse.lead_by.Goals as goal

pub returns-then-leads : goal.returns-then-leads
returns-then-leads g c =
    let s : IsSpelled c.self.inside.before c.self.inside.labels.items c.self.inside.has_child c.self.inside.louds c.args.self.now = rw c.self.view_is at c.self.invariant in
    let number : c.self.inside.before.children + c.bit_and_rank_by-leads.result.1 + 1 ≡ first_below c.args.self.now c.args.place =
    omega (arith, ap (λ (b : Before). b.children) s.before_is, c.bit_and_rank_by-leads.ensures.rank, children_counted s c.args.place) in
    let bit : get_or c.self.inside.has_child c.args.place false ≡ (at c.args.self.now.nodes c.args.place).1 =
    ap (λ (bits : List Bool). get_or bits c.args.place false) s.children_are ∙ get_or-map (λ (b : Branch). b.1) (all c.args.self.now.nodes) c.args.place (0, false) false c.requires.place in
    let leads : (at c.args.self.now.nodes c.args.place).1 ≡ true = sym bit ∙ sym c.bit_and_rank_by-leads.ensures.bit ∙ c.if-leads.true in
    ap (λ (k : ℕ). Some k) number ∙ sym (ap (λ (t : Bool). cond t (Some (first_below c.args.self.now c.args.place)) None) leads)

pub returns-else-leads : goal.returns-else-leads
returns-else-leads g c =
    let s : IsSpelled c.self.inside.before c.self.inside.labels.items c.self.inside.has_child c.self.inside.louds c.args.self.now = rw c.self.view_is at c.self.invariant in
    let bit : get_or c.self.inside.has_child c.args.place false ≡ (at c.args.self.now.nodes c.args.place).1 =
    ap (λ (bits : List Bool). get_or bits c.args.place false) s.children_are ∙ get_or-map (λ (b : Branch). b.1) (all c.args.self.now.nodes) c.args.place (0, false) false c.requires.place in
    let off : (at c.args.self.now.nodes c.args.place).1 ≡ false = sym bit ∙ sym c.bit_and_rank_by-leads.ensures.bit ∙ c.if-leads.false in
    let slot : c.self.inside.before.slots + (c.args.place - c.bit_and_rank_by-leads.result.1) ≡ slot_at c.args.self.now c.args.place =
    omega (arith, ap (λ (b : Before). b.slots) s.before_is, c.bit_and_rank_by-leads.ensures.rank, children_counted s c.args.place, counts_add s c.args.place (omega (arith, c.requires.place))) in
    (sym (ap (λ (t : Bool). cond t (Some (first_below c.args.self.now c.args.place)) None) off), slot)
