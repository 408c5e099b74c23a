use Rattle.std.proofs.Common.{◌≡◌, ℕ, ◌+◌, ◌-◌, Bool, true, false, cond, Some, None, List, get_or, refl, ap, sym, ◌∙◌, arith}
use Rattle.std.proofs.lemmas.List.{get_or-map}
use Rattle.std.specs.Prelude.{is_some}
use Rattle.filter_model.specs.Nodes.{Branch, all, at}
use Rattle.louds_sparse.proofs.Spelled.{children_counted, counts_add}
use Rattle.louds_sparse.specs.Spelling.{IsSpelled}
use Rattle.trie_model.specs.Halves.{first_below}
use Rattle.trie_model.specs.declared.parts.Before.{Before}
use Rattle.louds_sparse.proofs.sparse.Sparse.placed_by.Goals as goal

some_if : (b : Bool) (n : ℕ) → is_some (cond b (Some n) None) ≡ b
some_if true n = refl
some_if false n = refl

pub returns-clause-stands : goal.returns-clause-stands
returns-clause-stands g c =
    let s : IsSpelled c.self.inside.before c.self.inside.labels.items c.self.inside.has_child c.self.inside.louds c.args.self.now = rw c.self.view_is at c.self.invariant in
    let bit : get_or c.self.inside.has_child c.args.place false ≡ (at c.args.self.now.nodes c.args.place).1 =
    ap (λ (bits : List Bool). get_or bits c.args.place false) s.children_are ∙ get_or-map (λ (b : Branch). b.1) (all c.args.self.now.nodes) c.args.place (0, false) false c.requires.place in
    record {
      within = c.requires.place;
      slots = omega (arith, ap (λ (b : Before). b.slots) s.before_is, c.bit_and_rank_by-leads.ensures.rank, children_counted s c.args.place, counts_add s c.args.place (omega (arith, c.requires.place)));
      below = omega (arith, ap (λ (b : Before). b.children) s.before_is, c.bit_and_rank_by-leads.ensures.rank, children_counted s c.args.place);
      leads = c.bit_and_rank_by-leads.ensures.bit ∙ bit ∙ sym (some_if (at c.args.self.now.nodes c.args.place).1 (first_below c.args.self.now c.args.place));
    }
