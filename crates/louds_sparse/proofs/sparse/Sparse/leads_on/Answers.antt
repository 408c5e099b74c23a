use Rattle.std.proofs.Common.{◌≡◌, ℕ, Bool, true, false, cond, Some, None, List, get_or, length, refl, ap, sym, ◌∙◌, arith}
use Rattle.std.proofs.lemmas.List.{get_or-map}
use Rattle.std.specs.Prelude.{is_some}
use Rattle.filter_model.specs.Nodes.{Branch, all, at}
use Rattle.louds_sparse.proofs.Spelled.{length_children}
use Rattle.louds_sparse.specs.Spelling.{IsSpelled}
use Rattle.trie_model.specs.Halves.{first_below}
use Rattle.louds_sparse.proofs.sparse.Sparse.leads_on.Goals as goal

pub get-requires : goal.get-requires
get-requires g c =
    let s : IsSpelled c.self.inside.before c.self.inside.labels.items c.self.inside.has_child c.self.inside.louds c.args.self.now = rw c.self.view_is at c.self.invariant in
    omega (arith, ap length c.bits.ensures, length_children s, c.requires)

some_if : (b : Bool) (n : ℕ) → is_some (cond b (Some n) None) ≡ b
some_if true n = refl
some_if false n = refl

pub returns : goal.returns
returns g c =
    let s : IsSpelled c.self.inside.before c.self.inside.labels.items c.self.inside.has_child c.self.inside.louds c.args.self.now = rw c.self.view_is at c.self.invariant in
    let bit : get_or c.self.inside.has_child c.args.place false ≡ (at c.args.self.now.nodes c.args.place).1 =
    ap (λ (bits : List Bool). get_or bits c.args.place false) s.children_are ∙ get_or-map (λ (b : Branch). b.1) (all c.args.self.now.nodes) c.args.place (0, false) false c.requires in
    c.get.ensures ∙ ap (λ (bits : List Bool). get_or bits c.args.place false) c.bits.ensures ∙ bit ∙ sym (some_if (at c.args.self.now.nodes c.args.place).1 (first_below c.args.self.now c.args.place))
