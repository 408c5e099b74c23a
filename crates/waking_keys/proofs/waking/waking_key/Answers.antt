use Rattle.std.proofs.Common.{rules, true, false, ◌≡◌, ◌∙◌, ◌<◌, ◌++◌, ℕ, length, List, [], sym, ap, subst, arith}
use Rattle.std.specs.Prelude.{Option, Some, IfSome, not, slice_get}
use Rattle.std.specs.Option.{option_map}
use Rattle.std.proofs.lemmas.Option.{slice_get-get_or}
use Rattle.filter_model.specs.Answers.{begins, first, is_past}
use Rattle.filter_model.specs.Leaves.{Leaf}
use Rattle.filter_model.specs.Strings.{is_before}
use Rattle.waking_keys.specs.Waking.{begins_at, greater, no_leaf}
use Rattle.waking_keys.proofs.Near.{first_within, wakes_at_leaf}
use Rattle.waking_keys.proofs.waking.waking_key.Goals as goal

-- what was appended to no byte, for a leaf that is there
appended : (n : ℕ) (leaves : List Leaf) (m : ℕ) (out : List ℕ) → m < length leaves → IfSome (slice_get leaves m) (λ (l : Leaf). out ≡ [] ++ begins n l) → out ≡ begins_at n leaves m
appended n leaves m out lt some = subst (λ (o : Option Leaf). IfSome o (λ (l : Leaf). out ≡ [] ++ begins n l)) (slice_get-get_or leaves m no_leaf lt) some

pub least_of-requires : goal.least_of-requires
least_of-requires g c =
    let leaves = g.F.RangeFilter.leaf_list c.args.filter.now in
    omega (arith, first_within (λ (l : Leaf). not (is_past (g.F.RangeFilter.real_bits c.args.filter.now) c.args.low.now l)) leaves 0 c.in-Some.leaf (sym c.seek.ensures ∙ c.in-Some.is))

pub returns : goal.returns
returns g c =
    let n = g.F.RangeFilter.real_bits c.args.filter.now in
    let leaves = g.F.RangeFilter.leaf_list c.args.filter.now in
    let least = c.args.least.now in
    let greatest = c.args.greatest.now in
    let lo = c.args.low.now in
    let within : is_before greatest lo ≡ false = search rules in
    let below : is_before least lo ≡ true = search rules in
    let at : first n leaves lo ≡ Some c.in-Some.leaf = sym c.seek.ensures ∙ c.in-Some.is in
    let lt : c.in-Some.leaf < length leaves = omega (arith, first_within (λ (l : Leaf). not (is_past n lo l)) leaves 0 c.in-Some.leaf at) in
    let begins_so : c.least_of.new.out.items ≡ begins_at n leaves c.in-Some.leaf =
    appended n leaves c.in-Some.leaf c.least_of.new.out.items lt
    (subst (λ (out : List ℕ). IfSome (slice_get leaves c.in-Some.leaf) (λ (l : Leaf). c.least_of.new.out.items ≡ out ++ begins n l)) c.new-begins.ensures.items c.in_ok-least_of.ensures.added) in
    ap (λ (k : List ℕ). Some k) (c.in_ok-not_below.ensures ∙ ap (greater least) begins_so)
    ∙ sym (wakes_at_leaf n leaves least greatest lo within below ∙ ap (λ (o : Option ℕ). option_map (λ (m : ℕ). greater least (begins_at n leaves m)) o) at)
