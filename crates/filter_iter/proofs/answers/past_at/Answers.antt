use Rattle.std.proofs.Common.{ℕ, Bool, true, false, cond, ◌≡◌, ◌≤◌, Option, ◌+◌, ap, arith, refl, subst, sym, ◌∙◌}
use Rattle.std.specs.Prelude.{IfNone, IfSome}
use Rattle.std.specs.Option.{option_map}
use Rattle.filter_iter.proofs.MetLeaves.{byte_of, none_past, slot_fits, some_past}
use Rattle.filter_iter.specs.Borders.{reached_path}
use Rattle.filter_iter.specs.Cuts.{FirstPass}
use Rattle.filter_iter.specs.declared.parts.Reached.{Reached}
use Rattle.filter_model.specs.Answers.{is_past}
use Rattle.filter_trie.specs.Walks.{IsSlotAt}
use Rattle.trie_model.specs.Rests.{first_leaf}
use Rattle.filter_iter.proofs.answers.past_at.Goals as goal

pub is_reached_past-requires : goal.is_reached_past-requires
is_reached_past-requires g c = slot_fits c.args.trie.now.hash_bits c.args.trie.now.real_bits c.args.trie.now.leaves c.in-Some.leaf.slot (reached_path c.args.lo.now c.in-Some.leaf) c.requires.stands.valid (subst (λ (o : Option Reached). IfSome o (λ r. IsSlotAt c.args.trie.now.leaves r.slot (reached_path c.args.lo.now r))) c.in-Some.is c.requires.reached.path)

pub returns-in-None-clause-past : goal.returns-in-None-clause-past
returns-in-None-clause-past g c =
    subst (FirstPass (is_past c.args.trie.now.real_bits c.args.lo.now) c.args.trie.now.leaves) (none_more (first_leaf c.args.trie.now.leaves c.args.lo.now))
    (none_past c.args.trie.now.hash_bits c.args.trie.now.real_bits c.args.trie.now.leaves c.requires.stands.valid c.requires.stands.real_width c.args.lo.now (λ i. (c.type_inv.lo i).fits) (ap (option_map (λ (r : Reached). r.slot)) (sym c.in-None.is) ∙ c.requires.reached.slot))
  where
    none_more : (n : ℕ) → n ≡ n + 0
    none_more n = omega arith

pub returns-in-Some-clause-past : goal.returns-in-Some-clause-past
returns-in-Some-clause-past g c =
    subst (FirstPass (is_past c.args.trie.now.real_bits c.args.lo.now) c.args.trie.now.leaves) (ap (λ (n : ℕ). first_leaf c.args.trie.now.leaves c.args.lo.now + n) (sym (c.from.ensures ∙ byte_of c.is_reached_past.result ∙ ap (λ (b : Bool). cond {A = ℕ} b 1 0) c.is_reached_past.ensures)))
    (some_past c.args.trie.now.hash_bits c.args.trie.now.real_bits c.args.trie.now.leaves c.requires.stands.valid c.requires.stands.real_width c.args.lo.now (λ i. (c.type_inv.lo i).fits) c.in-Some.leaf (ap (option_map (λ (r : Reached). r.slot)) (sym c.in-Some.is) ∙ c.requires.reached.slot) (subst (λ (o : Option Reached). IfSome o (λ r. IsSlotAt c.args.trie.now.leaves r.slot (reached_path c.args.lo.now r))) c.in-Some.is c.requires.reached.path))

pub returns-in-Some-clause-most : goal.returns-in-Some-clause-most
returns-in-Some-clause-most g c = omega (arith, c.from.ensures ∙ byte_of c.is_reached_past.result, one_bit c.is_reached_past.result)
  where
    one_bit : (b : Bool) → cond {A = ℕ} b 1 0 ≤ 1
    one_bit true = omega arith
    one_bit false = omega arith

pub returns-in-None-clause-none : goal.returns-in-None-clause-none
returns-in-None-clause-none g c = subst (λ (o : Option Reached). IfNone o (0 ≡ 0)) (sym c.in-None.is) refl

pub returns-in-Some-clause-none : goal.returns-in-Some-clause-none
returns-in-Some-clause-none g c = subst (λ (o : Option Reached). IfNone o (c.from.result ≡ 0)) (sym c.in-Some.is) tt
