use Rattle.std.proofs.Common.{◌≡◌, Option, [], subst}
use Rattle.std.specs.Option.{option_map}
use Rattle.std.specs.Prelude.{IfSome}
use Rattle.filter_iter.specs.Cursors.{Standing}
use Rattle.filter_model.specs.Answers.{first}
use Rattle.surf_filter.proofs.Differences.{never_none, starts_at}
use Rattle.surf_filter.proofs.difference.at_first.Goals as goal

pub unreachable-requires : goal.unreachable-requires
unreachable-requires g c =
    let i = c.args.trie.now in
    never_none i.real_bits i.leaves c.height.ensures.stands.valid.some (subst (λ (o : Option Standing). option_map (λ s. s.leaf) o ≡ first i.real_bits i.leaves []) c.in-None.is c.in_ok-cursor.ensures.leaf)

pub returns : goal.returns
returns g c =
    let i = c.args.trie.now in
    let at : c.in-Some.cursor.leaf ≡ 0 = starts_at i.real_bits i.leaves c.in-Some.cursor.leaf c.height.ensures.stands.valid.some (subst (λ (o : Option Standing). option_map (λ s. s.leaf) o ≡ first i.real_bits i.leaves []) c.in-Some.is c.in_ok-cursor.ensures.leaf) in
    let of : c.in-Some.cursor.image ≡ i = subst (λ (o : Option Standing). IfSome o (λ s. s.image ≡ i)) c.in-Some.is c.in_ok-cursor.ensures.trie in
    λ j. record { image = of j; leaf = at j }
