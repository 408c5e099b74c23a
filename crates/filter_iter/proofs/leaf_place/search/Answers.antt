use Rattle.std.proofs.Common.{◌≡◌, Some, ap, arith, sym, ◌∙◌}
use Rattle.filter_iter.proofs.Siblings.{found_branch}
use Rattle.filter_iter.specs.LeafPlace.{BeginsNode}
use Rattle.filter_model.specs.Nodes.{IsBranch, trie_of}
use Rattle.filter_trie.specs.Places.{branch_number}
use Rattle.filter_trie.specs.declared.place.Place.{Place}
use Rattle.filter_trie.specs.declared.place.Place.TheVariants as in_half
use Rattle.filter_iter.proofs.leaf_place.search.Goals as goal

pub returns-in_Some-Sparse-place : goal.returns-in_Some-Sparse-place
returns-in_Some-Sparse-place g c =
    let s : BeginsNode c.args.trie.now c.args.node c.in_ok-end.field-0 = c.in_ok-end.ensures in
    let f : c.in_Some-Sparse-place.field-0 ≡ in_half.Sparse c.in_Some-Sparse-place.place = c.in_Some-Sparse-place.field-0-is in
    let found : IsBranch (trie_of c.args.trie.now.leaves) c.args.node c.args.byte (branch_number c.args.trie.now (in_half.Sparse c.in_Some-Sparse-place.place)) =
    found_branch c.args.trie.now.leaves c.args.node c.args.byte (branch_number c.args.trie.now (in_half.Sparse c.in_Some-Sparse-place.place)) c.requires.node (ap (λ (p : Place). Some (branch_number c.args.trie.now p)) (sym f) ∙ c.in_Some-Sparse-place.ensures.place)
    in
    record { sparse = s.sparse; branch = found; end = s.end; spot = record { taken = omega (arith, found.1, s.end); within = s.spot.within; below = c.first_below-below.ensures } }
