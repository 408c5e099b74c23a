use Rattle.std.proofs.Common.{◌+◌, arith, length, ◌∙◌}
use Rattle.filter_iter.proofs.Siblings.{next_at_number, none_behind, stands_at_number}
use Rattle.filter_model.specs.Nodes.{all}
use Rattle.filter_trie.specs.Parts.{upper}
use Rattle.filter_iter.proofs.leaf_place.branch_behind_spot.Goals as goal

pub spot_behind-next-requires-clause-spot : goal.spot_behind-next-requires-clause-spot
spot_behind-next-requires-clause-spot g c = c.requires.spot.spot

pub returns-then-next-clause-next : goal.returns-then-next-clause-next
returns-then-next-clause-next g c =
    let m = length (all (upper c.args.trie.now.cutoff c.args.trie.now.leaves)) + c.args.spot.place in
    none_behind c.args.trie.now.hash_bits c.args.trie.now.real_bits c.args.trie.now.leaves c.requires.stands.valid c.args.pass.node c.requires.node c.args.pass.letter m c.requires.spot.branch (omega (arith, c.requires.spot.end, c.if-next.true, c.spot_behind-next.ensures.place, c.spot_behind-next.ensures.end))

pub byte_at-requires : goal.byte_at-requires
byte_at-requires g c = omega (arith, c.if-next.false, c.spot_behind-next.ensures.end, c.requires.spot.spot.within)

pub lead_at_spot-requires-clause-spot : goal.lead_at_spot-requires-clause-spot
lead_at_spot-requires-clause-spot g c = record { taken = omega (arith, c.if-next.false); within = omega (arith, c.spot_behind-next.ensures.end, c.requires.spot.spot.within); below = c.spot_behind-next.ensures.below }

pub returns-clause-next : goal.returns-clause-next
returns-clause-next g c =
    let base = length (all (upper c.args.trie.now.cutoff c.args.trie.now.leaves)) in
    next_at_number c.args.trie.now.hash_bits c.args.trie.now.real_bits c.args.trie.now.leaves c.requires.stands.valid c.args.pass.node c.requires.node c.args.pass.letter (base + c.args.spot.place) (base + c.spot_behind-next.result.place) (omega (arith, c.spot_behind-next.ensures.place)) c.requires.spot.branch (omega (arith, c.requires.spot.end, c.if-next.false, c.spot_behind-next.ensures.end))
    (record { letter = c.from.result; lead = c.lead_at_spot.result }) (c.from.ensures ∙ c.byte_at.ensures) c.lead_at_spot.ensures

pub returns-clause-spot : goal.returns-clause-spot
returns-clause-spot g c =
    let base = length (all (upper c.args.trie.now.cutoff c.args.trie.now.leaves)) in
    record {
      sparse = c.requires.spot.sparse;
      branch = stands_at_number c.args.trie.now.hash_bits c.args.trie.now.real_bits c.args.trie.now.leaves c.requires.stands.valid c.args.pass.node c.requires.node c.args.pass.letter (base + c.args.spot.place) (base + c.spot_behind-next.result.place) (omega (arith, c.spot_behind-next.ensures.place)) c.requires.spot.branch (omega (arith, c.requires.spot.end, c.if-next.false, c.spot_behind-next.ensures.end)) c.from.result (c.from.ensures ∙ c.byte_at.ensures);
      end = omega (arith, c.spot_behind-next.ensures.end, c.requires.spot.end);
      spot = record { taken = omega (arith, c.if-next.false); within = omega (arith, c.spot_behind-next.ensures.end, c.requires.spot.spot.within); below = c.spot_behind-next.ensures.below };
    }
