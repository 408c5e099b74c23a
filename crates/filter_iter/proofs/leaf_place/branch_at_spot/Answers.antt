use Rattle.std.proofs.Common.{◌≡◌, ◌+◌, arith, length, refl, ◌∙◌}
use Rattle.filter_iter.proofs.Siblings.{first_at, first_letter_at, first_stands}
use Rattle.filter_model.specs.Nodes.{all, at, trie_of}
use Rattle.filter_trie.specs.Parts.{upper}
use Rattle.filter_iter.proofs.leaf_place.branch_at_spot.Goals as goal

pub byte_at-label-requires : goal.byte_at-label-requires
byte_at-label-requires g c = omega (arith, c.requires.spot.spot.taken, c.requires.spot.spot.within)

pub overflow_add-spot : goal.overflow_add-spot
overflow_add-spot g c = omega (arith, c.requires.spot.spot.taken, c.requires.spot.spot.within)

pub lead_at_spot-requires-clause-spot : goal.lead_at_spot-requires-clause-spot
lead_at_spot-requires-clause-spot g c = c.requires.spot.spot

pub returns-clause-branch : goal.returns-clause-branch
returns-clause-branch g c =
    let base = length (all (upper c.args.trie.now.cutoff c.args.trie.now.leaves)) in
    let m = base + c.args.spot.place in
    let letter : c.first_letter.result ≡ (at (trie_of c.args.trie.now.leaves) m).0 = c.first_letter.ensures ∙ first_letter_at c.args.trie.now.hash_bits c.args.trie.now.real_bits c.args.trie.now.leaves c.requires.stands.valid c.args.node c.requires.node m c.args.spot.place c.args.spot.end base c.requires.spot.begin refl c.requires.spot.end c.byte_at-label.result c.byte_at-label.ensures in
    first_at c.args.trie.now.hash_bits c.args.trie.now.real_bits c.args.trie.now.leaves c.requires.stands.valid c.args.node c.requires.node m c.requires.spot.begin (record { letter = c.first_letter.result; lead = c.lead_at_spot.result }) letter c.lead_at_spot.ensures

pub returns-clause-spot : goal.returns-clause-spot
returns-clause-spot g c =
    let base = length (all (upper c.args.trie.now.cutoff c.args.trie.now.leaves)) in
    let m = base + c.args.spot.place in
    let letter : c.first_letter.result ≡ (at (trie_of c.args.trie.now.leaves) m).0 = c.first_letter.ensures ∙ first_letter_at c.args.trie.now.hash_bits c.args.trie.now.real_bits c.args.trie.now.leaves c.requires.stands.valid c.args.node c.requires.node m c.args.spot.place c.args.spot.end base c.requires.spot.begin refl c.requires.spot.end c.byte_at-label.result c.byte_at-label.ensures in
    record {
      sparse = c.requires.spot.sparse;
      branch = first_stands c.args.trie.now.hash_bits c.args.trie.now.real_bits c.args.trie.now.leaves c.requires.stands.valid c.args.node c.requires.node m c.requires.spot.begin c.first_letter.result letter;
      end = c.requires.spot.end;
      spot = c.requires.spot.spot;
    }
