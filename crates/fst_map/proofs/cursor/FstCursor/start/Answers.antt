use Rattle.std.proofs.Common.{◌≡◌, ap, sym, subst, ◌∙◌}
use Rattle.std.specs.Prelude.{IfSome, List, None}
use Rattle.std.specs.Option.{option_map}
use Rattle.filter_model.specs.Answers.{first}
use Rattle.filter_model.specs.Leaves.{Filter}
use Rattle.filter_model.specs.Valid.{IsLeafList}
use Rattle.fst_map.proofs.Asked.{its_keys, leaf_list}
use Rattle.fst_map.proofs.Starts.{first_missing}
use Rattle.fst_map.proofs.cursor.FstCursor.start.Goals as goal
use Rattle.fst_map.specs.Places.{first_key}
use Rattle.map_file_model.specs.Maps.{Bytes}
use Rattle.whole_keys.specs.Whole.{stubs}

pub returns-in_default-clause-number : goal.returns-in_default-clause-number
returns-in_default-clause-number g c =
    let trie = c.args.trie.now in
    let lo = c.args.lo.now in
    let none : None ≡ first 0 trie.leaves lo = ap (option_map (λ s. s.leaf)) (sym c.in_default.is) ∙ c.in_ok-leaf.ensures.leaf ∙ ap (λ n. first n trie.leaves lo) c.requires.of_image.no_bits in
    first_missing trie.leaves lo (leaf_list c.args.bytes.now c.args.parts trie c.requires) (λ i. (c.type_inv.lo i).fits) none
    ∙ ap (λ (ks : List Bytes). first_key ks lo) (its_keys c.args.bytes.now c.args.parts trie c.requires)

pub settle-requires-clause-list : goal.settle-requires-clause-list
settle-requires-clause-list g c =
    let trie = c.args.trie.now in
    let same = subst (λ o. IfSome o (λ s. s.image ≡ trie)) c.in-Some.is c.in_ok-leaf.ensures.trie in
    subst (λ (f : Filter). IsLeafList 0 0 f.leaves) (sym same) (leaf_list c.args.bytes.now c.args.parts trie c.requires)

pub returns-in-Some-settle-clause-number : goal.returns-in-Some-settle-clause-number
returns-in-Some-settle-clause-number g c =
    let trie = c.args.trie.now in
    let same = subst (λ o. IfSome o (λ s. s.image ≡ trie)) c.in-Some.is c.in_ok-leaf.ensures.trie in
    let keys = ap (λ (f : Filter). stubs f.leaves) same ∙ its_keys c.args.bytes.now c.args.parts trie c.requires in
    c.in-Some-settle.ensures.found ∙ ap (λ (ks : List Bytes). first_key ks c.args.lo.now) keys

pub returns-clause-number : goal.returns-clause-number
returns-clause-number g c =
    let trie = c.args.trie.now in
    let same = subst (λ o. IfSome o (λ s. s.image ≡ trie)) c.in-Some.is c.in_ok-leaf.ensures.trie in
    let keys = ap (λ (f : Filter). stubs f.leaves) same ∙ its_keys c.args.bytes.now c.args.parts trie c.requires in
    c.in-None.ensures.found ∙ ap (λ (ks : List Bytes). first_key ks c.args.lo.now) keys
