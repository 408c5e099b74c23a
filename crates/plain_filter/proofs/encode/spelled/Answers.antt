use Rattle.std.proofs.Common.{◌∙◌, ◌<◌, ◌∷◌, ◌++◌, List, ℕ, ap, sym, append_assoc, length, take, arith}
use Rattle.std.specs.Prelude.{flat_map}
use Rattle.byteorder.specs.Endian.{little_bytes}
use Rattle.filter_api.specs.Seen.{seen}
use Rattle.plain_filter_model.specs.Spelling.{leaf_bytes}
use Rattle.plain_filter.proofs.Loops.{join-more}
use Rattle.plain_filter.proofs.encode.spelled.Goals as goal

pub loop-i-preserved : goal.loop-i-preserved
loop-i-preserved c =
    let leaves = c.args.leaves.now in
    let i = c.loop-i.i in
    let x = seen c.get.result.now in
    let within : i < length leaves = omega arith in
    let head = little_bytes 4 (length leaves) in
    c.in_ok-push_leaf.ensures ∙ ap (λ (r : List ℕ). r ++ leaf_bytes x) c.loop-i.invariant
    ∙ ap (λ (r : List ℕ). 83 ∷ 85 ∷ 82 ∷ 80 ∷ c.args.hash_bits ∷ c.args.real_bits ∷ r)
    (append_assoc head (flat_map leaf_bytes (take i leaves)) (leaf_bytes x) ∙ ap (λ (r : List ℕ). head ++ r) (sym (join-more leaf_bytes leaves i x within c.get.ensures)))
