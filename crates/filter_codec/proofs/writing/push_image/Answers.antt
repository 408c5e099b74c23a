use Rattle.std.proofs.Common.{◌≡◌, ◌++◌, ◌∙◌, List, OnOk, ap, append_assoc, subst, sym, ℕ}
use Rattle.bit_model.specs.Packed.{packed}
use Rattle.filter_codec.specs.Writing.{dense_part, head_of, sparse_part}
use Rattle.filter_image_model.proofs.ImageWritten.{same_image}
use Rattle.filter_image_model.specs.Sections.{sections}
use Rattle.filter_model.specs.Image.{dense_children, dense_ends, dense_labels, image, sparse_children, sparse_labels, sparse_louds, suffixes}
use Rattle.filter_trie.specs.Parts.{lower, upper}
use Rattle.trie_model.specs.Halves.{Half}
use Rattle.filter_codec.proofs.Growing.{joined, kept_before, on_err}
use Rattle.filter_codec.proofs.writing.push_image.Goals as goal

pub returns-in_err-push_sparse-clause-unchanged : goal.returns-in_err-push_sparse-clause-unchanged
returns-in_err-push_sparse-clause-unchanged g c =
    let o = c.args.out.now.items in
    let first : c.push_dense.new.out.items ≡ (o ++ c.header.result) ++ dense_part c.dense.result.now =
    c.in_ok-push_dense.ensures.added ∙ ap (λ (l : List ℕ). l ++ dense_part c.dense.result.now) c.in_ok-extend_from_slice.ensures.items in
    let whole = first ∙ append_assoc o c.header.result (dense_part c.dense.result.now) in
    on_err c.from_residual-in_err-push_sparse.result (kept_before o _ _ _ whole c.in_err-push_sparse.ensures.unchanged)

pub returns-clause-added : goal.returns-clause-added
unfolding sections
returns-clause-added g c =
    let o = c.args.out.now.items in
    let i = c.args.trie.now in
    let d = upper i.cutoff i.leaves in
    let s = lower i.cutoff i.leaves in
    let x = suffixes i.hash_bits i.real_bits i.leaves in
    let headed : c.extend_from_slice.new.self.items ≡ o ++ head_of i = c.in_ok-extend_from_slice.ensures.items ∙ ap (λ (l : List ℕ). o ++ l) c.header.ensures in
    let dense : c.push_dense.new.out.items ≡ (o ++ head_of i) ++ dense_part d =
    c.in_ok-push_dense.ensures.added ∙ (λ j. headed j ++ dense_part (c.dense.ensures j)) in
    let sparse : c.push_sparse.new.out.items ≡ ((o ++ head_of i) ++ dense_part d) ++ sparse_part s =
    c.in_ok-push_sparse.ensures.added ∙ (λ j. dense j ++ sparse_part (ap (λ (h : Half). h.nodes) c.sparse.ensures j)) in
    let bits : c.bits.result.now ≡ x = c.bits.ensures ∙ c.suffixes.ensures.bits in
    let all : c.push_sparse.new.out.items ++ packed 8 c.bits.result.now ≡ o ++ image i.hash_bits i.real_bits i.cutoff i.leaves =
    (λ j. sparse j ++ packed 8 (bits j))
    ∙ joined o (head_of i) (packed 8 (dense_labels d)) (packed 8 (dense_children d)) (packed 8 (dense_ends d)) (sparse_labels s) (packed 8 (sparse_children s)) (packed 8 (sparse_louds s)) (packed 8 x)
    ∙ ap (λ (l : List ℕ). o ++ l) (sym (same_image i.hash_bits i.real_bits i.cutoff i.leaves)) in
    subst (λ (l : List ℕ). OnOk c.to_bytes.result (c.to_bytes.new.out.items ≡ l)) all c.to_bytes.ensures.written
