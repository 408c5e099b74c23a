use Rattle.std.proofs.Common.{◌≡◌, ◌++◌, ◌∙◌, ℕ, length, take, ap, append_assoc}
use Rattle.std.proofs.lemmas.Result.{on_err_weaker, on_ok_weaker}
use Rattle.filter_model.specs.Image.{image}
use Rattle.filter_model.specs.Leaves.{Filter}
use Rattle.map_file_model.specs.Body.{body_head}
use Rattle.map_file_model.specs.Maps.{Bytes}
use Rattle.map_writer.proofs.Growing.{kept, still_kept}
use Rattle.whole_keys.specs.Whole.{whole_leaves}
use Rattle.map_writer.proofs.writing.push_image.Goals as goal

pub returns-clause-added : goal.returns-clause-added
returns-clause-added c =
    let o = c.args.out.now.items in
    let img : image c.in_ok-trie.trie.hash_bits c.in_ok-trie.trie.real_bits c.in_ok-trie.trie.cutoff c.in_ok-trie.trie.leaves ≡ image 0 0 c.args.plan.cutoff (whole_leaves c.args.keys.now) =
    ap (λ (f : Filter). image f.hash_bits f.real_bits f.cutoff f.leaves) c.in_ok-trie.ensures in
    let head : c.head.result ≡ body_head (length c.args.keys.now) (length (image 0 0 c.args.plan.cutoff (whole_leaves c.args.keys.now))) =
    c.head.ensures ∙ (λ i. body_head (c.len.ensures i) ((c.image_bytes.ensures ∙ ap (length {A = ℕ}) img) i)) in
    on_ok_weaker c.encode.result (λ e. e ∙ (λ i. (c.in_ok-extend_from_slice.ensures.items ∙ ap (λ (l : Bytes). o ++ l) head) i ++ img i)
    ∙ append_assoc o (body_head (length c.args.keys.now) (length (image 0 0 c.args.plan.cutoff (whole_leaves c.args.keys.now)))) (image 0 0 c.args.plan.cutoff (whole_leaves c.args.keys.now))) c.encode.ensures.added

pub returns-clause-unchanged : goal.returns-clause-unchanged
returns-clause-unchanged c =
    let o = c.args.out.now.items in
    on_err_weaker c.encode.result (λ e. ap (take (length o)) e ∙ (still_kept o o c.head.result c.extend_from_slice.new.self.items c.in_ok-extend_from_slice.ensures.items (kept o)).first) c.encode.ensures.unchanged
