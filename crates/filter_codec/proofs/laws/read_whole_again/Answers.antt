use Rattle.std.proofs.Common.{◌≡◌, ◌++◌, ◌∙◌, ap, sym, List, ℕ}
use Rattle.std.proofs.lemmas.Result.{IfErr-weaker}
use Rattle.filter_api.specs.declared.errors.DecodeError.TheVariants.{Memory}
use Rattle.filter_codec.proofs.Again.{both_ok, no_whole_fault, own_whole, whole_same}
use Rattle.filter_codec.specs.Decoding.{IsWholeCause}
use Rattle.filter_image_model.specs.Laws.{IsWholeImage, whole_list}
use Rattle.filter_model.specs.Image.{image}
use Rattle.filter_codec.proofs.laws.read_whole_again.Goals as goal

pub returns-clause-same : goal.returns-clause-same
returns-clause-same c =
    let i = c.args.trie.now in
    let bytes = c.as_slice.result.now in
    let own : IsWholeImage i.cutoff i.leaves bytes =
    own_whole i bytes c.requires c.height-height.ensures.stands (c.as_slice.ensures.value ∙ c.in_ok-encode.ensures.added ∙ ap (λ (l : List ℕ). l ++ image i.hash_bits i.real_bits i.cutoff i.leaves) c.new-image.ensures.items) in
    both_ok c.decode_whole.result (λ t. IsWholeImage t.cutoff t.leaves bytes) (λ t. t ≡ whole_list t.cutoff t.leaves) (λ t. t ≡ i)
    (λ t is list. list ∙ whole_same i.cutoff t.cutoff i.leaves t.leaves bytes own is ∙ sym c.requires) c.decode_whole.ensures.read c.decode_whole.ensures.no_bits

pub returns-clause-memory : goal.returns-clause-memory
returns-clause-memory c =
    let i = c.args.trie.now in
    let bytes = c.as_slice.result.now in
    let own : IsWholeImage i.cutoff i.leaves bytes =
    own_whole i bytes c.requires c.height-height.ensures.stands (c.as_slice.ensures.value ∙ c.in_ok-encode.ensures.added ∙ ap (λ (l : List ℕ). l ++ image i.hash_bits i.real_bits i.cutoff i.leaves) c.new-image.ensures.items) in
    IfErr-weaker c.decode_whole.result (IsWholeCause bytes) (λ e. e ≡ Memory) (no_whole_fault i.cutoff i.leaves bytes own) c.decode_whole.ensures.refused
