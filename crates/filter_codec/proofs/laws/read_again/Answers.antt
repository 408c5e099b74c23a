use Rattle.std.proofs.Common.{◌≡◌, ◌++◌, ◌∙◌, ap, List, ℕ}
use Rattle.std.proofs.lemmas.Result.{IfErr-weaker, IfOk-weaker}
use Rattle.filter_api.specs.declared.errors.DecodeError.TheVariants.{Memory}
use Rattle.filter_codec.proofs.Again.{no_fault, same}
use Rattle.filter_codec.specs.Decoding.{IsCause}
use Rattle.filter_image_model.specs.Laws.{IsImage}
use Rattle.filter_model.specs.Image.{image}
use Rattle.filter_codec.proofs.laws.read_again.Goals as goal

pub returns-clause-same : goal.returns-clause-same
returns-clause-same c =
    let i = c.args.trie.now in
    let bytes = c.as_slice.result.now in
    let own : IsImage i bytes = record {
      may_stand = c.requires;
      bytes_are = c.as_slice.ensures.value ∙ c.in_ok-encode.ensures.added ∙ ap (λ (l : List ℕ). l ++ image i.hash_bits i.real_bits i.cutoff i.leaves) c.new-image.ensures.items;
    } in
    IfOk-weaker c.decode.result (λ t. IsImage t bytes) (λ t. t ≡ i) (λ t is. same i t bytes own is) c.decode.ensures.read

pub returns-clause-memory : goal.returns-clause-memory
returns-clause-memory c =
    let i = c.args.trie.now in
    let bytes = c.as_slice.result.now in
    let own : IsImage i bytes = record {
      may_stand = c.requires;
      bytes_are = c.as_slice.ensures.value ∙ c.in_ok-encode.ensures.added ∙ ap (λ (l : List ℕ). l ++ image i.hash_bits i.real_bits i.cutoff i.leaves) c.new-image.ensures.items;
    } in
    IfErr-weaker c.decode.result (IsCause bytes) (λ e. e ≡ Memory) (no_fault i bytes own) c.decode.ensures.refused
