use Rattle.std.proofs.Common.{◌≡◌}
use Rattle.std.proofs.lemmas.Result.{IfErr-weaker, IfOk-weaker}
use Rattle.filter_codec.proofs.Again.{cause_of_whole_keys, image_of_whole_keys, list_of_whole_keys}
use Rattle.filter_codec.specs.Decoding.{IsCauseBy, IsWholeCause}
use Rattle.filter_image_model.proofs.Validity.{whole_keys_are_a_kind}
use Rattle.filter_image_model.specs.Kinds.{of_whole_keys}
use Rattle.filter_image_model.specs.Laws.{IsImageBy, IsWholeImage, whole_list}
use Rattle.filter_codec.proofs.reading.decode_whole.Goals as goal

pub decode_by-requires : goal.decode_by-requires
decode_by-requires g c = whole_keys_are_a_kind

pub returns-clause-read : goal.returns-clause-read
returns-clause-read g c =
    IfOk-weaker c.decode_by.result (λ t. IsImageBy of_whole_keys t c.args.bytes.now) (λ t. IsWholeImage t.cutoff t.leaves c.args.bytes.now) (λ t is. image_of_whole_keys t c.args.bytes.now is) c.decode_by.ensures.read

pub returns-clause-no_bits : goal.returns-clause-no_bits
returns-clause-no_bits g c =
    IfOk-weaker c.decode_by.result (λ t. IsImageBy of_whole_keys t c.args.bytes.now) (λ t. t ≡ whole_list t.cutoff t.leaves) (λ t is. list_of_whole_keys t c.args.bytes.now is) c.decode_by.ensures.read

pub returns-clause-refused : goal.returns-clause-refused
returns-clause-refused g c =
    IfErr-weaker c.decode_by.result (IsCauseBy of_whole_keys c.args.bytes.now) (IsWholeCause c.args.bytes.now) (cause_of_whole_keys c.args.bytes.now) c.decode_by.ensures.refused
