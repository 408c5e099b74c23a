use Rattle.std.proofs.lemmas.Result.{IfErr-weaker, IfOk-weaker}
use Rattle.filter_codec.proofs.Again.{cause_of_stubs, image_of_stubs}
use Rattle.filter_codec.specs.Decoding.{IsCause, IsCauseBy}
use Rattle.filter_image_model.proofs.Validity.{stubs_are_a_kind}
use Rattle.filter_image_model.specs.Kinds.{of_stubs}
use Rattle.filter_image_model.specs.Laws.{IsImage, IsImageBy}
use Rattle.filter_codec.proofs.reading.decode.Goals as goal

pub decode_by-requires : goal.decode_by-requires
decode_by-requires g c = stubs_are_a_kind

pub returns-clause-read : goal.returns-clause-read
returns-clause-read g c =
    IfOk-weaker c.decode_by.result (λ t. IsImageBy of_stubs t c.args.bytes.now) (λ t. IsImage t c.args.bytes.now) (λ t is. image_of_stubs t c.args.bytes.now is) c.decode_by.ensures.read

pub returns-clause-refused : goal.returns-clause-refused
returns-clause-refused g c =
    IfErr-weaker c.decode_by.result (IsCauseBy of_stubs c.args.bytes.now) (IsCause c.args.bytes.now) (cause_of_stubs c.args.bytes.now) c.decode_by.ensures.refused
