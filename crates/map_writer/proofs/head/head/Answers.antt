use Rattle.std.proofs.Common.{◌∙◌, ap}
use Rattle.std.specs.List.{splice}
use Rattle.byteorder.specs.Endian.{little_bytes}
use Rattle.map_writer.proofs.Growing.{head_is}
use Rattle.map_writer.proofs.head.head.Goals as goal

pub returns : goal.returns
returns c = c.put_u64.ensures ∙ ap (λ b. splice b 16 24 (little_bytes 8 c.args.image_bytes)) c.put_u32.ensures ∙ head_is c.args.pairs c.args.image_bytes
