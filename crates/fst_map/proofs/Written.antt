-- What was written is read again.
use Rattle.std.proofs.Common.{ℕ}
use Rattle.std.specs.Prelude.{OnOk, Result, Ok, Err}
use Rattle.fst_map.specs.Writing.{IsReadAgain}
use Rattle.map_file_model.specs.Maps.{Map, keys_of}
use Rattle.map_file_model.proofs.ReadAgain.{body_again}
use Rattle.map_writer.specs.Bodies.{IsBodyBy, body_by}
use Rattle.map_writer.specs.Plans.{whole_cutoff}

pub read_again_of : {T E : Type 0} (r : Result T E) (ratio : ℕ) (pairs : Map) → OnOk r (IsBodyBy ratio pairs) → OnOk r (IsReadAgain ratio pairs)
read_again_of (Ok x) ratio pairs body = body_again (whole_cutoff ratio (keys_of pairs)) pairs (body_by ratio pairs) body
read_again_of (Err e) ratio pairs body = tt
