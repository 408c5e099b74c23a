use Rattle.std.proofs.Common.{◌≡◌, ◌<◌, ◌∙◌, [], List, length, sym, ap, arith}
use Rattle.std.specs.Prelude.{slice_index_or}
use Rattle.std.proofs.lemmas.Bool.Decides.{Decides-eqb}
use Rattle.std.proofs.lemmas.Slice.Eq.{slice_eq-Decides}
use Rattle.key_base.specs.ByteOrder.{Bytes}
use Rattle.entry_model.specs.Entries.{keys_of}
use Rattle.table_file.proofs.RangeStarts.{found_at}
use Rattle.table_file.proofs.builder.has_key.Goals as goal

pub returns-then-eq : goal.returns-then-eq
returns-then-eq c = λ entries yes are.
    let i = c.loop-i.i in
    let lt : i < length (keys_of entries) = omega (arith, c.loop-i-test.true, c.len-i-end.ensures, ap (length {A = Bytes}) are) in
    let same : c.get.result.now ≡ c.args.key.now = (slice_eq-Decides Decides-eqb _ _ _ c.eq.ensures).0 c.if-eq.true in
    found_at entries i c.args.key.now lt (ap (λ (l : List Bytes). slice_index_or l i []) are ∙ sym c.get.ensures ∙ same)
