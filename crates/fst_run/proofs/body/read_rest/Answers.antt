use Rattle.std.proofs.Common.{◌≡◌, ◌+◌, ◌-◌, ◌∙◌, List, ℕ, ap, arith, drop, length}
use Rattle.std.proofs.lemmas.Result.{IfOk-weaker}
use Rattle.byteorder.specs.Endian.{little_number}
use Rattle.disk_trait.specs.Image.{Image, window}
use Rattle.map_file_model.specs.Reading.{values_place}
use Rattle.map_run_model.specs.Files.{bytes_read}
use Rattle.fst_run.proofs.Fetching.{rest_all, rest_front}
use Rattle.fst_run.proofs.body.read_rest.Goals as goal

pub returns-then-end-gt-MAX_BODY_BYTES-clause-bytes : goal.returns-then-end-gt-MAX_BODY_BYTES-clause-bytes
returns-then-end-gt-MAX_BODY_BYTES-clause-bytes g c tells is =
    rest_front (g.D.Disk.world c.args.disk.now).seen.held c.args.head.items c.values_begin-values.result is (c.values_begin-values.ensures ∙ ap values_place c.deref.ensures.value) (omega (arith, c.if-values-gt-MAX_BODY_BYTES.false)) c.in_ok-front.front.items
    (c.in_ok-front.ensures.bytes tells) c.body_ends-end.result (c.body_ends-end.ensures ∙ ap (λ (l : List ℕ). length l + little_number 8 (drop (length l - 8) l) + 8) c.deref-2.ensures.value) (omega (arith, c.if-end-gt-MAX_BODY_BYTES.true))

pub returns-clause-bytes : goal.returns-clause-bytes
returns-clause-bytes g c tells is =
    let f = (g.D.Disk.world c.args.disk.now).seen.held in
    let end = c.body_ends-end.result in
    let read = rest_all f c.args.head.items c.values_begin-values.result is (c.values_begin-values.ensures ∙ ap values_place c.deref.ensures.value) (omega (arith, c.if-values-gt-MAX_BODY_BYTES.false)) c.in_ok-front.front.items
    (c.in_ok-front.ensures.bytes tells) end (c.body_ends-end.ensures ∙ ap (λ (l : List ℕ). length l + little_number 8 (drop (length l - 8) l) + 8) c.deref-2.ensures.value) (omega (arith, c.if-end-gt-MAX_BODY_BYTES.false)) in
    IfOk-weaker c.read_first-2.result (λ body. body.items ≡ window (g.D.Disk.world c.read_first.new.disk).seen.held 8 end) (λ body. body.items ≡ bytes_read f) (λ body is. read body.items (is ∙ ap (λ (i : Image). window i 8 end) c.read_first.ensures.moves.held))
    (c.read_first-2.ensures.bytes tells)
