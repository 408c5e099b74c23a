use Rattle.std.proofs.Common.{◌≡◌, ◌++◌, ◌∙◌, ℕ, List, length, take, ap, append_assoc, arith, sym}
use Rattle.std.specs.Prelude.{zip}
use Rattle.byte_fields.specs.Sums.{fnv_of}
use Rattle.byteorder.specs.Endian.{little_bytes}
use Rattle.std.proofs.lemmas.Result.{on_err_weaker, on_ok_weaker}
use Rattle.filter_model.specs.Image.{image}
use Rattle.map_file_model.specs.Body.{front_of, slotted_values}
use Rattle.map_file_model.specs.Maps.{Bytes}
use Rattle.map_writer.proofs.Growing.{kept, rest_is, still_kept}
use Rattle.map_writer.proofs.Slots.{body_is}
use Rattle.whole_keys.specs.Whole.{whole_leaves}
use Rattle.map_writer.proofs.writing.push_body.Goals as goal

abbrev front : (keys values : List Bytes) → ℕ → Bytes
front keys values cutoff = front_of (length keys) (image 0 0 cutoff (whole_leaves keys)) (slotted_values (zip keys values))

pub returns-clause-added : goal.returns-clause-added
returns-clause-added c =
    let o = c.args.out.now.items in
    let f = front c.args.keys.now c.args.values.now c.args.plan.cutoff in
    let added : c.push_front.new.out.items ≡ o ++ f = c.in_ok-push_front.ensures.added in
    let sum : c.fnv1a-sum.result ≡ fnv_of f = c.fnv1a-sum.ensures ∙ ap fnv_of (rest_is o f c.deref.result.now c.len-from.result (c.deref.ensures.value ∙ added) (omega (arith, c.len-from.ensures, c.args.out.now.ok.0))) in
    on_ok_weaker c.push_number.result (λ e. e ∙ (λ i. added i ++ little_bytes 8 (sum i)) ∙ append_assoc o f (little_bytes 8 (fnv_of f))
    ∙ ap (λ (l : Bytes). o ++ l) (sym (body_is c.args.keys.now c.args.values.now c.requires.plan.keys_are c.requires.pairs c.args.plan.cutoff))) c.push_number.ensures.added

pub returns-clause-unchanged : goal.returns-clause-unchanged
returns-clause-unchanged c =
    let o = c.args.out.now.items in
    on_err_weaker c.push_number.result (λ e. ap (take (length o)) e ∙ (still_kept o o (front c.args.keys.now c.args.values.now c.args.plan.cutoff) c.push_front.new.out.items c.in_ok-push_front.ensures.added (kept o)).first) c.push_number.ensures.unchanged
