use Rattle.std.proofs.Common.{◌++◌, ◌∙◌, List, length, ap}
use Rattle.std.specs.Prelude.{zip}
use Rattle.std.specs.List.{concat}
use Rattle.std.proofs.lemmas.Result.{on_err_weaker, on_ok_weaker}
use Rattle.filter_model.specs.Image.{image}
use Rattle.map_file_model.specs.Body.{body_head, offsets_of, slotted_values, words}
use Rattle.map_file_model.specs.Maps.{Bytes}
use Rattle.map_writer.specs.Bodies.{headed}
use Rattle.map_writer.specs.Orders.{values_at}
use Rattle.map_writer.proofs.Growing.{front_is, kept, kept_of, on_err, still_kept}
use Rattle.whole_keys.specs.Whole.{whole_leaves}
use Rattle.map_writer.proofs.writing.push_front.Goals as goal

pub push_offsets-requires : goal.push_offsets-requires
push_offsets-requires c = c.requires.order.may

pub push_values-requires : goal.push_values-requires
push_values-requires c = c.requires.order.may

pub returns-in_err-push_offsets-clause-unchanged : goal.returns-in_err-push_offsets-clause-unchanged
returns-in_err-push_offsets-clause-unchanged c =
    let o = c.args.out.now.items in
    on_err c.from_residual-in_err-push_offsets.result
    (kept_of o c.push_image.new.out.items c.push_offsets.new.out.items
    (still_kept o o (headed (length c.args.keys.now) (image 0 0 c.args.plan.cutoff (whole_leaves c.args.keys.now))) c.push_image.new.out.items c.in_ok-push_image.ensures.added (kept o)) c.in_err-push_offsets.ensures.unchanged)

pub returns-clause-added : goal.returns-clause-added
returns-clause-added c =
    let o = c.args.out.now.items in
    let img = image 0 0 c.args.plan.cutoff (whole_leaves c.args.keys.now) in
    let vs = slotted_values (zip c.args.keys.now c.args.values.now) in
    on_ok_weaker c.push_values.result (λ e.
    e ∙ (λ i. ((c.in_ok-push_offsets.ensures.added ∙ ap (λ (l : Bytes). l ++ words (offsets_of (values_at c.args.values.now c.args.order.now))) c.in_ok-push_image.ensures.added) i) ++ concat (values_at c.args.values.now c.args.order.now))
    ∙ ap (λ (xs : List Bytes). ((o ++ headed (length c.args.keys.now) img) ++ words (offsets_of xs)) ++ concat xs) c.requires.order.are
    ∙ front_is o (body_head (length c.args.keys.now) (length img)) img (words (offsets_of vs)) (concat vs)) c.push_values.ensures.added

pub returns-clause-unchanged : goal.returns-clause-unchanged
returns-clause-unchanged c =
    let o = c.args.out.now.items in
    let first = still_kept o o (headed (length c.args.keys.now) (image 0 0 c.args.plan.cutoff (whole_leaves c.args.keys.now))) c.push_image.new.out.items c.in_ok-push_image.ensures.added (kept o) in
    on_err_weaker c.push_values.result (kept_of o c.push_offsets.new.out.items c.push_values.new.out.items
    (still_kept o c.push_image.new.out.items (words (offsets_of (values_at c.args.values.now c.args.order.now))) c.push_offsets.new.out.items c.in_ok-push_offsets.ensures.added first)) c.push_values.ensures.unchanged
