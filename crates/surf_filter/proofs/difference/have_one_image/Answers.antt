use Rattle.std.proofs.Common.{◌≡◌, ◌∙◌, sym}
use Rattle.filter_model.proofs.Fronts.{same-true}
use Rattle.surf_filter.specs.ImageLaws.{one_list}
use Rattle.surf_filter.proofs.difference.have_one_image.Goals as goal

pub returns-in-Ok-Ok : goal.returns-in-Ok-Ok
returns-in-Ok-Ok c same =
    let one : c.in-Ok-Ok.bytes.items ≡ c.in-Ok-Ok.others.items = sym c.deref.ensures.value ∙ same-true _ _ (sym c.eq.ensures ∙ same) ∙ c.deref-in-Ok-Ok.ensures.value in
    (one_list _ _ _ _ _ _ _ _ c.in-Ok-Ok.bytes.items
    (record { may_stand = c.trie.ensures.stands; bytes_are = c.in-Ok-Ok.ensures })
    (record { may_stand = c.trie-2.ensures.stands; bytes_are = one ∙ c.in-Ok-Ok.ensures' })).leaves_are
