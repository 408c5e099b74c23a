use Rattle.std.proofs.Common.{[], ◌∷◌, ◌++◌, ◌∙◌, List, ap, subst, sym}
use Rattle.std.specs.Prelude.{zip}
use Rattle.fst_map.proofs.Pairs.{is_taken, one_added, zip_push}
use Rattle.fst_map.specs.Adding.{add_fault}
use Rattle.fst_map.proofs.builder.FstBuilder.push.Goals as goal
use Rattle.map_model.specs.SortedMap.{Bytes, Map}
use Rattle.map_writer.specs.Bodies.{ArePairs}

pub returns-in-Ok-clause-added : goal.returns-in-Ok-clause-added
returns-in-Ok-clause-added c =
    (λ i. zip (c.in_ok-push.ensures.added i) (c.in-Ok.ensures.added i)) ∙ zip_push c.self.inside.keys c.self.inside.values c.args.key.now c.args.value.now c.self.invariant.as_many
    ∙ ap (λ (m : Map). m ++ (c.args.key.now, c.args.value.now) ∷ []) c.self.view_is

pub invariant_of-self-in-Ok : goal.invariant_of-self-in-Ok
invariant_of-self-in-Ok c =
    let keys = c.self.inside.keys in
    let values = c.self.inside.values in
    let key = c.args.key.now in
    let value = c.args.value.now in
    let taken = is_taken (zip keys values) key value (ap (λ (m : Map). add_fault m key value) c.self.view_is ∙ c.requires) in
    subst (λ (ks : List Bytes). ArePairs ks c.push-2.new.self) (sym c.in_ok-push.ensures.added)
    (subst (ArePairs (keys ++ key ∷ [])) (sym c.in-Ok.ensures.added) (one_added keys values key value c.self.invariant (λ k. (c.type_inv.key k).fits) (λ k. (c.type_inv.value k).fits) taken))
