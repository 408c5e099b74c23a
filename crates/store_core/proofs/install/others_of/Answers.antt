use Rattle.std.proofs.Common.{◌≡◌, ◌∙◌, ◌+◌, ◌-◌, ◌<◌, ◌++◌, ℕ, [], ◌∷◌, true, false, drop, get_or, length, map, sym, ap, arith, append_assoc}
use Rattle.std.specs.Prelude.{◌==◌, vec_capacity, vec_len}
use Rattle.std.specs.List.{list_any}
use Rattle.std.proofs.lemmas.List.{map-append}
use Rattle.std.proofs.lemmas.Option.{get_or_from_slice_get}
use Rattle.merge_rows.specs.Steps.{numbers}
use Rattle.store_core.specs.Install.{others_in}
use Rattle.store_core.proofs.InstallSteps.{first_at, others_kept, others_passed}
use Rattle.store_core.proofs.install.others_of.Goals.{then-not-merges, else-not-merges}
use Rattle.store_core.proofs.install.others_of.Goals as goal

pub loop-place-preserved : goal.loop-place-preserved
loop-place-preserved g c =
    let tables = c.args.tables.now.tables in
    let place = c.loop-place.place in
    let which = numbers c.args.job.now.merge.walks in
    let before = c.loop-place.others.items in
    let there : place < length tables = omega (arith, c.loop-place-test.true, c.len-place-end.ensures) in
    let here : c.len-in-loop-place.result - 1 - place ≡ length tables - 1 - place = omega (arith, c.len-in-loop-place.ensures) in
    let test : c.merges.result ≡ list_any (λ (n : ℕ). n == (length tables - 1 - place)) which = c.merges.ensures ∙ ap (λ m. list_any (λ (n : ℕ). n == m) which) here in
    elim c.if-not-merges.branch [
      | then-not-merges w ↦
          let t = w.get.result.now in
          let at : t ≡ get_or tables place t = sym (get_or_from_slice_get tables place t t w.get.ensures) in
          let off : list_any (λ (n : ℕ). n == (length tables - 1 - place)) which ≡ false = sym test ∙ w.if-not-merges.true in
          let pushed : map (λ r. r.now) c.if-not-merges.others.items ≡ map (λ r. r.now) before ++ t ∷ [] =
          ap (λ v. map (λ r. r.now) v.items) w.others-is ∙ ap (map (λ r. r.now)) w.push_reserved.ensures.items ∙ map-append (λ r. r.now) before _ in
          record {
            all = ap (λ l. l ++ others_in which (drop (place + 1) tables)) pushed
                ∙ append_assoc (map (λ r. r.now) before) (t ∷ []) (others_in which (drop (place + 1) tables))
                ∙ ap (λ l. map (λ r. r.now) before ++ l) (sym (others_kept which tables place t there at off))
                ∙ c.loop-place.invariant.all;
            room = omega (arith, ap (λ v. vec_len v) w.others-is, ap (λ v. vec_capacity v) w.others-is, w.push_reserved.ensures.len, w.push_reserved.ensures.capacity, c.loop-place.invariant.room, there);
          }
      | else-not-merges w ↦
          let on : list_any (λ (n : ℕ). n == (length tables - 1 - place)) which ≡ true = sym test ∙ w.if-not-merges.false in
          let d = first_at tables place there in
          record {
            all = ap (λ v. map (λ r. r.now) v.items ++ others_in which (drop (place + 1) tables)) w.others-is
                ∙ ap (λ l. map (λ r. r.now) before ++ l) (sym (others_passed which tables place d.0 there d.1 on))
                ∙ c.loop-place.invariant.all;
            room = omega (arith, ap (λ v. vec_len v) w.others-is, ap (λ v. vec_capacity v) w.others-is, c.loop-place.invariant.room, there);
          }
    ]
