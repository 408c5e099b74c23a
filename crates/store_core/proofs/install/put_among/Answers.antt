use Rattle.std.proofs.Common.{◌≡◌, ◌∙◌, ◌+◌, drop, fold, map, sym, ap, subst, arith}
use Rattle.std.specs.List.{insert}
use Rattle.store_core.specs.Install.{put_in}
use Rattle.store_core.proofs.InstallSteps.{map_insert, put_next}
use Rattle.store_core.proofs.install.put_among.Goals as goal

pub loop-new-preserved : goal.loop-new-preserved
loop-new-preserved g c =
    let made = c.args.made.now in
    let index = c.loop-new.new-index in
    let new = c.new-item.result in
    let before = c.loop-new.others.items in
    let place = c.place_among-place.result in
    let placed : put_in (map (λ t. t.now) before) new ≡ insert (map (λ t. t.now) before) place new =
    subst (λ xs. put_in (map (λ t. t.now) xs) new ≡ insert (map (λ t. t.now) xs) place new) c.as_slice.ensures.value c.place_among-place.ensures.place in
    let all : map (λ t. t.now) c.insert.new.self.items ≡ put_in (map (λ t. t.now) before) new = ap (map (λ t. t.now)) c.in-Ok.ensures.items ∙ map_insert (λ t. t.now) before place _ ∙ sym placed in
    record {
      all = ap (λ l. fold put_in l (drop (index + 1) made)) all ∙ put_next (map (λ t. t.now) before) made index new c.loop-new-test.true c.new-item.is ∙ c.loop-new.invariant.all;
      room = omega (arith, c.in-Ok.ensures.len, c.in-Ok.ensures.capacity, c.loop-new.invariant.room, c.loop-new-test.true);
    }
