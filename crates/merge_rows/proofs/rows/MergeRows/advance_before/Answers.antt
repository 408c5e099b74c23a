use Rattle.std.proofs.Common.{rules, ◌≡◌, ◌∙◌, ℕ, List, false, refl, sym, ap, subst}
use Rattle.std.specs.Prelude.{Option, Some, None}
use Rattle.std.specs.List.{AllByRecursion}
use Rattle.entry_model.specs.Entries.{Entry}
use Rattle.key_base.specs.ByteOrder.{is_before}
use Rattle.merge_rows.specs.CatchingUp.{AdvancesBefore}
use Rattle.merge_rows.specs.Choosing.{IsHeadFrom, IsLeastAt, IsNone, heads_of}
use Rattle.merge_rows.specs.Merges.{Merge, TableWalk}
use Rattle.merge_rows.specs.SourcePlaces.{head_at, place_in}
use Rattle.merge_rows.proofs.Least.{least_from_low, none_from}
use Rattle.merge_rows.proofs.rows.MergeRows.advance_before.Goals as goal

-- an entry that is the one at hand has its key
same_entry : (a e : Entry) (head : List TableWalk → Option Entry) (ws vs : List TableWalk) → Some a ≡ head ws → ws ≡ vs → head vs ≡ Some e → a.key ≡ e.key
same_entry a e head ws vs found same is =
    let some : Some a ≡ Some e = found ∙ ap head same ∙ is in
    let one : a ≡ e = cc in
    ap (λ (x : Entry). x.key) one

pub returns-in_default : goal.returns-in_default
returns-in_default c =
    let new : Merge = record { floor = c.self.inside.floor; drops = c.self.inside.drops; now = None; memory = c.catch_up.new.self; walks = c.self.inside.walks.items } in
    let none = subst (λ (ws : List TableWalk). AllByRecursion IsNone (heads_of c.catch_up.new.self ws)) c.deref.ensures.value c.in_default.ensures.least in
    subst (λ (m : Merge). AdvancesBefore c.args.bound.now m new false) c.self.view_is (record {
      drops = refl;
      walks = refl;
      memory = record { same = c.catch_up.ensures.same; rises = c.catch_up.ensures.rises; caught_up = c.catch_up.ensures.caught_up };
      chosen = (refl, refl, none_from c.args.bound.now (heads_of c.catch_up.new.self c.self.inside.walks.items) none);
    })

pub returns-then-not-is_lt : goal.returns-then-not-is_lt
returns-then-not-is_lt c =
    let new : Merge = record { floor = c.self.inside.floor; drops = c.self.inside.drops; now = None; memory = c.catch_up.new.self; walks = c.self.inside.walks.items } in
    let memory = c.catch_up.new.self in
    let source = c.in-Some.source in
    let least = c.in-Some.ensures.least in
    let e = least.0 in
    let head : head_at source memory c.self.inside.walks.items ≡ Some e = subst (λ (ws : List TableWalk). head_at source memory ws ≡ Some e) c.deref.ensures.value least.1 in
    let at = subst (λ (ws : List TableWalk). IsLeastAt (heads_of memory ws) (place_in source) e) c.deref.ensures.value least.2 in
    let key : c.in-Some-entry.key.now ≡ e.key = same_entry _ e (head_at source memory) _ _ c.in-Some-entry.ensures.now c.deref-2.ensures.value head in
    let no : is_before c.in-Some-entry.key.now c.args.bound.now ≡ false = search rules in
    let not_so : is_before e.key c.args.bound.now ≡ false = subst (λ (k : List ℕ). is_before k c.args.bound.now ≡ false) key no in
    subst (λ (m : Merge). AdvancesBefore c.args.bound.now m new false) c.self.view_is (record {
      drops = refl;
      walks = refl;
      memory = record { same = c.catch_up.ensures.same; rises = c.catch_up.ensures.rises; caught_up = c.catch_up.ensures.caught_up };
      chosen = (refl, refl, least_from_low c.args.bound.now (heads_of memory c.self.inside.walks.items) (place_in source) e not_so at);
    })
