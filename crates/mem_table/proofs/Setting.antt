-- A new entry in a table: in the place of an older one, or behind all with its place put into the order.
use Rattle.std.proofs.Common.{◌≡◌, ℕ, ◌<◌, ◌≤◌, List, [], ◌∷◌, ◌++◌, length, get_or, set, length-set, sym, ap, ◌∙◌, subst, arith}
use Rattle.std.specs.Prelude.{Some, None, insert}
use Rattle.std.specs.List.{AllByRecursion}
use Rattle.std.proofs.lemmas.List.{get_or-map, get_or_default, length-append}
use Rattle.std.proofs.lemmas.List.Edits.{length-insert}
use Rattle.arrayvec.specs.ArrayVec.{ArrayVec}
use Rattle.map_model.specs.SortedMap.{Bytes}
use Rattle.entry_model.specs.Entries.{Entry}
use Rattle.mem_table.specs.Table.{KeyStandsAt, BelongsAt}
use Rattle.entry_model.specs.Newest.{KeysRise, with_entry, lookup}
use Rattle.mem_table.specs.Chunks.{flat, entry_at, in_order, Orders, NoneEmpty}
use Rattle.entry_model.proofs.Newest.{rises_with}
use Rattle.mem_table.proofs.Places.{set_at, insert_at, lookup_at}
use Rattle.mem_table.proofs.Ordered.{within_at, within_more, within_insert, in_order_insert, in_order_set}

module _ (entries : List Entry) (chunks : List (ArrayVec ℕ)) (orders : Orders chunks entries) (at : ℕ) where
  -- what is looked up is what stands at the place
  pub looked_up : (key : Bytes) (entry : Entry) (place : ℕ) → KeyStandsAt at key (in_order entries (flat chunks)) → at < length (flat chunks) → place ≡ get_or (flat chunks) at 0
      → entry ≡ get_or entries place entry → lookup (in_order entries (flat chunks)) key ≡ Some entry.value
  looked_up key entry place stands lt is here =
      let inside : place < length entries = rw is (within_at entries (flat chunks) at orders.within lt) in
      let shown : get_or (in_order entries (flat chunks)) at entry ≡ entry =
      get_or-map (entry_at entries) (flat chunks) at 0 entry lt ∙ ap (entry_at entries) (sym is) ∙ get_or_default entries place (record { key = []; value = None }) entry inside ∙ sym here in
      lookup_at (in_order entries (flat chunks)) key at stands entry ∙ ap (λ (e : Entry). Some e.value) shown

  module _ (entry : Entry) (place : ℕ) (stands : KeyStandsAt at entry.key (in_order entries (flat chunks))) (lt : at < length (flat chunks)) (is : place ≡ get_or (flat chunks) at 0) where
    pub set_shows : in_order (set entries place entry) (flat chunks) ≡ with_entry (in_order entries (flat chunks)) entry
    set_shows =
        ap (λ (p : ℕ). in_order (set entries p entry) (flat chunks)) is
        ∙ in_order_set entries entry (flat chunks) at orders.rises orders.within lt
        ∙ set_at (in_order entries (flat chunks)) entry at stands

    pub set_orders : Orders chunks (set entries place entry)
    set_orders = record {
      rises = subst KeysRise (sym set_shows) (rises_with (in_order entries (flat chunks)) entry orders.rises);
      within = within_more entries (set entries place entry) (flat chunks) (omega (arith, length-set entries place entry)) orders.within;
      few = omega (arith, orders.few, length-set entries place entry);
      some = orders.some;
    }

  module _ (entry : Entry) (others : List (ArrayVec ℕ)) (belongs : BelongsAt at entry.key (in_order entries (flat chunks))) (le : at ≤ length (flat chunks))
      (placed : flat others ≡ insert (flat chunks) at (length entries)) (some : NoneEmpty others) where
    pub put_shows : in_order (entries ++ entry ∷ []) (flat others) ≡ with_entry (in_order entries (flat chunks)) entry
    put_shows =
        ap (in_order (entries ++ entry ∷ [])) placed
        ∙ in_order_insert entries entry (flat chunks) at orders.within
        ∙ insert_at (in_order entries (flat chunks)) entry at belongs

    pub put_orders : Orders others (entries ++ entry ∷ [])
    put_orders =
        let size = length-append entries (entry ∷ []) in record {
          rises = subst KeysRise (sym put_shows) (rises_with (in_order entries (flat chunks)) entry orders.rises);
          within = subst (λ (ps : List ℕ). AllByRecursion (λ p. p < length (entries ++ entry ∷ [])) ps) (sym placed)
              (within_insert (entries ++ entry ∷ []) (flat chunks) at (length entries) (omega (arith, size)) (within_more entries (entries ++ entry ∷ []) (flat chunks) (omega (arith, size)) orders.within));
          few = omega (arith, ap (λ (ps : List ℕ). length ps) placed, length-insert (flat chunks) at (length entries) le, orders.few, size);
          some = some;
        }
