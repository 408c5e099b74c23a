use Rattle.std.proofs.Common.{rules, ◌≡◌, ◌∙◌, ◌++◌, ◌∷◌, [], List, ℕ, sym, ap, length, get_or, set, subst}
use Rattle.std.specs.Prelude.{insert}
use Rattle.arrayvec.specs.ArrayVec.{ArrayVec}
use Rattle.map_model.specs.SortedMap.{Bytes}
use Rattle.entry_model.specs.Entries.{Entry}
use Rattle.mem_table.specs.Table.{MemoryTable, KeyStandsAt, BelongsAt}
use Rattle.entry_model.specs.Newest.{with_entry}
use Rattle.mem_table.specs.Chunks.{flat, flat_at, in_order, IsPlace, IsGap, Orders, NoneEmpty}
use Rattle.mem_table.proofs.Flat.{place_in, gap_in}
use Rattle.entry_model.proofs.Newest.{newest_more}
use Rattle.mem_table.proofs.Setting.{set_shows, set_orders, put_shows, put_orders}
use Rattle.mem_table.proofs.table.MemTable.set.Goals as goal
use Rattle.mem_table.proofs.table.MemTable.set.Goals.{in-Some-1, in-None-1}

abbrev Found : List Entry → List (ArrayVec ℕ) → ℕ → ℕ → Entry → ℕ → Type 0
Found entries chunks chunk within entry place = Orders chunks (set entries place entry) × (in_order (set entries place entry) (flat chunks) ≡ with_entry (in_order entries (flat chunks)) entry)

-- over the places that are read, which are the table's
found : (entries seen : List Entry) (chunks places : List (ArrayVec ℕ)) (chunk within place : ℕ) (key : Bytes) (entry : Entry) → Orders chunks entries → seen ≡ entries → places ≡ chunks → key ≡ entry.key
    → IsPlace places chunk within → KeyStandsAt (flat_at places chunk within) key (in_order seen (flat places)) → place ≡ get_or (flat chunks) (flat_at chunks chunk within) 0 → Found entries chunks chunk within entry place
found entries seen chunks places chunk within place key entry orders same_entries same_chunks same_key is stands at =
    let here : IsPlace chunks chunk within = rw (← same_chunks) is in
    let there : KeyStandsAt (flat_at chunks chunk within) entry.key (in_order entries (flat chunks)) = rw (← same_entries, ← same_chunks, ← same_key) stands in
    let lt = place_in chunks chunk within here in
    (set_orders entries chunks orders (flat_at chunks chunk within) entry place there lt at, set_shows entries chunks orders (flat_at chunks chunk within) entry place there lt at)

pub invariant_of-self : goal.invariant_of-self
invariant_of-self c = (
  (found c.self.inside.entries.items c.deref.result.now c.self.inside.chunks.items c.deref-2.result.now c.in-Ok.spot.chunk c.in-Ok.spot.within c.place_at-place.result c.key.result.now c.args.entry
      c.self.invariant.0 c.deref.ensures.value c.deref-2.ensures.value c.key.ensures c.in-Ok.ensures.place c.in-Ok.ensures.found (rw (← c.deref-in-Ok.ensures.value) c.place_at-place.ensures)).0,
  c.self.invariant.1,
  c.self.invariant.2,
)

pub invariant_of-self-in-Ok-2 : goal.invariant_of-self-in-Ok-2
invariant_of-self-in-Ok-2 c = (
  (found c.self.inside.entries.items c.deref.result.now c.self.inside.chunks.items c.deref-2.result.now c.in-Ok.spot.chunk c.in-Ok.spot.within c.place_at-place.result c.key.result.now c.args.entry
      c.self.invariant.0 c.deref.ensures.value c.deref-2.ensures.value c.key.ensures c.in-Ok.ensures.place c.in-Ok.ensures.found (rw (← c.deref-in-Ok.ensures.value) c.place_at-place.ensures)).0,
  c.self.invariant.1,
  c.self.invariant.2,
)

pub returns-in-Ok-clause-set : goal.returns-in-Ok-clause-set
returns-in-Ok-clause-set c =
    let shows = (found c.self.inside.entries.items c.deref.result.now c.self.inside.chunks.items c.deref-2.result.now c.in-Ok.spot.chunk c.in-Ok.spot.within c.place_at-place.result c.key.result.now c.args.entry
    c.self.invariant.0 c.deref.ensures.value c.deref-2.ensures.value c.key.ensures c.in-Ok.ensures.place c.in-Ok.ensures.found (rw (← c.deref-in-Ok.ensures.value) c.place_at-place.ensures)).1 in
    let after = shows ∙ ap (λ (t : MemoryTable). with_entry t.entries c.args.entry) c.self.view_is in
    elim c.match-index_mut-entry.branch [
      | in-Some-1 w ↦ ap (λ (t : MemoryTable). t.entries) w.self-is ∙ after
      | in-None-1 w ↦ ap (λ (t : MemoryTable). t.entries) w.self-is ∙ after
    ]

pub returns-in-Ok-clause-newest : goal.returns-in-Ok-clause-newest
returns-in-Ok-clause-newest c older is = returns-in-Ok-clause-set c ∙ ap (λ (es : List Entry). with_entry es c.args.entry) is ∙ sym (newest_more older c.args.entry)

abbrev Put : List Entry → List (ArrayVec ℕ) → Entry → List (ArrayVec ℕ) → Type 0
Put entries chunks entry others = Orders others (entries ++ entry ∷ []) × (in_order (entries ++ entry ∷ []) (flat others) ≡ with_entry (in_order entries (flat chunks)) entry)

missing : (entries seen : List Entry) (chunks places others : List (ArrayVec ℕ)) (chunk within place : ℕ) (key : Bytes) (entry : Entry) → Orders chunks entries → seen ≡ entries → places ≡ chunks → key ≡ entry.key
    → IsGap places chunk within → BelongsAt (flat_at places chunk within) key (in_order seen (flat places)) → place ≡ length entries
    → flat others ≡ insert (flat chunks) (flat_at chunks chunk within) place → NoneEmpty others → Put entries chunks entry others
missing entries seen chunks places others chunk within place key entry orders same_entries same_chunks same_key is belongs last placed some =
    let here : IsGap chunks chunk within = rw (← same_chunks) is in
    let there : BelongsAt (flat_at chunks chunk within) entry.key (in_order entries (flat chunks)) = rw (← same_entries, ← same_chunks, ← same_key) belongs in
    let le = gap_in chunks chunk within here in
    let at : flat others ≡ insert (flat chunks) (flat_at chunks chunk within) (length entries) = placed ∙ ap (insert (flat chunks) (flat_at chunks chunk within)) last in
    (put_orders entries chunks orders (flat_at chunks chunk within) entry others there le at some, put_shows entries chunks orders (flat_at chunks chunk within) entry others there le at some)

pub invariant_of-self-in-Err : goal.invariant_of-self-in-Err
invariant_of-self-in-Err c =
    let put = missing c.self.inside.entries.items c.deref.result.now c.self.inside.chunks.items c.deref-2.result.now c.put.new.chunks.items c.in-Err.spot.chunk c.in-Err.spot.within c.len-place.result c.key.result.now c.args.entry
    c.self.invariant.0 c.deref.ensures.value c.deref-2.ensures.value c.key.ensures c.in-Err.ensures.gap c.in-Err.ensures.missing (search rules) c.put.ensures.placed (c.put.ensures.some c.self.invariant.0.some) in
    (subst (Orders c.put.new.chunks.items) (sym c.push_reserved.ensures.items) put.0, search rules, c.put.ensures.within)

pub returns-in-Err-clause-set : goal.returns-in-Err-clause-set
returns-in-Err-clause-set c =
    let put = missing c.self.inside.entries.items c.deref.result.now c.self.inside.chunks.items c.deref-2.result.now c.put.new.chunks.items c.in-Err.spot.chunk c.in-Err.spot.within c.len-place.result c.key.result.now c.args.entry
    c.self.invariant.0 c.deref.ensures.value c.deref-2.ensures.value c.key.ensures c.in-Err.ensures.gap c.in-Err.ensures.missing (search rules) c.put.ensures.placed (c.put.ensures.some c.self.invariant.0.some) in
    ap (λ (es : List Entry). in_order es (flat c.put.new.chunks.items)) c.push_reserved.ensures.items
    ∙ put.1
    ∙ ap (λ (t : MemoryTable). with_entry t.entries c.args.entry) c.self.view_is

pub returns-in-Err-clause-newest : goal.returns-in-Err-clause-newest
returns-in-Err-clause-newest c older is = returns-in-Err-clause-set c ∙ ap (λ (es : List Entry). with_entry es c.args.entry) is ∙ sym (newest_more older c.args.entry)
