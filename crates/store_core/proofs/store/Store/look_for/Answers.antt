use Rattle.std.proofs.Common.{rules, List, length, refl, sym, ◌∙◌, ap, subst}
use Rattle.store_search.specs.Caching.{AreNumbered, CacheAgrees, Cached, LeavesKept}
use Rattle.store_search.specs.Looking.{AreReadSound, looked_tables}
use Rattle.store_core.specs.StoreValue.{StoreValue}
use Rattle.store_core.specs.Represents.{Represents}
use Rattle.table_file.specs.Opened.{Opened}
use Rattle.table_model.specs.Tables.{filter_bytes_of}
use Rattle.std.specs.Prelude.{is_some}
use Rattle.entry_model.specs.Newest.{lookup}
use Rattle.store_core.proofs.Lookeds.{memory_looked, place_looked, tables_looked}
use Rattle.store_core.proofs.ScanCauses.{some_mapped}
use Rattle.store_core.proofs.Asked.{asked_still, found_view, gets_found, gets_refused, held_of, no_memory, tied_asked, true_of, unsaid, whole_asked}
use Rattle.store_core.proofs.store.Store.look_for.Goals as goal
use Rattle.store_core.proofs.Recorded.{shown_only}

pub invariant_of-self : goal.invariant_of-self
invariant_of-self g c =
    let tables = c.as_slice-tables.ensures in
    let before = subst (λ (ts : List Opened). AreNumbered c.self.inside.blocks (length ts)) (sym tables) c.self.invariant.0.numbered in (
      whole_asked _ _ _ (subst (λ (ts : List Opened). AreNumbered c.look_and_keep.new.blocks (length ts)) tables (c.look_and_keep.ensures.numbered before)) c.self.invariant.0,
      search rules,
      c.self.invariant.2,
    )

pub invariant_of-self-2 : goal.invariant_of-self-2
invariant_of-self-2 g c =
    let tables = c.as_slice-tables.ensures in
    let before = subst (λ (ts : List Opened). AreNumbered c.self.inside.blocks (length ts)) (sym tables) c.self.invariant.0.numbered in (
      whole_asked _ _ _ (subst (λ (ts : List Opened). AreNumbered c.look_and_keep.new.blocks (length ts)) tables (c.look_and_keep.ensures.numbered before)) c.self.invariant.0,
      search rules,
      c.self.invariant.2,
    )

pub returns-then-self-clause-asked : goal.returns-then-self-clause-asked
returns-then-self-clause-asked g c = asked_still g.F.RangeFilter.spelling (filter_bytes_of g.F.RangeFilter.spelling g.F.RangeFilter.built_cutoff) g.D.Disk.tells c.args.self.now (g.D.Disk.world c.args.disk.now)

pub returns-in_err-check_key-clause-asked : goal.returns-in_err-check_key-clause-asked
returns-in_err-check_key-clause-asked g c = asked_still g.F.RangeFilter.spelling (filter_bytes_of g.F.RangeFilter.spelling g.F.RangeFilter.built_cutoff) g.D.Disk.tells c.args.self.now (g.D.Disk.world c.args.disk.now)

pub returns-then-is_some-clause-asked : goal.returns-then-is_some-clause-asked
returns-then-is_some-clause-asked g c = asked_still g.F.RangeFilter.spelling (filter_bytes_of g.F.RangeFilter.spelling g.F.RangeFilter.built_cutoff) g.D.Disk.tells c.args.self.now (g.D.Disk.world c.args.disk.now)

pub returns-in_err-found-clause-asked : goal.returns-in_err-found-clause-asked
returns-in_err-found-clause-asked g c =
    let spelling = g.F.RangeFilter.spelling in
    let bytes = filter_bytes_of g.F.RangeFilter.spelling g.F.RangeFilter.built_cutoff in
    let w = g.D.Disk.world c.args.disk.now in
    let later = g.D.Disk.world c.look_and_keep.new.disk in
    let key = c.args.key.now in
    let opened = c.as_slice-tables.result.now in
    let tables = c.as_slice-tables.ensures ∙ ap (λ (k : StoreValue). k.tables) c.self.view_is in
    let blocks = ap (λ (k : StoreValue). k.blocks) c.self.view_is in
    let current = g.met.D.Disk.current c.args.disk.now in
    record {
      same = search rules;
      kept = subst (λ (b : Cached). LeavesKept b c.look_and_keep.new.blocks) blocks c.look_and_keep.ensures.kept;
      tied = λ s tells tied.
          let ours = subst (λ (k : StoreValue). Represents spelling bytes k s w) (sym c.self.view_is) tied in
          let held = held_of spelling bytes g.D.Disk.tells c.args.self.now key opened c.self.inside.blocks w later tables blocks current s tells tied in
          let are = true_of spelling bytes g.D.Disk.tells c.args.self.now key opened c.self.inside.blocks w later tables blocks current s tied in
          tied_asked spelling bytes _ _ s _ w later refl c.look_and_keep.ensures.moves
          (subst (λ (ts : List Opened). CacheAgrees c.look_and_keep.new.blocks ts s.tables) c.as_slice-tables.ensures (c.look_and_keep.ensures.keeps s.tables tells held are)) ours;
    }

pub returns-in_err-found-clause-gets : goal.returns-in_err-found-clause-gets
returns-in_err-found-clause-gets g c =
    let spelling = g.F.RangeFilter.spelling in
    let bytes = filter_bytes_of g.F.RangeFilter.spelling g.F.RangeFilter.built_cutoff in
    let w = g.D.Disk.world c.args.disk.now in
    let later = g.D.Disk.world c.look_and_keep.new.disk in
    let key = c.args.key.now in
    let opened = c.as_slice-tables.result.now in
    let tables = c.as_slice-tables.ensures ∙ ap (λ (k : StoreValue). k.tables) c.self.view_is in
    let blocks = ap (λ (k : StoreValue). k.blocks) c.self.view_is in
    let current = g.met.D.Disk.current c.args.disk.now in
    gets_refused spelling bytes g.D.Disk.tells c.args.self.now key opened c.self.inside.blocks w later tables blocks current (search rules) (search rules)
    (λ s same. no_memory _ c.get.result c.is_some.result c.self.inside.memory.entries s key c.get.ensures c.is_some.ensures c.if-is_some.false (ap (λ (k : StoreValue). k.memory.entries) c.self.view_is ∙ same))
    c.look_and_keep.ensures.moves c.look_and_keep.ensures.within c.look_and_keep.ensures.bounded c.from_residual-in_err-found.result c.in_err-found.field-0.0 c.from_residual-in_err-found.ensures.1
    c.in_err-found.ensures.undamaged c.in_err-found.ensures.shown c.in_err-found.ensures.only_if_read c.in_err-found.ensures.cause

pub returns-clause-asked : goal.returns-clause-asked
returns-clause-asked g c =
    let spelling = g.F.RangeFilter.spelling in
    let bytes = filter_bytes_of g.F.RangeFilter.spelling g.F.RangeFilter.built_cutoff in
    let w = g.D.Disk.world c.args.disk.now in
    let later = g.D.Disk.world c.look_and_keep.new.disk in
    let key = c.args.key.now in
    let opened = c.as_slice-tables.result.now in
    let tables = c.as_slice-tables.ensures ∙ ap (λ (k : StoreValue). k.tables) c.self.view_is in
    let blocks = ap (λ (k : StoreValue). k.blocks) c.self.view_is in
    let current = g.met.D.Disk.current c.args.disk.now in
    record {
      same = search rules;
      kept = subst (λ (b : Cached). LeavesKept b c.look_and_keep.new.blocks) blocks c.look_and_keep.ensures.kept;
      tied = λ s tells tied.
          let ours = subst (λ (k : StoreValue). Represents spelling bytes k s w) (sym c.self.view_is) tied in
          let held = held_of spelling bytes g.D.Disk.tells c.args.self.now key opened c.self.inside.blocks w later tables blocks current s tells tied in
          let are = true_of spelling bytes g.D.Disk.tells c.args.self.now key opened c.self.inside.blocks w later tables blocks current s tied in
          tied_asked spelling bytes _ _ s _ w later refl c.look_and_keep.ensures.moves
          (subst (λ (ts : List Opened). CacheAgrees c.look_and_keep.new.blocks ts s.tables) c.as_slice-tables.ensures (c.look_and_keep.ensures.keeps s.tables tells held are)) ours;
    }

pub returns-clause-gets : goal.returns-clause-gets
returns-clause-gets g c =
    let spelling = g.F.RangeFilter.spelling in
    let bytes = filter_bytes_of g.F.RangeFilter.spelling g.F.RangeFilter.built_cutoff in
    let w = g.D.Disk.world c.args.disk.now in
    let later = g.D.Disk.world c.look_and_keep.new.disk in
    let key = c.args.key.now in
    let opened = c.as_slice-tables.result.now in
    let tables = c.as_slice-tables.ensures ∙ ap (λ (k : StoreValue). k.tables) c.self.view_is in
    let blocks = ap (λ (k : StoreValue). k.blocks) c.self.view_is in
    let current = g.met.D.Disk.current c.args.disk.now in
    gets_found spelling bytes g.D.Disk.tells c.args.self.now key opened c.self.inside.blocks w later tables blocks current (search rules) (search rules)
    (λ s same. no_memory _ c.get.result c.is_some.result c.self.inside.memory.entries s key c.get.ensures c.is_some.ensures c.if-is_some.false (ap (λ (k : StoreValue). k.memory.entries) c.self.view_is ∙ same))
    c.look_and_keep.ensures.moves c.look_and_keep.ensures.within c.look_and_keep.ensures.bounded c.place_of.result

pub returns-clause-answer : goal.returns-clause-answer
returns-clause-answer g c s tells tied =
    let spelling = g.F.RangeFilter.spelling in
    let bytes = filter_bytes_of g.F.RangeFilter.spelling g.F.RangeFilter.built_cutoff in
    let w = g.D.Disk.world c.args.disk.now in
    let later = g.D.Disk.world c.look_and_keep.new.disk in
    let key = c.args.key.now in
    let opened = c.as_slice-tables.result.now in
    let tables = c.as_slice-tables.ensures ∙ ap (λ (k : StoreValue). k.tables) c.self.view_is in
    let blocks = ap (λ (k : StoreValue). k.blocks) c.self.view_is in
    let current = g.met.D.Disk.current c.args.disk.now in
    let held = held_of spelling bytes g.D.Disk.tells c.args.self.now key opened c.self.inside.blocks w later tables blocks current s tells tied in
    let are = true_of spelling bytes g.D.Disk.tells c.args.self.now key opened c.self.inside.blocks w later tables blocks current s tied in
    let none = no_memory _ c.get.result c.is_some.result c.self.inside.memory.entries s key c.get.ensures c.is_some.ensures c.if-is_some.false (ap (λ (k : StoreValue). k.memory.entries) c.self.view_is ∙ tied.memory) in
    found_view c.place_of.result _ s key c.in_ok-found.found c.look_and_keep.new.buffer.items c.look_and_keep.new.blocks.kept c.place_of.ensures.said
    refl refl none
    (c.in_ok-found.ensures.answer s.tables tells held are) (shown_only spelling c.args.self.now.manifest c.args.self.now.tables c.args.self.now.job s w.seen.held (tied.images w.seen.held (current tells)))

-- ---- no block is read

pub returns-in_err-found-clause-limited : goal.returns-in_err-found-clause-limited
returns-in_err-found-clause-limited g c broken = absurd (broken c.in_ok-check_key.ensures)

pub returns-in_err-found-clause-in_memory : goal.returns-in_err-found-clause-in_memory
returns-in_err-found-clause-in_memory g c there = absurd (there
    (unsaid _ c.get.result c.is_some.result c.self.inside.memory.entries c.args.self.now c.args.key.now c.get.ensures c.is_some.ensures c.if-is_some.false (ap (λ (k : StoreValue). k.memory.entries) c.self.view_is)))

pub returns-clause-limited : goal.returns-clause-limited
returns-clause-limited g c broken = absurd (broken c.in_ok-check_key.ensures)

pub returns-clause-in_memory : goal.returns-clause-in_memory
returns-clause-in_memory g c there = absurd (there
    (unsaid _ c.get.result c.is_some.result c.self.inside.memory.entries c.args.self.now c.args.key.now c.get.ensures c.is_some.ensures c.if-is_some.false (ap (λ (k : StoreValue). k.memory.entries) c.self.view_is)))

-- ---- what is said by the blocks themselves

pub returns-then-is_some-clause-looked : goal.returns-then-is_some-clause-looked
returns-then-is_some-clause-looked g c tells =
    let said = c.get.ensures ∙ ap (λ (k : StoreValue). lookup k.memory.entries c.args.key.now) c.self.view_is in
    memory_looked c.args.self.now c.args.key.now (g.D.Disk.world c.args.disk.now).seen.held _ refl
    (ap is_some (sym said) ∙ some_mapped _ c.get.result ∙ sym c.is_some.ensures ∙ c.if-is_some.true)

pub returns-clause-looked : goal.returns-clause-looked
returns-clause-looked g c tells =
    let key = c.args.key.now in
    let image = (g.D.Disk.world c.args.disk.now).seen.held in
    let opened = c.as_slice-tables.result.now in
    let tables = c.as_slice-tables.ensures ∙ ap (λ (k : StoreValue). k.tables) c.self.view_is in
    let blocks = ap (λ (k : StoreValue). k.blocks) c.self.view_is in
    let none = unsaid _ c.get.result c.is_some.result c.self.inside.memory.entries c.args.self.now key c.get.ensures c.is_some.ensures c.if-is_some.false (ap (λ (k : StoreValue). k.memory.entries) c.self.view_is) in
    tables_looked c.args.self.now key image _ none
    (place_looked c.place_of.result _ key c.in_ok-found.found c.look_and_keep.new.buffer.items c.look_and_keep.new.blocks.kept c.place_of.ensures.said refl refl _
    (c.in_ok-found.ensures.looked tells ∙ ap (λ (b : Cached). looked_tables b opened key image) blocks ∙ ap (λ (ts : List Opened). looked_tables c.args.self.now.blocks ts key image) tables))
    (subst (λ (ts : List Opened). AreReadSound c.args.self.now.blocks ts key image) tables (subst (λ (b : Cached). AreReadSound b opened key image) blocks (c.in_ok-found.ensures.sound tells)))
