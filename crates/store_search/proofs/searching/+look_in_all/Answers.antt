use Rattle.std.proofs.Common.{rules, ◌≡◌, ◌≤◌, ◌<◌, ◌+◌, ◌∙◌, ℕ, List, suc, take, length, sym, ap, subst, arith}
use Rattle.std.specs.Option.{option_or}
use Rattle.std.specs.Prelude.{IfSome, Option}
use Rattle.disk_trait.proofs.Calls.{reads_none}
use Rattle.state_model.specs.Bounds.{searched}
use Rattle.state_model.specs.WithoutRanges.{first_found}
use Rattle.store_search.specs.Caching.{BlockAgrees, CacheAgrees, cache_number, past_cache, reads_for, unkept}
use Rattle.store_search.specs.Searching.{IsReadIn, entries_by_table, said_in}
use Rattle.store_search.specs.TablesAgree.{TablesAgree}
use Rattle.store_search.specs.declared.searching.BlockRead.{BlockRead}
use Rattle.store_search.proofs.Caches.{same_then, true_same}
use Rattle.store_search.proofs.Founds.{said_first}
use Rattle.store_search.specs.Looking.{AreReadSound, looked_tables}
use Rattle.disk_trait.specs.Image.{Image}
use Rattle.store_search.proofs.Lookeds.{looked_first, looked_next, sound_first, sound_next}
use Rattle.store_search.proofs.Lookings.{by_first, found_said, named_first, named_next, no_entry, nothing_said, older_true, read_first, read_later, read_true, said_next, says_of_number, true_later, unkept_first, unkept_next, unkept_same, unread_both}
use Rattle.store_search.proofs.ReadBounds.{next_bound, searched_first}
use Rattle.store_search.proofs.ShownBlocks.{first_fault, older_fault}
use Rattle.table_file.specs.Faults.{IsNoDamage}
use Rattle.table_file.specs.Search.{block_for}
use Rattle.table_file.specs.Opened.{Opened}
use Rattle.store_search.proofs.searching.+look_in_all.Goals as goal

-- ---- a fault in the first table

pub returns-in_err-here-clause-bounded : goal.returns-in_err-here-clause-bounded
returns-in_err-here-clause-bounded g t c states tells held are =
    let old = g.D.Disk.world c.args.disk.now in
    let new = g.D.Disk.world c.look_in.new.disk in
    let key = c.args.key.now in
    let blocks = c.args.blocks.now in
    let first = c.in-Some.table.now in
    let more = c.in-Some.older.now in
    let num : c.number-number.result ≡ cache_number blocks.first (length more) = c.number-number.ensures in
    let reads = subst (λ (k : ℕ). new.seen.reads ≤ old.seen.reads + reads_for blocks.kept k (block_for first key)) num c.look_in.ensures.moves.reads in
    by_first g.F.RangeFilter.spelling first more old.seen.held (λ ts us. new.seen.reads ≤ old.seen.reads + unkept blocks key ts us)
    (λ one older h rest. let most = unkept_first blocks key first more one older in omega (arith, reads, most)) c.args.tables.now states c.in-Some.ensures.cases.0 held

pub returns-in_err-here-clause-only_if_read : goal.returns-in_err-here-clause-only_if_read
returns-in_err-here-clause-only_if_read g t c states tells held are =
    let most = searched_first c.standing_tables_are_read.ensures.keys g.F.RangeFilter.spelling c.in-Some.table.now c.in-Some.older.now _ c.args.key.now c.args.tables.now states c.in-Some.ensures.cases.0 held in
    let here : 1 ≤ searched c.args.key.now states = omega (arith, c.in_err-here.ensures.only_if_read, most) in
    search rules

pub returns-in_err-here-clause-undamaged : goal.returns-in_err-here-clause-undamaged
returns-in_err-here-clause-undamaged g t c states tells held =
    let here = by_first g.F.RangeFilter.spelling c.in-Some.table.now c.in-Some.older.now (g.D.Disk.world c.args.disk.now).seen.held (λ ts us. IsNoDamage c.in_err-here.field-0.0)
    (λ one older h rest. c.in_err-here.ensures.undamaged h.blocks tells h.stands) c.args.tables.now states c.in-Some.ensures.cases.0 held in
    search rules

pub returns-in_err-here-clause-shown : goal.returns-in_err-here-clause-shown
returns-in_err-here-clause-shown g t c tells =
    let here = first_fault c.in-Some.table.now c.in-Some.older.now c.args.tables.now c.args.key.now (g.D.Disk.world c.args.disk.now).seen.held c.in_err-here.field-0.0 c.in-Some.ensures.cases.0 (c.in_err-here.ensures.shown tells) in
    search rules

-- ---- the first table has the key

pub returns-then-is_some-clause-read : goal.returns-then-is_some-clause-read
returns-then-is_some-clause-read g t c =
    let blocks = c.args.blocks.now in
    let more = c.in-Some.older.now in
    let num : c.number-number.result ≡ cache_number blocks.first (length more) = c.number-number.ensures in
    subst (λ (ts : List Opened). IfSome c.in_ok-here.here.read (λ r. IsReadIn r c.look_in.new.buffer.items c.look_in.new.blocks (length ts))) (sym c.in-Some.ensures.cases.0)
    (read_first c.in_ok-here.here.read c.look_in.new.buffer.items c.look_in.new.blocks c.number-number.result (length more) (num ∙ ap (λ (n : ℕ). cache_number n (length more)) (sym c.look_in.ensures.same.first)) c.in_ok-here.ensures.read)

pub returns-then-is_some-clause-answer : goal.returns-then-is_some-clause-answer
returns-then-is_some-clause-answer g t c states tells held are =
    let spelling = g.F.RangeFilter.spelling in
    let image = (g.D.Disk.world c.args.disk.now).seen.held in
    let key = c.args.key.now in
    let blocks = c.args.blocks.now in
    let first = c.in-Some.table.now in
    let more = c.in-Some.older.now in
    let num : c.number-number.result ≡ cache_number blocks.first (length more) = c.number-number.ensures in
    let said = said_in c.in_ok-here.here.found c.look_in.new.buffer.items c.look_in.new.blocks.kept key in
    by_first spelling first more image (λ ts us. CacheAgrees blocks ts us → said ≡ first_found (entries_by_table us) key)
    (λ one older h rest ours. said_first spelling first one older image h key said
    (c.in_ok-here.ensures.answer h.blocks tells h.stands (says_of_number spelling first more one older image h blocks c.number-number.result num ours))
    (found_said c.in_ok-here.here.found c.look_in.new.buffer.items c.look_in.new.blocks.kept key (sym c.is_some.ensures ∙ c.if-is_some.true) c.in_ok-here.ensures.found))
    c.args.tables.now states c.in-Some.ensures.cases.0 held are

pub returns-then-is_some-clause-says : goal.returns-then-is_some-clause-says
returns-then-is_some-clause-says g t c states tells held =
    let spelling = g.F.RangeFilter.spelling in
    let image = (g.D.Disk.world c.args.disk.now).seen.held in
    let blocks = c.args.blocks.now in
    let first = c.in-Some.table.now in
    let more = c.in-Some.older.now in
    let num : c.number-number.result ≡ cache_number blocks.first (length more) = c.number-number.ensures in
    by_first spelling first more image
    (λ ts us. IfSome c.in_ok-here.here.read (λ r. r.number < past_cache → BlockAgrees blocks.first (r.number, r.block) (take r.size c.look_in.new.buffer.items) ts us))
    (λ one older h rest. read_true spelling first more one older image h blocks c.number-number.result num c.in_ok-here.here.read c.look_in.new.buffer.items c.look_in.new.blocks c.in_ok-here.ensures.read
    (c.in_ok-here.ensures.says h.blocks tells h.stands))
    c.args.tables.now states c.in-Some.ensures.cases.0 held

pub returns-then-is_some-clause-bounded : goal.returns-then-is_some-clause-bounded
returns-then-is_some-clause-bounded g t c states tells held are =
    let old = g.D.Disk.world c.args.disk.now in
    let new = g.D.Disk.world c.look_in.new.disk in
    let key = c.args.key.now in
    let blocks = c.args.blocks.now in
    let first = c.in-Some.table.now in
    let more = c.in-Some.older.now in
    let num : c.number-number.result ≡ cache_number blocks.first (length more) = c.number-number.ensures in
    let reads = subst (λ (k : ℕ). new.seen.reads ≤ old.seen.reads + reads_for blocks.kept k (block_for first key)) num c.look_in.ensures.moves.reads in
    by_first g.F.RangeFilter.spelling first more old.seen.held (λ ts us. new.seen.reads ≤ old.seen.reads + unkept blocks key ts us)
    (λ one older h rest. let most = unkept_first blocks key first more one older in omega (arith, reads, most)) c.args.tables.now states c.in-Some.ensures.cases.0 held

-- ---- the older tables

pub returns-in_err-later-clause-same : goal.returns-in_err-later-clause-same
returns-in_err-later-clause-same g t c = same_then c.args.blocks.now c.look_in.new.blocks c.look_in_all.new.blocks c.look_in.ensures.same c.look_in_all.ensures.same

pub returns-clause-same : goal.returns-clause-same
returns-clause-same g t c = same_then c.args.blocks.now c.look_in.new.blocks c.look_in_all.new.blocks c.look_in.ensures.same c.look_in_all.ensures.same

pub returns-clause-read : goal.returns-clause-read
returns-clause-read g t c =
    let blocks = c.args.blocks.now in
    let more = c.in-Some.older.now in
    let num : c.number-number.result ≡ cache_number blocks.first (length more) = c.number-number.ensures in
    subst (λ (ts : List Opened). IfSome c.or.result (λ r. IsReadIn r c.look_in_all.new.buffer.items c.look_in_all.new.blocks (length ts))) (sym c.in-Some.ensures.cases.0)
    (subst (λ (o : Option BlockRead). IfSome o (λ r. IsReadIn r c.look_in_all.new.buffer.items c.look_in_all.new.blocks (suc (length more)))) (sym c.or.ensures)
    (read_later blocks c.look_in.new.blocks c.look_in_all.new.blocks c.look_in.ensures.same c.look_in_all.ensures.same c.number-number.result (length more) num c.look_in.new.buffer.items c.look_in_all.new.buffer.items
    c.in_ok-later.later.read c.in_ok-here.here.read c.in_ok-later.ensures.read c.in_ok-later.ensures.unread c.in_ok-here.ensures.read))

pub returns-clause-unread : goal.returns-clause-unread
returns-clause-unread g t c none =
    unread_both c.args.blocks.now c.look_in.new.blocks c.look_in_all.new.blocks c.look_in.ensures.same c.look_in_all.ensures.same c.number-number.result (length c.in-Some.older.now) c.number-number.ensures c.look_in.new.buffer.items c.look_in_all.new.buffer.items
    c.in_ok-later.later.read c.in_ok-here.here.read c.args.buffer.now.items c.in_ok-later.ensures.unread c.in_ok-here.ensures.unread (sym c.or.ensures ∙ none)

pub returns-clause-answer : goal.returns-clause-answer
returns-clause-answer g t c states tells held are =
    let spelling = g.F.RangeFilter.spelling in
    let image = (g.D.Disk.world c.args.disk.now).seen.held in
    let key = c.args.key.now in
    let blocks = c.args.blocks.now in
    let first = c.in-Some.table.now in
    let more = c.in-Some.older.now in
    let num : c.number-number.result ≡ cache_number blocks.first (length more) = c.number-number.ensures in
    let said = said_in c.in_ok-later.later.found c.look_in_all.new.buffer.items c.look_in_all.new.blocks.kept key in
    let nothing = nothing_said c.in_ok-here.here.found c.look_in.new.buffer.items c.look_in.new.blocks.kept key (sym c.is_some.ensures ∙ c.if-is_some.false) in
    by_first spelling first more image (λ ts us. CacheAgrees blocks ts us → said ≡ first_found (entries_by_table us) key)
    (λ one older h rest ours.
    let says = c.in_ok-here.ensures.answer h.blocks tells h.stands (says_of_number spelling first more one older image h blocks c.number-number.result num ours) in
    said_next spelling first one image h key (sym nothing ∙ says) older said
    (c.in_ok-later.ensures.answer older tells (subst (TablesAgree spelling more older) (sym c.look_in.ensures.moves.held) rest)
    (true_same blocks c.look_in.new.blocks more older c.look_in.ensures.same (older_true blocks first more one older ours))))
    c.args.tables.now states c.in-Some.ensures.cases.0 held are

pub returns-clause-says : goal.returns-clause-says
returns-clause-says g t c states tells held =
    let spelling = g.F.RangeFilter.spelling in
    let image = (g.D.Disk.world c.args.disk.now).seen.held in
    let blocks = c.args.blocks.now in
    let first = c.in-Some.table.now in
    let more = c.in-Some.older.now in
    let num : c.number-number.result ≡ cache_number blocks.first (length more) = c.number-number.ensures in
    subst (λ (o : Option BlockRead). IfSome o (λ r. r.number < past_cache → BlockAgrees blocks.first (r.number, r.block) (take r.size c.look_in_all.new.buffer.items) c.args.tables.now states)) (sym c.or.ensures)
    (by_first spelling first more image
    (λ ts us. IfSome (option_or c.in_ok-later.later.read c.in_ok-here.here.read) (λ r. r.number < past_cache → BlockAgrees blocks.first (r.number, r.block) (take r.size c.look_in_all.new.buffer.items) ts us))
    (λ one older h rest. true_later blocks first more one older c.look_in.new.buffer.items c.look_in_all.new.buffer.items c.look_in.new.blocks c.look_in_all.new.blocks c.in_ok-later.later.read c.in_ok-here.here.read
    c.look_in.ensures.same c.look_in_all.ensures.same c.in_ok-later.ensures.read
    (c.in_ok-later.ensures.says older tells (subst (TablesAgree spelling more older) (sym c.look_in.ensures.moves.held) rest))
    c.in_ok-later.ensures.unread
    (read_true spelling first more one older image h blocks c.number-number.result num c.in_ok-here.here.read c.look_in.new.buffer.items c.look_in.new.blocks c.in_ok-here.ensures.read
    (c.in_ok-here.ensures.says h.blocks tells h.stands)))
    c.args.tables.now states c.in-Some.ensures.cases.0 held)

pub returns-in_err-later-clause-bounded : goal.returns-in_err-later-clause-bounded
returns-in_err-later-clause-bounded g t c states tells held are =
    let spelling = g.F.RangeFilter.spelling in
    let old = g.D.Disk.world c.args.disk.now in
    let mid = g.D.Disk.world c.look_in.new.disk in
    let new = g.D.Disk.world c.look_in_all.new.disk in
    let key = c.args.key.now in
    let blocks = c.args.blocks.now in
    let first = c.in-Some.table.now in
    let more = c.in-Some.older.now in
    let num : c.number-number.result ≡ cache_number blocks.first (length more) = c.number-number.ensures in
    let reads = subst (λ (k : ℕ). mid.seen.reads ≤ old.seen.reads + reads_for blocks.kept k (block_for first key)) num c.look_in.ensures.moves.reads in
    let nothing = nothing_said c.in_ok-here.here.found c.look_in.new.buffer.items c.look_in.new.blocks.kept key (sym c.is_some.ensures ∙ c.if-is_some.false) in
    by_first spelling first more old.seen.held (λ ts us. CacheAgrees blocks ts us → new.seen.reads ≤ old.seen.reads + unkept blocks key ts us)
    (λ one older h rest ours.
    let says = c.in_ok-here.ensures.answer h.blocks tells h.stands (says_of_number spelling first more one older old.seen.held h blocks c.number-number.result num ours) in
    let none = no_entry spelling first one old.seen.held h key (sym nothing ∙ says) in
    let later = c.look_in_all.ensures.bounded older tells (subst (TablesAgree spelling more older) (sym c.look_in.ensures.moves.held) rest)
    (true_same blocks c.look_in.new.blocks more older c.look_in.ensures.same (older_true blocks first more one older ours)) in
    omega (arith, reads, later, unkept_same blocks c.look_in.new.blocks key more older c.look_in.ensures.same, unkept_next blocks key first more one older none))
    c.args.tables.now states c.in-Some.ensures.cases.0 held are

pub returns-clause-bounded : goal.returns-clause-bounded
returns-clause-bounded g t c states tells held are =
    let spelling = g.F.RangeFilter.spelling in
    let old = g.D.Disk.world c.args.disk.now in
    let mid = g.D.Disk.world c.look_in.new.disk in
    let new = g.D.Disk.world c.look_in_all.new.disk in
    let key = c.args.key.now in
    let blocks = c.args.blocks.now in
    let first = c.in-Some.table.now in
    let more = c.in-Some.older.now in
    let num : c.number-number.result ≡ cache_number blocks.first (length more) = c.number-number.ensures in
    let reads = subst (λ (k : ℕ). mid.seen.reads ≤ old.seen.reads + reads_for blocks.kept k (block_for first key)) num c.look_in.ensures.moves.reads in
    let nothing = nothing_said c.in_ok-here.here.found c.look_in.new.buffer.items c.look_in.new.blocks.kept key (sym c.is_some.ensures ∙ c.if-is_some.false) in
    by_first spelling first more old.seen.held (λ ts us. CacheAgrees blocks ts us → new.seen.reads ≤ old.seen.reads + unkept blocks key ts us)
    (λ one older h rest ours.
    let says = c.in_ok-here.ensures.answer h.blocks tells h.stands (says_of_number spelling first more one older old.seen.held h blocks c.number-number.result num ours) in
    let none = no_entry spelling first one old.seen.held h key (sym nothing ∙ says) in
    let later = c.look_in_all.ensures.bounded older tells (subst (TablesAgree spelling more older) (sym c.look_in.ensures.moves.held) rest)
    (true_same blocks c.look_in.new.blocks more older c.look_in.ensures.same (older_true blocks first more one older ours)) in
    omega (arith, reads, later, unkept_same blocks c.look_in.new.blocks key more older c.look_in.ensures.same, unkept_next blocks key first more one older none))
    c.args.tables.now states c.in-Some.ensures.cases.0 held are

pub returns-in_err-later-clause-only_if_read : goal.returns-in_err-later-clause-only_if_read
returns-in_err-later-clause-only_if_read g t c states tells held are =
    let spelling = g.F.RangeFilter.spelling in
    let old = g.D.Disk.world c.args.disk.now in
    let key = c.args.key.now in
    let blocks = c.args.blocks.now in
    let first = c.in-Some.table.now in
    let more = c.in-Some.older.now in
    let num : c.number-number.result ≡ cache_number blocks.first (length more) = c.number-number.ensures in
    let nothing = nothing_said c.in_ok-here.here.found c.look_in.new.buffer.items c.look_in.new.blocks.kept key (sym c.is_some.ensures ∙ c.if-is_some.false) in
    let here : 1 ≤ searched key states =
    by_first spelling first more old.seen.held (λ ts us. CacheAgrees blocks ts us → 1 ≤ searched key us)
    (λ one older h rest ours.
    let says = c.in_ok-here.ensures.answer h.blocks tells h.stands (says_of_number spelling first more one older old.seen.held h blocks c.number-number.result num ours) in
    let none = no_entry spelling first one old.seen.held h key (sym nothing ∙ says) in
    let later = c.in_err-later.ensures.only_if_read older tells (subst (TablesAgree spelling more older) (sym c.look_in.ensures.moves.held) rest)
    (true_same blocks c.look_in.new.blocks more older c.look_in.ensures.same (older_true blocks first more one older ours)) in
    omega (arith, later, next_bound c.standing_tables_are_read.ensures.keys spelling first one old.seen.held h key older none))
    c.args.tables.now states c.in-Some.ensures.cases.0 held are in
    search rules

pub returns-in_err-later-clause-shown : goal.returns-in_err-later-clause-shown
returns-in_err-later-clause-shown g t c tells =
    let here = older_fault c.in-Some.table.now c.in-Some.older.now c.args.tables.now c.args.key.now (g.D.Disk.world c.args.disk.now).seen.held (g.D.Disk.world c.look_in.new.disk).seen.held c.in_err-later.field-0.0 c.in-Some.ensures.cases.0 c.look_in.ensures.moves.held (c.in_err-later.ensures.shown tells) in
    search rules

-- ---- what is read, whatever the device is

pub returns-in_default-clause-moves : goal.returns-in_default-clause-moves
returns-in_default-clause-moves g t c = reads_none _ _

pub returns-in_err-here-clause-moves : goal.returns-in_err-here-clause-moves
returns-in_err-here-clause-moves g t c =
    named_first c.args.blocks.now c.args.key.now c.in-Some.table.now c.in-Some.older.now c.args.tables.now c.in-Some.ensures.cases.0 c.number-number.result c.number-number.ensures _ _ c.look_in.ensures.moves

pub returns-then-is_some-clause-moves : goal.returns-then-is_some-clause-moves
returns-then-is_some-clause-moves g t c =
    named_first c.args.blocks.now c.args.key.now c.in-Some.table.now c.in-Some.older.now c.args.tables.now c.in-Some.ensures.cases.0 c.number-number.result c.number-number.ensures _ _ c.look_in.ensures.moves

pub returns-in_err-later-clause-moves : goal.returns-in_err-later-clause-moves
returns-in_err-later-clause-moves g t c =
    named_next c.args.blocks.now c.args.key.now c.in-Some.table.now c.in-Some.older.now c.args.tables.now c.in-Some.ensures.cases.0 c.number-number.result c.number-number.ensures _ _ c.look_in.ensures.moves
    c.look_in.new.blocks c.look_in.ensures.same _ c.look_in_all.ensures.moves

pub returns-clause-moves : goal.returns-clause-moves
returns-clause-moves g t c =
    named_next c.args.blocks.now c.args.key.now c.in-Some.table.now c.in-Some.older.now c.args.tables.now c.in-Some.ensures.cases.0 c.number-number.result c.number-number.ensures _ _ c.look_in.ensures.moves
    c.look_in.new.blocks c.look_in.ensures.same _ c.look_in_all.ensures.moves

-- ---- what is said by the blocks themselves

pub returns-then-is_some-clause-looked : goal.returns-then-is_some-clause-looked
returns-then-is_some-clause-looked g t c tells =
    let blocks = c.args.blocks.now in
    let first = c.in-Some.table.now in
    let more = c.in-Some.older.now in
    let key = c.args.key.now in
    let image = (g.D.Disk.world c.args.disk.now).seen.held in
    let said = said_in c.in_ok-here.here.found c.look_in.new.buffer.items c.look_in.new.blocks.kept key in
    looked_first blocks key image first more c.args.tables.now c.in-Some.ensures.cases.0 c.number-number.result c.number-number.ensures said
    (found_said c.in_ok-here.here.found c.look_in.new.buffer.items c.look_in.new.blocks.kept key (sym c.is_some.ensures ∙ c.if-is_some.true) c.in_ok-here.ensures.found)
    (c.in_ok-here.ensures.looked tells)

pub returns-then-is_some-clause-sound : goal.returns-then-is_some-clause-sound
returns-then-is_some-clause-sound g t c tells =
    let blocks = c.args.blocks.now in
    let first = c.in-Some.table.now in
    let more = c.in-Some.older.now in
    let key = c.args.key.now in
    let image = (g.D.Disk.world c.args.disk.now).seen.held in
    let said = said_in c.in_ok-here.here.found c.look_in.new.buffer.items c.look_in.new.blocks.kept key in
    sound_first blocks key image first more c.args.tables.now c.in-Some.ensures.cases.0 c.number-number.result c.number-number.ensures said
    (found_said c.in_ok-here.here.found c.look_in.new.buffer.items c.look_in.new.blocks.kept key (sym c.is_some.ensures ∙ c.if-is_some.true) c.in_ok-here.ensures.found)
    (c.in_ok-here.ensures.looked tells) (c.in_ok-here.ensures.sound tells)

pub returns-clause-looked : goal.returns-clause-looked
returns-clause-looked g t c tells =
    let blocks = c.args.blocks.now in
    let first = c.in-Some.table.now in
    let more = c.in-Some.older.now in
    let key = c.args.key.now in
    let image = (g.D.Disk.world c.args.disk.now).seen.held in
    let nothing = nothing_said c.in_ok-here.here.found c.look_in.new.buffer.items c.look_in.new.blocks.kept key (sym c.is_some.ensures ∙ c.if-is_some.false) in
    let said = said_in c.in_ok-later.later.found c.look_in_all.new.buffer.items c.look_in_all.new.blocks.kept key in
    looked_next blocks key image first more c.args.tables.now c.in-Some.ensures.cases.0 c.number-number.result c.number-number.ensures c.look_in.new.blocks c.look_in.ensures.same said
    (sym nothing ∙ c.in_ok-here.ensures.looked tells)
    (subst (λ (h : Image). said ≡ looked_tables c.look_in.new.blocks more key h) c.look_in.ensures.moves.held (c.in_ok-later.ensures.looked tells))

pub returns-clause-sound : goal.returns-clause-sound
returns-clause-sound g t c tells =
    let blocks = c.args.blocks.now in
    let first = c.in-Some.table.now in
    let more = c.in-Some.older.now in
    let key = c.args.key.now in
    let image = (g.D.Disk.world c.args.disk.now).seen.held in
    sound_next blocks key image first more c.args.tables.now c.in-Some.ensures.cases.0 c.number-number.result c.number-number.ensures c.look_in.new.blocks c.look_in.ensures.same
    (c.in_ok-here.ensures.sound tells) (subst (λ (h : Image). AreReadSound c.look_in.new.blocks more key h) c.look_in.ensures.moves.held (c.in_ok-later.ensures.sound tells))
