use Rattle.std.proofs.Common.{◌≡◌, ◌∙◌, ◌<◌, ◌-◌, ℕ, Bool, List, inl, true, false, [], length, refl, sym, ap, subst}
use Rattle.level_merge.specs.JobValue.{JobValue, is_full}
use Rattle.level_merge.specs.Outputs.{last_row}
use Rattle.level_merge.specs.SliceSteps.{IsStop, LooksOn, SaysWhatIsLeft, StopsAtEnd}
use Rattle.level_merge.specs.declared.fault.Sliced.{Sliced}
use Rattle.level_merge.specs.declared.fault.Sliced.TheVariants as sliced
use Rattle.level_merge.specs.declared.taking.Stop.{Stop}
use Rattle.level_merge.proofs.OutputLists.{full_has}
use Rattle.level_merge.proofs.SliceMoves.{closed_moves}
use Rattle.level_merge.proofs.SliceSteps.{all_read, close_refused, ends, last_output, looked_on, makes_one, next_output, no_length, none_of_length, nothing_next, one_more, ready_with_none, some_length, take_refused, waits}
use Rattle.level_merge.proofs.SliceProofs.{closed_last, closed_none, closed_then, closed_without_memory, had_nothing, took_no_row, waited}
use Rattle.disk_trait.specs.Image.{Image}
use Rattle.merge_rows.specs.Merges.{Merge, rows_left}
use Rattle.merge_rows.specs.Reads.{AreAtEnd}
use Rattle.merge_rows.specs.Steps.{AreWalksIn, numbers, stands}
use Rattle.table_file.specs.Opened.{Opened}
use Rattle.state_model.specs.Merges.{lasting, outputs_of}
use Rattle.table_model.specs.Tables.{filter_bytes_of}
use Rattle.level_merge.proofs.job.Job.go_on.Goals as goal

-- the output that is built has an entry where it is full
pub close-requires : goal.close-requires
close-requires g c =
    let old = c.args.self.now in
    let mid = c.take_rows.new.self in
    let full = subst (λ (s : Stop). IsStop g.D.Disk.tells c.args.blocks c.args.tables.now.tables (g.D.Disk.world c.args.disk.now).seen.held old.beside old.merge mid.merge mid.built s)
    c.in-Ok-Full.field-0-is c.in-Ok-Full.ensures.stop in
    record { some = full_has old.beside mid.built full }

-- ---- as many blocks were read as may be

pub returns-in-Ok-Blocks : goal.returns-in-Ok-Blocks
returns-in-Ok-Blocks g c =
    let tells = g.D.Disk.tells in
    let spelling = g.F.RangeFilter.spelling in
    let cutoff = g.F.RangeFilter.built_cutoff in
    let opened = c.args.tables.now.tables in
    let old = c.args.self.now in
    let mid = c.take_rows.new.self in
    let free = c.args.extents.now in
    let before = g.D.Disk.world c.args.disk.now in
    let here = g.D.Disk.world c.take_rows.new.disk in
    let standing = c.standing_tables_are_read.ensures.blocks in
    let reads = c.take_rows.ensures.moves in
    let takes = c.in-Ok-Blocks.ensures.taken in
    let why = subst (λ (s : Stop). IsStop tells c.args.blocks opened before.seen.held old.beside old.merge mid.merge mid.built s) c.in-Ok-Blocks.field-0-is c.in-Ok-Blocks.ensures.stop in
    waited spelling cutoff tells c.args.blocks opened old mid free before here c.take_rows.ensures.rest reads c.take_rows.ensures.level c.take_rows.ensures.numbers c.take_rows.ensures.stands c.take_rows.ensures.twice c.take_rows.ensures.bounded c.take_rows.ensures.passes
    takes.fewer (why.0 c.requires.some) why.1
    (λ t tables left made others held makes taken.
    waits standing spelling cutoff opened tables old mid left made others free before here tells t held makes taken takes reads sliced.Working (inl (why.0 c.requires.some), inl why.1))

-- ---- no row could be taken

pub returns-in-Err : goal.returns-in-Err
returns-in-Err g c =
    let tells = g.D.Disk.tells in
    let spelling = g.F.RangeFilter.spelling in
    let cutoff = g.F.RangeFilter.built_cutoff in
    let opened = c.args.tables.now.tables in
    let old = c.args.self.now in
    let mid = c.take_rows.new.self in
    let free = c.args.extents.now in
    let before = g.D.Disk.world c.args.disk.now in
    let here = g.D.Disk.world c.take_rows.new.disk in
    let reads = c.take_rows.ensures.moves in
    took_no_row spelling cutoff tells c.args.blocks opened old mid free before here c.take_rows.ensures.rest reads c.take_rows.ensures.level c.take_rows.ensures.numbers c.take_rows.ensures.stands c.take_rows.ensures.twice c.take_rows.ensures.bounded c.take_rows.ensures.passes
    c.in-Err.why c.in-Err.ensures.fault
    (λ t tables left made others held makes taken.
    take_refused c.standing_tables_are_read.ensures.blocks spelling (filter_bytes_of spelling cutoff) opened tables old left free before here tells t held (numbers old.merge.walks) c.in-Err.why c.in-Err.ensures.fault (c.in-Err.ensures.met t makes.sound))

-- ---- the output is full

pub look_on-requires : goal.look_on-requires
look_on-requires g c =
    let tables = c.args.tables.now.tables in
    record { there = subst (AreWalksIn tables) (sym (ap (λ (m : Merge). stands m.walks) c.close.ensures.merge ∙ c.take_rows.ensures.stands)) c.requires.there }

pub returns-in-Ok-look_on : goal.returns-in-Ok-look_on
returns-in-Ok-look_on g c =
    let tells = g.D.Disk.tells in
    let spelling = g.F.RangeFilter.spelling in
    let cutoff = g.F.RangeFilter.built_cutoff in
    let opened = c.args.tables.now.tables in
    let old = c.args.self.now in
    let mid = c.take_rows.new.self in
    let free = c.args.extents.now in
    let before = g.D.Disk.world c.args.disk.now in
    let here = g.D.Disk.world c.take_rows.new.disk in
    let standing = c.standing_tables_are_read.ensures.blocks in
    let reads = c.take_rows.ensures.moves in
    let takes = c.in-Ok-Full.ensures.taken in
    let why = subst (λ (s : Stop). IsStop tells c.args.blocks opened before.seen.held old.beside old.merge mid.merge mid.built s) c.in-Ok-Full.field-0-is c.in-Ok-Full.ensures.stop in
    let new = c.close.new.self in
    let extents = c.close.new.extents in
    let after = g.D.Disk.world c.close.new.disk in
    let last = c.look_on.new.self in
    let end = g.D.Disk.world c.look_on.new.disk in
    let full : is_full mid.beside mid.built ≡ true = subst (λ (n : ℕ). is_full n mid.built ≡ true) (sym (ap (λ (m : JobValue). m.beside) c.take_rows.ensures.rest)) why in
    let later = outputs_of (mid.beside - 1) (lasting mid.drops (rows_left mid.merge opened before.seen.held)) in
    let closes = c.in-Ok.ensures.closed in
    let said = c.in-Ok-look_on.said in
    let found = c.in-Ok-look_on.ensures.said in
    let whole : new.merge.drops ≡ false = ap (λ (m : Merge). m.drops) c.close.ensures.merge ∙ takes.sources.drops_are ∙ c.take_rows.ensures.whole in
    closed_then spelling cutoff tells c.args.blocks opened old mid free before here c.take_rows.ensures.rest reads c.take_rows.ensures.level c.take_rows.ensures.numbers c.take_rows.ensures.stands c.take_rows.ensures.twice c.take_rows.ensures.bounded c.take_rows.ensures.passes new extents after c.close.ensures.merge c.close.ensures.same c.close.ensures.writes
    last end c.look_on.ensures.rest c.look_on.ensures.numbers c.look_on.ensures.stands c.look_on.ensures.moves c.look_on.ensures.still
    (last_row new.outputs) closes takes.fewer full c.in-Ok-look_on.ensures.taken.fewer said (of_found tells opened after.seen.held new last said found) c.in-Ok-look_on.ensures.ended
    (λ t tables left made others held makes taken.
    let first = next_output standing spelling cutoff opened tables old mid left made others free before here tells t held makes taken takes reads full in
    let goes = makes_one standing spelling cutoff opened tables old mid left made others free before here tells t held makes taken takes reads later first new extents (last_row new.outputs) after closes
    (closed_moves spelling cutoff mid new free extents (last_row new.outputs) here after closes c.close.ensures.writes) (c.in-Ok.ensures.stands t) (g.met.D.Disk.current c.close.new.disk t) refl in
    let more = one_more standing spelling cutoff opened tables old mid left made others free before here tells t held makes taken takes reads later first new extents (last_row new.outputs) after closes
    (closed_moves spelling cutoff mid new free extents (last_row new.outputs) here after closes c.close.ensures.writes) (c.in-Ok.ensures.stands t) (g.met.D.Disk.current c.close.new.disk t) refl in
    looked_on spelling (filter_bytes_of spelling cutoff) opened tables old new last left made others free extents before after end tells t goes more c.in-Ok-look_on.ensures.taken c.look_on.ensures.moves whole said found)
  where
    of_found : (tells : Bool) (opened : List Opened) (image : Image) (old new : JobValue) (said : Sliced) → LooksOn tells opened image old new said → SaysWhatIsLeft opened new said
    of_found tells opened image old new sliced.Working is = is
    of_found tells opened image old new sliced.Ready is = is.0

pub returns-in-Err-look_on : goal.returns-in-Err-look_on
returns-in-Err-look_on g c =
    let new = c.close.new.self in
    let last = c.look_on.new.self in
    closed_without_memory g.F.RangeFilter.spelling g.F.RangeFilter.built_cutoff g.D.Disk.tells c.args.blocks c.args.tables.now.tables c.args.self.now c.take_rows.new.self c.args.extents.now (g.D.Disk.world c.args.disk.now) (g.D.Disk.world c.take_rows.new.disk)
    c.take_rows.ensures.rest c.take_rows.ensures.moves c.take_rows.ensures.level c.take_rows.ensures.numbers c.take_rows.ensures.stands c.take_rows.ensures.twice c.take_rows.ensures.bounded c.take_rows.ensures.passes new c.close.new.extents (g.D.Disk.world c.close.new.disk) c.close.ensures.merge c.close.ensures.same c.close.ensures.writes
    last (g.D.Disk.world c.look_on.new.disk) c.look_on.ensures.rest c.look_on.ensures.numbers c.look_on.ensures.stands c.look_on.ensures.moves c.look_on.ensures.still c.in-Err-look_on.why c.in-Err-look_on.ensures.memory

pub returns-in-Err-close : goal.returns-in-Err-close
returns-in-Err-close g c =
    let tells = g.D.Disk.tells in
    let spelling = g.F.RangeFilter.spelling in
    let cutoff = g.F.RangeFilter.built_cutoff in
    let opened = c.args.tables.now.tables in
    let old = c.args.self.now in
    let mid = c.take_rows.new.self in
    let free = c.args.extents.now in
    let before = g.D.Disk.world c.args.disk.now in
    let here = g.D.Disk.world c.take_rows.new.disk in
    let standing = c.standing_tables_are_read.ensures.blocks in
    let reads = c.take_rows.ensures.moves in
    let takes = c.in-Ok-Full.ensures.taken in
    let why = subst (λ (s : Stop). IsStop tells c.args.blocks opened before.seen.held old.beside old.merge mid.merge mid.built s) c.in-Ok-Full.field-0-is c.in-Ok-Full.ensures.stop in
    let new = c.close.new.self in
    let extents = c.close.new.extents in
    let after = g.D.Disk.world c.close.new.disk in
    let full : is_full mid.beside mid.built ≡ true = subst (λ (n : ℕ). is_full n mid.built ≡ true) (sym (ap (λ (m : JobValue). m.beside) c.take_rows.ensures.rest)) why in
    let later = outputs_of (mid.beside - 1) (lasting mid.drops (rows_left mid.merge opened before.seen.held)) in
    closed_none spelling cutoff tells c.args.blocks opened old mid free before here c.take_rows.ensures.rest reads c.take_rows.ensures.level c.take_rows.ensures.numbers c.take_rows.ensures.stands c.take_rows.ensures.twice c.take_rows.ensures.bounded c.take_rows.ensures.passes new extents after c.close.ensures.merge c.close.ensures.same c.close.ensures.writes
    (full_has old.beside mid.built why) c.in-Err-close.why c.in-Err-close.ensures.fault
    (λ t tables left made others held makes taken.
    let first = next_output standing spelling cutoff opened tables old mid left made others free before here tells t held makes taken takes reads full in
    close_refused standing spelling cutoff opened tables old mid left made others free before here tells t held makes taken takes reads later first after c.in-Err-close.why c.in-Err-close.ensures.fault)

-- ---- no row is left

pub returns-then-is_empty : goal.returns-then-is_empty
returns-then-is_empty g c =
    let tells = g.D.Disk.tells in
    let spelling = g.F.RangeFilter.spelling in
    let cutoff = g.F.RangeFilter.built_cutoff in
    let opened = c.args.tables.now.tables in
    let old = c.args.self.now in
    let mid = c.take_rows.new.self in
    let free = c.args.extents.now in
    let before = g.D.Disk.world c.args.disk.now in
    let here = g.D.Disk.world c.take_rows.new.disk in
    let standing = c.standing_tables_are_read.ensures.blocks in
    let reads = c.take_rows.ensures.moves in
    let takes = c.in-Ok-End.ensures.taken in
    let why = subst (λ (s : Stop). IsStop tells c.args.blocks opened before.seen.held old.beside old.merge mid.merge mid.built s) c.in-Ok-End.field-0-is c.in-Ok-End.ensures.stop in
    let whole = sym takes.sources.drops_are ∙ subst (λ (m : JobValue). m.merge.drops ≡ false) c.self.view_is c.self.invariant.whole in
    let at_end : AreAtEnd opened mid.merge.walks = subst (StopsAtEnd opened mid.merge) c.in-Ok-End.field-0-is c.in-Ok-End.ensures.ended in
    let empty = subst (λ (m : JobValue). length m.built ≡ 0) c.self.view_is (no_length c.self.inside.built.entries (sym c.is_empty.ensures ∙ c.if-is_empty.true)) in
    had_nothing spelling cutoff tells c.args.blocks opened old mid free before here c.take_rows.ensures.rest reads c.take_rows.ensures.level c.take_rows.ensures.numbers c.take_rows.ensures.stands c.take_rows.ensures.twice c.take_rows.ensures.bounded c.take_rows.ensures.passes
    takes.fewer (none_of_length mid.built empty) at_end
    (λ t tables left made others held makes taken.
    let none = why t makes.sound in
    ready_with_none standing spelling cutoff opened tables old mid left made others free before here tells t held makes taken takes reads whole none empty)

pub returns-in-Ok-close : goal.returns-in-Ok-close
returns-in-Ok-close g c =
    let tells = g.D.Disk.tells in
    let spelling = g.F.RangeFilter.spelling in
    let cutoff = g.F.RangeFilter.built_cutoff in
    let opened = c.args.tables.now.tables in
    let old = c.args.self.now in
    let mid = c.take_rows.new.self in
    let free = c.args.extents.now in
    let before = g.D.Disk.world c.args.disk.now in
    let here = g.D.Disk.world c.take_rows.new.disk in
    let standing = c.standing_tables_are_read.ensures.blocks in
    let reads = c.take_rows.ensures.moves in
    let takes = c.in-Ok-End.ensures.taken in
    let why = subst (λ (s : Stop). IsStop tells c.args.blocks opened before.seen.held old.beside old.merge mid.merge mid.built s) c.in-Ok-End.field-0-is c.in-Ok-End.ensures.stop in
    let new = c.close-in-Ok-End.new.self in
    let extents = c.close-in-Ok-End.new.extents in
    let after = g.D.Disk.world c.close-in-Ok-End.new.disk in
    let whole = sym takes.sources.drops_are ∙ subst (λ (m : JobValue). m.merge.drops ≡ false) c.self.view_is c.self.invariant.whole in
    let some = subst (λ (m : JobValue). 0 < length m.built) c.self.view_is (some_length c.self.inside.built.entries (sym c.is_empty.ensures ∙ c.if-is_empty.false)) in
    let closes = c.in-Ok-close.ensures.closed in
    let at_end : AreAtEnd opened mid.merge.walks = subst (StopsAtEnd opened mid.merge) c.in-Ok-End.field-0-is c.in-Ok-End.ensures.ended in
    closed_last spelling cutoff tells c.args.blocks opened old mid free before here c.take_rows.ensures.rest reads c.take_rows.ensures.level c.take_rows.ensures.numbers c.take_rows.ensures.stands c.take_rows.ensures.twice c.take_rows.ensures.bounded c.take_rows.ensures.passes new extents after c.close-in-Ok-End.ensures.merge c.close-in-Ok-End.ensures.same c.close-in-Ok-End.ensures.writes
    (last_row new.outputs) closes takes.fewer at_end
    (λ t tables left made others held makes taken.
    let none = why t makes.sound in
    let first = last_output standing spelling cutoff opened tables old mid left made others free before here tells t held makes taken takes reads whole none some in
    ends standing spelling cutoff opened tables old mid left made others free before here tells t held makes taken takes reads [] first new extents (last_row new.outputs) after closes
    (closed_moves spelling cutoff mid new free extents (last_row new.outputs) here after closes c.close-in-Ok-End.ensures.writes) (c.in-Ok-close.ensures.stands t)
    (g.met.D.Disk.current c.close-in-Ok-End.new.disk t) (nothing_next standing spelling cutoff opened tables old mid left made others free before here tells t held makes taken takes reads whole none) (all_read standing spelling cutoff opened tables old mid left made others free before here tells t held makes taken takes reads whole none) refl)

pub returns-in-Err-close-2 : goal.returns-in-Err-close-2
returns-in-Err-close-2 g c =
    let tells = g.D.Disk.tells in
    let spelling = g.F.RangeFilter.spelling in
    let cutoff = g.F.RangeFilter.built_cutoff in
    let opened = c.args.tables.now.tables in
    let old = c.args.self.now in
    let mid = c.take_rows.new.self in
    let free = c.args.extents.now in
    let before = g.D.Disk.world c.args.disk.now in
    let here = g.D.Disk.world c.take_rows.new.disk in
    let standing = c.standing_tables_are_read.ensures.blocks in
    let reads = c.take_rows.ensures.moves in
    let takes = c.in-Ok-End.ensures.taken in
    let why = subst (λ (s : Stop). IsStop tells c.args.blocks opened before.seen.held old.beside old.merge mid.merge mid.built s) c.in-Ok-End.field-0-is c.in-Ok-End.ensures.stop in
    let new = c.close-in-Ok-End.new.self in
    let extents = c.close-in-Ok-End.new.extents in
    let after = g.D.Disk.world c.close-in-Ok-End.new.disk in
    let whole = sym takes.sources.drops_are ∙ subst (λ (m : JobValue). m.merge.drops ≡ false) c.self.view_is c.self.invariant.whole in
    let some = subst (λ (m : JobValue). 0 < length m.built) c.self.view_is (some_length c.self.inside.built.entries (sym c.is_empty.ensures ∙ c.if-is_empty.false)) in
    closed_none spelling cutoff tells c.args.blocks opened old mid free before here c.take_rows.ensures.rest reads c.take_rows.ensures.level c.take_rows.ensures.numbers c.take_rows.ensures.stands c.take_rows.ensures.twice c.take_rows.ensures.bounded c.take_rows.ensures.passes new extents after c.close-in-Ok-End.ensures.merge c.close-in-Ok-End.ensures.same c.close-in-Ok-End.ensures.writes
    some c.in-Err-close-2.why c.in-Err-close-2.ensures.fault
    (λ t tables left made others held makes taken.
    let none = why t makes.sound in
    let first = last_output standing spelling cutoff opened tables old mid left made others free before here tells t held makes taken takes reads whole none some in
    close_refused standing spelling cutoff opened tables old mid left made others free before here tells t held makes taken takes reads [] first after c.in-Err-close-2.why c.in-Err-close-2.ensures.fault)
