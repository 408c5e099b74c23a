use Rattle.std.proofs.Common.{◌≡◌, ◌≤◌, ◌∙◌, inl, inr, refl, sym, ap, subst, List, [], ℕ, arith, length, Bool, false}
use Rattle.std.specs.Prelude.{None, Option}
use Rattle.lines_in.specs.Unserved.{LastLine}
use Rattle.lines_in.proofs.LastLines.{last_line}
use Rattle.map_model.specs.SortedMap.{Bytes, Map}
use Rattle.map_model.specs.Slices.{between}
use Rattle.merge_rows.specs.Merges.{TableWalk}
use Rattle.merge_rows.specs.Reads.{PassSound}
use Rattle.state_model.specs.View.{state_map}
use Rattle.store_core.proofs.ScanCounts.{count_few}
use Rattle.store_core.proofs.Recorded.{shown_only}
use Rattle.store_core.specs.Scans.{AreAllSound, AreDoneUpTo, IsScanRefusal, walks_between}
use Rattle.store_core.specs.declared.error.StoreError.{StoreError}
use Rattle.surf_run.specs.Open.{IsOpening, opening_status, opening_text}
use Rattle.surf_run.specs.Readings.{EndsPairs, IsDumpText, IsPairsText}
use Rattle.surf_run.proofs.Checked.{changes_say}
use Rattle.surf_run.proofs.Dumped.{memory_alone, memory_ends, memory_never_five, pairs_of_state}
use Rattle.surf_run.proofs.LoadSums.{all_between}
use Rattle.surf_run.proofs.Openings.{not_six}
use Rattle.surf_run.proofs.WholeDumps.{memory_not_done, not_done, whole_scan}
use Rattle.table_file.specs.Opened.{Opened}
use Rattle.table_model.specs.Tables.{filter_bytes_of}
use Rattle.surf_run.proofs.dumping.say_store.Goals as goal

pub returns-in-Ok-clause-lines : goal.returns-in-Ok-clause-lines
returns-in-Ok-clause-lines g c s tells output reads =
    let old = g.W.Disk.world c.args.out.now in
    let new = g.W.Disk.world c.say_pairs.new.out in
    let spelling = g.F.RangeFilter.spelling in
    let bytes = filter_bytes_of spelling g.F.RangeFilter.built_cutoff in
    let only = shown_only spelling c.args.store.now.manifest c.args.store.now.tables c.args.store.now.job s old.seen.held reads.under in
    pairs_of_state s c.say_pairs.result old new
    (subst (λ (m : Map). LastLine (IsPairsText m) c.say_pairs.result old new) (all_between (state_map s))
    (c.say_pairs.ensures.lines (between (state_map s) [] None) tells output (omega (arith, count_few bytes s [] None reads.sound only)) (c.in-Ok.ensures.shows s old.seen.held reads)))

pub returns-in-Ok-clause-sound : goal.returns-in-Ok-clause-sound
returns-in-Ok-clause-sound g c s tells reads = c.say_pairs.ensures.sound (between (state_map s) [] None) tells (c.in-Ok.ensures.shows s (g.W.Disk.world c.args.out.now).seen.held reads)

pub returns-in-Ok-clause-whole : goal.returns-in-Ok-clause-whole
returns-in-Ok-clause-whole g c tells output done =
    let image = (g.W.Disk.world c.args.out.now).seen.held in
    let scan = c.in-Ok.scan in
    let tables = scan.tables in
    let begins = c.in-Ok.ensures.begins in
    elim (c.say_pairs.ensures.whole tells output done c.in-Ok.ensures.made.1) [
      | inl along ↦ inl (subst (λ (ts : List Opened). AreAllSound ts image) c.in-Ok.ensures.made.0
          (whole_scan tables image along.walks
          (subst (λ (first : List TableWalk). PassSound tables image first along.walks) (begins.1 ∙ sym (ap (walks_between [] None) c.in-Ok.ensures.made.0)) along.passes)
          (subst (λ (h : Option Bytes). AreDoneUpTo h tables along.walks) begins.0 along.done)))
      | inr many ↦ inr many
    ]

pub returns-in-Err-clause-whole : goal.returns-in-Err-clause-whole
returns-in-Err-clause-whole g c tells output done =
    let why = c.in-Err.why in
    absurd (not_done (opening_status why) c.say_why.result (g.W.Disk.world c.args.out.now) (g.W.Disk.world c.say_why.new.out) (memory_not_done why (memory_alone c.args.store.now.stopped why c.requires.running c.in-Err.ensures.refused)) c.say_why.ensures.ends done)

pub returns-in-Ok-clause-ends : goal.returns-in-Ok-clause-ends
returns-in-Ok-clause-ends g c = inl c.say_pairs.ensures.ends

pub say_why-requires : goal.say_why-requires
say_why-requires g c = subst IsOpening (sym (memory_alone c.args.store.now.stopped c.in-Err.why c.requires.running c.in-Err.ensures.refused)) tt

pub returns-in-Err-clause-lines : goal.returns-in-Err-clause-lines
returns-in-Err-clause-lines g c s tells output reads =
    let old = g.W.Disk.world c.args.out.now in
    let why = c.in-Err.why in
    let memory = memory_alone c.args.store.now.stopped why c.requires.running c.in-Err.ensures.refused in
    last_line (IsDumpText s) old old (g.W.Disk.world c.say_why.new.out) refl c.say_why.result (opening_status why) (opening_text why) (subst (λ (w : StoreError). IsDumpText s (opening_status w) (opening_text w)) (sym memory) (inr (refl, refl)))
    (λ same. c.say_why.ensures.said output (λ six. not_six why (subst IsOpening (sym memory) tt) (sym same ∙ six))) (c.say_why.ensures.prefix output) c.say_why.ensures.ends

pub returns-in-Err-clause-sound : goal.returns-in-Err-clause-sound
returns-in-Err-clause-sound g c s tells reads five = memory_never_five c.in-Err.why c.say_why.result (g.W.Disk.world c.args.out.now) (g.W.Disk.world c.say_why.new.out) (memory_alone c.args.store.now.stopped c.in-Err.why c.requires.running c.in-Err.ensures.refused) c.say_why.ensures.ends five

pub returns-in-Err-clause-shown : goal.returns-in-Err-clause-shown
returns-in-Err-clause-shown g c tells output five =
    absurd (memory_never_five c.in-Err.why c.say_why.result (g.W.Disk.world c.args.out.now) (g.W.Disk.world c.say_why.new.out) (memory_alone c.args.store.now.stopped c.in-Err.why c.requires.running c.in-Err.ensures.refused) c.say_why.ensures.ends five)

pub returns-in-Err-clause-ends : goal.returns-in-Err-clause-ends
returns-in-Err-clause-ends g c = memory_ends c.in-Err.why c.say_why.result (g.W.Disk.world c.args.out.now) (g.W.Disk.world c.say_why.new.out) (memory_alone c.args.store.now.stopped c.in-Err.why c.requires.running c.in-Err.ensures.refused) c.say_why.ensures.ends

pub returns-in-Err-clause-changes : goal.returns-in-Err-clause-changes
returns-in-Err-clause-changes g c = changes_say (g.W.Disk.world c.args.out.now) (g.W.Disk.world c.say_why.new.out) c.say_why.ensures.moves
