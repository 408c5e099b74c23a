use Rattle.std.proofs.Common.{◌≡◌, ◌∙◌, ◌++◌, [], ◌∷◌, sym, ap, subst, ℕ, List, append-nil}
use Rattle.std.specs.Prelude.{IsTrue}
use Rattle.disk_trait.specs.World.{Streams}
use Rattle.image_model.specs.Findings.{Finding}
use Rattle.map_model.specs.SortedMap.{Bytes}
use Rattle.outside.specs.Streams.{SaysPrefix}
use Rattle.store_check.specs.Causes.{IsFree}
use Rattle.surf_run.specs.Checks.{AreFound, findings_text, found_text}
use Rattle.surf_run.proofs.Checked.{SaysLast, all_given, at_none, at_some, cause_from, changes_read, count_more, cut_ends, cut_text, found_ends, goes_on, goes_on_after, line_ends, nothing_given, read_changes, read_said, so_on, some_given, start_text}
use Rattle.surf_run.proofs.checking.run_check.Goals as goal

pub returns-in-Err : goal.returns-in-Err
returns-in-Err g c =
    let f = g.F.RangeFilter in
    let old = g.W.Disk.world c.args.out.now in
    let mid = g.W.Disk.world c.start.new.disk in
    let said = c.say_cut_off.ensures in
    cut_ends f.spelling f.first_fault g.met.F.RangeFilter.spells_one g.W.Disk.tells g.W.Outside.tells_output [] old mid (g.W.Disk.world c.say_cut_off.new.out)
    (λ heard. ap (λ (s : Streams). s.said) c.start.ensures.moves.beside ∙ sym (append-nil old.beside.said)) (changes_read 6 old mid c.start.ensures.moves) c.in-Err.why c.say_cut_off.result
    (record { whole = said.said; prefix = said.prefix; ends = said.ends; moves = said.moves })
    (λ told heard bytes. start_text f.spelling f.first_fault old.seen.held c.in-Err.why (c.in-Err.ensures.only_at_no_store told))
    (λ none told bytes. c.in-Err.ensures.only_at_no_store told none) c.in-Err.ensures.cause

pub returns-in-Ok-None : goal.returns-in-Ok-None
returns-in-Ok-None g c =
    let f = g.F.RangeFilter in
    let old = g.W.Disk.world c.args.out.now in
    let at = g.W.Disk.world c.findings.out in
    let mid = g.W.Disk.world c.next.new.disk in
    let new = g.W.Disk.world c.say_found.new.out in
    let given = c.findings.invariant.0 in
    let so = c.findings.invariant.1 in
    let count = c.findings.invariant.2 in
    let said = c.say_found.ensures in
    let moves = c.in-Ok-None.ensures.moves in
    found_ends f.spelling f.first_fault g.met.F.RangeFilter.spells_one g.W.Disk.tells g.W.Outside.tells_output given old mid new
    (read_said f.spelling f.first_fault g.W.Disk.tells g.W.Outside.tells_output c.findings.check given old at mid so moves)
    (read_changes f.spelling f.first_fault g.W.Disk.tells g.W.Outside.tells_output c.findings.check given old at mid so moves) c.say_found.result
    (subst (λ (n : ℕ). SaysLast g.W.Outside.tells_output 12 (found_text n) c.say_found.result mid new) count (record { whole = said.said; prefix = said.prefix; ends = said.ends; moves = said.moves }))
    (some_given given c.findings.found count c.if-found-gt0.true)
    (all_given f.spelling f.first_fault g.W.Disk.tells g.W.Outside.tells_output c.findings.check given old at mid so moves
    (λ told is. at_none c.in-Ok-None.field-0 _ _ c.in-Ok-None.field-0-is (c.in-Ok-None.ensures.gives [] told is)))

pub returns-in-Ok-None-2 : goal.returns-in-Ok-None-2
returns-in-Ok-None-2 g c =
    let f = g.F.RangeFilter in
    let old = g.W.Disk.world c.args.out.now in
    let at = g.W.Disk.world c.findings.out in
    let mid = g.W.Disk.world c.next.new.disk in
    let given = c.findings.invariant.0 in
    let so = c.findings.invariant.1 in
    let moves = c.in-Ok-None.ensures.moves in
    let nothing : given ≡ [] = nothing_given given c.findings.found c.findings.invariant.2 c.if-found-gt0.false in
    c.say_clean.ensures c.args.out.now (read_changes f.spelling f.first_fault g.W.Disk.tells g.W.Outside.tells_output c.findings.check given old at mid so moves)
    (λ heard. read_said f.spelling f.first_fault g.W.Disk.tells g.W.Outside.tells_output c.findings.check given old at mid so moves heard
    ∙ ap (λ (fs : List Finding). old.beside.said ++ findings_text fs) nothing ∙ append-nil old.beside.said)
    (λ told.
    subst (AreFound f.spelling f.first_fault old.seen.held) nothing
    (all_given f.spelling f.first_fault g.W.Disk.tells g.W.Outside.tells_output c.findings.check given old at mid so moves
    (λ told is. at_none c.in-Ok-None.field-0 _ _ c.in-Ok-None-2.field-0-is (c.in-Ok-None.ensures.gives [] told is)) told))

pub returns-in-Err-next : goal.returns-in-Err-next
returns-in-Err-next g c =
    let f = g.F.RangeFilter in
    let old = g.W.Disk.world c.args.out.now in
    let at = g.W.Disk.world c.findings.out in
    let mid = g.W.Disk.world c.next.new.disk in
    let given = c.findings.invariant.0 in
    let so = c.findings.invariant.1 in
    let why = c.in-Err-next.why in
    let moves = c.in-Err-next.ensures.moves in
    let said = c.say_cut_off-in-Err-next.ensures in
    cut_ends f.spelling f.first_fault g.met.F.RangeFilter.spells_one g.W.Disk.tells g.W.Outside.tells_output given old mid (g.W.Disk.world c.say_cut_off-in-Err-next.new.out)
    (read_said f.spelling f.first_fault g.W.Disk.tells g.W.Outside.tells_output c.findings.check given old at mid so moves)
    (read_changes f.spelling f.first_fault g.W.Disk.tells g.W.Outside.tells_output c.findings.check given old at mid so moves) why c.say_cut_off-in-Err-next.result
    (record { whole = said.said; prefix = said.prefix; ends = said.ends; moves = said.moves })
    (λ told heard bytes.
    let more = goes_on f.spelling f.first_fault g.W.Disk.tells g.W.Outside.tells_output c.findings.check given old at mid so moves g.met.F.RangeFilter.decided told bytes in
    cut_text f.spelling f.first_fault old.seen.held given more.0 why c.in-Err-next.ensures.not_a_store more.1)
    (λ none told bytes. absurd (subst IsFree none c.in-Err-next.ensures.not_a_store)) (cause_from why old at mid so.changes.counts c.in-Err-next.ensures.cause)

pub returns-in-Err-say_all : goal.returns-in-Err-say_all
returns-in-Err-say_all g c =
    let f = g.F.RangeFilter in
    let old = g.W.Disk.world c.args.out.now in
    let at = g.W.Disk.world c.findings.out in
    let mid = g.W.Disk.world c.next.new.disk in
    let new = g.W.Disk.world c.say_all.new.out in
    let given = c.findings.invariant.0 in
    let so = c.findings.invariant.1 in
    let found = c.in-Ok-Some.ensures in
    let moves = found.moves in
    line_ends f.spelling f.first_fault g.met.F.RangeFilter.spells_one g.W.Disk.tells g.W.Outside.tells_output given old mid new
    (read_said f.spelling f.first_fault g.W.Disk.tells g.W.Outside.tells_output c.findings.check given old at mid so moves)
    (read_changes f.spelling f.first_fault g.W.Disk.tells g.W.Outside.tells_output c.findings.check given old at mid so moves) c.in-Ok-Some.finding
    (λ heard. subst (λ (t : Bytes). SaysPrefix t mid.beside.said new.beside.said) (c.as_slice.ensures.value ∙ c.finding_line.ensures) (c.in-Err-say_all.ensures.prefix heard))
    c.in-Err-say_all.ensures.cause c.say_all.ensures.moves
    (goes_on_after f.spelling f.first_fault g.W.Disk.tells g.W.Outside.tells_output c.findings.check given old at mid so moves c.next.new.self c.in-Ok-Some.finding found.of
    (λ later told is. at_some c.in-Ok-Some.field-0 c.in-Ok-Some.finding _ _ c.in-Ok-Some.field-0-is (found.gives later told is)) g.met.F.RangeFilter.decided)

pub findings-preserved : goal.findings-preserved
findings-preserved g c =
    let f = g.F.RangeFilter in
    let old = g.W.Disk.world c.args.out.now in
    let at = g.W.Disk.world c.findings.out in
    let mid = g.W.Disk.world c.next.new.disk in
    let given = c.findings.invariant.0 in
    let so = c.findings.invariant.1 in
    let found = c.in-Ok-Some.ensures in (
      given ++ c.in-Ok-Some.finding ∷ [],
      so_on f.spelling f.first_fault g.W.Disk.tells g.W.Outside.tells_output c.findings.check given old at mid so found.moves c.next.new.self c.in-Ok-Some.finding found.of
          (λ later told is. at_some c.in-Ok-Some.field-0 c.in-Ok-Some.finding _ _ c.in-Ok-Some.field-0-is (found.gives later told is)) (g.W.Disk.world c.say_all.new.out)
          (λ heard. c.in-Ok-say_all.ensures.said heard ∙ ap (λ (t : Bytes). mid.beside.said ++ t) (c.as_slice.ensures.value ∙ c.finding_line.ensures)) c.say_all.ensures.moves,
      c.saturating_add-found.ensures ∙ count_more given c.in-Ok-Some.finding c.findings.found c.findings.invariant.2,
    )
