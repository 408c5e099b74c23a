use Rattle.std.proofs.Common.{◌≡◌, ◌∙◌, ◌≤◌, ◌+◌, ◌++◌, inl, inr, refl, sym, ap, ap₂, subst, arith, ℕ, List, [], codes, drop, length, length-append, take}
use Rattle.std.specs.Prelude.{Option, None, Some, is_some, false, true}
use Rattle.std.proofs.lemmas.List.{append-nil}
use Rattle.disk_trait.proofs.Calls.{reads_none}
use Rattle.disk_trait.specs.World.{Image, Streams}
use Rattle.line_model.specs.Replies.{word_of}
use Rattle.lines_in.proofs.EndCauses.{rose_since}
use Rattle.map_model.specs.SortedMap.{Bytes, Map}
use Rattle.merge_rows.proofs.SoundPasses.{pass_same}
use Rattle.store_core.proofs.ScanCounts.{drop_next, none_behind, none_pair, some_behind}
use Rattle.store_core.proofs.ScanEnds.{passed_on}
use Rattle.store_core.specs.Scans.{AreDoneUpTo, StillComes, left_behind}
use Rattle.surf_run.proofs.Checked.{changes_on, changes_read, changes_say}
use Rattle.surf_run.proofs.Dumped.{all_put, device_alone, dump_shown, four_never_five, put_cut, put_until, put_waits, step_ends, step_opening}
use Rattle.surf_run.proofs.WholeDumps.{line_more, not_done, step_not_done}
use Rattle.surf_run.specs.Open.{opening_status, opening_text}
use Rattle.table_file.specs.Opened.{Opened}
use Rattle.surf_run.proofs.dumping.say_pairs.Goals as goal

pub loop-init : goal.loop-init
loop-init g c = record {
  shows = λ m tells shows. shows;
  within = λ m tells shows. omega arith;
  said = λ m tells output shows. refl;
  went = λ tells. pass_same c.args.scan.tables (g.W.Disk.world c.args.out.now).seen.held c.args.scan.merge.walks;
  tables = refl;
  high = refl;
  left = λ none. none;
  lines = λ output. omega (arith, length-append (g.W.Disk.world c.args.out.now).beside.said (take 0 c.args.buffer.now));
  longer = omega arith;
  room = c.requires.room;
  changes = changes_read 0 _ _ (reads_none 0 (g.W.Disk.world c.args.out.now));
}

-- ---- no more pairs

pub returns-in-Ok-false-clause-lines : goal.returns-in-Ok-false-clause-lines
returns-in-Ok-false-clause-lines g c m tells output few first =
    let a = g.W.Disk.world c.args.out.now in
    let w = g.W.Disk.world c.loop.out in
    let mid = g.W.Disk.world c.advance.new.disk in
    let b = g.W.Disk.world c.say_last.new.out in
    let here = subst (λ (f : Image). StillComes g.F.RangeFilter.spelling c.loop.scan (drop c.loop.counter m) f) (sym c.loop.invariant.changes.held) (c.loop.invariant.shows m tells first) in
    let on = c.in-Ok-false.ensures.pairs (drop c.loop.counter m) tells here in
    let test = c.in-Ok-false.field-0-test in
    let said = c.in-Ok-false.ensures.said in
    let no : is_some c.advance.new.self.now ≡ false = cc in
    let same = ap (λ (s : Streams). s.said) c.advance.ensures.moves.1.beside in
    all_put m a w mid b (take c.loop.used c.loop.buffer) c.loop.counter c.say_last.result (c.loop.invariant.said m tells output first) same (omega (arith, c.loop.invariant.longer, ap length same, c.say_last.ensures.moves.told.longer))
    (none_behind c.loop.counter m (sym on.0 ∙ none_pair c.advance.new.self.now no)) (c.say_last.ensures.said output) (c.say_last.ensures.prefix output) c.say_last.ensures.ends

-- no pair is there after the last
left_none : {A : Type 0} (left : Option A) (some : A) → left ≡ None → left ≡ Some some → ⊥
left_none left some none is = let e : None ≡ Some some = sym none ∙ is in cc

pub returns-in-Ok-false-clause-whole : goal.returns-in-Ok-false-clause-whole
returns-in-Ok-false-clause-whole g c tells output done left =
    let a = g.W.Disk.world c.args.out.now in
    let w = g.W.Disk.world c.loop.out in
    let old = c.loop.scan in
    let new = c.advance.new.self in
    let tables : new.tables ≡ c.args.scan.tables = c.advance.ensures.same.0 ∙ c.loop.invariant.tables in
    let high : new.high ≡ c.args.scan.high = c.advance.ensures.high ∙ c.loop.invariant.high in
    inl record {
      walks = new.merge.walks;
      passes = passed_on old.tables c.args.scan.tables w.seen.held a.seen.held c.args.scan.merge.walks old.merge.walks new.merge.walks c.loop.invariant.tables c.loop.invariant.changes.held (c.loop.invariant.went tells) (c.advance.ensures.passes tells);
      done = subst (λ (h : Option Bytes). AreDoneUpTo h c.args.scan.tables new.merge.walks) high
          (subst (λ (ts : List Opened). AreDoneUpTo new.high ts new.merge.walks) tables (c.in-Ok-false.ensures.done c.in-Ok-false.field-0-test (left_none old.left 0 (c.loop.invariant.left left))));
    }

-- ---- a fault

pub returns-in-Err-clause-whole : goal.returns-in-Err-clause-whole
returns-in-Err-clause-whole g c tells output done left =
    let mid = g.W.Disk.world c.advance.new.disk in
    let why = c.in-Err.why in
    absurd (not_done (opening_status why) c.say_why_after.result mid (g.W.Disk.world c.say_why_after.new.out) (step_not_done (g.W.Disk.world c.loop.out) mid why c.in-Err.ensures.refused) c.say_why_after.ensures.ends done)

pub say_why_after-requires : goal.say_why_after-requires
say_why_after-requires g c = step_opening (g.W.Disk.world c.loop.out) (g.W.Disk.world c.advance.new.disk) c.in-Err.why c.in-Err.ensures.refused

pub returns-in-Err-clause-lines : goal.returns-in-Err-clause-lines
returns-in-Err-clause-lines g c m tells output few first =
    let a = g.W.Disk.world c.args.out.now in
    let w = g.W.Disk.world c.loop.out in
    let mid = g.W.Disk.world c.advance.new.disk in
    let b = g.W.Disk.world c.say_why_after.new.out in
    let why = c.in-Err.why in
    let here = subst (λ (f : Image). StillComes g.F.RangeFilter.spelling c.loop.scan (drop c.loop.counter m) f) (sym c.loop.invariant.changes.held) (c.loop.invariant.shows m tells first) in
    let device = device_alone w mid why (c.in-Err.ensures.undamaged (drop c.loop.counter m) tells here) c.in-Err.ensures.refused in
    let same = ap (λ (s : Streams). s.said) c.advance.ensures.moves.1.beside in
    put_until m a w mid b (take c.loop.used c.loop.buffer) c.loop.counter c.say_why_after.result (c.loop.invariant.said m tells output first) same
    (omega (arith, c.loop.invariant.longer, ap length same, c.say_why_after.ensures.moves.told.longer)) (opening_text why) device.1 (λ four. c.say_why_after.ensures.said output (four ∙ sym device.0))
    (c.say_why_after.ensures.prefix output) (elim c.say_why_after.ensures.ends [ inl four ↦ inl (four ∙ device.0) | inr six ↦ inr six ])

pub returns-in-Err-clause-sound : goal.returns-in-Err-clause-sound
returns-in-Err-clause-sound g c m tells first five =
    let w = g.W.Disk.world c.loop.out in
    let mid = g.W.Disk.world c.advance.new.disk in
    let why = c.in-Err.why in
    let here = subst (λ (f : Image). StillComes g.F.RangeFilter.spelling c.loop.scan (drop c.loop.counter m) f) (sym c.loop.invariant.changes.held) (c.loop.invariant.shows m tells first) in
    let device = device_alone w mid why (c.in-Err.ensures.undamaged (drop c.loop.counter m) tells here) c.in-Err.ensures.refused in
    four_never_five c.say_why_after.result (opening_status why) mid (g.W.Disk.world c.say_why_after.new.out) device.0 c.say_why_after.ensures.ends five

pub returns-in-Err-clause-ends : goal.returns-in-Err-clause-ends
returns-in-Err-clause-ends g c =
    let a = g.W.Disk.world c.args.out.now in
    let w = g.W.Disk.world c.loop.out in
    let mid = g.W.Disk.world c.advance.new.disk in
    let b = g.W.Disk.world c.say_why_after.new.out in
    step_ends a w mid b c.in-Err.why c.say_why_after.result c.loop.invariant.changes.counts c.in-Err.ensures.refused (changes_say mid b c.say_why_after.ensures.moves).counts c.say_why_after.ensures.ends
    (changes_on a w mid c.loop.invariant.changes (changes_read c.advance.ensures.moves.0 w mid c.advance.ensures.moves.1)).counts

pub returns-in-Err-clause-shown : goal.returns-in-Err-clause-shown
returns-in-Err-clause-shown g c tells output five =
    dump_shown c.in-Err.why c.loop.scan.tables (take c.loop.used c.loop.buffer) c.say_why_after.result (g.W.Disk.world c.loop.out) (g.W.Disk.world c.advance.new.disk) (g.W.Disk.world c.say_why_after.new.out)
    c.in-Err.ensures.refused (c.in-Err.ensures.shown tells) c.advance.ensures.moves.1.held c.say_why_after.ensures.moves (c.say_why_after.ensures.said output) c.say_why_after.ensures.ends five

-- ---- one more

pub add_put-requires : goal.add_put-requires
add_put-requires g c = record { room = c.loop.invariant.room; key = c.in-Some.ensures.sound.short_key; value = c.in-Some.ensures.sound.short_value }

pub loop-preserved : goal.loop-preserved
loop-preserved g c =
    let spelling = g.F.RangeFilter.spelling in
    let a = g.W.Disk.world c.args.out.now in
    let w = g.W.Disk.world c.loop.out in
    let mid = g.W.Disk.world c.advance.new.disk in
    let b = g.W.Disk.world c.add_put.new.out in
    let held = c.loop.invariant.changes.held in
    let pair : Bytes × Bytes = (c.in-Some.key.now, c.in-Some.value.now) in
    let test = c.in-Ok-true.field-0-test in
    let told = c.in-Ok-true.ensures.said in
    let some : is_some c.advance.new.self.now ≡ true = cc in
    let same = ap (λ (s : Streams). s.said) c.advance.ensures.moves.1.beside in
    record {
      shows = λ m tells first.
          let here = subst (λ (f : Image). StillComes spelling c.loop.scan (drop c.loop.counter m) f) (sym held) (c.loop.invariant.shows m tells first) in
          let on = c.in-Ok-true.ensures.pairs (drop c.loop.counter m) tells here in
          subst (λ (f : Image). StillComes spelling c.advance.new.self (drop (c.loop.counter + 1) m) f) held
          (subst (λ (p : Map). StillComes spelling c.advance.new.self p w.seen.held) (drop_next c.loop.counter m) on.1);
      within = λ m tells first.
          let here = subst (λ (f : Image). StillComes spelling c.loop.scan (drop c.loop.counter m) f) (sym held) (c.loop.invariant.shows m tells first) in
          let on = c.in-Ok-true.ensures.pairs (drop c.loop.counter m) tells here in
          omega (arith, some_behind c.loop.counter m (ap is_some (sym on.0) ∙ some));
      said = λ m tells output first.
          let here = subst (λ (f : Image). StillComes spelling c.loop.scan (drop c.loop.counter m) f) (sym held) (c.loop.invariant.shows m tells first) in
          let on = c.in-Ok-true.ensures.pairs (drop c.loop.counter m) tells here in
          c.in-Ok.ensures.said output
          ∙ put_waits c.loop.counter m pair (sym on.0 ∙ sym c.in-Some.ensures.now) a.beside.said w.beside.said mid.beside.said (take c.loop.used c.loop.buffer) same (c.loop.invariant.said m tells output first);
      went = λ tells.
          passed_on c.loop.scan.tables c.args.scan.tables w.seen.held a.seen.held c.args.scan.merge.walks c.loop.scan.merge.walks c.advance.new.self.merge.walks c.loop.invariant.tables held (c.loop.invariant.went tells) (c.advance.ensures.passes tells);
      tables = c.advance.ensures.same.0 ∙ c.loop.invariant.tables;
      high = c.advance.ensures.high ∙ c.loop.invariant.high;
      left = λ none. c.in-Ok-true.ensures.counts ∙ ap₂ left_behind c.in-Ok-true.field-0-test (c.loop.invariant.left none);
      lines = λ output.
          line_more c.loop.counter a.beside.said w.beside.said mid.beside.said (take c.loop.used c.loop.buffer) (codes "put " ++ word_of pair.0 ++ codes " " ++ word_of pair.1)
          (b.beside.said ++ take c.in-Ok.waits c.add_put.new.buffer) same (c.in-Ok.ensures.said output) (c.loop.invariant.lines output);
      longer = omega (arith, c.loop.invariant.longer, ap length same, c.add_put.ensures.moves.told.longer);
      room = c.in-Ok.ensures.room;
      changes = changes_on a mid b (changes_on a w mid c.loop.invariant.changes (changes_read c.advance.ensures.moves.0 w mid c.advance.ensures.moves.1)) (changes_say mid b c.add_put.ensures.moves);
    }

-- ---- the output failed

pub returns-in-Err-add_put-clause-lines : goal.returns-in-Err-add_put-clause-lines
returns-in-Err-add_put-clause-lines g c m tells output few first =
    let a = g.W.Disk.world c.args.out.now in
    let w = g.W.Disk.world c.loop.out in
    let mid = g.W.Disk.world c.advance.new.disk in
    let b = g.W.Disk.world c.add_put.new.out in
    let pair : Bytes × Bytes = (c.in-Some.key.now, c.in-Some.value.now) in
    let here = subst (λ (f : Image). StillComes g.F.RangeFilter.spelling c.loop.scan (drop c.loop.counter m) f) (sym c.loop.invariant.changes.held) (c.loop.invariant.shows m tells first) in
    let on = c.in-Ok-true.ensures.pairs (drop c.loop.counter m) tells here in
    let same = ap (λ (s : Streams). s.said) c.advance.ensures.moves.1.beside in
    put_cut m a w mid b (take c.loop.used c.loop.buffer) c.loop.counter 6 (c.loop.invariant.said m tells output first) same (omega (arith, c.loop.invariant.longer, ap length same, c.add_put.ensures.moves.told.longer)) pair
    (sym on.0 ∙ sym c.in-Some.ensures.now) (c.add_put.ensures.prefix output) refl

pub returns-in-Err-add_put-clause-ends : goal.returns-in-Err-add_put-clause-ends
returns-in-Err-add_put-clause-ends g c =
    let a = g.W.Disk.world c.args.out.now in
    let w = g.W.Disk.world c.loop.out in
    let mid = g.W.Disk.world c.advance.new.disk in
    let read = changes_on a w mid c.loop.invariant.changes (changes_read c.advance.ensures.moves.0 w mid c.advance.ensures.moves.1) in
    inr (inr (inr (refl, rose_since a.beside.say_faults mid.beside.say_faults (g.W.Disk.world c.add_put.new.out).beside.say_faults read.counts.say c.in-Err-add_put.ensures.cause)))

-- ---- no scan has more pairs

pub returns-clause-whole : goal.returns-clause-whole
returns-clause-whole g c tells output done left =
    let all = c.say_last-2.ensures.said output done in
    inr (omega (arith, ap length all, c.loop.invariant.lines output, c.loop-test.false, c.loop.auto.counter-end))

pub returns-clause-lines : goal.returns-clause-lines
returns-clause-lines g c m tells output few first =
    let a = g.W.Disk.world c.args.out.now in
    let w = g.W.Disk.world c.loop.out in
    all_put m a w w (g.W.Disk.world c.say_last-2.new.out) (take c.loop.used c.loop.buffer) c.loop.counter c.say_last-2.result (c.loop.invariant.said m tells output first) refl
    (omega (arith, c.loop.invariant.longer, c.say_last-2.ensures.moves.told.longer)) (omega (arith, few, c.loop-test.false, c.loop.auto.counter-end)) (c.say_last-2.ensures.said output) (c.say_last-2.ensures.prefix output) c.say_last-2.ensures.ends
