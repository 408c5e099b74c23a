use Rattle.std.proofs.Common.{◌≡◌, ◌≤◌, ◌+◌, ◌*◌, ◌∙◌, ℕ, inl, inr, sym, ap, arith, length}
use Rattle.disk_trait.specs.World.{Streams}
use Rattle.image_model.proofs.Opened.{opened_has_none}
use Rattle.key_base.specs.Limits.{max_tables}
use Rattle.lines_in.proofs.EndCauses.{no_fall_on, no_fall_say}
use Rattle.lines_in.proofs.Footprint.{within_on, within_say, within_still}
use Rattle.lines_in.proofs.LastLines.{read_since, said_reads, unserved}
use Rattle.surf_run.specs.ServedOrNot.{opening_bound}
use Rattle.surf_run.specs.Open.{IsFreeText, IsOpeningText, opening_status, opening_text}
use Rattle.surf_run.proofs.LastLines.{unserved_since}
use Rattle.surf_run.proofs.Openings.{damage_told, free_text, is_store, no_store_of, not_six, open_moves, opening_is_text, opening_of, opening_statuses, refused_causes, told_damage, told_no_store}
use Rattle.table_file.specs.Faults.{filter_fault_of}
use Rattle.surf_run.proofs.opening.open_or_say.Goals as goal

few_reads : (new old tables : ℕ) → new ≤ old + 7 + 2 * tables → new ≤ old + (7 + 2 * tables)
few_reads new old tables le = omega (arith, le)

-- ---- an opened store

pub returns-in-Ok-clause-reads : goal.returns-in-Ok-clause-reads
returns-in-Ok-clause-reads g c s tells here = few_reads _ _ _ (c.open_store.ensures.reads s tells here)

pub returns-in-Ok-clause-slot : goal.returns-in-Ok-clause-slot
returns-in-Ok-clause-slot g c = c.consistency_law.ensures.slot

pub returns-in-Ok-clause-version : goal.returns-in-Ok-clause-version
returns-in-Ok-clause-version g c tells = let opened = c.in-Ok.ensures.answer tells in opened.opens.version_is

pub returns-in-Ok-clause-still : goal.returns-in-Ok-clause-still
returns-in-Ok-clause-still g c = open_moves (7 + 2 * max_tables) (g.W.Disk.world c.args.out.now) (g.W.Disk.world c.open_store.new.disk) c.open_store.ensures.moves

pub returns-in-Ok-clause-opens_something : goal.returns-in-Ok-clause-opens_something
returns-in-Ok-clause-opens_something g c tells nothing =
    let opened = c.in-Ok.ensures.answer tells in
    elim nothing [
      | inl none ↦ is_store _ _ opened.opens.version_is none
      | inr found ↦ opened_has_none g.F.RangeFilter.spelling (filter_fault_of g.F.RangeFilter.first_fault) _ _ _ found.0 g.met.F.RangeFilter.spells_one opened.opens found.1
    ]

pub returns-in-Ok-clause-moves : goal.returns-in-Ok-clause-moves
returns-in-Ok-clause-moves g c =
    let opened = open_moves (7 + 2 * max_tables) (g.W.Disk.world c.args.out.now) (g.W.Disk.world c.open_store.new.disk) c.open_store.ensures.moves in
    record { input = ap (λ (t : Streams). t.to_take) opened.beside; counts = opened.counts }

-- ---- none

pub say_why-requires : goal.say_why-requires
say_why-requires g c = opening_of c.in-Err.why (g.W.Disk.world c.args.out.now) (g.W.Disk.world c.open_store.new.disk) c.in-Err.ensures.cause

pub returns-in-Err-clause-reads : goal.returns-in-Err-clause-reads
returns-in-Err-clause-reads g c s tells here =
    let old = g.W.Disk.world c.args.out.now in
    let mid = g.W.Disk.world c.open_store.new.disk in
    let new = g.W.Disk.world c.say_why.new.out in
    read_since new.seen.reads mid.seen.reads (old.seen.reads + opening_bound s) (said_reads mid new c.say_why.ensures.moves)
    (few_reads mid.seen.reads old.seen.reads (length s.tables) (c.open_store.ensures.reads s tells here))

pub returns-in-Err-clause-unanswered : goal.returns-in-Err-clause-unanswered
returns-in-Err-clause-unanswered g c s tells output here =
    let old = g.W.Disk.world c.args.out.now in
    let mid = g.W.Disk.world c.open_store.new.disk in
    let new = g.W.Disk.world c.say_why.new.out in
    let why = c.in-Err.why in
    let is = opening_of why old mid c.in-Err.ensures.cause in
    let opened = open_moves (7 + 2 * max_tables) old mid c.open_store.ensures.moves in (
      unserved_since IsFreeText c.say_why.result old mid new opened (g.met.W.Outside.said_now c.args.out.now)
          (unserved IsFreeText mid new (g.met.W.Outside.said_now c.open_store.new.disk) c.say_why.ensures.moves c.say_why.result (opening_status why) (opening_text why) (free_text why (c.in-Err.ensures.opens s tells here))
          (c.say_why.ensures.prefix output) (λ same. c.say_why.ensures.said output (λ six. not_six why is (sym same ∙ six))) c.say_why.ensures.ends),
      read_since new.seen.reads mid.seen.reads (old.seen.reads + opening_bound s) (said_reads mid new c.say_why.ensures.moves)
          (few_reads mid.seen.reads old.seen.reads (length s.tables) (c.open_store.ensures.reads s tells here)),
    )

pub returns-in-Err-clause-ending : goal.returns-in-Err-clause-ending
returns-in-Err-clause-ending g c =
    let old = g.W.Disk.world c.args.out.now in
    let mid = g.W.Disk.world c.open_store.new.disk in
    let new = g.W.Disk.world c.say_why.new.out in
    let why = c.in-Err.why in
    let is = opening_of why old mid c.in-Err.ensures.cause in
    let opened = open_moves (7 + 2 * max_tables) old mid c.open_store.ensures.moves in
    let spelling = g.F.RangeFilter.spelling in
    let first = g.F.RangeFilter.first_fault in
    let is_text = IsOpeningText spelling first old.seen.held in
    record {
      unopened = λ tells output nothing.
          unserved_since is_text c.say_why.result old mid new opened (g.met.W.Outside.said_now c.args.out.now)
          (unserved is_text mid new (g.met.W.Outside.said_now c.open_store.new.disk) c.say_why.ensures.moves c.say_why.result (opening_status why) (opening_text why) (opening_is_text spelling first why old.seen.held (c.in-Err.ensures.answer tells))
          (c.say_why.ensures.prefix output) (λ same. c.say_why.ensures.said output (λ six. not_six why is (sym same ∙ six))) c.say_why.ensures.ends);
      told_of_damage = λ d tells damaged. told_damage spelling first why old.seen.held c.say_why.result mid new is (c.in-Err.ensures.answer tells) c.say_why.ensures.ends d damaged;
      told_of_no_store = λ tells none. told_no_store spelling first why old.seen.held c.say_why.result mid new is (c.in-Err.ensures.answer tells) c.say_why.ensures.ends none;
    }

pub returns-in-Err-clause-only_at_damage : goal.returns-in-Err-clause-only_at_damage
returns-in-Err-clause-only_at_damage g c tells output five =
    let old = g.W.Disk.world c.args.out.now in
    let mid = g.W.Disk.world c.open_store.new.disk in
    let why = c.in-Err.why in
    let is = opening_of why old mid c.in-Err.ensures.cause in
    elim c.say_why.ensures.ends [
      | inl same ↦ damage_told g.F.RangeFilter.spelling g.F.RangeFilter.first_fault why old.seen.held old mid (g.W.Disk.world c.say_why.new.out) (c.in-Err.ensures.answer tells) c.open_store.ensures.moves.beside
          (c.say_why.ensures.said output (λ six. not_six why is (sym same ∙ six))) (sym same ∙ five)
      | inr six ↦ absurd (let e : 6 ≡ 5 = sym six.0 ∙ five in cc)
    ]

pub returns-in-Err-clause-only_at_no_store : goal.returns-in-Err-clause-only_at_no_store
returns-in-Err-clause-only_at_no_store g c tells eight =
    elim c.say_why.ensures.ends [
      | inl same ↦ no_store_of g.F.RangeFilter.spelling g.F.RangeFilter.first_fault c.in-Err.why (g.W.Disk.world c.args.out.now).seen.held (c.in-Err.ensures.answer tells) (sym same ∙ eight)
      | inr six ↦ absurd (let e : 6 ≡ 8 = sym six.0 ∙ eight in cc)
    ]

pub returns-in-Err-clause-causes : goal.returns-in-Err-clause-causes
returns-in-Err-clause-causes g c =
    let old = g.W.Disk.world c.args.out.now in
    let mid = g.W.Disk.world c.open_store.new.disk in
    refused_causes c.in-Err.why c.say_why.result old mid (g.W.Disk.world c.say_why.new.out) c.in-Err.ensures.cause (open_moves (7 + 2 * max_tables) old mid c.open_store.ensures.moves) c.say_why.ensures.moves
    c.say_why.ensures.ends

pub returns-in-Err-clause-statuses : goal.returns-in-Err-clause-statuses
returns-in-Err-clause-statuses g c =
    let is = opening_of c.in-Err.why (g.W.Disk.world c.args.out.now) (g.W.Disk.world c.open_store.new.disk) c.in-Err.ensures.cause in
    elim c.say_why.ensures.ends [
      | inl same ↦ elim (opening_statuses c.in-Err.why is) [
        | inl seven ↦ inr (inr (inr (inl (same ∙ seven))))
        | inr more ↦ elim more [ inl four ↦ inl (same ∙ four) | inr more ↦ elim more [ inl five ↦ inr (inl (same ∙ five)) | inr eight ↦ inr (inr (inr (inr (same ∙ eight)))) ] ]
      ]
      | inr six ↦ inr (inr (inl six.0))
    ]

pub returns-in-Err-clause-moves : goal.returns-in-Err-clause-moves
returns-in-Err-clause-moves g c =
    let old = g.W.Disk.world c.args.out.now in
    let mid = g.W.Disk.world c.open_store.new.disk in
    let new = g.W.Disk.world c.say_why.new.out in
    let opened = open_moves (7 + 2 * max_tables) old mid c.open_store.ensures.moves in
    record { input = c.say_why.ensures.moves.to_take ∙ ap (λ (t : Streams). t.to_take) opened.beside; counts = no_fall_on old mid new opened.counts (no_fall_say mid new c.say_why.ensures.moves) }

pub returns-in-Err-clause-unwritten : goal.returns-in-Err-clause-unwritten
returns-in-Err-clause-unwritten g c n =
    let old = g.W.Disk.world c.args.out.now in
    let mid = g.W.Disk.world c.open_store.new.disk in
    let opened = open_moves (7 + 2 * max_tables) old mid c.open_store.ensures.moves in
    within_on n old mid (g.W.Disk.world c.say_why.new.out) (within_still n old mid opened.held opened.time) (within_say n mid (g.W.Disk.world c.say_why.new.out) c.say_why.ensures.moves)
