use Rattle.std.proofs.Common.{◌≡◌, ◌∙◌, ◌+◌, ◌*◌, inl, inr, sym}
use Rattle.image_model.proofs.Opened.{opened_has_none}
use Rattle.key_base.specs.Limits.{max_tables}
use Rattle.surf_run.specs.Open.{IsFreeText, IsOpeningText, opening_status, opening_text}
use Rattle.surf_run.proofs.Checked.{changes_on, changes_read, changes_say}
use Rattle.lines_in.proofs.LastLines.{last_line, unserved}
use Rattle.surf_run.proofs.LastLines.{unserved_since}
use Rattle.surf_run.proofs.Openings.{damage_told, free_text, is_store, no_store_of, not_six, opening_is_text, opening_of, opening_statuses, refused_causes, told_damage, told_no_store}
use Rattle.surf_run.proofs.Readings.{read_moves, reading_ends}
use Rattle.table_file.specs.Faults.{filter_fault_of}
use Rattle.surf_run.proofs.reading.read_or_say.Goals as goal

pub returns-in-Ok-clause-opens_something : goal.returns-in-Ok-clause-opens_something
returns-in-Ok-clause-opens_something g c tells nothing =
    let opened = c.in-Ok.ensures.answer tells in
    elim nothing [
      | inl none ↦ is_store _ _ opened.opens.version_is none
      | inr found ↦ opened_has_none g.F.RangeFilter.spelling (filter_fault_of g.F.RangeFilter.first_fault) _ _ _ found.0 g.met.F.RangeFilter.spells_one opened.opens found.1
    ]

pub returns-in-Ok-clause-opened : goal.returns-in-Ok-clause-opened
returns-in-Ok-clause-opened g c tells = c.in-Ok.ensures.answer tells

pub returns-in-Err-clause-not_done : goal.returns-in-Err-clause-not_done
returns-in-Err-clause-not_done g c zero =
    let why = c.in-Err.why in
    let is = opening_of why (g.W.Disk.world c.args.out.now) (g.W.Disk.world c.read_store.new.disk) c.in-Err.ensures.cause in
    elim c.say_why.ensures.ends [
      | inl same ↦ elim (opening_statuses why is) [
        | inl seven ↦ let e : 7 ≡ 0 = sym (same ∙ seven) ∙ zero in cc
        | inr more ↦ elim more [
          | inl four ↦ let e : 4 ≡ 0 = sym (same ∙ four) ∙ zero in cc
          | inr more ↦ elim more [ inl five ↦ let e : 5 ≡ 0 = sym (same ∙ five) ∙ zero in cc | inr eight ↦ let e : 8 ≡ 0 = sym (same ∙ eight) ∙ zero in cc ]
        ]
      ]
      | inr six ↦ let e : 6 ≡ 0 = sym six.0 ∙ zero in cc
    ]

pub say_why-requires : goal.say_why-requires
say_why-requires g c = opening_of c.in-Err.why (g.W.Disk.world c.args.out.now) (g.W.Disk.world c.read_store.new.disk) c.in-Err.ensures.cause

pub returns-in-Err-clause-free : goal.returns-in-Err-clause-free
returns-in-Err-clause-free g c s tells output here =
    let mid = g.W.Disk.world c.read_store.new.disk in
    let why = c.in-Err.why in
    let is = opening_of why (g.W.Disk.world c.args.out.now) mid c.in-Err.ensures.cause in
    last_line IsFreeText (g.W.Disk.world c.args.out.now) mid (g.W.Disk.world c.say_why.new.out) c.read_store.ensures.moves.beside c.say_why.result (opening_status why) (opening_text why) (free_text why (c.in-Err.ensures.shows s tells here))
    (λ same. c.say_why.ensures.said output (λ six. not_six why is (sym same ∙ six))) (c.say_why.ensures.prefix output) c.say_why.ensures.ends

pub returns-in-Err-clause-failed : goal.returns-in-Err-clause-failed
returns-in-Err-clause-failed g c s tells here =
    elim c.say_why.ensures.ends [
      | inl same ↦ elim (free_text c.in-Err.why (c.in-Err.ensures.shows s tells here)) [ inl four ↦ inl (same ∙ four.0) | inr seven ↦ inr (inr (same ∙ seven.0)) ]
      | inr six ↦ inr (inl six.0)
    ]

pub returns-in-Err-clause-only_at_damage : goal.returns-in-Err-clause-only_at_damage
returns-in-Err-clause-only_at_damage g c tells output five =
    let old = g.W.Disk.world c.args.out.now in
    let mid = g.W.Disk.world c.read_store.new.disk in
    let why = c.in-Err.why in
    let is = opening_of why old mid c.in-Err.ensures.cause in
    elim c.say_why.ensures.ends [
      | inl same ↦ damage_told g.F.RangeFilter.spelling g.F.RangeFilter.first_fault why old.seen.held old mid (g.W.Disk.world c.say_why.new.out) (c.in-Err.ensures.answer tells) c.read_store.ensures.moves.beside
          (c.say_why.ensures.said output (λ six. not_six why is (sym same ∙ six))) (sym same ∙ five)
      | inr six ↦ absurd (let e : 6 ≡ 5 = sym six.0 ∙ five in cc)
    ]

pub returns-in-Err-clause-ends : goal.returns-in-Err-clause-ends
returns-in-Err-clause-ends g c =
    let old = g.W.Disk.world c.args.out.now in
    let mid = g.W.Disk.world c.read_store.new.disk in
    let new = g.W.Disk.world c.say_why.new.out in
    let why = c.in-Err.why in
    let is = opening_of why old mid c.in-Err.ensures.cause in
    let opened = read_moves (7 + 2 * max_tables) old mid c.read_store.ensures.moves in
    let spelling = g.F.RangeFilter.spelling in
    let first = g.F.RangeFilter.first_fault in
    let is_text = IsOpeningText spelling first old.seen.held in
    reading_ends spelling first g.W.Disk.tells g.W.Outside.tells_output c.say_why.result old new
    (record {
      unopened = λ tells output nothing.
          unserved_since is_text c.say_why.result old mid new opened (g.met.W.Outside.said_now c.args.out.now)
          (unserved is_text mid new (g.met.W.Outside.said_now c.read_store.new.disk) c.say_why.ensures.moves c.say_why.result (opening_status why) (opening_text why) (opening_is_text spelling first why old.seen.held (c.in-Err.ensures.answer tells))
          (c.say_why.ensures.prefix output) (λ same. c.say_why.ensures.said output (λ six. not_six why is (sym same ∙ six))) c.say_why.ensures.ends);
      told_of_damage = λ d tells damaged. told_damage spelling first why old.seen.held c.say_why.result mid new is (c.in-Err.ensures.answer tells) c.say_why.ensures.ends d damaged;
      told_of_no_store = λ tells none. told_no_store spelling first why old.seen.held c.say_why.result mid new is (c.in-Err.ensures.answer tells) c.say_why.ensures.ends none;
    })
    (λ tells eight.
    elim c.say_why.ensures.ends [
      | inl same ↦ no_store_of spelling first why old.seen.held (c.in-Err.ensures.answer tells) (sym same ∙ eight)
      | inr six ↦ absurd (let e : 6 ≡ 8 = sym six.0 ∙ eight in cc)
    ])
    (refused_causes why c.say_why.result old mid new c.in-Err.ensures.cause opened c.say_why.ensures.moves c.say_why.ensures.ends)
    (elim c.say_why.ensures.ends [
      | inl same ↦ elim (opening_statuses why is) [
        | inl seven ↦ inr (inr (inr (inr (inl (same ∙ seven)))))
        | inr more ↦ elim more [ inl four ↦ inr (inl (same ∙ four)) | inr more ↦ elim more [ inl five ↦ inr (inr (inl (same ∙ five))) | inr eight ↦ inr (inr (inr (inr (inr (same ∙ eight))))) ] ]
      ]
      | inr six ↦ inr (inr (inr (inl six.0)))
    ])
    (changes_on old mid new (changes_read (7 + 2 * max_tables) old mid c.read_store.ensures.moves) (changes_say mid new c.say_why.ensures.moves))
