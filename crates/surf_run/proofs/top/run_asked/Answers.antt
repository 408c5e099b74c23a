use Rattle.std.proofs.Common.{◌≡◌, ◌⊎◌, ◌+◌, inl, inr, refl, sym, ◌∙◌, arith}
use Rattle.filter_api.specs.declared.settings.Field.{Field}
use Rattle.std.specs.Prelude.{None, Some, IsTrue}
use Rattle.line_model.specs.Replies.{Memory, text_of}
use Rattle.lines_in.specs.Causes.{EndsAt}
use Rattle.lines_in.specs.Unserved.{Unserved}
use Rattle.lines_in.proofs.Footprint.{within_say}
use Rattle.lines_in.proofs.LastLines.{read_since, said_reads, unserved}
use Rattle.program_words.specs.declared.load.Load.{Load}
use Rattle.program_words.specs.declared.new_store.NewStore.{NewStore}
use Rattle.surf_run.specs.ServedOrNot.{NoLineAnswered, TellsDamage, opening_bound}
use Rattle.surf_run.specs.Formats.{bad_settings_text}
use Rattle.surf_run.specs.Kind.{filter_kind}
use Rattle.surf_run.specs.Loads.{IsLoading, LoadEnds, Loads}
use Rattle.surf_run.specs.Open.{IsFreeText, IsOpeningText, OpeningEnds}
use Rattle.surf_run.specs.Resetting.{IsResetEnd, IsResetting, OpenedThenReset, ResetEnds, TellsWhich}
use Rattle.surf_run.specs.Run.{FormatEnds, IsBadSettingsText, IsHelpText, IsMemoryText, IsUsageText, usage_text}
use Rattle.surf_run.specs.declared.new_numbers.NewNumbers.{NewNumbers}
use Rattle.surf_run.proofs.Asking.{at_bad, at_build_map, at_check, at_dump, at_format, at_help, at_load, at_refused, at_serve, at_serve_map, at_tables, build_map_is_asked, check_is_asked, grow_opens, grow_opens_so, grow_is_reset, grow_reset, load_is_asked, load_opens, load_opens_so, memory_bad, memory_build_map, memory_check, memory_dump, memory_help, memory_load, memory_opens, memory_refused, memory_reset, memory_serve, memory_serve_map, memory_tables, serve_map_is_asked, serve_opens, settings_in_its_range, settings_is_reset, settings_opens, settings_opens_so, settings_reset}
use Rattle.surf_run.proofs.Checked.{check_as_statuses, checking_never_eleven, checking_never_five, checking_never_ten, checking_never_three, checking_never_two, loading_never_eleven, loading_never_twelve, memory_ends, reset_never_eleven, reset_never_twelve, serving_never_eleven, serving_never_twelve}
use Rattle.surf_run.proofs.LoadEnds.{as_statuses, never_two}
use Rattle.surf_run.proofs.MapRuns.{build_as_statuses, build_never, map_as_statuses, map_never}
use Rattle.surf_run.proofs.NewNumbersSet.{loading_never_ten, never_two as reset_never_two, reset_as_statuses, serving_never_ten}
use Rattle.surf_run.proofs.Readings.{memory_dump_end, memory_tables_end, reading_as_statuses, reading_never}
use Rattle.surf_run.proofs.top.run_asked.Goals as goal

-- a line of this status
ends_at : {A B C : Type 0} → A ⊎ C → A ⊎ B ⊎ C
ends_at (inl a) = inl a
ends_at (inr c) = inr (inr c)

pub returns-in-Serve-clause-early : goal.returns-in-Serve-clause-early
returns-in-Serve-clause-early g c = at_serve c.args.asked _ c.in-Serve.is c.open_and_serve.ensures.early

pub returns-in-Serve-clause-answers : goal.returns-in-Serve-clause-answers
returns-in-Serve-clause-answers g c s tells input output here = at_serve c.args.asked _ c.in-Serve.is (c.open_and_serve.ensures.answers s tells input output here)

pub returns-in-Serve-clause-complete : goal.returns-in-Serve-clause-complete
returns-in-Serve-clause-complete g c s tells input output here none = at_serve c.args.asked _ c.in-Serve.is (c.open_and_serve.ensures.complete s tells input output here none)

pub returns-in-Serve-clause-ending : goal.returns-in-Serve-clause-ending
returns-in-Serve-clause-ending g c = serve_opens c.args.asked _ c.in-Serve.is c.open_and_serve.ensures.ending

pub returns-in-Serve-clause-at_ten : goal.returns-in-Serve-clause-at_ten
returns-in-Serve-clause-at_ten g c ten = absurd (serving_never_ten c.open_and_serve.result c.open_and_serve.ensures.statuses ten)

pub returns-in-Serve-clause-only_at_damage : goal.returns-in-Serve-clause-only_at_damage
returns-in-Serve-clause-only_at_damage g c tells input output five = elim (c.open_and_serve.ensures.only_at_damage tells input output five) [ inl told ↦ inl told | inr none ↦ inr (inl (none.0, inl none.1)) ]

pub returns-in-Load-clause-loaded : goal.returns-in-Load-clause-loaded
returns-in-Load-clause-loaded g c s tells output now =
    let kind = filter_kind g.F.RangeFilter.spelling g.F.RangeFilter.built_cutoff in
    let old = g.W.Disk.world c.args.out.now in
    let new = g.W.Disk.world c.open_and_load.new.out in
    at_load c.args.asked c.in-Load.load (λ (load : Load). LoadEnds kind c.open_and_load.result s load.seed load.count old new ⊎ NoLineAnswered c.open_and_load.result s old new) _ c.in-Load.is
    (c.open_and_load.ensures.outcome s tells output now)

pub returns-in-Load-clause-loads : goal.returns-in-Load-clause-loads
returns-in-Load-clause-loads g c s tells output here =
    let kind = filter_kind g.F.RangeFilter.spelling g.F.RangeFilter.built_cutoff in
    let old = g.W.Disk.world c.args.out.now in
    let new = g.W.Disk.world c.open_and_load.new.out in
    at_load c.args.asked c.in-Load.load
    (λ (load : Load). ((opened : _) × Loads kind c.open_and_load.result s load.seed load.count old (g.W.Disk.world opened) new) ⊎ NoLineAnswered c.open_and_load.result s old new) _ c.in-Load.is
    (c.open_and_load.ensures.answers s tells output here)

pub returns-in-Load-clause-load_complete : goal.returns-in-Load-clause-load_complete
returns-in-Load-clause-load_complete g c s tells output here none =
    at_load c.args.asked c.in-Load.load (λ (load : Load). (c.open_and_load.result ≡ 0) ⊎ (c.open_and_load.result ≡ 7)) _ c.in-Load.is (c.open_and_load.ensures.complete s tells output here none)

pub returns-in-Load-clause-load_statuses : goal.returns-in-Load-clause-load_statuses
returns-in-Load-clause-load_statuses g c =
    at_load c.args.asked c.in-Load.load (λ (load : Load). IsLoading c.open_and_load.result ⊎ (c.open_and_load.result ≡ 8)) _ c.in-Load.is c.open_and_load.ensures.statuses

pub returns-in-Load-clause-ending : goal.returns-in-Load-clause-ending
returns-in-Load-clause-ending g c = load_opens c.args.asked c.in-Load.load _ c.in-Load.is c.open_and_load.ensures.ending

pub returns-in-Load-clause-only_at_no_store : goal.returns-in-Load-clause-only_at_no_store
returns-in-Load-clause-only_at_no_store g c tells eight = load_opens_so c.args.asked c.in-Load.load _ c.in-Load.is (c.open_and_load.ensures.only_at_no_store tells eight)

pub returns-in-Load-clause-only_at_damage : goal.returns-in-Load-clause-only_at_damage
returns-in-Load-clause-only_at_damage g c tells input output five = elim (c.open_and_load.ensures.only_at_damage tells output five) [
  | inl told ↦ inl told
  | inr none ↦ inr (inl (none.0, elim none.1 [ inl shown ↦ inl shown | inr unsaid ↦ inr (load_is_asked c.args.asked c.in-Load.load c.in-Load.is, unsaid.1) ]))
]

pub returns-in-Load-clause-at_ten : goal.returns-in-Load-clause-at_ten
returns-in-Load-clause-at_ten g c ten = absurd (loading_never_ten c.open_and_load.result c.open_and_load.ensures.statuses ten)

pub returns-in-Load-clause-statuses : goal.returns-in-Load-clause-statuses
returns-in-Load-clause-statuses g c = as_statuses c.open_and_load.result c.open_and_load.ensures.statuses

pub returns-in-Load-clause-only_at_wrong_words : goal.returns-in-Load-clause-only_at_wrong_words
returns-in-Load-clause-only_at_wrong_words g c two = absurd (never_two c.open_and_load.result c.open_and_load.ensures.statuses two)

pub open_and_reset-requires : goal.open_and_reset-requires
open_and_reset-requires g c = settings_in_its_range c.args.asked c.in-Settings.settings c.in-Settings.is c.requires

pub returns-in-Settings-clause-reset : goal.returns-in-Settings-clause-reset
returns-in-Settings-clause-reset g c s tells output now =
    let kind = filter_kind g.F.RangeFilter.spelling g.F.RangeFilter.built_cutoff in
    let old = g.W.Disk.world c.args.out.now in
    let new = g.W.Disk.world c.open_and_reset.new.out in
    settings_reset c.args.asked c.in-Settings.settings (λ (n : NewNumbers). ResetEnds kind n c.open_and_reset.result s old new ⊎ NoLineAnswered c.open_and_reset.result s old new) _ c.in-Settings.is (c.open_and_reset.ensures.outcome s tells output now)

pub returns-in-Settings-clause-resets : goal.returns-in-Settings-clause-resets
returns-in-Settings-clause-resets g c s tells output here =
    let kind = filter_kind g.F.RangeFilter.spelling g.F.RangeFilter.built_cutoff in
    let old = g.W.Disk.world c.args.out.now in
    let new = g.W.Disk.world c.open_and_reset.new.out in
    settings_reset c.args.asked c.in-Settings.settings
    (λ (n : NewNumbers). ((opened : _) × OpenedThenReset kind n c.open_and_reset.result s old (g.W.Disk.world opened) new) ⊎ NoLineAnswered c.open_and_reset.result s old new) _ c.in-Settings.is (c.open_and_reset.ensures.answers s tells output here)

pub returns-in-Settings-clause-reset_complete : goal.returns-in-Settings-clause-reset_complete
returns-in-Settings-clause-reset_complete g c s tells output here none =
    settings_reset c.args.asked c.in-Settings.settings (λ (n : NewNumbers). IsResetEnd c.open_and_reset.result) _ c.in-Settings.is (c.open_and_reset.ensures.complete s tells output here none)

pub returns-in-Settings-clause-reset_statuses : goal.returns-in-Settings-clause-reset_statuses
returns-in-Settings-clause-reset_statuses g c = settings_reset c.args.asked c.in-Settings.settings (λ (n : NewNumbers). IsResetting c.open_and_reset.result) _ c.in-Settings.is c.open_and_reset.ensures.statuses

pub returns-in-Settings-clause-at_eight : goal.returns-in-Settings-clause-at_eight
returns-in-Settings-clause-at_eight g c tells eight =
    let old = g.W.Disk.world c.args.out.now in
    settings_reset c.args.asked c.in-Settings.settings (λ (n : NewNumbers). TellsWhich (IsTrue g.W.Outside.tells_output) n old.seen.held old (g.W.Disk.world c.open_and_reset.new.out)) _ c.in-Settings.is (c.open_and_reset.ensures.at_eight tells eight)

pub returns-in-Settings-clause-ending : goal.returns-in-Settings-clause-ending
returns-in-Settings-clause-ending g c = settings_opens c.args.asked c.in-Settings.settings _ c.in-Settings.is c.open_and_reset.ensures.ending

pub returns-in-Settings-clause-only_at_no_store : goal.returns-in-Settings-clause-only_at_no_store
returns-in-Settings-clause-only_at_no_store g c tells eight =
    settings_opens_so c.args.asked c.in-Settings.settings _ c.in-Settings.is
    (elim (c.open_and_reset.ensures.at_eight tells eight) [ inl none ↦ none.0 | inr bad ↦ absurd (let f : None ≡ Some bad.0 = bad.1.2 in cc) ])

pub returns-in-Settings-clause-reset_at_damage : goal.returns-in-Settings-clause-reset_at_damage
returns-in-Settings-clause-reset_at_damage g c tells output five =
    let old = g.W.Disk.world c.args.out.now in
    settings_reset c.args.asked c.in-Settings.settings (λ (n : NewNumbers). TellsDamage g.F.RangeFilter.spelling g.F.RangeFilter.first_fault old.seen.held old (g.W.Disk.world c.open_and_reset.new.out)) _ c.in-Settings.is
    (c.open_and_reset.ensures.only_at_damage tells output five)

pub returns-in-Settings-clause-at_ten : goal.returns-in-Settings-clause-at_ten
returns-in-Settings-clause-at_ten g c ten = (settings_is_reset c.args.asked c.in-Settings.settings c.in-Settings.is, λ tells. c.open_and_reset.ensures.at_ten tells ten)

pub returns-in-Settings-clause-only_at_damage : goal.returns-in-Settings-clause-only_at_damage
returns-in-Settings-clause-only_at_damage g c tells input output five = inl (c.open_and_reset.ensures.only_at_damage tells output five)

pub returns-in-Settings-clause-statuses : goal.returns-in-Settings-clause-statuses
returns-in-Settings-clause-statuses g c = reset_as_statuses c.open_and_reset.result c.open_and_reset.ensures.statuses

pub returns-in-Settings-clause-only_at_wrong_words : goal.returns-in-Settings-clause-only_at_wrong_words
returns-in-Settings-clause-only_at_wrong_words g c two = absurd (reset_never_two c.open_and_reset.result c.open_and_reset.ensures.statuses two)

pub open_and_reset-requires-in-Grow : goal.open_and_reset-requires-in-Grow
open_and_reset-requires-in-Grow g c = tt

pub returns-in-Grow-clause-reset : goal.returns-in-Grow-clause-reset
returns-in-Grow-clause-reset g c s tells output now =
    let kind = filter_kind g.F.RangeFilter.spelling g.F.RangeFilter.built_cutoff in
    let old = g.W.Disk.world c.args.out.now in
    let new = g.W.Disk.world c.open_and_reset-in-Grow.new.out in
    grow_reset c.args.asked c.in-Grow.pages (λ (n : NewNumbers). ResetEnds kind n c.open_and_reset-in-Grow.result s old new ⊎ NoLineAnswered c.open_and_reset-in-Grow.result s old new) _ c.in-Grow.is (c.open_and_reset-in-Grow.ensures.outcome s tells output now)

pub returns-in-Grow-clause-resets : goal.returns-in-Grow-clause-resets
returns-in-Grow-clause-resets g c s tells output here =
    let kind = filter_kind g.F.RangeFilter.spelling g.F.RangeFilter.built_cutoff in
    let old = g.W.Disk.world c.args.out.now in
    let new = g.W.Disk.world c.open_and_reset-in-Grow.new.out in
    grow_reset c.args.asked c.in-Grow.pages
    (λ (n : NewNumbers). ((opened : _) × OpenedThenReset kind n c.open_and_reset-in-Grow.result s old (g.W.Disk.world opened) new) ⊎ NoLineAnswered c.open_and_reset-in-Grow.result s old new) _ c.in-Grow.is (c.open_and_reset-in-Grow.ensures.answers s tells output here)

pub returns-in-Grow-clause-reset_complete : goal.returns-in-Grow-clause-reset_complete
returns-in-Grow-clause-reset_complete g c s tells output here none =
    grow_reset c.args.asked c.in-Grow.pages (λ (n : NewNumbers). IsResetEnd c.open_and_reset-in-Grow.result) _ c.in-Grow.is (c.open_and_reset-in-Grow.ensures.complete s tells output here none)

pub returns-in-Grow-clause-reset_statuses : goal.returns-in-Grow-clause-reset_statuses
returns-in-Grow-clause-reset_statuses g c = grow_reset c.args.asked c.in-Grow.pages (λ (n : NewNumbers). IsResetting c.open_and_reset-in-Grow.result) _ c.in-Grow.is c.open_and_reset-in-Grow.ensures.statuses

pub returns-in-Grow-clause-at_eight : goal.returns-in-Grow-clause-at_eight
returns-in-Grow-clause-at_eight g c tells eight =
    let old = g.W.Disk.world c.args.out.now in
    grow_reset c.args.asked c.in-Grow.pages (λ (n : NewNumbers). TellsWhich (IsTrue g.W.Outside.tells_output) n old.seen.held old (g.W.Disk.world c.open_and_reset-in-Grow.new.out)) _ c.in-Grow.is (c.open_and_reset-in-Grow.ensures.at_eight tells eight)

pub returns-in-Grow-clause-ending : goal.returns-in-Grow-clause-ending
returns-in-Grow-clause-ending g c = grow_opens c.args.asked c.in-Grow.pages _ c.in-Grow.is c.open_and_reset-in-Grow.ensures.ending

pub returns-in-Grow-clause-only_at_no_store : goal.returns-in-Grow-clause-only_at_no_store
returns-in-Grow-clause-only_at_no_store g c tells eight = grow_opens_so c.args.asked c.in-Grow.pages _ c.in-Grow.is

pub returns-in-Grow-clause-reset_at_damage : goal.returns-in-Grow-clause-reset_at_damage
returns-in-Grow-clause-reset_at_damage g c tells output five =
    let old = g.W.Disk.world c.args.out.now in
    grow_reset c.args.asked c.in-Grow.pages (λ (n : NewNumbers). TellsDamage g.F.RangeFilter.spelling g.F.RangeFilter.first_fault old.seen.held old (g.W.Disk.world c.open_and_reset-in-Grow.new.out)) _ c.in-Grow.is
    (c.open_and_reset-in-Grow.ensures.only_at_damage tells output five)

pub returns-in-Grow-clause-at_ten : goal.returns-in-Grow-clause-at_ten
returns-in-Grow-clause-at_ten g c ten = (grow_is_reset c.args.asked c.in-Grow.pages c.in-Grow.is, λ tells. c.open_and_reset-in-Grow.ensures.at_ten tells ten)

pub returns-in-Grow-clause-only_at_damage : goal.returns-in-Grow-clause-only_at_damage
returns-in-Grow-clause-only_at_damage g c tells input output five = inl (c.open_and_reset-in-Grow.ensures.only_at_damage tells output five)

pub returns-in-Grow-clause-statuses : goal.returns-in-Grow-clause-statuses
returns-in-Grow-clause-statuses g c = reset_as_statuses c.open_and_reset-in-Grow.result c.open_and_reset-in-Grow.ensures.statuses

pub returns-in-Grow-clause-only_at_wrong_words : goal.returns-in-Grow-clause-only_at_wrong_words
returns-in-Grow-clause-only_at_wrong_words g c two = absurd (reset_never_two c.open_and_reset-in-Grow.result c.open_and_reset-in-Grow.ensures.statuses two)

pub returns-in-Format-clause-formatted : goal.returns-in-Format-clause-formatted
returns-in-Format-clause-formatted g c tells output =
    at_format c.args.asked c.in-Format.store (λ (store : NewStore). FormatEnds g.F.RangeFilter.spelling store c.run_format.result (g.W.Disk.world c.args.out.now) (g.W.Disk.world c.run_format.new.out)) _ c.in-Format.is
    (inl (c.run_format.ensures.formatted tells output, c.run_format.ensures.input, c.run_format.ensures.footprint))

pub returns-in-BadSettings-clause-bad_settings : goal.returns-in-BadSettings-clause-bad_settings
returns-in-BadSettings-clause-bad_settings g c output =
    at_bad c.args.asked c.in-BadSettings.field (λ (field : Field). Unserved (IsBadSettingsText field) c.say_bad_settings.result (g.W.Disk.world c.args.out.now) (g.W.Disk.world c.say_bad_settings.new.out)) _ c.in-BadSettings.is
    (unserved (IsBadSettingsText c.in-BadSettings.field) (g.W.Disk.world c.args.out.now) (g.W.Disk.world c.say_bad_settings.new.out) (g.met.W.Outside.said_now c.args.out.now) c.say_bad_settings.ensures.moves c.say_bad_settings.result 8 (bad_settings_text c.in-BadSettings.field) (inl (refl, refl))
    (c.say_bad_settings.ensures.prefix output) (c.say_bad_settings.ensures.said output) c.say_bad_settings.ensures.ends)

pub returns-in-BadSettings-clause-told_of_bad_settings : goal.returns-in-BadSettings-clause-told_of_bad_settings
returns-in-BadSettings-clause-told_of_bad_settings g c =
    at_bad c.args.asked c.in-BadSettings.field (λ (field : Field). EndsAt 8 c.say_bad_settings.result (g.W.Disk.world c.args.out.now) (g.W.Disk.world c.say_bad_settings.new.out)) _ c.in-BadSettings.is (ends_at c.say_bad_settings.ensures.ends)

pub returns-in-Help-clause-told_of_help : goal.returns-in-Help-clause-told_of_help
returns-in-Help-clause-told_of_help g c = at_help c.args.asked c.in-Help.text _ c.in-Help.is (ends_at c.say_last.ensures.ends)

pub returns-in-Help-clause-helped : goal.returns-in-Help-clause-helped
returns-in-Help-clause-helped g c output =
    at_help c.args.asked c.in-Help.text _ c.in-Help.is
    (unserved IsHelpText (g.W.Disk.world c.args.out.now) (g.W.Disk.world c.say_last.new.out) (g.met.W.Outside.said_now c.args.out.now) c.say_last.ensures.moves c.say_last.result 0 c.as_bytes.result.now (inl refl)
    (c.say_last.ensures.prefix output) (c.say_last.ensures.said output) c.say_last.ensures.ends)

pub returns-in-Refused-clause-refused : goal.returns-in-Refused-clause-refused
returns-in-Refused-clause-refused g c output =
    at_refused c.args.asked _ c.in-Refused.is
    (unserved IsUsageText (g.W.Disk.world c.args.out.now) (g.W.Disk.world c.say_last-in-Refused.new.out) (g.met.W.Outside.said_now c.args.out.now) c.say_last-in-Refused.ensures.moves c.say_last-in-Refused.result 2 usage_text (inl (refl, refl))
    (c.say_last-in-Refused.ensures.prefix output) (c.say_last-in-Refused.ensures.said output) c.say_last-in-Refused.ensures.ends)

pub returns-in-Memory-clause-outcome : goal.returns-in-Memory-clause-outcome
returns-in-Memory-clause-outcome g c s tells input output now =
    memory_serve c.args.asked _ c.in-Memory.is (inr (
      unserved IsFreeText (g.W.Disk.world c.args.out.now) (g.W.Disk.world c.last_line.new.out) (g.met.W.Outside.said_now c.args.out.now) c.last_line.ensures.moves c.last_line.result 7 (text_of Memory) (inr (refl, refl))
          (c.last_line.ensures.prefix output) (c.last_line.ensures.said output tt) c.last_line.ensures.ends,
      read_since (g.W.Disk.world c.last_line.new.out).seen.reads (g.W.Disk.world c.args.out.now).seen.reads ((g.W.Disk.world c.args.out.now).seen.reads + opening_bound s)
          (said_reads (g.W.Disk.world c.args.out.now) (g.W.Disk.world c.last_line.new.out) c.last_line.ensures.moves) (omega arith),
    ))

pub returns-in-Memory-clause-answers : goal.returns-in-Memory-clause-answers
returns-in-Memory-clause-answers g c s tells input output here =
    memory_serve c.args.asked _ c.in-Memory.is (inr (
      unserved IsFreeText (g.W.Disk.world c.args.out.now) (g.W.Disk.world c.last_line.new.out) (g.met.W.Outside.said_now c.args.out.now) c.last_line.ensures.moves c.last_line.result 7 (text_of Memory) (inr (refl, refl))
          (c.last_line.ensures.prefix output) (c.last_line.ensures.said output tt) c.last_line.ensures.ends,
      read_since (g.W.Disk.world c.last_line.new.out).seen.reads (g.W.Disk.world c.args.out.now).seen.reads ((g.W.Disk.world c.args.out.now).seen.reads + opening_bound s)
          (said_reads (g.W.Disk.world c.args.out.now) (g.W.Disk.world c.last_line.new.out) c.last_line.ensures.moves) (omega arith),
    ))

pub returns-in-Memory-clause-early : goal.returns-in-Memory-clause-early
returns-in-Memory-clause-early g c = memory_serve c.args.asked _ c.in-Memory.is (λ _. c.last_line.ensures.moves.to_take)

pub returns-in-Memory-clause-told_of_bad_settings : goal.returns-in-Memory-clause-told_of_bad_settings
returns-in-Memory-clause-told_of_bad_settings g c = memory_bad c.args.asked _ _ c.in-Memory.is (inr c.last_line.ensures.ends)

pub returns-in-Memory-clause-told_of_help : goal.returns-in-Memory-clause-told_of_help
returns-in-Memory-clause-told_of_help g c = memory_help c.args.asked _ c.in-Memory.is (inr c.last_line.ensures.ends)

pub returns-in-Memory-clause-ending : goal.returns-in-Memory-clause-ending
returns-in-Memory-clause-ending g c =
    let old = g.W.Disk.world c.args.out.now in
    let new = g.W.Disk.world c.last_line.new.out in
    let status : (c.last_line.result ≡ 6) ⊎ (c.last_line.result ≡ 7) = elim c.last_line.ensures.ends [ inl seven ↦ inr seven | inr six ↦ inl six.0 ] in
    memory_opens c.args.asked (OpeningEnds g.F.RangeFilter.spelling g.F.RangeFilter.first_fault g.W.Disk.tells g.W.Outside.tells_output c.last_line.result old new) c.in-Memory.is record {
      unopened = λ tells output nothing.
          unserved (IsOpeningText g.F.RangeFilter.spelling g.F.RangeFilter.first_fault old.seen.held) old new (g.met.W.Outside.said_now c.args.out.now) c.last_line.ensures.moves c.last_line.result 7 (text_of Memory) (inl (inr (refl, refl)))
          (c.last_line.ensures.prefix output) (c.last_line.ensures.said output tt) c.last_line.ensures.ends;
      told_of_damage = λ d tells damaged. inr (inr status);
      told_of_no_store = λ tells none. inr (inr status);
    }

pub returns-in-Memory-clause-helped : goal.returns-in-Memory-clause-helped
returns-in-Memory-clause-helped g c output =
    memory_help c.args.asked _ c.in-Memory.is
    (unserved IsHelpText (g.W.Disk.world c.args.out.now) (g.W.Disk.world c.last_line.new.out) (g.met.W.Outside.said_now c.args.out.now) c.last_line.ensures.moves c.last_line.result 7 (text_of Memory) (inr (refl, refl))
    (c.last_line.ensures.prefix output) (c.last_line.ensures.said output tt) c.last_line.ensures.ends)

pub returns-in-Memory-clause-refused : goal.returns-in-Memory-clause-refused
returns-in-Memory-clause-refused g c output =
    memory_refused c.args.asked _ c.in-Memory.is
    (unserved IsUsageText (g.W.Disk.world c.args.out.now) (g.W.Disk.world c.last_line.new.out) (g.met.W.Outside.said_now c.args.out.now) c.last_line.ensures.moves c.last_line.result 7 (text_of Memory) (inr (refl, refl))
    (c.last_line.ensures.prefix output) (c.last_line.ensures.said output tt) c.last_line.ensures.ends)

pub returns-in-Memory-clause-loaded : goal.returns-in-Memory-clause-loaded
returns-in-Memory-clause-loaded g c s tells output now =
    memory_load c.args.asked _ _ c.in-Memory.is (
      unserved IsFreeText (g.W.Disk.world c.args.out.now) (g.W.Disk.world c.last_line.new.out) (g.met.W.Outside.said_now c.args.out.now) c.last_line.ensures.moves c.last_line.result 7 (text_of Memory) (inr (refl, refl))
          (c.last_line.ensures.prefix output) (c.last_line.ensures.said output tt) c.last_line.ensures.ends,
      read_since (g.W.Disk.world c.last_line.new.out).seen.reads (g.W.Disk.world c.args.out.now).seen.reads ((g.W.Disk.world c.args.out.now).seen.reads + opening_bound s)
          (said_reads (g.W.Disk.world c.args.out.now) (g.W.Disk.world c.last_line.new.out) c.last_line.ensures.moves) (omega arith),
    )

pub returns-in-Memory-clause-loads : goal.returns-in-Memory-clause-loads
returns-in-Memory-clause-loads g c s tells output here =
    memory_load c.args.asked _ _ c.in-Memory.is (
      unserved IsFreeText (g.W.Disk.world c.args.out.now) (g.W.Disk.world c.last_line.new.out) (g.met.W.Outside.said_now c.args.out.now) c.last_line.ensures.moves c.last_line.result 7 (text_of Memory) (inr (refl, refl))
          (c.last_line.ensures.prefix output) (c.last_line.ensures.said output tt) c.last_line.ensures.ends,
      read_since (g.W.Disk.world c.last_line.new.out).seen.reads (g.W.Disk.world c.args.out.now).seen.reads ((g.W.Disk.world c.args.out.now).seen.reads + opening_bound s)
          (said_reads (g.W.Disk.world c.args.out.now) (g.W.Disk.world c.last_line.new.out) c.last_line.ensures.moves) (omega arith),
    )

pub returns-in-Memory-clause-load_complete : goal.returns-in-Memory-clause-load_complete
returns-in-Memory-clause-load_complete g c s tells output here none =
    memory_load c.args.asked _ _ c.in-Memory.is (elim c.last_line.ensures.ends [ inl seven ↦ inr seven | inr six ↦ absurd (none (inr (inr six.1))) ])

pub returns-in-Memory-clause-load_statuses : goal.returns-in-Memory-clause-load_statuses
returns-in-Memory-clause-load_statuses g c =
    memory_load c.args.asked _ _ c.in-Memory.is (elim c.last_line.ensures.ends [ inl seven ↦ inl (inr (inr (inr (inr seven)))) | inr six ↦ inl (inr (inr (inr (inl six.0)))) ])

pub returns-in-Memory-clause-reset : goal.returns-in-Memory-clause-reset
returns-in-Memory-clause-reset g c s tells output now =
    memory_reset c.args.asked _ _ c.in-Memory.is (
      unserved IsFreeText (g.W.Disk.world c.args.out.now) (g.W.Disk.world c.last_line.new.out) (g.met.W.Outside.said_now c.args.out.now) c.last_line.ensures.moves c.last_line.result 7 (text_of Memory) (inr (refl, refl))
          (c.last_line.ensures.prefix output) (c.last_line.ensures.said output tt) c.last_line.ensures.ends,
      read_since (g.W.Disk.world c.last_line.new.out).seen.reads (g.W.Disk.world c.args.out.now).seen.reads ((g.W.Disk.world c.args.out.now).seen.reads + opening_bound s)
          (said_reads (g.W.Disk.world c.args.out.now) (g.W.Disk.world c.last_line.new.out) c.last_line.ensures.moves) (omega arith),
    )

pub returns-in-Memory-clause-resets : goal.returns-in-Memory-clause-resets
returns-in-Memory-clause-resets g c s tells output here =
    memory_reset c.args.asked _ _ c.in-Memory.is (
      unserved IsFreeText (g.W.Disk.world c.args.out.now) (g.W.Disk.world c.last_line.new.out) (g.met.W.Outside.said_now c.args.out.now) c.last_line.ensures.moves c.last_line.result 7 (text_of Memory) (inr (refl, refl))
          (c.last_line.ensures.prefix output) (c.last_line.ensures.said output tt) c.last_line.ensures.ends,
      read_since (g.W.Disk.world c.last_line.new.out).seen.reads (g.W.Disk.world c.args.out.now).seen.reads ((g.W.Disk.world c.args.out.now).seen.reads + opening_bound s)
          (said_reads (g.W.Disk.world c.args.out.now) (g.W.Disk.world c.last_line.new.out) c.last_line.ensures.moves) (omega arith),
    )

pub returns-in-Memory-clause-reset_complete : goal.returns-in-Memory-clause-reset_complete
returns-in-Memory-clause-reset_complete g c s tells output here none =
    memory_reset c.args.asked _ _ c.in-Memory.is (elim c.last_line.ensures.ends [ inl seven ↦ inr (inl seven) | inr six ↦ absurd (none (inr (inr six.1))) ])

pub returns-in-Memory-clause-reset_statuses : goal.returns-in-Memory-clause-reset_statuses
returns-in-Memory-clause-reset_statuses g c =
    memory_reset c.args.asked _ _ c.in-Memory.is (elim c.last_line.ensures.ends [ inl seven ↦ inr (inr (inr (inr (inl seven)))) | inr six ↦ inr (inr (inr (inl six.0))) ])

pub returns-in-Memory-clause-reset_at_damage : goal.returns-in-Memory-clause-reset_at_damage
returns-in-Memory-clause-reset_at_damage g c tells output five = absurd (elim c.last_line.ensures.ends [ inl seven ↦ let f : 7 ≡ 5 = sym seven ∙ five in cc | inr six ↦ let f : 6 ≡ 5 = sym six.0 ∙ five in cc ])

pub returns-in-Memory-clause-at_eight : goal.returns-in-Memory-clause-at_eight
returns-in-Memory-clause-at_eight g c tells eight = absurd (elim c.last_line.ensures.ends [ inl seven ↦ let f : 7 ≡ 8 = sym seven ∙ eight in cc | inr six ↦ let f : 6 ≡ 8 = sym six.0 ∙ eight in cc ])

-- ---- where it writes

pub returns-in-Serve-clause-within : goal.returns-in-Serve-clause-within
returns-in-Serve-clause-within g c v tells is = serve_opens c.args.asked _ c.in-Serve.is (c.open_and_serve.ensures.within v tells is)

pub returns-in-Load-clause-within : goal.returns-in-Load-clause-within
returns-in-Load-clause-within g c v tells is = load_opens c.args.asked c.in-Load.load _ c.in-Load.is (c.open_and_load.ensures.within v tells is)

pub returns-in-Settings-clause-within : goal.returns-in-Settings-clause-within
returns-in-Settings-clause-within g c v tells is = settings_opens c.args.asked c.in-Settings.settings _ c.in-Settings.is (c.open_and_reset.ensures.within v tells is)

pub returns-in-Grow-clause-within : goal.returns-in-Grow-clause-within
returns-in-Grow-clause-within g c v tells is = grow_opens c.args.asked c.in-Grow.pages _ c.in-Grow.is (c.open_and_reset-in-Grow.ensures.within v tells is)

pub returns-in-Memory-clause-within : goal.returns-in-Memory-clause-within
returns-in-Memory-clause-within g c v tells is =
    memory_opens c.args.asked _ c.in-Memory.is (within_say _ (g.W.Disk.world c.args.out.now) (g.W.Disk.world c.last_line.new.out) c.last_line.ensures.moves)

-- ---- a check

pub returns-in-Check-clause-check : goal.returns-in-Check-clause-check
returns-in-Check-clause-check g c = at_check c.args.asked _ c.in-Check.is c.run_check.ensures

pub returns-in-Check-clause-at_twelve : goal.returns-in-Check-clause-at_twelve
returns-in-Check-clause-at_twelve g c twelve = check_is_asked c.args.asked c.in-Check.is

pub returns-in-Check-clause-counts : goal.returns-in-Check-clause-counts
returns-in-Check-clause-counts g c = c.run_check.ensures.changes.counts

pub returns-in-Check-clause-causes : goal.returns-in-Check-clause-causes
returns-in-Check-clause-causes g c = record {
  taking = λ three. absurd (checking_never_three c.run_check.result c.run_check.ensures.statuses three);
  device = λ four. inl (c.run_check.ensures.reads four);
  saying = c.run_check.ensures.saying;
}

pub returns-in-Check-clause-only_at_wrong_words : goal.returns-in-Check-clause-only_at_wrong_words
returns-in-Check-clause-only_at_wrong_words g c two = absurd (checking_never_two c.run_check.result c.run_check.ensures.statuses two)

pub returns-in-Check-clause-only_at_damage : goal.returns-in-Check-clause-only_at_damage
returns-in-Check-clause-only_at_damage g c tells input output five = absurd (checking_never_five c.run_check.result c.run_check.ensures.statuses five)

pub returns-in-Check-clause-at_ten : goal.returns-in-Check-clause-at_ten
returns-in-Check-clause-at_ten g c ten = absurd (checking_never_ten c.run_check.result c.run_check.ensures.statuses ten)

pub returns-in-Check-clause-at_eleven : goal.returns-in-Check-clause-at_eleven
returns-in-Check-clause-at_eleven g c eleven = absurd (checking_never_eleven c.run_check.result c.run_check.ensures.statuses eleven)

pub returns-in-Check-clause-statuses : goal.returns-in-Check-clause-statuses
returns-in-Check-clause-statuses g c = check_as_statuses c.run_check.result c.run_check.ensures.statuses

pub returns-in-Serve-clause-at_twelve : goal.returns-in-Serve-clause-at_twelve
returns-in-Serve-clause-at_twelve g c twelve = absurd (serving_never_twelve c.open_and_serve.result c.open_and_serve.ensures.statuses twelve)

pub returns-in-Serve-clause-at_eleven : goal.returns-in-Serve-clause-at_eleven
returns-in-Serve-clause-at_eleven g c eleven = absurd (serving_never_eleven c.open_and_serve.result c.open_and_serve.ensures.statuses eleven)

pub returns-in-Load-clause-at_twelve : goal.returns-in-Load-clause-at_twelve
returns-in-Load-clause-at_twelve g c twelve = absurd (loading_never_twelve c.open_and_load.result c.open_and_load.ensures.statuses twelve)

pub returns-in-Load-clause-at_eleven : goal.returns-in-Load-clause-at_eleven
returns-in-Load-clause-at_eleven g c eleven = absurd (loading_never_eleven c.open_and_load.result c.open_and_load.ensures.statuses eleven)

pub returns-in-Settings-clause-at_twelve : goal.returns-in-Settings-clause-at_twelve
returns-in-Settings-clause-at_twelve g c twelve = absurd (reset_never_twelve c.open_and_reset.result c.open_and_reset.ensures.statuses twelve)

pub returns-in-Settings-clause-at_eleven : goal.returns-in-Settings-clause-at_eleven
returns-in-Settings-clause-at_eleven g c eleven = absurd (reset_never_eleven c.open_and_reset.result c.open_and_reset.ensures.statuses eleven)

pub returns-in-Grow-clause-at_twelve : goal.returns-in-Grow-clause-at_twelve
returns-in-Grow-clause-at_twelve g c twelve = absurd (reset_never_twelve c.open_and_reset-in-Grow.result c.open_and_reset-in-Grow.ensures.statuses twelve)

pub returns-in-Grow-clause-at_eleven : goal.returns-in-Grow-clause-at_eleven
returns-in-Grow-clause-at_eleven g c eleven = absurd (reset_never_eleven c.open_and_reset-in-Grow.result c.open_and_reset-in-Grow.ensures.statuses eleven)

pub returns-in-Memory-clause-check : goal.returns-in-Memory-clause-check
returns-in-Memory-clause-check g c =
    memory_check c.args.asked _ c.in-Memory.is
    (memory_ends g.F.RangeFilter.spelling g.F.RangeFilter.first_fault g.met.F.RangeFilter.spells_one g.W.Disk.tells g.W.Outside.tells_output c.last_line.result (g.W.Disk.world c.args.out.now) (g.W.Disk.world c.last_line.new.out)
    (record { whole = λ told. c.last_line.ensures.said told tt; prefix = c.last_line.ensures.prefix; ends = c.last_line.ensures.ends; moves = c.last_line.ensures.moves }))

-- ---- tables

pub returns-in-Tables-clause-tables : goal.returns-in-Tables-clause-tables
returns-in-Tables-clause-tables g c = at_tables c.args.asked _ c.in-Tables.is c.run_tables.ensures

pub returns-in-Tables-clause-counts : goal.returns-in-Tables-clause-counts
returns-in-Tables-clause-counts g c = c.run_tables.ensures.reading.changes.counts

pub returns-in-Tables-clause-causes : goal.returns-in-Tables-clause-causes
returns-in-Tables-clause-causes g c = c.run_tables.ensures.reading.causes

pub returns-in-Tables-clause-only_at_wrong_words : goal.returns-in-Tables-clause-only_at_wrong_words
returns-in-Tables-clause-only_at_wrong_words g c two = absurd (reading_never 2 c.run_tables.result (λ e. cc) (λ e. cc) (λ e. cc) (λ e. cc) (λ e. cc) (λ e. cc) c.run_tables.ensures.reading.statuses two)

pub returns-in-Tables-clause-only_at_damage : goal.returns-in-Tables-clause-only_at_damage
returns-in-Tables-clause-only_at_damage g c tells input output five = inl (c.run_tables.ensures.only_at_damage tells output five)

pub returns-in-Tables-clause-at_ten : goal.returns-in-Tables-clause-at_ten
returns-in-Tables-clause-at_ten g c ten = absurd (reading_never 10 c.run_tables.result (λ e. cc) (λ e. cc) (λ e. cc) (λ e. cc) (λ e. cc) (λ e. cc) c.run_tables.ensures.reading.statuses ten)

pub returns-in-Tables-clause-at_twelve : goal.returns-in-Tables-clause-at_twelve
returns-in-Tables-clause-at_twelve g c twelve = absurd (reading_never 12 c.run_tables.result (λ e. cc) (λ e. cc) (λ e. cc) (λ e. cc) (λ e. cc) (λ e. cc) c.run_tables.ensures.reading.statuses twelve)

pub returns-in-Tables-clause-at_eleven : goal.returns-in-Tables-clause-at_eleven
returns-in-Tables-clause-at_eleven g c eleven = absurd (reading_never 11 c.run_tables.result (λ e. cc) (λ e. cc) (λ e. cc) (λ e. cc) (λ e. cc) (λ e. cc) c.run_tables.ensures.reading.statuses eleven)

pub returns-in-Tables-clause-statuses : goal.returns-in-Tables-clause-statuses
returns-in-Tables-clause-statuses g c = reading_as_statuses c.run_tables.result c.run_tables.ensures.reading.statuses

pub returns-in-Memory-clause-tables : goal.returns-in-Memory-clause-tables
returns-in-Memory-clause-tables g c =
    memory_tables c.args.asked _ c.in-Memory.is
    (memory_tables_end g.F.RangeFilter.spelling g.F.RangeFilter.first_fault g.W.Disk.tells g.W.Outside.tells_output c.last_line.result (g.W.Disk.world c.args.out.now) (g.W.Disk.world c.last_line.new.out)
    (g.met.W.Outside.said_now c.args.out.now) c.last_line.ensures.moves (λ told. c.last_line.ensures.said told tt) c.last_line.ensures.prefix c.last_line.ensures.ends)

-- ---- a dump

pub returns-in-Dump-clause-dump : goal.returns-in-Dump-clause-dump
returns-in-Dump-clause-dump g c = at_dump c.args.asked _ c.in-Dump.is c.run_dump.ensures

pub returns-in-Dump-clause-counts : goal.returns-in-Dump-clause-counts
returns-in-Dump-clause-counts g c = c.run_dump.ensures.reading.changes.counts

pub returns-in-Dump-clause-causes : goal.returns-in-Dump-clause-causes
returns-in-Dump-clause-causes g c = c.run_dump.ensures.reading.causes

pub returns-in-Dump-clause-only_at_wrong_words : goal.returns-in-Dump-clause-only_at_wrong_words
returns-in-Dump-clause-only_at_wrong_words g c two = absurd (reading_never 2 c.run_dump.result (λ e. cc) (λ e. cc) (λ e. cc) (λ e. cc) (λ e. cc) (λ e. cc) c.run_dump.ensures.reading.statuses two)

pub returns-in-Dump-clause-only_at_damage : goal.returns-in-Dump-clause-only_at_damage
returns-in-Dump-clause-only_at_damage g c tells input output five = elim (c.run_dump.ensures.only_at_damage tells output five) [ inl told ↦ inl told | inr none ↦ inr (inl (none.0, inl none.1)) ]

pub returns-in-Dump-clause-at_ten : goal.returns-in-Dump-clause-at_ten
returns-in-Dump-clause-at_ten g c ten = absurd (reading_never 10 c.run_dump.result (λ e. cc) (λ e. cc) (λ e. cc) (λ e. cc) (λ e. cc) (λ e. cc) c.run_dump.ensures.reading.statuses ten)

pub returns-in-Dump-clause-at_twelve : goal.returns-in-Dump-clause-at_twelve
returns-in-Dump-clause-at_twelve g c twelve = absurd (reading_never 12 c.run_dump.result (λ e. cc) (λ e. cc) (λ e. cc) (λ e. cc) (λ e. cc) (λ e. cc) c.run_dump.ensures.reading.statuses twelve)

pub returns-in-Dump-clause-at_eleven : goal.returns-in-Dump-clause-at_eleven
returns-in-Dump-clause-at_eleven g c eleven = absurd (reading_never 11 c.run_dump.result (λ e. cc) (λ e. cc) (λ e. cc) (λ e. cc) (λ e. cc) (λ e. cc) c.run_dump.ensures.reading.statuses eleven)

pub returns-in-Dump-clause-statuses : goal.returns-in-Dump-clause-statuses
returns-in-Dump-clause-statuses g c = reading_as_statuses c.run_dump.result c.run_dump.ensures.reading.statuses

pub returns-in-Memory-clause-dump : goal.returns-in-Memory-clause-dump
returns-in-Memory-clause-dump g c =
    memory_dump c.args.asked _ c.in-Memory.is
    (memory_dump_end g.F.RangeFilter.spelling g.F.RangeFilter.first_fault g.W.Disk.tells g.W.Outside.tells_output c.last_line.result (g.W.Disk.world c.args.out.now) (g.W.Disk.world c.last_line.new.out)
    (g.met.W.Outside.said_now c.args.out.now) c.last_line.ensures.moves (λ told. c.last_line.ensures.said told tt) c.last_line.ensures.prefix c.last_line.ensures.ends)

-- ---- a static map

pub returns-in-BuildMap-clause-map_built : goal.returns-in-BuildMap-clause-map_built
returns-in-BuildMap-clause-map_built g c = at_build_map c.args.asked _ c.in-BuildMap.is (inl c.build.ensures)

pub returns-in-BuildMap-clause-counts : goal.returns-in-BuildMap-clause-counts
returns-in-BuildMap-clause-counts g c = c.build.ensures.counts

pub returns-in-BuildMap-clause-causes : goal.returns-in-BuildMap-clause-causes
returns-in-BuildMap-clause-causes g c = c.build.ensures.causes

pub returns-in-BuildMap-clause-only_at_wrong_words : goal.returns-in-BuildMap-clause-only_at_wrong_words
returns-in-BuildMap-clause-only_at_wrong_words g c two = absurd (build_never 2 c.build.result (λ e. cc) (λ e. cc) (λ e. cc) (λ e. cc) (λ e. cc) (λ e. cc) (λ e. cc) (λ e. cc) c.build.ensures.statuses two)

pub returns-in-BuildMap-clause-only_at_damage : goal.returns-in-BuildMap-clause-only_at_damage
returns-in-BuildMap-clause-only_at_damage g c tells input output five = absurd (build_never 5 c.build.result (λ e. cc) (λ e. cc) (λ e. cc) (λ e. cc) (λ e. cc) (λ e. cc) (λ e. cc) (λ e. cc) c.build.ensures.statuses five)

pub returns-in-BuildMap-clause-at_ten : goal.returns-in-BuildMap-clause-at_ten
returns-in-BuildMap-clause-at_ten g c ten = absurd (build_never 10 c.build.result (λ e. cc) (λ e. cc) (λ e. cc) (λ e. cc) (λ e. cc) (λ e. cc) (λ e. cc) (λ e. cc) c.build.ensures.statuses ten)

pub returns-in-BuildMap-clause-at_eleven : goal.returns-in-BuildMap-clause-at_eleven
returns-in-BuildMap-clause-at_eleven g c eleven = build_map_is_asked c.args.asked c.in-BuildMap.is

pub returns-in-BuildMap-clause-at_twelve : goal.returns-in-BuildMap-clause-at_twelve
returns-in-BuildMap-clause-at_twelve g c twelve = absurd (build_never 12 c.build.result (λ e. cc) (λ e. cc) (λ e. cc) (λ e. cc) (λ e. cc) (λ e. cc) (λ e. cc) (λ e. cc) c.build.ensures.statuses twelve)

pub returns-in-BuildMap-clause-statuses : goal.returns-in-BuildMap-clause-statuses
returns-in-BuildMap-clause-statuses g c = build_as_statuses c.build.result c.build.ensures.statuses

pub returns-in-ServeMap-clause-map_served : goal.returns-in-ServeMap-clause-map_served
returns-in-ServeMap-clause-map_served g c = at_serve_map c.args.asked _ c.in-ServeMap.is (inl c.serve.ensures)

pub returns-in-ServeMap-clause-counts : goal.returns-in-ServeMap-clause-counts
returns-in-ServeMap-clause-counts g c = c.serve.ensures.counts

pub returns-in-ServeMap-clause-causes : goal.returns-in-ServeMap-clause-causes
returns-in-ServeMap-clause-causes g c = c.serve.ensures.causes

pub returns-in-ServeMap-clause-only_at_wrong_words : goal.returns-in-ServeMap-clause-only_at_wrong_words
returns-in-ServeMap-clause-only_at_wrong_words g c two = absurd (map_never 2 c.serve.result (λ e. cc) (λ e. cc) (λ e. cc) (λ e. cc) (λ e. cc) (λ e. cc) (λ e. cc) (λ e. cc) c.serve.ensures.statuses two)

pub returns-in-ServeMap-clause-only_at_damage : goal.returns-in-ServeMap-clause-only_at_damage
returns-in-ServeMap-clause-only_at_damage g c tells input output five = inr (inr (serve_map_is_asked c.args.asked c.in-ServeMap.is))

pub returns-in-ServeMap-clause-at_ten : goal.returns-in-ServeMap-clause-at_ten
returns-in-ServeMap-clause-at_ten g c ten = absurd (map_never 10 c.serve.result (λ e. cc) (λ e. cc) (λ e. cc) (λ e. cc) (λ e. cc) (λ e. cc) (λ e. cc) (λ e. cc) c.serve.ensures.statuses ten)

pub returns-in-ServeMap-clause-at_eleven : goal.returns-in-ServeMap-clause-at_eleven
returns-in-ServeMap-clause-at_eleven g c eleven = absurd (map_never 11 c.serve.result (λ e. cc) (λ e. cc) (λ e. cc) (λ e. cc) (λ e. cc) (λ e. cc) (λ e. cc) (λ e. cc) c.serve.ensures.statuses eleven)

pub returns-in-ServeMap-clause-at_twelve : goal.returns-in-ServeMap-clause-at_twelve
returns-in-ServeMap-clause-at_twelve g c twelve = absurd (map_never 12 c.serve.result (λ e. cc) (λ e. cc) (λ e. cc) (λ e. cc) (λ e. cc) (λ e. cc) (λ e. cc) (λ e. cc) c.serve.ensures.statuses twelve)

pub returns-in-ServeMap-clause-statuses : goal.returns-in-ServeMap-clause-statuses
returns-in-ServeMap-clause-statuses g c = map_as_statuses c.serve.result c.serve.ensures.statuses

pub returns-in-Memory-clause-map_built : goal.returns-in-Memory-clause-map_built
returns-in-Memory-clause-map_built g c =
    memory_build_map c.args.asked _ c.in-Memory.is (inr record {
      ends = c.last_line.ensures.ends;
      moves = c.last_line.ensures.moves;
      said = λ output.
          unserved IsMemoryText (g.W.Disk.world c.args.out.now) (g.W.Disk.world c.last_line.new.out) (g.met.W.Outside.said_now c.args.out.now) c.last_line.ensures.moves c.last_line.result 7 (text_of Memory) (refl, refl)
          (c.last_line.ensures.prefix output) (c.last_line.ensures.said output tt) c.last_line.ensures.ends;
    })

pub returns-in-Memory-clause-map_served : goal.returns-in-Memory-clause-map_served
returns-in-Memory-clause-map_served g c =
    memory_serve_map c.args.asked _ c.in-Memory.is (inr record {
      ends = c.last_line.ensures.ends;
      moves = c.last_line.ensures.moves;
      said = λ output.
          unserved IsMemoryText (g.W.Disk.world c.args.out.now) (g.W.Disk.world c.last_line.new.out) (g.met.W.Outside.said_now c.args.out.now) c.last_line.ensures.moves c.last_line.result 7 (text_of Memory) (refl, refl)
          (c.last_line.ensures.prefix output) (c.last_line.ensures.said output tt) c.last_line.ensures.ends;
    })
