-- What words ask for, one thing alone.
use Rattle.std.proofs.Common.{◌≡◌, inl, inr, refl, sym, subst, ℕ, List, String, Global}
use Rattle.std.specs.Prelude.{None, codes}
use Rattle.std.specs.List.{list_any}
use Rattle.clap.specs.Faults.{fault_of}
use Rattle.clap.specs.Walk.{Text}
use Rattle.filter_api.specs.Ranges.{InRange}
use Rattle.filter_api.specs.declared.settings.Field.{Field}
use Rattle.filter_api.specs.declared.settings.Settings.{Settings}
use Rattle.program_words.proofs.Alone.{apart, asks_nothing, build_not_bad, check_not_bad, dump_not_bad, format_not_bad, grow_not_bad, load_not_bad, not_both_ways, not_grow, not_help, number_taken, opens_not_bad, opens_not_build, opens_not_check, opens_not_dump, opens_not_format, opens_not_serve_map, opens_not_tables, opens_taken, same_field, same_load, same_pages, same_settings, same_store, same_wanted, serve_map_not_bad, serve_not_bad, settings_in_range, settings_not_bad, tables_not_bad}
use Rattle.program_words.specs.Asked.{AreRefusedWords, HasBadNumber, IsCheck, IsDump, IsFormat, IsGrow, IsHelp, IsLoadInRange, IsMapBuild, IsMapServe, IsServe, IsSettingsInRange, IsTables, OpensStore, OpensWithoutGrowing, WordsAsk, is_request}
use Rattle.program_words.specs.CommandLine.{store_app}
use Rattle.program_words.specs.NewStores.{IsStoreOf, first_bad_word}
use Rattle.program_words.specs.declared.asked.Asked.{Asked}
use Rattle.program_words.specs.declared.asked.Asked.TheVariants as asked
use Rattle.program_words.specs.declared.load.Load.{Load}
use Rattle.program_words.specs.declared.new_store.NewStore.{NewStore}
use Rattle.program_words.specs.declared.new_store.Wanted.{Wanted}
use Rattle.surf_run.specs.Resetting.{AskFor}
use Rattle.surf_run.specs.Run.{AskNothing, HasSettingsInRange, IfBadSettings, IfBuildMap, IfCheck, IfDump, IfFormat, IfHelp, IfLoad, IfOpens, IfOpensWithoutGrowing, IfRefused, IfReset, IfServe, IfServeMap, IfTables, IfUnserved, IsBuildMapAsk, IsCheckAsk, IsLoadAsk, IsResetAsk, IsRefusedAsk, IsServeMapAsk}
use Rattle.surf_run.specs.declared.new_numbers.NewNumbers.{NewNumbers}
use Rattle.surf_run.specs.declared.new_numbers.NewNumbers.TheVariants as new

module _ (words : List Text) where
  -- ---- where one thing is asked for

  pub if_serve : (a : Asked) (P : Type 0) → IsServe words → WordsAsk words a → IfServe a P → P
  if_serve asked.Serve P is asks holds = holds
  if_serve (asked.Load load) P is asks holds = absurd (apart words (codes "serve") (codes "load") refl refl is (asks.0.0, asks.0.1))
  if_serve (asked.Settings settings) P is asks holds = absurd (apart words (codes "serve") (codes "settings") refl refl is (asks.1.0, asks.1.1))
  if_serve (asked.Grow pages) P is asks holds = absurd (apart words (codes "serve") (codes "grow") refl refl is (asks.0, asks.1))
  if_serve asked.Check P is asks holds = absurd (apart words (codes "serve") (codes "check") refl refl is asks)
  if_serve asked.Tables P is asks holds = absurd (apart words (codes "serve") (codes "tables") refl refl is asks)
  if_serve asked.Dump P is asks holds = absurd (apart words (codes "serve") (codes "dump") refl refl is asks)
  if_serve asked.BuildMap P is asks holds = absurd (apart words (codes "serve") (codes "fstbuild") refl refl is asks)
  if_serve asked.ServeMap P is asks holds = absurd (apart words (codes "serve") (codes "fstserve") refl refl is asks)
  if_serve asked.Memory P is asks holds = holds
  if_serve (asked.Format store) P is asks holds = absurd (apart words (codes "serve") (codes "format") refl refl is (asks.1.0, asks.1.1))
  if_serve (asked.BadSettings field) P is asks holds = absurd (serve_not_bad words field is asks)
  if_serve (asked.Help text) P is asks holds = absurd (not_help words is.1.taken asks)
  if_serve asked.Refused P is asks holds = absurd (asks.fails is.1.taken)

  pub if_load : (a : Asked) (load : Load) (P : Load → Type 0) (Q : Type 0) → IsLoadInRange words load → WordsAsk words a → IfLoad a P Q → (Q → P load) → P load
  if_load asked.Serve load P Q is asks holds starved = absurd (apart words (codes "load") (codes "serve") refl refl (is.0.0, is.0.1) asks)
  if_load (asked.Load made) load P Q is asks holds starved = subst P (same_load words made load asks.0 is.0) holds
  if_load (asked.Settings settings) load P Q is asks holds starved = absurd (apart words (codes "load") (codes "settings") refl refl (is.0.0, is.0.1) (asks.1.0, asks.1.1))
  if_load (asked.Grow pages) load P Q is asks holds starved = absurd (apart words (codes "load") (codes "grow") refl refl (is.0.0, is.0.1) (asks.0, asks.1))
  if_load asked.Check load P Q is asks holds starved = absurd (apart words (codes "load") (codes "check") refl refl (is.0.0, is.0.1) asks)
  if_load asked.Tables load P Q is asks holds starved = absurd (apart words (codes "load") (codes "tables") refl refl (is.0.0, is.0.1) asks)
  if_load asked.Dump load P Q is asks holds starved = absurd (apart words (codes "load") (codes "dump") refl refl (is.0.0, is.0.1) asks)
  if_load asked.BuildMap load P Q is asks holds starved = absurd (apart words (codes "load") (codes "fstbuild") refl refl (is.0.0, is.0.1) asks)
  if_load asked.ServeMap load P Q is asks holds starved = absurd (apart words (codes "load") (codes "fstserve") refl refl (is.0.0, is.0.1) asks)
  if_load asked.Memory load P Q is asks holds starved = starved holds
  if_load (asked.Format store) load P Q is asks holds starved = absurd (apart words (codes "load") (codes "format") refl refl (is.0.0, is.0.1) (asks.1.0, asks.1.1))
  if_load (asked.BadSettings field) load P Q is asks holds starved = absurd (load_not_bad words load field is asks)
  if_load (asked.Help text) load P Q is asks holds starved = absurd (not_help words is.0.1.taken asks)
  if_load asked.Refused load P Q is asks holds starved = absurd (asks.fails is.0.1.taken)

  if_settings : (a : Asked) (settings : Settings) (P : NewNumbers → Type 0) (Q : Type 0) → IsSettingsInRange words settings → WordsAsk words a → IfReset a P Q → (Q → P (new.Settings settings)) → P (new.Settings settings)
  if_settings asked.Serve settings P Q is asks holds starved = absurd (apart words (codes "settings") (codes "serve") refl refl (is.1.0, is.1.1) asks)
  if_settings (asked.Load load) settings P Q is asks holds starved = absurd (apart words (codes "settings") (codes "load") refl refl (is.1.0, is.1.1) (asks.0.0, asks.0.1))
  if_settings (asked.Settings made) settings P Q is asks holds starved = subst (λ (t : Settings). P (new.Settings t)) (same_settings words made settings asks is) holds
  if_settings (asked.Grow pages) settings P Q is asks holds starved = absurd (apart words (codes "settings") (codes "grow") refl refl (is.1.0, is.1.1) (asks.0, asks.1))
  if_settings asked.Check settings P Q is asks holds starved = absurd (apart words (codes "settings") (codes "check") refl refl (is.1.0, is.1.1) asks)
  if_settings asked.Tables settings P Q is asks holds starved = absurd (apart words (codes "settings") (codes "tables") refl refl (is.1.0, is.1.1) asks)
  if_settings asked.Dump settings P Q is asks holds starved = absurd (apart words (codes "settings") (codes "dump") refl refl (is.1.0, is.1.1) asks)
  if_settings asked.BuildMap settings P Q is asks holds starved = absurd (apart words (codes "settings") (codes "fstbuild") refl refl (is.1.0, is.1.1) asks)
  if_settings asked.ServeMap settings P Q is asks holds starved = absurd (apart words (codes "settings") (codes "fstserve") refl refl (is.1.0, is.1.1) asks)
  if_settings asked.Memory settings P Q is asks holds starved = starved holds
  if_settings (asked.Format store) settings P Q is asks holds starved = absurd (apart words (codes "settings") (codes "format") refl refl (is.1.0, is.1.1) (asks.1.0, asks.1.1))
  if_settings (asked.BadSettings field) settings P Q is asks holds starved = absurd (settings_not_bad words settings field is asks)
  if_settings (asked.Help text) settings P Q is asks holds starved = absurd (not_help words is.1.1.taken asks)
  if_settings asked.Refused settings P Q is asks holds starved = absurd (asks.fails is.1.1.taken)

  if_grow : (a : Asked) (pages : ℕ) (P : NewNumbers → Type 0) (Q : Type 0) → IsGrow words pages → WordsAsk words a → IfReset a P Q → (Q → P (new.Pages pages)) → P (new.Pages pages)
  if_grow asked.Serve pages P Q is asks holds starved = absurd (apart words (codes "grow") (codes "serve") refl refl (is.0, is.1) asks)
  if_grow (asked.Load load) pages P Q is asks holds starved = absurd (apart words (codes "grow") (codes "load") refl refl (is.0, is.1) (asks.0.0, asks.0.1))
  if_grow (asked.Settings settings) pages P Q is asks holds starved = absurd (apart words (codes "grow") (codes "settings") refl refl (is.0, is.1) (asks.1.0, asks.1.1))
  if_grow (asked.Grow made) pages P Q is asks holds starved = subst (λ (n : ℕ). P (new.Pages n)) (same_pages words made pages asks is) holds
  if_grow asked.Check pages P Q is asks holds starved = absurd (apart words (codes "grow") (codes "check") refl refl (is.0, is.1) asks)
  if_grow asked.Tables pages P Q is asks holds starved = absurd (apart words (codes "grow") (codes "tables") refl refl (is.0, is.1) asks)
  if_grow asked.Dump pages P Q is asks holds starved = absurd (apart words (codes "grow") (codes "dump") refl refl (is.0, is.1) asks)
  if_grow asked.BuildMap pages P Q is asks holds starved = absurd (apart words (codes "grow") (codes "fstbuild") refl refl (is.0, is.1) asks)
  if_grow asked.ServeMap pages P Q is asks holds starved = absurd (apart words (codes "grow") (codes "fstserve") refl refl (is.0, is.1) asks)
  if_grow asked.Memory pages P Q is asks holds starved = starved holds
  if_grow (asked.Format store) pages P Q is asks holds starved = absurd (apart words (codes "grow") (codes "format") refl refl (is.0, is.1) (asks.1.0, asks.1.1))
  if_grow (asked.BadSettings field) pages P Q is asks holds starved = absurd (grow_not_bad words pages field is asks)
  if_grow (asked.Help text) pages P Q is asks holds starved = absurd (not_help words is.1.taken asks)
  if_grow asked.Refused pages P Q is asks holds starved = absurd (asks.fails is.1.taken)

  pub if_reset : (a : Asked) (numbers : NewNumbers) (P : NewNumbers → Type 0) (Q : Type 0) → AskFor words numbers → WordsAsk words a → IfReset a P Q → (Q → P numbers) → P numbers
  if_reset a (new.Settings settings) P Q is asks holds starved = if_settings a settings P Q is asks holds starved
  if_reset a (new.Pages pages) P Q is asks holds starved = if_grow a pages P Q is asks holds starved

  pub if_opens : (a : Asked) (P : Type 0) → OpensStore words → WordsAsk words a → IfOpens a P → P
  if_opens asked.Serve P is asks holds = holds
  if_opens (asked.Load load) P is asks holds = holds
  if_opens (asked.Settings settings) P is asks holds = holds
  if_opens (asked.Grow pages) P is asks holds = holds
  if_opens asked.Check P is asks holds = absurd (opens_not_check words is asks)
  if_opens asked.Tables P is asks holds = absurd (opens_not_tables words is asks)
  if_opens asked.Dump P is asks holds = absurd (opens_not_dump words is asks)
  if_opens asked.BuildMap P is asks holds = absurd (opens_not_build words is asks)
  if_opens asked.ServeMap P is asks holds = absurd (opens_not_serve_map words is asks)
  if_opens asked.Memory P is asks holds = holds
  if_opens (asked.Format store) P is asks holds = absurd (opens_not_format words asks.0 is asks.1)
  if_opens (asked.BadSettings field) P is asks holds = absurd (opens_not_bad words field is asks)
  if_opens (asked.Help text) P is asks holds = absurd (not_help words (opens_taken words is) asks)
  if_opens asked.Refused P is asks holds = absurd (asks.fails (opens_taken words is))

  pub if_opens_without_growing : (a : Asked) (P : Type 0) → OpensWithoutGrowing words → WordsAsk words a → IfOpensWithoutGrowing a P → P
  if_opens_without_growing asked.Serve P is asks holds = holds
  if_opens_without_growing (asked.Load load) P is asks holds = holds
  if_opens_without_growing (asked.Settings settings) P is asks holds = holds
  if_opens_without_growing (asked.Grow pages) P is asks holds = absurd (not_grow words pages is asks)
  if_opens_without_growing asked.Check P is asks holds = absurd (opens_not_check words (inl is) asks)
  if_opens_without_growing asked.Tables P is asks holds = absurd (opens_not_tables words (inl is) asks)
  if_opens_without_growing asked.Dump P is asks holds = absurd (opens_not_dump words (inl is) asks)
  if_opens_without_growing asked.BuildMap P is asks holds = absurd (opens_not_build words (inl is) asks)
  if_opens_without_growing asked.ServeMap P is asks holds = absurd (opens_not_serve_map words (inl is) asks)
  if_opens_without_growing asked.Memory P is asks holds = holds
  if_opens_without_growing (asked.Format store) P is asks holds = absurd (opens_not_format words asks.0 (inl is) asks.1)
  if_opens_without_growing (asked.BadSettings field) P is asks holds = absurd (opens_not_bad words field (inl is) asks)
  if_opens_without_growing (asked.Help text) P is asks holds = absurd (not_help words (opens_taken words (inl is)) asks)
  if_opens_without_growing asked.Refused P is asks holds = absurd (asks.fails (opens_taken words (inl is)))

  pub if_check : (a : Asked) (P : Type 0) → IsCheck words → WordsAsk words a → IfCheck a P → P
  if_check asked.Serve P is asks holds = absurd (apart words (codes "check") (codes "serve") refl refl is asks)
  if_check (asked.Load load) P is asks holds = absurd (apart words (codes "check") (codes "load") refl refl is (asks.0.0, asks.0.1))
  if_check (asked.Settings settings) P is asks holds = absurd (apart words (codes "check") (codes "settings") refl refl is (asks.1.0, asks.1.1))
  if_check (asked.Grow pages) P is asks holds = absurd (apart words (codes "check") (codes "grow") refl refl is (asks.0, asks.1))
  if_check asked.Check P is asks holds = holds
  if_check asked.Tables P is asks holds = absurd (apart words (codes "check") (codes "tables") refl refl is asks)
  if_check asked.Dump P is asks holds = absurd (apart words (codes "check") (codes "dump") refl refl is asks)
  if_check asked.BuildMap P is asks holds = absurd (apart words (codes "check") (codes "fstbuild") refl refl is asks)
  if_check asked.ServeMap P is asks holds = absurd (apart words (codes "check") (codes "fstserve") refl refl is asks)
  if_check asked.Memory P is asks holds = holds
  if_check (asked.Format store) P is asks holds = absurd (apart words (codes "check") (codes "format") refl refl is (asks.1.0, asks.1.1))
  if_check (asked.BadSettings field) P is asks holds = absurd (check_not_bad words field is asks)
  if_check (asked.Help text) P is asks holds = absurd (not_help words is.1.taken asks)
  if_check asked.Refused P is asks holds = absurd (asks.fails is.1.taken)

  pub if_tables : (a : Asked) (P : Type 0) → IsTables words → WordsAsk words a → IfTables a P → P
  if_tables asked.Serve P is asks holds = absurd (apart words (codes "tables") (codes "serve") refl refl is asks)
  if_tables (asked.Load load) P is asks holds = absurd (apart words (codes "tables") (codes "load") refl refl is (asks.0.0, asks.0.1))
  if_tables (asked.Settings settings) P is asks holds = absurd (apart words (codes "tables") (codes "settings") refl refl is (asks.1.0, asks.1.1))
  if_tables (asked.Grow pages) P is asks holds = absurd (apart words (codes "tables") (codes "grow") refl refl is (asks.0, asks.1))
  if_tables asked.Check P is asks holds = absurd (apart words (codes "tables") (codes "check") refl refl is asks)
  if_tables asked.Tables P is asks holds = holds
  if_tables asked.Dump P is asks holds = absurd (apart words (codes "tables") (codes "dump") refl refl is asks)
  if_tables asked.BuildMap P is asks holds = absurd (apart words (codes "tables") (codes "fstbuild") refl refl is asks)
  if_tables asked.ServeMap P is asks holds = absurd (apart words (codes "tables") (codes "fstserve") refl refl is asks)
  if_tables asked.Memory P is asks holds = holds
  if_tables (asked.Format store) P is asks holds = absurd (apart words (codes "tables") (codes "format") refl refl is (asks.1.0, asks.1.1))
  if_tables (asked.BadSettings field) P is asks holds = absurd (tables_not_bad words field is asks)
  if_tables (asked.Help text) P is asks holds = absurd (not_help words is.1.taken asks)
  if_tables asked.Refused P is asks holds = absurd (asks.fails is.1.taken)

  pub if_dump : (a : Asked) (P : Type 0) → IsDump words → WordsAsk words a → IfDump a P → P
  if_dump asked.Serve P is asks holds = absurd (apart words (codes "dump") (codes "serve") refl refl is asks)
  if_dump (asked.Load load) P is asks holds = absurd (apart words (codes "dump") (codes "load") refl refl is (asks.0.0, asks.0.1))
  if_dump (asked.Settings settings) P is asks holds = absurd (apart words (codes "dump") (codes "settings") refl refl is (asks.1.0, asks.1.1))
  if_dump (asked.Grow pages) P is asks holds = absurd (apart words (codes "dump") (codes "grow") refl refl is (asks.0, asks.1))
  if_dump asked.Check P is asks holds = absurd (apart words (codes "dump") (codes "check") refl refl is asks)
  if_dump asked.Tables P is asks holds = absurd (apart words (codes "dump") (codes "tables") refl refl is asks)
  if_dump asked.Dump P is asks holds = holds
  if_dump asked.BuildMap P is asks holds = absurd (apart words (codes "dump") (codes "fstbuild") refl refl is asks)
  if_dump asked.ServeMap P is asks holds = absurd (apart words (codes "dump") (codes "fstserve") refl refl is asks)
  if_dump asked.Memory P is asks holds = holds
  if_dump (asked.Format store) P is asks holds = absurd (apart words (codes "dump") (codes "format") refl refl is (asks.1.0, asks.1.1))
  if_dump (asked.BadSettings field) P is asks holds = absurd (dump_not_bad words field is asks)
  if_dump (asked.Help text) P is asks holds = absurd (not_help words is.1.taken asks)
  if_dump asked.Refused P is asks holds = absurd (asks.fails is.1.taken)

  pub if_build_map : (a : Asked) (P : Type 0) → IsMapBuild words → WordsAsk words a → IfBuildMap a P → P
  if_build_map asked.Serve P is asks holds = absurd (apart words (codes "fstbuild") (codes "serve") refl refl is asks)
  if_build_map (asked.Load load) P is asks holds = absurd (apart words (codes "fstbuild") (codes "load") refl refl is (asks.0.0, asks.0.1))
  if_build_map (asked.Settings settings) P is asks holds = absurd (apart words (codes "fstbuild") (codes "settings") refl refl is (asks.1.0, asks.1.1))
  if_build_map (asked.Grow pages) P is asks holds = absurd (apart words (codes "fstbuild") (codes "grow") refl refl is (asks.0, asks.1))
  if_build_map asked.Check P is asks holds = absurd (apart words (codes "fstbuild") (codes "check") refl refl is asks)
  if_build_map asked.Tables P is asks holds = absurd (apart words (codes "fstbuild") (codes "tables") refl refl is asks)
  if_build_map asked.Dump P is asks holds = absurd (apart words (codes "fstbuild") (codes "dump") refl refl is asks)
  if_build_map asked.BuildMap P is asks holds = holds
  if_build_map asked.ServeMap P is asks holds = absurd (apart words (codes "fstbuild") (codes "fstserve") refl refl is asks)
  if_build_map asked.Memory P is asks holds = holds
  if_build_map (asked.Format store) P is asks holds = absurd (apart words (codes "fstbuild") (codes "format") refl refl is (asks.1.0, asks.1.1))
  if_build_map (asked.BadSettings field) P is asks holds = absurd (build_not_bad words field is asks)
  if_build_map (asked.Help text) P is asks holds = absurd (not_help words is.1.taken asks)
  if_build_map asked.Refused P is asks holds = absurd (asks.fails is.1.taken)

  pub if_serve_map : (a : Asked) (P : Type 0) → IsMapServe words → WordsAsk words a → IfServeMap a P → P
  if_serve_map asked.Serve P is asks holds = absurd (apart words (codes "fstserve") (codes "serve") refl refl is asks)
  if_serve_map (asked.Load load) P is asks holds = absurd (apart words (codes "fstserve") (codes "load") refl refl is (asks.0.0, asks.0.1))
  if_serve_map (asked.Settings settings) P is asks holds = absurd (apart words (codes "fstserve") (codes "settings") refl refl is (asks.1.0, asks.1.1))
  if_serve_map (asked.Grow pages) P is asks holds = absurd (apart words (codes "fstserve") (codes "grow") refl refl is (asks.0, asks.1))
  if_serve_map asked.Check P is asks holds = absurd (apart words (codes "fstserve") (codes "check") refl refl is asks)
  if_serve_map asked.Tables P is asks holds = absurd (apart words (codes "fstserve") (codes "tables") refl refl is asks)
  if_serve_map asked.Dump P is asks holds = absurd (apart words (codes "fstserve") (codes "dump") refl refl is asks)
  if_serve_map asked.BuildMap P is asks holds = absurd (apart words (codes "fstserve") (codes "fstbuild") refl refl is asks)
  if_serve_map asked.ServeMap P is asks holds = holds
  if_serve_map asked.Memory P is asks holds = holds
  if_serve_map (asked.Format store) P is asks holds = absurd (apart words (codes "fstserve") (codes "format") refl refl is (asks.1.0, asks.1.1))
  if_serve_map (asked.BadSettings field) P is asks holds = absurd (serve_map_not_bad words field is asks)
  if_serve_map (asked.Help text) P is asks holds = absurd (not_help words is.1.taken asks)
  if_serve_map asked.Refused P is asks holds = absurd (asks.fails is.1.taken)

  pub if_refused : (a : Asked) (P : Type 0) → AreRefusedWords words → WordsAsk words a → IfRefused a P → P
  if_refused asked.Serve P is asks holds = absurd (is.fails asks.1.taken)
  if_refused (asked.Load load) P is asks holds = absurd (is.fails asks.0.1.taken)
  if_refused (asked.Settings settings) P is asks holds = absurd (is.fails asks.1.1.taken)
  if_refused (asked.Grow pages) P is asks holds = absurd (is.fails asks.1.taken)
  if_refused asked.Check P is asks holds = absurd (is.fails asks.1.taken)
  if_refused asked.Tables P is asks holds = absurd (is.fails asks.1.taken)
  if_refused asked.Dump P is asks holds = absurd (is.fails asks.1.taken)
  if_refused asked.BuildMap P is asks holds = absurd (is.fails asks.1.taken)
  if_refused asked.ServeMap P is asks holds = absurd (is.fails asks.1.taken)
  if_refused asked.Memory P is asks holds = holds
  if_refused (asked.Format store) P is asks holds = absurd (is.fails asks.1.1.taken)
  if_refused (asked.BadSettings field) P is asks holds = absurd (is.fails (number_taken words field asks))
  if_refused (asked.Help text) P is asks holds = absurd (not_both_ways (list_any is_request (fault_of store_app words)) asks is.no_text)
  if_refused asked.Refused P is asks holds = holds

  pub if_help : (a : Asked) (P : Type 0) → IsHelp words → WordsAsk words a → IfHelp a P → P
  if_help asked.Serve P is asks holds = absurd (not_help words asks.1.taken is)
  if_help (asked.Load load) P is asks holds = absurd (not_help words asks.0.1.taken is)
  if_help (asked.Settings settings) P is asks holds = absurd (not_help words asks.1.1.taken is)
  if_help (asked.Grow pages) P is asks holds = absurd (not_help words asks.1.taken is)
  if_help asked.Check P is asks holds = absurd (not_help words asks.1.taken is)
  if_help asked.Tables P is asks holds = absurd (not_help words asks.1.taken is)
  if_help asked.Dump P is asks holds = absurd (not_help words asks.1.taken is)
  if_help asked.BuildMap P is asks holds = absurd (not_help words asks.1.taken is)
  if_help asked.ServeMap P is asks holds = absurd (not_help words asks.1.taken is)
  if_help asked.Memory P is asks holds = holds
  if_help (asked.Format store) P is asks holds = absurd (not_help words asks.1.1.taken is)
  if_help (asked.BadSettings field) P is asks holds = absurd (not_help words (number_taken words field asks) is)
  if_help (asked.Help text) P is asks holds = holds
  if_help asked.Refused P is asks holds = absurd (not_both_ways (list_any is_request (fault_of store_app words)) is asks.no_text)

  pub if_format : (a : Asked) (wanted : Wanted) (store : NewStore) (P : NewStore → Type 0) (Q : Type 0) → IsFormat words wanted → first_bad_word wanted ≡ None → IsStoreOf wanted store → WordsAsk words a
      → IfFormat a P Q → (Q → P store) → P store
  if_format asked.Serve wanted store P Q is good of asks holds starved = absurd (opens_not_format words wanted (inl (inl asks)) is)
  if_format (asked.Load load) wanted store P Q is good of asks holds starved = absurd (opens_not_format words wanted (inl (inr (inl (load, asks)))) is)
  if_format (asked.Settings settings) wanted store P Q is good of asks holds starved = absurd (opens_not_format words wanted (inl (inr (inr (settings, asks)))) is)
  if_format (asked.Grow pages) wanted store P Q is good of asks holds starved = absurd (opens_not_format words wanted (inr (pages, asks)) is)
  if_format asked.Check wanted store P Q is good of asks holds starved = absurd (apart words (codes "format") (codes "check") refl refl (is.0, is.1) asks)
  if_format asked.Tables wanted store P Q is good of asks holds starved = absurd (apart words (codes "format") (codes "tables") refl refl (is.0, is.1) asks)
  if_format asked.Dump wanted store P Q is good of asks holds starved = absurd (apart words (codes "format") (codes "dump") refl refl (is.0, is.1) asks)
  if_format asked.BuildMap wanted store P Q is good of asks holds starved = absurd (apart words (codes "format") (codes "fstbuild") refl refl (is.0, is.1) asks)
  if_format asked.ServeMap wanted store P Q is good of asks holds starved = absurd (apart words (codes "format") (codes "fstserve") refl refl (is.0, is.1) asks)
  if_format asked.Memory wanted store P Q is good of asks holds starved = starved holds
  if_format (asked.Format made) wanted store P Q is good of asks holds starved =
      let same = same_wanted words asks.0 wanted asks.1 is in
      subst P (same_store wanted made store (subst (λ (w : Wanted). IsStoreOf w made) same asks.3) of) holds
  if_format (asked.BadSettings field) wanted store P Q is good of asks holds starved = absurd (format_not_bad words wanted field is good asks)
  if_format (asked.Help text) wanted store P Q is good of asks holds starved = absurd (not_help words is.1.taken asks)
  if_format asked.Refused wanted store P Q is good of asks holds starved = absurd (asks.fails is.1.taken)

  pub if_bad : (a : Asked) (field : Field) (P : Field → Type 0) (Q : Type 0) → HasBadNumber words field → WordsAsk words a → IfBadSettings a P Q → (Q → P field) → P field
  if_bad asked.Serve field P Q bad asks holds starved = absurd (serve_not_bad words field asks bad)
  if_bad (asked.Load load) field P Q bad asks holds starved = absurd (load_not_bad words load field asks bad)
  if_bad (asked.Settings settings) field P Q bad asks holds starved = absurd (settings_not_bad words settings field asks bad)
  if_bad (asked.Grow pages) field P Q bad asks holds starved = absurd (grow_not_bad words pages field asks bad)
  if_bad asked.Check field P Q bad asks holds starved = absurd (check_not_bad words field asks bad)
  if_bad asked.Tables field P Q bad asks holds starved = absurd (tables_not_bad words field asks bad)
  if_bad asked.Dump field P Q bad asks holds starved = absurd (dump_not_bad words field asks bad)
  if_bad asked.BuildMap field P Q bad asks holds starved = absurd (build_not_bad words field asks bad)
  if_bad asked.ServeMap field P Q bad asks holds starved = absurd (serve_map_not_bad words field asks bad)
  if_bad asked.Memory field P Q bad asks holds starved = starved holds
  if_bad (asked.Format made) field P Q bad asks holds starved = absurd (format_not_bad words asks.0 field asks.1 asks.2 bad)
  if_bad (asked.BadSettings other) field P Q bad asks holds starved = subst P (same_field words other field asks bad) holds
  if_bad (asked.Help text) field P Q bad asks holds starved = absurd (not_help words (number_taken words field bad) asks)
  if_bad asked.Refused field P Q bad asks holds starved = absurd (asks.fails (number_taken words field bad))

  pub if_nothing : (a : Asked) (P : Type 0) → AskNothing words → WordsAsk words a → IfUnserved a P → P
  if_nothing asked.Serve P is asks holds = absurd (asks_nothing words asks.1.taken (λ field bad. serve_not_bad words field asks bad) is)
  if_nothing (asked.Load load) P is asks holds = absurd (asks_nothing words asks.0.1.taken (λ field bad. load_not_bad words load field asks bad) is)
  if_nothing (asked.Settings settings) P is asks holds = absurd (asks_nothing words asks.1.1.taken (λ field bad. settings_not_bad words settings field asks bad) is)
  if_nothing (asked.Grow pages) P is asks holds = absurd (asks_nothing words asks.1.taken (λ field bad. grow_not_bad words pages field asks bad) is)
  if_nothing asked.Check P is asks holds = absurd (asks_nothing words asks.1.taken (λ field bad. check_not_bad words field asks bad) is)
  if_nothing asked.Tables P is asks holds = absurd (asks_nothing words asks.1.taken (λ field bad. tables_not_bad words field asks bad) is)
  if_nothing asked.Dump P is asks holds = absurd (asks_nothing words asks.1.taken (λ field bad. dump_not_bad words field asks bad) is)
  if_nothing asked.BuildMap P is asks holds = absurd (asks_nothing words asks.1.taken (λ field bad. build_not_bad words field asks bad) is)
  if_nothing asked.ServeMap P is asks holds = absurd (asks_nothing words asks.1.taken (λ field bad. serve_map_not_bad words field asks bad) is)
  if_nothing asked.Memory P is asks holds = holds
  if_nothing (asked.Format made) P is asks holds = absurd (asks_nothing words asks.1.1.taken (λ field bad. format_not_bad words asks.0 field asks.1 asks.2 bad) is)
  if_nothing (asked.BadSettings field) P is asks holds = holds
  if_nothing (asked.Help text) P is asks holds = holds
  if_nothing asked.Refused P is asks holds = holds

  pub is_refused : (a : Asked) → WordsAsk words a → IsRefusedAsk a → AreRefusedWords words
  is_refused asked.Serve asks is = absurd is
  is_refused (asked.Load load) asks is = absurd is
  is_refused (asked.Settings settings) asks is = absurd is
  is_refused (asked.Grow pages) asks is = absurd is
  is_refused asked.Check asks is = absurd is
  is_refused asked.Tables asks is = absurd is
  is_refused asked.Dump asks is = absurd is
  is_refused asked.BuildMap asks is = absurd is
  is_refused asked.ServeMap asks is = absurd is
  is_refused asked.Memory asks is = absurd is
  is_refused (asked.Format store) asks is = absurd is
  is_refused (asked.BadSettings field) asks is = absurd is
  is_refused (asked.Help text) asks is = absurd is
  is_refused asked.Refused asks is = asks

  pub is_load : (a : Asked) → WordsAsk words a → IsLoadAsk a → (load : Load) × IsLoadInRange words load
  is_load asked.Serve asks is = absurd is
  is_load (asked.Load load) asks is = (load, asks)
  is_load (asked.Settings settings) asks is = absurd is
  is_load (asked.Grow pages) asks is = absurd is
  is_load asked.Check asks is = absurd is
  is_load asked.Tables asks is = absurd is
  is_load asked.Dump asks is = absurd is
  is_load asked.BuildMap asks is = absurd is
  is_load asked.ServeMap asks is = absurd is
  is_load asked.Memory asks is = absurd is
  is_load (asked.Format store) asks is = absurd is
  is_load (asked.BadSettings field) asks is = absurd is
  is_load (asked.Help text) asks is = absurd is
  is_load asked.Refused asks is = absurd is

  pub is_reset : (a : Asked) → WordsAsk words a → IsResetAsk a → (numbers : NewNumbers) × AskFor words numbers
  is_reset asked.Serve asks is = absurd is
  is_reset (asked.Load load) asks is = absurd is
  is_reset (asked.Settings settings) asks is = (new.Settings settings, asks)
  is_reset (asked.Grow pages) asks is = (new.Pages pages, asks)
  is_reset asked.Check asks is = absurd is
  is_reset asked.Tables asks is = absurd is
  is_reset asked.Dump asks is = absurd is
  is_reset asked.BuildMap asks is = absurd is
  is_reset asked.ServeMap asks is = absurd is
  is_reset asked.Memory asks is = absurd is
  is_reset (asked.Format store) asks is = absurd is
  is_reset (asked.BadSettings field) asks is = absurd is
  is_reset (asked.Help text) asks is = absurd is
  is_reset asked.Refused asks is = absurd is

  pub is_check : (a : Asked) → WordsAsk words a → IsCheckAsk a → IsCheck words
  is_check asked.Serve asks is = absurd is
  is_check (asked.Load load) asks is = absurd is
  is_check (asked.Settings settings) asks is = absurd is
  is_check (asked.Grow pages) asks is = absurd is
  is_check asked.Check asks is = asks
  is_check asked.Tables asks is = absurd is
  is_check asked.Dump asks is = absurd is
  is_check asked.BuildMap asks is = absurd is
  is_check asked.ServeMap asks is = absurd is
  is_check asked.Memory asks is = absurd is
  is_check (asked.Format store) asks is = absurd is
  is_check (asked.BadSettings field) asks is = absurd is
  is_check (asked.Help text) asks is = absurd is
  is_check asked.Refused asks is = absurd is

  pub is_build_map : (a : Asked) → WordsAsk words a → IsBuildMapAsk a → IsMapBuild words
  is_build_map asked.Serve asks is = absurd is
  is_build_map (asked.Load load) asks is = absurd is
  is_build_map (asked.Settings settings) asks is = absurd is
  is_build_map (asked.Grow pages) asks is = absurd is
  is_build_map asked.Check asks is = absurd is
  is_build_map asked.Tables asks is = absurd is
  is_build_map asked.Dump asks is = absurd is
  is_build_map asked.BuildMap asks is = asks
  is_build_map asked.ServeMap asks is = absurd is
  is_build_map asked.Memory asks is = absurd is
  is_build_map (asked.Format store) asks is = absurd is
  is_build_map (asked.BadSettings field) asks is = absurd is
  is_build_map (asked.Help text) asks is = absurd is
  is_build_map asked.Refused asks is = absurd is

  pub is_serve_map : (a : Asked) → WordsAsk words a → IsServeMapAsk a → IsMapServe words
  is_serve_map asked.Serve asks is = absurd is
  is_serve_map (asked.Load load) asks is = absurd is
  is_serve_map (asked.Settings settings) asks is = absurd is
  is_serve_map (asked.Grow pages) asks is = absurd is
  is_serve_map asked.Check asks is = absurd is
  is_serve_map asked.Tables asks is = absurd is
  is_serve_map asked.Dump asks is = absurd is
  is_serve_map asked.BuildMap asks is = absurd is
  is_serve_map asked.ServeMap asks is = asks
  is_serve_map asked.Memory asks is = absurd is
  is_serve_map (asked.Format store) asks is = absurd is
  is_serve_map (asked.BadSettings field) asks is = absurd is
  is_serve_map (asked.Help text) asks is = absurd is
  is_serve_map asked.Refused asks is = absurd is

  pub has_settings_in_range : (a : Asked) → WordsAsk words a → HasSettingsInRange a
  has_settings_in_range asked.Serve asks = tt
  has_settings_in_range (asked.Load load) asks = tt
  has_settings_in_range (asked.Settings settings) asks = settings_in_range asks.0 settings asks.2 asks.3
  has_settings_in_range (asked.Grow pages) asks = tt
  has_settings_in_range asked.Check asks = tt
  has_settings_in_range asked.Tables asks = tt
  has_settings_in_range asked.Dump asks = tt
  has_settings_in_range asked.BuildMap asks = tt
  has_settings_in_range asked.ServeMap asks = tt
  has_settings_in_range asked.Memory asks = tt
  has_settings_in_range (asked.Format store) asks = tt
  has_settings_in_range (asked.BadSettings field) asks = tt
  has_settings_in_range (asked.Help text) asks = tt
  has_settings_in_range asked.Refused asks = tt

-- ---- as one thing is asked for

pub at_serve : (a : Asked) (P : Type 0) → a ≡ asked.Serve → P → IfServe a P
at_serve a P is p = subst (λ (b : Asked). IfServe b P) (sym is) p

pub at_format : (a : Asked) (store : NewStore) (P : NewStore → Type 0) (Q : Type 0) → a ≡ asked.Format store → P store → IfFormat a P Q
at_format a store P Q is p = subst (λ (b : Asked). IfFormat b P Q) (sym is) p

pub at_bad : (a : Asked) (field : Field) (P : Field → Type 0) (Q : Type 0) → a ≡ asked.BadSettings field → P field → IfBadSettings a P Q
at_bad a field P Q is p = subst (λ (b : Asked). IfBadSettings b P Q) (sym is) p

pub at_help : (a : Asked) (text : String Global) (P : Type 0) → a ≡ asked.Help text → P → IfHelp a P
at_help a text P is p = subst (λ (b : Asked). IfHelp b P) (sym is) p

pub at_refused : (a : Asked) (P : Type 0) → a ≡ asked.Refused → P → IfRefused a P
at_refused a P is p = subst (λ (b : Asked). IfRefused b P) (sym is) p

pub memory_serve : (a : Asked) (P : Type 0) → a ≡ asked.Memory → P → IfServe a P
memory_serve a P is p = subst (λ (b : Asked). IfServe b P) (sym is) p

pub memory_help : (a : Asked) (P : Type 0) → a ≡ asked.Memory → P → IfHelp a P
memory_help a P is p = subst (λ (b : Asked). IfHelp b P) (sym is) p

pub memory_bad : (a : Asked) (P : Field → Type 0) (Q : Type 0) → a ≡ asked.Memory → Q → IfBadSettings a P Q
memory_bad a P Q is q = subst (λ (b : Asked). IfBadSettings b P Q) (sym is) q

pub memory_refused : (a : Asked) (P : Type 0) → a ≡ asked.Memory → P → IfRefused a P
memory_refused a P is p = subst (λ (b : Asked). IfRefused b P) (sym is) p

pub at_load : (a : Asked) (load : Load) (P : Load → Type 0) (Q : Type 0) → a ≡ asked.Load load → P load → IfLoad a P Q
at_load a load P Q is p = subst (λ (b : Asked). IfLoad b P Q) (sym is) p

pub memory_load : (a : Asked) (P : Load → Type 0) (Q : Type 0) → a ≡ asked.Memory → Q → IfLoad a P Q
memory_load a P Q is q = subst (λ (b : Asked). IfLoad b P Q) (sym is) q

pub serve_opens : (a : Asked) (P : Type 0) → a ≡ asked.Serve → P → IfOpens a P
serve_opens a P is p = subst (λ (b : Asked). IfOpens b P) (sym is) p

pub load_opens : (a : Asked) (load : Load) (P : Type 0) → a ≡ asked.Load load → P → IfOpens a P
load_opens a load P is p = subst (λ (b : Asked). IfOpens b P) (sym is) p

pub memory_opens : (a : Asked) (P : Type 0) → a ≡ asked.Memory → P → IfOpens a P
memory_opens a P is p = subst (λ (b : Asked). IfOpens b P) (sym is) p

pub load_is_asked : (a : Asked) (load : Load) → a ≡ asked.Load load → IsLoadAsk a
load_is_asked a load is = subst IsLoadAsk (sym is) tt

pub settings_reset : (a : Asked) (settings : Settings) (P : NewNumbers → Type 0) (Q : Type 0) → a ≡ asked.Settings settings → P (new.Settings settings) → IfReset a P Q
settings_reset a settings P Q is p = subst (λ (b : Asked). IfReset b P Q) (sym is) p

pub grow_reset : (a : Asked) (pages : ℕ) (P : NewNumbers → Type 0) (Q : Type 0) → a ≡ asked.Grow pages → P (new.Pages pages) → IfReset a P Q
grow_reset a pages P Q is p = subst (λ (b : Asked). IfReset b P Q) (sym is) p

pub memory_reset : (a : Asked) (P : NewNumbers → Type 0) (Q : Type 0) → a ≡ asked.Memory → Q → IfReset a P Q
memory_reset a P Q is q = subst (λ (b : Asked). IfReset b P Q) (sym is) q

pub settings_is_reset : (a : Asked) (settings : Settings) → a ≡ asked.Settings settings → IsResetAsk a
settings_is_reset a settings is = subst IsResetAsk (sym is) tt

pub grow_is_reset : (a : Asked) (pages : ℕ) → a ≡ asked.Grow pages → IsResetAsk a
grow_is_reset a pages is = subst IsResetAsk (sym is) tt

pub settings_opens : (a : Asked) (settings : Settings) (P : Type 0) → a ≡ asked.Settings settings → P → IfOpens a P
settings_opens a settings P is p = subst (λ (b : Asked). IfOpens b P) (sym is) p

pub grow_opens : (a : Asked) (pages : ℕ) (P : Type 0) → a ≡ asked.Grow pages → P → IfOpens a P
grow_opens a pages P is p = subst (λ (b : Asked). IfOpens b P) (sym is) p

pub settings_in_its_range : (a : Asked) (settings : Settings) → a ≡ asked.Settings settings → HasSettingsInRange a → InRange settings
settings_in_its_range a settings is range = subst HasSettingsInRange is range

pub load_opens_so : (a : Asked) (load : Load) (P : Type 0) → a ≡ asked.Load load → P → IfOpensWithoutGrowing a P
load_opens_so a load P is p = subst (λ (b : Asked). IfOpensWithoutGrowing b P) (sym is) p

pub settings_opens_so : (a : Asked) (settings : Settings) (P : Type 0) → a ≡ asked.Settings settings → P → IfOpensWithoutGrowing a P
settings_opens_so a settings P is p = subst (λ (b : Asked). IfOpensWithoutGrowing b P) (sym is) p

pub grow_opens_so : (a : Asked) (pages : ℕ) (P : Type 0) → a ≡ asked.Grow pages → IfOpensWithoutGrowing a P
grow_opens_so a pages P is = subst (λ (b : Asked). IfOpensWithoutGrowing b P) (sym is) tt

pub at_check : (a : Asked) (P : Type 0) → a ≡ asked.Check → P → IfCheck a P
at_check a P is p = subst (λ (b : Asked). IfCheck b P) (sym is) p

pub at_tables : (a : Asked) (P : Type 0) → a ≡ asked.Tables → P → IfTables a P
at_tables a P is p = subst (λ (b : Asked). IfTables b P) (sym is) p

pub at_dump : (a : Asked) (P : Type 0) → a ≡ asked.Dump → P → IfDump a P
at_dump a P is p = subst (λ (b : Asked). IfDump b P) (sym is) p

pub memory_tables : (a : Asked) (P : Type 0) → a ≡ asked.Memory → P → IfTables a P
memory_tables a P is p = subst (λ (b : Asked). IfTables b P) (sym is) p

pub memory_dump : (a : Asked) (P : Type 0) → a ≡ asked.Memory → P → IfDump a P
memory_dump a P is p = subst (λ (b : Asked). IfDump b P) (sym is) p

pub memory_check : (a : Asked) (P : Type 0) → a ≡ asked.Memory → P → IfCheck a P
memory_check a P is p = subst (λ (b : Asked). IfCheck b P) (sym is) p

pub check_is_asked : (a : Asked) → a ≡ asked.Check → IsCheckAsk a
check_is_asked a is = subst IsCheckAsk (sym is) tt

pub at_build_map : (a : Asked) (P : Type 0) → a ≡ asked.BuildMap → P → IfBuildMap a P
at_build_map a P is p = subst (λ (b : Asked). IfBuildMap b P) (sym is) p

pub at_serve_map : (a : Asked) (P : Type 0) → a ≡ asked.ServeMap → P → IfServeMap a P
at_serve_map a P is p = subst (λ (b : Asked). IfServeMap b P) (sym is) p

pub memory_build_map : (a : Asked) (P : Type 0) → a ≡ asked.Memory → P → IfBuildMap a P
memory_build_map a P is p = subst (λ (b : Asked). IfBuildMap b P) (sym is) p

pub memory_serve_map : (a : Asked) (P : Type 0) → a ≡ asked.Memory → P → IfServeMap a P
memory_serve_map a P is p = subst (λ (b : Asked). IfServeMap b P) (sym is) p

pub build_map_is_asked : (a : Asked) → a ≡ asked.BuildMap → IsBuildMapAsk a
build_map_is_asked a is = subst IsBuildMapAsk (sym is) tt

pub serve_map_is_asked : (a : Asked) → a ≡ asked.ServeMap → IsServeMapAsk a
serve_map_is_asked a is = subst IsServeMapAsk (sym is) tt
