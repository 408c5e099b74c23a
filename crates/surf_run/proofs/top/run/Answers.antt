use Rattle.std.proofs.Common.{inl, inr, map}
use Rattle.std.specs.Prelude.{string_bytes}
use Rattle.image_model.proofs.Sound.{state_sound}
use Rattle.lines_in.proofs.LastLines.{unserved_wider}
use Rattle.surf_run.specs.Kind.{filter_kind}
use Rattle.surf_run.specs.Run.{IsBadSettingsText, IsMemoryText}
use Rattle.surf_run.specs.declared.new_numbers.NewNumbers.TheVariants as new
use Rattle.surf_run.proofs.Asking.{has_settings_in_range, if_bad, if_build_map, if_check, if_dump, if_format, if_help, if_load, if_nothing, if_opens, if_opens_without_growing, if_refused, if_reset, if_serve, if_serve_map, if_tables, is_build_map, is_check, is_load, is_refused, is_reset, is_serve_map}
use Rattle.surf_run.proofs.Chaining.{one_map_lasts}
use Rattle.surf_run.proofs.Formats.{format_ends}
use Rattle.surf_run.proofs.top.run.Goals as goal

pub run_asked-requires : goal.run_asked-requires
run_asked-requires g c = has_settings_in_range (map string_bytes c.args.words.now) c.read_words-asked.result c.read_words-asked.ensures

pub returns : goal.returns
returns g c =
    let words = map string_bytes c.args.words.now in
    let asked = c.read_words-asked.result in
    let asks = c.read_words-asked.ensures in
    let by = c.run_asked.ensures in
    record {
      outcome = λ s tells input output now is. if_serve words asked _ is asks (by.outcome s tells input output now);
      one_map_crash = λ s tells input output now is.
          let spelling = g.F.RangeFilter.spelling in
          let kind = filter_kind spelling g.F.RangeFilter.built_cutoff in
          let here = now _ (g.met.W.Disk.current c.args.out.now tells) in
          one_map_lasts kind _ s _ _ (state_sound spelling kind.filter_bytes s _ here) (if_serve words asked _ is asks (by.outcome s tells input output now));
      answers = λ s tells input output here is. if_serve words asked _ is asks (by.answers s tells input output here);
      complete = λ s tells input output here none is. if_serve words asked _ is asks (by.complete s tells input output here none);
      formatted = λ wanted store tells output is good of. if_format words asked wanted store _ _ is good of asks (by.formatted tells output) (λ none. inr none);
      early = λ is. if_serve words asked _ is asks by.early;
      format_complete = λ wanted store tells output is good of none.
          format_ends _ wanted store _ _ _ good of (if_format words asked wanted store _ _ is good of asks (by.formatted tells output) (λ starved. inr starved)) by.causes none;
      bad_settings = λ field output bad. if_bad words asked field _ _ bad asks (by.bad_settings output) (λ none. unserved_wider IsMemoryText (IsBadSettingsText field) (λ status text memory. inr memory) _ _ _ none);
      loaded = λ s load tells output now is. if_load words asked load _ _ is asks (by.loaded s tells output now) (λ none. inr none);
      loads = λ s load tells output here is. if_load words asked load _ _ is asks (by.loads s tells output here) (λ none. inr none);
      load_complete = λ s load tells output here none is. if_load words asked load _ _ is asks (by.load_complete s tells output here none) (λ ends. ends);
      load_statuses = λ load is. if_load words asked load _ _ is asks by.load_statuses (λ ends. ends);
      reset = λ s numbers tells output now is. if_reset words asked numbers _ _ is asks (by.reset s tells output now) (λ none. inr none);
      resets = λ s numbers tells output here is. if_reset words asked numbers _ _ is asks (by.resets s tells output here) (λ none. inr none);
      reset_complete = λ s numbers tells output here none is. if_reset words asked numbers _ _ is asks (by.reset_complete s tells output here none) (λ ends. ends);
      reset_statuses = λ numbers is. if_reset words asked numbers _ _ is asks by.reset_statuses (λ ends. ends);
      reset_at_damage = λ numbers tells output is five. if_reset words asked numbers _ _ is asks (by.reset_at_damage tells output five) (λ never. absurd never);
      only_at_new_numbers = λ ten. is_reset words asked asks (by.at_ten ten).0;
      only_at_last_epoch = λ tells ten. (by.at_ten ten).1 tells;
      helped = λ output is. if_help words asked _ is asks (by.helped output);
      refused = λ output is. if_refused words asked _ is asks (by.refused output);
      causes = by.causes;
      counts = by.counts;
      only_at_wrong_words = λ two. is_refused words asked asks (by.only_at_wrong_words two);
      told_of_wrong_words = λ is. if_refused words asked _ is asks by.told_of_wrong_words;
      told_of_bad_settings = λ field bad. if_bad words asked field _ _ bad asks by.told_of_bad_settings (λ ends. ends);
      told_of_help = λ is. if_help words asked _ is asks by.told_of_help;
      untouched = λ is. if_nothing words asked _ is asks by.untouched;
      unopened = λ tells output nothing is. (if_opens words asked _ is asks by.ending).unopened tells output nothing;
      only_at_damage = λ tells input output five. elim (by.only_at_damage tells input output five) [
        | inl told ↦ inl told
        | inr more ↦ elim more [
          | inl none ↦ inr (inl (none.0, elim none.1 [ inl shown ↦ inl shown | inr unsaid ↦ inr (is_load words asked asks unsaid.0, unsaid.1) ]))
          | inr of ↦ inr (inr (is_serve_map words asked asks of))
        ]
      ];
      within = λ v tells is asked_for. if_opens words asked _ asked_for asks (by.within v tells is);
      told_of_damage = λ d tells damaged is. (if_opens words asked _ is asks by.ending).told_of_damage d tells damaged;
      only_at_no_store = λ tells eight is. if_opens_without_growing words asked _ is asks (by.only_at_no_store tells eight);
      only_at_bad_pages = λ pages tells eight is. if_reset words asked (new.Pages pages) _ _ is asks (by.at_eight tells eight) (λ never. absurd never);
      told_of_no_store = λ tells none is. (if_opens words asked _ is asks by.ending).told_of_no_store tells none;
      check = λ is. if_check words asked _ is asks by.check;
      tables = λ is. if_tables words asked _ is asks by.tables;
      dump = λ is. if_dump words asked _ is asks by.dump;
      map_built = λ is. if_build_map words asked _ is asks by.map_built;
      map_served = λ is. if_serve_map words asked _ is asks by.map_served;
      only_at_no_map = λ eleven. is_build_map words asked asks (by.at_eleven eleven);
      only_at_check = λ twelve. is_check words asked asks (by.at_twelve twelve);
      statuses = by.statuses;
    }
