use Rattle.std.proofs.Common.{◌∙◌, ◌≤◌, List, sym, subst}
use Rattle.byte_fields.specs.declared.parts.Row.{Row}
use Rattle.manifest.specs.Manifest.{Manifest}
use Rattle.manifest_model.specs.Laws.{IsVersion}
use Rattle.manifest_model.specs.Version.{log_page_of}
use Rattle.store_core.proofs.Resets.{numbered_is_version}
use Rattle.store_core.proofs.resetting.numbered_version.Goals as goal

pub returns-clause-sound : goal.returns-clause-sound
returns-clause-sound c =
    let is = subst (λ (m : Manifest). IsVersion m.version) (sym c.version.view_is) c.requires.sound in
    let more = subst (λ (m : Manifest). m.version.pages ≤ c.args.pages) (sym c.version.view_is) c.requires.more in
    let own = numbered_is_version _ c.args.settings c.args.pages is c.requires.settings c.requires.ratio more c.requires.most in
    subst (λ (rows : List Row). IsVersion (record {
      hash_bits = c.args.settings.hash_bits;
      real_bits = c.args.settings.real_bits;
      ratio = c.args.settings.ratio;
      pages = c.args.pages;
      epoch = c.version.inside.epoch;
      log_page = log_page_of c.version.inside.log_area;
      rows = rows;
    })) (sym (c.in_ok-copied_rows.ensures ∙ c.deref.ensures.value)) own
