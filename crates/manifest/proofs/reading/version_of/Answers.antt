use Rattle.std.proofs.Common.{◌≡◌, ◌⊎◌, ◌+◌, ◌*◌, ℕ, false, drop, sym, subst, ◌∙◌}
use Rattle.byteorder.specs.Endian.{little_number}
use Rattle.manifest_model.specs.Reading.{version_in}
use Rattle.manifest.proofs.Bodies.{log_area_kept}
use Rattle.manifest.proofs.reading.version_of.Goals as goal

pub area_of-requires : goal.area_of-requires
area_of-requires c =
    subst (λ (page : ℕ). (page ≡ 64) ⊎ (page ≡ 128)) (sym c.get_u32-2.ensures) (log_area_kept c.args.body.now c.requires.log_area)

pub returns : goal.returns
unfolding version_in
returns c =
    let body = c.args.body.now in
    let page : 64 * (c.area_of.result + 1) ≡ little_number 4 (drop 24 body) = c.area_of.ensures ∙ c.get_u32-2.ensures in
    λ i. record {
      version = record {
        hash_bits = (c.settings_in.ensures i).hash_bits;
        real_bits = (c.settings_in.ensures i).real_bits;
        ratio = (c.settings_in.ensures i).ratio;
        pages = c.get_u32.ensures i;
        epoch = c.get_u64.ensures i;
        log_page = page i;
        rows = c.requires.rows i;
      };
      slot = c.args.slot;
      other_open = false;
    }
