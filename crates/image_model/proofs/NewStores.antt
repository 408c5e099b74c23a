-- A new store stands for a state.
use Rattle.std.proofs.Common.{◌≡◌, ◌≤◌, ℕ, [], inl, refl, arith}
use Rattle.std.specs.Prelude.{None}
use Rattle.filter_api.specs.Ranges.{InRange}
use Rattle.filter_api.specs.declared.settings.Settings.{Settings}
use Rattle.log_model.proofs.Appended.{empty}
use Rattle.manifest_model.specs.Laws.{IsVersion}
use Rattle.manifest_model.specs.Reading.{extents_fault, levels_fault, of_version, table_rows_fault}
use Rattle.image_model.specs.NewStores.{NewStoreIsReady, NewStoreStands, new_version}

none_placed : (settings : Settings) (pages : ℕ) → of_version (new_version settings pages) ≡ None
unfolding table_rows_fault levels_fault extents_fault
none_placed settings pages = refl

new_sound : (settings : Settings) (pages : ℕ) → InRange settings → settings.ratio ≤ 65535 → 512 ≤ pages → pages ≤ 16777216 → IsVersion (new_version settings pages)
new_sound settings pages range ratio some few = record {
  few_tables = omega arith;
  some_epoch = omega arith;
  epoch = omega arith;
  some_pages = some;
  few_pages = few;
  hash_bits = range.hash_bits;
  real_bits = range.real_bits;
  ratio = omega (arith, ratio);
  log_page = inl refl;
  rows = tt;
  settings = tt;
  placed = none_placed settings pages;
}

pub new_store_ready : NewStoreIsReady
new_store_ready spelling settings pages image range ratio some few formatted = record {
  current = record {
    here = record { is_open = formatted.gate; sound = new_sound settings pages range ratio some few; format = 2; may = inl refl; body = formatted.body };
    there = inl formatted.other_gate;
  };
  gate = formatted.other_gate;
  named = record {
    settings = refl;
    pages = refl;
    epoch = refl;
    tables = tt;
    order = λ i j d before within. absurd (omega (arith, within));
    area = 0;
    area_is = refl;
    log = empty 0 image formatted.log_gate;
    entries = [];
    sets = refl;
    no_ranges = tt;
    no_job = refl;
    none_kept = refl;
  };
  unnamed = tt;
}

pub new_store_stands : NewStoreStands
new_store_stands spelling settings pages image range ratio some few formatted =
    let ready = new_store_ready spelling settings pages image range ratio some few formatted in
    (new_version settings pages, record { version_is = inl ready.current; named = ready.named })
