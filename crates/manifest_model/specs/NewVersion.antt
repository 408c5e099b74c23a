-- The version of a new store.
use Rattle.std.specs.Prelude.{◌≤◌, ℕ, []}
use Rattle.filter_api.specs.Ranges.{InRange}
use Rattle.filter_api.specs.declared.settings.Settings.{Settings}
use Rattle.key_base.specs.Limits.{max_device_pages, max_ratio, min_device_pages}
use Rattle.manifest_model.specs.Laws.{IsVersion}
use Rattle.manifest_model.specs.Version.{Version, log_page_of}

-- epoch 1, no tables, and the first log area
abbrev pub new_version : Settings → ℕ → Version
new_version settings pages = record {
  hash_bits = settings.hash_bits;
  real_bits = settings.real_bits;
  ratio = settings.ratio;
  pages = pages;
  epoch = 1;
  log_page = log_page_of 0;
  rows = [];
}

-- it keeps the rules
abbrev pub NewVersionIsOne : Type 0
NewVersionIsOne =
    (settings : Settings) (pages : ℕ) → InRange settings → settings.ratio ≤ max_ratio → min_device_pages ≤ pages → pages ≤ max_device_pages
    → IsVersion (new_version settings pages)
