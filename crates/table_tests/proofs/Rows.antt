-- The row that is made of some parts: it is made again on its own level and from its own page, and where its table fits a
-- device it ends on it.
use Rattle.std.proofs.Common.{◌≡◌, ◌≤◌, ◌∙◌, ℕ, List, sym, ap, ap₂}
use Rattle.byte_fields.specs.declared.parts.Row.{Row}
use Rattle.key_base.specs.Limits.{max_device_pages}
use Rattle.range_model.specs.Sources.{Source}
use Rattle.block_model.specs.Places.{FitsDevice, end_page}
use Rattle.filter_api.specs.declared.settings.Settings.{Settings}
use Rattle.table_model.specs.Written.{row_from}

pub row_again :
    (row : Row) (level first_page : ℕ) (settings : Settings) (s : Source) (filter_bytes : List ℕ) → row ≡ row_from level first_page settings s filter_bytes
    → row ≡ row_from row.level row.first_page settings s filter_bytes
unfolding row_from
row_again row level first_page settings s filter_bytes is =
    is ∙ ap₂ (λ (l p : ℕ). row_from l p settings s filter_bytes) (sym (ap (λ (r : Row). r.level) is)) (sym (ap (λ (r : Row). r.first_page) is))

pub row_within : (row : Row) → FitsDevice row → end_page row ≤ max_device_pages
row_within row fits = fits.within
