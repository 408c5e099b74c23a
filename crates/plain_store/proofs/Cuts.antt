-- The first output of a merge, entry by entry.
use Rattle.std.specs.Prelude.{◌≡◌, ◌<◌, ℕ, suc, nat_le, if◌then◌else◌, List, [], length, take, drop}
use Rattle.std.proofs.Common.{sym, ap, ◌∙◌}
use Rattle.std.proofs.Math.Seq.{drop-cons, take-suc}
use Rattle.entry_model.specs.Entries.{Entry, del_entry}
use Rattle.block_model.specs.Pages.{data_pages}
use Rattle.state_model.specs.Merges.{split_output}

-- with one entry more the output is full, or goes on
pub split_step : (es : List Entry) (n : ℕ) → n < length es
    → split_output (take n es) (drop n es)
    ≡ (if nat_le 1024 (data_pages (take (suc n) es)) then (take (suc n) es, drop (suc n) es) else split_output (take (suc n) es) (drop (suc n) es))
split_step es n h =
    ap (λ (rest : List Entry). split_output (take n es) rest) (drop-cons es n (del_entry []) h)
    ∙ sym (ap (λ (front : List Entry). if nat_le 1024 (data_pages front) then (front, drop (suc n) es) else split_output front (drop (suc n) es))
    (take-suc es n (del_entry []) h))
