-- What was read of one part is there when the next one is read.
use Rattle.std.proofs.Common.{◌≡◌, List, [], ◌∷◌, ◌++◌, sym, ap, ◌∙◌, subst}
use Rattle.std.specs.Prelude.{Option, Some}
use Rattle.byte_fields.specs.Faults.{Fault}
use Rattle.byte_fields.specs.declared.parts.Damage.{Damage}
use Rattle.byte_fields.specs.declared.parts.Row.{Row}
use Rattle.disk_trait.specs.Image.{Image}
use Rattle.filter_api.specs.Spellings.{Spelling}
use Rattle.map_model.specs.SortedMap.{Bytes}
use Rattle.table_file.specs.Opened.{IsReadIndex, RowIndex}
use Rattle.image_model.specs.Findings.{Finding, count_findings, findings_of_blocks, found_by, index_findings, known_keys}
use Rattle.store_check.specs.Tables.{AddsOfFilter}
use Rattle.store_check.proofs.Counted.{index_is_sound}

pub read_there : (row : Row) (image after : Image) (x : RowIndex) → x.row ≡ row → after ≡ image → IsReadIndex row image x → IsReadIndex x.row after x
read_there row image after x row_is same is = subst (λ (h : Image). IsReadIndex x.row h x) (sym same) (subst (λ (r : Row). IsReadIndex r image x) (sym row_is) is)

pub findings_there : (row : Row) (image after : Image) (x : RowIndex) → x.row ≡ row → after ≡ image → IsReadIndex x.row after x
    → findings_of_blocks x.row after ++ count_findings x.row after ≡ index_findings row image
findings_there row image after x row_is same is = index_is_sound x after is ∙ (λ i. index_findings (row_is i) (same i))

pub keys_there : (row : Row) (image after : Image) (x : RowIndex) → x.row ≡ row → after ≡ image → known_keys x.row after ≡ known_keys row image
keys_there row image after x row_is same = λ i. known_keys (row_is i) (same i)

-- of a damaged index its damage alone is added
pub damage_added : (row : Row) (image : Image) (d : Damage) (f : Finding) (old new : List Finding) → found_by (Some d) ≡ f ∷ [] → old ≡ [] → new ≡ old ++ f ∷ [] → index_findings row image ≡ found_by (Some d)
    → new ≡ index_findings row image
damage_added row image d f old new said none added is = added ∙ ap (λ (fs : List Finding). fs ++ f ∷ []) none ∙ sym said ∙ sym is

pub adds_there : (spelling : Spelling) (first : Bytes → Fault) (row : Row) (keys known : Option (List Bytes)) (image after : Image) (old there new : List Finding) → keys ≡ known → after ≡ image → there ≡ old
    → AddsOfFilter spelling first row keys after there new → AddsOfFilter spelling first row known image old new
adds_there spelling first row keys known image after old there new keys_are same old_is adds =
    subst (λ (fs : List Finding). AddsOfFilter spelling first row known image fs new) old_is
    (subst (λ (h : Image). AddsOfFilter spelling first row known h there new) same
    (subst (λ (k : Option (List Bytes)). AddsOfFilter spelling first row k after there new) keys_are adds))
