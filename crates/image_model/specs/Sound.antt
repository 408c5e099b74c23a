-- What an image stands for is sound, and has no deleted range.
use Rattle.disk_trait.specs.Image.{Image}
use Rattle.filter_api.specs.Spellings.{Spelling}
use Rattle.manifest_model.specs.Version.{Version}
use Rattle.state_model.specs.Sound.{IsSound}
use Rattle.state_model.specs.State.{State}
use Rattle.state_model.specs.WithoutRanges.{HasOnlyEntries}
use Rattle.table_model.specs.Tables.{FilterBytes}
use Rattle.image_model.specs.Stands.{IsNamedBy, IsStateOf}

-- the bytes of the filter that is built count for a job alone, and no image shows one
abbrev pub StateIsSound : Type 0
StateIsSound = (spelling : Spelling) (filter_bytes : FilterBytes) (s : State) (image : Image) → IsStateOf spelling s image → IsSound filter_bytes s

-- the log sets entries alone, and no table has a range
abbrev pub StateHasEntries : Type 0
StateHasEntries = (spelling : Spelling) (v : Version) (s : State) (image : Image) (named : IsNamedBy spelling v s image) → HasOnlyEntries s named.entries
