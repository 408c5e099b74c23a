-- No state of an image has a deleted range.
use Rattle.image_model.specs.Sound.{StateHasEntries}

pub state_has_entries : StateHasEntries
state_has_entries spelling v s image named = record { log = named.sets; tables = named.no_ranges }
