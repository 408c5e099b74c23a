use Rattle.manifest_model.proofs.SlotFrames.{current_kept, in_use_kept, older_kept, slot_kept, version_kept}
use Rattle.manifest_model.proofs.laws.slots_are_kept.Goals as goal

pub returns-clause-slot : goal.returns-clause-slot
returns-clause-slot c = slot_kept

pub returns-clause-older : goal.returns-clause-older
returns-clause-older c = older_kept

pub returns-clause-in_use : goal.returns-clause-in_use
returns-clause-in_use c = in_use_kept

pub returns-clause-current : goal.returns-clause-current
returns-clause-current c = current_kept

pub returns-clause-version : goal.returns-clause-version
returns-clause-version c = version_kept
