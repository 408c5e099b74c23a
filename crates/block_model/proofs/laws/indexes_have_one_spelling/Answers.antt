use Rattle.block_model.proofs.IndexesRead.{index_again, index_written}
use Rattle.block_model.proofs.TableIndex.{index_sound}
use Rattle.block_model.proofs.laws.indexes_have_one_spelling.Goals as goal

pub returns-clause-again : goal.returns-clause-again
returns-clause-again c = index_again

pub returns-clause-written : goal.returns-clause-written
returns-clause-written c = index_written

pub returns-clause-sound : goal.returns-clause-sound
returns-clause-sound c = index_sound
