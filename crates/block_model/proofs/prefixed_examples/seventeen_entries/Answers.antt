use Rattle.std.proofs.Common.{refl}
use Rattle.block_model.specs.Pages.{pages_for}
use Rattle.block_model.specs.Pages.{padding}
use Rattle.block_model.specs.Block.{block_bytes, header_bytes, list_bytes}
use Rattle.block_model.specs.Bodies.{entries_bytes, listed_places}
use Rattle.block_model.specs.Pages.{block_length}
use Rattle.block_model.specs.PrefixedExamples.{tombstones}
use Rattle.block_model.proofs.prefixed_examples.seventeen_entries.Goals as goal

pub returns-clause-long : goal.returns-clause-long
unfolding block_length tombstones entries_bytes
returns-clause-long c = refl

pub returns-clause-places : goal.returns-clause-places
unfolding block_length tombstones entries_bytes pages_for padding listed_places header_bytes list_bytes block_bytes
returns-clause-places c = refl

pub returns-clause-the_last : goal.returns-clause-the_last
unfolding block_length tombstones entries_bytes pages_for padding listed_places header_bytes list_bytes block_bytes
returns-clause-the_last c = refl
