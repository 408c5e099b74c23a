use Rattle.std.proofs.Common.{sym, subst}
use Rattle.filter_model.specs.Keys.{IsKeyList}
use Rattle.table_file.proofs.Keys.{key_list}
use Rattle.table_file.proofs.parts.Parts.new.Goals as goal

pub build-requires-clause-keys : goal.build-requires-clause-keys
build-requires-clause-keys g c = subst IsKeyList (sym c.requires.keys) (key_list _ c.requires.table)
