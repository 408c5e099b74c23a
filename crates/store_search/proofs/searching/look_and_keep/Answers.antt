use Rattle.std.proofs.Common.{◌≡◌, ◌∙◌, length, sym, subst, arith}
use Rattle.std.specs.Prelude.{IfSome, Option}
use Rattle.std.proofs.lemmas.Option.{IfSome_then}
use Rattle.map_model.specs.SortedMap.{Bytes}
use Rattle.store_search.specs.Caching.{Cached}
use Rattle.store_search.specs.Searching.{IsBlockIn, MayKeepRead}
use Rattle.store_search.specs.declared.searching.BlockRead.{BlockRead}
use Rattle.store_search.proofs.Caches.{left_same, numbered_same, true_same}
use Rattle.store_search.proofs.Lookings.{kept_left, kept_numbered, kept_true, place_found, said_stays, unkept_within}
use Rattle.store_search.proofs.searching.look_and_keep.Goals as goal

pub keep_read-requires : goal.keep_read-requires
keep_read-requires g c =
    subst (λ (b : Bytes). IfSome c.in_ok-looked.looked.read (λ r. IsBlockIn r.size b)) (sym c.deref.ensures.value) (IfSome_then c.in_ok-looked.looked.read c.in_ok-looked.ensures.read (λ r is. is.block))

-- what is kept is of the buffer's bytes
kept_read : (read : Option BlockRead) (seen buffer : Bytes) (old new : Cached) → seen ≡ buffer → MayKeepRead read seen old new → MayKeepRead read buffer old new
kept_read read seen buffer old new same kept = subst (λ (b : Bytes). MayKeepRead read b old new) same kept

pub returns-in_err-looked-clause-numbered : goal.returns-in_err-looked-clause-numbered
returns-in_err-looked-clause-numbered g c numbered = numbered_same c.args.blocks.now c.look_in_all.new.blocks (length c.args.tables.now) c.look_in_all.ensures.same numbered

pub returns-in_err-looked-clause-keeps : goal.returns-in_err-looked-clause-keeps
returns-in_err-looked-clause-keeps g c states tells held are = true_same c.args.blocks.now c.look_in_all.new.blocks c.args.tables.now states c.look_in_all.ensures.same are

pub returns-in_err-looked-clause-kept : goal.returns-in_err-looked-clause-kept
returns-in_err-looked-clause-kept g c = left_same c.args.blocks.now c.look_in_all.new.blocks c.look_in_all.ensures.same

pub returns-clause-kept : goal.returns-clause-kept
returns-clause-kept g c = kept_left c.in_ok-looked.looked.read c.look_in_all.new.buffer.items c.args.blocks.now c.look_in_all.new.blocks c.keep_read.new.blocks c.look_in_all.ensures.same (kept_read c.in_ok-looked.looked.read c.deref.result.now c.look_in_all.new.buffer.items c.look_in_all.new.blocks c.keep_read.new.blocks c.deref.ensures.value c.keep_read.ensures)

pub returns-clause-place : goal.returns-clause-place
returns-clause-place g c = IfSome_then c.in_ok-looked.looked.found c.in_ok-looked.ensures.found (λ at is. place_found at c.look_in_all.new.buffer.items c.look_in_all.new.blocks.kept c.args.key.now is)

pub returns-clause-numbered : goal.returns-clause-numbered
returns-clause-numbered g c numbered =
    kept_numbered c.in_ok-looked.looked.read c.look_in_all.new.buffer.items c.args.blocks.now c.look_in_all.new.blocks c.keep_read.new.blocks c.look_in_all.ensures.same (kept_read c.in_ok-looked.looked.read c.deref.result.now c.look_in_all.new.buffer.items c.look_in_all.new.blocks c.keep_read.new.blocks c.deref.ensures.value c.keep_read.ensures)
    (length c.args.tables.now) c.in_ok-looked.ensures.read numbered

pub returns-clause-keeps : goal.returns-clause-keeps
returns-clause-keeps g c states tells held are =
    kept_true c.in_ok-looked.looked.read c.look_in_all.new.buffer.items c.args.blocks.now c.look_in_all.new.blocks c.keep_read.new.blocks c.look_in_all.ensures.same (kept_read c.in_ok-looked.looked.read c.deref.result.now c.look_in_all.new.buffer.items c.look_in_all.new.blocks c.keep_read.new.blocks c.deref.ensures.value c.keep_read.ensures)
    c.args.tables.now states (c.in_ok-looked.ensures.says states tells held) are

pub returns-clause-answer : goal.returns-clause-answer
returns-clause-answer g c states tells held are =
    said_stays c.in_ok-looked.looked.found c.in_ok-looked.looked.read c.look_in_all.new.buffer.items c.args.key.now c.look_in_all.new.blocks c.keep_read.new.blocks (length c.args.tables.now)
    c.in_ok-looked.ensures.found c.in_ok-looked.ensures.read (kept_read c.in_ok-looked.looked.read c.deref.result.now c.look_in_all.new.buffer.items c.look_in_all.new.blocks c.keep_read.new.blocks c.deref.ensures.value c.keep_read.ensures)
    ∙ c.in_ok-looked.ensures.answer states tells held are

pub returns-in_err-looked-clause-within : goal.returns-in_err-looked-clause-within
returns-in_err-looked-clause-within g c states tells held are =
    let some = c.look_in_all.ensures.bounded states tells held are in
    omega (arith, some, unkept_within c.standing_tables_are_read.ensures.keys g.F.RangeFilter.spelling c.args.blocks.now c.args.key.now _ c.args.tables.now states held)

pub returns-clause-within : goal.returns-clause-within
returns-clause-within g c states tells held are =
    let some = c.look_in_all.ensures.bounded states tells held are in
    omega (arith, some, unkept_within c.standing_tables_are_read.ensures.keys g.F.RangeFilter.spelling c.args.blocks.now c.args.key.now _ c.args.tables.now states held)

pub returns-clause-looked : goal.returns-clause-looked
returns-clause-looked g c tells =
    said_stays c.in_ok-looked.looked.found c.in_ok-looked.looked.read c.look_in_all.new.buffer.items c.args.key.now c.look_in_all.new.blocks c.keep_read.new.blocks (length c.args.tables.now)
    c.in_ok-looked.ensures.found c.in_ok-looked.ensures.read (kept_read c.in_ok-looked.looked.read c.deref.result.now c.look_in_all.new.buffer.items c.look_in_all.new.blocks c.keep_read.new.blocks c.deref.ensures.value c.keep_read.ensures)
    ∙ c.in_ok-looked.ensures.looked tells
