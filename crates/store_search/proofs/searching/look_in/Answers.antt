use Rattle.std.proofs.Common.{rules, ◌∙◌, ℕ, Bool, refl, sym, ap, subst, cond}
use Rattle.std.proofs.lemmas.Option.{IfSome_then}
use Rattle.std.specs.Prelude.{Option, IfSome}
use Rattle.block_cache.specs.Kept.{BlockPlace, kept_of}
use Rattle.block_cache.proofs.Gives.{get_same}
use Rattle.disk_trait.proofs.Calls.{reads_none}
use Rattle.disk_trait.specs.World.{ReadMoves}
use Rattle.map_model.specs.SortedMap.{Bytes}
use Rattle.store_search.specs.Caching.{AreSame, Cached, IsFirst, said_by}
use Rattle.store_search.specs.Searching.{IsFoundAt, said_in}
use Rattle.store_search.specs.declared.searching.Spot.{Spot}
use Rattle.store_search.proofs.Caches.{brought_same, is_first, same_itself}
use Rattle.store_search.proofs.Lookeds.{looked_kept, looked_none, looked_read, sound_kept, sound_none, sound_read}
use Rattle.store_search.proofs.Lookings.{found_read, not_kept, read_as, said_kept, said_read}
use Rattle.store_search.proofs.ReadBounds.{some_read}
use Rattle.table_file.proofs.Stands.{answer, no_answer}
use Rattle.table_file.specs.Search.{block_for}
use Rattle.store_search.proofs.searching.look_in.Goals as goal

pub returns-in_default-clause-same : goal.returns-in_default-clause-same
returns-in_default-clause-same g c = same_itself c.args.blocks.now

pub returns-in_default-clause-answer : goal.returns-in_default-clause-answer
returns-in_default-clause-answer g c parts tells s are =
    sym (no_answer g.F.RangeFilter.spelling c.args.table.now parts _ s c.args.key.now (sym c.in_default.ensures))

pub returns-in_default-clause-moves : goal.returns-in_default-clause-moves
returns-in_default-clause-moves g c = reads_none _ _

-- ---- it is kept

pub find_kept-found-requires : goal.find_kept-found-requires
find_kept-found-requires g c = record {
  first = subst (λ (x : Cached). IsFirst (c.args.number, c.in-Some.block) x.kept) (sym c.has.ensures.brought)
      (is_first (c.args.number, c.in-Some.block) c.args.blocks.now.kept (sym c.has.ensures.is_kept ∙ c.if-has.true));
}

pub returns-then-has-clause-found : goal.returns-then-has-clause-found
returns-then-has-clause-found g c = IfSome_then c.find_kept-found.result c.find_kept-found.ensures.found (λ at is. is c.args.buffer.now.items)

pub returns-then-has-clause-same : goal.returns-then-has-clause-same
returns-then-has-clause-same g c = subst (AreSame c.args.blocks.now) (sym c.has.ensures.brought) (brought_same (c.args.number, c.in-Some.block) c.args.blocks.now)

pub returns-then-has-clause-answer : goal.returns-then-has-clause-answer
returns-then-has-clause-answer g c parts tells s are =
    let place : BlockPlace = (c.args.number, c.in-Some.block) in
    let key = c.args.key.now in
    let kept = ap (λ (x : Cached). kept_of place x.kept) c.has.ensures.brought ∙ get_same place place c.args.blocks.now.kept in
    c.find_kept-found.ensures.said c.args.buffer.now.items ∙ ap (λ (o : Option Bytes). said_by o key) kept
    ∙ said_kept (kept_of place c.args.blocks.now.kept) key _ (sym c.has.ensures.is_kept ∙ c.if-has.true) (λ bytes is. are c.in-Some.block bytes is key (sym c.block_for.ensures ∙ c.in-Some.is))

pub returns-then-has-clause-moves : goal.returns-then-has-clause-moves
returns-then-has-clause-moves g c = reads_none _ _

-- ---- it is read

pub read_in-requires-clause-named : goal.read_in-requires-clause-named
read_in-requires-clause-named g c = sym c.block_for.ensures ∙ c.in-Some.is

pub returns-in_err-size-clause-undamaged : goal.returns-in_err-size-clause-undamaged
returns-in_err-size-clause-undamaged g c parts tells s =
    let here = c.in_err-size.ensures.undamaged parts tells s in
    search rules

pub returns-in_err-size-clause-same : goal.returns-in_err-size-clause-same
returns-in_err-size-clause-same g c = subst (AreSame c.args.blocks.now) (sym c.has.ensures.brought) (brought_same (c.args.number, c.in-Some.block) c.args.blocks.now)

pub returns-in_err-size-clause-only_if_read : goal.returns-in_err-size-clause-only_if_read
returns-in_err-size-clause-only_if_read g c =
    let here = some_read (block_for c.args.table.now c.args.key.now) c.in-Some.block (sym c.block_for.ensures ∙ c.in-Some.is) in
    search rules

pub returns-in_err-size-clause-moves : goal.returns-in_err-size-clause-moves
returns-in_err-size-clause-moves g c =
    let one = read_as c.args.blocks.now.kept c.args.number c.in-Some.block _ c.has.result (sym c.block_for.ensures ∙ c.in-Some.is) c.has.ensures.is_kept ∙ ap (λ (b : Bool). cond b 0 1) c.if-has.false in
    subst (λ (n : ℕ). ReadMoves n (g.D.Disk.world c.args.disk.now) (g.D.Disk.world c.read_in.new.disk)) (sym one) c.read_in.ensures.moves

pub returns-clause-same : goal.returns-clause-same
returns-clause-same g c = subst (AreSame c.args.blocks.now) (sym c.has.ensures.brought) (brought_same (c.args.number, c.in-Some.block) c.args.blocks.now)

pub returns-clause-moves : goal.returns-clause-moves
returns-clause-moves g c =
    let one = read_as c.args.blocks.now.kept c.args.number c.in-Some.block _ c.has.result (sym c.block_for.ensures ∙ c.in-Some.is) c.has.ensures.is_kept ∙ ap (λ (b : Bool). cond b 0 1) c.if-has.false in
    subst (λ (n : ℕ). ReadMoves n (g.D.Disk.world c.args.disk.now) (g.D.Disk.world c.read_in.new.disk)) (sym one) c.read_in.ensures.moves

pub returns-clause-found : goal.returns-clause-found
returns-clause-found g c =
    subst (λ (o : Option Spot). IfSome o (λ at. IsFoundAt at c.read_in.new.buffer.items c.has.new.self.kept c.args.key.now)) (sym c.then_some.ensures)
    (found_read c.in_ok-size.size c.read_in.new.buffer.items c.args.key.now c.has.new.self.kept c.in_ok-size.has c.in_ok-size.ensures.block c.in_ok-size.ensures.has)

pub returns-clause-read : goal.returns-clause-read
returns-clause-read g c =
    let place : BlockPlace = (c.args.number, c.in-Some.block) in
    let kept = ap (λ (x : Cached). kept_of place x.kept) c.has.ensures.brought ∙ get_same place place c.args.blocks.now.kept in
    (refl, c.in_ok-size.ensures.block, kept ∙ not_kept c.args.blocks.now place c.has.result c.has.ensures.is_kept c.if-has.false)

pub returns-clause-answer : goal.returns-clause-answer
returns-clause-answer g c parts tells s are =
    let key = c.args.key.now in
    ap (λ (o : Option Spot). said_in o c.read_in.new.buffer.items c.has.new.self.kept key) c.then_some.ensures
    ∙ said_read c.in_ok-size.size c.read_in.new.buffer.items key c.has.new.self.kept c.in_ok-size.has c.in_ok-size.ensures.has
    ∙ answer g.F.RangeFilter.spelling c.args.table.now parts _ s key c.in-Some.block (sym c.block_for.ensures ∙ c.in-Some.is) _ (c.in_ok-size.ensures.bytes tells)

pub returns-clause-says : goal.returns-clause-says
returns-clause-says g c parts tells s =
    λ key named. answer g.F.RangeFilter.spelling c.args.table.now parts _ s key c.in-Some.block named _ (c.in_ok-size.ensures.bytes tells)

-- ---- what is said by the blocks themselves

pub returns-in_default-clause-looked : goal.returns-in_default-clause-looked
returns-in_default-clause-looked g c tells = looked_none c.args.blocks.now.kept c.args.number c.args.table.now c.args.key.now _ (sym c.in_default.ensures)

pub returns-in_default-clause-sound : goal.returns-in_default-clause-sound
returns-in_default-clause-sound g c tells = sound_none c.args.blocks.now.kept c.args.number c.args.table.now c.args.key.now _ (sym c.in_default.ensures)

pub returns-then-has-clause-looked : goal.returns-then-has-clause-looked
returns-then-has-clause-looked g c tells =
    let place : BlockPlace = (c.args.number, c.in-Some.block) in
    let key = c.args.key.now in
    let kept = ap (λ (x : Cached). kept_of place x.kept) c.has.ensures.brought ∙ get_same place place c.args.blocks.now.kept in
    c.find_kept-found.ensures.said c.args.buffer.now.items ∙ ap (λ (o : Option Bytes). said_by o key) kept
    ∙ looked_kept c.args.blocks.now.kept c.args.number c.args.table.now key _ c.in-Some.block (sym c.block_for.ensures ∙ c.in-Some.is) (sym c.has.ensures.is_kept ∙ c.if-has.true)

pub returns-then-has-clause-sound : goal.returns-then-has-clause-sound
returns-then-has-clause-sound g c tells =
    sound_kept c.args.blocks.now.kept c.args.number c.args.table.now c.args.key.now _ c.in-Some.block (sym c.block_for.ensures ∙ c.in-Some.is) (sym c.has.ensures.is_kept ∙ c.if-has.true)

pub returns-clause-looked : goal.returns-clause-looked
returns-clause-looked g c tells =
    let place : BlockPlace = (c.args.number, c.in-Some.block) in
    let key = c.args.key.now in
    ap (λ (o : Option Spot). said_in o c.read_in.new.buffer.items c.has.new.self.kept key) c.then_some.ensures
    ∙ said_read c.in_ok-size.size c.read_in.new.buffer.items key c.has.new.self.kept c.in_ok-size.has c.in_ok-size.ensures.has
    ∙ looked_read c.args.blocks.now.kept c.args.number c.args.table.now key _ c.in-Some.block (sym c.block_for.ensures ∙ c.in-Some.is)
    (not_kept c.args.blocks.now place c.has.result c.has.ensures.is_kept c.if-has.false) _ (c.in_ok-size.ensures.bytes tells)

pub returns-clause-sound : goal.returns-clause-sound
returns-clause-sound g c tells =
    sound_read c.args.blocks.now.kept c.args.number c.args.table.now c.args.key.now _ c.in-Some.block (sym c.block_for.ensures ∙ c.in-Some.is) (c.in_ok-size.ensures.sound tells)
