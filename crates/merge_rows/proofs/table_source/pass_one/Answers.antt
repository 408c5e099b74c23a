use Rattle.std.proofs.Common.{◌≡◌, ◌-◌, ℕ, sym, ap₂, subst, arith, get_or}
use Rattle.std.proofs.lemmas.List.Sums.{sum_by-set}
use Rattle.merge_rows.specs.Merges.{blocks_in, left_above, numbered, row_count}
use Rattle.merge_rows.specs.Reads.{blocks_left_in, next_block_of, wanted_block_of}
use Rattle.merge_rows.specs.Steps.{IsSoundWalk, number_of_walk, stand_of_walk}
use Rattle.merge_rows.proofs.FirstFills.{IsSoundHere, all_here, all_set, map_set, number_here}
use Rattle.merge_rows.proofs.table_source.pass_one.Goals as goal

pub pass-requires : goal.pass-requires
pass-requires g c =
    let here = number_here c.args.tables.now.tables c.args.walks.now c.args.at c.index-walks-at.result c.requires.there c.requires.known in
    record { there = here.0; room = here.1 }

pub returns-clause-passed : goal.returns-clause-passed
returns-clause-passed g c =
    let floor = c.args.floor.now in
    let tables = c.args.tables.now.tables in
    let image = (g.D.Disk.world c.args.disk.now).seen.held in
    let i = c.args.at in
    let old = c.args.walks.now in
    let d = c.index-walks-at.result in
    let x = c.pass.new.self in
    let lt = c.requires.there in
    let few : blocks_left_in tables x ≡ blocks_left_in tables (get_or old i d) = ap₂ (λ (n b : ℕ). row_count (numbered tables n) - b) c.pass.ensures.number c.pass.ensures.block in
    record {
      numbers_are = map_set number_of_walk old i x d lt c.pass.ensures.number;
      stands_are = map_set stand_of_walk old i x d lt (ap₂ (λ (n r : ℕ). (n, r)) c.pass.ensures.number c.pass.ensures.room);
      same = λ t. map_set (left_above floor tables image) old i x d lt (c.pass.ensures.same t);
      sound = λ t s. all_set (IsSoundHere floor tables image) old i x d lt
          (λ u. subst (λ (n : ℕ). IsSoundWalk floor x.walk (blocks_in (numbered tables n) image)) (sym c.pass.ensures.number) (c.pass.ensures.sound t u)) s;
      next = let sum = sum_by-set next_block_of old i x d lt in omega (arith, sum, c.pass.ensures.block);
      blocks = map_set next_block_of old i x d lt c.pass.ensures.block;
      left = let sum = sum_by-set (blocks_left_in tables) old i x d lt in omega (arith, sum, few);
      wanted = λ t s.
          let sum = sum_by-set (wanted_block_of floor tables) old i x d lt in
          let one = c.pass.ensures.wanted t (all_here (IsSoundHere floor tables image) old i d lt s) in
          omega (arith, sum, one);
    }
