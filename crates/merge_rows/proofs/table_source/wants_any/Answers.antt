use Rattle.std.proofs.Common.{◌≡◌, ◌∙◌, ◌+◌, ◌-◌, ◌<◌, ℕ, suc, true, false, length, get_or, slice_set, sym, ap, ap₂, subst, arith}
use Rattle.std.specs.Prelude.{IsTrue}
use Rattle.std.proofs.lemmas.Bool.{false≢true}
use Rattle.disk_trait.specs.Image.{Image}
use Rattle.disk_trait.proofs.Calls.{reads_then}
use Rattle.merge_rows.specs.Merges.{blocks_in, left_above, numbered, row_count, walk_left}
use Rattle.merge_rows.specs.Reads.{blocks_left_in, next_block_of, ones, wanted_block_of}
use Rattle.merge_rows.specs.Steps.{AreWalksIn, IsCaughtUp, IsSoundWalk, number_of_walk, stand_of_walk, stands}
use Rattle.merge_rows.proofs.FirstFills.{IsSoundHere, Went, all_clear, all_none, all_ready, all_whole, number_here, set_left, set_next, set_numbers, set_places, set_same, set_some, set_sound, set_stands, set_wanted, sound_here, went_by, went_map, went_on, went_sound, went_sum, went_wanted}
use Rattle.merge_rows.proofs.table_source.wants_any.Goals as goal

pub pass-requires-clause-there : goal.pass-requires-clause-there
pass-requires-clause-there g c =
    let i = c.loop-i.i in
    let now = c.loop-i.walks in
    let tables = c.args.tables.now.tables in
    let lt : i < length now = omega (arith, c.loop-i-test.true, c.loop-i.auto.walks) in
    let same : stands now ≡ stands c.args.walks.now = went_map (IsTrue g.D.Disk.tells) c.args.floor.now tables (g.D.Disk.world c.args.disk.now).seen.held stand_of_walk (λ w y p. ap₂ (λ (n r : ℕ). (n, r)) p.number p.room) i c.args.walks.now now c.loop-i.invariant.went in
    (number_here tables now i c.index-walks-i-in-loop-i.result lt (subst (AreWalksIn tables) (sym same) c.requires)).0

pub pass-requires-clause-room : goal.pass-requires-clause-room
pass-requires-clause-room g c =
    let i = c.loop-i.i in
    let now = c.loop-i.walks in
    let tables = c.args.tables.now.tables in
    let lt : i < length now = omega (arith, c.loop-i-test.true, c.loop-i.auto.walks) in
    let same : stands now ≡ stands c.args.walks.now = went_map (IsTrue g.D.Disk.tells) c.args.floor.now tables (g.D.Disk.world c.args.disk.now).seen.held stand_of_walk (λ w y p. ap₂ (λ (n r : ℕ). (n, r)) p.number p.room) i c.args.walks.now now c.loop-i.invariant.went in
    (number_here tables now i c.index-walks-i-in-loop-i.result lt (subst (AreWalksIn tables) (sym same) c.requires)).1

pub loop-i-preserved-then-leads : goal.loop-i-preserved-then-leads
loop-i-preserved-then-leads g c =
    let tells = IsTrue g.D.Disk.tells in
    let floor = c.args.floor.now in
    let tables = c.args.tables.now.tables in
    let image = (g.D.Disk.world c.args.disk.now).seen.held in
    let i = c.loop-i.i in
    let old = c.args.walks.now in
    let now = c.loop-i.walks in
    let lt : i < length now = omega (arith, c.loop-i-test.true, c.loop-i.auto.walks) in
    let one : suc i ≡ i + 1 = omega arith in
    record {
      went = subst (λ (n : ℕ). Went tells floor tables image n old now) one (went_by tells floor tables image i old now c.index-walks-i.result lt c.loop-i.invariant.went (c.leads.ensures c.if-leads.true));
      moves = c.loop-i.invariant.moves;
    }

pub loop-i-preserved : goal.loop-i-preserved
loop-i-preserved g c =
    let tells = IsTrue g.D.Disk.tells in
    let floor = c.args.floor.now in
    let tables = c.args.tables.now.tables in
    let image = (g.D.Disk.world c.args.disk.now).seen.held in
    let i = c.loop-i.i in
    let old = c.args.walks.now in
    let now = c.loop-i.walks in
    let d = c.index-walks-i-in-loop-i.result in
    let x = c.pass.new.self in
    let went = c.loop-i.invariant.went in
    let held = c.loop-i.invariant.moves.held in
    let lt : i < length now = omega (arith, c.loop-i-test.true, c.loop-i.auto.walks) in
    let one : suc i ≡ i + 1 = omega arith in
    let none : wanted_block_of floor tables x ≡ 0 = c.pass.ensures.asked ∙ ap ones c.if-pass.false in
    record {
      went = subst (λ (n : ℕ). Went tells floor tables image n old (slice_set now i x)) one (went_on tells floor tables image i old now x d lt went (record {
        number = c.pass.ensures.number;
        room = c.pass.ensures.room;
        same = λ t. subst (λ (h : Image). left_above floor tables h x ≡ left_above floor tables h (get_or now i d)) held (c.pass.ensures.same t);
        caught_up = λ t. subst (λ (h : Image). IsCaughtUp floor x.walk.now (walk_left tables h x)) held (c.pass.ensures.caught_up t c.if-pass.false);
        heads_pass = c.pass.ensures.heads_pass c.if-pass.false;
        sound = λ t s. subst (λ (n : ℕ). IsSoundWalk floor x.walk (blocks_in (numbered tables n) image)) (sym c.pass.ensures.number)
            (subst (λ (h : Image). IsSoundWalk floor (get_or now i d).walk (blocks_in (numbered tables (get_or now i d).number) h) → IsSoundWalk floor x.walk (blocks_in (numbered tables (get_or now i d).number) h)) held (c.pass.ensures.sound t) s);
        block = λ t. c.pass.ensures.block;
        left = ap₂ (λ (n b : ℕ). row_count (numbered tables n) - b) c.pass.ensures.number c.pass.ensures.block;
        none = none;
        whole = c.pass.ensures.read_all c.if-pass.false;
        fewer = λ t s.
            let same = subst (λ (h : Image). IsSoundWalk floor (get_or now i d).walk (blocks_in (numbered tables (get_or now i d).number) h) → wanted_block_of floor tables x ≡ wanted_block_of floor tables (get_or now i d)) held (c.pass.ensures.wanted t) s in
            (none, sym same ∙ none);
      }));
      moves = reads_then 0 0 (g.D.Disk.world c.args.disk.now) (g.D.Disk.world c.loop-i.disk) (g.D.Disk.world c.pass.new.disk) c.loop-i.invariant.moves c.pass.ensures.moves;
    }

pub returns-then-pass : goal.returns-then-pass
returns-then-pass g c =
    let tells = IsTrue g.D.Disk.tells in
    let floor = c.args.floor.now in
    let tables = c.args.tables.now.tables in
    let before = g.D.Disk.world c.args.disk.now in
    let image = before.seen.held in
    let i = c.loop-i.i in
    let old = c.args.walks.now in
    let now = c.loop-i.walks in
    let d = c.index-walks-i-in-loop-i.result in
    let x = c.pass.new.self in
    let went = c.loop-i.invariant.went in
    let held = c.loop-i.invariant.moves.held in
    let lt : i < length now = omega (arith, c.loop-i-test.true, c.loop-i.auto.walks) in
    let same : tells → left_above floor tables image x ≡ left_above floor tables image (get_or now i d) =
    λ t. subst (λ (h : Image). left_above floor tables h x ≡ left_above floor tables h (get_or now i d)) held (c.pass.ensures.same t) in
    let sounds : tells → IsSoundHere floor tables image (get_or now i d) → IsSoundHere floor tables image x =
    λ t s. subst (λ (n : ℕ). IsSoundWalk floor x.walk (blocks_in (numbered tables n) image)) (sym c.pass.ensures.number)
    (subst (λ (h : Image). IsSoundWalk floor (get_or now i d).walk (blocks_in (numbered tables (get_or now i d).number) h) → IsSoundWalk floor x.walk (blocks_in (numbered tables (get_or now i d).number) h)) held (c.pass.ensures.sound t) s) in
    let few : blocks_left_in tables x ≡ blocks_left_in tables (get_or now i d) = ap₂ (λ (n b : ℕ). row_count (numbered tables n) - b) c.pass.ensures.number c.pass.ensures.block in
    record {
      asks = record {
        numbers_are = set_numbers tells floor tables image i old now d x went lt c.pass.ensures.number;
        stands_are = set_stands tells floor tables image i old now d x went lt c.pass.ensures.number c.pass.ensures.room;
        same = λ t. set_same tells floor tables image i old now d x went lt t (same t);
        sound = λ t s. set_sound tells floor tables image i old now d x went lt t (sounds t) s;
        next = λ t. let sum = set_next tells floor tables image i old now d x went lt t in omega (arith, sum, c.pass.ensures.block);
        blocks = λ t. set_places tells floor tables image i old now d x went lt t c.pass.ensures.block;
        left = let sum = set_left tells floor tables image i old now d x went lt in omega (arith, sum, few);
        wanted = λ t s.
            let sum = set_wanted tells floor tables image i old now d x went lt t s in
            let one = subst (λ (h : Image). IsSoundWalk floor (get_or now i d).walk (blocks_in (numbered tables (get_or now i d).number) h) → wanted_block_of floor tables x ≡ wanted_block_of floor tables (get_or now i d)) held (c.pass.ensures.wanted t)
            (sound_here tells floor tables image i old now d x went lt t s) in
            omega (arith, sum, one);
        some = λ _. set_some (wanted_block_of floor tables) now i x lt (c.pass.ensures.asked ∙ ap ones c.if-pass.true);
        none = λ none. absurd (false≢true (sym none));
        read_all = λ none. absurd (false≢true (sym none));
        caught_up = λ t none. absurd (false≢true (sym none));
        heads_pass = λ none. absurd (false≢true (sym none));
      };
      moves = reads_then 0 0 before (g.D.Disk.world c.loop-i.disk) (g.D.Disk.world c.pass.new.disk) c.loop-i.invariant.moves c.pass.ensures.moves;
    }

pub returns : goal.returns
returns g c =
    let tells = IsTrue g.D.Disk.tells in
    let floor = c.args.floor.now in
    let tables = c.args.tables.now.tables in
    let image = (g.D.Disk.world c.args.disk.now).seen.held in
    let i = c.loop-i.i in
    let old = c.args.walks.now in
    let now = c.loop-i.walks in
    let went = c.loop-i.invariant.went in
    record {
      asks = record {
        numbers_are = went_map tells floor tables image number_of_walk (λ w y p. p.number) i old now went;
        stands_are = went_map tells floor tables image stand_of_walk (λ w y p. ap₂ (λ (n r : ℕ). (n, r)) p.number p.room) i old now went;
        same = λ t. went_map tells floor tables image (left_above floor tables image) (λ w y p. p.same t) i old now went;
        sound = λ t s. went_sound tells floor tables image i old now t went s;
        next = λ t. went_sum tells floor tables image next_block_of i old now went (went_map tells floor tables image next_block_of (λ w y p. p.block t) i old now went);
        blocks = λ t. went_map tells floor tables image next_block_of (λ w y p. p.block t) i old now went;
        left = went_sum tells floor tables image (blocks_left_in tables) i old now went (went_map tells floor tables image (blocks_left_in tables) (λ w y p. p.left) i old now went);
        wanted = λ t s. went_sum tells floor tables image (wanted_block_of floor tables) i old now went (went_wanted tells floor tables image i old now t went s);
        some = λ some. absurd (false≢true some);
        none = λ _. all_none tells floor tables image i old now c.loop-i-test.false went;
        read_all = λ _. all_whole tells floor tables image i old now c.loop-i-test.false went;
        caught_up = λ t none. all_ready tells floor tables image i old now c.loop-i-test.false t went;
        heads_pass = λ none. all_clear tells floor tables image i old now c.loop-i-test.false went;
      };
      moves = c.loop-i.invariant.moves;
    }
