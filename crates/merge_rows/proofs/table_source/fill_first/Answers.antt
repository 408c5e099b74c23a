use Rattle.std.proofs.Common.{◌≡◌, ◌∙◌, ◌+◌, ◌<◌, ℕ, suc, Bool, true, false, length, get_or, slice_set, sym, ap, ap₂, subst, arith}
use Rattle.std.specs.Prelude.{Contains, IsTrue, List, Ok}
use Rattle.std.proofs.lemmas.Bool.{false≢true}
use Rattle.disk_trait.specs.Image.{Image}
use Rattle.disk_trait.specs.World.{ReadMoves}
use Rattle.disk_trait.proofs.Calls.{reads_more, reads_then}
use Rattle.block_model.specs.Places.{byte_of_page}
use Rattle.merge_rows.specs.Merges.{blocks_in, left_above, numbered, walk_left}
use Rattle.merge_rows.specs.Reads.{IsFewer, PassesSound, blocks_left_in, next_block_of, wanted_block_of}
use Rattle.merge_rows.specs.Steps.{AreWalksIn, IsCaughtUp, IsSoundWalk, number_of_walk, numbers, stand_of_walk, stands}
use Rattle.table_file.specs.Search.{IsGetFault, page_at}
use Rattle.merge_rows.proofs.Fills.{cause_since}
use Rattle.merge_rows.proofs.FirstFills.{IsSoundHere, Went, all_clear, all_none, all_ready, all_whole, fewer_err, fewer_none, fewer_one, none_wanted, number_among, number_here, read_none, read_one, set_left, set_next, set_numbers, set_passes, set_same, set_sound, set_stands, set_wanted, sound_here, wanted_here, went_by, went_length, went_map, went_on, went_passes, went_sound, went_sum, went_wanted}
use Rattle.merge_rows.proofs.table_source.fill_first.Goals as goal

pub fill-requires-clause-there : goal.fill-requires-clause-there
fill-requires-clause-there g c =
    let i = c.loop-i.i in
    let now = c.loop-i.walks in
    let tables = c.args.tables.now.tables in
    let lt : i < length now = omega (arith, c.loop-i-test.true, c.loop-i.auto.walks) in
    let same : stands now ≡ stands c.args.walks.now = went_map (IsTrue g.D.Disk.tells) c.args.floor.now tables (g.D.Disk.world c.args.disk.now).seen.held stand_of_walk (λ w y p. ap₂ (λ (n r : ℕ). (n, r)) p.number p.room) i c.args.walks.now now c.loop-i.invariant.went in
    (number_here tables now i c.index-walks-i-in-loop-i.result lt (subst (AreWalksIn tables) (sym same) c.requires)).0

pub fill-requires-clause-room : goal.fill-requires-clause-room
fill-requires-clause-room g c =
    let i = c.loop-i.i in
    let now = c.loop-i.walks in
    let tables = c.args.tables.now.tables in
    let lt : i < length now = omega (arith, c.loop-i-test.true, c.loop-i.auto.walks) in
    let same : stands now ≡ stands c.args.walks.now = went_map (IsTrue g.D.Disk.tells) c.args.floor.now tables (g.D.Disk.world c.args.disk.now).seen.held stand_of_walk (λ w y p. ap₂ (λ (n r : ℕ). (n, r)) p.number p.room) i c.args.walks.now now c.loop-i.invariant.went in
    (number_here tables now i c.index-walks-i-in-loop-i.result lt (subst (AreWalksIn tables) (sym same) c.requires)).1

pub loop-i-preserved-then-leads : goal.loop-i-preserved-then-leads
loop-i-preserved-then-leads g c =
    let tells = IsTrue g.D.Disk.tells in
    let floor = c.args.floor.now in
    let tables = c.args.tables.now.tables in
    let image = (g.D.Disk.world c.args.disk.now).seen.held in
    let i = c.loop-i.i in
    let old = c.args.walks.now in
    let now = c.loop-i.walks in
    let lt : i < length now = omega (arith, c.loop-i-test.true, c.loop-i.auto.walks) in
    let one : suc i ≡ i + 1 = omega arith in
    record {
      went = subst (λ (n : ℕ). Went tells floor tables image n old now) one (went_by tells floor tables image i old now c.index-walks-i.result lt c.loop-i.invariant.went (c.leads.ensures c.if-leads.true));
      moves = c.loop-i.invariant.moves;
    }

pub loop-i-preserved : goal.loop-i-preserved
loop-i-preserved g c =
    let tells = IsTrue g.D.Disk.tells in
    let floor = c.args.floor.now in
    let tables = c.args.tables.now.tables in
    let image = (g.D.Disk.world c.args.disk.now).seen.held in
    let i = c.loop-i.i in
    let old = c.args.walks.now in
    let now = c.loop-i.walks in
    let d = c.index-walks-i-in-loop-i.result in
    let x = c.fill.new.self in
    let went = c.loop-i.invariant.went in
    let held = c.loop-i.invariant.moves.held in
    let lt : i < length now = omega (arith, c.loop-i-test.true, c.loop-i.auto.walks) in
    let is : c.fill.result ≡ Ok false = c.in-Ok-false.is ∙ ap (λ (b : Bool). Ok b) c.in-Ok-false.field-0-test in
    let idle = c.in-Ok-false.ensures.idle c.in-Ok-false.field-0-test in
    let one : suc i ≡ i + 1 = omega arith in
    record {
      went = subst (λ (n : ℕ). Went tells floor tables image n old (slice_set now i x)) one (went_on tells floor tables image i old now x d lt went (record {
        number = c.fill.ensures.number;
        room = c.fill.ensures.room;
        same = λ t. subst (λ (h : Image). left_above floor tables h x ≡ left_above floor tables h (get_or now i d)) held (c.fill.ensures.same t);
        caught_up = λ t. subst (λ (h : Image). IsCaughtUp floor x.walk.now (walk_left tables h x)) held (c.in-Ok-false.ensures.caught_up t c.in-Ok-false.field-0-test);
        heads_pass = c.in-Ok-false.ensures.heads_pass c.in-Ok-false.field-0-test;
        sound = λ t s. subst (λ (n : ℕ). IsSoundWalk floor x.walk (blocks_in (numbered tables n) image)) (sym c.fill.ensures.number)
            (subst (λ (h : Image). IsSoundWalk floor (get_or now i d).walk (blocks_in (numbered tables (get_or now i d).number) h) → IsSoundWalk floor x.walk (blocks_in (numbered tables (get_or now i d).number) h)) held (c.fill.ensures.sound t) s);
        block = λ t. let counted = c.in-Ok-false.ensures.counted t in omega (arith, counted, idle.reads, idle.reads_later);
        left = read_none c.fill.result (blocks_left_in tables (get_or now i d)) (blocks_left_in tables x) is c.fill.ensures.left;
        none = c.in-Ok-false.ensures.done c.in-Ok-false.field-0-test;
        whole = c.in-Ok-false.ensures.read_all c.in-Ok-false.field-0-test;
        fewer = λ t s. fewer_none c.fill.result (wanted_block_of floor tables (get_or now i d)) (wanted_block_of floor tables x) is
            (subst (λ (h : Image). IsSoundWalk floor (get_or now i d).walk (blocks_in (numbered tables (get_or now i d).number) h) → IsFewer c.fill.result (wanted_block_of floor tables (get_or now i d)) (wanted_block_of floor tables x)) held (λ u. (c.fill.ensures.once t u).1) s);
      }));
      moves = reads_then 0 0 (g.D.Disk.world c.args.disk.now) (g.D.Disk.world c.loop-i.disk) (g.D.Disk.world c.fill.new.disk) c.loop-i.invariant.moves idle;
    }

pub returns-in-Ok-true : goal.returns-in-Ok-true
returns-in-Ok-true g c =
    let tells = IsTrue g.D.Disk.tells in
    let floor = c.args.floor.now in
    let tables = c.args.tables.now.tables in
    let before = g.D.Disk.world c.args.disk.now in
    let mid = g.D.Disk.world c.loop-i.disk in
    let after = g.D.Disk.world c.fill.new.disk in
    let image = before.seen.held in
    let i = c.loop-i.i in
    let old = c.args.walks.now in
    let now = c.loop-i.walks in
    let d = c.index-walks-i-in-loop-i.result in
    let x = c.fill.new.self in
    let went = c.loop-i.invariant.went in
    let held = c.loop-i.invariant.moves.held in
    let lt : i < length now = omega (arith, c.loop-i-test.true, c.loop-i.auto.walks) in
    let is : c.fill.result ≡ Ok true = c.in-Ok-true.is ∙ ap (λ (b : Bool). Ok b) c.in-Ok-true.field-0-test in
    let same : tells → left_above floor tables image x ≡ left_above floor tables image (get_or now i d) =
    λ t. subst (λ (h : Image). left_above floor tables h x ≡ left_above floor tables h (get_or now i d)) held (c.fill.ensures.same t) in
    let sounds : tells → IsSoundHere floor tables image (get_or now i d) → IsSoundHere floor tables image x =
    λ t s. subst (λ (n : ℕ). IsSoundWalk floor x.walk (blocks_in (numbered tables n) image)) (sym c.fill.ensures.number)
    (subst (λ (h : Image). IsSoundWalk floor (get_or now i d).walk (blocks_in (numbered tables (get_or now i d).number) h) → IsSoundWalk floor x.walk (blocks_in (numbered tables (get_or now i d).number) h)) held (c.fill.ensures.sound t) s) in
    record {
      numbers_are = set_numbers tells floor tables image i old now d x went lt c.fill.ensures.number;
      stands_are = set_stands tells floor tables image i old now d x went lt c.fill.ensures.number c.fill.ensures.room;
      same = λ t. set_same tells floor tables image i old now d x went lt t (same t);
      caught_up = λ t none. absurd (false≢true (sym none));
      heads_pass = λ none. absurd (false≢true (sym none));
      sound = λ t s. set_sound tells floor tables image i old now d x went lt t (sounds t) s;
      read_sound = λ t. set_passes tells floor tables image i old now d x went lt t (subst (λ (h : Image). PassesSound tables h (get_or now i d) x) held (c.fill.ensures.read_sound t));
      done = λ none. absurd (false≢true (sym none));
      read_all = λ none. absurd (false≢true (sym none));
      only_if_read = tt;
      never_memory = tt;
      cause = tt;
      fault = λ t. tt;
      moves = reads_then 0 2 before mid after c.loop-i.invariant.moves c.fill.ensures.moves;
      idle = λ none. absurd (false≢true (sym none));
      counted = λ t.
          let sum = set_next tells floor tables image i old now d x went lt t in
          let counted = c.in-Ok-true.ensures.counted t in
          omega (arith, sum, counted, c.loop-i.invariant.moves.reads, c.loop-i.invariant.moves.reads_later);
      left =
          let sum = set_left tells floor tables image i old now d x went lt in
          let one = read_one c.fill.result (blocks_left_in tables (get_or now i d)) (blocks_left_in tables x) is c.fill.ensures.left in
          omega (arith, sum, one);
      once = λ t sound.
          let once = subst (λ (h : Image). IsSoundWalk floor (get_or now i d).walk (blocks_in (numbered tables (get_or now i d).number) h) → ReadMoves 1 mid after × IsFewer c.fill.result (wanted_block_of floor tables (get_or now i d)) (wanted_block_of floor tables x))
          held (c.fill.ensures.once t) (sound_here tells floor tables image i old now d x went lt t sound) in
          let one = fewer_one c.fill.result (wanted_block_of floor tables (get_or now i d)) (wanted_block_of floor tables x) is once.1 in
          let sum = set_wanted tells floor tables image i old now d x went lt t sound in
          (reads_then 0 1 before mid after c.loop-i.invariant.moves once.0, omega (arith, one, sum));
    }

pub returns-in-Err : goal.returns-in-Err
returns-in-Err g c =
    let tells = IsTrue g.D.Disk.tells in
    let floor = c.args.floor.now in
    let tables = c.args.tables.now.tables in
    let before = g.D.Disk.world c.args.disk.now in
    let mid = g.D.Disk.world c.loop-i.disk in
    let after = g.D.Disk.world c.fill.new.disk in
    let image = before.seen.held in
    let i = c.loop-i.i in
    let old = c.args.walks.now in
    let now = c.loop-i.walks in
    let d = c.index-walks-i-in-loop-i.result in
    let x = c.fill.new.self in
    let went = c.loop-i.invariant.went in
    let held = c.loop-i.invariant.moves.held in
    let lt : i < length now = omega (arith, c.loop-i-test.true, c.loop-i.auto.walks) in
    let same : tells → left_above floor tables image x ≡ left_above floor tables image (get_or now i d) =
    λ t. subst (λ (h : Image). left_above floor tables h x ≡ left_above floor tables h (get_or now i d)) held (c.fill.ensures.same t) in
    let sounds : tells → IsSoundHere floor tables image (get_or now i d) → IsSoundHere floor tables image x =
    λ t s. subst (λ (n : ℕ). IsSoundWalk floor x.walk (blocks_in (numbered tables n) image)) (sym c.fill.ensures.number)
    (subst (λ (h : Image). IsSoundWalk floor (get_or now i d).walk (blocks_in (numbered tables (get_or now i d).number) h) → IsSoundWalk floor x.walk (blocks_in (numbered tables (get_or now i d).number) h)) held (c.fill.ensures.sound t) s) in
    let among : Contains (numbers old) (get_or now i d).number =
    subst (λ (which : List ℕ). Contains which (get_or now i d).number) (went_map tells floor tables image number_of_walk (λ w y p. p.number) i old now went) (number_among now i d lt) in
    record {
      numbers_are = set_numbers tells floor tables image i old now d x went lt c.fill.ensures.number;
      stands_are = set_stands tells floor tables image i old now d x went lt c.fill.ensures.number c.fill.ensures.room;
      same = λ t. set_same tells floor tables image i old now d x went lt t (same t);
      caught_up = λ t. tt;
      heads_pass = tt;
      sound = λ t s. set_sound tells floor tables image i old now d x went lt t (sounds t) s;
      read_sound = λ t. set_passes tells floor tables image i old now d x went lt t (subst (λ (h : Image). PassesSound tables h (get_or now i d) x) held (c.fill.ensures.read_sound t));
      done = tt;
      read_all = tt;
      only_if_read = let as_long = went_length tells floor tables image i old now went in omega (arith, lt, as_long);
      never_memory = c.in-Err.ensures.never_memory;
      cause =
          let is = c.in-Err.ensures.cause in
          ((get_or now i d).number, among, (is.0, is.1, is.2, is.3, cause_since (byte_of_page (page_at is.0 is.1)) before mid after c.in-Err.why c.loop-i.invariant.moves.read_faults is.4));
      fault = λ t.
          let is = c.in-Err.ensures.fault t in
          ((get_or now i d).number, among, (is.0, is.1, is.2, is.3, subst (λ (h : Image). IsGetFault is.0 is.1 h c.in-Err.why) held is.4));
      moves = reads_then 0 2 before mid after c.loop-i.invariant.moves c.fill.ensures.moves;
      idle = tt;
      counted = λ t. tt;
      left = tt;
      once = λ t sound.
          let once = subst (λ (h : Image). IsSoundWalk floor (get_or now i d).walk (blocks_in (numbered tables (get_or now i d).number) h) → ReadMoves 1 mid after × IsFewer c.fill.result (wanted_block_of floor tables (get_or now i d)) (wanted_block_of floor tables x))
          held (c.fill.ensures.once t) (sound_here tells floor tables image i old now d x went lt t sound) in
          let one = fewer_err c.fill.result c.in-Err.why (wanted_block_of floor tables (get_or now i d)) (wanted_block_of floor tables x) c.in-Err.is once.1 in
          let most = wanted_here tells floor tables image i old now d x went lt t sound in
          (reads_then 0 1 before mid after c.loop-i.invariant.moves once.0, omega (arith, one, most));
    }

pub returns : goal.returns
returns g c =
    let tells = IsTrue g.D.Disk.tells in
    let floor = c.args.floor.now in
    let tables = c.args.tables.now.tables in
    let before = g.D.Disk.world c.args.disk.now in
    let after = g.D.Disk.world c.loop-i.disk in
    let image = before.seen.held in
    let i = c.loop-i.i in
    let old = c.args.walks.now in
    let now = c.loop-i.walks in
    let went = c.loop-i.invariant.went in
    record {
      numbers_are = went_map tells floor tables image number_of_walk (λ w y p. p.number) i old now went;
      stands_are = went_map tells floor tables image stand_of_walk (λ w y p. ap₂ (λ (n r : ℕ). (n, r)) p.number p.room) i old now went;
      same = λ t. went_map tells floor tables image (left_above floor tables image) (λ w y p. p.same t) i old now went;
      caught_up = λ t none. all_ready tells floor tables image i old now c.loop-i-test.false t went;
      heads_pass = λ none. all_clear tells floor tables image i old now c.loop-i-test.false went;
      sound = λ t s. went_sound tells floor tables image i old now t went s;
      read_sound = λ t. went_passes tells floor tables image i old now t went;
      done = λ none. all_none tells floor tables image i old now c.loop-i-test.false went;
      read_all = λ none. all_whole tells floor tables image i old now c.loop-i-test.false went;
      only_if_read = tt;
      never_memory = tt;
      cause = tt;
      fault = λ t. tt;
      moves = reads_more 0 2 before after (omega arith) c.loop-i.invariant.moves;
      idle = λ none. c.loop-i.invariant.moves;
      counted = λ t.
          let sum = went_sum tells floor tables image next_block_of i old now went (went_map tells floor tables image next_block_of (λ w y p. p.block t) i old now went) in
          omega (arith, sum, c.loop-i.invariant.moves.reads, c.loop-i.invariant.moves.reads_later);
      left = went_sum tells floor tables image (blocks_left_in tables) i old now went (went_map tells floor tables image (blocks_left_in tables) (λ w y p. p.left) i old now went);
      once = λ t sound.
          let none = none_wanted tells floor tables image i old now c.loop-i-test.false t went sound in
          let same = went_sum tells floor tables image (wanted_block_of floor tables) i old now went (went_wanted tells floor tables image i old now t went sound) in
          (reads_more 0 1 before after (omega arith) c.loop-i.invariant.moves, (same ∙ none, none));
    }
