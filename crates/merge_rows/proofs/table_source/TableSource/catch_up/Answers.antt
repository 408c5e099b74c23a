use Rattle.std.proofs.Common.{◌≡◌, ◌∙◌, ◌+◌, ◌<◌, ◌≤◌, ℕ, List, [], ◌∷◌, Bool, true, false, refl, sym, ap, subst, arith}
use Rattle.std.specs.Prelude.{IsTrue, Ok, Some}
use Rattle.block_model.specs.Places.{byte_of_page}
use Rattle.disk_trait.specs.Image.{Image}
use Rattle.disk_trait.specs.World.{ReadMoves}
use Rattle.disk_trait.proofs.Calls.{reads_none}
use Rattle.entry_model.specs.Entries.{Entry}
use Rattle.merge_rows.specs.Merges.{TableWalk, blocks_in, left_above, numbered, walk_left}
use Rattle.merge_rows.specs.Reads.{IsFewer, PassesSound, blocks_left_in, wanted_block_of}
use Rattle.merge_rows.specs.Steps.{IsCaughtUp, IsSoundWalk}
use Rattle.table_file.specs.Opened.{Opened}
use Rattle.table_file.specs.Search.{IsGetFault, page_at}
use Rattle.merge_rows.proofs.Fills.{cause_since}
use Rattle.merge_rows.proofs.FirstFills.{fewer_err, fewer_one, passed_above, read_none, read_one}
use Rattle.merge_rows.proofs.SoundPasses.{pass_still, pass_then}
use Rattle.merge_rows.proofs.Stays.{only_then}
use Rattle.merge_rows.proofs.table_source.TableSource.catch_up.Goals as goal

-- of the blocks of the same table, in the same image
of_same : (tables : List Opened) (n m : ℕ) (h k : Image) (P : List (List Entry) → Type 0) → n ≡ m → h ≡ k → P (blocks_in (numbered tables n) h) → P (blocks_in (numbered tables m) k)
of_same tables n m h k P number held is = subst (λ (i : Image). P (blocks_in (numbered tables m) i)) held (subst (λ (j : ℕ). P (blocks_in (numbered tables j) h)) number is)

-- a walk that went on twice
passes_then : (tables : List Opened) (image : Image) (a b c : TableWalk) → PassesSound tables image a b → PassesSound tables image b c → PassesSound tables image a c
passes_then tables image a b c one two = (pass_then tables image (a ∷ []) (b ∷ []) (c ∷ []) (one, tt) (two, tt)).0

pub loop-self-init : goal.loop-self-init
loop-self-init g c =
    let tables = c.args.tables.now.tables in
    let before = g.D.Disk.world c.args.disk.now in
    let w = c.args.self.now in
    record {
      number = refl;
      room = refl;
      same = λ t. refl;
      sound = λ t s. s;
      read_sound = λ t. pass_still tables before.seen.held w w refl refl;
      moves = (0, reads_none 0 before);
      left = omega arith;
      counted = λ t. refl;
      bounded = λ t s. omega arith;
    }

pub loop-self-preserved : goal.loop-self-preserved
loop-self-preserved g c =
    let floor = c.args.floor.now in
    let tables = c.args.tables.now.tables in
    let before = g.D.Disk.world c.args.disk.now in
    let mid = g.D.Disk.world c.loop-self.disk in
    let after = g.D.Disk.world c.fill.new.disk in
    let first = c.args.self.now in
    let old = c.loop-self.self in
    let new = c.fill.new.self in
    let from = c.loop-self.invariant in
    let held = from.moves.1.held in
    let is : c.fill.result ≡ Ok true = c.in-Ok-true.is ∙ ap (λ (b : Bool). Ok b) c.in-Ok-true.field-0-test in
    let fewer = read_one c.fill.result (blocks_left_in tables old) (blocks_left_in tables new) is c.fill.ensures.left in
    record {
      number = c.fill.ensures.number ∙ from.number;
      room = c.fill.ensures.room ∙ from.room;
      same = λ t. subst (λ (h : Image). left_above floor tables h new ≡ left_above floor tables h old) held (c.fill.ensures.same t) ∙ from.same t;
      sound = λ t s. of_same tables old.number first.number mid.seen.held before.seen.held (λ bs. IsSoundWalk floor old.walk bs → IsSoundWalk floor new.walk bs) from.number held (c.fill.ensures.sound t) (from.sound t s);
      read_sound = λ t. passes_then tables before.seen.held first old new (from.read_sound t) (subst (λ (h : Image). PassesSound tables h old new) held (c.fill.ensures.read_sound t));
      moves = only_then 2 before mid after from.moves c.fill.ensures.moves;
      left = omega (arith, fewer, from.left);
      counted = λ t. let one = from.counted t in let two = c.in-Ok-true.ensures.counted t in omega (arith, one, two);
      bounded = λ t s.
          let once = of_same tables old.number first.number mid.seen.held before.seen.held (λ bs. IsSoundWalk floor old.walk bs → ReadMoves 1 mid after × IsFewer c.fill.result (wanted_block_of floor tables old) (wanted_block_of floor tables new)) from.number held (c.fill.ensures.once t) (from.sound t s) in
          let less = fewer_one c.fill.result (wanted_block_of floor tables old) (wanted_block_of floor tables new) is once.1 in
          let one = from.bounded t s in
          omega (arith, one, less, once.0.reads);
    }

pub returns-in-Ok-false : goal.returns-in-Ok-false
returns-in-Ok-false g c =
    let floor = c.args.floor.now in
    let tables = c.args.tables.now.tables in
    let before = g.D.Disk.world c.args.disk.now in
    let mid = g.D.Disk.world c.loop-self.disk in
    let after = g.D.Disk.world c.fill.new.disk in
    let first = c.args.self.now in
    let old = c.loop-self.self in
    let new = c.fill.new.self in
    let from = c.loop-self.invariant in
    let held = from.moves.1.held in
    let is : c.fill.result ≡ Ok false = c.in-Ok-false.is ∙ ap (λ (b : Bool). Ok b) c.in-Ok-false.field-0-test in
    let none = read_none c.fill.result (blocks_left_in tables old) (blocks_left_in tables new) is c.fill.ensures.left in
    let idle = c.in-Ok-false.ensures.idle c.in-Ok-false.field-0-test in
    record {
      number = c.fill.ensures.number ∙ from.number;
      room = c.fill.ensures.room ∙ from.room;
      same = λ t. subst (λ (h : Image). left_above floor tables h new ≡ left_above floor tables h old) held (c.fill.ensures.same t) ∙ from.same t;
      caught_up = λ t. subst (λ (h : Image). IsCaughtUp floor new.walk.now (walk_left tables h new)) held (c.in-Ok-false.ensures.caught_up t c.in-Ok-false.field-0-test);
      heads_pass = c.in-Ok-false.ensures.heads_pass c.in-Ok-false.field-0-test;
      sound = λ t s. of_same tables old.number first.number mid.seen.held before.seen.held (λ bs. IsSoundWalk floor old.walk bs → IsSoundWalk floor new.walk bs) from.number held (c.fill.ensures.sound t) (from.sound t s);
      read_sound = λ t. passes_then tables before.seen.held first old new (from.read_sound t) (subst (λ (h : Image). PassesSound tables h old new) held (c.fill.ensures.read_sound t));
      done = c.in-Ok-false.ensures.done c.in-Ok-false.field-0-test;
      read_all = c.in-Ok-false.ensures.read_all c.in-Ok-false.field-0-test;
      never_memory = tt;
      cause = tt;
      fault = λ t. tt;
      moves = only_then 2 before mid after from.moves c.fill.ensures.moves;
      left = omega (arith, none, from.left);
      counted = λ t. let one = from.counted t in let two = c.in-Ok-false.ensures.counted t in omega (arith, one, two);
      bounded = λ t s. let one = from.bounded t s in let done : wanted_block_of floor tables new ≡ 0 = c.in-Ok-false.ensures.done c.in-Ok-false.field-0-test in omega (arith, one, done, idle.reads);
      tried = λ t s. tt;
    }

pub returns-in-Err : goal.returns-in-Err
returns-in-Err g c =
    let floor = c.args.floor.now in
    let tables = c.args.tables.now.tables in
    let before = g.D.Disk.world c.args.disk.now in
    let mid = g.D.Disk.world c.loop-self.disk in
    let after = g.D.Disk.world c.fill.new.disk in
    let first = c.args.self.now in
    let old = c.loop-self.self in
    let new = c.fill.new.self in
    let from = c.loop-self.invariant in
    let held = from.moves.1.held in
    let why = c.in-Err.why in
    record {
      number = c.fill.ensures.number ∙ from.number;
      room = c.fill.ensures.room ∙ from.room;
      same = λ t. subst (λ (h : Image). left_above floor tables h new ≡ left_above floor tables h old) held (c.fill.ensures.same t) ∙ from.same t;
      caught_up = λ t. tt;
      heads_pass = tt;
      sound = λ t s. of_same tables old.number first.number mid.seen.held before.seen.held (λ bs. IsSoundWalk floor old.walk bs → IsSoundWalk floor new.walk bs) from.number held (c.fill.ensures.sound t) (from.sound t s);
      read_sound = λ t. passes_then tables before.seen.held first old new (from.read_sound t) (subst (λ (h : Image). PassesSound tables h old new) held (c.fill.ensures.read_sound t));
      done = tt;
      read_all = tt;
      never_memory = c.in-Err.ensures.never_memory;
      cause =
          let is = c.in-Err.ensures.cause in
          (is.0, is.1, subst (λ (n : ℕ). numbered tables n ≡ Some is.0) from.number is.2, is.3, cause_since (byte_of_page (page_at is.0 is.1)) before mid after why from.moves.1.read_faults is.4);
      fault = λ t.
          let is = c.in-Err.ensures.fault t in
          (is.0, is.1, subst (λ (n : ℕ). numbered tables n ≡ Some is.0) from.number is.2, is.3, subst (λ (h : Image). IsGetFault is.0 is.1 h why) held is.4);
      moves = only_then 2 before mid after from.moves c.fill.ensures.moves;
      left = tt;
      counted = λ t. tt;
      bounded = λ t s. tt;
      tried = λ t s.
          let once = of_same tables old.number first.number mid.seen.held before.seen.held (λ bs. IsSoundWalk floor old.walk bs → ReadMoves 1 mid after × IsFewer c.fill.result (wanted_block_of floor tables old) (wanted_block_of floor tables new)) from.number held (c.fill.ensures.once t) (from.sound t s) in
          let some = fewer_err c.fill.result why (wanted_block_of floor tables old) (wanted_block_of floor tables new) c.in-Err.is once.1 in
          let one = from.bounded t s in
          (omega (arith, one, some, once.0.reads), omega (arith, one, some, from.moves.1.reads_later));
    }

pub returns : goal.returns
returns g c =
    let floor = c.args.floor.now in
    let tables = c.args.tables.now.tables in
    let before = g.D.Disk.world c.args.disk.now in
    let from = c.loop-self.invariant in
    let here = passed_above (IsTrue g.D.Disk.tells) floor tables before.seen.held c.loop-self.self (c.leads.ensures c.loop-self-test.false) in
    record {
      number = from.number;
      room = from.room;
      same = from.same;
      caught_up = here.caught_up;
      heads_pass = here.heads_pass;
      sound = from.sound;
      read_sound = from.read_sound;
      done = here.none;
      read_all = here.whole;
      never_memory = tt;
      cause = tt;
      fault = λ t. tt;
      moves = from.moves;
      left = from.left;
      counted = from.counted;
      bounded = from.bounded;
      tried = λ t s. tt;
    }
