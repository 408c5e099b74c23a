use Rattle.std.proofs.Common.{◌≡◌, ◌≤◌, ◌∙◌, ℕ, List, false, map, sym, subst, arith}
use Rattle.std.specs.Prelude.{Contains, IfOk, OnErr}
use Rattle.disk_trait.specs.Image.{Image}
use Rattle.disk_trait.specs.World.{ReadMoves}
use Rattle.disk_trait.proofs.Calls.{reads_then}
use Rattle.block_model.specs.Places.{byte_of_page}
use Rattle.merge_rows.specs.Merges.{left_above}
use Rattle.merge_rows.specs.Reads.{IsFewer, IsRead, PassSound, blocks_left, wanted_by}
use Rattle.merge_rows.specs.Steps.{AreCaughtUp, AreSoundWalks, AreWalksIn}
use Rattle.table_file.specs.Search.{IsGetFault, page_at}
use Rattle.merge_rows.proofs.Fills.{cause_since, err_then, ok_then, on_ok_then}
use Rattle.merge_rows.proofs.SoundPasses.{pass_alike, pass_then}
use Rattle.merge_rows.proofs.Stays.{lengths_are}
use Rattle.merge_rows.proofs.filling.fill_behind.Goals as goal

pub fill_first-requires : goal.fill_first-requires
fill_first-requires g c = subst (AreWalksIn c.args.tables.now.tables) (sym c.pass_row.ensures.passed.stands_are) c.requires.known

pub returns : goal.returns
returns g c =
    let floor = c.args.floor.now in
    let tables = c.args.tables.now.tables in
    let before = g.D.Disk.world c.args.disk.now in
    let between = g.D.Disk.world c.pass_row.new.disk in
    let after = g.D.Disk.world c.fill_first.new.disk in
    let old = c.args.walks.now in
    let mid = c.pass_row.new.walks in
    let new = c.fill_first.new.walks in
    let result = c.fill_first.result in
    let passed = c.pass_row.ensures.passed in
    let still = c.pass_row.ensures.moves in
    let fills = c.fill_first.ensures in
    record {
      numbers_are = fills.numbers_are ∙ passed.numbers_are;
      stands_are = fills.stands_are ∙ passed.stands_are;
      same = λ t. subst (λ (h : Image). map (left_above floor tables h) new ≡ map (left_above floor tables h) mid) still.held (fills.same t) ∙ passed.same t;
      caught_up = λ t. subst (λ (h : Image). IfOk result (λ read. read ≡ false → AreCaughtUp floor tables h new)) still.held (fills.caught_up t);
      heads_pass = fills.heads_pass;
      sound = λ t sound. subst (λ (h : Image). AreSoundWalks floor tables h mid → AreSoundWalks floor tables h new) still.held (fills.sound t) (passed.sound t sound);
      read_sound = λ t. pass_then tables before.seen.held old mid new (pass_alike tables before.seen.held old mid passed.numbers_are passed.blocks) (subst (λ (h : Image). PassSound tables h mid new) still.held (fills.read_sound t));
      done = fills.done;
      read_all = fills.read_all;
      only_if_read = subst (λ (n : ℕ). OnErr result (1 ≤ n)) (lengths_are mid old passed.numbers_are) fills.only_if_read;
      never_memory = fills.never_memory;
      cause = err_then result _ _ fills.cause (λ why is. (
        is.0,
        subst (λ (which : List ℕ). Contains which is.0) passed.numbers_are is.1,
        (is.2.0, is.2.1, is.2.2, is.2.3, cause_since (byte_of_page (page_at is.2.0 is.2.1)) before between after why still.read_faults is.2.4),
      ));
      fault = λ t. err_then result _ _ (fills.fault t) (λ why is. (
        is.0,
        subst (λ (which : List ℕ). Contains which is.0) passed.numbers_are is.1,
        (is.2.0, is.2.1, is.2.2, is.2.3, subst (λ (h : Image). IsGetFault is.2.0 is.2.1 h why) still.held is.2.4),
      ));
      moves = reads_then 0 2 before between after still fills.moves;
      idle = ok_then result _ _ fills.idle (λ read is none. reads_then 0 0 before between after still (is none));
      counted = λ t. on_ok_then result _ _ (fills.counted t) (λ is. omega (arith, is, passed.next, still.reads, still.reads_later));
      left = subst (λ (n : ℕ). IsRead result n (blocks_left tables new)) passed.left fills.left;
      once = λ t sound.
          let both = subst (λ (h : Image). AreSoundWalks floor tables h mid → ReadMoves 1 between after × IsFewer result (wanted_by floor tables mid) (wanted_by floor tables new)) still.held (fills.once t) (passed.sound t sound) in
          (reads_then 0 1 before between after still both.0, subst (λ (n : ℕ). IsFewer result n (wanted_by floor tables new)) (passed.wanted t sound) both.1);
    }
