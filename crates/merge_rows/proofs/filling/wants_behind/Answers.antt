use Rattle.std.proofs.Common.{◌≡◌, ◌∙◌, map, sym, subst}
use Rattle.disk_trait.specs.Image.{Image}
use Rattle.disk_trait.proofs.Calls.{reads_then}
use Rattle.merge_rows.specs.Merges.{left_above}
use Rattle.merge_rows.specs.Reads.{wanted_by}
use Rattle.merge_rows.specs.Steps.{AreCaughtUp, AreSoundWalks, AreWalksIn}
use Rattle.merge_rows.proofs.filling.wants_behind.Goals as goal

pub wants_any-requires : goal.wants_any-requires
wants_any-requires g c = subst (AreWalksIn c.args.tables.now.tables) (sym c.pass_row.ensures.passed.stands_are) c.requires.known

pub returns : goal.returns
returns g c =
    let floor = c.args.floor.now in
    let tables = c.args.tables.now.tables in
    let mid = c.pass_row.new.walks in
    let new = c.wants_any.new.walks in
    let passed = c.pass_row.ensures.passed in
    let held = c.pass_row.ensures.moves.held in
    let asks = c.wants_any.ensures.asks in
    record {
      asks = record {
        numbers_are = asks.numbers_are ∙ passed.numbers_are;
        stands_are = asks.stands_are ∙ passed.stands_are;
        same = λ t. subst (λ (h : Image). map (left_above floor tables h) new ≡ map (left_above floor tables h) mid) held (asks.same t) ∙ passed.same t;
        sound = λ t s. subst (λ (h : Image). AreSoundWalks floor tables h mid → AreSoundWalks floor tables h new) held (asks.sound t) (passed.sound t s);
        next = λ t. asks.next t ∙ passed.next;
        blocks = λ t. asks.blocks t ∙ passed.blocks;
        left = asks.left ∙ passed.left;
        wanted = λ t s. subst (λ (h : Image). AreSoundWalks floor tables h mid → wanted_by floor tables new ≡ wanted_by floor tables mid) held (asks.wanted t) (passed.sound t s) ∙ passed.wanted t s;
        some = asks.some;
        none = asks.none;
        read_all = asks.read_all;
        caught_up = λ t none. subst (λ (h : Image). AreCaughtUp floor tables h new) held (asks.caught_up t none);
        heads_pass = asks.heads_pass;
      };
      moves = reads_then 0 0 (g.D.Disk.world c.args.disk.now) (g.D.Disk.world c.pass_row.new.disk) (g.D.Disk.world c.wants_any.new.disk) c.pass_row.ensures.moves c.wants_any.ensures.moves;
    }
