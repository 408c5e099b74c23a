use Rattle.std.proofs.Common.{◌<◌, length, refl, sym, ap, ◌∙◌, arith}
use Rattle.disk_trait.specs.Image.{Image}
use Rattle.image_model.specs.Findings.{AtLeast, block_findings}
use Rattle.store_check.specs.Befores.{before_of}
use Rattle.store_check.specs.Places.{part_of}
use Rattle.store_check.proofs.Causes.{at_err, cause_given, later_cause, no_reads, one_more}
use Rattle.store_check.proofs.Counted.{begun_none}
use Rattle.store_check.proofs.Risen.{keys_risen, none_risen}
use Rattle.store_check.proofs.Seen.{all_found, all_keys, all_sound, begun, none_added, none_seen, seen_next}
use Rattle.store_check.proofs.table.block_findings.Goals as goal

pub loop-n-init : goal.loop-n-init
loop-n-init g c =
    let seen = c.in_ok-seen.seen in
    record {
      seen = λ tells. none_seen c.args.index.now (g.D.Disk.world c.args.disk.now).seen.held seen c.args.found.now.items c.requires (c.in_ok-seen.ensures.before ∙ ap AtLeast c.least.ensures) c.in_ok-seen.ensures.keys c.in_ok-seen.ensures.sound;
      risen = λ none. none_risen (before_of seen.before) seen.keys c.in_ok-seen.ensures.keys;
      some = λ none le. absurd (omega (arith, le));
      moves = no_reads (g.D.Disk.world c.args.disk.now);
    }

pub loop-n-preserved : goal.loop-n-preserved
loop-n-preserved g c =
    let l = c.loop-n in
    let x = c.args.index.now in
    let a = g.D.Disk.world c.args.disk.now in
    let lt : l.n < length x.index.rows = omega (arith, c.loop-n-test.true, c.blocks-n-end.ensures) in
    let finding = c.in_ok-finding.finding in
    let added = c.in_ok-add.ensures.added in
    record {
      seen = λ tells.
          let part = sym (c.deref.ensures.value ∙ c.in_ok-bytes.ensures.read tells ∙ ap (λ (h : Image). part_of x l.n h) l.invariant.moves.1.held) in
          seen_next x a.seen.held l.n l.seen c.judge.new.self l.found.items finding (l.invariant.seen tells) lt (c.in_ok-finding.ensures.judged a.seen.held part) c.add.new.found.items added;
      risen = λ none.
          let both = none_added l.found.items c.add.new.found.items finding added none in
          (c.in_ok-finding.ensures.risen (l.invariant.risen both.0) both.1).0;
      some = λ none le.
          let both = none_added l.found.items c.add.new.found.items finding added none in
          (c.in_ok-finding.ensures.risen (l.invariant.risen both.0) both.1).1;
      moves = one_more 1 a (g.D.Disk.world l.disk) (g.D.Disk.world c.read_bytes.new.disk) l.invariant.moves c.read_bytes.ensures.moves;
    }

pub returns-clause-found : goal.returns-clause-found
returns-clause-found g c tells =
    let l = c.loop-n in
    all_found c.args.index.now (g.D.Disk.world c.args.disk.now).seen.held l.n l.seen l.found.items (l.invariant.seen tells) (omega (arith, c.loop-n-test.false, c.blocks-n-end.ensures))

pub returns-clause-sound : goal.returns-clause-sound
returns-clause-sound g c tells =
    let l = c.loop-n in
    all_sound c.args.index.now (g.D.Disk.world c.args.disk.now).seen.held l.n l.seen l.found.items (l.invariant.seen tells) (omega (arith, c.loop-n-test.false, c.blocks-n-end.ensures))

pub returns-clause-keys : goal.returns-clause-keys
returns-clause-keys g c tells =
    let l = c.loop-n in
    all_keys c.args.index.now (g.D.Disk.world c.args.disk.now).seen.held l.n l.seen l.found.items (l.invariant.seen tells) (omega (arith, c.loop-n-test.false, c.blocks-n-end.ensures))

pub returns-clause-risen : goal.returns-clause-risen
returns-clause-risen g c none =
    let l = c.loop-n in (
      keys_risen (before_of l.seen.before) l.seen.keys (l.invariant.risen none),
      λ some. l.invariant.some none (omega (arith, some, c.loop-n-test.false, c.blocks-n-end.ensures)),
    )

pub returns-in_err-bytes-clause-begun : goal.returns-in_err-bytes-clause-begun
returns-in_err-bytes-clause-begun g c tells =
    let l = c.loop-n in
    at_err c.from_residual-in_err-bytes.result _ (begun c.args.index.now (g.D.Disk.world c.args.disk.now).seen.held l.n l.seen l.found.items l.found.items (l.invariant.seen tells) refl)

pub returns-in_err-bytes-clause-cause : goal.returns-in_err-bytes-clause-cause
returns-in_err-bytes-clause-cause g c =
    let l = c.loop-n in
    cause_given c.from_residual-in_err-bytes.result (g.D.Disk.world c.args.disk.now) (g.D.Disk.world c.read_bytes.new.disk) c.in_err-bytes.field-0.0 c.from_residual-in_err-bytes.ensures.1
    (later_cause (g.D.Disk.world c.args.disk.now) (g.D.Disk.world l.disk) (g.D.Disk.world c.read_bytes.new.disk) c.in_err-bytes.field-0.0 l.invariant.moves.1.read_faults c.in_err-bytes.ensures.cause)

pub returns-in_err-bytes-clause-moves : goal.returns-in_err-bytes-clause-moves
returns-in_err-bytes-clause-moves g c =
    one_more 1 (g.D.Disk.world c.args.disk.now) (g.D.Disk.world c.loop-n.disk) (g.D.Disk.world c.read_bytes.new.disk) c.loop-n.invariant.moves c.read_bytes.ensures.moves

pub returns-in_err-finding-clause-begun : goal.returns-in_err-finding-clause-begun
returns-in_err-finding-clause-begun g c tells =
    let l = c.loop-n in
    at_err c.from_residual-in_err-finding.result _ (begun c.args.index.now (g.D.Disk.world c.args.disk.now).seen.held l.n l.seen l.found.items l.found.items (l.invariant.seen tells) refl)

pub returns-in_err-finding-clause-moves : goal.returns-in_err-finding-clause-moves
returns-in_err-finding-clause-moves g c =
    one_more 1 (g.D.Disk.world c.args.disk.now) (g.D.Disk.world c.loop-n.disk) (g.D.Disk.world c.read_bytes.new.disk) c.loop-n.invariant.moves c.read_bytes.ensures.moves

pub returns-in_err-add-clause-begun : goal.returns-in_err-add-clause-begun
returns-in_err-add-clause-begun g c tells =
    let l = c.loop-n in
    at_err c.from_residual-in_err-add.result _ (begun c.args.index.now (g.D.Disk.world c.args.disk.now).seen.held l.n l.seen l.found.items c.add.new.found.items (l.invariant.seen tells) c.in_err-add.ensures.same)

pub returns-in_err-add-clause-moves : goal.returns-in_err-add-clause-moves
returns-in_err-add-clause-moves g c =
    one_more 1 (g.D.Disk.world c.args.disk.now) (g.D.Disk.world c.loop-n.disk) (g.D.Disk.world c.read_bytes.new.disk) c.loop-n.invariant.moves c.read_bytes.ensures.moves

pub returns-in_err-seen-clause-begun : goal.returns-in_err-seen-clause-begun
returns-in_err-seen-clause-begun g c tells =
    let x = c.args.index.now in
    at_err c.from_residual.result _ (begun_none c.args.found.now.items (block_findings x.row.first_page (AtLeast x.index.least) x.index.rows (g.D.Disk.world c.args.disk.now).seen.held) c.requires)
