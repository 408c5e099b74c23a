use Rattle.std.proofs.Common.{◌≡◌, ◌*◌, Bor, List, ℕ, length, ap, refl, subst, arith}
use Rattle.std.specs.Option.{option_map}
use Rattle.std.specs.Prelude.{Option, Some, None}
use Rattle.block_model.specs.Pages.{page_bytes}
use Rattle.line_model.specs.Replies.{Missing, Value}
use Rattle.line_model.specs.Requests.{Get}
use Rattle.lines_in.specs.declared.line_end.LineEnd.TheVariants.{Next}
use Rattle.lines_in.proofs.EndCauses.{line_read, no_fall_say}
use Rattle.lines_in.proofs.Footprint.{within_still}
use Rattle.map_model.specs.SortedMap.{get}
use Rattle.state_model.specs.View.{state_map}
use Rattle.store_core.specs.Answers.{HasCause}
use Rattle.store_core.specs.Getting.{IsShown}
use Rattle.store_core.specs.StoreValue.{StoreValue}
use Rattle.surf_run.specs.Kind.{filter_kind}
use Rattle.surf_run.proofs.Calms.{get_cause, get_told, got_step, read_answers, refused_ends, said_cause, says_damage, still_next}
use Rattle.surf_run.proofs.Moments.{tied_stands}
use Rattle.surf_run.proofs.Values.{value_short}
use Rattle.surf_run.proofs.answers.get_line.Goals as goal

pub returns-in-Ok-Some : goal.returns-in-Ok-Some
returns-in-Ok-Some g c =
    let kind = (filter_kind g.F.RangeFilter.spelling g.F.RangeFilter.built_cutoff) in
    let a = g.W.Disk.world c.args.out.now in
    let mid = g.W.Disk.world c.get.new.disk in
    let b = g.W.Disk.world c.say_reply.new.out in
    let after = c.get.follows.lender-at-none in
    read_answers kind g.W.Disk.tells g.W.Outside.tells_output (Get c.args.key.now) c.args.store.now after (ap (λ (k : StoreValue). k.stopped) c.get.follows.holds-at-none.same) (ap (λ (k : StoreValue). k.manifest.version.pages) c.get.follows.holds-at-none.same) c.requires.running c.say_reply.result a mid b c.get.ensures.gets.moves c.say_reply.ensures.moves
    (λ s tells output tied.
    let moves = c.get.ensures.gets.moves in
    let held = c.get.follows.holds-at-none.tied s tells tied in
    let stand = tied_stands kind c.args.store.now s a c.consistency_law.ensures.slot tied in
    let writes = within_still (page_bytes * s.pages) a mid moves.held moves.time in
    let value = c.in-Ok-Some.value.now in
    let found = subst (λ (o : Option (Bor (List ℕ))). option_map (λ v. v.now) o ≡ get (state_map s) c.args.key.now) c.in-Ok-Some.field-0-is (c.in-Ok-Some.ensures.answer s tells tied) in
    still_next kind s (Get c.args.key.now) after a mid b moves.beside moves.time held stand (λ _. c.get.ensures.gets.bounded s tells tied) writes (g.met.W.Outside.said_now c.args.out.now) (g.met.W.Outside.said_now c.get.new.disk) c.say_reply.ensures.moves
    (Value value) c.say_reply.result (got_step (HasCause a mid) kind.filter_bytes s c.args.key.now (Some value) c.in-Ok-Some.ensures.gets.refused.1 found) refl
    (c.say_reply.ensures.says output (let few = value_short kind.filter_bytes s c.args.key.now value tied.sound found in omega (arith, few))))
    (said_cause c.say_reply.result Next a mid b c.say_reply.ensures.cause _ tt (line_read (length c.args.store.now.tables) a mid c.get.ensures.gets.moves).counts)

pub returns-in-Ok-None : goal.returns-in-Ok-None
returns-in-Ok-None g c =
    let kind = (filter_kind g.F.RangeFilter.spelling g.F.RangeFilter.built_cutoff) in
    let a = g.W.Disk.world c.args.out.now in
    let mid = g.W.Disk.world c.get.new.disk in
    let b = g.W.Disk.world c.say_reply-in-Ok-None.new.out in
    let after = c.get.follows.lender-at-none in
    read_answers kind g.W.Disk.tells g.W.Outside.tells_output (Get c.args.key.now) c.args.store.now after (ap (λ (k : StoreValue). k.stopped) c.get.follows.holds-at-none.same) (ap (λ (k : StoreValue). k.manifest.version.pages) c.get.follows.holds-at-none.same) c.requires.running c.say_reply-in-Ok-None.result a mid b c.get.ensures.gets.moves c.say_reply-in-Ok-None.ensures.moves
    (λ s tells output tied.
    let moves = c.get.ensures.gets.moves in
    let held = c.get.follows.holds-at-none.tied s tells tied in
    let stand = tied_stands kind c.args.store.now s a c.consistency_law.ensures.slot tied in
    let writes = within_still (page_bytes * s.pages) a mid moves.held moves.time in
    let found = subst (λ (o : Option (Bor (List ℕ))). option_map (λ v. v.now) o ≡ get (state_map s) c.args.key.now) c.in-Ok-None.field-0-is (c.in-Ok-None.ensures.answer s tells tied) in
    still_next kind s (Get c.args.key.now) after a mid b moves.beside moves.time held stand (λ _. c.get.ensures.gets.bounded s tells tied) writes (g.met.W.Outside.said_now c.args.out.now) (g.met.W.Outside.said_now c.get.new.disk) c.say_reply-in-Ok-None.ensures.moves
    Missing c.say_reply-in-Ok-None.result (got_step (HasCause a mid) kind.filter_bytes s c.args.key.now None c.in-Ok-None.ensures.gets.refused.1 found) refl (c.say_reply-in-Ok-None.ensures.says output tt))
    (said_cause c.say_reply-in-Ok-None.result Next a mid b c.say_reply-in-Ok-None.ensures.cause _ tt (line_read (length c.args.store.now.tables) a mid c.get.ensures.gets.moves).counts)

pub returns-in-Err : goal.returns-in-Err
returns-in-Err g c =
    let kind = (filter_kind g.F.RangeFilter.spelling g.F.RangeFilter.built_cutoff) in
    let a = g.W.Disk.world c.args.out.now in
    let mid = g.W.Disk.world c.get.new.disk in
    let b = g.W.Disk.world c.say_refusal.new.out in
    let after = c.get.follows.lender-at-none in
    read_answers kind g.W.Disk.tells g.W.Outside.tells_output (Get c.args.key.now) c.args.store.now after (ap (λ (k : StoreValue). k.stopped) c.get.follows.holds-at-none.same) (ap (λ (k : StoreValue). k.manifest.version.pages) c.get.follows.holds-at-none.same) c.requires.running c.say_refusal.result a mid b c.get.ensures.gets.moves c.say_refusal.ensures.moves
    (λ s tells output tied.
    let moves = c.get.ensures.gets.moves in
    let held = c.get.follows.holds-at-none.tied s tells tied in
    let stand = tied_stands kind c.args.store.now s a c.consistency_law.ensures.slot tied in
    let writes = within_still (page_bytes * s.pages) a mid moves.held moves.time in
    refused_ends kind s c.args.key.now c.in-Err.why after c.say_refusal.result a mid b (get_told c.in-Err.why c.args.store.now.stopped c.args.key.now a mid c.requires.running c.in-Err.ensures.gets.refused)
    (c.in-Err.ensures.gets.only_if_read s tells tied) (c.in-Err.ensures.gets.undamaged s tells tied) moves.beside moves.time held stand (c.get.ensures.gets.bounded s tells tied) writes (g.met.W.Outside.said_now c.args.out.now) (g.met.W.Outside.said_now c.get.new.disk) c.say_refusal.ensures.moves
    (λ reply is. c.say_refusal.ensures.says reply output is))
    (get_cause _ c.args.key.now c.in-Err.why c.say_refusal.result a mid b (get_told c.in-Err.why c.args.store.now.stopped c.args.key.now a mid c.requires.running c.in-Err.ensures.gets.refused) c.say_refusal.ensures.ends
    (line_read (length c.args.store.now.tables) a mid c.get.ensures.gets.moves).counts (no_fall_say mid b c.say_refusal.ensures.moves)
    (λ ends five told. says_damage c.args.store.now.tables (Get c.args.key.now) c.in-Err.why c.say_refusal.result a.seen.held mid b
    (λ d is. subst (IsShown c.args.store.now.tables c.args.key.now a.seen.held) is (c.in-Err.ensures.gets.shown told.0)) c.get.ensures.gets.moves.held c.say_refusal.ensures.moves.seen (λ reply is. c.say_refusal.ensures.says reply told.1 is) ends five))
