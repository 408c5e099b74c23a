use Rattle.std.proofs.Common.{ap, arith, length, subst, sym}
use Rattle.fst_map.specs.Opened.{IsCause}
use Rattle.fst_run.specs.Ending.{no_map_text_of, status_of}
use Rattle.fst_run.specs.Fetching.{IsFetched, unread_status, unread_text}
use Rattle.fst_run.proofs.Serving.{no_map_device, no_map_is, no_map_said, no_map_there, none_served, served, unread_device, unread_is, unread_said, unread_there}
use Rattle.fst_run.proofs.Short.{may_answer}
use Rattle.map_file_model.specs.Laws.{cutoff_read}
use Rattle.map_model.specs.SortedMap.{Bytes}
use Rattle.fst_run.proofs.serve.fst_serve.Goals as goal

pub serve_map-requires : goal.serve_map-requires
serve_map-requires g c =
    may_answer (cutoff_read c.deref.result.now) c.in-Ok-read.map c.deref.result.now c.in-Ok-read.ensures.spelled (omega (arith, ap length c.deref.ensures.value, c.in-Ok.ensures.size))

-- a map was read
pub returns-in-Ok-read : goal.returns-in-Ok-read
returns-in-Ok-read g c =
    let bytes = c.deref.result.now in
    let held = (g.W.Disk.world c.args.out.now).seen.held in
    served g.W.Disk.world g.W.Disk.tells g.W.Outside.tells_input g.W.Outside.tells_output c.serve_map.result c.args.out.now c.read_body.new.disk c.serve_map.new.out (g.met.W.Outside.said_now c.args.out.now)
    (g.met.W.Outside.said_now c.read_body.new.disk) c.read_body.ensures.moves c.in-Ok-read.map (cutoff_read bytes) bytes
    (λ tell. subst (λ (b : Bytes). IsFetched held b) (sym c.deref.ensures.value) (c.in-Ok.ensures.fetched tell)) c.in-Ok-read.ensures.map c.in-Ok-read.ensures.spelled c.serve_map.ensures

-- the bytes are no map
pub returns : goal.returns
returns g c =
    let why = c.in-Err-read.why in
    let say = c.say_no_map.ensures in
    let a = c.args.out.now in
    let held = (g.W.Disk.world a).seen.held in
    let fetched = c.in-Ok.ensures.fetched in
    let cause = subst (λ (b : Bytes). IsCause b why) c.deref.ensures.value c.in-Err-read.ensures.refused in
    none_served g.W.Disk.world g.W.Disk.tells g.W.Outside.tells_input g.W.Outside.tells_output c.say_no_map.result a c.read_body.new.disk c.say_no_map.new.out (g.met.W.Outside.said_now a)
    (g.met.W.Outside.said_now c.read_body.new.disk) c.read_body.ensures.moves (status_of why) (no_map_text_of why) say.moves say.ends say.said say.prefix
    (λ tell. no_map_said why held (fetched tell).there (subst (λ (b : Bytes). IsCause b why) (fetched tell).bytes_are cause)) (λ four. absurd (no_map_device why four)) (no_map_is why)
    (λ tell there right. no_map_there why held (subst (λ (b : Bytes). IsCause b why) (fetched tell).bytes_are cause) right)

-- nothing was read
pub returns-in-Err : goal.returns-in-Err
returns-in-Err g c =
    let why = c.in-Err.why in
    let say = c.say_unread.ensures in
    let a = c.args.out.now in
    let m = c.read_body.new.disk in
    let held = (g.W.Disk.world a).seen.held in
    none_served g.W.Disk.world g.W.Disk.tells g.W.Outside.tells_input g.W.Outside.tells_output c.say_unread.result a m c.say_unread.new.out (g.met.W.Outside.said_now a) (g.met.W.Outside.said_now m)
    c.read_body.ensures.moves (unread_status why) (unread_text why) say.moves say.ends say.said say.prefix (λ tell. unread_said why held (c.in-Err.ensures.no_map tell))
    (unread_device why (g.W.Disk.world a) (g.W.Disk.world m) c.in-Err.ensures.cause) (unread_is why) (λ tell there right. unread_there why held (c.in-Err.ensures.no_map tell) there)
