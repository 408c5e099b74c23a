use Rattle.std.proofs.Common.{◌<◌, arith}
use Rattle.block_format.proofs.Walked.{fits, head_fits, inside, none_walked, short, stands_next, value_lies, walked_next}
use Rattle.block_format.proofs.walk.EntryWalk.advance.Goals as goal

pub returns-then-self-eq0-clause-entries : goal.returns-then-self-eq0-clause-entries
returns-then-self-eq0-clause-entries c =
    let none = none_walked c.args.self.now c.args.buffer.now c.args.bytes.now c.if-self-eq0.true in
    (none, none)

pub head_of-head-requires : goal.head_of-head-requires
head_of-head-requires c = head_fits c.args.self.now c.args.buffer.now c.args.bytes.now (omega (arith, c.if-self-eq0.false)) c.requires.stands

pub build_key-requires-clause-room : goal.build_key-requires-clause-room
build_key-requires-clause-room c =
    let head = c.head_of-head.result in
    let some : 0 < c.args.self.now.left = omega (arith, c.if-self-eq0.false) in
    let small = short c.args.self.now c.args.buffer.now c.args.bytes.now some c.requires.stands head.shared head.rest head.value head.bytes c.head_of-head.ensures.shared c.head_of-head.ensures.rest c.head_of-head.ensures.value c.head_of-head.ensures.bytes in
    omega (arith, small, c.requires.room)

pub build_key-requires-clause-within : goal.build_key-requires-clause-within
build_key-requires-clause-within c =
    let head = c.head_of-head.result in
    let some : 0 < c.args.self.now.left = omega (arith, c.if-self-eq0.false) in
    let all = fits c.args.self.now c.args.buffer.now c.args.bytes.now some c.requires.stands head.shared head.rest head.value head.bytes c.head_of-head.ensures.shared c.head_of-head.ensures.rest c.head_of-head.ensures.value c.head_of-head.ensures.bytes in
    omega (arith, all)

pub value_place-place-requires : goal.value_place-place-requires
value_place-place-requires c =
    let head = c.head_of-head.result in
    let some : 0 < c.args.self.now.left = omega (arith, c.if-self-eq0.false) in
    let all = inside c.args.self.now c.args.buffer.now c.args.bytes.now some c.requires.stands head.shared head.rest head.value head.bytes c.head_of-head.ensures.shared c.head_of-head.ensures.rest c.head_of-head.ensures.value c.head_of-head.ensures.bytes in
    omega (arith, all, c.requires.stands.inside)

pub overflow_add-self : goal.overflow_add-self
overflow_add-self c =
    let head = c.head_of-head.result in
    let some : 0 < c.args.self.now.left = omega (arith, c.if-self-eq0.false) in
    let all = inside c.args.self.now c.args.buffer.now c.args.bytes.now some c.requires.stands head.shared head.rest head.value head.bytes c.head_of-head.ensures.shared c.head_of-head.ensures.rest c.head_of-head.ensures.value c.head_of-head.ensures.bytes in
    omega (arith, all, c.requires.stands.inside)

pub overflow_add-self-2 : goal.overflow_add-self-2
overflow_add-self-2 c =
    let head = c.head_of-head.result in
    let some : 0 < c.args.self.now.left = omega (arith, c.if-self-eq0.false) in
    let all = inside c.args.self.now c.args.buffer.now c.args.bytes.now some c.requires.stands head.shared head.rest head.value head.bytes c.head_of-head.ensures.shared c.head_of-head.ensures.rest c.head_of-head.ensures.value c.head_of-head.ensures.bytes in
    omega (arith, all, c.requires.stands.inside)

pub overflow_add-self-3 : goal.overflow_add-self-3
overflow_add-self-3 c =
    let head = c.head_of-head.result in
    let some : 0 < c.args.self.now.left = omega (arith, c.if-self-eq0.false) in
    let all = inside c.args.self.now c.args.buffer.now c.args.bytes.now some c.requires.stands head.shared head.rest head.value head.bytes c.head_of-head.ensures.shared c.head_of-head.ensures.rest c.head_of-head.ensures.value c.head_of-head.ensures.bytes in
    omega (arith, all, c.requires.stands.inside)

pub returns-clause-stands : goal.returns-clause-stands
returns-clause-stands c =
    let head = c.head_of-head.result in
    let some : 0 < c.args.self.now.left = omega (arith, c.if-self-eq0.false) in
    stands_next c.args.self.now c.args.buffer.now c.args.bytes.now some c.requires.stands head.shared head.rest head.value head.bytes c.head_of-head.ensures.shared c.head_of-head.ensures.rest c.head_of-head.ensures.value c.head_of-head.ensures.bytes
    c.build_key.new.buffer c.build_key.ensures.built c.build_key.ensures.room c.requires.room

pub returns-clause-lies : goal.returns-clause-lies
returns-clause-lies c =
    let head = c.head_of-head.result in
    let some : 0 < c.args.self.now.left = omega (arith, c.if-self-eq0.false) in
    value_lies c.args.self.now c.args.buffer.now c.args.bytes.now some c.requires.stands head.shared head.rest head.value head.bytes c.head_of-head.ensures.shared c.head_of-head.ensures.rest c.head_of-head.ensures.value c.head_of-head.ensures.bytes
    head.kind c.value_place-place.result c.value_place-place.ensures

pub returns-clause-entries : goal.returns-clause-entries
returns-clause-entries c =
    let head = c.head_of-head.result in
    let some : 0 < c.args.self.now.left = omega (arith, c.if-self-eq0.false) in
    walked_next c.args.self.now c.args.buffer.now c.args.bytes.now some c.requires.stands head.shared head.rest head.value head.bytes c.head_of-head.ensures.shared c.head_of-head.ensures.rest c.head_of-head.ensures.value c.head_of-head.ensures.bytes
    c.build_key.new.buffer c.build_key.ensures.built c.build_key.ensures.room c.requires.room
    head.kind c.value_place-place.result c.head_of-head.ensures.kind c.value_place-place.ensures
