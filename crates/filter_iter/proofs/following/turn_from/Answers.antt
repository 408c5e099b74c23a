use Rattle.std.proofs.Common.{◌≡◌, Option, arith, rules, subst}
use Rattle.std.specs.Prelude.{IfNone}
use Rattle.filter_iter.proofs.KeptWays.{behind_none, behind_one}
use Rattle.filter_iter.specs.Borders.{LeadsToReached}
use Rattle.filter_iter.specs.CursorPath.{letters_of}
use Rattle.filter_iter.specs.declared.parts.Reached.{Reached}
use Rattle.filter_iter.proofs.following.turn_from.Goals as goal

pub turn_behind-requires : goal.turn_behind-requires
turn_behind-requires g c = (
  search rules,
  (
    search rules,
    (
      c.requires.stands,
      (
        c.requires.way,
        (
          c.requires.spots,
          (
            c.requires.marks,
            (
              omega (arith, behind_none c.args.trie.now.hash_bits c.args.trie.now.real_bits c.args.trie.now.leaves c.requires.stands.valid (letters_of c.args.way.now.items) (subst (LeadsToReached c.args.trie.now.leaves (letters_of c.args.way.now.items)) c.in-None.is c.requires.leaf), c.requires.more),
              c.requires.room,
            ),
          ),
        ),
      ),
    ),
  ),
)

pub returns-in-None-clause-first : goal.returns-in-None-clause-first
returns-in-None-clause-first g c =
    let none : c.args.past ≡ 0 = subst (λ (o : Option Reached). IfNone o (c.args.past ≡ 0)) c.in-None.is c.requires.none in
    omega (arith, c.turn_behind.ensures.first, none, behind_none c.args.trie.now.hash_bits c.args.trie.now.real_bits c.args.trie.now.leaves c.requires.stands.valid (letters_of c.args.way.now.items) (subst (LeadsToReached c.args.trie.now.leaves (letters_of c.args.way.now.items)) c.in-None.is c.requires.leaf))

pub returns-then-past-eq0-clause-leads : goal.returns-then-past-eq0-clause-leads
returns-then-past-eq0-clause-leads g c = subst (LeadsToReached c.args.trie.now.leaves (letters_of c.args.way.now.items)) c.in-Some.is c.requires.leaf

pub turn_behind-requires-else-past-eq0 : goal.turn_behind-requires-else-past-eq0
turn_behind-requires-else-past-eq0 g c = (
  search rules,
  (
    search rules,
    (
      c.requires.stands,
      (
        c.requires.way,
        (
          c.requires.spots,
          (
            c.requires.marks,
            (
              omega (arith, behind_one c.args.trie.now.hash_bits c.args.trie.now.real_bits c.args.trie.now.leaves c.requires.stands.valid (letters_of c.args.way.now.items) c.in-Some.reached.slot (subst (LeadsToReached c.args.trie.now.leaves (letters_of c.args.way.now.items)) c.in-Some.is c.requires.leaf), c.requires.more, c.requires.one, c.if-past-eq0.false),
              c.requires.room,
            ),
          ),
        ),
      ),
    ),
  ),
)

pub returns-else-past-eq0-clause-first : goal.returns-else-past-eq0-clause-first
returns-else-past-eq0-clause-first g c =
    omega (arith, c.turn_behind-else-past-eq0.ensures.first, behind_one c.args.trie.now.hash_bits c.args.trie.now.real_bits c.args.trie.now.leaves c.requires.stands.valid (letters_of c.args.way.now.items) c.in-Some.reached.slot (subst (LeadsToReached c.args.trie.now.leaves (letters_of c.args.way.now.items)) c.in-Some.is c.requires.leaf), c.requires.one, c.if-past-eq0.false)
