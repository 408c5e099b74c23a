use Rattle.std.proofs.Common.{◌*◌, inl, inr}
use Rattle.block_model.specs.Pages.{page_bytes}
use Rattle.lines_in.proofs.EndCauses.{causes_on, lines_on}
use Rattle.surf_run.specs.Kind.{filter_kind}
use Rattle.surf_run.proofs.LoadEnds.{damage_since, ends_completed, ends_never_five, load_ends_by, loaded_now, loaded_open, loading_never_eight, unserved_ends_by}
use Rattle.surf_run.proofs.Moments.{tied_stands}
use Rattle.surf_run.proofs.Openings.{opened_ends, opened_within}
use Rattle.surf_run.proofs.loading.open_and_load.Goals as goal

-- ---- an opened store

pub returns-in-Ok-clause-outcome : goal.returns-in-Ok-clause-outcome
returns-in-Ok-clause-outcome g c s tells output now =
    let kind = filter_kind g.F.RangeFilter.spelling g.F.RangeFilter.built_cutoff in
    let old = g.W.Disk.world c.args.out.now in
    let mid = g.W.Disk.world c.open_or_say.new.out in
    let tied = c.in-Ok.ensures.opens s tells (now _ (g.met.W.Disk.current c.args.out.now tells)) in
    inl (c.load_store.ensures.ends s c.args.out.now tells output
    (loaded_open kind s c.args.load.seed c.in-Ok.store mid tied (tied_stands kind c.in-Ok.store s mid c.in-Ok.ensures.slot tied) old c.in-Ok.ensures.still (g.met.W.Outside.said_now c.args.out.now) now))

pub returns-in-Ok-clause-answers : goal.returns-in-Ok-clause-answers
returns-in-Ok-clause-answers g c s tells output here =
    let kind = filter_kind g.F.RangeFilter.spelling g.F.RangeFilter.built_cutoff in
    let mid = g.W.Disk.world c.open_or_say.new.out in
    let tied = c.in-Ok.ensures.opens s tells here in
    inl (
      c.open_or_say.new.out,
      record {
        opens = c.in-Ok.ensures.still;
        ends = c.load_store.ensures.ends s c.open_or_say.new.out tells output
            (loaded_now kind s c.args.load.seed c.in-Ok.store mid tied (tied_stands kind c.in-Ok.store s mid c.in-Ok.ensures.slot tied) (g.met.W.Outside.said_now c.open_or_say.new.out));
      },
    )

pub returns-in-Ok-clause-complete : goal.returns-in-Ok-clause-complete
returns-in-Ok-clause-complete g c s tells output here none =
    let kind = filter_kind g.F.RangeFilter.spelling g.F.RangeFilter.built_cutoff in
    let old = g.W.Disk.world c.args.out.now in
    let mid = g.W.Disk.world c.open_or_say.new.out in
    let new = g.W.Disk.world c.load_store.new.out in
    let tied = c.in-Ok.ensures.opens s tells here in
    ends_completed c.load_store.result old new
    (load_ends_by kind c.load_store.result s c.args.load.seed c.args.load.count mid new
    (c.load_store.ensures.ends s c.open_or_say.new.out tells output
    (loaded_now kind s c.args.load.seed c.in-Ok.store mid tied (tied_stands kind c.in-Ok.store s mid c.in-Ok.ensures.slot tied) (g.met.W.Outside.said_now c.open_or_say.new.out))))
    (causes_on c.load_store.result old mid new c.open_or_say.ensures.moves.counts c.load_store.ensures.causes) none

pub returns-in-Ok-clause-only_at_damage : goal.returns-in-Ok-clause-only_at_damage
returns-in-Ok-clause-only_at_damage g c tells output five =
    let kind = filter_kind g.F.RangeFilter.spelling g.F.RangeFilter.built_cutoff in
    let old = g.W.Disk.world c.args.out.now in
    let mid = g.W.Disk.world c.open_or_say.new.out in
    let new = g.W.Disk.world c.load_store.new.out in
    inr (
      (λ s here.
          let tied = c.in-Ok.ensures.opens s tells here in
          ends_never_five c.load_store.result
          (load_ends_by kind c.load_store.result s c.args.load.seed c.args.load.count mid new
          (c.load_store.ensures.ends s c.open_or_say.new.out tells output
          (loaded_now kind s c.args.load.seed c.in-Ok.store mid tied (tied_stands kind c.in-Ok.store s mid c.in-Ok.ensures.slot tied) (g.met.W.Outside.said_now c.open_or_say.new.out))))
          five),
      damage_since (Unit {0}) c.load_store.result old mid new c.open_or_say.ensures.moves.counts c.in-Ok.ensures.still.beside (c.load_store.ensures.shown tells output five),
    )

pub returns-in-Ok-clause-ending : goal.returns-in-Ok-clause-ending
returns-in-Ok-clause-ending g c =
    opened_ends g.F.RangeFilter.spelling g.F.RangeFilter.first_fault g.W.Disk.tells g.W.Outside.tells_output c.load_store.result (g.W.Disk.world c.args.out.now) (g.W.Disk.world c.load_store.new.out) c.in-Ok.ensures.opens_something

pub returns-in-Ok-clause-only_at_no_store : goal.returns-in-Ok-clause-only_at_no_store
returns-in-Ok-clause-only_at_no_store g c tells eight = absurd (loading_never_eight c.load_store.result c.load_store.ensures.statuses eight)

pub returns-in-Ok-clause-causes : goal.returns-in-Ok-clause-causes
returns-in-Ok-clause-causes g c =
    causes_on c.load_store.result (g.W.Disk.world c.args.out.now) (g.W.Disk.world c.open_or_say.new.out) (g.W.Disk.world c.load_store.new.out) c.open_or_say.ensures.moves.counts c.load_store.ensures.causes

pub returns-in-Ok-clause-moves : goal.returns-in-Ok-clause-moves
returns-in-Ok-clause-moves g c = lines_on (g.W.Disk.world c.args.out.now) (g.W.Disk.world c.open_or_say.new.out) (g.W.Disk.world c.load_store.new.out) c.open_or_say.ensures.moves c.load_store.ensures.moves

-- ---- none

pub returns-in-Err-clause-outcome : goal.returns-in-Err-clause-outcome
returns-in-Err-clause-outcome g c s tells output now = inr (c.in-Err.ensures.unanswered s tells output (now _ (g.met.W.Disk.current c.args.out.now tells)))

pub returns-in-Err-clause-answers : goal.returns-in-Err-clause-answers
returns-in-Err-clause-answers g c s tells output here = inr (c.in-Err.ensures.unanswered s tells output here)

pub returns-in-Err-clause-complete : goal.returns-in-Err-clause-complete
returns-in-Err-clause-complete g c s tells output here none =
    let old = g.W.Disk.world c.args.out.now in
    let new = g.W.Disk.world c.open_or_say.new.out in
    ends_completed c.in-Err.status old new (unserved_ends_by c.in-Err.status old new (c.in-Err.ensures.unanswered s tells output here).0) c.in-Err.ensures.causes none

pub returns-in-Err-clause-only_at_damage : goal.returns-in-Err-clause-only_at_damage
returns-in-Err-clause-only_at_damage g c tells output five = inl (c.in-Err.ensures.only_at_damage tells output five)

pub returns-in-Err-clause-statuses : goal.returns-in-Err-clause-statuses
returns-in-Err-clause-statuses g c = elim c.in-Err.ensures.statuses [
  | inl four ↦ inl (inr (inl four))
  | inr more ↦ elim more [
    | inl five ↦ inl (inr (inr (inl five)))
    | inr more ↦ elim more [
      | inl six ↦ inl (inr (inr (inr (inl six))))
      | inr more ↦ elim more [ inl seven ↦ inl (inr (inr (inr (inr seven)))) | inr eight ↦ inr eight ]
    ]
  ]
]

-- ---- where it writes

pub returns-in-Ok-clause-within : goal.returns-in-Ok-clause-within
returns-in-Ok-clause-within g c v tells is =
    opened_within v c.in-Ok.store.manifest.version (g.W.Disk.world c.args.out.now) (g.W.Disk.world c.open_or_say.new.out) (g.W.Disk.world c.load_store.new.out) is (c.in-Ok.ensures.version tells) c.in-Ok.ensures.still c.load_store.ensures.within

pub returns-in-Err-clause-within : goal.returns-in-Err-clause-within
returns-in-Err-clause-within g c v tells is = c.in-Err.ensures.unwritten (page_bytes * v.pages)
