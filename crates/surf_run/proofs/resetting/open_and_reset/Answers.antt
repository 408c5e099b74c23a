use Rattle.std.proofs.Common.{◌*◌, ◌++◌, ◌∙◌, ap, inl, inr}
use Rattle.block_model.specs.Pages.{page_bytes}
use Rattle.disk_trait.specs.World.{Streams}
use Rattle.lines_in.proofs.EndCauses.{causes_on, lines_on}
use Rattle.surf_run.specs.Formats.{bad_settings_text}
use Rattle.surf_run.specs.Kind.{filter_kind}
use Rattle.surf_run.proofs.Moments.{image_stands, tied_stands}
use Rattle.surf_run.proofs.NewNumbersSet.{all_statuses, completed, never_five, no_store_told, opened_now, opening_never_ten, unopened_ends}
use Rattle.surf_run.proofs.Openings.{opened_ends, opened_within}
use Rattle.surf_run.proofs.resetting.open_and_reset.Goals as goal

-- ---- an opened store

pub returns-in-Ok-clause-outcome : goal.returns-in-Ok-clause-outcome
returns-in-Ok-clause-outcome g c s tells output now =
    let tied = c.in-Ok.ensures.opens s tells (now _ (g.met.W.Disk.current c.args.out.now tells)) in
    inl (c.reset_store.ensures.ends s c.args.out.now tells output c.in-Ok.ensures.still (λ image left. image_stands g.F.RangeFilter.spelling s image (now image left)) tied)

pub returns-in-Ok-clause-answers : goal.returns-in-Ok-clause-answers
returns-in-Ok-clause-answers g c s tells output here =
    let kind = filter_kind g.F.RangeFilter.spelling g.F.RangeFilter.built_cutoff in
    let mid = g.W.Disk.world c.open_or_say.new.out in
    let tied = c.in-Ok.ensures.opens s tells here in
    inl (
      c.open_or_say.new.out,
      record {
        opens = c.in-Ok.ensures.still;
        ends = c.reset_store.ensures.ends s c.open_or_say.new.out tells output (opened_now mid) (λ image left. (tied_stands kind c.in-Ok.store s mid c.in-Ok.ensures.slot tied image left).0) tied;
      },
    )

pub returns-in-Ok-clause-complete : goal.returns-in-Ok-clause-complete
returns-in-Ok-clause-complete g c s tells output here none =
    let old = g.W.Disk.world c.args.out.now in
    let mid = g.W.Disk.world c.open_or_say.new.out in
    let new = g.W.Disk.world c.reset_store.new.out in
    completed c.reset_store.result old new c.reset_store.ensures.statuses (causes_on c.reset_store.result old mid new c.open_or_say.ensures.moves.counts c.reset_store.ensures.causes) none

pub returns-in-Ok-clause-only_at_damage : goal.returns-in-Ok-clause-only_at_damage
returns-in-Ok-clause-only_at_damage g c tells output five = absurd (never_five c.reset_store.result c.reset_store.ensures.statuses five)

pub returns-in-Ok-clause-ending : goal.returns-in-Ok-clause-ending
returns-in-Ok-clause-ending g c =
    opened_ends g.F.RangeFilter.spelling g.F.RangeFilter.first_fault g.W.Disk.tells g.W.Outside.tells_output c.reset_store.result (g.W.Disk.world c.args.out.now) (g.W.Disk.world c.reset_store.new.out) c.in-Ok.ensures.opens_something

pub returns-in-Ok-clause-at_eight : goal.returns-in-Ok-clause-at_eight
returns-in-Ok-clause-at_eight g c tells eight =
    let told = c.reset_store.ensures.at_eight eight in
    inr (
      told.0,
      (c.in-Ok.store.manifest.version, c.in-Ok.ensures.version tells, told.1),
      λ output. told.2 output ∙ ap (λ (t : Streams). t.said ++ bad_settings_text told.0) c.in-Ok.ensures.still.beside,
    )

pub returns-in-Ok-clause-at_ten : goal.returns-in-Ok-clause-at_ten
returns-in-Ok-clause-at_ten g c tells ten = (c.in-Ok.store.manifest.version, c.in-Ok.ensures.version tells, c.reset_store.ensures.at_ten ten)

pub returns-in-Ok-clause-causes : goal.returns-in-Ok-clause-causes
returns-in-Ok-clause-causes g c =
    causes_on c.reset_store.result (g.W.Disk.world c.args.out.now) (g.W.Disk.world c.open_or_say.new.out) (g.W.Disk.world c.reset_store.new.out) c.open_or_say.ensures.moves.counts c.reset_store.ensures.causes

pub returns-in-Ok-clause-statuses : goal.returns-in-Ok-clause-statuses
returns-in-Ok-clause-statuses g c = all_statuses c.reset_store.result c.reset_store.ensures.statuses

pub returns-in-Ok-clause-moves : goal.returns-in-Ok-clause-moves
returns-in-Ok-clause-moves g c = lines_on (g.W.Disk.world c.args.out.now) (g.W.Disk.world c.open_or_say.new.out) (g.W.Disk.world c.reset_store.new.out) c.open_or_say.ensures.moves c.reset_store.ensures.moves

-- ---- none

pub returns-in-Err-clause-outcome : goal.returns-in-Err-clause-outcome
returns-in-Err-clause-outcome g c s tells output now = inr (c.in-Err.ensures.unanswered s tells output (now _ (g.met.W.Disk.current c.args.out.now tells)))

pub returns-in-Err-clause-answers : goal.returns-in-Err-clause-answers
returns-in-Err-clause-answers g c s tells output here = inr (c.in-Err.ensures.unanswered s tells output here)

pub returns-in-Err-clause-complete : goal.returns-in-Err-clause-complete
returns-in-Err-clause-complete g c s tells output here none =
    let old = g.W.Disk.world c.args.out.now in
    let new = g.W.Disk.world c.open_or_say.new.out in
    completed c.in-Err.status old new (unopened_ends c.in-Err.status old new (c.in-Err.ensures.unanswered s tells output here).0) c.in-Err.ensures.causes none

pub returns-in-Err-clause-at_eight : goal.returns-in-Err-clause-at_eight
returns-in-Err-clause-at_eight g c tells eight =
    let old = g.W.Disk.world c.args.out.now in
    let none = c.in-Err.ensures.only_at_no_store tells eight in
    inl (none, λ output. no_store_told g.F.RangeFilter.spelling g.F.RangeFilter.first_fault old.seen.held c.in-Err.status old (g.W.Disk.world c.open_or_say.new.out) (c.in-Err.ensures.ending.unopened tells output (inl none)) eight)

pub returns-in-Err-clause-at_ten : goal.returns-in-Err-clause-at_ten
returns-in-Err-clause-at_ten g c tells ten = absurd (opening_never_ten c.in-Err.status c.in-Err.ensures.statuses ten)

pub returns-in-Err-clause-statuses : goal.returns-in-Err-clause-statuses
returns-in-Err-clause-statuses g c = elim c.in-Err.ensures.statuses [
  | inl four ↦ inr (inl four)
  | inr more ↦ elim more [
    | inl five ↦ inr (inr (inl five))
    | inr more ↦ elim more [
      | inl six ↦ inr (inr (inr (inl six)))
      | inr more ↦ elim more [ inl seven ↦ inr (inr (inr (inr (inl seven)))) | inr eight ↦ inr (inr (inr (inr (inr (inl eight))))) ]
    ]
  ]
]

-- ---- where it writes

pub returns-in-Ok-clause-within : goal.returns-in-Ok-clause-within
returns-in-Ok-clause-within g c v tells is =
    opened_within v c.in-Ok.store.manifest.version (g.W.Disk.world c.args.out.now) (g.W.Disk.world c.open_or_say.new.out) (g.W.Disk.world c.reset_store.new.out) is (c.in-Ok.ensures.version tells) c.in-Ok.ensures.still c.reset_store.ensures.within

pub returns-in-Err-clause-within : goal.returns-in-Err-clause-within
returns-in-Err-clause-within g c v tells is = c.in-Err.ensures.unwritten (page_bytes * v.pages)
