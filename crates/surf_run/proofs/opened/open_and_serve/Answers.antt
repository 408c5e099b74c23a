use Rattle.std.proofs.Common.{◌+◌, ◌*◌, ◌∙◌, inl, inr, refl, sym, ap, arith}
use Rattle.block_model.specs.Pages.{page_bytes}
use Rattle.disk_trait.specs.World.{Streams}
use Rattle.image_model.specs.Stands.{IsStateOf}
use Rattle.lines_in.proofs.EndCauses.{causes_on, no_fall_on}
use Rattle.lines_in.proofs.LastLines.{completed, never_eight, never_five, read_since}
use Rattle.surf_run.specs.ServedOrNot.{opening_bound}
use Rattle.surf_run.specs.Kind.{filter_kind}
use Rattle.surf_run.specs.Open.{IsFreeText}
use Rattle.surf_run.proofs.LastLines.{free_status, unserved_since}
use Rattle.surf_run.proofs.Moments.{tied_stands}
use Rattle.surf_run.proofs.Openings.{opened_ends, opened_within, served_now, served_open}
use Rattle.surf_run.proofs.opened.open_and_serve.Goals as goal

-- ---- an opened store

pub serve_store-requires : goal.serve_store-requires
serve_store-requires g c = c.in-Ok.ensures.running

pub returns-in-Ok-clause-outcome : goal.returns-in-Ok-clause-outcome
returns-in-Ok-clause-outcome g c s tells input output now =
    let kind = (filter_kind g.F.RangeFilter.spelling g.F.RangeFilter.built_cutoff) in
    let old = g.W.Disk.world c.args.out.now in
    let mid = g.W.Disk.world c.open_or_say.new.out in
    let here : IsStateOf g.F.RangeFilter.spelling s old.seen.held = now _ (g.met.W.Disk.current c.args.out.now tells) in
    let tied = c.in-Ok.ensures.opens s tells here in
    let opened = c.in-Ok.ensures.still in
    let base = old.seen.reads + opening_bound s in
    elim (c.serve_store.ensures.ends s base c.args.out.now tells input output (sym (ap (λ (t : Streams). t.to_take) opened.beside))
    (served_open kind s base c.in-Ok.store old mid tied (tied_stands kind c.in-Ok.store s mid c.in-Ok.ensures.slot tied)
    (c.open_or_say.ensures.reads s tells here) opened (g.met.W.Outside.said_now c.args.out.now) now)) [
      | inl outcome ↦ inl outcome
      | inr none ↦ inr (
        unserved_since IsFreeText c.serve_store.result old mid (g.W.Disk.world c.serve_store.new.out) opened (g.met.W.Outside.said_now c.args.out.now) none.0,
        read_since (g.W.Disk.world c.serve_store.new.out).seen.reads mid.seen.reads base none.1 (c.open_or_say.ensures.reads s tells here),
      )
    ]

pub returns-in-Ok-clause-answers : goal.returns-in-Ok-clause-answers
returns-in-Ok-clause-answers g c s tells input output here =
    let kind = (filter_kind g.F.RangeFilter.spelling g.F.RangeFilter.built_cutoff) in
    let old = g.W.Disk.world c.args.out.now in
    let mid = g.W.Disk.world c.open_or_say.new.out in
    let tied = c.in-Ok.ensures.opens s tells here in
    let opened = c.in-Ok.ensures.still in
    let base = old.seen.reads + opening_bound s in
    elim (c.serve_store.ensures.ends s base c.open_or_say.new.out tells input output refl
    (served_now kind s base c.in-Ok.store mid mid tied (tied_stands kind c.in-Ok.store s mid c.in-Ok.ensures.slot tied) (c.open_or_say.ensures.reads s tells here) (g.met.W.Outside.said_now c.open_or_say.new.out))) [
      | inl outcome ↦ inl (c.open_or_say.new.out, record { opens = opened; outcome = outcome })
      | inr none ↦ inr (
        unserved_since IsFreeText c.serve_store.result old mid (g.W.Disk.world c.serve_store.new.out) opened (g.met.W.Outside.said_now c.args.out.now) none.0,
        read_since (g.W.Disk.world c.serve_store.new.out).seen.reads mid.seen.reads base none.1 (c.open_or_say.ensures.reads s tells here),
      )
    ]

pub returns-in-Ok-clause-complete : goal.returns-in-Ok-clause-complete
returns-in-Ok-clause-complete g c s tells input output here none =
    let kind = (filter_kind g.F.RangeFilter.spelling g.F.RangeFilter.built_cutoff) in
    let old = g.W.Disk.world c.args.out.now in
    let mid = g.W.Disk.world c.open_or_say.new.out in
    let new = g.W.Disk.world c.serve_store.new.out in
    let tied = c.in-Ok.ensures.opens s tells here in
    completed c.serve_store.result old new
    (free_status kind c.serve_store.result s mid.seen.reads mid new mid new _
    (c.serve_store.ensures.ends s mid.seen.reads c.open_or_say.new.out tells input output refl
    (served_now kind s mid.seen.reads c.in-Ok.store mid mid tied (tied_stands kind c.in-Ok.store s mid c.in-Ok.ensures.slot tied) (omega arith) (g.met.W.Outside.said_now c.open_or_say.new.out))))
    (λ seven. c.serve_store.ensures.early seven ∙ c.open_or_say.ensures.moves.input)
    (causes_on c.serve_store.result old mid new c.open_or_say.ensures.moves.counts c.serve_store.ensures.causes) none

pub returns-in-Ok-clause-only_at_damage : goal.returns-in-Ok-clause-only_at_damage
returns-in-Ok-clause-only_at_damage g c tells input output five = inr (
  (λ s here.
      let kind = (filter_kind g.F.RangeFilter.spelling g.F.RangeFilter.built_cutoff) in
      let mid = g.W.Disk.world c.open_or_say.new.out in
      let tied = c.in-Ok.ensures.opens s tells here in
      never_five c.serve_store.result
      (free_status kind c.serve_store.result s mid.seen.reads mid (g.W.Disk.world c.serve_store.new.out) mid (g.W.Disk.world c.serve_store.new.out) _
      (c.serve_store.ensures.ends s mid.seen.reads c.open_or_say.new.out tells input output refl
      (served_now kind s mid.seen.reads c.in-Ok.store mid mid tied (tied_stands kind c.in-Ok.store s mid c.in-Ok.ensures.slot tied) (omega arith) (g.met.W.Outside.said_now c.open_or_say.new.out))))
      five),
  c.serve_store.ensures.shown tells output five,
)

pub returns-in-Ok-clause-ending : goal.returns-in-Ok-clause-ending
returns-in-Ok-clause-ending g c =
    opened_ends g.F.RangeFilter.spelling g.F.RangeFilter.first_fault g.W.Disk.tells g.W.Outside.tells_output c.serve_store.result (g.W.Disk.world c.args.out.now) (g.W.Disk.world c.serve_store.new.out) c.in-Ok.ensures.opens_something

pub returns-in-Ok-clause-only_at_no_store : goal.returns-in-Ok-clause-only_at_no_store
returns-in-Ok-clause-only_at_no_store g c tells eight = absurd (never_eight c.serve_store.result c.serve_store.ensures.statuses eight)

pub returns-in-Ok-clause-early : goal.returns-in-Ok-clause-early
returns-in-Ok-clause-early g c is = elim is [
  | inl seven ↦ c.serve_store.ensures.early seven ∙ c.open_or_say.ensures.moves.input
  | inr eight ↦ absurd (never_eight c.serve_store.result c.serve_store.ensures.statuses eight)
]

pub returns-in-Ok-clause-causes : goal.returns-in-Ok-clause-causes
returns-in-Ok-clause-causes g c =
    causes_on c.serve_store.result (g.W.Disk.world c.args.out.now) (g.W.Disk.world c.open_or_say.new.out) (g.W.Disk.world c.serve_store.new.out) c.open_or_say.ensures.moves.counts c.serve_store.ensures.causes

pub returns-in-Ok-clause-counts : goal.returns-in-Ok-clause-counts
returns-in-Ok-clause-counts g c =
    no_fall_on (g.W.Disk.world c.args.out.now) (g.W.Disk.world c.open_or_say.new.out) (g.W.Disk.world c.serve_store.new.out) c.open_or_say.ensures.moves.counts c.serve_store.ensures.counts

pub returns-in-Ok-clause-statuses : goal.returns-in-Ok-clause-statuses
returns-in-Ok-clause-statuses g c = elim c.serve_store.ensures.statuses [ inl s ↦ inl s | inr more ↦ elim more [ inl five ↦ inr (inl five) | inr seven ↦ inr (inr (inl seven)) ] ]

-- ---- none

pub returns-in-Err-clause-outcome : goal.returns-in-Err-clause-outcome
returns-in-Err-clause-outcome g c s tells input output now = inr (c.in-Err.ensures.unanswered s tells output (now _ (g.met.W.Disk.current c.args.out.now tells)))

pub returns-in-Err-clause-answers : goal.returns-in-Err-clause-answers
returns-in-Err-clause-answers g c s tells input output here = inr (c.in-Err.ensures.unanswered s tells output here)

pub returns-in-Err-clause-complete : goal.returns-in-Err-clause-complete
returns-in-Err-clause-complete g c s tells input output here none =
    let old = g.W.Disk.world c.args.out.now in
    let new = g.W.Disk.world c.open_or_say.new.out in
    completed c.in-Err.status old new (free_status (filter_kind g.F.RangeFilter.spelling g.F.RangeFilter.built_cutoff) c.in-Err.status s 0 old old old new _ (inr (c.in-Err.ensures.unanswered s tells output here)))
    (λ seven. c.open_or_say.ensures.moves.input) c.in-Err.ensures.causes none

pub returns-in-Err-clause-only_at_damage : goal.returns-in-Err-clause-only_at_damage
returns-in-Err-clause-only_at_damage g c tells input output five = inl (c.in-Err.ensures.only_at_damage tells output five)

pub returns-in-Err-clause-statuses : goal.returns-in-Err-clause-statuses
returns-in-Err-clause-statuses g c = elim c.in-Err.ensures.statuses [
  | inl four ↦ inl (inr (inr (inl four)))
  | inr more ↦ elim more [
    | inl five ↦ inr (inl five)
    | inr more ↦ elim more [
      | inl six ↦ inl (inr (inr (inr (inl six))))
      | inr more ↦ elim more [ inl seven ↦ inr (inr (inl seven)) | inr eight ↦ inr (inr (inr eight)) ]
    ]
  ]
]

-- ---- where it writes

pub returns-in-Ok-clause-within : goal.returns-in-Ok-clause-within
returns-in-Ok-clause-within g c v tells is =
    opened_within v c.in-Ok.store.manifest.version (g.W.Disk.world c.args.out.now) (g.W.Disk.world c.open_or_say.new.out) (g.W.Disk.world c.serve_store.new.out) is (c.in-Ok.ensures.version tells) c.in-Ok.ensures.still c.serve_store.ensures.within

pub returns-in-Err-clause-within : goal.returns-in-Err-clause-within
returns-in-Err-clause-within g c v tells is = c.in-Err.ensures.unwritten (page_bytes * v.pages)
