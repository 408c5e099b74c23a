use Rattle.std.proofs.Common.{◌≡◌, ◌≤◌, ◌+◌, ◌-◌, drop, fold, length, map}
use Rattle.std.specs.Prelude.{vec_capacity, vec_len}
use Rattle.store_core.specs.Install.{put_in}
use Rattle.store_core.proofs.install.put_among.Given as goal

-- the rest is put in among those so far, and there is room for it
abbrev pub invariant-loop-new : goal.invariant-loop-new
invariant-loop-new g l = record {
  all : fold put_in (map (λ t. t.now) l.others.items) (drop l.new-index l.made) ≡ fold put_in (map (λ t. t.now) l.fn.others.items) l.made;
  room : vec_len l.others + (length l.made - l.new-index) ≤ vec_capacity l.others;
}
