use Rattle.std.proofs.Common.{◌≡◌, ◌++◌, drop, map, take}
use Rattle.store_core.specs.Install.{put_in}
use Rattle.store_core.proofs.install.place_among.Given as goal

-- it goes before none of those so far
abbrev pub invariant-loop-place : goal.invariant-loop-place
invariant-loop-place g l = take l.place (map (λ t. t.now) l.others) ++ put_in (drop l.place (map (λ t. t.now) l.others)) l.new ≡ put_in (map (λ t. t.now) l.others) l.new
