use Rattle.std.proofs.Common.{◌≡◌, ◌∙◌, sym, subst}
use Rattle.std.proofs.lemmas.Bool.{eqb-true}
use Rattle.disk_trait.specs.Image.{Image}
use Rattle.manifest.specs.Loading.{IsVersionAt}
use Rattle.manifest.specs.Manifest.{place_of}
use Rattle.manifest.proofs.Loads.{found_in}
use Rattle.manifest.proofs.loading.read_slot.Goals as goal

pub returns-clause-answer : goal.returns-clause-answer
returns-clause-answer g c tells =
    let place = place_of c.args.slot in
    let held = (g.D.Disk.world c.args.disk.now).seen.held in
    let v = c.in_ok-version.version.version in
    let opened : held place ≡ 1 = eqb-true (held place) 1 (sym (c.in_ok-is_open.ensures.gate tells) ∙ c.if-not-branch.false) in
    found_in place v held opened (subst (λ (f : Image). IsVersionAt place v f) c.in_ok-is_open.ensures.moves.held (c.in_ok-version.ensures.held tells))
