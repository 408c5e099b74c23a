use Rattle.std.proofs.Common.{◌≡◌, ◌∷◌, [], ◌++◌, subst}
use Rattle.fst_run.specs.Answering.{EndsBy, IsAnswered}
use Rattle.fst_run.proofs.Dialogue.{after_with, asked_held, ends_cause, line_read}
use Rattle.line_model.specs.Requests.{Request}
use Rattle.lines_in.proofs.EndCauses.{line_say}
use Rattle.lines_in.proofs.Footprint.{within_say}
use Rattle.map_model.specs.SortedMap.{Map}
use Rattle.map_run_model.specs.MapLines.{map_request_of}
use Rattle.map_run_model.specs.Serving.{HasAnswered, HasEnded, IsOnlyRead}
use Rattle.fst_run.proofs.map_lines.MapLinesLineReader.read_line.Goals as goal

pub returns-clause-read : goal.returns-clause-read
returns-clause-read g c start first lines whole tells output held read =
    let f = g.W.Disk.world first in
    let a = g.W.Disk.world c.args.out.now in
    let b = g.W.Disk.world c.answer.new.out in
    let r = c.answer.result in
    let asked = asked_held whole c.args.line.now held in
    let answered = subst (λ (q : Request). IsAnswered start q r a b) asked (subst (λ (m : Map). IsAnswered m (map_request_of c.args.line.now) r a b) read.0 (c.answer.ensures.answered output)) in
    let ends = subst (λ (q : Request). EndsBy q r a b) asked c.answer.ensures.ends in
    after_with r (HasAnswered start (lines ++ whole ∷ []) f b × IsOnlyRead f b) ((c.args.self.now.map ≡ start) × HasAnswered start (lines ++ whole ∷ []) f b × IsOnlyRead f b)
    (λ end. HasEnded start end lines whole f b × IsOnlyRead f b) (λ more. (read.0, more.0, more.1))
    (line_read start lines whole f a b read.1 read.2 (g.met.W.Outside.said_now c.args.out.now) r answered ends c.answer.ensures.moves)

pub returns-clause-cause : goal.returns-clause-cause
returns-clause-cause g c =
    ends_cause (map_request_of c.args.line.now) c.answer.result (g.W.Disk.world c.args.out.now) (g.W.Disk.world c.answer.new.out) c.answer.ensures.ends

pub returns-clause-moves : goal.returns-clause-moves
returns-clause-moves g c = line_say (g.W.Disk.world c.args.out.now) (g.W.Disk.world c.answer.new.out) c.answer.ensures.moves

pub returns-clause-within : goal.returns-clause-within
returns-clause-within g c = within_say 0 (g.W.Disk.world c.args.out.now) (g.W.Disk.world c.answer.new.out) c.answer.ensures.moves
