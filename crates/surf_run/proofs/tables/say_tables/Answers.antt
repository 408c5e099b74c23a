use Rattle.std.proofs.Common.{◌≡◌, ◌++◌, inl, inr, refl, ap₂, subst, flat_map}
use Rattle.line_model.specs.Replies.{Memory, text_of}
use Rattle.map_model.specs.SortedMap.{Bytes}
use Rattle.outside.specs.Streams.{SaysPrefix}
use Rattle.surf_run.specs.Readings.{IsTablesText, tables_text, text_of_numbers, text_of_opened}
use Rattle.lines_in.proofs.LastLines.{last_line}
use Rattle.surf_run.proofs.Readings.{numbers_text, texts_agree}
use Rattle.surf_run.proofs.tables.say_tables.Goals as goal

pub returns-in-Ok-clause-lines : goal.returns-in-Ok-clause-lines
returns-in-Ok-clause-lines g c s image output reads none_kept log =
    let old = g.W.Disk.world c.args.out.now in
    let new = g.W.Disk.world c.say_lines.new.out in
    let text : flat_map text_of_opened c.args.store.now.tables ++ text_of_numbers c.in-Ok.has ≡ tables_text s =
    ap₂ (λ (a b : Bytes). a ++ b) (texts_agree c.standing_tables_are_read.ensures.keys g.F.RangeFilter.spelling c.args.store.now.tables s.tables image reads.under.tables) (numbers_text s c.in-Ok.has (c.in-Ok.ensures.of s image reads none_kept log)) in
    last_line (IsTablesText s) old old new refl c.say_lines.result 0 (tables_text s) (inl (refl, refl))
    (λ zero. subst (λ (t : Bytes). new.beside.said ≡ old.beside.said ++ t) text (c.say_lines.ensures.said output zero))
    (subst (λ (t : Bytes). SaysPrefix t old.beside.said new.beside.said) text (c.say_lines.ensures.prefix output)) c.say_lines.ensures.ends

pub returns-in-Err-clause-lines : goal.returns-in-Err-clause-lines
returns-in-Err-clause-lines g c s image output reads none_kept log =
    let old = g.W.Disk.world c.args.out.now in
    last_line (IsTablesText s) old old (g.W.Disk.world c.last_line.new.out) refl c.last_line.result 7 (text_of Memory) (inr (inr (refl, refl)))
    (c.last_line.ensures.said output tt) (c.last_line.ensures.prefix output) c.last_line.ensures.ends
