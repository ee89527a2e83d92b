use Rattle.std.proofs.Common.{◌<◌, length, ap, ◌∙◌, rules, eqb}
use Rattle.std.specs.Io.BufRead.{strip_last}
use Rattle.commands.specs.Lines.{command_of}
use Rattle.book_lines.proofs.Reading.{command_read}
use Rattle.book_lines.proofs.lines.LinesIterator.next.Goals as goal

pub returns-in-Ok-clause-steps : goal.returns-in-Ok-clause-steps
returns-in-Ok-clause-steps g c =
    let s = c.args.self.now in
    let line = c.read_until.new.buf.items in
    let some : 0 < length line = search rules in (
      command_read (eqb s.turns 0) (g.R.Read.remaining s.input) (g.R.Read.remaining c.read_until.new.self) _ line c.parse.result c.clear.ensures.items some
          c.in-Ok.ensures.bytes c.in-Ok.ensures.rest (c.parse.ensures ∙ ap command_of (c.without_feed.ensures ∙ ap (strip_last 10) c.deref.ensures.value)),
      search rules,
    )
