use Rattle.vrp_text.specs.Inner.LinesLeft.{data_left}
use Rattle.vrp_text.specs.Line.{tokens_of}
use Rattle.vrp_text.proofs.SectionLemmas.{one_line_more, data_within, lines_end}
use Rattle.vrp_text.proofs.section.read_numbers.Goals as goal

pub loop-line-preserved : goal.loop-line-preserved
loop-line-preserved c =
    one_line_more c.args.section c.args.lines.now c.loop-line.lines c.next_data.new.self (tokens_of c.in-Some.line.text.now) c.loop-line.numbers.items c.read_line.new.numbers.items
    c.loop-line.invariant c.in-Some.ensures.2 c.in-Some.ensures.1 c.in_ok-read_line.ensures.sound c.in_ok-read_line.ensures.read

pub returns-clause-within : goal.returns-clause-within
returns-clause-within c =
    let end = lines_end c.args.section c.args.lines.now c.loop-line.lines c.loop-line.numbers.items c.loop-line.invariant c.in_default.ensures.0 in
    rw end.1 (data_within c.args.section c.args.lines.now.number 0 (data_left c.args.lines.now) end.0)
