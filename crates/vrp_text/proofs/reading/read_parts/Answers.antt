use Rattle.std.proofs.Common.{◌≡◌, ◌+◌, None, sym, ap, ◌∙◌}
use Rattle.vrp_text.specs.Inner.MarkedKeys.{is_marked}
use Rattle.vrp_text.specs.Line.{tokens_of}
use Rattle.vrp_text.specs.Inner.StatedSoFar.{fault_of_part}
use Rattle.vrp_text.specs.Inner.LinesLeft.{parts_left, data_left}
use Rattle.vrp_text.proofs.ReadingLemmas.{one_part_more}
use Rattle.vrp_text.proofs.reading.read_parts.Goals as goal

pub loop-heading-preserved : goal.loop-heading-preserved
loop-heading-preserved c =
    let heading = c.in-Some.heading in
    let next = c.next_heading.new.self in
    let behind = tokens_of heading.behind.now in
    let good : fault_of_part c.args.explicit (is_marked c.loop-heading.keys) heading.number heading.keyword behind (heading.number + 1) (data_left next) ≡ None =
    ap (λ number. fault_of_part c.args.explicit (is_marked c.loop-heading.keys) heading.number heading.keyword behind number (data_left next)) (sym c.in-Some.ensures.value.0) ∙ c.in_ok-read_part.ensures.sound in
    rw c.in_ok-read_part.ensures.passed
    (one_part_more c.args.explicit (parts_left c.args.lines.now) c.loop-heading.keys c.loop-heading.statements (parts_left c.loop-heading.lines) heading.number heading.keyword behind (data_left next) (parts_left next)
    c.read_part.new.keys c.read_part.new.statements c.loop-heading.invariant c.in-Some.ensures.value.1 good c.in_ok-read_part.ensures.marked c.in_ok-read_part.ensures.read)
