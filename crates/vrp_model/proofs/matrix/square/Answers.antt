use Rattle.std.proofs.Common.{◌≡◌, ◌+◌, ◌-◌, ◌*◌, length, take, drop, ◌++◌, arith, rules}
use Rattle.std.proofs.lemmas.Grind.{common_steps}
use Rattle.vrp_model.proofs.FilledSquare.{IsFilled-start, HasEntries-from_filled}
use Rattle.vrp_model.proofs.matrix.square.Goals as goal

pub loop-line-init : goal.loop-line-init
loop-line-init c = record {
  len = search rules;
  filled = IsFilled-start c.args.layout c.args.nodes c.args.entries.now c.in_ok-square.square.items (c.from-side.result * c.from-side.result) (search rules);
}

pub loop-line-preserved : goal.loop-line-preserved
loop-line-preserved c =
    let line : c.loop-line.line + 1 - 1 ≡ c.loop-line.line = omega arith in
    let whole : take c.loop-line.square.len (c.fill_line-next.new.square ++ drop (length c.fill_line-next.new.square) c.loop-line.square.items) ≡ c.fill_line-next.new.square = grind (arith, common_steps) in
    record { len = omega arith; filled = rw (whole, line) c.fill_line-next.ensures }

pub returns-clause-entries : goal.returns-clause-entries
returns-clause-entries c =
    let all : c.loop-line.line - 1 ≡ c.args.nodes = omega arith in
    HasEntries-from_filled c.args.layout c.args.nodes c.args.entries.now c.loop-line.square.items c.loop-line.next (rw all at c.loop-line.invariant.filled)
