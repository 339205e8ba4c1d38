use Rattle.std.proofs.Common.{rules, Contains}
use Rattle.std.proofs.lemmas.List.Elements.{All-push, All-same}
use Rattle.vrp_linear_program.specs.declared.program.UsedColumn.{UsedColumn}
use Rattle.vrp_linear_program.proofs.names.used.Goals as goal

pub loop-column-preserved-in_ok-push : goal.loop-column-preserved-in_ok-push
loop-column-preserved-in_ok-push c =
    let known : UsedColumn → Type 0 = λ column. Contains c.args.matrix.now.names.items column.name in
    let found : Contains c.args.matrix.now.names.items c.in-Some-name_of.name = search rules in
    All-same known c.push.new.self.items _ c.in_ok-push.ensures.items (All-push known c.loop-column.used.items _ c.loop-column.invariant found)
