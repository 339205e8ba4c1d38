use Rattle.std.proofs.Common.{◌≡◌, [], length}
use Rattle.std.specs.Prelude.{Vec}
use Rattle.std.specs.Global.{Global}
use Rattle.std.specs.List.{All}
use Rattle.vrp_labels.specs.declared.label.Label.{Label}
use Rattle.vrp_labels.proofs.piles.LabelPiles.new.Given as goal

abbrev pub invariant-loop : goal.invariant-loop
invariant-loop l = record {
  long : length l.piles.items ≡ l.counter;
  none : All (λ (v : Vec Label Global). v.items ≡ []) l.piles.items;
}
