use Rattle.std.proofs.Common.{rules}
use Rattle.std.proofs.lemmas.Fn.{always_returns_same}
use Rattle.vrp_labels.proofs.SortedPiles.{key_of, pile_sorted}
use Rattle.vrp_labels.proofs.piles.LabelPiles.sort_by_band.Goals as goal

pub returns : goal.returns
returns c = pile_sorted c.args.shift c.self.inside.piles.items c.args.self.now c.args.at c.index_mut.result.now c.sort_unstable_by_key.new.self c.self.view_is c.requires.at c.index_mut.ensures.value c.sort_unstable_by_key.ensures.permutation
    (c.sort_unstable_by_key.ensures.sorted (key_of c.args.shift) (always_returns_same _ _ _ (λ a r g called. (search rules, search rules))))
