use Rattle.std.proofs.Common.{◌+◌, ◌∙◌, arith}
use Rattle.vrp_model.specs.Distance.{IsDistance}
use Rattle.vrp_model.proofs.Distances.{apart_square_fits, manhattan_of_words, maximum_of_words, square_of_words, square_between_small, IsDistance-one, IsDistance-small}
use Rattle.vrp_model.proofs.metric.Metric.distance.Goals as goal

pub overflow_add-square : goal.overflow_add-square
overflow_add-square c =
    let square = square_of_words c.args.from c.args.to _ _ c.requires.from_east c.requires.from_north c.requires.to_east c.requires.to_north c.abs_diff-east.ensures c.abs_diff-north.ensures in
    rw square (omega (arith, square_between_small c.args.from c.args.to c.requires.from_east c.requires.from_north c.requires.to_east c.requires.to_north))

pub overflow_mul-square : goal.overflow_mul-square
overflow_mul-square c =
    apart_square_fits _ c.args.from.0 c.args.to.0 c.requires.from_east c.requires.to_east c.abs_diff-east.ensures

pub overflow_mul-square-2 : goal.overflow_mul-square-2
overflow_mul-square-2 c =
    apart_square_fits _ c.args.from.1 c.args.to.1 c.requires.from_north c.requires.to_north c.abs_diff-north.ensures

is_euclidean : (c : goal.After-nearest_root) → IsDistance c.args.self c.args.from c.args.to c.nearest_root.result
is_euclidean c =
    let square = square_of_words c.args.from c.args.to _ _ c.requires.from_east c.requires.from_north c.requires.to_east c.requires.to_north c.abs_diff-east.ensures c.abs_diff-north.ensures in
    rw (c.in-Euc2d.is, ← square) c.nearest_root.ensures

is_ceiling : (c : goal.After-ceiling_root) → IsDistance c.args.self c.args.from c.args.to c.ceiling_root.result
is_ceiling c =
    let square = square_of_words c.args.from c.args.to _ _ c.requires.from_east c.requires.from_north c.requires.to_east c.requires.to_north c.abs_diff-east.ensures c.abs_diff-north.ensures in
    rw (c.in-Ceil2d.is, ← square) c.ceiling_root.ensures

is_pseudo_euclidean : (c : goal.After-pseudo_root) → IsDistance c.args.self c.args.from c.args.to c.pseudo_root.result
is_pseudo_euclidean c =
    let square = square_of_words c.args.from c.args.to _ _ c.requires.from_east c.requires.from_north c.requires.to_east c.requires.to_north c.abs_diff-east.ensures c.abs_diff-north.ensures in
    rw (c.in-Att.is, ← square) c.pseudo_root.ensures

is_manhattan : (c : goal.In-Man2d) → IsDistance c.args.self c.args.from c.args.to (c.abs_diff-east.result + c.abs_diff-north.result)
is_manhattan c =
    rw c.in-Man2d.is (manhattan_of_words c.args.from c.args.to _ _ c.requires.from_east c.requires.from_north c.requires.to_east c.requires.to_north c.abs_diff-east.ensures c.abs_diff-north.ensures)

is_maximum : (c : goal.After-max) → IsDistance c.args.self c.args.from c.args.to c.max.result
is_maximum c =
    rw c.in-Max2d.is (c.max.ensures ∙ maximum_of_words c.args.from c.args.to _ _ c.requires.from_east c.requires.from_north c.requires.to_east c.requires.to_north c.abs_diff-east.ensures c.abs_diff-north.ensures)

pub returns-in-Euc2d-clause-only : goal.returns-in-Euc2d-clause-only
returns-in-Euc2d-clause-only c = λ other h. IsDistance-one c.args.self c.args.from c.args.to other _ h (is_euclidean c)

pub returns-in-Euc2d-clause-small : goal.returns-in-Euc2d-clause-small
returns-in-Euc2d-clause-small c =
    IsDistance-small c.args.self c.args.from c.args.to _ c.requires.from_east c.requires.from_north c.requires.to_east c.requires.to_north (is_euclidean c)

pub returns-in-Ceil2d-clause-small : goal.returns-in-Ceil2d-clause-small
returns-in-Ceil2d-clause-small c =
    IsDistance-small c.args.self c.args.from c.args.to _ c.requires.from_east c.requires.from_north c.requires.to_east c.requires.to_north (is_ceiling c)

pub returns-in-Att-clause-small : goal.returns-in-Att-clause-small
returns-in-Att-clause-small c =
    IsDistance-small c.args.self c.args.from c.args.to _ c.requires.from_east c.requires.from_north c.requires.to_east c.requires.to_north (is_pseudo_euclidean c)

pub returns-in-Euc2d-clause-distance : goal.returns-in-Euc2d-clause-distance
returns-in-Euc2d-clause-distance c = is_euclidean c

pub returns-in-Ceil2d-clause-distance : goal.returns-in-Ceil2d-clause-distance
returns-in-Ceil2d-clause-distance c = is_ceiling c

pub returns-in-Ceil2d-clause-only : goal.returns-in-Ceil2d-clause-only
returns-in-Ceil2d-clause-only c = λ other h. IsDistance-one c.args.self c.args.from c.args.to other _ h (is_ceiling c)

pub returns-in-Man2d-clause-distance : goal.returns-in-Man2d-clause-distance
returns-in-Man2d-clause-distance c = is_manhattan c

pub returns-in-Man2d-clause-only : goal.returns-in-Man2d-clause-only
returns-in-Man2d-clause-only c = λ other h. IsDistance-one c.args.self c.args.from c.args.to other _ h (is_manhattan c)

pub returns-in-Man2d-clause-small : goal.returns-in-Man2d-clause-small
returns-in-Man2d-clause-small c =
    IsDistance-small c.args.self c.args.from c.args.to _ c.requires.from_east c.requires.from_north c.requires.to_east c.requires.to_north (is_manhattan c)

pub returns-in-Max2d-clause-distance : goal.returns-in-Max2d-clause-distance
returns-in-Max2d-clause-distance c = is_maximum c

pub returns-in-Max2d-clause-only : goal.returns-in-Max2d-clause-only
returns-in-Max2d-clause-only c = λ other h. IsDistance-one c.args.self c.args.from c.args.to other _ h (is_maximum c)

pub returns-in-Max2d-clause-small : goal.returns-in-Max2d-clause-small
returns-in-Max2d-clause-small c =
    IsDistance-small c.args.self c.args.from c.args.to _ c.requires.from_east c.requires.from_north c.requires.to_east c.requires.to_north (is_maximum c)

pub returns-in-Att-clause-distance : goal.returns-in-Att-clause-distance
returns-in-Att-clause-distance c = is_pseudo_euclidean c

pub returns-in-Att-clause-only : goal.returns-in-Att-clause-only
returns-in-Att-clause-only c = λ other h. IsDistance-one c.args.self c.args.from c.args.to other _ h (is_pseudo_euclidean c)

pub overflow_add-result : goal.overflow_add-result
overflow_add-result c =
    let small = IsDistance-small c.args.self c.args.from c.args.to _ c.requires.from_east c.requires.from_north c.requires.to_east c.requires.to_north (is_manhattan c) in
    omega (arith, small)
