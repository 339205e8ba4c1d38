use Rattle.std.proofs.Common.{◌≡◌, ◌∙◌, ℕ, ◌+◌, ◌-◌, ◌*◌, ◌<◌, ◌≤◌, true, List, length, length-append, length-drop, ap, sym, arith}
use Rattle.std.proofs.lemmas.Grind.{common_steps}
use Rattle.std.proofs.lemmas.Int.{ints}
use Rattle.std.specs.Prelude.{map, drop, take}
use Rattle.std.proofs.lemmas.List.{length-map, length-take-le}
use Rattle.vrp_model.specs.Problem.{Problem}
use Rattle.vrp_search_tree.specs.declared.cutting.TheConstants.{MAX_REFINED}
use Rattle.vrp_search_tree.specs.Cutting.{IsCutting, IsRefined, NumberedWord}
use Rattle.vrp_search_tree.specs.Inner.Pass.{AreAdded}
use Rattle.vrp_search_tree.proofs.PieceRefined.{piece_prefix, piece_refined, piece_refined_few}
use Rattle.vrp_search_tree.proofs.cutting.Cutting.refine.Goals as goal

-- a cutting has as many prefixes as pieces
as_many : (old : List (List ℕ)) (pieces : List NumberedWord) → map (λ x. x.word) pieces ≡ old → length old ≡ length pieces
as_many old pieces are = ap length (sym are) ∙ length-map pieces (λ x. x.word)

-- there are as many copies as pieces before the one at an index
copies_before : (i : ℕ) (old before : List (List ℕ)) (pieces : List NumberedWord) → map (λ x. x.word) pieces ≡ old → i < length old → before ≡ map (λ x. x.word) (take i pieces) → length before ≡ i
copies_before i old before pieces are lt first = ap length first ∙ length-map (take i pieces) (λ x. x.word) ∙ length-take-le i pieces (omega (arith, lt, as_many old pieces are))

-- there is room for the copies of the pieces behind it
room_behind : (p : Problem) (i : ℕ) (prefix : List ℕ) (old before more : List (List ℕ)) (pieces : List NumberedWord) → map (λ x. x.word) pieces ≡ old → i < length old → length old ≤ MAX_REFINED
    → before ≡ map (λ x. x.word) (take i pieces) → AreAdded p prefix before more → length more + length (take (length pieces - (i + 1)) (drop (i + 1) pieces)) ≤ 2 * MAX_REFINED
room_behind p i prefix old before more pieces are lt small first added =
    let many = as_many old pieces are in
    let start = copies_before i old before pieces are lt first in
    let middle : length more ≡ length before + length added.children = ap length added.behind ∙ length-append before added.children in
    let end : length (take (length pieces - (i + 1)) (drop (i + 1) pieces)) ≡ length pieces - (i + 1) = length-take-le (length pieces - (i + 1)) (drop (i + 1) pieces) (omega (arith, length-drop (i + 1) pieces)) in
    let few = added.few in
    omega (arith, many, start, middle, end, few, lt, small)

pub push_children-requires-clause-prefix : goal.push_children-requires-clause-prefix
push_children-requires-clause-prefix c =
    rw c.word.ensures (piece_prefix c.args.instance.now c.args.piece c.args.self.now c.pieces-pieces.result.now c.index-pieces-at.result c.requires.cutting c.pieces-pieces.ensures.words c.requires.piece c.index-pieces-at.is)

replaced : (c : goal.After-drop-self) → IsRefined c.args.instance.now c.args.piece c.args.self.now true c.push_copies-2.new.self × IsCutting c.args.instance.now c.push_copies-2.new.self
replaced c =
    piece_refined c.args.instance.now c.args.piece c.args.self.now c.push_copies.new.self c.push_children.new.self c.push_copies-2.new.self c.pieces-pieces.result.now c.index-pieces-at.result
    c.requires.cutting c.pieces-pieces.ensures.words c.requires.piece c.index-pieces-at.is
    (rw c.none-next.ensures at c.in_ok-push_copies.ensures)
    (rw c.word.ensures at c.in_ok-push_children.ensures.children)
    (c.in_ok-push_children.ensures.some.0 c.if-not-branch.false)
    c.in_ok-push_copies-2.ensures

pub returns-clause-refined : goal.returns-clause-refined
returns-clause-refined c = (replaced c).0

pub returns-clause-cutting : goal.returns-clause-cutting
returns-clause-cutting c = (replaced c).1

pub returns-clause-few : goal.returns-clause-few
returns-clause-few c =
    piece_refined_few c.args.instance.now c.args.piece c.word.result.now c.args.self.now c.push_copies.new.self c.push_children.new.self c.push_copies-2.new.self c.pieces-pieces.result.now
    c.pieces-pieces.ensures.words c.requires.piece (rw c.none-next.ensures at c.in_ok-push_copies.ensures) c.in_ok-push_children.ensures.children c.in_ok-push_copies-2.ensures

pub slice_bounds-push_copies-end : goal.slice_bounds-push_copies-end
slice_bounds-push_copies-end c =
    let within : c.args.piece ≤ length c.pieces-pieces.result.now = omega (arith, c.requires.piece, c.requires.few, as_many c.args.self.now c.pieces-pieces.result.now c.pieces-pieces.ensures.words) in
    omega (arith, within, length-take-le c.args.piece c.pieces-pieces.result.now within)

pub bounds-pieces-at : goal.bounds-pieces-at
bounds-pieces-at c = omega (arith, c.requires.piece, c.requires.few, as_many c.args.self.now c.pieces-pieces.result.now c.pieces-pieces.ensures.words)

pub overflow_add-at : goal.overflow_add-at
overflow_add-at c = omega (arith, c.requires.piece, c.requires.few, as_many c.args.self.now c.pieces-pieces.result.now c.pieces-pieces.ensures.words)

pub slice_bounds-push_copies-start : goal.slice_bounds-push_copies-start
slice_bounds-push_copies-start c = omega (arith, c.requires.piece, c.requires.few, as_many c.args.self.now c.pieces-pieces.result.now c.pieces-pieces.ensures.words)

pub push_copies-requires : goal.push_copies-requires
push_copies-requires c =
    let many = as_many c.args.self.now c.pieces-pieces.result.now c.pieces-pieces.ensures.words in
    omega (arith, ap length c.none-next.ensures, length-take-le c.args.piece c.pieces-pieces.result.now (omega (arith, many, c.requires.piece)), c.requires.piece, c.requires.few)

pub push_children-requires-clause-room : goal.push_children-requires-clause-room
push_children-requires-clause-room c =
    omega (arith, copies_before c.args.piece c.args.self.now c.push_copies.new.self c.pieces-pieces.result.now c.pieces-pieces.ensures.words c.requires.piece (rw c.none-next.ensures at c.in_ok-push_copies.ensures), c.requires.piece, c.requires.few)

pub push_copies-requires-2 : goal.push_copies-requires-2
push_copies-requires-2 c =
    room_behind c.args.instance.now c.args.piece c.word.result.now c.args.self.now c.push_copies.new.self c.push_children.new.self c.pieces-pieces.result.now
    c.pieces-pieces.ensures.words c.requires.piece c.requires.few (rw c.none-next.ensures at c.in_ok-push_copies.ensures) c.in_ok-push_children.ensures.children

pub returns-in_err-push_copies-clause-cutting : goal.returns-in_err-push_copies-clause-cutting
returns-in_err-push_copies-clause-cutting c = c.requires.cutting

pub returns-in_err-push_copies-clause-few : goal.returns-in_err-push_copies-clause-few
returns-in_err-push_copies-clause-few c = omega arith

pub returns-in_err-push_children-clause-cutting : goal.returns-in_err-push_children-clause-cutting
returns-in_err-push_children-clause-cutting c = c.requires.cutting

pub returns-in_err-push_children-clause-few : goal.returns-in_err-push_children-clause-few
returns-in_err-push_children-clause-few c = omega arith

pub returns-then-not-branch-clause-cutting : goal.returns-then-not-branch-clause-cutting
returns-then-not-branch-clause-cutting c = c.requires.cutting

pub returns-then-not-branch-clause-few : goal.returns-then-not-branch-clause-few
returns-then-not-branch-clause-few c = omega arith

pub returns-in_err-push_copies-2-clause-cutting : goal.returns-in_err-push_copies-2-clause-cutting
returns-in_err-push_copies-2-clause-cutting c = c.requires.cutting

pub returns-in_err-push_copies-2-clause-few : goal.returns-in_err-push_copies-2-clause-few
returns-in_err-push_copies-2-clause-few c = omega arith

pub returns-then-not-branch-clause-err : goal.returns-then-not-branch-clause-err
returns-then-not-branch-clause-err c = tt

pub returns-clause-err : goal.returns-clause-err
returns-clause-err c = tt

pub returns-then-not-branch-clause-refined : goal.returns-then-not-branch-clause-refined
returns-then-not-branch-clause-refined c = grind (ints, arith, common_steps)

pub slice_bounds-push_copies-count : goal.slice_bounds-push_copies-count
slice_bounds-push_copies-count c = grind (ints, arith, common_steps)
