use Rattle.std.proofs.Common.{◌≡◌, sym, subst, arith}
use Rattle.std.proofs.lemmas.Grind.{common_steps}
use Rattle.std.proofs.lemmas.Int.{ints}
use Rattle.std.specs.List.{All}
use Rattle.std.proofs.lemmas.List.Elements.{All-tail}
use Rattle.std.proofs.lemmas.List.Sorted.{All-permutation}
use Rattle.vrp_model.specs.Problem.{IsProblem}
use Rattle.vrp_answer.specs.Inner.Conclusion.{AreOpenPieces}
use Rattle.vrp_answer.specs.Outcomes.{IsOpenPiece, Search}
use Rattle.vrp_answer.specs.declared.open_pieces.OpenPieces.{OpenPieces}
use Rattle.vrp_answer.specs.declared.outcome.OpenPiece.{OpenPiece}
use Rattle.vrp_answer.proofs.SettledPieces.{one_settled, open_pieces_permuted}
use Rattle.vrp_answer.proofs.open_pieces.settle_pieces.Goals as goal

pub loop-one-init : goal.loop-one-init
loop-one-init g c =
    let s = c.args.shared.now in
    let left = c.args.left.items in
    let sorted = c.sort_unstable_by_key.new.self.items in
    let opening : OpenPieces = record { gatherer = c.args.gatherer; cost = c.args.cost; low = c.args.cost } in
    let rests : c.into_iter-one-iterator.result.rest.items ≡ sorted = c.into_iter-one-iterator.ensures.into_iter_gives.0 in
    record {
      pieces = subst (All (λ (l : OpenPiece). IsOpenPiece s l.piece l)) (sym rests) (All-permutation (λ (l : OpenPiece). IsOpenPiece s l.piece l) left sorted c.sort_unstable_by_key.ensures.permutation c.requires);
      all = λ cutting best known. subst (AreOpenPieces s cutting best opening) (sym rests) (open_pieces_permuted s cutting best opening left sorted c.sort_unstable_by_key.ensures.permutation known);
    }

pub settle-requires : goal.settle-requires
settle-requires g c =
    let s = c.args.shared.now in
    let pieces = subst (All (λ (l : OpenPiece). IsOpenPiece s l.piece l)) c.in-Some.ensures.steps.0 c.loop-one.invariant.pieces in
    pieces 0 c.in-Some.one (omega arith)

pub loop-one-preserved : goal.loop-one-preserved
loop-one-preserved g c =
    let s = c.args.shared.now in
    let one = c.in-Some.one in
    let rest = c.next.new.self.rest.items in
    let problem = subst (λ (t : Search). IsProblem t.problem) c.shared.view_is c.customers-customers.ensures.problem in
    record {
      pieces = All-tail (λ (l : OpenPiece). IsOpenPiece s l.piece l) one rest (subst (All (λ (l : OpenPiece). IsOpenPiece s l.piece l)) c.in-Some.ensures.steps.0 c.loop-one.invariant.pieces);
      all = λ cutting best known. one_settled c.one_low.ensures c.own_low_no_lower.ensures s cutting best c.loop-one.open_pieces c.settle.new.self one rest problem c.in_ok-is_open.ensures
          (subst (AreOpenPieces s cutting best c.loop-one.open_pieces) c.in-Some.ensures.steps.0 (c.loop-one.invariant.all cutting best known));
    }

pub returns : goal.returns
returns g c = grind (ints, arith, common_steps)
