use Rattle.std.proofs.Common.{inl, inr, refl, sym, subst, arith}
use Rattle.vrp_model.specs.Word.{NoneCheaperUnder}
use Rattle.vrp_answer.specs.Answer.{IsOwnLow}
use Rattle.vrp_answer.specs.Gatherer.{AnswersAdd}
use Rattle.std.specs.Prelude.{Some}
use Rattle.vrp_answer.specs.Inner.Conclusion.{IsLowFor, IsSettled}
use Rattle.vrp_answer.proofs.open_pieces.OpenPieces.settle.Goals as goal
use Rattle.vrp_answer.proofs.open_pieces.OpenPieces.settle.Goals.{then-asks_for_own_low+in_ok-low, else-asks_for_own_low, then-self-low, else-self-low}

pub returns : goal.returns
returns g c =
    let s = c.args.shared.now in
    let old = c.args.self.now in
    let left = c.args.left.now in
    let prefix = left.piece.word in
    let low = c.if-asks_for_own_low.low in
    let is_low : IsLowFor s old.low left low = elim c.if-asks_for_own_low.branch [
      | then-asks_for_own_low+in_ok-low w ↦
          inr (subst (λ n. IsOwnLow s.problem prefix (Some n)) (sym w.low-is) w.in_ok-low.ensures.low, subst (NoneCheaperUnder s.problem prefix) (sym w.low-is) w.in_ok-low.ensures.none_cheaper)
      | else-asks_for_own_low w ↦ inl (w.low-is, omega (arith, w.low-is, c.asks_for_own_low.ensures w.if-asks_for_own_low.false))
    ] in
    elim c.if-self-low.branch [
      | then-self-low w ↦ subst (IsSettled s old left) (sym w.self-is) (record {
        cost = refl;
        low = low;
        is_low = is_low;
        step = inl (w.if-self-low.true, (w.add.result, subst (λ n. AnswersAdd old.gatherer n w.add.result w.add.new.self) w.number.ensures w.add.ensures), refl);
      })
      | else-self-low w ↦ subst (IsSettled s old left) (sym w.self-is) (record {
        cost = refl;
        low = low;
        is_low = is_low;
        step = inr (omega (arith, w.if-self-low.false), refl, w.min-self.ensures);
      })
    ]
