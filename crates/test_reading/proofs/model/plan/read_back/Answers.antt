use Rattle.std.proofs.Common.{sym, subst}
use Rattle.std.specs.Prelude.{IfSome}
use Rattle.vrp_model.specs.Word.{IsLawfulWord, word_of}
use Rattle.test_reading.proofs.model.plan.read_back.Goals as goal

pub of_word-requires : goal.of_word-requires
of_word-requires g c =
    let p = c.args.instance.now in
    subst (IsLawfulWord p) (sym c.word.ensures.value) (subst (λ found. IfSome found (λ plan. IsLawfulWord p (word_of plan.routes))) c.expect-singles.ensures c.in_ok-singles.ensures.word)
