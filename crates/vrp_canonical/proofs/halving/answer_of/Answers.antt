use Rattle.std.proofs.Common.{subst}
use Rattle.std.proofs.lemmas.List.Elements.{All-contains}
use Rattle.vrp_canonical.specs.Asking.{Answers, IsRight}
use Rattle.vrp_canonical.proofs.halving.answer_of.Goals as goal

pub returns-in_ok-know : goal.returns-in_ok-know
returns-in_ok-know g c =
    let answered = c.in-Some.answered.now in
    subst (λ q. Answers c.args.pool.now q answered.yes) c.in-Some.ensures.question (All-contains (IsRight c.args.pool.now) c.args.answers.now answered c.requires.right c.in-Some.ensures.among)

pub returns-else-yes : goal.returns-else-yes
returns-else-yes g c =
    let answered = c.in-Some.answered.now in
    subst (λ q. Answers c.args.pool.now q answered.yes) c.in-Some.ensures.question (All-contains (IsRight c.args.pool.now) c.args.answers.now answered c.requires.right c.in-Some.ensures.among)
