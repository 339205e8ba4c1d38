use Rattle.std.proofs.Common.{◌≡◌, ap, inl, refl, arith}
use Rattle.vrp_model.specs.Word.{word_cost, word_of}
use Rattle.vrp_model.proofs.PlanWords.{cost_of_word}
use Rattle.vrp_search_tree.proofs.piece_search.found.LastOffer.offer_complete.Goals as goal

pub returns-in_ok-offer-clause-kept : goal.returns-in_ok-offer-clause-kept
returns-in_ok-offer-clause-kept g c =
    let p = c.args.partial.now.problem in
    let word : word_cost p (word_of c.in_ok-plan.plan.routes) ≡ word_cost p c.args.partial.now.word = ap (word_cost p) c.in_ok-plan.ensures.word in
    inl (record {
      lawful = c.complete.ensures.0 c.if-complete.true;
      plan = c.in_ok-plan.plan;
      is = refl;
      found_at = record {
        plan_of = c.in_ok-plan.ensures.lawful;
        is_word = c.in_ok-plan.ensures.word;
        priced = omega (arith, cost_of_word p c.in_ok-plan.plan.routes, word, c.in_ok-plan.ensures.lawful.priced);
      };
      cheaper = omega (arith, c.if-cost-self.true, c.cost.ensures.value, c.args.self.now.priced, cost_of_word p c.in_ok-plan.plan.routes, word, c.in_ok-plan.ensures.lawful.priced);
      below = c.in_ok-offer.ensures.taken;
    })
