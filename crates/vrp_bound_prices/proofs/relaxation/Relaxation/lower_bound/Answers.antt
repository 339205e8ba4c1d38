use Rattle.std.proofs.Common.{ℕ, ◌+◌, ◌*◌, ◌≤◌, Option, MatchOption, subst, sym}
use Rattle.std.specs.Bool.{⊤}
use Rattle.vrp_model.specs.Problem.{IsProblem, customers}
use Rattle.vrp_model.specs.Word.{IsLawfulWord, word_cost}
use Rattle.vrp_bound.specs.NgWalks.{AreLeastNgTours, NoNgTours}
use Rattle.vrp_bound.specs.Tables.{AreMadeWithin}
use Rattle.vrp_bound_prices.specs.Relaxation.{RelaxationOf, relaxation_of}
use Rattle.vrp_bound_prices.proofs.relaxation.Relaxation.lower_bound.Goals as goal

pub returns-in-Some : goal.returns-in-Some
returns-in-Some c =
    let r = c.args.self.now in
    let near = c.args.ng_sets.now in
    let q = c.self.inside.relaxed in
    let least : AreLeastNgTours q near c.in-Some.least =
    subst (λ (o : Option ℕ). MatchOption o (AreMadeWithin c.args.most_steps q (customers q) → NoNgTours q near) (AreLeastNgTours q near)) c.in-Some.is c.in_ok-least.ensures.least in
    let kept = relaxation_of c.self.inside.problem.now q c.self.inside.scale c.self.inside.charges c.self.inside.rewards in
    let problem : IsProblem q = subst (λ (o : Option ℕ). MatchOption o ⊤ (λ _. IsProblem q)) c.in-Some.is c.in_ok-least.ensures.problem in
    record {
      bound = λ word lawful begins. c.lower_bound_by.ensures.low (word_cost r.problem word)
          (subst (λ (s : RelaxationOf). c.in-Some.least + s.rewards ≤ s.scale * word_cost s.problem word + s.charges) c.self.view_is
          (c.tours_bound.ensures kept near word c.in-Some.least c.self.invariant.bounds problem (subst (λ (s : RelaxationOf). IsLawfulWord s.problem word) (sym c.self.view_is) lawful) least));
    }
