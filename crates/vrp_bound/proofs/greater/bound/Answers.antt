use Rattle.std.proofs.Common.{◌≡◌, ◌∙◌, ◌<◌, ◌≤◌, None, Some, ap, arith, false, refl, subst, sym, true}
use Rattle.vrp_model.specs.Problem.{Problem, place_count}
use Rattle.vrp_model.specs.Route.{load_of}
use Rattle.vrp_bound.specs.Tables.{IsBound}
use Rattle.vrp_bound.proofs.greater.bound.Goals as goal

pub returns-then-not-can_carry-clause-bound : goal.returns-then-not-can_carry-clause-bound
returns-then-not-can_carry-clause-bound c = record {
  enough = λ may. absurd (let never : false ≡ true = sym c.if-not-can_carry.true ∙ c.can_carry.ensures.1 may in cc);
  too_few = λ _. refl;
}

pub q_bound-requires-clause-place : goal.q_bound-requires-clause-place
q_bound-requires-clause-place c = subst (λ (p : Problem). c.args.at < place_count p) (sym c.requires.problem) c.requires.place

pub q_bound-requires-clause-load : goal.q_bound-requires-clause-load
q_bound-requires-clause-load c = subst (λ (p : Problem). c.args.load ≤ p.capacity) (sym c.requires.problem) c.requires.load

pub q_bound-requires-clause-rest : goal.q_bound-requires-clause-rest
q_bound-requires-clause-rest c = subst (λ (p : Problem). c.args.rest ≤ load_of p c.args.tables.now.among) (sym c.requires.problem) c.requires.rest

pub returns-in-None-clause-bound : goal.returns-in-None-clause-bound
returns-in-None-clause-bound c = record {
  enough = λ _. record {
    relaxed = None;
    is_bound = subst (λ (p : Problem). IsBound p c.args.tables.now.among c.args.at c.args.load c.args.rest None) c.requires.problem c.in-None.ensures.bound;
    capacity = c.cap_bound-capacity.result;
    is_capacity = c.cap_bound-capacity.ensures.bound;
    greater = refl;
  };
  too_few = λ _. refl;
}

pub returns-in-Some-clause-bound : goal.returns-in-Some-clause-bound
returns-in-Some-clause-bound c = record {
  enough = λ _. record {
    relaxed = Some c.in-Some.relaxed;
    is_bound = subst (λ (p : Problem). IsBound p c.args.tables.now.among c.args.at c.args.load c.args.rest (Some c.in-Some.relaxed)) c.requires.problem c.in-Some.ensures.bound;
    capacity = c.cap_bound-capacity.result;
    is_capacity = c.cap_bound-capacity.ensures.bound;
    greater = ap Some c.max.ensures;
  };
  too_few = λ none. absurd (none (c.can_carry.ensures.0 c.if-not-can_carry.false));
}

pub returns-in-Some-clause-small : goal.returns-in-Some-clause-small
returns-in-Some-clause-small c = omega (arith, c.max.ensures, c.in-Some.ensures.small, c.cap_bound-capacity.ensures.small)
