use Rattle.std.proofs.Common.{◌≡◌, Vec, ℕ, Global, List, map, sym, ap, subst, ◌∙◌}
use Rattle.vrp_canonical.specs.Ordering.{stops_of}
use Rattle.vrp_canonical.specs.Reaching.{IsTask, plan_at, routes_at}
use Rattle.vrp_canonical.proofs.CanonicalPlans.{GivesCanonical, canonical_by_word, told}
use Rattle.vrp_model.specs.Order.{IsCanonical}
use Rattle.vrp_model.specs.Word.{IsLawfulWord, word_of}
use Rattle.vrp_partition.specs.declared.route.Route.{Route}
use Rattle.vrp_routes.proofs.CanonicalPlanRoutes.{canonical_has_word}
use Rattle.vrp_canonical.proofs.canonical.plan_among.Goals as goal

pub of_word-requires : goal.of_word-requires
of_word-requires g c =
    let p = c.args.instance.now in
    let stops = map stops_of c.args.ordered.now in
    let places = c.in-Some.places in
    let task : IsTask p c.args.whole.now.most stops c.as_slice.result.now c.args.whole.now = subst (λ (pool : List Route). IsTask p c.args.whole.now.most stops pool c.args.whole.now) (sym (c.as_slice.ensures.value ∙ c.in_ok-routes.ensures)) c.requires in
    let canonical : IsCanonical p (plan_at stops places.items c.args.whole.now.most) = told c.in_ok-places.field-0 places (λ (v : Vec ℕ Global). GivesCanonical c.as_slice.result.now c.args.whole.now v.items) c.in-Some.is c.in_ok-places.ensures.canonical p c.args.whole.now.most stops task in
    let is : c.as_slice-3.result.now ≡ word_of (routes_at stops places.items) = c.as_slice-3.ensures.value ∙ c.in_ok-word.ensures ∙ ap (λ (xs : List ℕ). word_of (routes_at stops xs)) c.as_slice-2.ensures.value in
    subst (IsLawfulWord p) (sym is) (canonical_has_word p (plan_at stops places.items c.args.whole.now.most) canonical)

pub returns : goal.returns
returns g c =
    let p = c.args.instance.now in
    let stops = map stops_of c.args.ordered.now in
    let places = c.in-Some.places in
    let task : IsTask p c.args.whole.now.most stops c.as_slice.result.now c.args.whole.now = subst (λ (pool : List Route). IsTask p c.args.whole.now.most stops pool c.args.whole.now) (sym (c.as_slice.ensures.value ∙ c.in_ok-routes.ensures)) c.requires in
    let canonical : IsCanonical p (plan_at stops places.items c.args.whole.now.most) = told c.in_ok-places.field-0 places (λ (v : Vec ℕ Global). GivesCanonical c.as_slice.result.now c.args.whole.now v.items) c.in-Some.is c.in_ok-places.ensures.canonical p c.args.whole.now.most stops task in
    let is : c.as_slice-3.result.now ≡ word_of (routes_at stops places.items) = c.as_slice-3.ensures.value ∙ c.in_ok-word.ensures ∙ ap (λ (xs : List ℕ). word_of (routes_at stops xs)) c.as_slice-2.ensures.value in
    canonical_by_word p (plan_at stops places.items c.args.whole.now.most) c.in_ok-plan.plan canonical c.in_ok-plan.ensures.lawful (c.in_ok-plan.ensures.word ∙ is)
