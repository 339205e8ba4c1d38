use Rattle.std.proofs.Common.{◌≡◌, ◌∙◌, ◌<◌, ◌++◌, ◌∷◌, [], ℕ, List, Vec, Global, false, inl, inr, get_or, length, map, sym, ap, subst, arith}
use Rattle.std.specs.List.{Contains}
use Rattle.std.proofs.lemmas.Bool.{cases_lt, true≢false}
use Rattle.std.proofs.lemmas.List.{get_or_default}
use Rattle.std.proofs.lemmas.List.Elements.{Contains-push}
use Rattle.vrp_partition.specs.Narrowing.{route_at}
use Rattle.vrp_partition.specs.declared.route.Route.{Route}
use Rattle.vrp_partition.proofs.NarrowedRoutes.{left_out, more_at, more_contains, more_routes}
use Rattle.vrp_partition.proofs.narrowing.marked.Goals as goal
use Rattle.vrp_partition.proofs.narrowing.marked.Goals.{then-marks-at+in_ok-push+in_ok-push-2, else-marks-at}

abbrev none : Route
none = record { set = 0; cost = 0 }

pub loop-at-init : goal.loop-at-init
loop-at-init c = record {
  inside = λ i lt. absurd (omega (arith, lt, ap length c.new-kept.ensures.items));
  are = c.new-routes.ensures.items ∙ sym (ap (map (route_at c.args.pool.now)) c.new-kept.ensures.items);
  all = λ i lt. absurd (omega (arith, lt));
}

pub loop-at-preserved : goal.loop-at-preserved
loop-at-preserved c =
    let pool = c.args.pool.now in
    let place = get_or c.args.places.now c.loop-at.at 0 in
    let there : place < length pool = c.requires.inside c.loop-at.at c.loop-at-test.true in
    elim c.if-marks-at.branch [
      | then-marks-at+in_ok-push+in_ok-push-2 w ↦
          let kept : c.if-marks-at.kept.items ≡ c.loop-at.kept.items ++ place ∷ [] = ap (λ (v : Vec ℕ Global). v.items) w.kept-is ∙ w.in_ok-push.ensures.items in
          let route : w.index-pool-places.result ≡ get_or pool place none = w.index-pool-places.is ∙ get_or_default pool place w.index-pool-places.result none there in
          let routes : c.if-marks-at.routes.items ≡ c.loop-at.routes.items ++ get_or pool place none ∷ [] = ap (λ (v : Vec Route Global). v.items) w.routes-is ∙ (w.in_ok-push-2.ensures.items ∙ ap (λ (r : Route). c.loop-at.routes.items ++ r ∷ []) route) in
          record {
            inside = subst (λ (ks : List ℕ). (i : ℕ) → i < length ks → get_or ks i 0 < length pool) (sym kept) (more_at (λ i k. k < length pool) c.loop-at.kept.items place c.loop-at.invariant.inside there);
            are = routes ∙ (more_routes pool c.loop-at.routes.items c.loop-at.kept.items place none there c.loop-at.invariant.are ∙ sym (ap (map (route_at pool)) kept));
            all = λ i lt mark. subst (λ (ks : List ℕ). Contains ks (get_or c.args.places.now i 0)) (sym kept) (elim (cases_lt i c.loop-at.at) [
              | inl before ↦ more_contains c.loop-at.kept.items place (get_or c.args.places.now i 0) (c.loop-at.invariant.all i before mark)
              | inr last ↦ (let e : c.loop-at.at ≡ i = omega (arith, lt, last) in subst (λ n. Contains (c.loop-at.kept.items ++ place ∷ []) (get_or c.args.places.now n 0)) e (Contains-push c.loop-at.kept.items place))
            ]);
          }
      | else-marks-at w ↦
          let kept : c.if-marks-at.kept.items ≡ c.loop-at.kept.items = ap (λ (v : Vec ℕ Global). v.items) w.kept-is in
          let routes : c.if-marks-at.routes.items ≡ c.loop-at.routes.items = ap (λ (v : Vec Route Global). v.items) w.routes-is in
          record {
            inside = subst (λ (ks : List ℕ). (i : ℕ) → i < length ks → get_or ks i 0 < length pool) (sym kept) c.loop-at.invariant.inside;
            are = routes ∙ (c.loop-at.invariant.are ∙ sym (ap (map (route_at pool)) kept));
            all = λ i lt mark. subst (λ (ks : List ℕ). Contains ks (get_or c.args.places.now i 0)) (sym kept) (elim (cases_lt i c.loop-at.at) [
              | inl before ↦ c.loop-at.invariant.all i before mark
              | inr last ↦ absurd (let e : c.loop-at.at ≡ i = omega (arith, lt, last) in true≢false (sym mark ∙ (sym (ap (λ n. get_or c.args.marks.now n false) e) ∙ w.if-marks-at.false)))
            ]);
          }
    ]

pub returns : goal.returns
returns c = λ customers trucks fewest limit routes are rest within. record {
  inside = c.loop-at.invariant.inside;
  are = c.loop-at.invariant.are;
  rest = left_out c.args.pool.now routes c.args.places.now c.loop-at.kept.items c.args.marks.now customers trucks fewest limit are c.requires.long rest within
      (λ i lt mark. c.loop-at.invariant.all i (omega (arith, lt, c.loop-at-test.false)) mark);
}
