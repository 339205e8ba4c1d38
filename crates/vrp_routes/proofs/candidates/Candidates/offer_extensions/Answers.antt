use Rattle.std.proofs.Common.{◌%◌, eq-eqb, ◌≡◌, ◌∙◌, ◌+◌, ◌<◌, ◌≤◌, ◌++◌, ◌∷◌, [], true, length, get_or, refl, ap, sym, subst, arith}
use Rattle.vrp_routes.specs.Candidates.{HasExtensions, IsKeyed}
use Rattle.vrp_routes.specs.Label.{IsLabel}
use Rattle.vrp_routes.specs.Share.{is_in}
use Rattle.vrp_routes.specs.declared.candidates.Candidates.{Candidates}
use Rattle.vrp_routes.specs.declared.share.Share.{Share}
use Rattle.vrp_routes.specs.Setting.{setting_of}
use Rattle.vrp_routes.proofs.Extensions.{all_extensions, offered_extension, passed, share_stays, up_to_first, up_to_next}
use Rattle.vrp_routes.proofs.Rests.{next_of_share}
use Rattle.vrp_routes.proofs.candidates.Candidates.offer_extensions.Goals as goal
use Rattle.vrp_routes.proofs.candidates.Candidates.offer_extensions.Goals.{in-Some+in_ok-offer, in_default}

pub loop-stop-init : goal.loop-stop-init
loop-stop-init g c = record {
  some = c.first-stop.ensures.some;
  keyed = c.requires.keyed;
  share = refl;
  rest = c.first-stop.ensures.rest;
  extensions = λ k stops lt is has. up_to_first (setting_of g.T.CompletionTest c.args.setting.now.test.now) k stops c.args.parent c.first-stop.result c.args.self.now c.first-stop.ensures.some c.first-stop.ensures.lowest has;
}

pub loop-stop-preserved : goal.loop-stop-preserved
loop-stop-preserved g c =
    let s = setting_of g.T.CompletionTest c.args.setting.now.test.now in
    let parent = c.args.parent in
    let share = c.args.self.now.share in
    let old = c.loop-stop.self in
    let stop = c.loop-stop.stop in
    let known = c.loop-stop.invariant in
    let to = c.next-stop.result in
    let some : 1 ≤ to = omega (arith, known.some, c.next-stop.ensures) in
    let next : to % share.shares ≡ share.rest = ap (λ n. n % share.shares) c.next-stop.ensures ∙ next_of_share share.shares share.rest stop known.rest in
    elim c.match-extended.branch [
      | in-Some+in_ok-offer w ↦
          let new = w.offer.new.self in
          let child = w.in-Some.extended in
          let same : new.share ≡ share = share_stays old new child w.in_ok-offer.ensures.offered ∙ known.share in
          record {
            some = some;
            keyed = subst IsKeyed (sym w.self-is) w.in_ok-offer.ensures.keyed;
            share = ap (λ (found : Candidates g.row.X.Denot). found.share) w.self-is ∙ same;
            rest = next;
            extensions = λ k stops lt is has.
                let own : child.parent ≡ parent = w.in-Some.ensures.parent in
                let last : child.last ≡ stop = w.in-Some.ensures.last in
                let label : IsLabel s (get_or stops child.parent [] ++ child.last ∷ []) child =
                subst (λ n. IsLabel s (get_or stops n [] ++ child.last ∷ []) child) (sym own)
                (subst (λ n. IsLabel s (get_or stops parent [] ++ n ∷ []) child) (sym last) (w.in-Some.ensures.label (get_or stops parent []) is)) in
                let before : HasExtensions s k stops child.parent child.last old =
                subst (λ n. HasExtensions s k stops n child.last old) (sym own)
                (subst (λ n. HasExtensions s k stops parent n old) (sym last) (known.extensions k stops lt is has)) in
                let mine : is_in old.share child.last ≡ true = ap (λ (of : Share). is_in of child.last) known.share ∙ ap (is_in share) last ∙ eq-eqb (stop % share.shares) share.rest known.rest in
                let after = offered_extension s k stops old new child before known.keyed (subst (λ n. n < length stops) (sym own) lt) mine label w.in_ok-offer.ensures.offered in
                let offered : HasExtensions s k stops parent (stop + 1) new =
                subst (λ n. HasExtensions s k stops n (stop + 1) new) own
                (subst (λ n. HasExtensions s k stops child.parent (n + 1) new) last after) in
                subst (HasExtensions s k stops parent to) (sym w.self-is)
                (subst (λ n. HasExtensions s k stops parent n new) (sym c.next-stop.ensures)
                (up_to_next s k stops parent stop share new same known.rest offered));
          }
      | in_default w ↦ record {
        some = some;
        keyed = subst IsKeyed (sym w.self-is) known.keyed;
        share = ap (λ (found : Candidates g.row.X.Denot). found.share) w.self-is ∙ known.share;
        rest = next;
        extensions = λ k stops lt is has.
            subst (HasExtensions s k stops parent to) (sym w.self-is)
            (subst (λ n. HasExtensions s k stops parent n old) (sym c.next-stop.ensures)
            (up_to_next s k stops parent stop share old known.share known.rest
            (passed s k stops parent stop old (known.extensions k stops lt is has) (λ mine. w.in_default.ensures.none (get_or stops parent []) is))));
      }
    ]

pub returns-clause-extensions : goal.returns-clause-extensions
returns-clause-extensions g c = λ k stops lt is has.
    all_extensions (setting_of g.T.CompletionTest c.args.setting.now.test.now) k stops c.args.parent c.loop-stop.stop c.loop-stop.self (omega (arith, c.places.ensures.value, c.from-places.ensures, c.loop-stop-test.false)) (c.loop-stop.invariant.extensions k stops lt is has)
