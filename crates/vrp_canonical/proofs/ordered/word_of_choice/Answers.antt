use Rattle.std.proofs.Common.{◌≡◌, ◌<◌, ◌+◌, ◌∷◌, ◌++◌, ℕ, List, [], Vec, Global, get_or, length, map, take, sym, ap, subst, ◌∙◌, arith}
use Rattle.std.specs.List.{Contains}
use Rattle.std.proofs.lemmas.List.{take_more}
use Rattle.vrp_canonical.specs.Ordering.{IsWordOf, stops_in}
use Rattle.vrp_canonical.proofs.ChosenWords.{longer_word, word_with}
use Rattle.vrp_canonical.proofs.Marked.{stops_at}
use Rattle.vrp_partition.specs.declared.route.Route.{Route}
use Rattle.vrp_canonical.proofs.ordered.word_of_choice.Goals as goal
use Rattle.vrp_canonical.proofs.ordered.word_of_choice.Goals.{in-Some+in_ok-stops+in_ok-extend_from_slice+in_ok-push, in_default}

pub loop-chosen-preserved : goal.loop-chosen-preserved
loop-chosen-preserved c = λ every.
    let pool = c.args.pool.now in
    let stops = map stops_in pool in
    let routes = c.args.routes.now in
    let choice = c.args.choice.now in
    let i = c.loop-chosen.chosen-index in
    let chosen = c.chosen-item.result in
    let word = c.loop-chosen.word.items in
    elim c.match-place_of.branch [
      | in-Some+in_ok-stops+in_ok-extend_from_slice+in_ok-push w ↦
          let at = w.in-Some.at in
          let there : at < length pool = omega (arith, w.in-Some.ensures.within, c.requires) in
          let taken : take (i + 1) choice ≡ take i choice ++ chosen ∷ [] = take_more choice i chosen c.loop-chosen-test.true ∙ ap (λ (r : Route). take i choice ++ r ∷ []) (sym c.chosen-item.is) in
          let stops_are : w.in_ok-stops.stops.items ≡ get_or stops at [] = w.in_ok-stops.ensures ∙ sym (stops_at pool at there) in
          let longer : c.match-place_of.word.items ≡ (word ++ get_or stops at []) ++ 0 ∷ [] =
          longer_word word (get_or stops at []) w.as_slice.result.now w.extend_from_slice.new.self.items c.match-place_of.word.items (w.as_slice.ensures.value ∙ stops_are) w.in_ok-extend_from_slice.ensures.items
          (ap (λ (v : Vec ℕ Global). v.items) w.word-is ∙ w.in_ok-push.ensures.items) in
          subst (IsWordOf stops routes (take (i + 1) choice)) (sym longer)
          (subst (λ (rs : List Route). IsWordOf stops routes rs ((word ++ get_or stops at []) ++ 0 ∷ [])) (sym taken)
          (word_with stops routes (take i choice) word at chosen w.in-Some.ensures.within w.in-Some.ensures.is (c.loop-chosen.invariant every)))
      | in_default w ↦ absurd (w.in_default.ensures.none (subst (Contains routes) (sym c.chosen-item.is) (every i chosen c.loop-chosen-test.true)))
    ]
