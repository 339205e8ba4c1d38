use Rattle.std.proofs.Common.{◌≡◌, ◌∙◌, ℕ, ◌+◌, ◌≤◌, ◌++◌, List, drop, length, ap, sym, subst, arith}
use Rattle.std.proofs.lemmas.List.{length-append}
use Rattle.vrp_routes.specs.Level.{IsLevel, sequences}
use Rattle.vrp_routes.specs.declared.closed.ClosedRoute.{ClosedRoute}
use Rattle.vrp_routes.specs.declared.label.Label.{Label}
use Rattle.vrp_routes.specs.declared.listing.Listing.{Listing}
use Rattle.vrp_routes.specs.Setting.{setting_of}
use Rattle.vrp_routes.proofs.Extensions.{length_sequences}
use Rattle.vrp_routes.proofs.ListingSteps.{last_level, next_listing, of_labels}
use Rattle.vrp_routes.proofs.listing.Listing.step.Goals as goal

pub close_level-requires-clause-level : goal.close_level-requires-clause-level
close_level-requires-clause-level g c = λ _ _.
    let (k, is) = c.requires.listing in
    let s = setting_of g.T.CompletionTest c.args.setting.now.test.now in
    let old = c.args.self.now in
    let labels = c.in-Labels.labels.items in
    let before = drop old.start old.sequences in
    let longer : c.push_level.new.self ≡ old.sequences ++ sequences before labels = c.in_ok-push_level.ensures ∙ ap (λ (ls : List (Label g.row.X.Denot)). old.sequences ++ sequences before ls) c.deref-2.ensures.value in
    let next = of_labels c.in_ok-extended.extended c.in-Labels.labels (λ ls. (n : ℕ) (stops : List (List ℕ)) → IsLevel s n stops c.deref.result.now → IsLevel s (n + 1) (sequences stops ls) ls) c.in-Labels.is c.in_ok-extended.ensures.level in
    let level = next k before (subst (IsLevel s k before) (sym c.deref.ensures.value) is.level) in
    (k + 1, c.push_level.new.self, subst (IsLevel s (k + 1) (drop c.len-start.result c.push_level.new.self)) (sym c.deref-3.ensures.value) (last_level s k old.start c.len-start.result old.sequences c.push_level.new.self labels c.len-start.ensures longer level), omega arith)

pub returns : goal.returns
returns g c = λ k is.
    let s = setting_of g.T.CompletionTest c.args.setting.now.test.now in
    let old = c.args.self.now in
    let made = c.len-start.result in
    let labels = c.in-Labels.labels.items in
    let before = drop old.start old.sequences in
    let new : Listing g.row.X.Denot = record { sequences = c.push_level.new.self; labels = c.in-Labels.labels; start = made; routes = c.extend_from_slice.new.self } in
    let longer : new.sequences ≡ old.sequences ++ sequences before labels = c.in_ok-push_level.ensures ∙ ap (λ (ls : List (Label g.row.X.Denot)). old.sequences ++ sequences before ls) c.deref-2.ensures.value in
    let next = of_labels c.in_ok-extended.extended c.in-Labels.labels (λ ls. (n : ℕ) (stops : List (List ℕ)) → IsLevel s n stops c.deref.result.now → IsLevel s (n + 1) (sequences stops ls) ls) c.in-Labels.is c.in_ok-extended.ensures.level in
    let few = of_labels c.in_ok-extended.extended c.in-Labels.labels (λ ls. length ls ≤ c.saturating_sub.result) c.in-Labels.is c.in_ok-extended.ensures.few in
    let level = last_level s k old.start made old.sequences new.sequences labels c.len-start.ensures longer (next k before (subst (IsLevel s k before) (sym c.deref.ensures.value) is.level)) in
    let closed = c.in_ok-routes.ensures (k + 1) new.sequences (omega arith) (subst (IsLevel s (k + 1) (drop made new.sequences)) (sym c.deref-3.ensures.value) level) in
    next_listing s k old new c.in_ok-routes.routes.items is c.len-start.ensures longer
    (omega (arith, is.few, few, c.saturating_sub.ensures, c.len-start.ensures, c.ranges.most_labels, ap length longer, length-append old.sequences (sequences before labels), length_sequences before labels))
    (c.in_ok-extend_from_slice.ensures.items ∙ ap (λ (rs : List ClosedRoute). old.routes.items ++ rs) c.deref-4.ensures.value)
    level closed
