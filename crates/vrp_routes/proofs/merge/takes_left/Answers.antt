use Rattle.std.proofs.Common.{◌≡◌, ℕ, ◌<◌, false, inl, inr, nat_lt, List, length, get_or, subst, arith}
use Rattle.std.proofs.lemmas.Bool.Decides.{nat_tests}
use Rattle.std.proofs.lemmas.List.{get_or_read}
use Rattle.vrp_routes.specs.Level.{ComesFirst}
use Rattle.vrp_routes.specs.declared.label.Label.{Label}
use Rattle.vrp_routes.proofs.merge.takes_left.Goals as goal

-- what holds of two labels that were read holds of those at their places
at_places : {X : Type 0} (P : Label X → Label X → Type 0) (left right : List (Label X)) (i j : ℕ) (one other d e : Label X) → i < length left → j < length right → one ≡ get_or left i one → other ≡ get_or right j other → P one other → P (get_or left i d) (get_or right j e)
at_places {X} P left right i j one other d e here there read also is =
    subst (P (get_or left i d)) (get_or_read right j other there also e)
    (subst (λ label. P label other) (get_or_read left i one here read d) is)

not_first : {X : Type 0} (one other : Label X) → one.parent ≡ other.parent → nat_lt one.last other.last ≡ false → ComesFirst one other → ⊥
not_first one other same later (inl less) = omega (arith, same, less)
not_first one other same later (inr (is, less)) = grind (arith, nat_tests, later, less)

pub returns-then-label-other-clause-yes : goal.returns-then-label-other-clause-yes
returns-then-label-other-clause-yes g c = λ yes.
    let here : c.args.i < length c.args.left.now = omega arith in
    let there : c.args.j < length c.args.right.now = omega arith in
    let less : c.index-left-i.result.last < c.index-right-j.result.last = grind (arith, nat_tests, yes) in
    (here, λ _ d e. at_places ComesFirst c.args.left.now c.args.right.now c.args.i c.args.j c.index-left-i.result c.index-right-j.result d e here there c.index-left-i.is c.index-right-j.is (inr (c.if-label-other.true, less)))

pub returns-then-label-other-clause-no : goal.returns-then-label-other-clause-no
returns-then-label-other-clause-no g c = λ later.
    let here : c.args.i < length c.args.left.now = omega arith in
    let there : c.args.j < length c.args.right.now = omega arith in
    (there, λ _ d e first. at_places (λ one other. ComesFirst one other → ⊥) c.args.left.now c.args.right.now c.args.i c.args.j c.index-left-i.result c.index-right-j.result d e here there c.index-left-i.is c.index-right-j.is (not_first c.index-left-i.result c.index-right-j.result c.if-label-other.true later) first)
