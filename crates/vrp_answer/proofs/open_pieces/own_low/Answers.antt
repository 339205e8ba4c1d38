use Rattle.std.proofs.Common.{◌≡◌, ◌∙◌, ℕ, None, Some, List, sym, subst, ap}
use Rattle.std.specs.List.{All, Contains}
use Rattle.std.specs.List.Sorted.{IsStrictlyIncreasing}
use Rattle.std.proofs.lemmas.List.Elements.{All-contains_itself}
use Rattle.vrp_bound.specs.Tables.{TablesOf}
use Rattle.vrp_model.specs.Problem.{customers}
use Rattle.vrp_model.specs.Word.{NoneCheaperUnder, unserved_in}
use Rattle.vrp_model.proofs.UnservedCustomers.{unserved_are_customers}
use Rattle.vrp_search_tree.specs.Low.{AreCovered, IsLow}
use Rattle.vrp_search_tree.proofs.UnservedListed.{unserved_rise}
use Rattle.vrp_answer.specs.Outcomes.{IsOpenPiece, Search}
use Rattle.vrp_answer.proofs.open_pieces.own_low.Goals as goal

pub for_few_looks-requires-clause-rising : goal.for_few_looks-requires-clause-rising
for_few_looks-requires-clause-rising g c =
    subst IsStrictlyIncreasing (sym (c.deref.ensures.value ∙ c.in_ok-unserved.ensures)) (unserved_rise c.shared.inside.instance.now c.args.left.now.piece.word)

pub for_few_looks-requires-clause-customers : goal.for_few_looks-requires-clause-customers
for_few_looks-requires-clause-customers g c =
    let p = c.shared.inside.instance.now in
    subst (All (Contains (customers p))) (sym (c.deref.ensures.value ∙ c.in_ok-unserved.ensures)) (unserved_are_customers p c.args.left.now.piece.word)

pub low-requires-clause-covered : goal.low-requires-clause-covered
low-requires-clause-covered g c =
    let p = c.shared.inside.instance.now in
    let prefix = c.args.left.now.piece.word in
    let among : c.in_ok-tables.tables.among ≡ unserved_in p prefix = ap (λ (t : TablesOf). t.among) c.in_ok-tables.ensures ∙ c.deref.ensures.value ∙ c.in_ok-unserved.ensures in
    subst (λ (ks : List ℕ). AreCovered p ks prefix) (sym among) (All-contains_itself (unserved_in p prefix))

pub unreachable-requires : goal.unreachable-requires
unreachable-requires g c =
    let p = c.shared.inside.instance.now in
    let prefix = c.args.left.now.piece.word in
    let among : c.in_ok-tables.tables.among ≡ unserved_in p prefix = ap (λ (t : TablesOf). t.among) c.in_ok-tables.ensures ∙ c.deref.ensures.value ∙ c.in_ok-unserved.ensures in
    let own = subst (λ (ks : List ℕ). IsLow p ks prefix c.in_ok-low.field-0) among c.in_ok-low.ensures.low in
    let is = subst (λ (s : Search). IsOpenPiece s c.args.left.now.piece c.args.left.now) (sym c.shared.view_is) c.requires in
    let (least, some, no_lower) = c.own_low_no_lower.ensures p prefix c.args.left.now.low c.in_ok-low.field-0 c.customers-customers.ensures.problem is.prefix is.is_low own in
    let never : None ≡ Some least = sym c.in_default.is ∙ some in
    cc (never)

pub returns-clause-low : goal.returns-clause-low
returns-clause-low g c =
    let p = c.shared.inside.instance.now in
    let prefix = c.args.left.now.piece.word in
    let among : c.in_ok-tables.tables.among ≡ unserved_in p prefix = ap (λ (t : TablesOf). t.among) c.in_ok-tables.ensures ∙ c.deref.ensures.value ∙ c.in_ok-unserved.ensures in
    let own = subst (λ (ks : List ℕ). IsLow p ks prefix (Some c.in-Some.low)) among (subst (IsLow p c.in_ok-tables.tables.among prefix) c.in-Some.is c.in_ok-low.ensures.low) in
    subst (λ (s : Search). IsLow s.problem (unserved_in s.problem prefix) prefix (Some c.in-Some.low)) c.shared.view_is own

pub returns-clause-none_cheaper : goal.returns-clause-none_cheaper
returns-clause-none_cheaper g c =
    let p = c.shared.inside.instance.now in
    let prefix = c.args.left.now.piece.word in
    subst (λ (s : Search). NoneCheaperUnder s.problem prefix c.in-Some.low) c.shared.view_is (c.in_ok-low.ensures.none_cheaper c.in-Some.low c.in-Some.is)
