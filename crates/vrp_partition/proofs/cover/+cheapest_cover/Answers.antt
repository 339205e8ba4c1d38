use Rattle.std.proofs.Common.{◌≡◌, ◌≤◌, ◌+◌, ◌-◌, ◌++◌, [], ◌∷◌, ℕ, List, Vec, Global, take, IfSome, sym, ◌∙◌, ap, subst, arith, filter, get_or, bit_and, bit_xor}
use Rattle.std.specs.Int.{bit_at}
use Rattle.std.proofs.lemmas.Bool.{eqb-false, eqb-true, false≢true}
use Rattle.std.proofs.lemmas.List.{get_or_default}
use Rattle.std.proofs.lemmas.Nat.{and_comm}
use Rattle.vrp_partition.specs.Covering.{IsLeast, is_inside}
use Rattle.vrp_partition.specs.declared.cover.Column.{Column}
use Rattle.vrp_partition.specs.declared.cover.Cover.{Cover}
use Rattle.vrp_partition.proofs.Searched.{Searched, Tried, all_tried, cheaper, no_cheaper, no_truck, passed}
use Rattle.vrp_partition.proofs.cover.+cheapest_cover.Goals as goal
use Rattle.vrp_partition.proofs.cover.+cheapest_cover.Goals.{then-contains+then-is_subset+then-column-gap+then-cost-found+in_ok-inside+in_ok-more+in-Some, then-more-found+in_ok-push, else-more-found, else-contains, else-contains-via-then-contains+then-is_subset+then-column-gap+else-cost-found, else-contains-via-then-contains+then-is_subset+else-column-gap, else-contains-via-then-contains+else-is_subset, else-contains-via-else-contains}

-- the column that stands for none
abbrev none : Column
none = record { set = 0; reduced_cost = 0; cost = 0 }

-- the same under the names of the code
named : (columns parts parts' tried : List Column) (unserved trucks incumbent gap customer found found' : ℕ) → found' ≡ found → parts' ≡ parts → Searched columns unserved trucks incumbent gap customer found parts tried → Searched columns unserved trucks incumbent gap customer found' parts' tried
named columns parts parts' tried unserved trucks incumbent gap customer found found' e f s =
    subst (λ n. Searched columns unserved trucks incumbent gap customer n parts' tried) (sym e) (subst (λ ps. Searched columns unserved trucks incumbent gap customer found ps tried) (sym f) s)

pub returns-then-node-eq0-clause-least : goal.returns-then-node-eq0-clause-least
returns-then-node-eq0-clause-least t c = no_truck c.args.columns.now c.new-parts.result.items c.args.node.unserved c.args.node.trucks c.args.node.incumbent c.args.node.gap (eqb-false c.args.node.unserved 0 (sym c.is_empty.ensures ∙ c.if-is_empty.false)) c.if-node-eq0.true

pub loop-column-preserved : goal.loop-column-preserved
loop-column-preserved t c =
    let columns = c.args.columns.now in
    let i = c.loop-column.column-index in
    let column : Column = c.column-item.result in
    let x = get_or columns i none in
    let is : column ≡ x = c.column-item.is ∙ get_or_default columns i column none c.loop-column-test.true in
    let before : Searched columns c.args.node.unserved c.args.node.trucks c.args.node.incumbent c.args.node.gap c.rarest_customer-customer.result c.loop-column.found c.loop-column.parts.items (take i columns) =
    record { most = c.loop-column.invariant.most; least = c.loop-column.invariant.least; attained = c.loop-column.invariant.attained } in
    elim c.if-contains.branch [
      | then-contains+then-is_subset+then-column-gap+then-cost-found+in_ok-inside+in_ok-more+in-Some w ↦
          let rest = w.difference-rest.result in
          let under = c.args.node.gap - column.reduced_cost in
          let under_answer : ℕ → List Column → Type 0 = λ (rest : ℕ) (inside : List Column). IsLeast inside rest (c.args.node.trucks - 1) (c.loop-column.found - c.from-cost.result) under w.in-Some.more.cost w.in-Some.more.parts.items in
          let answer : under_answer rest w.as_slice.result.now =
          subst (λ o. IfSome o (λ (best : Cover). IsLeast w.as_slice.result.now rest (c.args.node.trucks - 1) (c.loop-column.found - c.from-cost.result) under best.cost best.parts.items)) w.in-Some.is w.in_ok-more.ensures.least in
          let within : bit_and column.set c.args.node.unserved ≡ column.set = eqb-true (bit_and column.set c.args.node.unserved) column.set (sym w.is_subset.ensures ∙ w.if-is_subset.true) in
          let rest_is : rest ≡ bit_xor c.args.node.unserved column.set = w.difference-rest.ensures ∙ ap (bit_xor c.args.node.unserved) (and_comm c.args.node.unserved column.set ∙ within) in
          let tried' : Tried columns c.args.node.unserved c.args.node.trucks c.loop-column.found c.args.node.gap c.from-cost.result w.in-Some.more.cost column w.in-Some.more.parts.items = record {
            some = omega (arith, c.if-node-eq0.false);
            within = within;
            fits = w.if-column-gap.true;
            cheap = w.if-cost-found.true;
            is_cost = c.from-cost.ensures;
            answer = subst (λ rest. under_answer rest (filter (is_inside rest under) columns)) rest_is (subst (under_answer rest) (w.as_slice.ensures.value ∙ w.in_ok-inside.ensures) answer);
          } in
          let tried = subst (λ (x : Column). Tried columns c.args.node.unserved c.args.node.trucks c.loop-column.found c.args.node.gap c.from-cost.result w.in-Some.more.cost x w.in-Some.more.parts.items) is tried' in
          let s : Searched columns c.args.node.unserved c.args.node.trucks c.args.node.incumbent c.args.node.gap c.rarest_customer-customer.result c.if-contains.found c.if-contains.parts.items (take (i + 1) columns) =
          elim w.if-more-found.branch [
            | then-more-found+in_ok-push w' ↦
                named columns (w.in-Some.more.parts.items ++ x ∷ []) c.if-contains.parts.items (take (i + 1) columns) c.args.node.unserved c.args.node.trucks c.args.node.incumbent c.args.node.gap c.rarest_customer-customer.result (c.from-cost.result + w.in-Some.more.cost) c.if-contains.found
                (w.found-is ∙ w'.found-is) (ap (λ (v : Vec Column Global). v.items) (w.parts-is ∙ w'.parts-is) ∙ (w'.in_ok-push.ensures.items ∙ ap (λ (y : Column). w.in-Some.more.parts.items ++ y ∷ []) is))
                (cheaper columns c.loop-column.parts.items w.in-Some.more.parts.items c.args.node.unserved c.args.node.trucks c.args.node.incumbent c.args.node.gap c.rarest_customer-customer.result c.loop-column.found i c.from-cost.result w.in-Some.more.cost none c.loop-column-test.true before tried w'.if-more-found.true)
            | else-more-found w' ↦
                named columns c.loop-column.parts.items c.if-contains.parts.items (take (i + 1) columns) c.args.node.unserved c.args.node.trucks c.args.node.incumbent c.args.node.gap c.rarest_customer-customer.result c.loop-column.found c.if-contains.found
                (w.found-is ∙ w'.found-is) (ap (λ (v : Vec Column Global). v.items) (w.parts-is ∙ w'.parts-is))
                (no_cheaper columns c.loop-column.parts.items w.in-Some.more.parts.items c.args.node.unserved c.args.node.trucks c.args.node.incumbent c.args.node.gap c.rarest_customer-customer.result c.loop-column.found i c.from-cost.result w.in-Some.more.cost none c.loop-column-test.true before tried w'.if-more-found.false)
          ] in
          record { budget = omega (arith, w.budget-is, w.in_ok-more.ensures.budget, c.loop-column.invariant.budget); most = s.most; least = s.least; attained = s.attained }
      | else-contains w ↦
          let passes : Column → Type 0 = λ (x : Column). bit_at x.set c.rarest_customer-customer.result ≡ 1 → bit_and x.set c.args.node.unserved ≡ x.set → x.reduced_cost ≤ c.args.node.gap → c.loop-column.found ≤ x.cost in
          let skip' : passes column =
          elim w.else-contains.branch [
            | else-contains-via-then-contains+then-is_subset+then-column-gap+else-cost-found w' ↦ λ bit within fits. omega (arith, w'.if-cost-found.false, c.from-cost.ensures)
            | else-contains-via-then-contains+then-is_subset+else-column-gap w' ↦ λ bit within fits. absurd (omega (arith, fits, w'.if-column-gap.false))
            | else-contains-via-then-contains+else-is_subset w' ↦ λ bit within fits. absurd (eqb-false (bit_and column.set c.args.node.unserved) column.set (sym w'.is_subset.ensures ∙ w'.if-is_subset.false) within)
            | else-contains-via-else-contains w' ↦ λ bit within fits. absurd (false≢true (sym w'.if-contains.false ∙ c.contains.ensures.1 bit))
          ] in
          let skip = subst passes is skip' in
          let s : Searched columns c.args.node.unserved c.args.node.trucks c.args.node.incumbent c.args.node.gap c.rarest_customer-customer.result c.if-contains.found c.if-contains.parts.items (take (i + 1) columns) =
          named columns c.loop-column.parts.items c.if-contains.parts.items (take (i + 1) columns) c.args.node.unserved c.args.node.trucks c.args.node.incumbent c.args.node.gap c.rarest_customer-customer.result c.loop-column.found c.if-contains.found
          w.found-is (ap (λ (v : Vec Column Global). v.items) w.parts-is)
          (passed columns c.loop-column.parts.items c.args.node.unserved c.args.node.trucks c.args.node.incumbent c.args.node.gap c.rarest_customer-customer.result c.loop-column.found i none c.loop-column-test.true before skip) in
          record { budget = omega (arith, w.budget-is, c.loop-column.invariant.budget); most = s.most; least = s.least; attained = s.attained }
    ]

pub returns-clause-least : goal.returns-clause-least
returns-clause-least t c =
    all_tried c.args.columns.now c.loop-column.parts.items c.args.node.unserved c.args.node.trucks c.args.node.incumbent c.args.node.gap c.rarest_customer-customer.result c.loop-column.found c.loop-column.column-index c.rarest_customer-customer.ensures.one c.loop-column-test.false
    (record { most = c.loop-column.invariant.most; least = c.loop-column.invariant.least; attained = c.loop-column.invariant.attained })
