use Rattle.std.proofs.Common.{◌≡◌, ◌≤◌, ◌∙◌, length, subst, sym}
use Rattle.vrp_model.specs.Grid.{Grid, entry_at}
use Rattle.vrp_model.proofs.WeightPlaces.{entry_fits, entry_read, entry_row_fits, entry_within, few_fit, read_small}
use Rattle.vrp_model.proofs.weights.Weights.at.Goals as goal

pub overflow_mul-row : goal.overflow_mul-row
overflow_mul-row c =
    let from_in : c.args.from ≤ c.self.inside.nodes = subst (λ (g : Grid). c.args.from ≤ g.nodes) (sym c.self.view_is) c.requires.from_within in
    entry_row_fits _ _ c.args.from c.self.inside.nodes from_in (few_fit _ c.self.invariant.few) c.from-row.ensures c.from-nodes.ensures

pub overflow_add-row : goal.overflow_add-row
overflow_add-row c =
    let from_in : c.args.from ≤ c.self.inside.nodes = subst (λ (g : Grid). c.args.from ≤ g.nodes) (sym c.self.view_is) c.requires.from_within in
    let to_in : c.args.to ≤ c.self.inside.nodes = subst (λ (g : Grid). c.args.to ≤ g.nodes) (sym c.self.view_is) c.requires.to_within in
    entry_fits _ _ _ c.args.from c.self.inside.nodes c.args.to from_in to_in (few_fit _ c.self.invariant.few) c.from-row.ensures c.from-nodes.ensures c.from-column.ensures

pub index-requires : goal.index-requires
index-requires c =
    let from_in : c.args.from ≤ c.self.inside.nodes = subst (λ (g : Grid). c.args.from ≤ g.nodes) (sym c.self.view_is) c.requires.from_within in
    let to_in : c.args.to ≤ c.self.inside.nodes = subst (λ (g : Grid). c.args.to ≤ g.nodes) (sym c.self.view_is) c.requires.to_within in
    entry_within c.self.inside.nodes c.args.from c.args.to _ _ _ _ c.requires.from_one from_in c.requires.to_one to_in c.from-row.ensures c.from-nodes.ensures c.from-column.ensures (c.self.inside.entries.ok.0 ∙ c.self.invariant.square)

pub returns-clause-value : goal.returns-clause-value
returns-clause-value c =
    let inside : Grid = record { nodes = c.self.inside.nodes; entries = c.self.inside.entries.items } in
    let from_in : c.args.from ≤ c.self.inside.nodes = subst (λ (g : Grid). c.args.from ≤ g.nodes) (sym c.self.view_is) c.requires.from_within in
    let to_in : c.args.to ≤ c.self.inside.nodes = subst (λ (g : Grid). c.args.to ≤ g.nodes) (sym c.self.view_is) c.requires.to_within in
    let within = entry_within c.self.inside.nodes c.args.from c.args.to _ _ _ (length inside.entries) c.requires.from_one from_in c.requires.to_one to_in c.from-row.ensures c.from-nodes.ensures c.from-column.ensures c.self.invariant.square in
    let read : c.from.result ≡ entry_at inside c.args.from c.args.to = c.from.ensures ∙ entry_read inside c.args.from c.args.to _ _ _ _ within c.from-row.ensures c.from-nodes.ensures c.from-column.ensures c.index.ensures in
    subst (λ (g : Grid). c.from.result ≡ entry_at g c.args.from c.args.to) c.self.view_is read

pub returns-clause-small : goal.returns-clause-small
returns-clause-small c =
    let entries = c.self.inside.entries.items in
    let from_in : c.args.from ≤ c.self.inside.nodes = subst (λ (g : Grid). c.args.from ≤ g.nodes) (sym c.self.view_is) c.requires.from_within in
    let to_in : c.args.to ≤ c.self.inside.nodes = subst (λ (g : Grid). c.args.to ≤ g.nodes) (sym c.self.view_is) c.requires.to_within in
    let within = entry_within c.self.inside.nodes c.args.from c.args.to _ _ _ (length entries) c.requires.from_one from_in c.requires.to_one to_in c.from-row.ensures c.from-nodes.ensures c.from-column.ensures c.self.invariant.square in
    rw c.from.ensures (read_small entries _ _ c.self.invariant.small within c.index.ensures)
