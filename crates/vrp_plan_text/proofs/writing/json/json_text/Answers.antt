use Rattle.std.proofs.Common.{◌≡◌, ◌≤◌, false, subst, sym}
use Rattle.std.specs.Prelude.{map}
use Rattle.serde_json.specs.Data.{Data, depth}
use Rattle.serde_json.specs.View.{view}
use Rattle.serde_json.specs.Written.{has_float}
use Rattle.vrp_answer.specs.Finding.{told_by}
use Rattle.vrp_plan_text.specs.Inner.Document.{document_of}
use Rattle.vrp_plan_text.specs.Json.{context_by, routes_told}
use Rattle.vrp_plan_text.proofs.Documents.{document_shallow, document_whole, is_document}
use Rattle.vrp_plan_text.proofs.writing.json.json_text.Goals as goal

pub returns : goal.returns
returns c =
    let p = c.args.instance.now in
    let finding = told_by c.args.finding.now in
    let context = context_by c.args.context in
    let objects = map view c.in_ok-routes.routes.items in
    let object = view c.in_ok-document.document in
    let gap = c.gap_of-gap.result in
    let is : object ≡ document_of p finding context gap objects = c.in_ok-document.ensures in
    let shallow = subst (λ (d : Data). depth d ≤ 4) (sym is) (document_shallow p finding context gap (routes_told finding.plan) objects c.in_ok-routes.ensures) in
    let whole = subst (λ (d : Data). has_float d ≡ false) (sym is) (document_whole p finding context gap (routes_told finding.plan) objects c.in_ok-routes.ensures) in
    record { value = object; line = c.in_ok-line_of.ensures shallow whole; document = is_document p finding context gap objects object is c.gap_of-gap.ensures c.in_ok-routes.ensures }
