use Rattle.std.proofs.Common.{◌∙◌, List, ℕ, Bor, ap, sym}
use Rattle.std.proofs.lemmas.List.{get_or_default}
use Rattle.std.specs.Cmp.Lexicographic.{same_text}
use Rattle.vrp_command_request.proofs.Values.{from_next}
use Rattle.vrp_command_request.proofs.given.value_at.Goals as goal

pub returns-then-eq : goal.returns-then-eq
returns-then-eq c =
    from_next c.args.arguments.now c.args.name.now c.args.at
    (λ d. ap (λ (given : Bor (List ℕ)). given.now) (get_or_default c.args.arguments.now c.args.at d _ c.requires) ∙ same_text _ c.args.name.now (sym c.if-eq.true ∙ c.eq.ensures))
    c.next_one.result c.next_one.ensures
