use Rattle.std.proofs.Common.{◌∙◌, ◌++◌, List, ℕ, ap, sym, lit<}
use Rattle.std.proofs.lemmas.Str.Pattern.{strip_prefix_char}
use Rattle.vrp_command_request.proofs.Values.{behind_of}
use Rattle.vrp_command_request.proofs.given.behind.Goals as goal

pub returns-in-Some : goal.returns-in-Some
returns-in-Some c =
    behind_of c.args.name.now c.args.argument.now c.in-Some.rest.now c.strip_prefix-in-Some.result
    (c.in-Some.ensures.cases.1.1 ∙ ap (λ (l : List ℕ). c.args.name.now ++ l) (sym c.in-Some.ensures.cases.2))
    (strip_prefix_char 61 c.in-Some.rest.now c.strip_prefix-in-Some.result c.strip_prefix-in-Some.ensures.cases (lit< tt))
