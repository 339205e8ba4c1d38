use Rattle.std.proofs.Common.{sym, ◌∙◌}
use Rattle.vrp_text.specs.Bytes.{is_blank}
use Rattle.vrp_text.proofs.TokenLemmas.{no_part, all_pass, none_from_test, test_from_none}
use Rattle.vrp_text.proofs.lexer.tokens.Tokens.is_empty.Goals as goal

pub returns : goal.returns
returns c = (
  λ empty. sym c.self.view_is ∙ no_part is_blank c.self.inside.rest.now _ c.skip_blanks.ensures (none_from_test _ _ c.is_empty.ensures empty),
  λ none. test_from_none _ _ c.is_empty.ensures (all_pass is_blank c.self.inside.rest.now _ c.skip_blanks.ensures (c.self.view_is ∙ none)),
)
