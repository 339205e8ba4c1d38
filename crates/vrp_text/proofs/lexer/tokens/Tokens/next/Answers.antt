use Rattle.std.proofs.Common.{sym, ◌∙◌}
use Rattle.vrp_text.specs.Bytes.{is_blank}
use Rattle.vrp_text.proofs.TokenLemmas.{no_part, next_cut, none_from_test, some_from_test}
use Rattle.vrp_text.proofs.lexer.tokens.Tokens.next.Goals as goal

pub returns-then-is_empty : goal.returns-then-is_empty
returns-then-is_empty c =
    let none = sym c.self.view_is ∙ no_part is_blank c.self.inside.rest.now _ c.skip_blanks-bare.ensures (none_from_test _ _ c.is_empty.ensures c.if-is_empty.true) in
    (none, none)

pub returns : goal.returns
returns c =
    sym c.self.view_is ∙ next_cut is_blank c.self.inside.rest.now c.skip_blanks-bare.result.now c.token_len.result c.split_at.result.0.now c.split_at.result.1.now
    c.skip_blanks-bare.ensures (some_from_test _ _ c.is_empty.ensures c.if-is_empty.false) c.token_len.ensures.value c.split_at.ensures.front c.split_at.ensures.back
