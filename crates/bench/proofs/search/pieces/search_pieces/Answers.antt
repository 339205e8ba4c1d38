use Rattle.std.proofs.Common.{◌≡◌, ◌∙◌, ◌<◌, List, ℕ, get_or, length, ap, sym, subst, arith}
use Rattle.std.proofs.lemmas.List.{get_or-map, length-map}
use Rattle.vrp_model.specs.Word.{IsPrefix}
use Rattle.vrp_search_tree.specs.Cutting.{NumberedWord}
use Rattle.bench.proofs.search.pieces.search_pieces.Goals as goal

-- the piece is one of the cutting's words, and they are prefixes
pub search_piece-requires-clause-prefix : goal.search_piece-requires-clause-prefix
search_piece-requires-clause-prefix c =
    let pieces = c.pieces-piece-items.result.now in
    let cutting = c.args.cutting.now in
    let at = c.loop-piece.piece-index in
    let piece = c.piece-item.result in
    let word_of_piece = λ (p : NumberedWord). p.word in
    let few : at < length pieces = c.loop-piece-test.true in
    let within : at < length cutting = omega (arith, few, ap length c.pieces-piece-items.ensures.words, length-map pieces word_of_piece) in
    let is : get_or cutting at piece.word ≡ piece.word = ap (λ (words : List (List ℕ)). get_or words at piece.word) (sym c.pieces-piece-items.ensures.words) ∙ get_or-map word_of_piece pieces at piece piece.word few ∙ ap word_of_piece (sym c.piece-item.is) in
    subst (IsPrefix c.args.instance.now) is (c.requires.cutting.each at piece.word within)
