use Rattle.vrp_search_tree.proofs.OnePlace.{piece_of_word}
use Rattle.vrp_search_tree.proofs.law.one_piece.Goals as goal

pub returns : goal.returns
returns c = piece_of_word
