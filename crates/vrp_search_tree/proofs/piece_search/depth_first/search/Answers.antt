use Rattle.std.proofs.Common.{◌≡◌, ◌∙◌, ℕ, Option, Some, List, sym, subst, ap, arith}
use Rattle.std.specs.Prelude.{IfNone, IfSome}
use Rattle.std.proofs.lemmas.Result.{IfOk-weaker}
use Rattle.vrp_model.specs.Word.{NoneCheaperUnder}
use Rattle.vrp_search_tree.specs.Partial.{PartialPlan}
use Rattle.vrp_search_tree.specs.Low.{AreCovered, IsLow}
use Rattle.vrp_search_tree.specs.Search.{EndsSearch}
use Rattle.vrp_search_tree.specs.Pruned.{AllCostMore}
use Rattle.vrp_search_tree.specs.Inner.Under.{EndsUnder}
use Rattle.vrp_search_tree.specs.declared.piece_search.depth_first.Root.{Root}
use Rattle.vrp_search_tree.proofs.SearchProgress.{ends_at_root}
use Rattle.vrp_search_tree.proofs.piece_search.depth_first.search.Goals as goal

pub returns-in_default-clause-ended : goal.returns-in_default-clause-ended
returns-in_default-clause-ended g c =
    let p = c.args.instance.now in
    let root = c.args.piece.now.word in
    let floor = g.B.Board.floor c.open_root.new.board in
    ends_at_root p root c.args.budget floor c.requires.piece c.requires.budget
    (subst (λ (o : Option Root). IfNone o (AllCostMore p root floor)) c.in_default.is c.in_ok-partial.ensures.none)

pub search_under-requires-clause-low : goal.search_under-requires-clause-low
search_under-requires-clause-low g c =
    let p = c.args.instance.now in
    let root = c.args.piece.now.word in
    let at : c.in-Some.field-0.partial ≡ record { problem = p; word = root } = subst (λ (o : Option Root). IfSome o (λ one. one.partial ≡ record { problem = p; word = root })) c.in-Some.is c.in_ok-partial.ensures.at in
    let none = subst (λ (o : Option Root). IfSome o (λ one. NoneCheaperUnder p root one.low)) c.in-Some.is c.in_ok-partial.ensures.none_cheaper in
    subst (λ (v : PartialPlan). NoneCheaperUnder v.problem v.word c.in-Some.field-0.low) (sym at) none

pub returns-clause-ended : goal.returns-clause-ended
returns-clause-ended g c =
    let p = c.args.instance.now in
    let among = c.args.tables.now.among in
    let root = c.args.piece.now.word in
    let one = c.in-Some.field-0 in
    let budget = c.args.budget in
    let may_stop = g.B.Board.may_stop c.search_under.new.board in
    let floor = g.B.Board.floor c.search_under.new.board in
    let at : one.partial ≡ record { problem = p; word = root } = subst (λ (o : Option Root). IfSome o (λ one. one.partial ≡ record { problem = p; word = root })) c.in-Some.is c.in_ok-partial.ensures.at in
    let is_low : IsLow p among root (Some one.low) = subst (λ (o : Option Root). IfSome o (λ one. IsLow p among root (Some one.low))) c.in-Some.is c.in_ok-partial.ensures.low in
    IfOk-weaker c.search_under.result (EndsUnder one.partial.problem one.partial.word one.low budget may_stop floor) (EndsSearch p among root budget may_stop floor)
    (λ ended ends. subst (λ (v : PartialPlan). (among : List ℕ) → IsLow v.problem among v.word (Some one.low) → EndsSearch v.problem among v.word budget may_stop floor ended) at ends among is_low)
    c.search_under.ensures.ended

pub search_under-requires-clause-tables : goal.search_under-requires-clause-tables
search_under-requires-clause-tables g c =
    let p = c.args.instance.now in
    let root = c.args.piece.now.word in
    let at : c.in-Some.field-0.partial ≡ record { problem = p; word = root } = subst (λ (o : Option Root). IfSome o (λ one. one.partial ≡ record { problem = p; word = root })) c.in-Some.is c.in_ok-partial.ensures.at in
    c.requires.tables ∙ sym (ap (λ (v : PartialPlan). v.problem) at)

pub search_under-requires-clause-covered : goal.search_under-requires-clause-covered
search_under-requires-clause-covered g c =
    let p = c.args.instance.now in
    let root = c.args.piece.now.word in
    let at : c.in-Some.field-0.partial ≡ record { problem = p; word = root } = subst (λ (o : Option Root). IfSome o (λ one. one.partial ≡ record { problem = p; word = root })) c.in-Some.is c.in_ok-partial.ensures.at in
    subst (λ (v : PartialPlan). AreCovered v.problem c.args.tables.now.among v.word) (sym at) c.requires.covered

pub open_root-requires-clause-tables : goal.open_root-requires-clause-tables
open_root-requires-clause-tables g c = c.requires.tables

pub open_root-requires-clause-covered : goal.open_root-requires-clause-covered
open_root-requires-clause-covered g c = c.requires.covered

pub open_root-requires-clause-piece : goal.open_root-requires-clause-piece
open_root-requires-clause-piece g c = c.requires.piece

pub open_root-requires-clause-board : goal.open_root-requires-clause-board
open_root-requires-clause-board g c = c.requires.board

pub returns-in_err-partial-clause-serves : goal.returns-in_err-partial-clause-serves
returns-in_err-partial-clause-serves g c = c.open_root.ensures.serves

pub returns-in_err-partial-clause-keeps : goal.returns-in_err-partial-clause-keeps
returns-in_err-partial-clause-keeps g c = c.open_root.ensures.keeps

pub returns-in_err-partial-clause-falls : goal.returns-in_err-partial-clause-falls
returns-in_err-partial-clause-falls g c = c.open_root.ensures.falls

pub returns-in_default-clause-serves : goal.returns-in_default-clause-serves
returns-in_default-clause-serves g c = c.open_root.ensures.serves

pub returns-in_default-clause-keeps : goal.returns-in_default-clause-keeps
returns-in_default-clause-keeps g c = c.open_root.ensures.keeps

pub returns-in_default-clause-falls : goal.returns-in_default-clause-falls
returns-in_default-clause-falls g c = c.open_root.ensures.falls

pub search_under-requires-clause-board : goal.search_under-requires-clause-board
search_under-requires-clause-board g c =
    let p = c.args.instance.now in
    let root = c.args.piece.now.word in
    let at : c.in-Some.field-0.partial ≡ record { problem = p; word = root } = subst (λ (o : Option Root). IfSome o (λ one. one.partial ≡ record { problem = p; word = root })) c.in-Some.is c.in_ok-partial.ensures.at in
    subst (λ (v : PartialPlan). g.B.Board.serves c.open_root.new.board v.problem) (sym at) c.open_root.ensures.serves

pub search_under-requires-clause-budget : goal.search_under-requires-clause-budget
search_under-requires-clause-budget g c = c.requires.budget

pub returns-clause-serves : goal.returns-clause-serves
returns-clause-serves g c =
    let p = c.args.instance.now in
    let root = c.args.piece.now.word in
    let at : c.in-Some.field-0.partial ≡ record { problem = p; word = root } = subst (λ (o : Option Root). IfSome o (λ one. one.partial ≡ record { problem = p; word = root })) c.in-Some.is c.in_ok-partial.ensures.at in
    subst (λ (v : PartialPlan). g.B.Board.serves c.search_under.new.board v.problem) at c.search_under.ensures.serves

pub returns-clause-keeps : goal.returns-clause-keeps
returns-clause-keeps g c = λ earlier kept. c.search_under.ensures.keeps earlier (c.open_root.ensures.keeps earlier kept)

pub returns-clause-falls : goal.returns-clause-falls
returns-clause-falls g c = omega (arith, c.search_under.ensures.falls, c.open_root.ensures.falls)
