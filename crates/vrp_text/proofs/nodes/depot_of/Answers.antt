use Rattle.vrp_text.proofs.nodes.depot_of.Goals as goal

pub returns-then-number-lt1-clause-node : goal.returns-then-number-lt1-clause-node
returns-then-number-lt1-clause-node c = tt

pub returns-then-number-lt1-clause-value : goal.returns-then-number-lt1-clause-value
returns-then-number-lt1-clause-value c = tt

pub returns-then-number-lt1-clause-within : goal.returns-then-number-lt1-clause-within
returns-then-number-lt1-clause-within c = tt

pub returns-clause-no_node : goal.returns-clause-no_node
returns-clause-no_node c = tt

pub returns-clause-refused : goal.returns-clause-refused
returns-clause-refused c = tt
