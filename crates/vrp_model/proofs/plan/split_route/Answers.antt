use Rattle.vrp_model.proofs.WordReading.{splits}
use Rattle.vrp_model.proofs.plan.split_route.Goals as goal

pub returns-clause-whole : goal.returns-clause-whole
returns-clause-whole c = (splits c.args.word.now c.stops_len-end.result c.requires.end c.requires.some c.stops_len-end.ensures.value).whole

pub returns-clause-stops : goal.returns-clause-stops
returns-clause-stops c = (splits c.args.word.now c.stops_len-end.result c.requires.end c.requires.some c.stops_len-end.ensures.value).stops

pub returns-clause-some : goal.returns-clause-some
returns-clause-some c = (splits c.args.word.now c.stops_len-end.result c.requires.end c.requires.some c.stops_len-end.ensures.value).some

pub returns-clause-end : goal.returns-clause-end
returns-clause-end c = (splits c.args.word.now c.stops_len-end.result c.requires.end c.requires.some c.stops_len-end.ensures.value).end
