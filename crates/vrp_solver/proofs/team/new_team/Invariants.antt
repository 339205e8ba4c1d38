use Rattle.std.proofs.Common.{◌≡◌, ◌+◌, vec_len}
use Rattle.std.specs.List.{All}
use Rattle.vrp_sharing.specs.Pile.{IsNewThief}
use Rattle.vrp_solver.specs.Inner.Workers.{AreNewCallers}
use Rattle.vrp_solver.proofs.Teams.{AreNewHelpers}
use Rattle.vrp_solver.proofs.team.new_team.Given as goal

abbrev pub invariant-loop-thief : goal.invariant-loop-thief
invariant-loop-thief g l = record {
  thieves : All (IsNewThief l.fn.owner) l.thieves.items;
  callers : AreNewCallers l.register l.callers.items;
  as_many : vec_len l.callers ≡ vec_len l.thieves + 1;
  helpers : AreNewHelpers l.shared l.register l.fn.owner l.helpers.items;
  many : vec_len l.helpers + vec_len l.thieves ≡ vec_len l.fn.thieves;
}

abbrev pub decreases-loop-thief : goal.decreases-loop-thief
decreases-loop-thief g l = vec_len l.thieves
