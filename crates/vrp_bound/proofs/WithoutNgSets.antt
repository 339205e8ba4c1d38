-- Walks without ng-sets are the q-routes, and what a feasible word adds to a prefix is a completion by them.
use Rattle.std.proofs.Common.{◌≡◌, ℕ, ◌+◌, List, ◌++◌, get_or}
use Rattle.std.specs.List.{All, Contains}
use Rattle.vrp_model.specs.Prefix.{open_load}
use Rattle.vrp_model.specs.Problem.{IsProblem, Problem}
use Rattle.vrp_model.specs.Route.{load_of}
use Rattle.vrp_model.specs.Word.{IsLawfulWord, last_symbol, unserved_in, word_cost}
use Rattle.vrp_bound.specs.NgWalks.{IsLeastNgRelaxed, IsNgRelaxed, IsNgTour, IsNgWalk, NoneNgRelaxed, nothing_near}
use Rattle.vrp_bound.specs.Walk.{IsLeastRelaxed, IsRelaxed, IsTour, IsWalk, NoneRelaxed, relaxed_cost}
use Rattle.vrp_bound.proofs.NothingNear.{differ_from_fresh, fresh_from_differ}
use Rattle.vrp_bound.proofs.NgCompletions.{ng_completion}

-- an ng-walk is a walk
pub ng_is_walk : (p : Problem) (near : ℕ → List ℕ) (among : List ℕ) (at : ℕ) (stops : List ℕ) → IsNgWalk p near among at stops → IsWalk p among at stops
ng_is_walk p near among at stops walk = record { within = walk.within; differ = differ_from_fresh near at stops walk.fresh }

ng_is_tour : (p : Problem) (near : ℕ → List ℕ) (among stops : List ℕ) → IsNgTour p near among stops → IsTour p among stops
ng_is_tour p near among stops tour = record { leaves = tour.leaves; walks = ng_is_walk p near among 0 stops tour.walks; fits = tour.fits }

pub ng_is_relaxed : (p : Problem) (near : ℕ → List ℕ) (among : List ℕ) (at load rest : ℕ) (home : List ℕ) (tours : List (List ℕ)) → IsNgRelaxed p near among at load rest home tours → IsRelaxed p among at load rest home tours
ng_is_relaxed p near among at load rest home tours is = record {
  walks = ng_is_walk p near among at home is.walks;
  none_out = is.none_out;
  fits = is.fits;
  each = λ k d lt. ng_is_tour p near among (get_or tours k d) (is.each k d lt);
  whole = is.whole;
}

-- without ng-sets a walk is an ng-walk
pub walk_is_ng : (p : Problem) (among : List ℕ) (at : ℕ) (stops : List ℕ) → IsWalk p among at stops → IsNgWalk p nothing_near among at stops
walk_is_ng p among at stops walk = record { within = walk.within; fresh = fresh_from_differ at stops walk.differ }

tour_is_ng : (p : Problem) (among stops : List ℕ) → IsTour p among stops → IsNgTour p nothing_near among stops
tour_is_ng p among stops tour = record { leaves = tour.leaves; walks = walk_is_ng p among 0 stops tour.walks; fits = tour.fits }

relaxed_is_ng : (p : Problem) (among : List ℕ) (at load rest : ℕ) (home : List ℕ) (tours : List (List ℕ)) → IsRelaxed p among at load rest home tours → IsNgRelaxed p nothing_near among at load rest home tours
relaxed_is_ng p among at load rest home tours is = record {
  walks = walk_is_ng p among at home is.walks;
  none_out = is.none_out;
  fits = is.fits;
  each = λ k d lt. tour_is_ng p among (get_or tours k d) (is.each k d lt);
  whole = is.whole;
}

pub none_without : (p : Problem) (among : List ℕ) (at load rest : ℕ) → NoneNgRelaxed p nothing_near among at load rest → NoneRelaxed p among at load rest
none_without p among at load rest none = λ home tours is. none home tours (relaxed_is_ng p among at load rest home tours is)

pub least_without : (p : Problem) (among : List ℕ) (at load rest cost : ℕ) → IsLeastNgRelaxed p nothing_near among at load rest cost → IsLeastRelaxed p among at load rest cost
least_without p among at load rest cost least =
    let (home, tours, is, costs) = least.met in
    record {
      met = (home, tours, ng_is_relaxed p nothing_near among at load rest home tours is, costs);
      least = λ home tours is. least.least home tours (relaxed_is_ng p among at load rest home tours is);
    }

pub completion : (p : Problem) (prefix more among : List ℕ) → IsProblem p → IsLawfulWord p (prefix ++ more) → All (Contains among) (unserved_in p prefix)
    → (home : List ℕ) × (tours : List (List ℕ)) × IsRelaxed p among (last_symbol prefix) (open_load p prefix) (load_of p (unserved_in p prefix)) home tours
    × (word_cost p prefix + relaxed_cost p (last_symbol prefix) home tours ≡ word_cost p (prefix ++ more))
completion p prefix more among problem lawful covered =
    let (home, tours, relaxed, costs) = ng_completion p nothing_near prefix more among problem lawful covered in
    (home, tours, ng_is_relaxed p nothing_near among (last_symbol prefix) (open_load p prefix) (load_of p (unserved_in p prefix)) home tours relaxed, costs)
