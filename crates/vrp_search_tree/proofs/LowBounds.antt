-- What a word under a prefix costs at least, by the tables.
use Rattle.std.proofs.Common.{◌≡◌, ◌⊎◌, inl, inr, ℕ, ◌+◌, ◌-◌, ◌≤◌, ◌<◌, Option, Some, None, get_or, refl, List, [], ◌∷◌, ◌++◌, append-nil, append_assoc, sym, ap, subst, ◌∙◌, arith}
use Rattle.std.specs.List.{Contains}
use Rattle.std.specs.Option.{option_map}
use Rattle.std.specs.Prelude.{MatchOption}
use Rattle.std.proofs.lemmas.List.Elements.{All-contains, Contains-get_or}
use Rattle.vrp_bound.specs.Bound.{IsLowerBound}
use Rattle.vrp_bound.specs.Capacity.{IsInboundSumOf}
use Rattle.vrp_model.specs.Prefix.{open_load, routes_left}
use Rattle.vrp_model.specs.Problem.{IsProblem, Problem, demand_of}
use Rattle.vrp_model.specs.Route.{load_of}
use Rattle.vrp_model.specs.Word.{BeginsWith, IsLawfulWord, NoneCheaperUnder, last_symbol, unserved_in, word_cost}
use Rattle.vrp_model.proofs.UnservedCustomers.{unserved_before, unserved_distinct}
use Rattle.vrp_search_tree.specs.Low.{AreCovered, IsLow}
use Rattle.vrp_search_tree.specs.Pruned.{NoneOfUse}
use Rattle.vrp_search_tree.specs.Inner.Tallied.{IsLowOf}
use Rattle.vrp_search_tree.specs.Tally.{IsTally}
use Rattle.vrp_search_tree.specs.declared.tally.Tally.{Tally}
use Rattle.vrp_model.proofs.DistinctWithin.{sum_among}

-- what holds of a word's numbers holds of the word
pub low_is : (p : Problem) (among prefix : List ℕ) (t : Tally) (low : Option ℕ) → IsTally p prefix t → IsLowOf p among (last_symbol prefix) t low → IsLow p among prefix low
low_is p among prefix t low tally is_low = record {
  inbound_sum = t.inbound_sum;
  is_inbound_sum = tally.inbound_sum;
  bound = is_low.bound;
  is_bound = subst (λ routes. IsLowerBound p among (last_symbol prefix) (open_load p prefix) t.inbound_sum (load_of p (unserved_in p prefix)) (option_map (λ trucks. trucks - routes) p.trucks) is_low.bound) tally.routes
      (subst (λ rest. IsLowerBound p among (last_symbol prefix) (open_load p prefix) t.inbound_sum rest (option_map (λ trucks. trucks - t.routes) p.trucks) is_low.bound) tally.rest
      (subst (λ load. IsLowerBound p among (last_symbol prefix) load t.inbound_sum t.rest (option_map (λ trucks. trucks - t.routes) p.trucks) is_low.bound) tally.load is_low.is_bound));
  whole = is_low.whole ∙ ap (λ cost. option_map (λ more. cost + more) is_low.bound) tally.cost;
}

-- the tables' customers demand no less than the unserved ones, who are among them
pub rest_within : (p : Problem) (among prefix : List ℕ) → AreCovered p among prefix → load_of p (unserved_in p prefix) ≤ load_of p among
rest_within p among prefix covered = sum_among (demand_of p) (unserved_in p prefix) among (unserved_distinct p prefix) covered

-- who is covered at a prefix is covered at each word that goes on behind it
covered_next : (p : Problem) (among prefix : List ℕ) (k : ℕ) → AreCovered p among prefix → AreCovered p among (prefix ++ k ∷ [])
covered_next p among prefix k covered = λ i d lt.
    All-contains (Contains among) (unserved_in p prefix) (get_or (unserved_in p (prefix ++ k ∷ [])) i d) covered
    (unserved_before p prefix k (get_or (unserved_in p (prefix ++ k ∷ [])) i d) (Contains-get_or (unserved_in p (prefix ++ k ∷ [])) i d lt))

pub covered_more : (p : Problem) (among prefix more : List ℕ) → AreCovered p among prefix → AreCovered p among (prefix ++ more)
covered_more p among prefix [] covered = subst (AreCovered p among) (sym (append-nil prefix)) covered
covered_more p among prefix (k ∷ more) covered = subst (AreCovered p among) (append_assoc prefix (k ∷ []) more) (covered_more p among (prefix ++ k ∷ []) more (covered_next p among prefix k covered))

pub covered_under : (p : Problem) (among root word : List ℕ) → AreCovered p among root → BeginsWith word root → AreCovered p among word
covered_under p among root word covered begins = subst (AreCovered p among) (sym begins.1) (covered_more p among root begins.0 covered)

-- ---- no word under a prefix costs less

abbrev pub BoundsHold : Type 0
BoundsHold = (p : Problem) (prefix more among : List ℕ) (inbound_sum : ℕ) (answer : Option ℕ) → IsProblem p → IsLawfulWord p (prefix ++ more) → AreCovered p among prefix → IsInboundSumOf p prefix inbound_sum
    → IsLowerBound p among (last_symbol prefix) (open_load p prefix) inbound_sum (load_of p (unserved_in p prefix)) (routes_left p prefix) answer → MatchOption answer ⊥ (λ least. word_cost p prefix + least ≤ word_cost p (prefix ++ more))

abbrev pub NoneUnder : Problem → List ℕ → Option ℕ → Type 0
NoneUnder p prefix low = MatchOption low ((w : List ℕ) → IsLawfulWord p w → BeginsWith w prefix → ⊥) (NoneCheaperUnder p prefix)

by_bound : BoundsHold → (p : Problem) (among prefix : List ℕ) (inbound_sum : ℕ) (bound : Option ℕ) → IsProblem p → AreCovered p among prefix → IsInboundSumOf p prefix inbound_sum
    → IsLowerBound p among (last_symbol prefix) (open_load p prefix) inbound_sum (load_of p (unserved_in p prefix)) (routes_left p prefix) bound → NoneUnder p prefix (option_map (λ more. word_cost p prefix + more) bound)
by_bound law p among prefix inbound_sum None problem covered is_inbound_sum is_bound = λ w lawful begins. law p prefix begins.0 among inbound_sum None problem (subst (IsLawfulWord p) begins.1 lawful) covered is_inbound_sum is_bound
by_bound law p among prefix inbound_sum (Some more) problem covered is_inbound_sum is_bound = λ w lawful begins.
    omega (arith, law p prefix begins.0 among inbound_sum (Some more) problem (subst (IsLawfulWord p) begins.1 lawful) covered is_inbound_sum is_bound, ap (word_cost p) begins.1)

pub none_under : BoundsHold → (p : Problem) (among prefix : List ℕ) (low : Option ℕ) → IsProblem p → AreCovered p among prefix → IsLow p among prefix low → NoneUnder p prefix low
none_under law p among prefix low problem covered is_low = subst (NoneUnder p prefix) (sym is_low.whole) (by_bound law p among prefix is_low.inbound_sum is_low.bound problem covered is_low.is_inbound_sum is_low.is_bound)

pub none_left : (p : Problem) (prefix : List ℕ) (low : Option ℕ) → NoneUnder p prefix low → ((least : ℕ) → low ≡ Some least → ⊥) → (w : List ℕ) → IsLawfulWord p w → BeginsWith w prefix → ⊥
none_left p prefix None none not_some = none
none_left p prefix (Some least) none not_some = absurd (not_some least refl)

-- ---- no word under a prefix is of use

pub none_if_no_completion : (p : Problem) (prefix : List ℕ) (least own : ℕ) → ((w : List ℕ) → IsLawfulWord p w → BeginsWith w prefix → ⊥) → NoneOfUse p prefix least own
none_if_no_completion p prefix least own none = λ w lawful begins. absurd (none w lawful begins)

pub none_if_costlier : (p : Problem) (prefix : List ℕ) (low least own : ℕ) → NoneCheaperUnder p prefix low → (least < low) ⊎ (own ≤ low) → NoneOfUse p prefix least own
none_if_costlier p prefix low least own none (inl above) = λ w lawful begins. inl (omega (arith, above, none w lawful begins))
none_if_costlier p prefix low least own none (inr no_less) = λ w lawful begins. inr (omega (arith, no_less, none w lawful begins))
