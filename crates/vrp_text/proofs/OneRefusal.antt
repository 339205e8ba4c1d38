-- A CVRP file is refused for one reason, and then it means no problem.
use Rattle.std.proofs.Common.{◌≡◌, ◌≢◌, ℕ, true, false, Option, Result, Ok, Err, List, [], inl, inr, refl, ap, sym, ◌∙◌, subst, arith}
use Rattle.vrp_model.specs.Grid.{Grid}
use Rattle.vrp_model.specs.Problem.{Problem}
use Rattle.vrp_model.specs.Refusal.{IsRefusal}
use Rattle.vrp_model.specs.Request.{Request, IsAcceptable, is_listed}
use Rattle.vrp_model.specs.declared.instance.InstanceError.{InstanceError}
use Rattle.vrp_model.specs.declared.instance.InstanceError.TheVariants as refusal
use Rattle.vrp_text.specs.Complete.{Complete}
use Rattle.vrp_text.specs.Meaning.{MeansNoInstance, MeansProblem, MeansRefusal, reading_of, request_from}
use Rattle.vrp_text.specs.declared.error.TextError.{TextError}
use Rattle.vrp_text.specs.declared.error.TextError.TheVariants as error
use Rattle.vrp_text.proofs.OneProblem.{one_ok}

one_err : (answer : Result Complete TextError) (e f : TextError) → answer ≡ Err e → answer ≡ Err f → e ≡ f
one_err answer e f p q = cc

ok_or_err : (answer : Result Complete TextError) (complete : Complete) (e : TextError) → answer ≡ Ok complete → answer ≡ Err e → ⊥
ok_or_err answer complete e p q = cc

-- ---- refusals of a request

listed_or_not : (depots : List ℕ) (node chosen : ℕ) → node ≡ chosen → is_listed depots node ≡ false → is_listed depots chosen ≡ true → ⊥
listed_or_not depots node chosen same unlisted listed =
    let never : true ≡ false = sym listed ∙ ap (is_listed depots) (sym same) ∙ unlisted in
    cc

one_fault : (r : Request) (e f : InstanceError) → e ≢ refusal.OutOfMemory → f ≢ refusal.OutOfMemory → IsRefusal r e → IsRefusal r f → e ≡ f
one_fault r refusal.OutOfMemory f p q a b = absurd (p refl)
one_fault r (refusal.DepotDemand n) refusal.OutOfMemory p q a b = absurd (q refl)
one_fault r (refusal.DepotDemand n) (refusal.DepotDemand m) p q a b =
    let low = a.lowest m b.has in
    let high = b.lowest n a.has in
    ap refusal.DepotDemand (omega (arith, low, high))
one_fault r (refusal.DepotDemand n) (refusal.NotADepot m) p q a b = absurd (b.0 n a.has)
one_fault r (refusal.DepotDemand n) (refusal.DemandOverCapacity m) p q a b = absurd (b.0 n a.has)
one_fault r (refusal.NotADepot n) refusal.OutOfMemory p q a b = absurd (q refl)
one_fault r (refusal.NotADepot n) (refusal.DepotDemand m) p q a b = absurd (a.0 m b.has)
one_fault r (refusal.NotADepot n) (refusal.NotADepot m) p q a b = ap refusal.NotADepot (a.1 ∙ sym b.1)
one_fault r (refusal.NotADepot n) (refusal.DemandOverCapacity m) p q a b = absurd (listed_or_not r.depots n r.chosen a.1 a.2 b.1)
one_fault r (refusal.DemandOverCapacity n) refusal.OutOfMemory p q a b = absurd (q refl)
one_fault r (refusal.DemandOverCapacity n) (refusal.DepotDemand m) p q a b = absurd (a.0 m b.has)
one_fault r (refusal.DemandOverCapacity n) (refusal.NotADepot m) p q a b = absurd (listed_or_not r.depots m r.chosen b.1 b.2 a.1)
one_fault r (refusal.DemandOverCapacity n) (refusal.DemandOverCapacity m) p q a b =
    let low = a.2.lowest m b.2.has in
    let high = b.2.lowest n a.2.has in
    ap refusal.DemandOverCapacity (omega (arith, low, high))

not_refused : (r : Request) (e : InstanceError) → e ≢ refusal.OutOfMemory → IsAcceptable r → IsRefusal r e → ⊥
not_refused r refusal.OutOfMemory p a b = p refl
not_refused r (refusal.DepotDemand n) p a b = a.depots_empty n b.has
not_refused r (refusal.NotADepot n) p a b = listed_or_not r.depots n r.chosen b.1 b.2 a.chosen_listed
not_refused r (refusal.DemandOverCapacity n) p a b = a.customers_fit n b.2.has

-- ---- refusals of a file

-- a grid of no weights, for what holds whatever the weights are
abbrev pub no_grid : Grid
no_grid = record { nodes = 0; entries = [] }

no_instance_once : (bytes : List ℕ) (chosen : Option ℕ) (e f : InstanceError) → MeansNoInstance bytes chosen e → MeansNoInstance bytes chosen f → e ≡ f
no_instance_once bytes chosen e f a b =
    let same : a.complete ≡ b.complete = one_ok (reading_of bytes) a.complete b.complete a.read b.read in
    let Over : Complete → Type 0 = λ c. IsRefusal (request_from c chosen no_grid) f in
    let other = subst Over (sym same) (b.refused no_grid) in
    one_fault (request_from a.complete chosen no_grid) e f a.of_file b.of_file (a.refused no_grid) other

-- a file is refused for one reason
pub MeansRefusal-one : (bytes : List ℕ) (chosen : Option ℕ) (e f : TextError) → MeansRefusal bytes chosen e → MeansRefusal bytes chosen f → e ≡ f
MeansRefusal-one bytes chosen e f (inl a) (inl b) = one_err (reading_of bytes) e f a b
MeansRefusal-one bytes chosen e f (inl a) (inr b) = absurd (ok_or_err (reading_of bytes) b.2.complete e b.2.read a)
MeansRefusal-one bytes chosen e f (inr a) (inl b) = absurd (ok_or_err (reading_of bytes) a.2.complete f a.2.read b)
MeansRefusal-one bytes chosen e f (inr a) (inr b) = a.1 ∙ ap error.Instance (no_instance_once bytes chosen a.0 b.0 a.2 b.2) ∙ sym b.1

-- a file that means a problem is not refused
pub not_both : (bytes : List ℕ) (chosen : Option ℕ) (p : Problem) (e : TextError) → MeansProblem bytes chosen p → MeansRefusal bytes chosen e → ⊥
not_both bytes chosen p e a (inl b) = ok_or_err (reading_of bytes) a.complete e a.read b
not_both bytes chosen p e a (inr b) =
    let none = b.2 in
    let same : a.complete ≡ none.complete = one_ok (reading_of bytes) a.complete none.complete a.read none.read in
    let Over : Complete → Type 0 = λ c. IsRefusal (request_from c chosen a.grid) b.0 in
    let other = subst Over (sym same) (none.refused a.grid) in
    not_refused (request_from a.complete chosen a.grid) b.0 none.of_file a.acceptable other
