use Rattle.std.proofs.Common.{◌≡◌, ◌≢◌, ◌↔◌, ◌∙◌, ℕ, length, set, if◌then◌else◌, ◌+◌, ◌<◌, ◌++◌, ◌∷◌, [], List, Bool, true, false, get_or, inl, inr, None, Some, ap, sym, subst, refl, arith}
use Rattle.std.specs.Option.{option_map}
use Rattle.std.specs.HashMap.{get}
use Rattle.std.proofs.lemmas.List.{length-set, length_push}
use Rattle.vrp_routes.specs.Candidates.{IsOffered, cost_at, is_superseded, key_of, kept_for, kept_in, same_key}
use Rattle.vrp_routes.specs.declared.candidates.Candidates.{Candidates}
use Rattle.vrp_routes.specs.declared.candidates.KeptLabel.{KeptLabel}
use Rattle.vrp_routes.proofs.Extensions.{at_end, keyed_offered, no_flag_set, one_flag_set, place_of_kept, some_same}
use Rattle.vrp_routes.proofs.candidates.Candidates.offer.Goals as goal
use Rattle.vrp_routes.proofs.candidates.Candidates.offer.Goals.{in-Some+else-kept-label, in_default}

pub index_mut-requires : goal.index_mut-requires
index_mut-requires g c =
    let old = c.args.self.now in
    let key = key_of c.args.label in
    let kept = c.in-Some.kept.now in
    let (within, _) = c.requires.keyed.places key kept.at (place_of_kept old key kept (sym c.in-Some.ensures.value)) in
    omega (arith, within, c.requires.keyed.one_flag_each, old.superseded.ok)

pub returns-then-kept-label-clause-offered : goal.returns-then-kept-label-clause-offered
returns-then-kept-label-clause-offered g c =
    let old = c.args.self.now in
    let kept = c.in-Some.kept.now in
    let there : kept_in old (key_of c.args.label) ≡ Some kept = sym c.in-Some.ensures.value in
    inl (record {
      same = refl;
      at = kept.at;
      kept = place_of_kept old (key_of c.args.label) kept there;
      no_costlier = omega (arith, c.if-kept-label.true, c.requires.keyed.costs (key_of c.args.label) kept there);
    })

pub returns-clause-offered : goal.returns-clause-offered
returns-clause-offered g c =
    let old = c.args.self.now in
    let label = c.args.label in
    let key = key_of label in
    let middle = c.match-get.self in
    let new : Candidates g.row.X.Denot = record { share = middle.share; labels = c.push.new.self; superseded = c.push-2.new.self; kept = c.insert.new.self } in
    let place = length old.labels.items in
    let taken : middle.share ≡ old.share → middle.labels ≡ old.labels → middle.kept ≡ old.kept → length middle.superseded.items ≡ length old.superseded.items
    → ((at : ℕ) → kept_for old key ≡ Some at → label.cost < cost_at old at)
    → ((at : ℕ) → at < length old.superseded.items → (is_superseded new at ≡ false) ↔ ((is_superseded old at ≡ false) × (kept_for old key ≢ Some at)))
    → IsOffered old label new = λ share labels map long cheaper flags. inr (record {
      share = share;
      longer = c.in_ok-push.ensures.items ∙ ap (λ (v : _). v.items ++ label ∷ []) labels;
      cheaper = cheaper;
      kept = λ other.
          let count : c.len.result ≡ place = omega (arith, c.len.ensures, middle.labels.ok, ap (λ (v : _). length v.items) labels) in
          c.in_ok-insert.ensures.updates.0 other
          ∙ ap (λ n. if same_key key other then Some (record { at = n; cost = label.cost }) else get same_key middle.kept other) count
          ∙ ap (λ (m : _). if same_key key other then Some (record { at = place; cost = label.cost }) else get same_key m other) map;
      one_flag_more = ap length c.in_ok-push-2.ensures.items ∙ length_push middle.superseded.items false ∙ ap (λ n. n + 1) long;
      first_flags = flags;
      last_flag = subst (λ n. is_superseded new n ≡ false) long (ap (λ (flags : List Bool). get_or flags (length middle.superseded.items) true) c.in_ok-push-2.ensures.items ∙ at_end middle.superseded.items false true);
    }) in
    elim c.match-get.branch [
      | in-Some+else-kept-label w ↦
          let kept = w.in-Some.kept.now in
          let there : kept_in old key ≡ Some kept = sym w.in-Some.ensures.value in
          let flags : middle.superseded.items ≡ set old.superseded.items kept.at true = ap (λ (l : Candidates g.row.X.Denot). l.superseded.items) w.self-is in
          taken (ap (λ (l : Candidates g.row.X.Denot). l.share) w.self-is) (ap (λ (l : Candidates g.row.X.Denot). l.labels) w.self-is) (ap (λ (l : Candidates g.row.X.Denot). l.kept) w.self-is)
          (ap length flags ∙ length-set old.superseded.items kept.at true)
          (λ at is.
          let same : kept.at ≡ at = some_same kept.at at (sym (place_of_kept old key kept there) ∙ is) in
          subst (λ n. label.cost < cost_at old n) same (omega (arith, w.if-kept-label.false, c.requires.keyed.costs key kept there)))
          (λ at lt. one_flag_set old.superseded.items new.superseded.items (kept_for old key) kept.at at (c.in_ok-push-2.ensures.items ∙ ap (λ (xs : List Bool). xs ++ false ∷ []) flags) (place_of_kept old key kept there) lt)
      | in_default w ↦
          let none : kept_for old key ≡ None = sym (ap (option_map (λ (kept : KeptLabel). kept.at)) w.in_default.ensures.value) in
          taken (ap (λ (l : Candidates g.row.X.Denot). l.share) w.self-is) (ap (λ (l : Candidates g.row.X.Denot). l.labels) w.self-is) (ap (λ (l : Candidates g.row.X.Denot). l.kept) w.self-is) (ap (λ (l : Candidates g.row.X.Denot). length l.superseded.items) w.self-is)
          (λ at is. absurd (let never : None ≡ Some at = sym none ∙ is in cc))
          (λ at lt. no_flag_set old.superseded.items new.superseded.items (kept_for old key) at (c.in_ok-push-2.ensures.items ∙ ap (λ (l : Candidates g.row.X.Denot). l.superseded.items ++ false ∷ []) w.self-is) none lt)
    ]

pub returns-clause-keyed : goal.returns-clause-keyed
returns-clause-keyed g c = keyed_offered c.args.self.now _ c.args.label c.requires.keyed (returns-clause-offered g c)
