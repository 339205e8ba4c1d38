-- Each step keeps the rule of the cost word.
use Rattle.std.proofs.Common.{◌≡◌, ◌≢◌, ◌⊎◌, ℕ, zero, suc, ◌+◌, ◌<◌, ◌==◌, min, List, [], ◌∷◌, ◌++◌, length, set, true, false, true≢false, refl, sym, ap, ◌∙◌, subst, ⊎_elim, inl, inr, arith, append_assoc, cond, eq-eqb, ne_eqb}
use Rattle.std.specs.List.{All, AllPairs}
use Rattle.std.specs.Prelude.{slice_index}
use Rattle.std.proofs.lemmas.List.{append-nil, length-set}
use Rattle.std.proofs.lemmas.List.Elements.{All-nil, All-cons, All-append, All-push, All-head, All-tail, filter-append}
use mathlib.Core.Option.{none, some, some-ne-none, some-injective}
use lib.ListN.{get_elem?}
use Rattle.atomic_table.specs.Table.{keeps, step, Allows, Splits, Joins, opening}
use Rattle.atomic_table.proofs.Lists.{at_set}
use Rattle.vrp_sharing.specs.declared.view.Offer.{Offer}
use Rattle.vrp_sharing.specs.declared.view.Known.{Known}
use Rattle.vrp_sharing.specs.declared.view.View.{View}
use Rattle.vrp_sharing.specs.Costs.{IsKnown, StartsWith, least_of, newcomer, offers_by}
use Rattle.vrp_sharing.specs.Inner.Kept.{Fits, IsCostState}
use Rattle.vrp_sharing.specs.Inner.Seats.{Looks, Offers, made_left, made_right, maker, seat_of, seat_with, spent, taken_in}

off : false ≡ true → ⊥
off e = true≢false (sym e)

least_more : (opening : ℕ) (history : List Offer) (o : Offer) → least_of opening (history ++ o ∷ []) ≡ min (least_of opening history) o.cost
least_more opening [] o = refl
least_more opening (x ∷ history) o = least_more (min opening x.cost) history o

starts_itself : (history : List Offer) → StartsWith history history
starts_itself history = ([], sym (append-nil history))

starts_more : (history seen : List Offer) (o : Offer) → StartsWith history seen → StartsWith (history ++ o ∷ []) seen
starts_more history seen o (rest, is) = (rest ++ o ∷ [], ap (λ h. h ++ o ∷ []) is ∙ append_assoc seen rest (o ∷ []))

by_self : (history : List Offer) (o : Offer) → offers_by o.caller (history ++ o ∷ []) ≡ offers_by o.caller history ++ o ∷ []
by_self history o = rw (filter-append (λ x. x.caller == o.caller) history (o ∷ []), eq-eqb o.caller o.caller refl) refl

by_other : (number : ℕ) (history : List Offer) (o : Offer) → o.caller ≢ number → offers_by number (history ++ o ∷ []) ≡ offers_by number history
by_other number history o other = rw (filter-append (λ x. x.caller == number) history (o ∷ []), ne_eqb o.caller number other, append-nil) refl

one : (P : Known → Type 0) (k : Known) → P k → All P (k ∷ [])
one P k p = All-cons P k [] p (All-nil P)

the_one : (P : Known → Type 0) (k : Known) → All P (k ∷ []) → P k
the_one P k all = All-head P k [] all

alone : (k : Known) → AllPairs (λ (a b : Known). a.number ≢ b.number) (k ∷ [])
alone k i j d less within = absurd (omega arith)

-- the views after a step of one seat, which keeps its number
fits_step : (opening count : ℕ) (history after : List Offer) (views : List View) (place : ℕ → ℕ) (id : ℕ) (k k' : Known) → k'.number ≡ k.number
    → ((at : ℕ) (v : View) → get_elem? views at ≡ some v → Fits opening count history views place at v)
    → get_elem? views id ≡ some (seat_of k)
    → IsKnown opening after k'
    → ((u : Known) → u.number ≢ k.number → IsKnown opening history u → IsKnown opening after u)
    → ((n : ℕ) → k.number < n → All (λ (o : Offer). o.caller < n) history → All (λ (o : Offer). o.caller < n) after)
    → (at : ℕ) (v : View) → get_elem? (set views id (seat_of k')) at ≡ some v → Fits opening count after (set views id (seat_of k')) place at v
fits_step opening count history after views place id k k' same fits here known others below at v is =
    let here_fits = fits id (seat_of k) here in
    let here_placed : place k.number ≡ id = the_one (λ (x : Known). place x.number ≡ id) k here_fits.placed in
    let numbers : (n : ℕ) (j : ℕ) (w : View) → ((i : ℕ) (u : View) → get_elem? views i ≡ some u → All (λ (x : Known). x.number < n) u.callers) → get_elem? (set views id (seat_of k')) j ≡ some w → All (λ (x : Known). x.number < n) w.callers = λ n j w all e.
    ⊎_elim
    (λ (x : (j ≡ id) × (seat_of k' ≡ w)). subst (λ (u : View). All (λ (y : Known). y.number < n) u.callers) x.1 (one (λ (y : Known). y.number < n) k' (rw same (the_one (λ (y : Known). y.number < n) k (all id (seat_of k) here)))))
    (λ (x : (j ≢ id) × (get_elem? views j ≡ some w)). all j w x.1)
    (at_set views id j (seat_of k') w e) in
    ⊎_elim
    (λ (x : (at ≡ id) × (seat_of k' ≡ v)). subst (λ (y : ℕ × View). Fits opening count after (set views id (seat_of k')) place y.0 y.1) (λ i. (sym x.0 i, x.1 i))
    record {
      known = one (IsKnown opening after) k' known;
      placed = one (λ (y : Known). place y.number ≡ id) k' (rw same here_placed);
      apart = alone k';
      below = one (λ (y : Known). y.number < count) k' (rw same (the_one (λ (y : Known). y.number < count) k here_fits.below));
      first = λ c. absurd (off c);
      opens = λ c. absurd (off c);
      made = λ c. absurd (off c);
      numbers = λ c. absurd (off c);
    })
    (λ (x : (at ≢ id) × (get_elem? views at ≡ some v)).
    let f = fits at v x.1 in
    record {
      known = λ i d lt. others _ (λ e. x.0 (sym (f.placed i d lt) ∙ (ap place e ∙ here_placed))) (f.known i d lt);
      placed = f.placed;
      apart = f.apart;
      below = f.below;
      first = f.first;
      opens = f.opens;
      made = λ c. below v.next (the_one (λ (y : Known). y.number < v.next) k (f.numbers c id (seat_of k) here)) (f.made c);
      numbers = λ c j w. numbers v.next j w (f.numbers c);
    })
    (at_set views id at (seat_of k') v is)

pub opens : (c count : ℕ) → IsCostState (c, count) (opening (c ∷ []) [] (maker c 0))
opens c count = record { history = []; place = λ n. 0; word = refl; below = All-nil (λ (o : Offer). o.caller < count); fits = fits }
  where
    fits : (at : ℕ) (v : View) → get_elem? (maker c 0 ∷ []) at ≡ some v → Fits c count [] (maker c 0 ∷ []) (λ n. 0) at v
    fits zero v e = subst (Fits c count [] (maker c 0 ∷ []) (λ n. 0) 0) (some-injective _ _ e) record {
      known = All-nil _;
      placed = All-nil _;
      apart = λ i j d less within. absurd (omega arith);
      below = All-nil _;
      first = λ _. refl;
      opens = λ _. refl;
      made = λ _. All-nil _;
      numbers = λ _. numbers;
    }
      where
        numbers : (j : ℕ) (w : View) → get_elem? (maker c 0 ∷ []) j ≡ some w → All (λ k. k.number < 0) w.callers
        numbers zero w e = subst (λ (u : View). All (λ k. k.number < 0) u.callers) (some-injective _ _ e) (All-nil _)
        numbers (suc j) w e = absurd (some-ne-none w (sym e))
    fits (suc at) v e = absurd (some-ne-none v (sym e))

pub offers : (key : ℕ × ℕ) (slots id cost : ℕ) (k : Known) → Allows (IsCostState key) slots id (seat_of k, []) 0 (λ n. min n cost) (Offers (step slots 0 cost 0 none) (seat_of k, []))
offers key slots id cost k s kept len at small =
    let o : Offer = record { caller = k.number; cost = cost } in
    let history = kept.history ++ o ∷ [] in
    let k' : Known = record { number = k.number; opening = k.opening; seen = history; mine = k.mine ++ o ∷ [] } in
    let mine : IsKnown key.0 kept.history k = the_one (IsKnown key.0 kept.history) k (kept.fits id (seat_of k) at).known in
    let found : slice_index s.words 0 ≡ least_of key.0 kept.history = ap (λ ws. slice_index ws 0) kept.word in (
      seat_of k',
      keeps,
      tt,
      record {
        history = history;
        place = kept.place;
        word = rw (kept.word, least_more key.0 kept.history o) refl;
        below = All-push (λ (x : Offer). x.caller < key.1) kept.history o kept.below (the_one (λ (y : Known). y.number < key.1) k (kept.fits id (seat_of k) at).below);
        fits = fits_step key.0 key.1 kept.history history s.views kept.place id k k' refl kept.fits at
            record { opens = mine.opens; seen = starts_itself history; mine = by_self kept.history o ∙ ap (λ m. m ++ o ∷ []) mine.mine }
            (λ u other is. record { opens = is.opens; seen = starts_more kept.history u.seen o is.seen; mine = by_other u.number kept.history o (λ e. other (sym e)) ∙ is.mine })
            (λ n less all. All-push (λ (x : Offer). x.caller < n) kept.history o all less);
      },
      (
        refl,
        record {
          number = refl;
          opening = refl;
          between = mine.seen.0;
          least = found ∙ (ap (λ h. least_of key.0 h) mine.seen.1 ∙ ap (λ c. least_of c (k.seen ++ mine.seen.0)) (sym mine.opens));
          seen = ap (λ h. h ++ o ∷ []) mine.seen.1;
          mine = refl;
        },
      ),
    )

pub looks : (key : ℕ × ℕ) (slots id : ℕ) (k : Known) → Allows (IsCostState key) slots id (seat_of k, []) 0 (λ n. n) (Looks (step slots 0 0 0 none) (seat_of k, []))
looks key slots id k s kept len at small =
    let history = kept.history in
    let k' : Known = record { number = k.number; opening = k.opening; seen = history; mine = k.mine } in
    let mine : IsKnown key.0 kept.history k = the_one (IsKnown key.0 kept.history) k (kept.fits id (seat_of k) at).known in
    let found : slice_index s.words 0 ≡ least_of key.0 kept.history = ap (λ ws. slice_index ws 0) kept.word in (
      seat_of k',
      keeps,
      tt,
      record {
        history = history;
        place = kept.place;
        word = rw (kept.word) refl;
        below = kept.below;
        fits = fits_step key.0 key.1 history history s.views kept.place id k k' refl kept.fits at
            record { opens = mine.opens; seen = starts_itself history; mine = mine.mine }
            (λ u other is. is)
            (λ n less all. all);
      },
      (
        refl,
        record {
          number = refl;
          opening = refl;
          seen = mine.seen;
          least = found ∙ ap (λ c. least_of c history) (sym mine.opens);
          mine = refl;
        },
      ),
    )

get_more : {A : Type 0} (l : List A) (a b : A) (j : ℕ) → get_elem? (l ++ a ∷ []) j ≡ some b → (get_elem? l j ≡ some b) ⊎ ((j ≡ length l) × (a ≡ b))
get_more [] a b zero e = inr (refl, some-injective a b e)
get_more [] a b (suc j) e = absurd (some-ne-none b (sym e))
get_more (x ∷ l) a b zero e = inl e
get_more (x ∷ l) a b (suc j) e = ⊎_elim (λ (h : get_elem? l j ≡ some b). inl h) (λ (h : (j ≡ length l) × (a ≡ b)). inr (ap suc h.0, h.1)) (get_more l a b j e)

none_by : (number : ℕ) (history : List Offer) → All (λ (o : Offer). o.caller < number) history → offers_by number history ≡ []
none_by number [] all = refl
none_by number (o ∷ history) all =
    rw (ne_eqb o.caller number (λ e. let h = All-head (λ (x : Offer). x.caller < number) o history all in omega arith)) (none_by number history (All-tail (λ (x : Offer). x.caller < number) o history all))

moved_there : (n m : ℕ) (a b : ℕ) → n ≡ m → cond (n == m) a b ≡ a
moved_there n m a b e = rw (eq-eqb n m e) refl

moved_not : (n m : ℕ) (a b : ℕ) → n ≢ m → cond (n == m) a b ≡ b
moved_not n m a b e = rw (ne_eqb n m e) refl

pub makes : (key : ℕ × ℕ) (id first next : ℕ) → next < key.1 → Splits (IsCostState key) id (maker first next) (made_left (maker first next)) (made_right (maker first next))
makes key id first next room s kept at =
    let v = maker first next in
    let left = maker first (next + 1) in
    let right = seat_of (newcomer next first) in
    let after = set s.views id left ++ right ∷ [] in
    let place : ℕ → ℕ = λ n. cond (n == next) (length s.views) (kept.place n) in
    let f = kept.fits id v at in
    let below : (j : ℕ) (w : View) → get_elem? s.views j ≡ some w → All (λ (k : Known). k.number < next) w.callers = f.numbers refl in
    let placed : (j : ℕ) (w : View) → get_elem? s.views j ≡ some w → All (λ (k : Known). kept.place k.number ≡ j) w.callers → All (λ (k : Known). place k.number ≡ j) w.callers =
    λ j w is old i d lt. let less = below j w is i d lt in moved_not _ next _ _ (λ e. omega (arith, less, e)) ∙ old i d lt in
    let numbers : (j : ℕ) (w : View) → get_elem? after j ≡ some w → All (λ (k : Known). k.number < next + 1) w.callers = λ j w e.
    ⊎_elim
    (λ (h : get_elem? (set s.views id left) j ≡ some w). ⊎_elim
    (λ (x : (j ≡ id) × (left ≡ w)). subst (λ (u : View). All (λ (k : Known). k.number < next + 1) u.callers) x.1 (λ i d lt. let less = below id v at i d lt in omega arith))
    (λ (x : (j ≢ id) × (get_elem? s.views j ≡ some w)). λ i d lt. let less = below j w x.1 i d lt in omega arith)
    (at_set s.views id j left w h))
    (λ (h : (j ≡ length (set s.views id left)) × (right ≡ w)). subst (λ (u : View). All (λ (k : Known). k.number < next + 1) u.callers) h.1 (one (λ (k : Known). k.number < next + 1) (newcomer next first) (omega arith)))
    (get_more (set s.views id left) right w j e) in
    record {
      history = kept.history;
      place = place;
      word = kept.word;
      below = kept.below;
      fits = λ j u e. ⊎_elim
          (λ (h : get_elem? (set s.views id left) j ≡ some u). ⊎_elim
          (λ (x : (j ≡ id) × (left ≡ u)). subst (λ (y : ℕ × View). Fits key.0 key.1 kept.history after place y.0 y.1) (λ i. (sym x.0 i, x.1 i)) record {
            known = f.known;
            placed = placed id v at f.placed;
            apart = f.apart;
            below = f.below;
            first = λ _. f.first refl;
            opens = λ _. f.opens refl;
            made = λ _ i d lt. let less = f.made refl i d lt in omega arith;
            numbers = λ _. numbers;
          })
          (λ (x : (j ≢ id) × (get_elem? s.views j ≡ some u)).
          let g = kept.fits j u x.1 in
          let not_maker : u.makes ≡ true → ⊥ = λ c. x.0 (g.first c ∙ sym (f.first refl)) in
          record {
            known = g.known;
            placed = placed j u x.1 g.placed;
            apart = g.apart;
            below = g.below;
            first = g.first;
            opens = g.opens;
            made = g.made;
            numbers = λ c. absurd (not_maker c);
          })
          (at_set s.views id j left u h))
          (λ (h : (j ≡ length (set s.views id left)) × (right ≡ u)). subst (λ (y : ℕ × View). Fits key.0 key.1 kept.history after place y.0 y.1) (λ i. (sym h.0 i, h.1 i)) record {
            known = one (IsKnown key.0 kept.history) (newcomer next first) record { opens = f.opens refl; seen = (kept.history, refl); mine = none_by next kept.history (f.made refl) };
            placed = one (λ (k : Known). place k.number ≡ length (set s.views id left)) (newcomer next first) (moved_there next next _ _ refl ∙ sym (length-set s.views id left));
            apart = alone (newcomer next first);
            below = one (λ (k : Known). k.number < key.1) (newcomer next first) room;
            first = λ c. absurd (off c);
            opens = λ c. absurd (off c);
            made = λ c. absurd (off c);
            numbers = λ c. absurd (off c);
          })
          (get_more (set s.views id left) right u j e);
    }

all_apart : (k : Known) (ks : List Known) → All (λ (x : Known). x.number ≢ k.number) ks → AllPairs (λ (a b : Known). a.number ≢ b.number) ks → AllPairs (λ (a b : Known). a.number ≢ b.number) (k ∷ ks)
all_apart k ks other apart zero zero d less within = absurd (omega arith)
all_apart k ks other apart zero (suc j) d less within = λ e. other j d (omega arith) (sym e)
all_apart k ks other apart (suc i) zero d less within = absurd (omega arith)
all_apart k ks other apart (suc i) (suc j) d less within = apart i j d (omega arith) (omega arith)

pub takes : (key : ℕ × ℕ) (id other : ℕ) (callers : List Known) (k : Known)
    → Joins (IsCostState key) id (seat_with callers) other (seat_of k) (taken_in (seat_with callers) (seat_of k)) spent
takes key id other callers k s kept at apart there =
    let v = seat_with callers in
    let w = seat_of k in
    let both = seat_with (k ∷ callers) in
    let after = set (set s.views id both) other spent in
    let place : ℕ → ℕ = λ n. cond (n == k.number) id (kept.place n) in
    let f = kept.fits id v at in
    let there' : get_elem? s.views other ≡ some w = ⊎_elim
    (λ (x : (other ≡ id) × (both ≡ w)). absurd (apart x.0))
    (λ (x : (other ≢ id) × (get_elem? s.views other ≡ some w)). x.1)
    (at_set s.views id other both w there) in
    let g = kept.fits other w there' in
    let at_other : kept.place k.number ≡ other = the_one (λ (x : Known). kept.place x.number ≡ other) k g.placed in
    let elsewhere : (j : ℕ) (u : View) → j ≢ other → All (λ (x : Known). kept.place x.number ≡ j) u.callers → All (λ (x : Known). x.number ≢ k.number) u.callers =
    λ j u no old i d lt e. no (sym (old i d lt) ∙ (ap kept.place e ∙ at_other)) in
    let placed : (j : ℕ) (u : View) → j ≢ other → All (λ (x : Known). kept.place x.number ≡ j) u.callers → All (λ (x : Known). place x.number ≡ j) u.callers =
    λ j u no old i d lt. moved_not _ k.number _ _ (elsewhere j u no old i d lt) ∙ old i d lt in
    let id_apart : id ≢ other = λ e. apart (sym e) in
    let numbers : (n : ℕ) → ((j : ℕ) (u : View) → get_elem? s.views j ≡ some u → All (λ (x : Known). x.number < n) u.callers) → (j : ℕ) (u : View) → get_elem? after j ≡ some u → All (λ (x : Known). x.number < n) u.callers = λ n all j u e.
    ⊎_elim
    (λ (x : (j ≡ other) × (spent ≡ u)). subst (λ (y : View). All (λ (x : Known). x.number < n) y.callers) x.1 (All-nil (λ (x : Known). x.number < n)))
    (λ (x : (j ≢ other) × (get_elem? (set s.views id both) j ≡ some u)). ⊎_elim
    (λ (y : (j ≡ id) × (both ≡ u)). subst (λ (z : View). All (λ (x : Known). x.number < n) z.callers) y.1 (All-append (λ (x : Known). x.number < n) (k ∷ []) callers (all other w there') (all id v at)))
    (λ (y : (j ≢ id) × (get_elem? s.views j ≡ some u)). all j u y.1)
    (at_set s.views id j both u x.1))
    (at_set (set s.views id both) other j spent u e) in
    record {
      history = kept.history;
      place = place;
      word = kept.word;
      below = kept.below;
      fits = λ j u e. ⊎_elim
          (λ (x : (j ≡ other) × (spent ≡ u)). subst (λ (y : ℕ × View). Fits key.0 key.1 kept.history after place y.0 y.1) (λ i. (sym x.0 i, x.1 i)) record {
            known = All-nil (IsKnown key.0 kept.history);
            placed = All-nil (λ (y : Known). place y.number ≡ other);
            apart = λ i j d less within. absurd (omega arith);
            below = All-nil (λ (y : Known). y.number < key.1);
            first = λ c. absurd (off c);
            opens = λ c. absurd (off c);
            made = λ c. absurd (off c);
            numbers = λ c. absurd (off c);
          })
          (λ (x : (j ≢ other) × (get_elem? (set s.views id both) j ≡ some u)). ⊎_elim
          (λ (y : (j ≡ id) × (both ≡ u)). subst (λ (z : ℕ × View). Fits key.0 key.1 kept.history after place z.0 z.1) (λ i. (sym y.0 i, y.1 i)) record {
            known = All-append (IsKnown key.0 kept.history) (k ∷ []) callers g.known f.known;
            placed = All-append (λ (z : Known). place z.number ≡ id) (k ∷ []) callers (one (λ (z : Known). place z.number ≡ id) k (moved_there k.number k.number _ _ refl)) (placed id v id_apart f.placed);
            apart = all_apart k callers (elsewhere id v id_apart f.placed) f.apart;
            below = All-append (λ (z : Known). z.number < key.1) (k ∷ []) callers g.below f.below;
            first = λ c. absurd (off c);
            opens = λ c. absurd (off c);
            made = λ c. absurd (off c);
            numbers = λ c. absurd (off c);
          })
          (λ (y : (j ≢ id) × (get_elem? s.views j ≡ some u)).
          let h = kept.fits j u y.1 in
          record {
            known = h.known;
            placed = placed j u x.0 h.placed;
            apart = h.apart;
            below = h.below;
            first = h.first;
            opens = h.opens;
            made = h.made;
            numbers = λ c. numbers u.next (h.numbers c);
          })
          (at_set s.views id j both u x.1))
          (at_set (set s.views id both) other j spent u e);
    }
