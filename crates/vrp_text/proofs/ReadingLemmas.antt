-- The parts of a file while they are read.
use Rattle.std.proofs.Common.{◌≡◌, ℕ, ◌+◌, Bool, true, false, cond, ◌||◌, Option, Some, None, List, [], ◌∷◌, ◌++◌, refl, sym, ap, ◌∙◌, append_assoc, append-nil}
use Rattle.std.specs.List.{find, list_any}
use Rattle.std.specs.Option.{option_or, option_and_then}
use Rattle.std.specs.Prelude.{option_map}
use Rattle.std.specs.Result.{result_ok}
use Rattle.std.proofs.lemmas.List.Folds.{find-append, list_any-append}
use Rattle.vrp_text.specs.Inner.MarkedKeys.{is_marked}
use Rattle.vrp_text.specs.Part.{Part}
use Rattle.vrp_text.specs.Section.{content_of, content_fault, content_numbers, on_line}
use Rattle.vrp_text.specs.Stated.{Stated, bears, is_borne, is_same_key, part_of, keyword_fault, part_fault, parts_fault, stated_by, value_fault}
use Rattle.vrp_text.specs.Inner.StatedSoFar.{fault_of_part, nothing_stated, with_part}
use Rattle.vrp_text.specs.Value.{value_of, problem_type, dimension, capacity, weight_kind, weight_format}
use Rattle.vrp_text.proofs.SectionLemmas.{both_none, on_line_none}
use Rattle.vrp_text.specs.declared.lexer.key.Key.{Key}
use Rattle.vrp_text.specs.declared.lexer.key.Key.TheVariants as key
use Rattle.vrp_text.specs.declared.error.TextError.{TextError}
use Rattle.vrp_text.specs.declared.lexer.fault.FileLineFault.{FileLineFault}
use Rattle.vrp_text.specs.declared.lexer.fault.FileLineFault.TheVariants.{Repeated}
use Rattle.vrp_text.specs.declared.lexer.keyword.Keyword.{Keyword}
use Rattle.vrp_text.specs.declared.lexer.keyword.Keyword.TheVariants as keyword

-- Some parts are read, and these are left.
pub record HasRead (explicit : Bool) (all : List Part) (marks : List Bool) (stated : Stated) (left : List Part) : Type 0 where
  pub done : List Part
  pub fault : parts_fault explicit [] all ≡ parts_fault explicit done left
  pub whole : all ≡ done ++ left
  pub marked : (key : Key) → is_marked marks key ≡ is_borne done key
  pub read : stated ≡ stated_by explicit done

-- before the first part nothing is read
pub none_read : (explicit : Bool) (all : List Part) (marks : List Bool) → ((key : Key) → is_marked marks key ≡ false) → HasRead explicit all marks nothing_stated all
none_read explicit all marks none = record { done = []; fault = refl; whole = refl; marked = none; read = refl }

-- after the last part all is read
pub all_read : (explicit : Bool) (all : List Part) (marks : List Bool) (stated : Stated) (left : List Part) → HasRead explicit all marks stated left → left ≡ []
    → (parts_fault explicit [] all ≡ None) × (stated ≡ stated_by explicit all)
all_read explicit all marks stated left so_far none =
    let same : all ≡ so_far.done = so_far.whole ∙ rw none (append-nil so_far.done) in
    (so_far.fault ∙ rw none refl, so_far.read ∙ ap (stated_by explicit) (sym same))

or_left : (a b : Bool) → (a || b) ≡ false → a ≡ false
or_left true b e = e
or_left false b e = refl

or_right : (a b : Bool) → (a || b) ≡ false → b ≡ false
or_right true b e = absurd cc
or_right false b e = e

or_false : (a : Bool) → (a || false) ≡ a
or_false true = refl
or_false false = refl

untrue : (borne : Bool) (fault : Option FileLineFault) → cond borne (Some Repeated) fault ≡ None → borne ≡ false
untrue true fault e = absurd cc
untrue false fault e = refl

or_none : {X : Type 0} (o : Option X) → option_or o None ≡ o
or_none None = refl
or_none (Some x) = refl

none_found : (test : Part → Bool) (parts : List Part) → list_any test parts ≡ false → find test parts ≡ None
none_found test [] e = refl
none_found test (part ∷ parts) e =
    let here : test part ≡ false = or_left (test part) (list_any test parts) e in
    let later : list_any test parts ≡ false = or_right (test part) (list_any test parts) e in
    rw here (none_found test parts later)

kept : (key : Key) (done : List Part) (part : Part) → bears key part ≡ false → part_of key (done ++ part ∷ []) ≡ part_of key done
kept key done part other = find-append (bears key) done (part ∷ []) ∙ (rw other (or_none (part_of key done)))

new : (key : Key) (done : List Part) (part : Part) → bears key part ≡ true → is_borne done key ≡ false → part_of key (done ++ part ∷ []) ≡ Some part
new key done part same fresh = find-append (bears key) done (part ∷ []) ∙ (rw same (rw (none_found (bears key) done fresh) refl))

-- what is stated where these parts bear the keys
abbrev stated_from : Bool → Option Part → Option Part → Option Part → Option Part → Option Part → Option Part → Option Part → Option Part → Option Part → Stated
stated_from explicit a b c d e f g h i = record {
  problem = option_and_then (λ part. result_ok (problem_type (value_of part.behind))) a;
  nodes = option_and_then (λ part. result_ok (dimension (value_of part.behind))) b;
  capacity = option_and_then (λ part. result_ok (capacity (value_of part.behind))) c;
  kind = option_and_then (λ part. result_ok (weight_kind (value_of part.behind))) d;
  format = option_and_then (λ part. result_ok (weight_format explicit (value_of part.behind))) e;
  coordinates = option_map (λ part. content_numbers (content_of explicit part.keyword) part.data_lines) f;
  weights = option_map (λ part. content_numbers (content_of explicit part.keyword) part.data_lines) g;
  demands = option_map (λ part. content_numbers (content_of explicit part.keyword) part.data_lines) h;
  depots = option_map (λ part. content_numbers (content_of explicit part.keyword) part.data_lines) i;
}

stated_is : (explicit : Bool) (parts : List Part) (a b c d e f g h i : Option Part) → part_of key.Problem parts ≡ a → part_of key.Dimension parts ≡ b → part_of key.Capacity parts ≡ c → part_of key.WeightKind parts ≡ d → part_of key.WeightFormat parts ≡ e → part_of key.NodeCoord parts ≡ f → part_of key.EdgeWeight parts ≡ g → part_of key.Demand parts ≡ h → part_of key.Depot parts ≡ i → stated_by explicit parts ≡ stated_from explicit a b c d e f g h i
stated_is explicit parts a b c d e f g h i ea eb ec ed ee ef eg eh ei = rw ea (rw eb (rw ec (rw ed (rw ee (rw ef (rw eg (rw eh (rw ei (refl)))))))))

-- a part that bears no key states nothing
unchanged : (explicit : Bool) (done : List Part) (part : Part) → ((key : Key) → bears key part ≡ false) → stated_by explicit (done ++ part ∷ []) ≡ stated_by explicit done
unchanged explicit done part none =
    stated_is explicit (done ++ part ∷ []) (part_of key.Problem done) (part_of key.Dimension done) (part_of key.Capacity done) (part_of key.WeightKind done) (part_of key.WeightFormat done) (part_of key.NodeCoord done) (part_of key.EdgeWeight done) (part_of key.Demand done) (part_of key.Depot done)
    (kept key.Problem done part (none key.Problem)) (kept key.Dimension done part (none key.Dimension)) (kept key.Capacity done part (none key.Capacity)) (kept key.WeightKind done part (none key.WeightKind)) (kept key.WeightFormat done part (none key.WeightFormat)) (kept key.NodeCoord done part (none key.NodeCoord)) (kept key.EdgeWeight done part (none key.EdgeWeight)) (kept key.Demand done part (none key.Demand)) (kept key.Depot done part (none key.Depot))

-- a part that bears a key states it
stated_key : (explicit : Bool) (done : List Part) (line : ℕ) (behind : List (List ℕ)) (data_lines : List (List (List ℕ))) (key : Key) → is_borne done key ≡ false
    → stated_by explicit (done ++ record { line = line; keyword = Some (keyword.Key key); behind = behind; data_lines = data_lines } ∷ [])
    ≡ with_part explicit (Some (keyword.Key key)) behind (content_numbers (content_of explicit (Some (keyword.Key key))) data_lines) (stated_by explicit done)
stated_key explicit done line behind data_lines key.Problem fresh =
    let part : Part = record { line = line; keyword = Some (keyword.Key key.Problem); behind = behind; data_lines = data_lines } in
    stated_is explicit (done ++ part ∷ []) (Some part) (part_of key.Dimension done) (part_of key.Capacity done) (part_of key.WeightKind done) (part_of key.WeightFormat done) (part_of key.NodeCoord done) (part_of key.EdgeWeight done) (part_of key.Demand done) (part_of key.Depot done)
    (new key.Problem done part refl fresh) (kept key.Dimension done part refl) (kept key.Capacity done part refl) (kept key.WeightKind done part refl) (kept key.WeightFormat done part refl) (kept key.NodeCoord done part refl) (kept key.EdgeWeight done part refl) (kept key.Demand done part refl) (kept key.Depot done part refl)
stated_key explicit done line behind data_lines key.Dimension fresh =
    let part : Part = record { line = line; keyword = Some (keyword.Key key.Dimension); behind = behind; data_lines = data_lines } in
    stated_is explicit (done ++ part ∷ []) (part_of key.Problem done) (Some part) (part_of key.Capacity done) (part_of key.WeightKind done) (part_of key.WeightFormat done) (part_of key.NodeCoord done) (part_of key.EdgeWeight done) (part_of key.Demand done) (part_of key.Depot done)
    (kept key.Problem done part refl) (new key.Dimension done part refl fresh) (kept key.Capacity done part refl) (kept key.WeightKind done part refl) (kept key.WeightFormat done part refl) (kept key.NodeCoord done part refl) (kept key.EdgeWeight done part refl) (kept key.Demand done part refl) (kept key.Depot done part refl)
stated_key explicit done line behind data_lines key.Capacity fresh =
    let part : Part = record { line = line; keyword = Some (keyword.Key key.Capacity); behind = behind; data_lines = data_lines } in
    stated_is explicit (done ++ part ∷ []) (part_of key.Problem done) (part_of key.Dimension done) (Some part) (part_of key.WeightKind done) (part_of key.WeightFormat done) (part_of key.NodeCoord done) (part_of key.EdgeWeight done) (part_of key.Demand done) (part_of key.Depot done)
    (kept key.Problem done part refl) (kept key.Dimension done part refl) (new key.Capacity done part refl fresh) (kept key.WeightKind done part refl) (kept key.WeightFormat done part refl) (kept key.NodeCoord done part refl) (kept key.EdgeWeight done part refl) (kept key.Demand done part refl) (kept key.Depot done part refl)
stated_key explicit done line behind data_lines key.WeightKind fresh =
    let part : Part = record { line = line; keyword = Some (keyword.Key key.WeightKind); behind = behind; data_lines = data_lines } in
    stated_is explicit (done ++ part ∷ []) (part_of key.Problem done) (part_of key.Dimension done) (part_of key.Capacity done) (Some part) (part_of key.WeightFormat done) (part_of key.NodeCoord done) (part_of key.EdgeWeight done) (part_of key.Demand done) (part_of key.Depot done)
    (kept key.Problem done part refl) (kept key.Dimension done part refl) (kept key.Capacity done part refl) (new key.WeightKind done part refl fresh) (kept key.WeightFormat done part refl) (kept key.NodeCoord done part refl) (kept key.EdgeWeight done part refl) (kept key.Demand done part refl) (kept key.Depot done part refl)
stated_key explicit done line behind data_lines key.WeightFormat fresh =
    let part : Part = record { line = line; keyword = Some (keyword.Key key.WeightFormat); behind = behind; data_lines = data_lines } in
    stated_is explicit (done ++ part ∷ []) (part_of key.Problem done) (part_of key.Dimension done) (part_of key.Capacity done) (part_of key.WeightKind done) (Some part) (part_of key.NodeCoord done) (part_of key.EdgeWeight done) (part_of key.Demand done) (part_of key.Depot done)
    (kept key.Problem done part refl) (kept key.Dimension done part refl) (kept key.Capacity done part refl) (kept key.WeightKind done part refl) (new key.WeightFormat done part refl fresh) (kept key.NodeCoord done part refl) (kept key.EdgeWeight done part refl) (kept key.Demand done part refl) (kept key.Depot done part refl)
stated_key explicit done line behind data_lines key.NodeCoord fresh =
    let part : Part = record { line = line; keyword = Some (keyword.Key key.NodeCoord); behind = behind; data_lines = data_lines } in
    stated_is explicit (done ++ part ∷ []) (part_of key.Problem done) (part_of key.Dimension done) (part_of key.Capacity done) (part_of key.WeightKind done) (part_of key.WeightFormat done) (Some part) (part_of key.EdgeWeight done) (part_of key.Demand done) (part_of key.Depot done)
    (kept key.Problem done part refl) (kept key.Dimension done part refl) (kept key.Capacity done part refl) (kept key.WeightKind done part refl) (kept key.WeightFormat done part refl) (new key.NodeCoord done part refl fresh) (kept key.EdgeWeight done part refl) (kept key.Demand done part refl) (kept key.Depot done part refl)
stated_key explicit done line behind data_lines key.EdgeWeight fresh =
    let part : Part = record { line = line; keyword = Some (keyword.Key key.EdgeWeight); behind = behind; data_lines = data_lines } in
    stated_is explicit (done ++ part ∷ []) (part_of key.Problem done) (part_of key.Dimension done) (part_of key.Capacity done) (part_of key.WeightKind done) (part_of key.WeightFormat done) (part_of key.NodeCoord done) (Some part) (part_of key.Demand done) (part_of key.Depot done)
    (kept key.Problem done part refl) (kept key.Dimension done part refl) (kept key.Capacity done part refl) (kept key.WeightKind done part refl) (kept key.WeightFormat done part refl) (kept key.NodeCoord done part refl) (new key.EdgeWeight done part refl fresh) (kept key.Demand done part refl) (kept key.Depot done part refl)
stated_key explicit done line behind data_lines key.Demand fresh =
    let part : Part = record { line = line; keyword = Some (keyword.Key key.Demand); behind = behind; data_lines = data_lines } in
    stated_is explicit (done ++ part ∷ []) (part_of key.Problem done) (part_of key.Dimension done) (part_of key.Capacity done) (part_of key.WeightKind done) (part_of key.WeightFormat done) (part_of key.NodeCoord done) (part_of key.EdgeWeight done) (Some part) (part_of key.Depot done)
    (kept key.Problem done part refl) (kept key.Dimension done part refl) (kept key.Capacity done part refl) (kept key.WeightKind done part refl) (kept key.WeightFormat done part refl) (kept key.NodeCoord done part refl) (kept key.EdgeWeight done part refl) (new key.Demand done part refl fresh) (kept key.Depot done part refl)
stated_key explicit done line behind data_lines key.Depot fresh =
    let part : Part = record { line = line; keyword = Some (keyword.Key key.Depot); behind = behind; data_lines = data_lines } in
    stated_is explicit (done ++ part ∷ []) (part_of key.Problem done) (part_of key.Dimension done) (part_of key.Capacity done) (part_of key.WeightKind done) (part_of key.WeightFormat done) (part_of key.NodeCoord done) (part_of key.EdgeWeight done) (part_of key.Demand done) (Some part)
    (kept key.Problem done part refl) (kept key.Dimension done part refl) (kept key.Capacity done part refl) (kept key.WeightKind done part refl) (kept key.WeightFormat done part refl) (kept key.NodeCoord done part refl) (kept key.EdgeWeight done part refl) (kept key.Demand done part refl) (new key.Depot done part refl fresh)

key_is_fresh : (explicit : Bool) (borne : Key → Bool) (key : Key) (tokens : List (List ℕ)) → keyword_fault explicit borne (Some (keyword.Key key)) tokens ≡ None → borne key ≡ false
key_is_fresh explicit borne key tokens e = untrue (borne key) (value_fault explicit key tokens) e

stated_more : (explicit : Bool) (done : List Part) (line : ℕ) (word : Option Keyword) (behind : List (List ℕ)) (data_lines : List (List (List ℕ)))
    → keyword_fault explicit (is_borne done) word behind ≡ None
    → stated_by explicit (done ++ record { line = line; keyword = word; behind = behind; data_lines = data_lines } ∷ [])
    ≡ with_part explicit word behind (content_numbers (content_of explicit word) data_lines) (stated_by explicit done)
stated_more explicit done line None behind data_lines e = unchanged explicit done (record { line = line; keyword = None; behind = behind; data_lines = data_lines }) (λ key. refl)
stated_more explicit done line (Some keyword.Remark) behind data_lines e = unchanged explicit done (record { line = line; keyword = Some keyword.Remark; behind = behind; data_lines = data_lines }) (λ key. refl)
stated_more explicit done line (Some keyword.Display) behind data_lines e = unchanged explicit done (record { line = line; keyword = Some keyword.Display; behind = behind; data_lines = data_lines }) (λ key. refl)
stated_more explicit done line (Some keyword.Unsupported) behind data_lines e = unchanged explicit done (record { line = line; keyword = Some keyword.Unsupported; behind = behind; data_lines = data_lines }) (λ key. refl)
stated_more explicit done line (Some keyword.End) behind data_lines e = unchanged explicit done (record { line = line; keyword = Some keyword.End; behind = behind; data_lines = data_lines }) (λ key. refl)
stated_more explicit done line (Some (keyword.Key key)) behind data_lines e =
    stated_key explicit done line behind data_lines key (key_is_fresh explicit (is_borne done) key behind e)

same_fault : (explicit : Bool) (f g : Key → Bool) (word : Option Keyword) (tokens : List (List ℕ)) → ((key : Key) → f key ≡ g key) → keyword_fault explicit f word tokens ≡ keyword_fault explicit g word tokens
same_fault explicit f g None tokens same = refl
same_fault explicit f g (Some keyword.Remark) tokens same = refl
same_fault explicit f g (Some keyword.Display) tokens same = refl
same_fault explicit f g (Some keyword.Unsupported) tokens same = refl
same_fault explicit f g (Some keyword.End) tokens same = refl
same_fault explicit f g (Some (keyword.Key key)) tokens same = rw (same key) refl

-- the fault of a part, whether its keys are marked or the parts before it are known
pub part_fault_is : (explicit : Bool) (all : List Part) (marks : List Bool) (stated : Stated) (left : List Part) (line : ℕ) (word : Option Keyword) (behind : List (List ℕ)) (data_lines : List (List (List ℕ)))
    → (so_far : HasRead explicit all marks stated left)
    → fault_of_part explicit (is_marked marks) line word behind (line + 1) data_lines ≡ part_fault explicit so_far.done (record { line = line; keyword = word; behind = behind; data_lines = data_lines })
part_fault_is explicit all marks stated left line word behind data_lines so_far =
    ap (λ fault. option_or (on_line line fault) (content_fault (content_of explicit word) (line + 1) data_lines)) (same_fault explicit (is_marked marks) (is_borne so_far.done) word behind so_far.marked)

-- one part more is read
pub one_part_more : (explicit : Bool) (all : List Part) (marks : List Bool) (stated : Stated) (left : List Part) (line : ℕ) (word : Option Keyword) (behind : List (List ℕ)) (data_lines : List (List (List ℕ))) (rest : List Part) (new_marks : List Bool) (new_stated : Stated)
    → HasRead explicit all marks stated left → left ≡ record { line = line; keyword = word; behind = behind; data_lines = data_lines } ∷ rest
    → fault_of_part explicit (is_marked marks) line word behind (line + 1) data_lines ≡ None
    → ((key : Key) → is_marked new_marks key ≡ (is_marked marks key || is_same_key key word))
    → new_stated ≡ with_part explicit word behind (content_numbers (content_of explicit word) data_lines) stated
    → HasRead explicit all new_marks new_stated rest
one_part_more explicit all marks stated left line word behind data_lines rest new_marks new_stated so_far is good marked read =
    let part : Part = record { line = line; keyword = word; behind = behind; data_lines = data_lines } in
    let fine : part_fault explicit so_far.done part ≡ None = sym (part_fault_is explicit all marks stated left line word behind data_lines so_far) ∙ good in
    let keyword_fine : keyword_fault explicit (is_borne so_far.done) word behind ≡ None = on_line_none line (keyword_fault explicit (is_borne so_far.done) word behind) (both_none (on_line line (keyword_fault explicit (is_borne so_far.done) word behind)) (content_fault (content_of explicit word) (line + 1) data_lines) fine).0 in
    record {
      done = so_far.done ++ part ∷ [];
      fault = so_far.fault ∙ (rw is (rw fine refl));
      whole = so_far.whole ∙ (rw is (sym (append_assoc so_far.done (part ∷ []) rest)));
      marked = λ key. marked key ∙ (rw (so_far.marked key) (sym (list_any-append (bears key) so_far.done (part ∷ []) ∙ ap (λ b. is_borne so_far.done key || b) (or_false (bears key part)))));
      read = read ∙ (rw so_far.read (sym (stated_more explicit so_far.done line word behind data_lines keyword_fine)));
    }

-- the fault of the part that is read is the first of all
pub part_refused : (explicit : Bool) (all : List Part) (marks : List Bool) (stated : Stated) (left : List Part) (line : ℕ) (word : Option Keyword) (behind : List (List ℕ)) (data_lines : List (List (List ℕ))) (rest : List Part) (error : TextError)
    → HasRead explicit all marks stated left → left ≡ record { line = line; keyword = word; behind = behind; data_lines = data_lines } ∷ rest
    → fault_of_part explicit (is_marked marks) line word behind (line + 1) data_lines ≡ Some error → parts_fault explicit [] all ≡ Some error
part_refused explicit all marks stated left line word behind data_lines rest error so_far is bad =
    so_far.fault ∙ (rw is (rw (sym (part_fault_is explicit all marks stated left line word behind data_lines so_far) ∙ bad) refl))
