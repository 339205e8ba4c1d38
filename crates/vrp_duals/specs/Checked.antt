-- What is known of dual prices that were looked at part by part.
use Rattle.std.specs.Prelude.{◌≡◌, ◌≤◌, ℕ, ℤ, pos, List, length, slice_index_or, unsigned_abs}
use Rattle.std.specs.Int.{bit_at}
use Rattle.std.specs.List.{All}
use Rattle.vrp_model.specs.declared.customers.customer_set.TheConstants.{PLACES}
use Rattle.vrp_model.specs.Problem.{Problem, place_count}
use Rattle.vrp_duals.specs.Duals.{HasRowSize, IsRemembered}
use Rattle.vrp_duals.specs.declared.limits.TheConstants.{MAX_ENTRY_PRICE, MAX_ENTRY_ROWS, MAX_PRICE, MAX_ROW_PRICE, MAX_SCALE, MAX_SUBSET_ROWS}
use Rattle.vrp_duals.specs.declared.rows.EntryRow.{EntryRow}
use Rattle.vrp_duals.specs.declared.rows.SubsetRow.{SubsetRow}

pub record ArePrices (p : Problem) (scale : ℕ) (prices : List ℤ) : Type 0 where
  pub one_each : length prices ≡ place_count p
  pub some_places : 1 ≤ length prices
  pub few_places : length prices ≤ PLACES
  pub some_scale : 1 ≤ scale
  pub small_scale : scale ≤ MAX_SCALE
  pub depot : slice_index_or prices 0 (pos 0) ≡ pos 0
  pub small_prices : All (λ price. unsigned_abs price ≤ MAX_PRICE) prices

pub record AreEntryRows (entries : List EntryRow) : Type 0 where
  pub few_entries : length entries ≤ MAX_ENTRY_ROWS
  pub small_entries : All (λ (row : EntryRow). unsigned_abs row.price ≤ MAX_ENTRY_PRICE) entries
  pub outside : All (λ (row : EntryRow). bit_at row.customers 0 ≡ 0) entries

pub record AreSubsetRows (rows : List SubsetRow) : Type 0 where
  pub few_rows : length rows ≤ MAX_SUBSET_ROWS
  pub small_rows : All (λ (row : SubsetRow). row.price ≤ MAX_ROW_PRICE) rows
  pub sizes : All HasRowSize rows
  pub remembered : All IsRemembered rows
